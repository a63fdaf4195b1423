-- From what calls err with to stops.
use Rattle.std.proofs.Common.{◌≡◌, ◌≢◌, ◌⊎◌, ℕ, List, Option, None, Some, ap, inl, inr, refl, subst, sym}
use Rattle.std.specs.Prelude.{Err, IfErr, IfOk, IsErrAnd, IsTrue, Ok, Result}
use Rattle.cs_json.specs.declared.error.DocError.{DocError}
use Rattle.cs_json.specs.declared.error.DocError.TheVariants as json
use Rattle.cs_json.specs.declared.document.Document.{Document}
use Rattle.cs_json.specs.declared.document.Place.{Place}
use Rattle.cs_json.specs.Shape.{NoJson, RefusedAt, document}
use Rattle.cs_interleave.specs.declared.error.InterleaveError.{InterleaveError}
use Rattle.cs_interleave.specs.declared.error.InterleaveError.TheVariants as interleave
use Rattle.cs_interleave.specs.InterleaveFaults.{TellsInterleaveFault, interleave_fault}
use Rattle.cs_conditions.specs.declared.error.NetError.{NetError}
use Rattle.cs_conditions.specs.declared.error.NetError.TheVariants as net
use Rattle.cs_net.specs.declared.images.Images.{Images}
use Rattle.cs_net.specs.Accept.{Refuses}
use Rattle.cs_net.specs.Netlist.{Net}
use Rattle.cs_report.specs.declared.fault.Fault.{Fault}
use Rattle.cs_report.specs.declared.fault.Fault.TheVariants as fault
use Rattle.cs_stream.specs.declared.error.StimError.{StimError}
use Rattle.cs_stream.specs.declared.error.StimError.TheVariants as stim
use Rattle.cs_run.specs.declared.reply.Reply.{Reply}
use Rattle.cs_run.specs.declared.status.Status.TheVariants.{NoMemory}
use Rattle.cs_run.specs.declared.stop.Stop.{Stop}
use Rattle.cs_run.specs.declared.stop.Stop.TheVariants.{OutOfMemory, Refused}
use Rattle.cs_run.specs.Bytes.{HasNoNetlist, SaysNoDocument, doc_fault, document_fault}
use Rattle.cs_run.specs.Reasons.{Answers, HasNoRows, StopsAt, StopsFor, machine_fault, rows_fault}
use Rattle.cs_run.specs.Slow.{ExceedsLimit}
use Rattle.cs_run.specs.Statuses.{is_of_files, net_status, status_of}

-- ---- all stops

-- a fault that is a reason, where it isn't want of memory
pub stops : (P : Fault → Type 0) (fault : Fault) (stop : Stop) → StopsAt fault stop →
    (status_of fault ≢ NoMemory → P fault × IsTrue (is_of_files (status_of fault))) → StopsFor P stop
stops P fault OutOfMemory at has = tt
stops P fault (Refused refusal) at has =
    let here = has at.0 in record { reason = record { fault = fault; of_files = here.1 }; holds = here.0; is = at.1 }

-- a reason of which P holds is one of which Q holds
pub implies : (P Q : Fault → Type 0) (stop : Stop) → ((fault : Fault) → P fault → Q fault) → StopsFor P stop → StopsFor Q stop
implies P Q OutOfMemory more at = tt
implies P Q (Refused refusal) more at =
    record { reason = at.reason; holds = more at.reason.fault at.holds; is = at.is }

-- what is answered rightly by the one meaning is so by another that follows from it
pub answers_implies : (IsRight IsAlsoRight : Reply → Type 0) (P Q : Fault → Type 0) (result : Result Reply Stop) →
    ((reply : Reply) → IsRight reply → IsAlsoRight reply) → ((fault : Fault) → P fault → Q fault) → Answers IsRight P result →
    Answers IsAlsoRight Q result
answers_implies IsRight IsAlsoRight P Q (Ok reply) right more answers = right reply answers
answers_implies IsRight IsAlsoRight P Q (Err stop) right more answers = implies P Q stop more answers

-- where a call hands a stop on, what it answers is as the stop is
pub handed_on : (IsRight : Reply → Type 0) (P : Fault → Type 0) (stop : Stop) (result : Result Reply Stop) → IsErrAnd result (λ e. e ≡ stop) →
    StopsFor P stop → Answers IsRight P result
handed_on IsRight P stop (Ok reply) is at = absurd is
handed_on IsRight P stop (Err other) is at = subst (λ e. StopsFor P e) (sym is) at

pub if_handed_on : {T : Type 0} (P : Fault → Type 0) (stop : Stop) (result : Result T Stop) → IsErrAnd result (λ e. e ≡ stop) → StopsFor P stop →
    IfErr result (StopsFor P)
if_handed_on P stop (Ok found) is at = tt
if_handed_on P stop (Err other) is at = subst (λ e. StopsFor P e) (sym is) at

pub if_implies : {T : Type 0} (P Q : Fault → Type 0) (result : Result T Stop) → ((fault : Fault) → P fault → Q fault) → IfErr result (StopsFor P) →
    IfErr result (StopsFor Q)
if_implies P Q (Ok found) more at = tt
if_implies P Q (Err stop) more at = implies P Q stop more at

-- a call that gives this reply, where it gives one, meets what the reply meets
pub if_reply : {E : Type 0} (IsRight : Reply → Type 0) (result : Result Reply E) (reply : Reply) → IsRight reply →
    IfOk result (λ r. r ≡ reply) → IfOk result IsRight
if_reply IsRight (Err e) reply right is = tt
if_reply IsRight (Ok r) reply right is = subst IsRight (sym is) right

-- ---- documents and netlists

doc_has : (bytes : List ℕ) (error : DocError) → (error ≡ json.NotJson → document bytes ≡ NoJson) →
    ((at : Place) → error ≡ json.BadShape at → document bytes ≡ RefusedAt at) → status_of (doc_fault error) ≢ NoMemory →
    SaysNoDocument bytes (doc_fault error) × IsTrue (is_of_files (status_of (doc_fault error)))
doc_has bytes json.NotJson not_json bad_shape other = (ap document_fault (not_json refl), refl)
doc_has bytes (json.BadShape at) not_json bad_shape other = (ap document_fault (bad_shape at refl), refl)
doc_has bytes json.NoMemory not_json bad_shape other = absurd (other refl)

pub doc_stop : (bytes : List ℕ) (error : DocError) (stop : Stop) → (error ≡ json.NotJson → document bytes ≡ NoJson) →
    ((at : Place) → error ≡ json.BadShape at → document bytes ≡ RefusedAt at) → StopsAt (doc_fault error) stop →
    StopsFor (SaysNoDocument bytes) stop
doc_stop bytes error stop not_json bad_shape at =
    stops (SaysNoDocument bytes) (doc_fault error) stop at (doc_has bytes error not_json bad_shape)

net_of_files : (error : NetError) → net_status error ≢ NoMemory → IsTrue (is_of_files (net_status error))
net_of_files net.NoMemory other = absurd (other refl)
net_of_files (net.Limit counted) other = refl
net_of_files error other = refl

net_has : (doc : Document) (error : NetError) → (error ≡ net.NoMemory) ⊎ Refuses doc None error → net_status error ≢ NoMemory →
    HasNoNetlist doc (fault.Refused error) × IsTrue (is_of_files (net_status error))
net_has doc error (inl memory) other = absurd (other (ap net_status memory))
net_has doc error (inr refuses) other = (record { error = error; refuses = refuses; is = refl }, net_of_files error other)

pub net_stop : (doc : Document) (error : NetError) (stop : Stop) → (error ≡ net.NoMemory) ⊎ Refuses doc None error →
    StopsAt (fault.Refused error) stop → StopsFor (HasNoNetlist doc) stop
net_stop doc error stop has at = stops (HasNoNetlist doc) (fault.Refused error) stop at (net_has doc error has)

-- ---- rows

rows_of_files : (error : StimError) → status_of (rows_fault error) ≢ NoMemory → IsTrue (is_of_files (status_of (rows_fault error)))
rows_of_files stim.NoMemory other = absurd (other refl)
rows_of_files (stim.Width line) other = refl
rows_of_files (stim.Character line column) other = refl
rows_of_files (stim.Uneven stream) other = refl

rows_has : (found : Option StimError) (error : StimError) → (error ≡ stim.NoMemory) ⊎ (found ≡ Some error) →
    status_of (rows_fault error) ≢ NoMemory → HasNoRows found (rows_fault error) × IsTrue (is_of_files (status_of (rows_fault error)))
rows_has found error (inl memory) other = absurd (other (ap (λ e. status_of (rows_fault e)) memory))
rows_has found error (inr has) other = (record { error = error; has = has; is = refl }, rows_of_files error other)

pub rows_stop : (found : Option StimError) (error : StimError) (stop : Stop) → (error ≡ stim.NoMemory) ⊎ (found ≡ Some error) →
    StopsAt (rows_fault error) stop → StopsFor (HasNoRows found) stop
rows_stop found error stop has at = stops (HasNoRows found) (rows_fault error) stop at (rows_has found error has)

-- ---- machines that would be too large

machine_has : (contexts : ℕ) (net : Net) (starts : Images) (error : InterleaveError) → TellsInterleaveFault (interleave_fault net starts contexts) error →
    status_of (machine_fault error) ≢ NoMemory →
    ExceedsLimit contexts net starts (machine_fault error) × IsTrue (is_of_files (status_of (machine_fault error)))
machine_has contexts net starts (interleave.Limit limit) tells other = (record { limit = limit; exceeds = tells; is = refl }, refl)
machine_has contexts net starts interleave.NoMemory tells other = absurd (other refl)

pub machine_stop : (contexts : ℕ) (net : Net) (starts : Images) (error : InterleaveError) (stop : Stop) →
    TellsInterleaveFault (interleave_fault net starts contexts) error → StopsAt (machine_fault error) stop → StopsFor (ExceedsLimit contexts net starts) stop
machine_stop contexts net starts error stop tells at =
    stops (ExceedsLimit contexts net starts) (machine_fault error) stop at (machine_has contexts net starts error tells)

-- a reply that is this one is right where this one is
pub right_reply : (IsRight : Reply → Type 0) (reply made : Reply) → reply ≡ made → IsRight made → IsRight reply
right_reply IsRight reply made is right = subst IsRight (sym is) right
