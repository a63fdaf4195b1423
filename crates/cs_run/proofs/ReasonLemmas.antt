-- Bytes have one answer, and the reasons to refuse them one status.
use Rattle.std.proofs.Common.{◌≡◌, ◌∙◌, ℕ, List, Option, None, Some, ap, cond, inl, inr, refl, subst, sym}
use Rattle.std.specs.Prelude.{IsTrue}
use Rattle.cs_json.specs.declared.document.Document.{Document}
use Rattle.cs_json.specs.Shape.{Says, document}
use Rattle.cs_conditions.specs.declared.error.NetError.{NetError}
use Rattle.cs_conditions.specs.declared.error.NetError.TheVariants as net
use Rattle.cs_net.specs.Accept.{IsAccepted, Refuses, is_limit}
use Rattle.cs_net.specs.Netlist.{Net}
use Rattle.cs_net.proofs.AcceptLemmas.{accepted_not_refused, one_netlist, one_refusal}
use Rattle.cs_report.specs.declared.fault.Fault.{Fault}
use Rattle.cs_stream.specs.declared.error.StimError.{StimError}
use Rattle.cs_stream.specs.declared.error.StimError.TheVariants as stim
use Rattle.cs_run.specs.declared.status.Status.{Status}
use Rattle.cs_run.specs.declared.status.Status.TheVariants.{Limit, NetlistFault, StimulusFault}
use Rattle.cs_run.specs.Bytes.{IsNetlistOf, SaysNoDocument, SaysNoNetlist, document_fault}
use Rattle.cs_run.specs.Reasons.{HasNoRows, Reason, rows_fault}
use Rattle.cs_run.specs.Statuses.{is_of_files, net_status, status_of}

-- ---- netlists

one_document : (bytes : List ℕ) (doc other : Document) → document bytes ≡ Says doc → document bytes ≡ Says other → doc ≡ other
one_document bytes doc other a b = let same : Says doc ≡ Says other = sym a ∙ b in cc

pub one_net : (bytes : List ℕ) (net other : Net) → IsNetlistOf bytes net → IsNetlistOf bytes other → net ≡ other
one_net bytes net other a b =
    one_netlist a.doc None net other a.accepted
    (subst (λ d. IsAccepted d None other) (one_document bytes b.doc a.doc b.says a.says) b.accepted)

-- bytes that say a document don't say none
says_one : (bytes : List ℕ) (doc : Document) (fault : Fault) → document bytes ≡ Says doc → SaysNoDocument bytes fault → ⊥
says_one bytes doc fault says none = let both : None ≡ Some fault = sym (ap document_fault says) ∙ none in absurd (cc)

-- bytes that say a netlist are not refused
pub sound : (bytes : List ℕ) (net : Net) (fault : Fault) → IsNetlistOf bytes net → SaysNoNetlist bytes fault → ⊥
sound bytes net fault n (inl none) = says_one bytes n.doc fault n.says none
sound bytes net fault n (inr other) =
    accepted_not_refused n.doc None net other.none.error n.accepted
    (subst (λ d. Refuses d None other.none.error) (one_document bytes other.doc n.doc other.says n.says) other.none.refuses)

net_status_is : (error : NetError) → IsTrue (is_of_files (net_status error)) → net_status error ≡ cond (is_limit error) Limit NetlistFault
net_status_is net.NoMemory h = absurd (cc)
net_status_is (net.Limit counted) h = refl
net_status_is error h = refl

-- the status of a reason by its fault
by_fault : (reason : Reason) (fault : Fault) (status : Status) → reason.fault ≡ fault →
    (IsTrue (is_of_files (status_of fault)) → status_of fault ≡ status) → status_of reason.fault ≡ status
by_fault reason fault status is at = ap status_of is ∙ at (subst (λ f. IsTrue (is_of_files (status_of f))) is reason.of_files)

pub netlist_status : (bytes : List ℕ) (a b : Reason) → SaysNoNetlist bytes a.fault → SaysNoNetlist bytes b.fault → status_of a.fault ≡ status_of b.fault
netlist_status bytes a b (inl h) (inl k) =
    let both : Some a.fault ≡ Some b.fault = sym h ∙ k in let same : a.fault ≡ b.fault = cc in ap status_of same
netlist_status bytes a b (inl h) (inr k) = absurd (says_one bytes k.doc a.fault k.says h)
netlist_status bytes a b (inr h) (inl k) = absurd (says_one bytes h.doc b.fault h.says k)
netlist_status bytes a b (inr h) (inr k) =
    let other : Refuses h.doc None k.none.error = subst (λ d. Refuses d None k.none.error) (one_document bytes k.doc h.doc k.says h.says) k.none.refuses in
    by_fault a _ _ h.none.is (net_status_is h.none.error)
    ∙ ap (λ t. cond t Limit NetlistFault) (one_refusal h.doc None h.none.error k.none.error h.none.refuses other)
    ∙ sym (by_fault b _ _ k.none.is (net_status_is k.none.error))

-- ---- rows

pub has_rows : (found : Option StimError) (fault : Fault) → found ≡ None → HasNoRows found fault → ⊥
has_rows found fault none h = let other : None ≡ Some h.error = sym none ∙ h.has in absurd (cc)

rows_status_is : (error : StimError) → IsTrue (is_of_files (status_of (rows_fault error))) → status_of (rows_fault error) ≡ StimulusFault
rows_status_is stim.NoMemory h = absurd (cc)
rows_status_is (stim.Width line) h = refl
rows_status_is (stim.Character line column) h = refl
rows_status_is (stim.Uneven stream) h = refl

pub rows_status : (found : Option StimError) (reason : Reason) → HasNoRows found reason.fault → status_of reason.fault ≡ StimulusFault
rows_status found reason h = by_fault reason _ _ h.is (rows_status_is h.error)
