-- `upgrade`: why it stops, one answer, and what stands afterwards.
use Rattle.std.proofs.Common.{◌≡◌, ◌≢◌, ◌⊎◌, ◌∙◌, ℕ, List, [], ◌∷◌, None, Some, ap, arith, inl, inr, refl, subst, sym}
use Rattle.std.specs.Prelude.{IsTrue}
use Rattle.cs_cert.specs.declared.error.CertError.{CertError}
use Rattle.cs_cert.specs.declared.error.CertError.TheVariants as cert
use Rattle.cs_cert.specs.declared.paper.Paper.{Paper}
use Rattle.cs_cert.specs.PaperShape.{NoJson, RefusedAt, Says, paper_of}
use Rattle.cs_cert.specs.Papers.{printed}
use Rattle.cs_json.specs.declared.document.Place.{Place}
use Rattle.cs_io.specs.Stores.{StoreState}
use Rattle.cs_report.specs.declared.fault.Fault.{Fault}
use Rattle.cs_report.specs.declared.fault.Fault.TheVariants.{CannotWrite}
use Rattle.cs_report.specs.FaultLines.{fault_line}
use Rattle.cs_words.specs.declared.command.Command.TheVariants.{Upgrade}
use Rattle.cs_words.specs.declared.command.UpgradeWords.{UpgradeWords}
use Rattle.cs_run.specs.declared.inputs.Role.TheVariants.{Paper as PaperRole}
use Rattle.cs_run.specs.declared.reply.Reply.{Reply}
use Rattle.cs_run.specs.declared.status.Status.TheVariants.{NoMemory}
use Rattle.cs_run.specs.declared.stop.Stop.{Stop}
use Rattle.cs_run.specs.Inputs.{bytes_of}
use Rattle.cs_run.specs.Promises.{HasOld}
use Rattle.cs_run.specs.Reasons.{Reason, StopsAt, StopsFor}
use Rattle.cs_run.specs.Runs.{HasAnswer, Run}
use Rattle.cs_run.specs.Statuses.{is_of_files, status_of}
use Rattle.cs_run.specs.Upgrade.{CouldNotWriteNew, HasUpgraded, IsUpgraded, MakesUpgrade, RefusesUpgrade, SaysNoPaper, Upgrades, cert_fault, paper_fault, upgrade_reads}
use Rattle.cs_run.specs.Worlds.{World, file_in}
use Rattle.cs_run.proofs.Ends.{Finished, Unfinished}
use Rattle.cs_run.proofs.InputLemmas.{at_role}
use Rattle.cs_run.proofs.StopLemmas.{stops}
use Rattle.cs_run.proofs.WorldLemmas.{AreNamed, has_at, told_file, unwritten_one, wrote_one}

-- ---- stops

-- bytes that can't be read say no paper, but for want of memory
pub unread : (bytes : List ℕ) (error : CertError) → (error ≡ cert.NotJson → paper_of bytes ≡ NoJson) →
    ((at : Place) → error ≡ cert.BadShape at → paper_of bytes ≡ RefusedAt at) →
    (error ≡ cert.NoMemory) ⊎ SaysNoPaper bytes (cert_fault error)
unread bytes cert.NotJson not_json bad_shape = inr (ap paper_fault (not_json refl))
unread bytes (cert.BadShape at) not_json bad_shape = inr (ap paper_fault (bad_shape at refl))
unread bytes cert.NoMemory not_json bad_shape = inl refl

cert_of_files : (error : CertError) → status_of (cert_fault error) ≢ NoMemory → IsTrue (is_of_files (status_of (cert_fault error)))
cert_of_files cert.NotJson other = refl
cert_of_files (cert.BadShape at) other = refl
cert_of_files cert.NoMemory other = absurd (other refl)

paper_has : (bytes : List ℕ) (error : CertError) → (error ≡ cert.NoMemory) ⊎ SaysNoPaper bytes (cert_fault error) →
    status_of (cert_fault error) ≢ NoMemory → SaysNoPaper bytes (cert_fault error) × IsTrue (is_of_files (status_of (cert_fault error)))
paper_has bytes error (inl memory) other = absurd (other (ap (λ e. status_of (cert_fault e)) memory))
paper_has bytes error (inr says) other = (says, cert_of_files error other)

pub paper_stop : (bytes : List ℕ) (error : CertError) (stop : Stop) → (error ≡ cert.NoMemory) ⊎ SaysNoPaper bytes (cert_fault error) →
    StopsAt (cert_fault error) stop → StopsFor (SaysNoPaper bytes) stop
paper_stop bytes error stop says at = stops (SaysNoPaper bytes) (cert_fault error) stop at (paper_has bytes error says)

-- ---- one answer

-- the text that is made is that of the one paper that the bytes say
pub one_text : (bytes text : List ℕ) (paper : Paper) → IsUpgraded bytes text → paper_of bytes ≡ Says paper → text ≡ printed paper
one_text bytes text paper upgraded says =
    let both : Says upgraded.paper ≡ Says paper = sym upgraded.says ∙ says in
    let same : upgraded.paper ≡ paper = cc in upgraded.is ∙ ap printed same

pub upgrade_apart : (words : UpgradeWords) (bytes : List ℕ) (reply : Reply) (fault : Fault) → MakesUpgrade words bytes reply → RefusesUpgrade bytes fault → ⊥
upgrade_apart words bytes reply fault makes refuses =
    let both : None ≡ Some fault = sym (ap paper_fault makes.upgraded.says) ∙ refuses in absurd (cc)

pub upgrade_status : (bytes : List ℕ) (a b : Reason) → RefusesUpgrade bytes a.fault → RefusesUpgrade bytes b.fault →
    status_of a.fault ≡ status_of b.fault
upgrade_status bytes a b h k =
    let both : Some a.fault ≡ Some b.fault = sym h ∙ k in let same : a.fault ≡ b.fault = cc in ap status_of same

pub upgrade_names : (words : UpgradeWords) (bytes : List ℕ) (reply : Reply) → MakesUpgrade words bytes reply → AreNamed (words.new ∷ []) reply.writes
upgrade_names words bytes reply makes =
    subst (λ (r : Reply). AreNamed (words.new ∷ []) r.writes) (sym makes.is) ((0, omega arith, refl), tt)

-- ---- what stands afterwards

upgrades : (upgrade : UpgradeWords) (old : World) (reply : Reply) (answer : HasAnswer (Upgrade upgrade) old.store reply) →
    Upgrades old.store.files upgrade answer.holds.0.text
upgrades upgrade old reply answer = record {
  bytes = bytes_of PaperRole answer.inputs;
  file = at_role old.store.files (upgrade_reads upgrade) answer.inputs PaperRole upgrade.old answer.have refl;
  upgraded = answer.holds.0.upgraded;
  alike = answer.holds.1 answer.holds.0.text answer.holds.0.upgraded;
}

pub upgrade_done : (upgrade : UpgradeWords) (old new : World) → Finished (Upgrade upgrade) old new → HasUpgraded upgrade old new
upgrade_done upgrade old new f =
    let makes = f.answer.holds.0 in
    let left = wrote_one old new f.reply upgrade.new makes.text (fault_line (CannotWrite upgrade.new)) makes.is f.store f.sink in
    record { text = makes.text; upgrades = upgrades upgrade old f.reply f.answer; writes = record { store = left.0; sink = left.1 } }

pub upgrade_unwritten : (upgrade : UpgradeWords) (old new : World) → Unfinished (Upgrade upgrade) old new → CouldNotWriteNew upgrade old new
upgrade_unwritten upgrade old new f =
    let makes = f.answer.holds.0 in
    let left = unwritten_one old new f.reply upgrade.new makes.text (fault_line (CannotWrite upgrade.new)) makes.is f.stops in
    record { text = makes.text; upgrades = upgrades upgrade old f.reply f.answer; store = left.0; sink = left.1 }

-- ---- what NEW holds

-- the bytes that `upgrade` read are those that the store tells
same_bytes : (run : Run) (upgrade : UpgradeWords) (bytes text : List ℕ) → HasOld run upgrade bytes →
    (made : Upgrades run.old.store.files upgrade text) → made.bytes ≡ bytes
same_bytes run upgrade bytes text has made =
    sym (has_at run.old.store.files upgrade.old bytes (λ found. found ≡ made.bytes) has.file made.file)

-- NEW holds the text that was made
holds_text : (run : Run) (upgrade : UpgradeWords) (bytes : List ℕ) → HasOld run upgrade bytes → (did : HasUpgraded upgrade run.old run.new) →
    file_in run.new.store.files upgrade.new ≡ Some (Some did.text)
holds_text run upgrade bytes has did =
    ap (λ (s : StoreState). file_in s.files upgrade.new) did.writes.store
    ∙ told_file run.old.store.files upgrade.new upgrade.old bytes did.text has.file

pub upgrade_prints : (run : Run) (upgrade : UpgradeWords) (bytes : List ℕ) (paper : Paper) → HasOld run upgrade bytes →
    HasUpgraded upgrade run.old run.new → paper_of bytes ≡ Says paper → file_in run.new.store.files upgrade.new ≡ Some (Some (printed paper))
upgrade_prints run upgrade bytes paper has did says =
    let made : IsUpgraded bytes did.text = subst (λ b. IsUpgraded b did.text) (same_bytes run upgrade bytes did.text has did.upgrades) did.upgrades.upgraded in
    holds_text run upgrade bytes has did ∙ ap (λ t. Some (Some t)) (one_text bytes did.text paper made says)

pub upgrade_reads_back : (run : Run) (upgrade : UpgradeWords) (bytes text : List ℕ) → HasOld run upgrade bytes →
    HasUpgraded upgrade run.old run.new → file_in run.new.store.files upgrade.new ≡ Some (Some text) → paper_of text ≡ paper_of bytes
upgrade_reads_back run upgrade bytes text has did holds =
    let there : Some (Some did.text) ≡ Some (Some text) = sym (holds_text run upgrade bytes has did) ∙ holds in
    let one : did.text ≡ text = cc in
    sym (ap paper_of one) ∙ did.upgrades.alike ∙ ap paper_of (same_bytes run upgrade bytes did.text has did.upgrades)
