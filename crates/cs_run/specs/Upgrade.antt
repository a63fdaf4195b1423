-- `upgrade`: what it makes of OLD, and what stands afterwards.
use Rattle.std.specs.Prelude.{ℕ, ◌≡◌, List, [], ◌∷◌, Option, Result, Some, None}
use Rattle.cs_cert.specs.declared.error.CertError.{CertError}
use Rattle.cs_cert.specs.declared.error.CertError.TheVariants as cert
use Rattle.cs_cert.specs.declared.paper.Paper.{Paper}
use Rattle.cs_cert.specs.PaperShape.{NoJson, Reading, RefusedAt, Says, paper_of}
use Rattle.cs_cert.specs.Papers.{printed}
use Rattle.cs_io.specs.Stores.{Files, FailsToWrite}
use Rattle.cs_report.specs.declared.fault.Fault.{Fault}
use Rattle.cs_report.specs.declared.fault.Fault.TheVariants.{CannotWrite, CertificateNotJson, CertificateShape, NoMemory}
use Rattle.cs_report.specs.FaultLines.{fault_line}
use Rattle.cs_words.specs.declared.command.UpgradeWords.{UpgradeWords}
use Rattle.cs_run.specs.declared.inputs.FileName.{FileName}
use Rattle.cs_run.specs.declared.inputs.Role.TheVariants.{Paper as PaperRole}
use Rattle.cs_run.specs.declared.reply.Reply.{Reply}
use Rattle.cs_run.specs.declared.stop.Stop.{Stop}
use Rattle.cs_run.specs.Inputs.{file}
use Rattle.cs_run.specs.Reasons.{Answers}
use Rattle.cs_run.specs.Replies.{writing}
use Rattle.cs_run.specs.Worlds.{Holds, PutsSome, World, WritesOne}

-- ---- bytes

-- why bytes say no paper, if they say none
abbrev pub paper_fault : Reading → Option Fault
paper_fault NoJson = Some CertificateNotJson
paper_fault (RefusedAt place) = Some (CertificateShape place)
paper_fault (Says paper) = None

-- the fault of a paper that can't be read
abbrev pub cert_fault : CertError → Fault
cert_fault cert.NotJson = CertificateNotJson
cert_fault (cert.BadShape place) = CertificateShape place
cert_fault cert.NoMemory = NoMemory

-- bytes say no paper, because of this fault
abbrev pub SaysNoPaper : List ℕ → Fault → Type 0
SaysNoPaper bytes fault = paper_fault (paper_of bytes) ≡ Some fault

-- the text of the paper that bytes say
pub record IsUpgraded (bytes text : List ℕ) : Type 0 where
  pub paper : Paper
  pub says : paper_of bytes ≡ Says paper
  pub is : text ≡ printed paper

-- the text of the paper that bytes say, says that paper too
abbrev pub UpgradesAlike : List ℕ → Type 0
UpgradesAlike bytes = (text : List ℕ) → IsUpgraded bytes text → paper_of text ≡ paper_of bytes

-- NEW is written, or the line names it
pub record MakesUpgrade (words : UpgradeWords) (bytes : List ℕ) (reply : Reply) : Type 0 where
  pub text : List ℕ
  pub upgraded : IsUpgraded bytes text
  pub is : reply ≡ writing words.new text (fault_line (CannotWrite words.new))

-- OLD is refused because of this fault
abbrev pub RefusesUpgrade : List ℕ → Fault → Type 0
RefusesUpgrade bytes fault = SaysNoPaper bytes fault

abbrev pub AnswersUpgrade : UpgradeWords → List ℕ → Result Reply Stop → Type 0
AnswersUpgrade words bytes = Answers (λ reply. MakesUpgrade words bytes reply × UpgradesAlike bytes) (RefusesUpgrade bytes)

-- ---- files

abbrev pub upgrade_reads : UpgradeWords → List FileName
upgrade_reads words = file PaperRole words.old ∷ []

-- ---- what stands afterwards

-- `upgrade` read OLD, and goes on to write this text
pub record Upgrades (files : Option Files) (upgrade : UpgradeWords) (text : List ℕ) : Type 0 where
  pub bytes : List ℕ
  pub file : Holds files upgrade.old bytes
  pub upgraded : IsUpgraded bytes text
  pub alike : paper_of text ≡ paper_of bytes

-- status 0: NEW holds the text of OLD's paper, every other file is as before, and nothing was put
pub record HasUpgraded (upgrade : UpgradeWords) (old new : World) : Type 0 where
  pub text : List ℕ
  pub upgrades : Upgrades old.store.files upgrade text
  pub writes : WritesOne old new upgrade.new text

-- status 4: the write of NEW failed, so its count rose and NEW is as before or holds a prefix; the line names it
pub record CouldNotWriteNew (upgrade : UpgradeWords) (old new : World) : Type 0 where
  pub text : List ℕ
  pub upgrades : Upgrades old.store.files upgrade text
  pub store : FailsToWrite old.store new.store upgrade.new text
  pub sink : PutsSome old.sink new.sink (fault_line (CannotWrite upgrade.new))
