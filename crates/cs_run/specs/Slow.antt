-- `slow`: what it makes of IN and IMAGES, and what stands afterwards.
use Rattle.std.specs.Prelude.{ℕ, ◌≡◌, ◌⊎◌, List, [], ◌∷◌, Option, Result, Some, None}
use Rattle.cs_base.specs.declared.limit.LimitFault.{LimitFault}
use Rattle.cs_images.specs.Said.{Says}
use Rattle.cs_interleave.specs.InterleaveFaults.{interleave_fault}
use Rattle.cs_io.specs.Stores.{Files, FailsToWrite}
use Rattle.cs_isolate.specs.Isolating.{HasIsolating, IsSlowed}
use Rattle.cs_json.specs.declared.document.Document.{Document}
use Rattle.cs_json.specs.Printed.{printed}
use Rattle.cs_json.specs.Shape.{Says as SaysDocument, document}
use Rattle.cs_net.specs.declared.images.Images.{Images}
use Rattle.cs_net.specs.Isolates.{Isolates}
use Rattle.cs_net.specs.Netlist.{Net}
use Rattle.cs_report.specs.declared.fault.Fault.{Fault}
use Rattle.cs_report.specs.declared.fault.Fault.TheVariants.{Limit}
use Rattle.cs_words.specs.declared.command.SlowWords.{SlowWords}
use Rattle.cs_run.specs.declared.inputs.FileName.{FileName}
use Rattle.cs_run.specs.declared.inputs.Role.TheVariants.{Images as ImagesRole, In}
use Rattle.cs_run.specs.declared.reply.Reply.{Reply}
use Rattle.cs_run.specs.declared.stop.Stop.{Stop}
use Rattle.cs_run.specs.Bytes.{IsNetOf, IsNetlistOf, SaysNoNetlist}
use Rattle.cs_run.specs.Inputs.{file}
use Rattle.cs_run.specs.Reasons.{Answers}
use Rattle.cs_run.specs.Replies.{writing}
use Rattle.cs_run.specs.Starts.{HasNoImages, HoldsBytes, images_by}
use Rattle.cs_run.specs.Worlds.{Holds, World, WritesOne}

-- ---- bytes

-- what is written for a netlist in so many contexts, whose memories start with these images
pub record IsBuiltFor (contexts : ℕ) (net : Net) (starts : Images) (written : List ℕ) : Type 0 where
  pub within : interleave_fault net starts contexts ≡ None
  pub doc : Document
  pub slowed : IsSlowed net starts contexts doc
  pub is : written ≡ printed doc

-- the bytes of OUT for so many contexts, the bytes of IN, and those of IMAGES where it is named
pub record IsBuilt (contexts : ℕ) (input : List ℕ) (images : Option (List ℕ)) (written : List ℕ) : Type 0 where
  pub net : Net
  pub of_read : IsNetlistOf input net
  pub starts : Images
  pub says : images_by net contexts images ≡ Says starts
  pub built : IsBuiltFor contexts net starts written

-- the netlists of the bytes that are read and of those that are written exist, and the latter isolates the former in c
-- contexts, whose memories start with these images
pub record BytesIsolate (c : ℕ) (read : List ℕ) (images : Option (List ℕ)) (written : List ℕ) : Type 0 where
  pub net : Net
  pub of_read : IsNetOf read net
  pub starts : Images
  pub says : images_by net c images ≡ Says starts
  pub written_net : Net
  pub of_written : IsNetOf written written_net
  pub isolates : Isolates written_net net starts c

-- what is built isolates what is read
abbrev pub BuildsIsolate : ℕ → List ℕ → Option (List ℕ) → Type 0
BuildsIsolate contexts input images =
    (netlist : List ℕ) → IsBuilt contexts input images netlist → BytesIsolate contexts input images netlist

-- for a netlist with these images OUT is written
pub record WritesSlowed (words : SlowWords) (net : Net) (starts : Images) (reply : Reply) : Type 0 where
  pub netlist : List ℕ
  pub built : IsBuiltFor words.contexts net starts netlist
  pub isolates : HasIsolating net starts words.contexts built.doc
  pub read_again : document netlist ≡ SaysDocument built.doc
  pub is : reply ≡ writing words.output netlist []

-- for a netlist with the images that IMAGES says, where it is named
pub record AnswersNet (words : SlowWords) (net : Net) (images : Option (List ℕ)) (reply : Reply) : Type 0 where
  pub starts : Images
  pub says : images_by net words.contexts images ≡ Says starts
  pub writes : WritesSlowed words net starts reply

-- OUT is written, and nothing is put
pub record MakesSlow (words : SlowWords) (input : List ℕ) (images : Option (List ℕ)) (reply : Reply) : Type 0 where
  pub netlist : List ℕ
  pub built : IsBuilt words.contexts input images netlist
  pub is : reply ≡ writing words.output netlist []

-- ---- refusals

-- the machine of a netlist for so many contexts would be too large
pub record ExceedsLimit (contexts : ℕ) (net : Net) (starts : Images) (fault : Fault) : Type 0 where
  pub limit : LimitFault
  pub exceeds : interleave_fault net starts contexts ≡ Some limit
  pub is : fault ≡ Limit limit

-- so it is with the images that IMAGES says, where it is named
pub record IsTooLarge (contexts : ℕ) (net : Net) (images : Option (List ℕ)) (fault : Fault) : Type 0 where
  pub starts : Images
  pub says : images_by net contexts images ≡ Says starts
  pub exceeds : ExceedsLimit contexts net starts fault

-- a netlist is refused because it has no images, or would be too large
abbrev pub RefusesNet : ℕ → Net → Option (List ℕ) → Fault → Type 0
RefusesNet contexts net images fault = HasNoImages contexts net images fault ⊎ IsTooLarge contexts net images fault

-- the netlist of IN is
pub record RefusesRead (contexts : ℕ) (input : List ℕ) (images : Option (List ℕ)) (fault : Fault) : Type 0 where
  pub net : Net
  pub of_read : IsNetlistOf input net
  pub refuses : RefusesNet contexts net images fault

-- IN and IMAGES are refused because of this fault
abbrev pub RefusesSlow : ℕ → List ℕ → Option (List ℕ) → Fault → Type 0
RefusesSlow contexts input images fault = SaysNoNetlist input fault ⊎ RefusesRead contexts input images fault

abbrev pub AnswersSlow : SlowWords → List ℕ → Option (List ℕ) → Result Reply Stop → Type 0
AnswersSlow words input images =
    Answers (λ reply. MakesSlow words input images reply × BuildsIsolate words.contexts input images)
    (RefusesSlow words.contexts input images)

-- ---- files

-- the file of the images, where it is named
abbrev pub images_reads : Option (List ℕ) → List FileName
images_reads None = []
images_reads (Some name) = file ImagesRole name ∷ []

abbrev pub slow_reads : SlowWords → List FileName
slow_reads words = file In words.input ∷ images_reads words.images

-- ---- what stands afterwards

-- `slow` read IN and perhaps IMAGES, and goes on to write this netlist
pub record Builds (files : Option Files) (slow : SlowWords) (netlist : List ℕ) : Type 0 where
  pub bytes : List ℕ
  pub images : Option (List ℕ)
  pub input : Holds files slow.input bytes
  pub images_file : HoldsBytes files slow.images images
  pub built : IsBuilt slow.contexts bytes images netlist
  pub isolates : BytesIsolate slow.contexts bytes images netlist

-- status 0: OUT holds the netlist, every other file is as before, and nothing was put
pub record HasWritten (slow : SlowWords) (old new : World) : Type 0 where
  pub netlist : List ℕ
  pub builds : Builds old.store.files slow netlist
  pub writes : WritesOne old new slow.output netlist

-- status 4: the write of OUT failed, so its count rose and OUT is as before or holds a prefix; nothing was put
pub record CouldNotWriteOut (slow : SlowWords) (old new : World) : Type 0 where
  pub netlist : List ℕ
  pub builds : Builds old.store.files slow netlist
  pub store : FailsToWrite old.store new.store slow.output netlist
  pub sink : new.sink ≡ old.sink
