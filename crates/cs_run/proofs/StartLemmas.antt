-- Images: why reading them stops, and that bytes say one answer.
use Rattle.std.proofs.Common.{◌≡◌, ◌≢◌, ◌∙◌, ℕ, List, Option, None, Some, ap, refl, sym}
use Rattle.std.specs.Prelude.{IsTrue}
use Rattle.cs_images.specs.declared.error.ImageError.{ImageError}
use Rattle.cs_images.specs.declared.error.ImageError.TheVariants as image
use Rattle.cs_images.specs.Said.{HasOtherCount, NamesNoMemory, NoJson, RefusedAt, Says, images_in}
use Rattle.cs_json.specs.declared.document.Place.{Place}
use Rattle.cs_net.specs.declared.images.Images.{Images}
use Rattle.cs_net.specs.Netlist.{Net}
use Rattle.cs_report.specs.declared.fault.Fault.{Fault}
use Rattle.cs_run.specs.declared.status.Status.TheVariants.{NoMemory}
use Rattle.cs_run.specs.declared.stop.Stop.{Stop}
use Rattle.cs_run.specs.Reasons.{StopsAt, StopsFor}
use Rattle.cs_run.specs.Starts.{HasNoImages, SaysNoImages, images_by, images_fault, images_refusal}
use Rattle.cs_run.specs.Statuses.{is_of_files, status_of}
use Rattle.cs_run.proofs.StopLemmas.{stops}

-- ---- stops

-- what the bytes say where reading them errs
pub record SaysOf (contexts : ℕ) (net : Net) (bytes : List ℕ) (error : ImageError) : Type 0 where
  pub not_json : error ≡ image.NotJson → images_in net contexts bytes ≡ NoJson
  pub bad_shape : (at : Place) → error ≡ image.BadShape at → images_in net contexts bytes ≡ RefusedAt at
  pub no_memory_cell : (name : List ℕ) → error ≡ image.NoMemoryCell name → images_in net contexts bytes ≡ NamesNoMemory name
  pub count : (name : List ℕ) (found : ℕ) → error ≡ image.Count name found → images_in net contexts bytes ≡ HasOtherCount name found

images_has : (contexts : ℕ) (net : Net) (bytes : List ℕ) (error : ImageError) → SaysOf contexts net bytes error →
    status_of (images_fault error) ≢ NoMemory →
    SaysNoImages contexts net bytes (images_fault error) × IsTrue (is_of_files (status_of (images_fault error)))
images_has contexts net bytes image.NotJson says other = (ap images_refusal (says.not_json refl), refl)
images_has contexts net bytes (image.BadShape at) says other = (ap images_refusal (says.bad_shape at refl), refl)
images_has contexts net bytes (image.NoMemoryCell name) says other = (ap images_refusal (says.no_memory_cell name refl), refl)
images_has contexts net bytes (image.Count name found) says other = (ap images_refusal (says.count name found refl), refl)
images_has contexts net bytes image.NoMemory says other = absurd (other refl)

pub images_stop : (contexts : ℕ) (net : Net) (bytes : List ℕ) (error : ImageError) (stop : Stop) → SaysOf contexts net bytes error →
    StopsAt (images_fault error) stop → StopsFor (SaysNoImages contexts net bytes) stop
images_stop contexts net bytes error stop says at =
    stops (SaysNoImages contexts net bytes) (images_fault error) stop at (images_has contexts net bytes error says)

-- ---- one answer

pub one_start : (net : Net) (contexts : ℕ) (images : Option (List ℕ)) (a b : Images) → images_by net contexts images ≡ Says a →
    images_by net contexts images ≡ Says b → a ≡ b
one_start net contexts images a b h k = let both : Says a ≡ Says b = sym h ∙ k in cc

-- images that are said are not refused
pub says_starts : (net : Net) (contexts : ℕ) (images : Option (List ℕ)) (a : Images) (fault : Fault) → images_by net contexts images ≡ Says a →
    HasNoImages contexts net images fault → ⊥
says_starts net contexts images a fault says none =
    let both : None ≡ Some fault = sym (ap images_refusal says) ∙ none in absurd (cc)
