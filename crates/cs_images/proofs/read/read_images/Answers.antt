-- What is read are images of the netlist.
use Rattle.std.proofs.Common.{Result, Ok, Err, List, ℕ}
use Rattle.std.specs.Prelude.{IfOk}
use Rattle.cs_json.specs.Shape.{json_of}
use Rattle.cs_net.specs.Netlist.{Net}
use Rattle.cs_net.specs.declared.images.Images.{Images}
use Rattle.cs_images.specs.declared.error.ImageError.{ImageError}
use Rattle.cs_images.specs.Gives.{Answers}
use Rattle.cs_net.specs.Contexts.{AreImagesFor}
use Rattle.cs_images.specs.Said.{images_in}
use Rattle.cs_images.proofs.ImageLemmas.{said_images_for}
use Rattle.cs_images.proofs.read.read_images.Goals as goal

images_for : (net : Net) (c : ℕ) (bytes : List ℕ) (result : Result Images ImageError)
    → Answers result (images_in net c bytes) → IfOk result (AreImagesFor net c)
images_for net c bytes (Ok images) h = said_images_for net c (json_of bytes) images h
images_for net c bytes (Err e) h = tt

pub returns-clause-images_for : goal.returns-clause-images_for
returns-clause-images_for c =
    images_for c.args.net.now c.args.contexts c.args.bytes.now c.answer.result c.answer.ensures
