-- From documents to bytes.
use Rattle.std.proofs.Common.{◌≡◌, List, Option, ℕ}
use Rattle.cs_images.specs.Said.{Says as SaysImages}
use Rattle.cs_isolate.specs.Isolating.{HasIsolating}
use Rattle.cs_json.specs.declared.document.Document.{Document}
use Rattle.cs_json.specs.Shape.{Says, document}
use Rattle.cs_net.specs.declared.images.Images.{Images}
use Rattle.cs_net.specs.Netlist.{Net}
use Rattle.cs_run.specs.Bytes.{IsNetlistOf}
use Rattle.cs_run.specs.Slow.{BytesIsolate}
use Rattle.cs_run.specs.Starts.{images_by}

-- bytes that say a document whose netlist isolates that of other bytes isolate these
pub bytes_isolate : (c : ℕ) (read : List ℕ) (images : Option (List ℕ)) (written : List ℕ) (net : Net) (starts : Images) (doc : Document) →
    IsNetlistOf read net → images_by net c images ≡ SaysImages starts → HasIsolating net starts c doc → document written ≡ Says doc →
    BytesIsolate c read images written
bytes_isolate c read images written net starts doc of_read by isolating says = record {
  net = net;
  of_read = record { doc = of_read.doc; says = of_read.says; is = of_read.accepted.is_net };
  starts = starts;
  says = by;
  written_net = isolating.written;
  of_written = record { doc = doc; says = says; is = isolating.of_document };
  isolates = isolating.isolates;
}
