-- The netlist of an emission isolates the netlist of whose graph for several contexts it is.
use Rattle.std.proofs.Common.{ℕ, List, refl, sym, ◌∙◌, subst}
use Rattle.cs_graph.specs.declared.graph.Graph.{Graph}
use Rattle.cs_interleave.proofs.Isolated.{isolates_contexts}
use Rattle.cs_json.specs.declared.document.Document.{Document}
use Rattle.cs_net.specs.declared.images.Images.{Images}
use Rattle.cs_net.specs.Contexts.{AreImagesFor}
use Rattle.cs_net.specs.Drivers.{own_start}
use Rattle.cs_net.specs.Invariant.{IsWellFormed}
use Rattle.cs_net.specs.Netlist.{Net, state_of}
use Rattle.cs_net.proofs.Answering.{answer_exists, same_answer}
use Rattle.cs_share.specs.ReadBack.{IsReadBack}
use Rattle.cs_isolate.specs.Isolating.{HasIsolating, RunsAlike, own_names}

pub isolating : (net : Net) → IsWellFormed net → (images : Images) (c : ℕ) → AreImagesFor net c images → (g : Graph)
    (doc : Document) → IsReadBack g (own_names net) doc → RunsAlike net images c g → HasIsolating net images c doc
isolating net w images c are g doc back alike = record {
  readable = back.readable;
  written = back.net;
  of_document = back.of_document;
  isolates = record {
    ports = back.ports net refl refl;
    each = λ rows widths.
        let found = answer_exists back.net back.order.place back.order.order rows (state_of (own_start back.net)) in (
          found.0,
          record {
            answers = found.1;
            only = λ other a.
                same_answer back.net back.order.place back.order.order rows (state_of (own_start back.net)) other found.0 a found.1;
            parts = λ k below.
                (isolates_contexts net w images c are k rows found.0 below
                (alike rows found.0 ((back.answers rows found.0).0 found.1))).netlist;
          },
        );
  };
}
