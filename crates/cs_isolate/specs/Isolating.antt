-- The document of a netlist's graph for several contexts, and what it means that a document's netlist isolates another.
use Rattle.std.specs.Prelude.{ℕ, false, List, None}
use Rattle.cs_graph.specs.declared.graph.Graph.{Graph}
use Rattle.cs_graph.specs.Run.{Row, RunsWith}
use Rattle.cs_interleave.specs.Interleaved.{interleaved}
use Rattle.cs_json.specs.declared.document.Document.{Document}
use Rattle.cs_json.specs.Readable.{IsReadable}
use Rattle.cs_lower.specs.Lowered.{origins}
use Rattle.cs_net.specs.declared.images.Images.{Images}
use Rattle.cs_net.specs.Accept.{IsNetOfTop}
use Rattle.cs_net.specs.Isolates.{Isolates}
use Rattle.cs_net.specs.Netlist.{Net}
use Rattle.cs_share.specs.declared.types.Names.{Names}
use Rattle.cs_share.specs.Emission.{IsEmission}
use Rattle.cs_share.specs.Names.{names_of}

-- the names of what is emitted for a netlist
abbrev pub own_names : Net → Names
own_names net = names_of net (origins net)

-- the emission of the netlist's graph for c contexts that start with these images
abbrev pub IsSlowed : Net → Images → ℕ → Document → Type 0
IsSlowed net images c doc = IsEmission (interleaved net images c) (own_names net) doc

-- whatever rows g is fed, it answers them just as the netlist's graph for c contexts does
abbrev pub RunsAlike : Net → Images → ℕ → Graph → Type 0
RunsAlike net images c g =
    (rows outputs : List Row) → RunsWith false g rows outputs → RunsWith false (interleaved net images c) rows outputs

-- a document is read from its printed text, and its netlist isolates this one in c contexts that start with these images
pub record HasIsolating (net : Net) (images : Images) (c : ℕ) (doc : Document) : Type 0 where
  pub readable : IsReadable doc
  pub written : Net
  pub of_document : IsNetOfTop doc None written
  pub isolates : Isolates written net images c
