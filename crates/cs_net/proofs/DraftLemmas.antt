-- What is made of a module before its netlist.
use Rattle.std.proofs.Common.{◌≡◌, ◌∙◌, List, Option, sym}
use Rattle.cs_cells.specs.declared.memory.MemShape.{MemShape}
use Rattle.cs_json.specs.declared.document.Module.{Module}
use Rattle.cs_net.specs.Build.{IsDraftOf, net_of}
use Rattle.cs_net.specs.Elements.{elements_of}
use Rattle.cs_net.specs.Loops.{AreOf}
use Rattle.cs_net.specs.Netlist.{Net}
use Rattle.cs_net.specs.declared.acceptance.Draft.{Draft}
use Rattle.cs_net.specs.declared.elements.Element.{Element}
use Rattle.cs_net.specs.declared.netlist.Cell.{Cell}
use Rattle.cs_net.specs.declared.netlist.Port.{Port}

-- elements made of a draft are those of the module's netlist
pub drafted_elements : (m : Module) (draft : Draft) (made : List Element) (ports : List Port) (cells : List Cell) (shapes : List (Option MemShape)) →
    IsDraftOf m draft → ports ≡ draft.ports → cells ≡ draft.cells → shapes ≡ draft.shapes →
    ((net : Net) → net.ports ≡ ports → net.clock ≡ draft.clock → net.cells ≡ cells → net.shapes ≡ shapes → made ≡ elements_of net) →
    made ≡ elements_of (net_of m)
unfolding net_of
drafted_elements m draft made ports cells shapes is ports_are cells_are shapes_are made_of =
    made_of (net_of m) (sym (ports_are ∙ is.ports)) (sym is.clock) (sym (cells_are ∙ is.cells)) (sym (shapes_are ∙ is.shapes))

pub drafted : (m : Module) (draft : Draft) (elements : List Element) (cells : List Cell) → IsDraftOf m draft → cells ≡ draft.cells →
    elements ≡ elements_of (net_of m) → AreOf (net_of m) elements cells
unfolding net_of
drafted m draft elements cells is cells_are elements_are = record { elements_are = elements_are; cells_are = cells_are ∙ is.cells }
