-- A netlist with other words in its memories, of the same number and widths.
use Rattle.std.proofs.Common.{◌≡◌, ◌∙◌, List, ap, ap₂}
use Rattle.cs_net.specs.declared.state.MemoryWords.{MemoryWords}
use Rattle.cs_net.specs.Accept.{limit_fault}
use Rattle.cs_net.specs.Drivers.{driver_of}
use Rattle.cs_net.specs.Invariant.{AreAlike, HasBitOrder, IsWellFormed}
use Rattle.cs_net.specs.Netlist.{Net}
use Rattle.cs_net.proofs.AcceptLemmas.{net_with}

-- what a bit depends on does not hang on the words
pub order_with : (net : Net) (ms : List MemoryWords) → HasBitOrder net → HasBitOrder (record net { memories = ms })
unfolding driver_of
order_with net ms o = record { place = o.place; order = o.order }

-- the netlist of these parts
pub net_by_parts : (net : Net) (ms : List MemoryWords) (other : Net) → other.name ≡ net.name → other.ports ≡ net.ports
    → other.cells ≡ net.cells → other.shapes ≡ net.shapes → other.clock ≡ net.clock → other.starts ≡ net.starts
    → other.memories ≡ ms → other ≡ record net { memories = ms }
net_by_parts net ms other name ports cells shapes clock starts memories =
    ap (λ x. net_with x other.ports other.cells other.shapes other.clock other.starts other.memories) name
    ∙ ap (λ x. net_with net.name x other.cells other.shapes other.clock other.starts other.memories) ports
    ∙ ap (λ x. net_with net.name net.ports x other.shapes other.clock other.starts other.memories) cells
    ∙ ap (λ x. net_with net.name net.ports net.cells x other.clock other.starts other.memories) shapes
    ∙ ap (λ x. net_with net.name net.ports net.cells net.shapes x other.starts other.memories) clock
    ∙ ap₂ (λ x y. net_with net.name net.ports net.cells net.shapes net.clock x y) starts memories

pub well_formed_with : (net : Net) (ms : List MemoryWords) → IsWellFormed net → AreAlike net.memories ms
    → IsWellFormed (record net { memories = ms })
unfolding limit_fault
well_formed_with net ms w alike = record {
  «module» = w.«module»;
  readable = w.readable;
  early = w.early;
  not_reserved = w.not_reserved;
  is = ap (λ (n : Net). let other : Net = record n { memories = ms } in other) w.is;
  memories = w.memories ∙ alike;
  order = order_with net ms w.order;
  within = w.within;
}
