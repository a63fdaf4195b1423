-- A slowed graph can be banked where its memories can.
use Rattle.std.proofs.Common.{◌≡◌, ℕ, ◌*◌, List, length, sym, ap, ◌∙◌}
use Rattle.std.specs.Prelude.{slice_get, Option, Some, None}
use Rattle.cs_graph.specs.declared.edge.Edge.{Edge}
use Rattle.cs_graph.specs.declared.graph.Graph.{Graph}
use Rattle.cs_graph.specs.declared.memory.Memory.{Memory}
use Rattle.cs_graph.specs.Past.{IsSlowedBy}
use Rattle.cs_graph.specs.Slow.{slow, slow_edge}
use Rattle.cs_net.specs.Contexts.{Image}
use Rattle.cs_bank.specs.Bank.{CanBank, FitsMemory, IsWhole}
use Rattle.cs_bank.proofs.Lists.{was_in}

weight_of : Option Edge → ℕ
weight_of None = 0
weight_of (Some d) = d.weight

-- each weight is a multiple
pub is_slowed : (c : ℕ) (g : Graph) → IsSlowedBy c (slow c g)
unfolding weight_of
is_slowed c g = record {
  turns = λ e. weight_of (slice_get g.edges e);
  are = λ e d found.
      let was = was_in (slow_edge c) g.edges e d found in
      sym (ap (λ (y : Edge). y.weight) was.2) ∙ ap (λ o. weight_of o * c) (sym was.1);
}

-- so the conditions are those of the memories and images
pub can_bank_slowed : (c : ℕ) (entries : List (Option (List Image))) (g : Graph)
    → ((i : ℕ) (m : Memory) → slice_get g.memories i ≡ Some m → IsWhole m) → length entries ≡ length g.memories
    → ((i : ℕ) (m : Memory) (entry : Option (List Image)) → slice_get g.memories i ≡ Some m
    → slice_get entries i ≡ Some entry → FitsMemory c m entry) → CanBank c entries (slow c g)
can_bank_slowed c entries g whole count images = record {
  slowed = is_slowed c g;
  whole = whole;
  count = count;
  images = images;
}
