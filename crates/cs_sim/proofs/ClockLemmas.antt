-- A clock of a simulator: values settle, the outputs are shown, and what is held goes on.
use Rattle.std.proofs.Common.{◌≡◌, ℕ, List, length, map, Bool, subst, sym, ap, ap₂, ◌∙◌}
use Rattle.cs_order.specs.Graphs.{IsOrder}
use Rattle.cs_net.specs.Drivers.{data_inputs, data_outputs}
use Rattle.cs_net.specs.Elements.{elements_of, graph_of}
use Rattle.cs_net.specs.Invariant.{IsWellFormed}
use Rattle.cs_net.specs.Netlist.{Net}
use Rattle.cs_net.specs.Trace.{IsStep}
use Rattle.cs_sim.specs.declared.layout.Layout.{Layout}
use Rattle.cs_sim.specs.Clock.{HeldValues, next_held, settled}
use Rattle.cs_sim.specs.Layout.{driven_signals, layout_of}
use Rattle.cs_sim.specs.Slots.{slot_of, value_at}
use Rattle.cs_sim.specs.Start.{Fits, snapshot_of}
use Rattle.cs_sim.proofs.StepLemmas.{is_step}

-- a clock of a netlist's layout
pub clock_of_layout : (net : Net) → IsWellFormed net → (order : List ℕ) → IsOrder (graph_of (elements_of net)) order
    → (row values after output : List Bool) (slots : List ℕ) (held next : HeldValues) (l : Layout)
    → length row ≡ length (data_inputs net) → slots ≡ map (slot_of (driven_signals net)) (data_outputs net) → l ≡ layout_of net
    → Fits l held → length values ≡ l.slots → after ≡ settled held row l.parts order values
    → output ≡ map (value_at after) slots → next ≡ next_held l after held
    → IsStep net (snapshot_of net l held) (snapshot_of net l next) row output
clock_of_layout net w order is_order row values after output slots held next l row_fits slots_are is =
    subst (λ (l : Layout). Fits l held → length values ≡ l.slots → after ≡ settled held row l.parts order values
    → output ≡ map (value_at after) slots → next ≡ next_held l after held
    → IsStep net (snapshot_of net l held) (snapshot_of net l next) row output) (sym is)
    (λ fits count settles shows goes.
    subst (λ (h : HeldValues). IsStep net (snapshot_of net (layout_of net) held) (snapshot_of net (layout_of net) h) row output)
    (sym (goes ∙ ap (λ vs. next_held (layout_of net) vs held) settles))
    (is_step net w order is_order held fits row row_fits values count output
    (shows ∙ ap₂ (λ vs ks. map (value_at vs) ks) settles slots_are)))
