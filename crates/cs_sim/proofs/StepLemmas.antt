-- A clock of a netlist that is laid out is a clock of the netlist.
use Rattle.std.proofs.Common.{◌≡◌, ℕ, List, [], ◌∷◌, length, map, set, Bool, true, false, Option, Some, None, refl, ap₂, ◌∙◌}
use Rattle.std.specs.Prelude.{fold, option_map, slice_get, unwrap_or}
use Rattle.std.proofs.lemmas.List.{length-set}
use Rattle.cs_base.specs.declared.signal.Signal.{Signal}
use Rattle.cs_net.specs.declared.state.Snapshot.{Snapshot}
use Rattle.cs_net.specs.Drivers.{data_inputs, data_outputs}
use Rattle.cs_net.specs.Elements.{elements_of, graph_of}
use Rattle.cs_net.specs.Invariant.{IsWellFormed}
use Rattle.cs_net.specs.Netlist.{Net, state_of}
use Rattle.cs_net.specs.Trace.{IsStep, Row, Valuation, signal_value}
use Rattle.cs_net.proofs.Traces.{settled as settled_bits, settled_settles}
use Rattle.cs_order.specs.Graphs.{IsOrder}
use Rattle.cs_sim.specs.declared.layout.Part.{Part}
use Rattle.cs_sim.specs.Clock.{HeldValues, evaluated, evaluated_at, next_held, output_bits, settled, with_constants}
use Rattle.cs_sim.specs.Layout.{driven_signals, layout_of}
use Rattle.cs_sim.specs.Slots.{slot_of, value_at}
use Rattle.cs_sim.specs.Start.{Fits, snapshot_of}
use Rattle.cs_sim.proofs.SettleLemmas.{settled_values}
use Rattle.cs_sim.proofs.Agreement.{agrees}
use Rattle.cs_sim.proofs.NextState.{next_state_shown}
use Rattle.cs_sim.proofs.StoredLemmas.{length-stored}

-- ---- as many slots as before

length-evaluated : (held : HeldValues) (row : Row) (parts : List Part) (values : List Bool) (v : ℕ)
    → length (evaluated_at held row parts values v) ≡ length values
unfolding evaluated
length-evaluated held row parts values v = by_part (slice_get parts v)
  where
    by_part : (p : Option Part) → length (unwrap_or (option_map (evaluated held row values) p) values) ≡ length values
    by_part None = refl
    by_part (Some p) = length-stored values p.first (output_bits held row values p.work)

length-all : (held : HeldValues) (row : Row) (parts : List Part) (order : List ℕ) (values : List Bool)
    → length (fold (evaluated_at held row parts) values order) ≡ length values
length-all held row parts [] values = refl
length-all held row parts (v ∷ order) values =
    length-all held row parts order (evaluated_at held row parts values v) ∙ length-evaluated held row parts values v

pub length-settled : (held : HeldValues) (row : Row) (parts : List Part) (order : List ℕ) (values : List Bool)
    → length (settled held row parts order values) ≡ length values
unfolding settled
length-settled held row parts order values =
    length-all held row parts order (with_constants values) ∙ length-set (set values 0 false) 1 true ∙ length-set values 0 false

-- ---- a clock

outputs_seen : (f : ℕ → Bool) (g : Signal → ℕ) (h : Signal → Bool) (signals : List Signal) → ((s : Signal) → f (g s) ≡ h s)
    → map f (map g signals) ≡ map h signals
outputs_seen f g h [] seen = refl
outputs_seen f g h (s ∷ signals) seen = ap₂ (λ a rest. a ∷ rest) (seen s) (outputs_seen f g h signals seen)

module _ (net : Net) (w : IsWellFormed net) (order : List ℕ) (is_order : IsOrder (graph_of (elements_of net)) order)
    (held : HeldValues) (fits : Fits (layout_of net) held) (row : Row) (row_fits : length row ≡ length (data_inputs net))
    (values : List Bool) (count : length values ≡ (layout_of net).slots) where
  abbrev now : Snapshot
  now = snapshot_of net (layout_of net) held

  abbrev bits : Valuation
  bits = settled_bits net row (state_of now) w.order.place w.order.order

  after_settling : List Bool
  after_settling = settled held row (layout_of net).parts order values

  seen : (s : Signal) → value_at after_settling (slot_of (driven_signals net) s) ≡ signal_value bits s
  unfolding after_settling
  seen s =
      settled_values net held row (state_of now) bits (settled_settles net row (state_of now) w.order.place w.order.order)
      row_fits (agrees net w held fits) order is_order values count s

  pub is_step : (output : List Bool)
      → output ≡ map (value_at (settled held row (layout_of net).parts order values)) (map (slot_of (driven_signals net)) (data_outputs net))
      → IsStep net now (snapshot_of net (layout_of net) (next_held (layout_of net) (settled held row (layout_of net).parts order values) held)) row output
  unfolding after_settling
  is_step output shows = record {
    bits = bits;
    settles = settled_settles net row (state_of now) w.order.place w.order.order;
    shows = shows ∙ outputs_seen (value_at after_settling) (slot_of (driven_signals net)) (signal_value bits) (data_outputs net) seen;
    after = next_state_shown net w held fits after_settling bits seen;
  }
