-- Valid steps bound the lags of their ends: the lag of the one less that of the other is at most what the steps cost. So
-- a valid cycle leaves no legal lags of a period within the bound.
use Rattle.std.proofs.Common.{◌≡◌, ℕ, ◌<◌, ◌⊎◌, List, [], ◌∷◌, Some, inl, inr, sym, ◌∙◌, ap, arith}
use Rattle.std.specs.Prelude.{ℤ, pos, ◌+ℤ◌, ◌-ℤ◌, ◌≤ℤ◌, ◌<ℤ◌, length, slice_get}
use Rattle.std.proofs.lemmas.Int.{ints, by_lt_z}
use Rattle.cs_base.specs.declared.contexts.Mode.{Mode}
use Rattle.cs_base.specs.declared.contexts.Mode.TheVariants.{Forward}
use Rattle.cs_graph.specs.declared.edge.Edge.{Edge}
use Rattle.cs_graph.specs.declared.graph.Graph.{Graph}
use Rattle.cs_graph.specs.declared.delays.Delays.{Delays}
use Rattle.cs_graph.specs.Lags.{IsLegal, lag_at}
use Rattle.cs_graph.specs.Period.{HasNoRegister, IsPath, IsPeriodWithin, edge_weight_under, path_delay, path_weight, path_weight_under}
use Rattle.cs_graph.proofs.PathWeights.{path_registers}
use Rattle.cs_cert.specs.declared.step.Step.{Step}
use Rattle.cs_cert.specs.declared.step.Step.TheVariants.{EdgeStep, PathStep, PinStep}
use Rattle.cs_cert.specs.Steps.{Goes, IsPinned, IsValid, IsValidCycle, Lead, cost, total_cost}

-- ---- arithmetic

edge_bound : (w : ℕ) (to from : ℤ) → pos 0 ≤ℤ ((pos w +ℤ to) -ℤ from) → (from -ℤ to) ≤ℤ pos w
edge_bound w to from h = omega (arith, ints)

path_bound : (w : ℕ) (to from sum : ℤ) → sum ≡ (pos w +ℤ to) -ℤ from → pos 0 <ℤ sum → (from -ℤ to) ≤ℤ (pos w -ℤ pos 1)
path_bound w to from sum is h = omega (arith, ints)

pin_bound : (to from : ℤ) → to ≡ pos 0 → from ≤ℤ pos 0 → (from -ℤ to) ≤ℤ pos 0
pin_bound to from zero low = omega (arith, ints)

added : (a b c x y : ℤ) → (a -ℤ b) ≤ℤ x → (b -ℤ c) ≤ℤ y → (a -ℤ c) ≤ℤ (x +ℤ y)
added a b c x y h k = omega (arith, ints)

none : (z : ℤ) → (z -ℤ z) ≤ℤ pos 0
none z = omega (arith, ints)

zero : (z : ℤ) → z ≡ pos 0 → z ≤ℤ pos 0
zero z is = omega (arith, ints)

at_zero : (z : ℤ) → z ≤ℤ pos 0 → pos 0 ≤ℤ z → z ≡ pos 0
at_zero z h k = omega (arith, ints)

more : (x y : ℤ) → pos 0 ≤ℤ x → pos 0 <ℤ y → pos 0 <ℤ (x +ℤ y)
more x y h k = omega (arith, ints)

more_first : (x y : ℤ) → pos 0 <ℤ x → pos 0 ≤ℤ y → pos 0 <ℤ (x +ℤ y)
more_first x y h k = omega (arith, ints)

no_less : (x y : ℤ) → pos 0 ≤ℤ x → pos 0 ≤ℤ y → pos 0 ≤ℤ (x +ℤ y)
no_less x y h k = omega (arith, ints)

nothing : pos 0 ≤ℤ pos 0
nothing = omega (arith, ints)

apart : (z total : ℤ) → (z -ℤ z) ≤ℤ total → total <ℤ pos 0 → ⊥
apart z total h negative = omega (arith, ints)

module _ (g : Graph) (delays : Delays) (mode : Mode) (bound : ℕ) (lags : List ℤ) (legal : IsLegal g mode lags)
    (within : IsPeriodWithin g delays lags bound) where
  -- ---- paths

  weight_low : (e : ℕ) (d : Edge) → slice_get g.edges e ≡ Some d → pos 0 ≤ℤ edge_weight_under lags (slice_get g.edges e)
  weight_low e d found = rw found (legal.weights e d found)

  path_low : (u v : ℕ) (es : List ℕ) → IsPath g u es v → pos 0 ≤ℤ path_weight_under g lags es
  path_low u v [] same = nothing
  path_low u v (e ∷ es) (d, found, from, rest) =
      no_less (edge_weight_under lags (slice_get g.edges e)) (path_weight_under g lags es) (weight_low e d found)
      (path_low d.to v es rest)

  -- a path has no register under the lags, or their sum is above 0
  registers_or_none : (u v : ℕ) (es : List ℕ) → IsPath g u es v
      → HasNoRegister g lags es ⊎ (pos 0 <ℤ path_weight_under g lags es)
  registers_or_none u v [] same = inl tt
  registers_or_none u v (e ∷ es) (d, found, from, rest) =
      let here = edge_weight_under lags (slice_get g.edges e) in
      let after = path_weight_under g lags es in
      by_lt_z (pos 0) here
      (λ some. inr (more_first here after some (path_low d.to v es rest)))
      (λ low. elim (registers_or_none d.to v es rest) [
        | inr some ↦ inr (more here after (weight_low e d found) some)
        | inl no_register ↦ inl (
          (λ d' found'.
              let is : here ≡ pos 0 = at_zero here low (weight_low e d found) in
              ap (edge_weight_under lags) (sym found') ∙ is),
          no_register,
        )
      ])

  slow_path : (u v : ℕ) (es : List ℕ) → u < length g.vertices → IsPath g u es v → bound < path_delay g delays u es
      → pos 0 <ℤ path_weight_under g lags es
  slow_path u v es among leads slow = elim (registers_or_none u v es leads) [
    | inl no_register ↦ absurd (omega (arith, within u v es among leads no_register))
    | inr some ↦ some
  ]

  -- ---- steps

  pinned_lag : (v : ℕ) → IsPinned g v → lag_at lags v ≡ pos 0
  pinned_lag v p = legal.pinned v p.vertex p.there p.pinned

  pin_low : (v : ℕ) → (mode ≡ Forward) ⊎ IsPinned g v → lag_at lags v ≤ℤ pos 0
  pin_low v (inl forward) = legal.ahead forward v
  pin_low v (inr p) = zero (lag_at lags v) (pinned_lag v p)

  pub step_bound : (step : Step) (u v : ℕ) → Goes g step u v → IsValid g delays mode bound step
      → (lag_at lags u -ℤ lag_at lags v) ≤ℤ cost g step
  step_bound (EdgeStep e) u v (d, found, from, to) valid =
      rw (← from, ← to, found) (edge_bound d.weight (lag_at lags d.to) (lag_at lags d.from) (legal.weights e d found))
  step_bound (PathStep first edges) u v (same, among, leads) slow =
      rw (← same) (path_bound (path_weight g edges) (lag_at lags v) (lag_at lags first) (path_weight_under g lags edges)
      (path_registers g lags first v edges leads) (slow_path first v edges among leads slow))
  step_bound (PinStep first last) u v (from, to) (last_pinned, first_low) =
      rw (← from, ← to) (pin_bound (lag_at lags last) (lag_at lags first) (pinned_lag last last_pinned) (pin_low first first_low))

  steps_bound : (steps : List Step) (u v : ℕ) → Lead g delays mode bound u steps v
      → (lag_at lags u -ℤ lag_at lags v) ≤ℤ total_cost g steps
  steps_bound [] u v same = rw same (none (lag_at lags v))
  steps_bound (step ∷ steps) u v (w, goes, valid, rest) =
      added (lag_at lags u) (lag_at lags w) (lag_at lags v) (cost g step) (total_cost g steps)
      (step_bound step u w goes valid) (steps_bound steps w v rest)

  -- a valid cycle refutes the lags
  pub cycle_refutes : (steps : List Step) → IsValidCycle g delays mode bound steps → ⊥
  cycle_refutes steps c =
      apart (lag_at lags c.vertex) (total_cost g steps) (steps_bound steps c.vertex c.vertex c.leads) c.negative
