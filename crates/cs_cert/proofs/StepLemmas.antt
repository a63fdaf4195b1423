-- Steps over legal lags: each bounds the lags of its ends, so a valid cycle leaves no legal lags of a period within the
-- bound.
use Rattle.std.proofs.Common.{add-one, drop, get_or, ◌≡◌, ℕ, suc, ◌+◌, ◌<◌, ◌≤◌, Bool, List, [], ◌∷◌, length, Some, refl, sym, ◌∙◌, ap, subst, arith, ◌↔◌}
use Rattle.std.specs.Prelude.{ℤ, pos, ◌+ℤ◌, ◌-ℤ◌, ◌≤ℤ◌, ◌<ℤ◌, IsTrue, slice_get}
use Rattle.std.proofs.lemmas.Int.{ints}
use Rattle.std.proofs.Math.Seq.{drop-cons}
use Rattle.cs_graph.proofs.LagLemmas.{got}
use Rattle.std.proofs.lemmas.Option.{slice_get_within}
use Rattle.cs_base.specs.declared.contexts.Mode.{Mode}
use Rattle.cs_graph.specs.declared.vertex.Vertex.{Vertex}
use Rattle.cs_graph.specs.declared.graph.Graph.{Graph}
use Rattle.cs_graph.specs.declared.delays.Delays.{Delays}
use Rattle.cs_graph.specs.Kinds.{is_pinned}
use Rattle.cs_graph.specs.Period.{edge_weight, path_weight}
use Rattle.cs_cert.specs.declared.step.Step.{Step}
use Rattle.cs_cert.specs.declared.step.Step.TheVariants.{EdgeStep, PathStep, PinStep}
use Rattle.cs_cert.specs.Steps.{Goes, IsPinned, IsValid, IsValidCycle, Lead, cost, total_cost}

-- ---- pinned vertices

pub pinned_by : (g : Graph) (v : ℕ) (answer : Bool) → v < length g.vertices
    → ((x : Vertex) → slice_get g.vertices v ≡ Some x → answer ≡ is_pinned x.kind) → IsTrue answer ↔ IsPinned g v
pinned_by g v answer below tells = (
  λ is. let found = got g.vertices v below in record {
    vertex = found.0;
    there = found.1;
    pinned = subst IsTrue (tells found.0 found.1) is;
  },
  λ p. subst IsTrue (sym (tells p.vertex p.there)) p.pinned,
)

-- ---- what a step says of legal lags

edge_bounds : (w : ℕ) (to from : ℤ) → pos 0 ≤ℤ ((pos w +ℤ to) -ℤ from) → (from -ℤ to) ≤ℤ pos w
edge_bounds w to from h = omega (arith, ints)

path_bounds : (w : ℕ) (to from : ℤ) (sum : ℤ) → sum ≡ (pos w +ℤ to) -ℤ from → pos 0 <ℤ sum
    → (from -ℤ to) ≤ℤ (pos w -ℤ pos 1)
path_bounds w to from sum is h = omega (arith, ints)

pins_bound : (to from : ℤ) → to ≡ pos 0 → from ≤ℤ pos 0 → (from -ℤ to) ≤ℤ pos 0
pins_bound to from zero low = omega (arith, ints)

add_bounds : (a b c x y : ℤ) → (a -ℤ b) ≤ℤ x → (b -ℤ c) ≤ℤ y → (a -ℤ c) ≤ℤ (x +ℤ y)
add_bounds a b c x y h k = omega (arith, ints)

same_lag : (z : ℤ) → (z -ℤ z) ≤ℤ pos 0
same_lag z = omega (arith, ints)

pub not_pinned_past : (g : Graph) (v : ℕ) → (v < length g.vertices → ⊥) → IsPinned g v → ⊥
not_pinned_past g v past p = past (slice_get_within g.vertices v p.vertex p.there)

-- ---- the next of the steps

module _ (g : Graph) (delays : Delays) (mode : Mode) (bound : ℕ) (step : Step) (steps : List Step) (u v : ℕ) where
  -- a step from u to a vertex leaves the rest of the steps from there
  pub leads_on : (from to : ℕ) → ((a b : ℕ) → Goes g step a b ↔ ((from ≡ a) × (to ≡ b))) → IsValid g delays mode bound step
      → from ≡ u → Lead g delays mode bound u (step ∷ steps) v ↔ Lead g delays mode bound to steps v
  leads_on from to goes valid begins = (
    λ (w, step_goes, ok, rest). subst (λ (x : ℕ). Lead g delays mode bound x steps v) (sym ((goes u w).0 step_goes).1) rest,
    λ rest. (to, (goes u to).1 (begins, refl), valid, rest),
  )

  -- a step from another vertex leads nowhere
  pub begins_elsewhere : (from to : ℕ) → ((a b : ℕ) → Goes g step a b ↔ ((from ≡ a) × (to ≡ b))) → (from ≡ u → ⊥)
      → Lead g delays mode bound u (step ∷ steps) v → ⊥
  begins_elsewhere from to goes elsewhere (w, step_goes, ok, rest) = elsewhere ((goes u w).0 step_goes).0

  -- nor does one that isn't valid
  pub leads_nowhere : ((a b : ℕ) → Goes g step a b → IsValid g delays mode bound step → ⊥)
      → Lead g delays mode bound u (step ∷ steps) v → ⊥
  leads_nowhere none (w, step_goes, ok, rest) = none u w step_goes ok

-- ---- costs

less_one : (w : ℕ) → pos 0 ≤ℤ ((pos w -ℤ pos 1) +ℤ pos 1)
less_one w = omega (arith, ints)

nothing : pos 0 ≤ℤ (pos 0 +ℤ pos 0)
nothing = omega (arith, ints)

one_more : (w : ℕ) → pos 0 ≤ℤ (pos w +ℤ pos 1)
one_more w = omega (arith, ints)

cost_low : (g : Graph) (step : Step) → pos 0 ≤ℤ (cost g step +ℤ pos 1)
cost_low g (EdgeStep e) = one_more (edge_weight (slice_get g.edges e))
cost_low g (PathStep from edges) = less_one (path_weight g edges)
cost_low g (PinStep from to) = one_more 0

both_low : (x y : ℤ) (n : ℕ) → pos 0 ≤ℤ (x +ℤ pos 1) → pos 0 ≤ℤ (y +ℤ pos n) → pos 0 ≤ℤ ((x +ℤ y) +ℤ pos (suc n))
both_low x y n h k = omega (arith, ints)

-- steps cost no less than one each
pub total_low : (g : Graph) (steps : List Step) → pos 0 ≤ℤ (total_cost g steps +ℤ pos (length steps))
total_low g [] = nothing
total_low g (step ∷ steps) = both_low (cost g step) (total_cost g steps) (length steps) (cost_low g step) (total_low g steps)

pub too_dear : (costs rest total : ℤ) (most n : ℕ) → total ≡ costs +ℤ rest → pos most <ℤ costs → n ≤ most
    → pos 0 ≤ℤ (rest +ℤ pos n) → total <ℤ pos 0 → ⊥
too_dear costs rest total most n is above few low negative = omega (arith, ints)

pub summed : (total costs cost rest sum : ℤ) → total ≡ costs +ℤ (cost +ℤ rest) → sum ≡ costs +ℤ cost → total ≡ sum +ℤ rest
summed total costs cost rest sum is more = omega (arith, ints)

-- ---- a cycle may be looked at from where its first step begins

first_of : {A : Type 0} (x : A) (xs : List A) → slice_get xs 0 ≡ Some x → (rest : List A) × (xs ≡ x ∷ rest)
first_of x [] found = absurd (cc)
first_of x (y ∷ ys) found = let same : y ≡ x = cc in (ys, ap (λ z. z ∷ ys) same)

module _ (g : Graph) (delays : Delays) (mode : Mode) (bound : ℕ) (steps : List Step) (step : Step) (from to : ℕ)
    (first : slice_get steps 0 ≡ Some step) (goes : (a b : ℕ) → Goes g step a b ↔ ((from ≡ a) × (to ≡ b))) where
  begins_at : (rest : List Step) (u v : ℕ) → Lead g delays mode bound u (step ∷ rest) v → from ≡ u
  begins_at rest u v (w, step_goes, ok, after) = ((goes u w).0 step_goes).0

  pub cycle_from_first : IsValidCycle g delays mode bound steps
      ↔ (Lead g delays mode bound from steps from × (total_cost g steps <ℤ pos 0))
  cycle_from_first =
      let (rest, all) = first_of step steps first in (
        λ c.
            let begins = begins_at rest c.vertex c.vertex (subst (λ (ss : List Step). Lead g delays mode bound c.vertex ss c.vertex) all c.leads) in
            (subst (λ (u : ℕ). Lead g delays mode bound u steps u) (sym begins) c.leads, c.negative),
        λ (leads, negative). record {
          some = λ empty. let none : [] ≡ step ∷ rest = sym empty ∙ all in cc;
          vertex = from;
          leads = leads;
          negative = negative;
        },
      )

-- ---- a list of steps from a place on

pub next_step : (steps : List Step) (i : ℕ) (step : Step) → step ≡ get_or steps i step → i < length steps
    → drop i steps ≡ step ∷ drop (i + 1) steps
next_step steps i step is within = rw (add-one) (drop-cons steps i step within ∙ ap (λ s. s ∷ drop (suc i) steps) (sym is))
