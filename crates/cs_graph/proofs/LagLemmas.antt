-- Legal lags, vertex by vertex and edge by edge.
use Rattle.std.proofs.Common.{◌≡◌, ℕ, zero, suc, ◌+◌, ◌<◌, ◌≤◌, List, [], ◌∷◌, length, Some, refl, inl, inr, arith}
use Rattle.std.specs.Prelude.{ℤ, pos, ◌+ℤ◌, ◌-ℤ◌, ◌≤ℤ◌, slice_get, unsigned_abs}
use Rattle.std.proofs.lemmas.Int.{ints}
use Rattle.std.proofs.lemmas.Bool.{cases_lt}
use Rattle.cs_base.specs.declared.contexts.Mode.{Mode}
use Rattle.cs_base.specs.declared.contexts.Mode.TheVariants.{Forward}
use Rattle.cs_graph.specs.declared.vertex.Vertex.{Vertex}
use Rattle.cs_graph.specs.declared.edge.Edge.{Edge}
use Rattle.cs_graph.specs.declared.graph.Graph.{Graph}
use Rattle.cs_graph.specs.Order.{no_lags}
use Rattle.cs_graph.specs.Lags.{lag_at, weight_under, IsLegalLag, IsLegal, AreWithin}

-- each vertex may have its lag
abbrev pub LagsAre : List Vertex → Mode → List ℤ → Type 0
LagsAre vs mode lags = (v : ℕ) (x : Vertex) → slice_get vs v ≡ Some x → IsLegalLag mode x.kind (lag_at lags v)

-- each edge has a weight
abbrev pub WeightsAre : List Edge → List ℤ → Type 0
WeightsAre es lags = (e : ℕ) (d : Edge) → slice_get es e ≡ Some d → pos 0 ≤ℤ (weight_under lags d)

-- without lags an edge has its own weight
pub weight_alone : (d : Edge) → weight_under no_lags d ≡ pos d.weight
weight_alone d = alone d.weight
  where
    alone : (w : ℕ) → (pos w +ℤ pos 0 -ℤ pos 0) ≡ pos w
    alone w = omega (arith, ints)

past_lag : (lags : List ℤ) (v : ℕ) → length lags ≤ v → lag_at lags v ≡ pos 0
past_lag [] v h = refl
past_lag (z ∷ lags) zero h = absurd (omega arith)
past_lag (z ∷ lags) (suc v) h = past_lag lags v (omega arith)

-- ---- lags are within some reach

farther : (z w : ℤ) (reach : ℕ) → w ≤ℤ pos reach → w ≤ℤ pos (unsigned_abs z + reach)
farther z w reach h = omega (arith, ints)

farther_below : (z w : ℤ) (reach : ℕ) → pos 0 ≤ℤ (w +ℤ pos reach) → pos 0 ≤ℤ (w +ℤ pos (unsigned_abs z + reach))
farther_below z w reach h = omega (arith, ints)

reaches : (z : ℤ) (reach : ℕ) → z ≤ℤ pos (unsigned_abs z + reach)
reaches z reach = omega (arith, ints)

reaches_below : (z : ℤ) (reach : ℕ) → pos 0 ≤ℤ (z +ℤ pos (unsigned_abs z + reach))
reaches_below z reach = omega (arith, ints)

high_of : (z : ℤ) (lags : List ℤ) (reach : ℕ) → AreWithin reach lags → (v : ℕ)
    → (lag_at (z ∷ lags) v) ≤ℤ pos (unsigned_abs z + reach)
high_of z lags reach within zero = reaches z reach
high_of z lags reach within (suc v) = farther z (lag_at lags v) reach (within.each v).high

low_of : (z : ℤ) (lags : List ℤ) (reach : ℕ) → AreWithin reach lags → (v : ℕ)
    → pos 0 ≤ℤ (lag_at (z ∷ lags) v +ℤ pos (unsigned_abs z + reach))
low_of z lags reach within zero = reaches_below z reach
low_of z lags reach within (suc v) = farther_below z (lag_at lags v) reach (within.each v).low

none_high : pos 0 ≤ℤ pos 0
none_high = omega (arith, ints)

none_low : pos 0 ≤ℤ (pos 0 +ℤ pos 0)
none_low = omega (arith, ints)

pub reach_of : (lags : List ℤ) → (reach : ℕ) × AreWithin reach lags
reach_of [] = (0, record { each = λ v. record { low = none_low; high = none_high } })
reach_of (z ∷ lags) = let rest = reach_of lags in (
  unsigned_abs z + rest.0,
  record {
    each = λ v. record { low = low_of z lags rest.0 rest.1 v; high = high_of z lags rest.0 rest.1 v };
  },
)

-- a place within a list holds something
pub got : {A : Type 0} (xs : List A) (i : ℕ) → i < length xs → (x : A) × (slice_get xs i ≡ Some x)
got [] i h = absurd (omega arith)
got (x ∷ xs) zero h = (x, refl)
got (x ∷ xs) (suc i) h = got xs i (omega arith)

at_zero : (z : ℤ) → z ≡ pos 0 → z ≤ℤ pos 0
at_zero z h = omega (arith, ints)

vertex_ahead : (g : Graph) (mode : Mode) (lags : List ℤ) → LagsAre g.vertices mode lags → mode ≡ Forward
    → (v : ℕ)
    → ((x : Vertex) × (slice_get g.vertices v ≡ Some x)) → (lag_at lags v) ≤ℤ pos 0
vertex_ahead g mode lags each forward v (x, found) = (each v x found).ahead forward

pub legal_both : (g : Graph) (mode : Mode) (lags : List ℤ) → length lags ≡ length g.vertices
    → LagsAre g.vertices mode lags
    → WeightsAre g.edges lags → IsLegal g mode lags
legal_both g mode lags count each weights = record {
  count = count;
  pinned = λ v x found. (each v x found).pinned;
  weights = weights;
  ahead = λ forward v. elim (cases_lt v (length g.vertices)) [
    | inl among ↦ vertex_ahead g mode lags each forward v (got g.vertices v among)
    | inr past ↦ at_zero (lag_at lags v) (past_lag lags v (omega (arith, past, count)))
  ];
}

pub legal_parts : (g : Graph) (mode : Mode) (lags : List ℤ) → IsLegal g mode lags
    → LagsAre g.vertices mode lags × WeightsAre g.edges lags
legal_parts g mode lags legal = (
  λ v x found. record { pinned = legal.pinned v x found; ahead = λ forward. legal.ahead forward v },
  legal.weights,
)
