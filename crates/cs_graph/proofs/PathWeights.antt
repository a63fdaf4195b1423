-- Registers along paths, paths that close, and paths with the least registers.
use Rattle.std.proofs.Common.{◌≡◌, ℕ, zero, suc, ◌+◌, ◌<◌, ◌≤◌, List, [], ◌∷◌, length, refl, sym, ap, subst, ◌∙◌, inl, inr, arith}
use Rattle.std.specs.Prelude.{ℤ, pos, ◌+ℤ◌, ◌-ℤ◌, Some, slice_get}
use Rattle.std.proofs.lemmas.Bool.{cases_lt}
use Rattle.std.proofs.lemmas.Int.{ints}
use Rattle.std.proofs.lemmas.List.{length-map}
use Rattle.std.proofs.lemmas.Option.{none-some, same_Some}
use Rattle.cs_order.specs.Graphs.{HasNoRepeat}
use Rattle.cs_order.proofs.CountLemmas.{count_at_most}
use Rattle.cs_graph.specs.declared.delays.Delays.{Delays}
use Rattle.cs_graph.specs.declared.graph.Graph.{Graph}
use Rattle.cs_graph.specs.Invariant.{HasOrder, IsWellFormed}
use Rattle.cs_graph.specs.Lags.{lag_at}
use Rattle.cs_graph.specs.Period.{IsPath, edge_weight, path_weight, edge_weight_under, path_weight_under, edge_end, path_vertices, IsLeastWeight, IsPeriod}

-- ---- periods

period_least : (g : Graph) (delays : Delays) (lags : List ℤ) (period period' : ℕ)
    → IsPeriod g delays lags period → IsPeriod g delays lags period' → period' ≤ period
period_least g delays lags period period' is other = elim other.reached [
  | inl (none, nothing) ↦ omega (arith, nothing)
  | inr path ↦
      let within = is.within path.first path.last path.edges path.among path.leads path.no_register in
      let same = path.is in
      omega (arith, within, same)
]

pub one_period : (g : Graph) (delays : Delays) (lags : List ℤ) (period period' : ℕ)
    → IsPeriod g delays lags period → IsPeriod g delays lags period' → period ≡ period'
one_period g delays lags period period' is other =
    let most = period_least g delays lags period period' is other in
    let least = period_least g delays lags period' period other is in
    omega (arith, most, least)

-- ---- registers under lags

no_step : (a b : ℤ) → a ≡ b → pos 0 ≡ pos 0 +ℤ b -ℤ a
no_step a b h = omega (arith, ints)

one_step : (w ws : ℕ) (u d v here rest : ℤ) → here ≡ pos w +ℤ d -ℤ u → rest ≡ pos ws +ℤ v -ℤ d
    → here +ℤ rest ≡ pos (w + ws) +ℤ v -ℤ u
one_step w ws u d v here rest h k = omega (arith, ints)

pub path_registers : (g : Graph) (lags : List ℤ) (u v : ℕ) (es : List ℕ) → IsPath g u es v
    → path_weight_under g lags es ≡ pos (path_weight g es) +ℤ lag_at lags v -ℤ lag_at lags u
path_registers g lags u v [] same = no_step (lag_at lags u) (lag_at lags v) (ap (lag_at lags) same)
path_registers g lags u v (e ∷ es) (d, found, from, rest) =
    let here : edge_weight_under lags (slice_get g.edges e) ≡ pos (edge_weight (slice_get g.edges e)) +ℤ lag_at
    lags d.to -ℤ lag_at lags u =
    ap (edge_weight_under lags) found
    ∙ ap (λ n. pos d.weight +ℤ lag_at lags d.to -ℤ lag_at lags n) from
    ∙ ap (λ o. pos (edge_weight o) +ℤ lag_at lags d.to -ℤ lag_at lags u) (sym found) in
    one_step (edge_weight (slice_get g.edges e)) (path_weight g es) (lag_at lags u) (lag_at lags d.to) (lag_at
    lags v)
    (edge_weight_under lags (slice_get g.edges e)) (path_weight_under g lags es) here
    (path_registers g lags d.to v es rest)

-- ---- paths that close

-- a path without a register rises in the order, edge by edge
pub path_rises : (g : Graph) (order : HasOrder g) (u v : ℕ) (es : List ℕ) → IsPath g u es v
    → path_weight g es ≡ 0 → order.place u + length es ≤ order.place v
path_rises g order u v [] same none = let here = ap order.place same in omega (arith, here)
path_rises g order u v (e ∷ es) (d, found, from, rest) none =
    let first = ap edge_weight found in
    let less = order.below e d found (omega (arith, first, none)) in
    let others = path_rises g order d.to v es rest (omega (arith, none)) in
    let here = ap order.place from in
    omega (arith, less, others, here)

pub closed_path : (g : Graph) → HasOrder g → (v e : ℕ) (es : List ℕ) → IsPath g v (e ∷ es) v
    → 0 < path_weight g (e ∷ es)
closed_path g order v e es leads = elim (cases_lt 0 (path_weight g (e ∷ es))) [
  | inl some ↦ some
  | inr few ↦
      let rises = path_rises g order v v (e ∷ es) leads (omega (arith, few)) in
      absurd (omega (arith, rises))
]

-- ---- paths with the least registers

-- a path through x is one to x and one from x on
record Passes (g : Graph) (u : ℕ) (es : List ℕ) (v x : ℕ) : Type 0 where
  before : List ℕ
  behind : List ℕ
  comes : IsPath g u before x
  goes : IsPath g x behind v
  sum : path_weight g before + path_weight g behind ≡ path_weight g es

passes : (g : Graph) (u v x k : ℕ) (es : List ℕ) → IsPath g u es v
    → slice_get (path_vertices g u es) k ≡ Some x → Passes g u es v x
passes g u v x zero es leads at = record {
  before = [];
  behind = es;
  comes = same_Some u x at;
  goes = subst (λ n. IsPath g n es v) (same_Some u x at) leads;
  sum = omega arith;
}
passes g u v x (suc k) [] leads at = absurd (none-some x at)
passes g u v x (suc k) (e ∷ es) (d, found, from, rest) at =
    let ends = ap edge_end found in
    let others = passes g d.to v x k es rest
    (subst (λ n. slice_get (path_vertices g n es) k ≡ Some x) ends at) in
    record {
      before = e ∷ others.before;
      behind = others.behind;
      comes = (d, found, from, others.comes);
      goes = others.goes;
      sum = let sum = others.sum in omega (arith, sum);
    }

new_first : (x : ℕ) (xs : List ℕ) → HasNoRepeat xs → ((k : ℕ) → slice_get xs k ≡ Some x → ⊥)
    → HasNoRepeat (x ∷ xs)
new_first x xs once new zero zero v here there = refl
new_first x xs once new zero (suc j) v here there =
    absurd (new j (there ∙ sym here))
new_first x xs once new (suc i) zero v here there =
    absurd (new i (here ∙ sym there))
new_first x xs once new (suc i) (suc j) v here there = ap suc (once i j v here there)

least_simple : (g : Graph) → HasOrder g → (u v : ℕ) (es : List ℕ) → IsPath g u es v
    → ((fs : List ℕ) → IsPath g u fs v → path_weight g es ≤ path_weight g fs)
    → HasNoRepeat (path_vertices g u es)
least_simple g order u v [] leads least = new_first u [] (λ i j w here. absurd (none-some w here)) (λ k at. absurd
    (none-some u at))
least_simple g order u v (e ∷ es) (d, found, from, rest) least =
    let ends = ap edge_end found in
    let first = ap edge_weight found in
    let others = least_simple g order d.to v es rest
    (λ fs leads. let all = least (e ∷ fs) (d, found, from, leads) in omega (arith, all)) in
    subst (λ n. HasNoRepeat (u ∷ path_vertices g n es)) (sym ends)
    (new_first u (path_vertices g d.to es) others
    (λ k at.
    let parts = passes g d.to v u k es rest at in
    let closed = closed_path g order u e parts.before (d, found, from, parts.comes) in
    let short = least parts.behind parts.goes in
    let sum = parts.sum in
    absurd (omega (arith, closed, short, sum))))

pub least_path : (g : Graph) → HasOrder g → (u v weight : ℕ) (es : List ℕ) → IsLeastWeight g u v weight
    → IsPath g u es v → path_weight g es ≡ weight → HasNoRepeat (path_vertices g u es)
least_path g order u v weight es is leads same = least_simple g order u v es leads
    (λ fs others. let least = is.least fs others in omega (arith, least, same))

path_within : (g : Graph) → IsWellFormed g → (u v : ℕ) (es : List ℕ) → IsPath g u es v → u < length g.vertices
    → (i x : ℕ) → slice_get (path_vertices g u es) i ≡ Some x → x < length g.vertices
path_within g well u v [] leads low zero x at = subst (λ n. n < length g.vertices) (same_Some u x at) low
path_within g well u v [] leads low (suc i) x at = absurd (none-some x at)
path_within g well u v (e ∷ es) leads low zero x at = subst (λ n. n < length g.vertices) (same_Some u x at) low
path_within g well u v (e ∷ es) (d, found, from, rest) low (suc i) x at =
    let ends = ap edge_end found in
    path_within g well d.to v es rest (well.to e d found) i x
    (subst (λ n. slice_get (path_vertices g n es) i ≡ Some x) ends at)

pub least_short : (g : Graph) → IsWellFormed g → (u v weight : ℕ) (es : List ℕ) → u < length g.vertices
    → IsLeastWeight g u v weight → IsPath g u es v → path_weight g es ≡ weight
    → length es < length g.vertices
least_short g well u v weight es low is leads same =
    let once = least_path g well.order u v weight es is leads same in
    let most = count_at_most (length g.vertices) (path_vertices g u es) (path_within g well u v es leads low)
    once in
    let count = length-map es (λ e. edge_end (slice_get g.edges e)) in
    omega (arith, most, count)
