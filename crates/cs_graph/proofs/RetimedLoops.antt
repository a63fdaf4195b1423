-- Lags make no loop without a register where there was none.
use Rattle.std.proofs.Common.{◌≡◌, ℕ, ◌+◌, ◌<◌, List, [], ◌∷◌, sym, ap, ◌∙◌, arith}
use Rattle.std.specs.Prelude.{ℤ, pos, ◌+ℤ◌, ◌-ℤ◌}
use Rattle.std.proofs.lemmas.Int.{ints}
use Rattle.cs_graph.specs.declared.graph.Graph.{Graph}
use Rattle.cs_graph.specs.Lags.{lag_at}
use Rattle.cs_graph.specs.Invariant.{HasOrder}
use Rattle.cs_graph.specs.Order.{Feeds, IsFedAlong, IsLoop}

-- v's lag is greater than u's by registers, and where there are none v stands before u
record Falls (place : ℕ → ℕ) (lags : List ℤ) (v u : ℕ) : Type 0 where
  registers : ℕ
  sum : lag_at lags v ≡ lag_at lags u +ℤ pos registers
  before : registers ≡ 0 → place v < place u

gap : (w : ℕ) (a b : ℤ) → (pos w +ℤ a -ℤ b) ≡ pos 0 → b ≡ a +ℤ pos w
gap w a b h = omega (arith, ints)

add_gaps : (x y : ℕ) (a b c : ℤ) → b ≡ a +ℤ pos x → c ≡ b +ℤ pos y → c ≡ a +ℤ pos (x + y)
add_gaps x y a b c h k = omega (arith, ints)

none_of : (x y : ℕ) → x + y ≡ 0 → (x ≡ 0) × (y ≡ 0)
none_of x y h = (omega (arith, h), omega (arith, h))

no_gap : (x : ℕ) (a : ℤ) → a ≡ a +ℤ pos x → x ≡ 0
no_gap x a h = omega (arith, ints)

edge_falls : (g : Graph) (order : HasOrder g) (lags : List ℤ) (v u : ℕ) → Feeds g lags v u
    → Falls order.place lags v u
edge_falls g order lags v u (e, d, found, none, from, to) =
    let falls : lag_at lags d.from ≡ lag_at lags d.to +ℤ pos d.weight = gap d.weight (lag_at lags d.to)
    (lag_at lags d.from) none in
    record {
      registers = d.weight;
      sum = ap (lag_at lags) (sym from) ∙ falls ∙ ap (λ n. lag_at lags n +ℤ pos d.weight) to;
      before = λ empty.
          let less = order.below e d found empty in
          let here = ap order.place from in
          let there = ap order.place to in
          omega (arith, less, here, there);
    }

along_falls : (g : Graph) (order : HasOrder g) (lags : List ℤ) (u : ℕ) (ws : List ℕ) (v : ℕ)
    → IsFedAlong g lags u ws v
    → Falls order.place lags v u
along_falls g order lags u [] v h = edge_falls g order lags v u h
along_falls g order lags u (w ∷ ws) v (first, rest) =
    let one = edge_falls g order lags w u first in
    let others = along_falls g order lags w ws v rest in
    record {
      registers = one.registers + others.registers;
      sum = add_gaps one.registers others.registers (lag_at lags u) (lag_at lags w) (lag_at lags v) one.sum
          others.sum;
      before = λ empty.
          let both = none_of one.registers others.registers empty in
          let a = one.before both.0 in
          let b = others.before both.1 in
          omega (arith, a, b);
    }

pub lags_no_loop : (g : Graph) (order : HasOrder g) (lags : List ℤ) (vs : List ℕ) → IsLoop g lags vs → ⊥
lags_no_loop g order lags [] h = h
lags_no_loop g order lags (v ∷ vs) h =
    let falls = along_falls g order lags v vs v h in
    let less = falls.before (no_gap falls.registers (lag_at lags v) falls.sum) in
    omega (arith, less)
