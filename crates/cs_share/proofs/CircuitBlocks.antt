-- The bits that vertices drive are numbered vertex by vertex, without a gap.
use Rattle.std.proofs.Common.{◌≡◌, ◌∙◌, ℕ, zero, suc, ◌+◌, ◌<◌, ◌≤◌, ◌⊎◌, List, [], ◌∷◌, length, take, Bool, true, cond, Some, ap, arith, inl, inr, refl}
use Rattle.std.specs.Prelude.{slice_get}
use Rattle.std.specs.List.{count_by, sum_by}
use Rattle.std.proofs.lemmas.List.Sums.{sum_by-cons}
use Rattle.std.proofs.lemmas.Option.{none-some, same_Some}
use Rattle.cs_graph.specs.declared.memory.Memory.{Memory}
use Rattle.cs_graph.specs.declared.vertex.Vertex.{Vertex}
use Rattle.cs_graph.specs.declared.vertex.VertexKind.{VertexKind}
use Rattle.cs_graph.specs.declared.vertex.VertexKind.TheVariants.{Host, Input, Output, Constant, Gate, Read, Write as WritePort}
use Rattle.cs_graph.specs.Invariant.{kinds}
use Rattle.cs_graph.specs.Kinds.{is_input, read_width}
use Rattle.cs_graph.specs.Run.{inputs_before}
use Rattle.cs_share.specs.Shared.{all_logic_bits, logic_bits}

-- ---- sums of the first ones

module _ {A : Type 0} (f : A → ℕ) where
  -- an element's part ends before that of a later one begins
  pub part_before : (xs : List A) (v w : ℕ) (x : A) → slice_get xs v ≡ Some x → v < w
      → sum_by f (take v xs) + f x ≤ sum_by f (take w xs)
  part_before [] v w x at less = absurd (none-some x at)
  part_before (y ∷ xs) v zero x at less = absurd (omega (arith, less))
  part_before (y ∷ xs) zero (suc w) x at less =
      let first = sum_by-cons f y (take w xs) in
      let same = ap f (same_Some y x at) in
      omega (arith, first, same)
  part_before (y ∷ xs) (suc v) (suc w) x at less =
      let first = sum_by-cons f y (take v xs) in
      let second = sum_by-cons f y (take w xs) in
      let rest = part_before xs v w x at (omega (arith, less)) in
      omega (arith, first, second, rest)

  -- and before the end of all
  pub part_within : (xs : List A) (v : ℕ) (x : A) → slice_get xs v ≡ Some x → sum_by f (take v xs) + f x ≤ sum_by f xs
  part_within [] v x at = absurd (none-some x at)
  part_within (y ∷ xs) zero x at =
      let all = sum_by-cons f y xs in
      let same = ap f (same_Some y x at) in
      omega (arith, all, same)
  part_within (y ∷ xs) (suc v) x at =
      let first = sum_by-cons f y (take v xs) in
      let all = sum_by-cons f y xs in
      let rest = part_within xs v x at in
      omega (arith, first, all, rest)

  -- so a number is in the part of one element alone
  pub one_part : (xs : List A) (v w a b : ℕ) (x y : A) → slice_get xs v ≡ Some x → slice_get xs w ≡ Some y → a < f x → b < f y
      → sum_by f (take v xs) + a ≡ sum_by f (take w xs) + b → v ≡ w
  one_part xs v w a b x y at there low below same = elim (order v w) [
    | inl less ↦ let before = part_before xs v w x at less in absurd (omega (arith, before, low, same))
    | inr (inl more) ↦ let before = part_before xs w v y there more in absurd (omega (arith, before, below, same))
    | inr (inr equal) ↦ equal
  ]
    where
      order : (v w : ℕ) → (v < w) ⊎ ((w < v) ⊎ (v ≡ w))
      order zero zero = inr (inr refl)
      order zero (suc w) = inl (omega arith)
      order (suc v) zero = inr (inl (omega arith))
      order (suc v) (suc w) = elim (order v w) [
        | inl less ↦ inl (omega (arith, less))
        | inr (inl more) ↦ inr (inl (omega (arith, more)))
        | inr (inr equal) ↦ inr (inr (ap suc equal))
      ]

-- ---- how many bits there are

one_more_at_most : (memories : List Memory) (kind : VertexKind) → logic_bits memories kind ≤ 1 + read_width memories kind
one_more_at_most memories Host = omega arith
one_more_at_most memories Input = omega arith
one_more_at_most memories Output = omega arith
one_more_at_most memories (Constant b) = omega arith
one_more_at_most memories (Gate kind) = omega arith
one_more_at_most memories (Read memory port) = omega arith
one_more_at_most memories (WritePort memory port) = omega arith

-- one for each vertex, and those of the Reads
pub logic_bits_few : (memories : List Memory) (vertices : List Vertex)
    → all_logic_bits memories vertices ≤ length vertices + sum_by (read_width memories) (kinds vertices)
logic_bits_few memories [] = omega arith
logic_bits_few memories (x ∷ vertices) =
    let all = sum_by-cons (λ (x : Vertex). logic_bits memories x.kind) x vertices in
    let reads = sum_by-cons (read_width memories) x.kind (kinds vertices) in
    let here = one_more_at_most memories x.kind in
    let rest = logic_bits_few memories vertices in
    omega (arith, all, reads, here, rest)

-- ---- inputs

abbrev once : Bool → ℕ
once t = cond t 1 0

-- an Input's number is one of the Inputs'
pub input_among : (vertices : List Vertex) (v : ℕ) (x : Vertex) → slice_get vertices v ≡ Some x → is_input x.kind ≡ true
    → inputs_before vertices v < count_by (λ (x : Vertex). is_input x.kind) vertices
input_among [] v x at input = absurd (none-some x at)
input_among (y ∷ vertices) zero x at input =
    let all = sum_by-cons (λ (x : Vertex). cond (is_input x.kind) 1 0) y vertices in
    let same : once (is_input y.kind) ≡ 1 = ap (λ (z : Vertex). once (is_input z.kind)) (same_Some y x at) ∙ ap once input in
    omega (arith, all, same)
input_among (y ∷ vertices) (suc v) x at input =
    let all = sum_by-cons (λ (x : Vertex). cond (is_input x.kind) 1 0) y vertices in
    let rest = input_among vertices v x at input in
    omega (arith, all, rest)
