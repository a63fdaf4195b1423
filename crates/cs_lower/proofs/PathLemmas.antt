-- Paths back through registers, bit by bit.
use Rattle.std.specs.Prelude.{◌==◌}
use Rattle.std.proofs.Common.{◌≡◌, ℕ, suc, ◌-◌, ◌<◌, ◌≤◌, List, [], ◌∷◌, ◌++◌, length, Some, None, refl, sym, ap, subst, ◌∙◌, arith, inl, inr, length-append}
use Rattle.std.specs.List.{position_from}
use Rattle.std.proofs.lemmas.Bool.{cases_lt}
use Rattle.std.proofs.lemmas.Option.{none-some, same_Some}
use Rattle.cs_lower.specs.Followed.{Wiring}
use Rattle.cs_lower.specs.Rings.{bit_behind, met, rings}
use Rattle.cs_lower.specs.declared.taps.Wire.TheVariants.{Undriven as undriven}
use Rattle.cs_lower.specs.Walks.{IsPassed, IsPath, back}
use Rattle.cs_lower.specs.Wires.{wire_in}
use Rattle.cs_lower.proofs.FollowLemmas.{never_so_many}
use Rattle.cs_lower.proofs.MetLemmas.{back_more, met_all, met_push}

one_longer : (path : List ℕ) (b : ℕ) → length (path ++ b ∷ []) ≡ suc (length path)
one_longer path b = let more = length-append path (b ∷ []) in omega (arith, more)

-- one bit more is passed
pub path_push : (w : Wiring) (from b c : ℕ) (path : List ℕ) → IsPath w from path b
    → position_from (λ r. r == b) 0 w.rings ≡ None → bit_behind (wire_in w.wires b) ≡ Some c
    → IsPath w from (path ++ b ∷ []) c
path_push w from b c path p free behind = record {
  bits = ap (λ xs. xs ++ b ∷ []) p.bits ∙ sym (met_push w.wires (length path) b (Some from) p.reached)
      ∙ ap (λ n. met w.wires n (Some from)) (sym (one_longer path b));
  reached = ap (λ n. back w.wires n (Some from)) (one_longer path b)
      ∙ back_more w.wires (length path) b (Some from) p.reached ∙ behind;
  passes = λ k below. by k (omega (arith, below, one_longer path b));
}
  where
    driven : wire_in w.wires b ≡ undriven → ⊥
    driven none = none-some c (sym (ap bit_behind none) ∙ behind)

    by : (k : ℕ) → k < suc (length path) → IsPassed w k (Some from)
    by k below = elim (cases_lt k (length path)) [
      | inl before ↦ p.passes k before
      | inr last ↦
          let same : length path ≡ k = omega (arith, below, last) in
          record {
            bit = b;
            reached = ap (λ n. back w.wires n (Some from)) (sym same) ∙ p.reached;
            free = free;
            driven = driven;
          }
    ]

-- ---- back again

-- lists with as many items before their last have the same
record SameLast (xs ys : List ℕ) (a b : ℕ) : Type 0 where
  before : xs ≡ ys
  last : a ≡ b

same_last : (xs ys : List ℕ) (a b : ℕ) → length xs ≡ length ys → xs ++ a ∷ [] ≡ ys ++ b ∷ [] → SameLast xs ys a b
same_last [] [] a b many same = record { before = refl; last = cc }
same_last [] (y ∷ ys) a b many same = absurd (omega (arith, many))
same_last (x ∷ xs) [] a b many same = absurd (omega (arith, many))
same_last (x ∷ xs) (y ∷ ys) a b many same =
    let first : x ≡ y = cc in
    let rest : xs ++ a ∷ [] ≡ ys ++ b ∷ [] = cc in
    let more = same_last xs ys a b (omega (arith, many)) rest in
    let all : x ∷ xs ≡ y ∷ ys = let here = more.before in cc in
    record { before = all; last = more.last }

-- the last bit of a path
pub record IsLast (w : Wiring) (from : ℕ) (path : List ℕ) (b c : ℕ) : Type 0 where
  pub path_to : IsPath w from path b
  pub free : position_from (λ r. r == b) 0 w.rings ≡ None
  pub behind : bit_behind (wire_in w.wires b) ≡ Some c

pub path_pop : (w : Wiring) (from b c : ℕ) (path : List ℕ) → IsPath w from (path ++ b ∷ []) c
    → IsLast w from path b c
path_pop w from b c path p = record {
  path_to = record {
    bits = same.before;
    reached = here;
    passes = λ k below. p.passes k (omega (arith, below, one_longer path b));
  };
  free = subst (λ a. position_from (λ r. r == a) 0 w.rings ≡ None) (sym same.last) last.free;
  behind = sym (back_more w.wires (length path) b (Some from) here)
      ∙ ap (λ n. back w.wires n (Some from)) (sym (one_longer path b)) ∙ p.reached;
}
  where
    last : IsPassed w (length path) (Some from)
    last = p.passes (length path) (omega (arith, one_longer path b))

    same : SameLast path (met w.wires (length path) (Some from)) b last.bit
    same = same_last path (met w.wires (length path) (Some from)) b last.bit
        (sym (met_all w.wires (length path) last.bit (Some from) last.reached))
        (p.bits ∙ ap (λ n. met w.wires n (Some from)) (one_longer path b)
        ∙ met_push w.wires (length path) last.bit (Some from) last.reached)

    here : back w.wires (length path) (Some from) ≡ Some b
    here = last.reached ∙ ap Some (sym same.last)

-- a path has no more bits than there are wires
path_few : (w : Wiring) (from b : ℕ) (path : List ℕ) → w.rings ≡ rings w.wires → IsPath w from path b
    → length path ≤ length w.wires
path_few w from b path is_rings p = elim (cases_lt (length w.wires) (length path)) [
  | inl more ↦ absurd (never_so_many w is_rings (Some from) (λ k below. p.passes k (omega (arith, below, more))))
  | inr few ↦ few
]

-- one that was pushed leaves fewer
pub path_fewer : (w : Wiring) (from b c : ℕ) (path : List ℕ) → w.rings ≡ rings w.wires
    → IsPath w from (path ++ b ∷ []) c
    → suc (length w.wires) - length (path ++ b ∷ []) < suc (length w.wires) - length path
path_fewer w from b c path is_rings p =
    omega (arith, one_longer path b, path_few w from c (path ++ b ∷ []) is_rings p)

-- where nothing is left, one is back
pub path_done : (w : Wiring) (from b : ℕ) → IsPath w from [] b → from ≡ b
path_done w from b p = same_Some from b p.reached
