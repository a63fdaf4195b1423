-- Pieces that stand in a list from a place on.
use Rattle.std.proofs.Common.{◌≡◌, ℕ, zero, suc, ◌+◌, List, [], ◌∷◌, ◌++◌, length, take, drop, Some, refl, sym, ap, ◌∙◌, arith}
use Rattle.std.specs.Prelude.{slice_get}
use Rattle.std.proofs.lemmas.List.{append_assoc, drop-drop}
use Rattle.std.proofs.Math.Seq.{drop-append_seam, take-append_seam}

-- what stands from place n on begins with these
pub record IsPart {A : Type 0} (whole : List A) (n : ℕ) (xs : List A) : Type 0 where
  pub after : List A
  pub is : drop n whole ≡ xs ++ after

pub part_left : {A : Type 0} (whole : List A) (n : ℕ) (xs ys : List A) → IsPart whole n (xs ++ ys) → IsPart whole n xs
part_left whole n xs ys p = record { after = ys ++ p.after; is = p.is ∙ append_assoc xs ys p.after }

pub part_right : {A : Type 0} (whole : List A) (n : ℕ) (xs ys : List A) → IsPart whole n (xs ++ ys)
    → IsPart whole (n + length xs) ys
part_right whole n xs ys p = record {
  after = p.after;
  is = sym (drop-drop (length xs) n whole) ∙ ap (drop (length xs)) (p.is ∙ append_assoc xs ys p.after)
      ∙ drop-append_seam xs (ys ++ p.after);
}

-- those behind the first
pub part_next : {A : Type 0} (whole : List A) (n : ℕ) (x : A) (xs : List A) → IsPart whole n (x ∷ xs)
    → IsPart whole (n + 1) xs
part_next whole n x xs p = record {
  after = p.after;
  is = sym (drop-drop 1 n whole) ∙ ap (drop 1) p.is;
}

pub part_is : {A : Type 0} (whole : List A) (n : ℕ) (xs : List A) → IsPart whole n xs
    → take (length xs) (drop n whole) ≡ xs
part_is whole n xs p = ap (take (length xs)) p.is ∙ take-append_seam xs p.after

-- an element of what stands from a place on
pub from_place : {A : Type 0} (whole : List A) (n i : ℕ) → slice_get (drop n whole) i ≡ slice_get whole (n + i)
from_place [] zero i = refl
from_place [] (suc n) i = refl
from_place (x ∷ whole) zero i = ap (slice_get (x ∷ whole)) {x = i} {y = zero + i} (omega arith)
from_place (x ∷ whole) (suc n) i =
    from_place whole n i ∙ ap (slice_get (x ∷ whole)) {x = suc (n + i)} {y = suc n + i} (omega arith)

-- the first of them
pub part_first : {A : Type 0} (whole : List A) (n : ℕ) (x : A) (xs : List A) → IsPart whole n (x ∷ xs)
    → slice_get whole n ≡ Some x
part_first whole n x xs p =
    ap (slice_get whole) {x = n} {y = n + 0} (omega arith) ∙ sym (from_place whole n 0)
    ∙ ap (λ l. slice_get l 0) p.is

-- the first so many hold what the list does
taken : {A : Type 0} (k i : ℕ) (xs : List A) (x : A) → slice_get (take k xs) i ≡ Some x → slice_get xs i ≡ Some x
taken zero i xs x stands = cc
taken (suc k) i [] x stands = cc
taken (suc k) zero (y ∷ xs) x stands = stands
taken (suc k) (suc i) (y ∷ xs) x stands = taken k i xs x stands

-- each of them has its place in the whole
pub stand_at : {A : Type 0} (whole : List A) (n : ℕ) (xs : List A) → take (length xs) (drop n whole) ≡ xs
    → (i : ℕ) (x : A) → slice_get xs i ≡ Some x → slice_get whole (n + i) ≡ Some x
stand_at whole n xs stand i x here =
    sym (from_place whole n i) ∙ taken (length xs) i (drop n whole) x (ap (λ l. slice_get l i) stand ∙ here)
