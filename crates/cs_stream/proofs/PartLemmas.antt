-- A part of one more row.
use Rattle.std.proofs.Common.{◌≡◌, ℕ, zero, suc, ◌+◌, ◌-◌, ◌*◌, ◌/◌, ◌%◌, ◌<◌, ◌⊎◌, inl, inr, sym, Bool, true, false, cond, eqb, List, [], ◌∷◌, ◌++◌, length, get_or, take, map, refl, ap, ◌∙◌, arith}
use Rattle.std.specs.List.{enumerate_from, filter, range_with_len}
use Rattle.std.proofs.lemmas.List.FromFn.{length-map-range_with_len, map-range_with_len_more}
use Rattle.std.proofs.lemmas.Nat.{div-add-mod', div-mul-add, mod_below}
use Rattle.std.proofs.lemmas.Bool.{cond-true, cond-false, eq-eqb, ne_eqb, cases_eq, cases_lt}
use Rattle.std.proofs.lemmas.List.{length-take, take_more, append-nil}
use Rattle.cs_base.specs.Parts.{part_from, part}
use Rattle.cs_stream.specs.Mixing.{turns}

one : {A : Type 0} (x : A) (i : ℕ) (b : Bool)
    → map (λ (e : ℕ × A). e.1) (cond b ((i, x) ∷ []) []) ≡ cond b (x ∷ []) []
one x i true = refl
one x i false = refl

-- the first row is one of the part, or it is none
step : {A : Type 0} (y : A) (entries more : List (ℕ × A)) (i : ℕ) (last : List A) (b : Bool)
    → map (λ (e : ℕ × A). e.1) more ≡ map (λ (e : ℕ × A). e.1) entries ++ last
    → map (λ (e : ℕ × A). e.1) (cond b ((i, y) ∷ more) more) ≡ map (λ (e : ℕ × A). e.1) (cond b
    ((i, y) ∷ entries) entries) ++ last
step y entries more i last true rest = ap (λ rows. y ∷ rows) rest
step y entries more i last false rest = rest

part_from-push : {A : Type 0} (xs : List A) (x : A) (i k c : ℕ)
    → part_from i k c (xs ++ x ∷ []) ≡ part_from i k c xs ++ cond (eqb ((i + length xs) % c) k) (x ∷ []) []
part_from-push [] x i k c =
    let here : i ≡ i + 0 = omega arith in
    one x i (eqb (i % c) k) ∙ ap (λ n. cond (eqb (n % c) k) (x ∷ []) []) here
part_from-push (y ∷ ys) x i k c =
    let place : i + 1 + length ys ≡ i + suc (length ys) = omega arith in
    let own = λ (e : ℕ × _). eqb (e.0 % c) k in
    step y (filter own (enumerate_from (i + 1) ys)) (filter own (enumerate_from (i + 1) (ys ++ x ∷ []))) i
    (cond (eqb ((i + suc (length ys)) % c) k) (x ∷ []) []) (eqb (i % c) k)
    (part_from-push ys x (i + 1) k c
    ∙ ap (λ n. part_from (i + 1) k c ys ++ cond (eqb (n % c) k) (x ∷ []) []) place)

part-push : {A : Type 0} (xs : List A) (x : A) (i k c : ℕ) → length xs ≡ i
    → part k c (xs ++ x ∷ []) ≡ part k c xs ++ cond (eqb (i % c) k) (x ∷ []) []
unfolding part
part-push xs x i k c long =
    let place : 0 + length xs ≡ i = omega arith in
    part_from-push xs x 0 k c
    ∙ ap (λ n. part_from 0 k c xs ++ cond (eqb (n % c) k) (x ∷ []) []) place

pub part-nil : {A : Type 0} (k c : ℕ) → part {A = A} k c [] ≡ []
unfolding part
part-nil k c = refl

-- the row at the next place is one of the part
pub part_taken : {A : Type 0} (rows : List A) (none : A) (k c place : ℕ) → place < length rows
    → place % c ≡ k
    → part k c (take (place + 1) rows) ≡ part k c (take place rows) ++ get_or rows place none ∷ []
part_taken rows none k c place within own =
    let row = get_or rows place none in
    let long : length (take place rows) ≡ place = simp length-take (omega arith) in
    ap (part k c) (take_more rows place none within)
    ∙ part-push (take place rows) row place k c long
    ∙ ap (λ last. part k c (take place rows) ++ last) (cond-true (eqb (place % c) k) (row ∷ []) []
    (eq-eqb (place % c) k own))

-- it is none
pub part_passed : {A : Type 0} (rows : List A) (none : A) (k c place : ℕ) → place < length rows
    → (place % c ≡ k → ⊥)
    → part k c (take (place + 1) rows) ≡ part k c (take place rows)
part_passed rows none k c place within other =
    let row = get_or rows place none in
    let long : length (take place rows) ≡ place = simp length-take (omega arith) in
    ap (part k c) (take_more rows place none within)
    ∙ part-push (take place rows) row place k c long
    ∙ ap (λ last. part k c (take place rows) ++ last) (cond-false (eqb (place % c) k) (row ∷ []) []
    (ne_eqb (place % c) k other))
    ∙ append-nil (part k c (take place rows))

-- ---- the part of rows that are given by their places

quotient : (n q s c : ℕ) → n ≡ q * c + s → s < c → n / c ≡ q
quotient n q s c split small = ap (λ m. m / c) split ∙ div-mul-add q c s small

-- place `total` is k modulo c: it is the next of them
turn_comes : (total c k : ℕ) → k < c → total % c ≡ k
    → (turns (suc total) c k ≡ turns total c k + 1) × (total ≡ turns total c k * c + k)
turn_comes total c k below own =
    let q = total / c in
    let split : q * c + total % c ≡ total = div-add-mod' total c in
    let here : turns total c k ≡ q = quotient (total + c - 1 - k) q (c - 1) c (omega arith) (omega arith) in
    let next : turns (suc total) c k ≡ suc q =
    quotient (suc total + c - 1 - k) (suc q) 0 c (omega arith) (omega arith) in (
      omega arith,
      sym split ∙ ap (λ n. n * c + total % c) (sym here)
          ∙ ap (λ n. turns total c k * c + n) own,
    )

-- it is not
turn_waits : (total c k : ℕ) → k < c → (total % c ≡ k → ⊥) → turns (suc total) c k ≡ turns total c k
turn_waits total c k below other =
    let q = total / c in
    let r = total % c in
    let split : q * c + r ≡ total = div-add-mod' total c in
    let small : r < c = mod_below total c (omega arith) in
    elim (cases_lt k r) [
      | inl past ↦
          quotient (suc total + c - 1 - k) (suc q) (r - k) c (omega arith) (omega arith)
          ∙ sym (quotient (total + c - 1 - k) (suc q) (r - 1 - k) c (omega arith) (omega arith))
      | inr most ↦
          let before : r < k = omega arith in
          quotient (suc total + c - 1 - k) q (r + c - k) c (omega arith) (omega arith)
          ∙ sym (quotient (total + c - 1 - k) q (r + c - 1 - k) c (omega arith) (omega arith))
    ]

module _ {A : Type 0} (f : ℕ → A) (k c : ℕ) (below : k < c) where
  abbrev own_row : ℕ → A
  own_row i = f (i * c + k)

  part-range_more : (total : ℕ)
      → part k c (map f (range_with_len 0 total)) ≡ map own_row (range_with_len 0 (turns total c k))
      → (total % c ≡ k) ⊎ (total % c ≡ k → ⊥)
      → part k c (map f (range_with_len 0 total)) ++ cond (eqb (total % c) k) (f total ∷ []) []
      ≡ map own_row (range_with_len 0 (turns (suc total) c k))
  part-range_more total so_far (inl own) =
      let n = turns total c k in
      let comes = turn_comes total c k below own in
      ap (λ rows. rows ++ cond (eqb (total % c) k) (f total ∷ []) []) so_far
      ∙ ap (λ last. map own_row (range_with_len 0 n) ++ last) (cond-true (eqb (total % c) k)
      (f total ∷ []) [] (eq-eqb (total % c) k own))
      ∙ ap (λ place. map own_row (range_with_len 0 n) ++ f place ∷ []) comes.1
      ∙ sym (map-range_with_len_more own_row 0 n n (omega arith))
      ∙ ap (λ m. map own_row (range_with_len 0 m)) (sym comes.0)
  part-range_more total so_far (inr other) =
      let rows = part k c (map f (range_with_len 0 total)) in
      ap (λ last. rows ++ last) (cond-false (eqb (total % c) k) (f total ∷ []) [] (ne_eqb
      (total % c) k other))
      ∙ append-nil rows
      ∙ so_far
      ∙ ap (λ m. map own_row (range_with_len 0 m)) (sym (turn_waits total c k below other))

  -- row i of part k is row i * c + k
  pub part-range : (total : ℕ)
      → part k c (map f (range_with_len 0 total)) ≡ map own_row (range_with_len 0 (turns total c k))
  part-range zero =
      let none : turns 0 c k ≡ 0 = quotient (0 + c - 1 - k) 0 (c - 1 - k) c (omega arith) (omega arith) in
      part-nil k c ∙ ap (λ m. map own_row (range_with_len 0 m)) (sym none)
  part-range (suc total) =
      let rows = map f (range_with_len 0 total) in
      let same : suc total ≡ total + 1 = omega arith in
      ap (λ m. part k c (map f (range_with_len 0 m))) same
      ∙ ap (part k c) (map-range_with_len_more f 0 total total (omega arith))
      ∙ part-push rows (f total) total k c (length-map-range_with_len f 0 total)
      ∙ part-range_more total (part-range total) (cases_eq (total % c) k)
