-- Rows cut off bits, and bits put behind them.
use Rattle.std.proofs.Common.{◌≡◌, ℕ, zero, suc, ◌+◌, ◌*◌, ◌<◌, ◌≤◌, Bool, List, [], ◌∷◌, ◌++◌, length, get_or, take, drop, refl, sym, ap, ◌∙◌, arith, add-one}
use Rattle.std.proofs.lemmas.List.{length-append, length-take, length-drop, take_all, take-append-le, drop-append-le, drop-drop}
use Rattle.cs_stream.specs.Rows.{rows_within}

pub length-rows_within : (count width : ℕ) (bits : List Bool)
    → length (rows_within count width bits) ≡ count
length-rows_within zero width bits = refl
length-rows_within (suc count) width bits = ap suc (length-rows_within count width (drop width bits))

-- row i begins at the bit i * width
pub get_or-rows_within : (count width i : ℕ) (bits none : List Bool) → i < count
    → get_or (rows_within count width bits) i none ≡ take width (drop (i * width) bits)
get_or-rows_within zero width i bits none within = absurd (omega arith)
get_or-rows_within (suc count) width zero bits none within =
    let place : 0 * width ≡ 0 = omega arith in
    ap (λ n. take width (drop n bits)) (sym place)
get_or-rows_within (suc count) width (suc i) bits none within =
    let place : width + i * width ≡ suc i * width = omega arith in
    get_or-rows_within count width i (drop width bits) none (omega arith)
    ∙ ap (λ rest. take width rest) (drop-drop (i * width) width bits)
    ∙ ap (λ n. take width (drop n bits)) place

-- one more row behind whole rows
push_at : (count width : ℕ) (bits row : List Bool) → length bits ≡ count * width → length row ≡ width
    → rows_within (suc count) width (bits ++ row) ≡ rows_within count width bits ++ row ∷ []
push_at zero width [] row whole wide = ap (λ first. first ∷ []) (take_all width row (omega arith))
push_at zero width (bit ∷ bits) row whole wide = let none : suc
    (length bits) ≡ 0 * width = whole in absurd (omega arith)
push_at (suc count) width bits row whole wide =
    let long : width ≤ length bits = omega arith in
    let rest : length (drop width bits) ≡ count * width = simp length-drop (omega arith) in
    ap (λ first. first ∷ rows_within (suc count) width (drop width (bits ++ row)))
    (take-append-le width bits row long)
    ∙ ap (λ others. take width bits ∷ rows_within (suc count) width others)
    (drop-append-le width bits row long)
    ∙ ap (λ rows. take width bits ∷ rows) (push_at count width (drop width bits) row rest wide)

pub rows_within-push : (count width : ℕ) (bits row : List Bool) → length bits ≡ count * width
    → length row ≡ width
    → rows_within (count + 1) width (bits ++ row) ≡ rows_within count width bits ++ row ∷ []
rows_within-push count width bits row whole wide = rw add-one (push_at count width bits row whole wide)

-- each row has the width
pub length_row : (count width i : ℕ) (bits none : List Bool) → length bits ≡ count * width → i < count
    → length (get_or (rows_within count width bits) i none) ≡ width
length_row zero width i bits none whole within = absurd (omega arith)
length_row (suc count) width zero bits none whole within = simp length-take (omega arith)
length_row (suc count) width (suc i) bits none whole within =
    length_row count width i (drop width bits) none (simp length-drop (omega arith)) (omega arith)

-- a loop's step: one more row behind the rows so far
module _ (count width : ℕ) (bits bits' row : List Bool) (whole : length bits ≡ count * width)
    (wide : length row ≡ width) (more : bits' ≡ bits ++ row) where
  pub rows_more : (rows : List (List Bool)) → rows_within count width bits ≡ rows
      → rows_within (count + 1) width bits' ≡ rows ++ row ∷ []
  rows_more rows so_far =
      ap (rows_within (count + 1) width) more
      ∙ rows_within-push count width bits row whole wide
      ∙ ap (λ before. before ++ row ∷ []) so_far

  pub length_more : length bits' ≡ (count + 1) * width
  length_more = ap length more ∙ length-append bits row ∙ omega arith
