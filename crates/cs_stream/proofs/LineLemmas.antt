-- The first line of a text, and the rest.
use Rattle.std.proofs.Common.{◌≡◌, ℕ, zero, suc, ◌+◌, ◌<◌, ◌≤◌, Bool, true, false, not, cond, List, [], ◌∷◌, Some, None, length, take, drop, refl, ap, ◌∙◌, arith}
use Rattle.std.specs.Prelude.{position, nat_lt, unwrap_or}
use Rattle.std.specs.List.{position_or_len, onto_first}
use Rattle.std.proofs.lemmas.Bool.{ltb-true, ltb-false}
use Rattle.std.proofs.lemmas.Option.{cond_some}
use Rattle.std.proofs.lemmas.List.Sums.{prefix_len-le-length}
use Rattle.cs_stream.specs.Lines.{is_newline, lines_of}

-- ---- the place of the first newline

pub position_or_len-Some : (bytes : List ℕ) (end : ℕ) → position is_newline bytes ≡ Some end
    → (position_or_len is_newline bytes ≡ end) × (end < length bytes)
position_or_len-Some bytes end at =
    let place = position_or_len is_newline bytes in
    let found = cond_some (nat_lt place (length bytes)) place end at in
    let within : place < length bytes = ltb-true place (length bytes) found.0 in
    (found.1, omega arith)

cond_none : (b : Bool) (x : ℕ) → cond b (Some x) None ≡ None → b ≡ false
cond_none true x at = cc
cond_none false x at = refl

pub position_or_len-None : (bytes : List ℕ) → position is_newline bytes ≡ None
    → position_or_len is_newline bytes ≡ length bytes
position_or_len-None bytes at =
    let place = position_or_len is_newline bytes in
    let past : length bytes ≤ place =
    ltb-false place (length bytes) (cond_none (nat_lt place (length bytes)) place at) in
    let most : place ≤ length bytes = prefix_len-le-length (λ byte. not (is_newline byte)) bytes in
    omega arith

width_step : (b : Bool) (place past : ℕ) → (b ≡ false → past ≡ place)
    → unwrap_or (cond b (Some place) None) past ≡ place
width_step true place past same = refl
width_step false place past same = same refl

pub unwrap_or-position : (bytes : List ℕ)
    → unwrap_or (position is_newline bytes) (length bytes) ≡ position_or_len is_newline bytes
unwrap_or-position bytes =
    let place = position_or_len is_newline bytes in
    let most : place ≤ length bytes = prefix_len-le-length (λ byte. not (is_newline byte)) bytes in
    width_step (nat_lt place (length bytes)) place (length bytes)
    (λ none. let past : length bytes ≤ place = ltb-false place (length bytes) none in omega arith)

-- ---- where there is a newline

cut_step : (byte : ℕ) (bytes : List ℕ) (b : Bool) (end : ℕ)
    → ((e : ℕ) → position_or_len is_newline bytes ≡ e → e < length bytes
    → lines_of bytes ≡ take e bytes ∷ lines_of (drop (e + 1) bytes))
    → cond (not b) (1 + position_or_len is_newline bytes) 0 ≡ end → end < suc (length bytes)
    → cond b ([] ∷ lines_of bytes) (onto_first byte (lines_of bytes))
    ≡ take end (byte ∷ bytes) ∷ lines_of (drop (end + 1) (byte ∷ bytes))
cut_step byte bytes true zero rest at within = refl
cut_step byte bytes true (suc end) rest at within = absurd (omega arith)
cut_step byte bytes false zero rest at within = absurd (omega arith)
cut_step byte bytes false (suc end) rest at within =
    let there : position_or_len is_newline bytes ≡ end = omega arith in
    let place : suc (end + 1) ≡ suc end + 1 = omega arith in
    ap (onto_first byte) (rest end there (omega arith))
    ∙ ap (λ n. (byte ∷ take end bytes) ∷ lines_of (drop n (byte ∷ bytes))) place

-- the first line ends at the first newline
pub lines_of_cut : (bytes : List ℕ) (end : ℕ) → position_or_len is_newline bytes ≡ end → end < length bytes
    → lines_of bytes ≡ take end bytes ∷ lines_of (drop (end + 1) bytes)
lines_of_cut [] end at within = absurd (omega arith)
lines_of_cut (byte ∷ bytes) end at within =
    cut_step byte bytes (is_newline byte) end (λ e. lines_of_cut bytes e) at within

-- ---- where there is none

last_step : (byte : ℕ) (bytes : List ℕ) (b : Bool)
    → (position_or_len is_newline bytes ≡ length bytes
    → onto_first byte (lines_of bytes) ≡ (byte ∷ bytes) ∷ [])
    → cond (not b) (1 + position_or_len is_newline bytes) 0 ≡ suc (length bytes)
    → cond b ([] ∷ lines_of bytes) (onto_first byte (lines_of bytes)) ≡ (byte ∷ bytes) ∷ []
last_step byte bytes true rest at = absurd (omega arith)
last_step byte bytes false rest at = rest (omega arith)

onto_first-lines_of : (byte : ℕ) (bytes : List ℕ) → position_or_len is_newline bytes ≡ length bytes
    → onto_first byte (lines_of bytes) ≡ (byte ∷ bytes) ∷ []
onto_first-lines_of byte [] at = refl
onto_first-lines_of byte (next ∷ bytes) at =
    ap (onto_first byte) (last_step next bytes (is_newline next) (onto_first-lines_of next bytes) at)

-- a text that isn't empty and has no newline is one line
pub lines_of_last : (bytes : List ℕ) → position_or_len is_newline bytes ≡ length bytes → 0 < length bytes
    → lines_of bytes ≡ bytes ∷ []
lines_of_last [] at some = absurd (omega arith)
lines_of_last (byte ∷ bytes) at some =
    last_step byte bytes (is_newline byte) (onto_first-lines_of byte bytes) at
