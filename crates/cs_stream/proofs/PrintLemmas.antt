-- What is printed, read again.
use Rattle.std.proofs.Common.{◌≡◌, ℕ, zero, suc, ◌+◌, ◌*◌, ◌<◌, ◌≤◌, Bool, true, false, List, [], ◌∷◌, ◌++◌, Some, None, length, get_or, take, drop, map, eqb, refl, ap, ◌∙◌, arith}
use Rattle.std.specs.Prelude.{position, nat_lt}
use Rattle.std.specs.Option.{option_map, option_or}
use Rattle.std.specs.List.{position_or_len, onto_first}
use Rattle.std.proofs.lemmas.Bool.{cond-true, cond-false, le-ltb, eq-eqb}
use Rattle.std.proofs.lemmas.List.{length-take, length-drop, length-map, append-nil, take_more}
use Rattle.std.proofs.lemmas.List.Concat.{flat_map-append}
use Rattle.cs_stream.specs.declared.error.StimError.TheVariants.{Width, Character}
use Rattle.cs_stream.specs.Rows.{rows_within}
use Rattle.cs_stream.specs.Lines.{is_newline, lines_of}
use Rattle.cs_stream.specs.Reading.{is_one, is_other, line_fault, first_fault, stimulus_rows}
use Rattle.cs_stream.specs.Printing.{bit_byte, row_text, response_text}

-- ---- the lines

lines_of-row_text : (row : List Bool) (rest : List ℕ)
    → lines_of (row_text row ++ rest) ≡ map bit_byte row ∷ lines_of rest
lines_of-row_text [] rest = refl
lines_of-row_text (true ∷ row) rest = ap (onto_first 49) (lines_of-row_text row rest)
lines_of-row_text (false ∷ row) rest = ap (onto_first 48) (lines_of-row_text row rest)

pub lines_of-response_text : (rows : List (List Bool))
    → lines_of (response_text rows) ≡ map (λ row. map bit_byte row) rows
lines_of-response_text [] = refl
lines_of-response_text (row ∷ rows) =
    lines_of-row_text row (response_text rows)
    ∙ ap (λ lines. map bit_byte row ∷ lines) (lines_of-response_text rows)

-- ---- the rows

is_one-bit_byte : (row : List Bool) → map is_one (map bit_byte row) ≡ row
is_one-bit_byte [] = refl
is_one-bit_byte (true ∷ row) = ap (λ bits. true ∷ bits) (is_one-bit_byte row)
is_one-bit_byte (false ∷ row) = ap (λ bits. false ∷ bits) (is_one-bit_byte row)

rows_again : (rows : List (List Bool))
    → map (λ line. map is_one line) (map (λ row. map bit_byte row) rows) ≡ rows
rows_again [] = refl
rows_again (row ∷ rows) =
    ap (λ first. first ∷ map (λ line. map is_one line) (map (λ r. map bit_byte r) rows))
    (is_one-bit_byte row)
    ∙ ap (λ others. row ∷ others) (rows_again rows)

pub stimulus_rows-response_text : (rows : List (List Bool)) → stimulus_rows (response_text rows) ≡ rows
stimulus_rows-response_text rows =
    ap (λ lines. map (λ line. map is_one line) lines) (lines_of-response_text rows) ∙ rows_again rows

-- ---- no fault

no_other : (row : List Bool) → position_or_len is_other (map bit_byte row) ≡ length (map bit_byte row)
no_other [] = refl
no_other (true ∷ row) = let rest = no_other row in omega arith
no_other (false ∷ row) = let rest = no_other row in omega arith

position_other : (row : List Bool) → position is_other (map bit_byte row) ≡ None
position_other row =
    let line = map bit_byte row in
    let past : length line ≤ position_or_len is_other line = omega (arith, no_other row) in
    cond-false (nat_lt (position_or_len is_other line) (length line)) (Some
    (position_or_len is_other line)) None
    (le-ltb (position_or_len is_other line) (length line) past)

row_fault : (width number : ℕ) (row : List Bool) → length row ≡ width
    → line_fault width number (map bit_byte row) ≡ None
row_fault width number row wide =
    let line = map bit_byte row in
    let long : length line ≡ width = simp length-map wide in
    let column = λ (place : ℕ). Character number (place + 1) in
    cond-true (eqb (length line) width) (option_map column (position is_other line)) (Some (Width number))
    (eq-eqb (length line) width long)
    ∙ ap (λ place. option_map column place) (position_other row)

pub first_fault_printed : (count width number : ℕ) (bits : List Bool) → length bits ≡ count * width
    → first_fault width number (map (λ row. map bit_byte row) (rows_within count width bits)) ≡ None
first_fault_printed zero width number bits whole = refl
first_fault_printed (suc count) width number bits whole =
    let others = rows_within count width (drop width bits) in
    let wide : length (take width bits) ≡ width = simp length-take (omega arith) in
    let rest : length (drop width bits) ≡ count * width = simp length-drop (omega arith) in
    ap (λ fault. option_or fault (first_fault width (number + 1) (map (λ row. map bit_byte row) others)))
    (row_fault width number (take width bits) wide)
    ∙ first_fault_printed count width (number + 1) (drop width bits) rest

-- ---- the width

width_of_row : (row : List Bool) (rest : List ℕ)
    → position_or_len is_newline (row_text row ++ rest) ≡ length row
width_of_row [] rest = refl
width_of_row (true ∷ row) rest = let shorter = width_of_row row rest in omega arith
width_of_row (false ∷ row) rest = let shorter = width_of_row row rest in omega arith

pub width_of_rows : (count width : ℕ) (bits : List Bool) → length bits ≡ count * width → 0 < count
    → position_or_len is_newline (response_text (rows_within count width bits)) ≡ width
width_of_rows zero width bits whole some = absurd (omega arith)
width_of_rows (suc count) width bits whole some =
    let wide : length (take width bits) ≡ width = simp length-take (omega arith) in
    width_of_row (take width bits) (response_text (rows_within count width (drop width bits))) ∙ wide

-- ---- the text so far

pub response_text_more : (rows : List (List Bool)) (place : ℕ) → place < length rows
    → response_text (take (place + 1) rows) ≡ response_text (take place rows) ++ row_text
    (get_or rows place [])
response_text_more rows place within =
    let row = get_or rows place [] in
    ap response_text (take_more rows place [] within)
    ∙ flat_map-append row_text (take place rows) (row ∷ [])
    ∙ ap (λ last. response_text (take place rows) ++ last) (append-nil (row_text row))
