-- A stimulus read line by line.
use Rattle.std.proofs.Common.{◌≡◌, ℕ, ◌+◌, ◌*◌, Bool, List, [], ◌∷◌, ◌++◌, Some, None, length, map, sym, ap, ◌∙◌}
use Rattle.std.specs.Option.{option_or}
use Rattle.std.proofs.lemmas.List.{length-map, append_assoc}
use Rattle.cs_stream.specs.declared.error.StimError.{StimError}
use Rattle.cs_stream.specs.Rows.{rows_within}
use Rattle.cs_stream.specs.Lines.{lines_of}
use Rattle.cs_stream.specs.Reading.{is_one, line_fault, first_fault, stimulus_rows}
use Rattle.cs_stream.proofs.RowLemmas.{rows_within-push}

-- one more line without a fault
pub first_fault_on : (width number : ℕ) (rest line after : List ℕ) → lines_of rest ≡ line ∷ lines_of after
    → line_fault width number line ≡ None
    → first_fault width number (lines_of rest) ≡ first_fault width (number + 1) (lines_of after)
first_fault_on width number rest line after lines sound =
    ap (first_fault width number) lines
    ∙ ap (λ fault. option_or fault (first_fault width (number + 1) (lines_of after))) sound

-- the first line has a fault
pub first_fault_here : (width number : ℕ) (rest line after : List ℕ) (e : StimError)
    → lines_of rest ≡ line ∷ lines_of after
    → line_fault width number line ≡ Some e → first_fault width number (lines_of rest) ≡ Some e
first_fault_here width number rest line after e lines faulty =
    ap (first_fault width number) lines
    ∙ ap (λ fault. option_or fault (first_fault width (number + 1) (lines_of after))) faulty

-- one more row
pub rows_on : (bytes rest line after : List ℕ) (count width : ℕ) (bits bits' : List Bool)
    → stimulus_rows bytes ≡ rows_within count width bits ++ stimulus_rows rest
    → lines_of rest ≡ line ∷ lines_of after → length bits ≡ count * width → length line ≡ width
    → bits' ≡ bits ++ map is_one line
    → stimulus_rows bytes ≡ rows_within (count + 1) width bits' ++ stimulus_rows after
rows_on bytes rest line after count width bits bits' so_far lines whole wide more =
    let row = map is_one line in
    let long : length row ≡ width = simp length-map wide in
    so_far
    ∙ ap (λ others. rows_within count width bits ++ map (λ l. map is_one l) others) lines
    ∙ sym (append_assoc (rows_within count width bits) (row ∷ []) (stimulus_rows after))
    ∙ ap (λ rows. rows ++ stimulus_rows after) (sym (rows_within-push count width bits row whole long))
    ∙ ap (λ all. rows_within (count + 1) width all ++ stimulus_rows after) (sym more)
