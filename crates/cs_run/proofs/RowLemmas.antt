-- The rows of streams.
use Rattle.std.proofs.Common.{◌≡◌, ◌∙◌, ◌⊎◌, ◌<◌, ◌≤◌, ◌^◌, ℕ, zero, suc, Bool, List, [], ◌∷◌, length, map, get_or, Option, None, Some, ap, arith, inl, inr, refl, subst, sym}
use Rattle.std.specs.Prelude.{All, Err, IfErr, IfOk, Ok, OnOk, Result}
use Rattle.std.specs.List.{position_or_len}
use Rattle.std.specs.Option.{option_map, option_or}
use Rattle.std.proofs.lemmas.List.Elements.{All-cons, All-nil}
use Rattle.cs_base.specs.Parts.{part}
use Rattle.cs_stream.specs.declared.error.StimError.{StimError}
use Rattle.cs_stream.specs.declared.error.StimError.TheVariants.{NoMemory, Uneven}
use Rattle.cs_stream.specs.declared.stimulus.Stimulus.{Stimulus}
use Rattle.cs_stream.specs.Mixing.{AreOfOneWidth, AreShort, counts_of, first_uneven, mixed_rows, uneven_fault}
use Rattle.cs_stream.specs.Lines.{is_newline}
use Rattle.cs_stream.specs.Printing.{response_text}
use Rattle.cs_stream.specs.Reading.{fault_of as stimulus_fault, stimulus_rows}
use Rattle.cs_stream.specs.Rows.{rows_of, rows_within}
use Rattle.cs_stream.proofs.RowLemmas.{length-rows_within}
use Rattle.cs_run.specs.Inputs.{AreFew, most_bytes}
use Rattle.cs_run.specs.Part.{own_fault}
use Rattle.cs_run.specs.Mix.{IsMixOf, PartsGiveBack, first_width, mix_fault, stream_fault, stream_rows, uneven_streams}
use Rattle.cs_run.specs.Rows.{AreRowsOfStreams}

-- ---- streams that were read

pub length-rows : (width : ℕ) (streams : List (List ℕ)) (rows : List Stimulus) → AreRowsOfStreams width streams rows → length rows ≡ length streams
length-rows width [] [] are = refl
length-rows width [] (first ∷ rows) are = absurd are
length-rows width (bytes ∷ streams) [] are = absurd are
length-rows width (bytes ∷ streams) (first ∷ rows) are = let rest = length-rows width streams rows are.1 in omega (arith, rest)

pub no_fault : (width : ℕ) (streams : List (List ℕ)) (rows : List Stimulus) → AreRowsOfStreams width streams rows → stream_fault width streams ≡ None
no_fault width [] [] are = refl
no_fault width [] (first ∷ rows) are = absurd are
no_fault width (bytes ∷ streams) [] are = absurd are
no_fault width (bytes ∷ streams) (first ∷ rows) are =
    ap (λ (f : Option StimError). option_or f (stream_fault width streams)) are.0.faultless ∙ no_fault width streams rows are.1

rows_are : (width : ℕ) (streams : List (List ℕ)) (rows : List Stimulus) → AreRowsOfStreams width streams rows → map rows_of rows ≡ stream_rows streams
rows_are width [] [] are = refl
rows_are width [] (first ∷ rows) are = absurd are
rows_are width (bytes ∷ streams) [] are = absurd are
rows_are width (bytes ∷ streams) (first ∷ rows) are =
    let here : rows_of first ≡ stimulus_rows bytes = are.0.are in
    let rest : map rows_of rows ≡ stream_rows streams = rows_are width streams rows are.1 in cc

all_wide : (width : ℕ) (streams : List (List ℕ)) (rows : List Stimulus) → AreRowsOfStreams width streams rows → All (λ (s : Stimulus). s.width ≡ width) rows
all_wide width [] [] are = All-nil (λ (s : Stimulus). s.width ≡ width)
all_wide width [] (first ∷ rows) are = absurd are
all_wide width (bytes ∷ streams) [] are = absurd are
all_wide width (bytes ∷ streams) (first ∷ rows) are =
    All-cons (λ (s : Stimulus). s.width ≡ width) first rows are.0.wide (all_wide width streams rows are.1)

-- they are of one width
pub one_width : (width : ℕ) (streams : List (List ℕ)) (rows : List Stimulus) → AreRowsOfStreams width streams rows → AreOfOneWidth rows
one_width width [] [] are = tt
one_width width [] (first ∷ rows) are = absurd are
one_width width (bytes ∷ streams) [] are = absurd are
one_width width (bytes ∷ streams) (first ∷ rows) are =
    subst (λ w. All (λ (s : Stimulus). s.width ≡ w) rows) (sym are.0.wide) (all_wide width streams rows are.1)

-- a file has fewer than 2^32 bytes, and no more rows
short_one : (bytes : List ℕ) (rows : Stimulus) → length bytes ≤ most_bytes → rows.count ≤ length bytes → rows.count < 2 ^ 32
short_one bytes rows few counted = omega (arith, few, counted)

pub short : (width : ℕ) (streams : List (List ℕ)) (rows : List Stimulus) → AreRowsOfStreams width streams rows → AreFew streams → AreShort rows
short width [] [] are few = All-nil (λ (s : Stimulus). s.count < 2 ^ 32)
short width [] (first ∷ rows) are few = absurd are
short width (bytes ∷ streams) [] are few = absurd are
short width (bytes ∷ streams) (first ∷ rows) are few =
    All-cons (λ (s : Stimulus). s.count < 2 ^ 32) first rows (short_one bytes first few.0 are.0.few) (short width streams rows are.1 few.1)

-- ---- counts

counts : (width : ℕ) (streams : List (List ℕ)) (rows : List Stimulus) → AreRowsOfStreams width streams rows →
    counts_of rows ≡ map (λ (r : List (List Bool)). length r) (stream_rows streams)
counts width [] [] are = refl
counts width [] (first ∷ rows) are = absurd are
counts width (bytes ∷ streams) [] are = absurd are
counts width (bytes ∷ streams) (first ∷ rows) are =
    let here : first.count ≡ length (stimulus_rows bytes) =
    sym (length-rows_within first.count first.width first.bits) ∙ ap (λ (r : List (List Bool)). length r) are.0.are in
    let rest : counts_of rows ≡ map (λ (r : List (List Bool)). length r) (stream_rows streams) = counts width streams rows are.1 in cc

-- streams that are read are uneven where their texts are
uneven_are : (width : ℕ) (streams : List (List ℕ)) (rows : List Stimulus) → AreRowsOfStreams width streams rows → uneven_fault rows ≡ uneven_streams streams
uneven_are width streams rows are = ap (λ counted. option_map (λ k. Uneven k) (first_uneven counted)) (counts width streams rows are)

-- the fault of streams that are read
fault_is : (streams : List (List ℕ)) (rows : List Stimulus) → AreRowsOfStreams (first_width streams) streams rows → mix_fault streams ≡ uneven_fault rows
fault_is streams rows are =
    ap (λ (f : Option StimError). option_or f (uneven_streams streams)) (no_fault (first_width streams) streams rows are)
    ∙ sym (uneven_are (first_width streams) streams rows are)

-- ---- parts

stream_at : (streams : List (List ℕ)) (k : ℕ) → k < length streams → get_or (stream_rows streams) k [] ≡ stimulus_rows (get_or streams k [])
stream_at [] k within = absurd (omega arith)
stream_at (bytes ∷ streams) zero within = refl
stream_at (bytes ∷ streams) (suc k) within = stream_at streams k (omega arith)

-- the parts of mixed rows, by the texts of their streams
parts_are : (width : ℕ) (streams : List (List ℕ)) (rows : List Stimulus) (mixed : List (List Bool)) → AreRowsOfStreams width streams rows →
    ((k : ℕ) → k < length rows → part k (length rows) mixed ≡ get_or (map rows_of rows) k []) →
    (k : ℕ) → k < length streams → part k (length streams) mixed ≡ stimulus_rows (get_or streams k [])
parts_are width streams rows mixed are parts k within =
    let same : length rows ≡ length streams = length-rows width streams rows are in
    let below : k < length rows = omega (arith, same, within) in
    ap (λ n. part k n mixed) (sym same) ∙ parts k below
    ∙ ap (λ (r : List (List (List Bool))). get_or r k []) (rows_are width streams rows are)
    ∙ stream_at streams k within

-- ---- what is mixed of streams that are read

is_mix : (streams : List (List ℕ)) (rows : List Stimulus) (mixed : Stimulus) → AreRowsOfStreams (first_width streams) streams rows →
    rows_of mixed ≡ mixed_rows (map rows_of rows) →
    ((k : ℕ) → k < length rows → part k (length rows) (rows_of mixed) ≡ get_or (map rows_of rows) k []) → uneven_fault rows ≡ None →
    IsMixOf streams mixed
is_mix streams rows mixed are in_turn parts even = record {
  faultless = fault_is streams rows are ∙ even;
  are = in_turn ∙ ap mixed_rows (rows_are (first_width streams) streams rows are);
  parts = parts_are (first_width streams) streams rows (rows_of mixed) are parts;
}

mix_error : (streams : List (List ℕ)) (rows : List Stimulus) (error : StimError) → AreRowsOfStreams (first_width streams) streams rows →
    (error ≡ NoMemory) ⊎ (uneven_fault rows ≡ Some error) → (error ≡ NoMemory) ⊎ (mix_fault streams ≡ Some error)
mix_error streams rows error are (inl memory) = inl memory
mix_error streams rows error are (inr uneven) = inr (fault_is streams rows are ∙ uneven)

-- the same of what the calls give
pub here : (streams : List (List ℕ)) (width : ℕ) (rows slice : List Stimulus) → width ≡ first_width streams → slice ≡ rows →
    AreRowsOfStreams width streams rows → AreRowsOfStreams (first_width streams) streams slice
here streams width rows slice wide same are =
    subst (λ w. AreRowsOfStreams w streams slice) wide (subst (λ r. AreRowsOfStreams width streams r) (sym same) are)

pub if_mix : {E : Type 0} (streams : List (List ℕ)) (rows : List Stimulus) (result : Result Stimulus E) → AreRowsOfStreams (first_width streams) streams rows →
    IfOk result (λ mixed. rows_of mixed ≡ mixed_rows (map rows_of rows)) →
    IfOk result (λ mixed. (k : ℕ) → k < length rows → part k (length rows) (rows_of mixed) ≡ get_or (map rows_of rows) k []) →
    OnOk result (uneven_fault rows ≡ None) → IfOk result (IsMixOf streams)
if_mix streams rows (Err error) are in_turn parts even = tt
if_mix streams rows (Ok mixed) are in_turn parts even = is_mix streams rows mixed are in_turn parts even

pub if_error : {T : Type 0} (streams : List (List ℕ)) (rows : List Stimulus) (result : Result T StimError) → AreRowsOfStreams (first_width streams) streams rows →
    IfErr result (λ e. (e ≡ NoMemory) ⊎ (uneven_fault rows ≡ Some e)) → IfErr result (λ e. (e ≡ NoMemory) ⊎ (mix_fault streams ≡ Some e))
if_error streams rows (Err error) are faulty = mix_error streams rows error are faulty
if_error streams rows (Ok mixed) are faulty = tt

-- ---- what is written is read back

own_at : (count width : ℕ) (bits : List Bool) → stimulus_fault width (response_text (rows_within count width bits)) ≡ None →
    (0 < count → position_or_len is_newline (response_text (rows_within count width bits)) ≡ width) →
    own_fault (response_text (rows_within count width bits)) ≡ None
own_at zero width bits faultless wide = refl
own_at (suc count) width bits faultless wide =
    ap (λ w. stimulus_fault w (response_text (rows_within (suc count) width bits))) (wide (omega arith)) ∙ faultless

-- printed rows are as wide as their first line
pub own_faultless : (rows : Stimulus) → stimulus_fault rows.width (response_text (rows_of rows)) ≡ None →
    (0 < rows.count → position_or_len is_newline (response_text (rows_of rows)) ≡ rows.width) → own_fault (response_text (rows_of rows)) ≡ None
own_faultless rows faultless wide = own_at rows.count rows.width rows.bits faultless wide

pub gives_back : (streams : List (List ℕ)) (rows : Stimulus) (text : List ℕ) → IsMixOf streams rows → text ≡ response_text (rows_of rows) →
    own_fault (response_text (rows_of rows)) ≡ None → stimulus_rows (response_text (rows_of rows)) ≡ rows_of rows → PartsGiveBack streams text
gives_back streams rows text mix is faultless read = λ k below. record {
  faultless = ap own_fault is ∙ faultless;
  is = sym (ap response_text (ap (λ r. part k (length streams) r) (ap stimulus_rows is ∙ read) ∙ mix.parts k below));
}
