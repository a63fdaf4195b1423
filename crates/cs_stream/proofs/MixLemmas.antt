-- Streams in turn: their counts, their rows, and the parts of what is mixed.
use Rattle.std.proofs.Common.{All, ◌≡◌, ℕ, zero, suc, ◌+◌, ◌-◌, ◌*◌, ◌/◌, ◌%◌, ◌<◌, ◌≤◌, Bool, true, false, cond, eqb, List, [], ◌∷◌, Option, Some, None, length, get_or, drop, map, sum, refl, sym, ap, ◌∙◌, arith}
use Rattle.std.proofs.lemmas.Bool.{cond-true, cond-false, eqb-true, eq-eqb, ne_eqb}
use Rattle.std.proofs.lemmas.List.{length-map, get_or-map, at_drop_more, get_or_default}
use Rattle.std.proofs.lemmas.List.FromFn.{fill_by_all}
use Rattle.std.proofs.lemmas.Nat.{div-add-mod', div-mul-add, mod-mul-add, le-div, mod_below}
use Rattle.cs_base.specs.Parts.{part}
use Rattle.cs_stream.specs.declared.stimulus.Stimulus.{Stimulus}
use Rattle.cs_stream.specs.Rows.{rows_of}
use Rattle.cs_stream.specs.Mixing.{counts_of, turns, uneven_from, first_uneven, mixed_row, mixed_rows}
use Rattle.cs_stream.proofs.PartLemmas.{part-range}
use Rattle.cs_stream.proofs.RowLemmas.{length-rows_within, length_row}

-- ---- counts

pub get_or-counts_of : (streams : List Stimulus) (k : ℕ) (s : Stimulus) → k < length streams
    → s ≡ get_or streams k s
    → get_or (counts_of streams) k 0 ≡ s.count
get_or-counts_of streams k s within is =
    get_or-map (λ stream. stream.count) streams k s 0 within
    ∙ ap (λ (stream : Stimulus). stream.count) (sym is)

-- stream k is even
pub uneven_from_on : (total c k : ℕ) (counts : List ℕ) → k < length counts
    → get_or counts k 0 ≡ turns total c k
    → uneven_from total c k (drop k counts) ≡ uneven_from total c (k + 1) (drop (k + 1) counts)
uneven_from_on total c k counts within even =
    at_drop_more (uneven_from total c k) counts k 0 within
    ∙ cond-true (eqb (get_or counts k 0) (turns total c k)) (uneven_from total c (k + 1) (drop
    (k + 1) counts)) (Some k)
    (eq-eqb (get_or counts k 0) (turns total c k) even)

-- stream k is uneven
pub uneven_from_here : (total c k : ℕ) (counts : List ℕ) → k < length counts
    → (get_or counts k 0 ≡ turns total c k → ⊥)
    → uneven_from total c k (drop k counts) ≡ Some k
uneven_from_here total c k counts within uneven =
    at_drop_more (uneven_from total c k) counts k 0 within
    ∙ cond-false (eqb (get_or counts k 0) (turns total c k)) (uneven_from total c (k + 1) (drop
    (k + 1) counts)) (Some k)
    (ne_eqb (get_or counts k 0) (turns total c k) uneven)

even_parts : (b : Bool) (rest : Option ℕ) (k : ℕ) → cond b rest (Some k) ≡ None → (b ≡ true) × (rest ≡ None)
even_parts true rest k even = (refl, even)
even_parts false rest k even = cc

even_from : (total c k : ℕ) (counts : List ℕ) (i : ℕ) → uneven_from total c k counts ≡ None
    → i < length counts
    → get_or counts i 0 ≡ turns total c (k + i)
even_from total c k [] i even within = absurd (omega arith)
even_from total c k (own ∷ others) zero even within =
    let same : k ≡ k + 0 = omega arith in
    eqb-true own (turns total c k)
    (even_parts (eqb own (turns total c k)) (uneven_from total c (k + 1) others) k even).0
    ∙ ap (turns total c) same
even_from total c k (own ∷ others) (suc i) even within =
    let same : k + 1 + i ≡ k + suc i = omega arith in
    even_from total c (k + 1) others i
    (even_parts (eqb own (turns total c k)) (uneven_from total c (k + 1) others) k even).1 (omega arith)
    ∙ ap (turns total c) same

-- where no stream is uneven, each has a row for each of its turns
pub even_at : (counts : List ℕ) (k : ℕ) → first_uneven counts ≡ None → k < length counts
    → get_or counts k 0 ≡ turns (sum counts) (length counts) k
even_at counts k even within =
    let same : 0 + k ≡ k = omega arith in
    even_from (sum counts) (length counts) 0 counts k even within
    ∙ ap (turns (sum counts) (length counts)) same

-- the turn of a place is one of its stream's
pub turn_below : (total c place : ℕ) → 0 < c → place < total → place / c < turns total c (place % c)
turn_below total c place some within =
    let split : place / c * c + place % c ≡ place = div-add-mod' place c in
    let below : place % c < c = mod_below place c some in
    let fits : suc (place / c) * c ≤ total + c - 1 - place % c = omega arith in
    let most : suc (place / c) ≤ (total + c - 1 - place % c) / c =
    le-div (suc (place / c)) (total + c - 1 - place % c) c some fits in
    omega arith

-- the stream of a place has the place's row
pub place_has_row : (streams : List Stimulus) (place : ℕ) (s : Stimulus)
    → first_uneven (counts_of streams) ≡ None
    → 1 ≤ length streams → place < sum (counts_of streams) → s ≡ get_or streams (place % length streams) s
    → place / length streams < s.count
place_has_row streams place s even some within is =
    let total = sum (counts_of streams) in
    let k = place % length streams in
    let below : k < length streams = mod_below place (length streams) some in
    let counted : length (counts_of streams) ≡ length streams =
    length-map streams (λ stream. stream.count) in
    let turn : place / length streams < turns total (length streams) k =
    turn_below total (length streams) place some within in
    let same : turns total (length streams) k ≡ s.count =
    ap (λ n. turns total n k) (sym counted)
    ∙ sym (even_at (counts_of streams) k even (omega arith))
    ∙ get_or-counts_of streams k s below is in
    omega arith

-- ---- rows

lengths_of : (streams : List Stimulus) → map (λ rows. length rows) (map rows_of streams) ≡ counts_of streams
lengths_of [] = refl
lengths_of (s ∷ streams) =
    ap (λ n. n ∷ map (λ rows. length rows) (map rows_of streams))
    (length-rows_within s.count s.width s.bits)
    ∙ ap (λ counts. s.count ∷ counts) (lengths_of streams)

pub total_of : (streams : List Stimulus)
    → sum (map (λ rows. length rows) (map rows_of streams)) ≡ sum (counts_of streams)
total_of streams = ap sum (lengths_of streams)

-- the mixed row at a place, where its stream is known
pub mixed_row_is : (streams : List Stimulus) (place : ℕ) (s : Stimulus)
    → place % length streams < length streams
    → s ≡ get_or streams (place % length streams) s
    → mixed_row (map rows_of streams) place ≡ get_or (rows_of s) (place / length streams) []
mixed_row_is streams place s below is =
    let c = length streams in
    let own : get_or (map rows_of streams) (place % c) [] ≡ rows_of s =
    get_or-map rows_of streams (place % c) s [] below ∙ ap rows_of (sym is) in
    ap (λ n. get_or (get_or (map rows_of streams) (place % n) []) (place / n) [])
    (length-map streams rows_of)
    ∙ ap (λ rows. get_or rows (place / c) []) own

-- a mixed row has the width that all streams have
pub length-mixed_row : (streams : List Stimulus) (place width : ℕ) → first_uneven (counts_of streams) ≡ None
    → 1 ≤ length streams → place < sum (counts_of streams) → All (λ stream. stream.width ≡ width) streams
    → length (mixed_row (map rows_of streams) place) ≡ width
length-mixed_row [] place width even some within widths = absurd (omega arith)
length-mixed_row (first ∷ others) place width even some within widths =
    let streams = first ∷ others in
    let k = place % length streams in
    let below : k < length streams = mod_below place (length streams) some in
    let s = get_or streams k first in
    let is : s ≡ get_or streams k s = get_or_default streams k first s below in
    ap length (mixed_row_is streams place s below is)
    ∙ length_row s.count s.width (place / length streams) s.bits [] s.whole
    (place_has_row streams place s even some within is)
    ∙ widths k first below

-- ---- parts

-- each list is the part of what is mixed, where it has a row for each of its turns
part-mixed_rows : (lists : List (List (List Bool))) (k : ℕ) → k < length lists
    → length (get_or lists k []) ≡ turns (sum (map (λ rows. length rows) lists)) (length lists) k
    → part k (length lists) (mixed_rows lists) ≡ get_or lists k []
part-mixed_rows lists k below even =
    let c = length lists in
    let total = sum (map (λ rows. length rows) lists) in
    let own = get_or lists k [] in
    part-range (mixed_row lists) k c below total
    ∙ sym (fill_by_all (λ i. mixed_row lists (i * c + k)) own (turns total c k) [] even
    (λ i within.
    ap (λ n. get_or own n []) (sym (div-mul-add i c k below))
    ∙ ap (λ n. get_or (get_or lists n []) ((i * c + k) / c) []) (sym (mod-mul-add i c k below))))

-- the parts of mixed streams are the streams
pub part_of_mixed : (streams : List Stimulus) (k : ℕ) → first_uneven (counts_of streams) ≡ None
    → k < length streams
    → part k (length streams) (mixed_rows (map rows_of streams)) ≡ get_or (map rows_of streams) k []
part_of_mixed streams k even within =
    let lists = map rows_of streams in
    let long : length lists ≡ length streams = length-map streams rows_of in
    let counted : length (counts_of streams) ≡ length streams =
    length-map streams (λ stream. stream.count) in
    let below : k < length lists = omega arith in
    let own : get_or (counts_of streams) k 0 ≡ turns (sum (counts_of streams)) (length
    (counts_of streams)) k =
    even_at (counts_of streams) k even (omega arith) in
    let rows : length (get_or lists k []) ≡ turns (sum (map (λ rows. length rows) lists)) (length lists) k =
    sym (get_or-map (λ rows. length rows) lists k [] 0 below)
    ∙ ap (λ counts. get_or counts k 0) (lengths_of streams)
    ∙ own
    ∙ ap (λ n. turns (sum (counts_of streams)) n k) (counted ∙ sym long)
    ∙ ap (λ n. turns n (length lists) k) (sym (total_of streams)) in
    ap (λ n. part k n (mixed_rows lists)) (sym long) ∙ part-mixed_rows lists k below rows
