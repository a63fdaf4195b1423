-- A word that a loop merges bit by bit, among the others.
use Rattle.std.proofs.Common.{◌≡◌, ◌∙◌, ℕ, zero, suc, ◌+◌, ◌<◌, [], ◌∷◌, Bool, ap, arith, false, get_or, length, set-set, sym}
use Rattle.std.specs.Prelude.{slice_set}
use Rattle.std.proofs.lemmas.List.{get_or-set_same, set-get_or}
use Rattle.cs_cells.specs.Memories.{Word, Words}
use Rattle.cs_sim.proofs.Overwritten.{written, written_at, written_more}

-- a word that has a bit is there
there : (words : Words) (place i : ℕ) → i < length (get_or words place []) → place < length words
there [] place i within = absurd (omega arith)
there (word ∷ words) zero i within = omega arith
there (word ∷ words) (suc place) i within = omega (arith, there words place i within)

-- one bit more is put
pub bit_put : (words now : Words) (place i : ℕ) (new : Word) (bit : Bool) → length new ≡ length (get_or words place [])
    → i < length (get_or words place []) → now ≡ slice_set words place (written new i (get_or words place []))
    → bit ≡ get_or new i false
    → slice_set now place (slice_set (get_or now place []) i bit)
    ≡ slice_set words place (written new (i + 1) (get_or words place []))
bit_put words now place i new bit same within so_far is =
    let old = get_or words place [] in
    let part = written new i old in
    ap (λ (ws : Words). slice_set ws place (slice_set (get_or ws place []) i bit)) so_far
    ∙ ap (λ (word : Word). slice_set (slice_set words place part) place (slice_set word i bit))
    (get_or-set_same words place part [] (there words place i within))
    ∙ set-set words place part (slice_set part i bit)
    ∙ ap (slice_set words place) (written_more new old i false bit same within is)

-- one bit more is as it was
pub bit_kept : (words now : Words) (place i : ℕ) (new : Word) → length new ≡ length (get_or words place [])
    → i < length (get_or words place []) → now ≡ slice_set words place (written new i (get_or words place []))
    → get_or new i false ≡ get_or (get_or words place []) i false
    → now ≡ slice_set words place (written new (i + 1) (get_or words place []))
bit_kept words now place i new same within so_far kept =
    let old = get_or words place [] in
    let part = written new i old in
    so_far
    ∙ ap (slice_set words place)
    (sym (set-get_or part i false)
    ∙ written_more new old i false (get_or part i false) same within (written_at new old i false same ∙ sym kept))
