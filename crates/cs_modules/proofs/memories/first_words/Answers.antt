use Rattle.std.proofs.Common.{◌≡◌, ◌+◌, ◌*◌, ℕ, List, codes, map, rules, subst}
use Rattle.std.specs.Prelude.{IfOk}
use Rattle.cs_cells.specs.Memories.{word_count}
use Rattle.cs_json.specs.declared.document.CellDecl.{CellDecl}
use Rattle.cs_modules.specs.Memories.{first_words, memory_shape}
use Rattle.cs_modules.specs.Digits.{is_one}
use Rattle.cs_modules.specs.Pins.{count_from, number_at, parameter}
use Rattle.cs_modules.proofs.memories.first_words.Goals as goal

-- the words by their digits, their width and their number
words_are : (cell : CellDecl) (digits : List ℕ) (width count : ℕ) → digits ≡ parameter cell (codes "INIT")
    → width ≡ number_at cell (codes "WIDTH") → count ≡ word_count (memory_shape cell)
    → map (λ i. map (λ j. is_one digits (i * width + j)) (count_from 0 width)) (count_from 0 count)
    ≡ first_words cell (memory_shape cell)
words_are cell digits width count are wide many =
    λ k. map (λ i. map (λ j. is_one (are k) (i * wide k + j)) (count_from 0 (wide k))) (count_from 0 (many k))

pub returns : goal.returns
returns c =
    subst (λ made. IfOk c.words_of.result (λ words. words ≡ made))
    (words_are c.args.cell.now c.as_slice.result.now c.in_ok-width.width c.min.result
    (search rules) (search rules) (search rules)) c.words_of.ensures
