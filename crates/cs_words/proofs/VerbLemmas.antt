-- Words among labelled commands.
use Rattle.std.proofs.Common.{◌≡◌, ◌∙◌, ℕ, List, map, find, option_map, Option, Some, None, refl, ap, bytes_eq}
use Rattle.clap.proofs.WalkLemmas.{find-map}
use Rattle.cs_words.specs.Forms.{verb_among}
use Rattle.cs_words.specs.declared.verb.Row.{Row}
use Rattle.cs_words.specs.declared.verb.Verb.{Verb}

abbrev label : Row → List ℕ × Verb
label row = (row.0.now, row.1)

same_verb : (found : Option Row) → option_map (λ row. row.1) found ≡ option_map (λ verb. verb.1)
    (option_map label found)
same_verb None = refl
same_verb (Some row) = refl

-- the labels stand behind references or not
pub labelled : (rows : List Row) (word : List ℕ)
    → option_map (λ row. row.1) (find (λ row. bytes_eq row.0.now word) rows)
    ≡ verb_among (map (λ row. (row.0.now, row.1)) rows) word
labelled rows word =
    same_verb (find (λ row. bytes_eq row.0.now word) rows)
    ∙ ap (option_map (λ verb. verb.1)) (find-map (λ verb. bytes_eq verb.0 word) label rows)
