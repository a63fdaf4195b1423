-- Words with a name in quotes.
use Rattle.std.specs.Prelude.{ℕ, List}
use Rattle.serde_json.specs.Data.{string}
use Rattle.serde_json.specs.Written.{compact_text}

-- the JSON spelling of a text, in quotes
unfoldable pub quoted : List ℕ → List ℕ
quoted text = compact_text (string text)
