-- The command that words say.
use Rattle.std.specs.Prelude.{ℕ, ◌<◌, ◌≤◌, ◌≡◌, ⊤, Bool, true, false, ◌&&◌, nat_le, nat_lt, List, [], ◌∷◌, length, map, Result, Ok, Err, if◌then◌else◌, unwrap_or, is_some, IfSome, String, codes}
use Rattle.std.specs.String.{string_bytes}
use Rattle.std.specs.Str.{bytes_eq}
use Rattle.std.specs.Option.{ok_or, option_map_or}
use Rattle.std.specs.declared.alloc.Global.{Global}
use Rattle.clap.specs.Words.{Kinds, Row, Rule, all_of, fault_of, first_of, matches_of}
use Rattle.cs_words.specs.declared.command.Command.{Command}
use Rattle.cs_words.specs.declared.command.Command.TheVariants.{Slow, Sim, SimContext, Mix, Part, Upgrade, Help, Version}
use Rattle.cs_words.specs.declared.read.WordError.{WordError}
use Rattle.cs_words.specs.declared.read.WordError.TheVariants.{NoCommand, BadWords, BadNumber, SameName, NoMemory}
use Rattle.cs_words.specs.declared.verb.Verb.{Verb}
use Rattle.cs_words.specs.declared.verb.Verb.TheVariants as verb
use Rattle.cs_words.specs.Forms.{form_of, verb_of}
use Rattle.cs_words.specs.Numbers.{contexts_of, number_of}

-- the words as their bytes
abbrev pub texts : List (String Global) → List (List ℕ)
texts words = map (λ word. string_bytes word) words

-- what follows from a value, unless there is an error
abbrev pub follow : {T U : Type 0} → Result T WordError → (T → Result U WordError) → Result U WordError
follow (Ok value) next = next value
follow (Err error) next = Err error

-- ---- what the matches of a command's words say, by the names in its form

-- the text of a name; where the form takes the words, a name that is required has one (`AreNamed`)
abbrev pub text_at : List Row → List ℕ → List ℕ
text_at rows name = unwrap_or (first_of name rows) []

-- all texts of a name
abbrev pub texts_at : List Row → List ℕ → List (List ℕ)
texts_at rows name = unwrap_or (all_of name rows) []

abbrev pub number_at : List Row → List ℕ → Result ℕ WordError
number_at rows name = ok_or (number_of (text_at rows name)) (BadNumber name)

abbrev pub contexts_at : List Row → List ℕ → Result ℕ WordError
contexts_at rows name = ok_or (contexts_of (text_at rows name)) (BadNumber name)

-- K and C, where both are numbers, C is in its range and K is below C
abbrev pub below : ℕ → ℕ → Result (ℕ × ℕ) WordError
below k contexts = if nat_lt k contexts then Ok (k, contexts) else Err (BadNumber (codes "K"))

abbrev pub context_at : List Row → Result (ℕ × ℕ) WordError
context_at rows = follow (number_at rows (codes "K")) (λ k. follow (contexts_at rows (codes "C")) (below k))

-- ---- the command of each form's matches

abbrev pub slow_of : List Row → ℕ → Result Command WordError
slow_of rows contexts =
    if bytes_eq (text_at rows (codes "OUT")) (text_at rows (codes "CERT")) then Err SameName
    else Ok (Slow (record {
      input = text_at rows (codes "IN");
      output = text_at rows (codes "OUT");
      cert = text_at rows (codes "CERT");
      delays = text_at rows (codes "DELAYS");
      contexts = contexts;
      images = first_of (codes "images") rows;
    }))

abbrev pub sim_of : List Row → Command
sim_of rows = Sim (record { net = text_at rows (codes "NET"); stim = text_at rows (codes "STIM") })

abbrev pub sim_context_of : List Row → ℕ × ℕ → Result Command WordError
sim_context_of rows context = Ok (SimContext (record {
  net = text_at rows (codes "NET");
  stim = text_at rows (codes "STIM");
  images = text_at rows (codes "IMAGES");
  k = context.0;
  contexts = context.1;
}))

-- there are 1 to 16 streams
abbrev pub are_streams : List (List ℕ) → Bool
are_streams streams = nat_le 1 (length streams) && nat_le (length streams) 16

abbrev pub mix_of : List Row → Result Command WordError
mix_of rows =
    if are_streams (texts_at rows (codes "STREAMS"))
    then Ok (Mix (record { output = text_at rows (codes "OUT"); streams = texts_at rows (codes "STREAMS") }))
    else Err (BadNumber (codes "streams"))

abbrev pub part_of : List Row → ℕ × ℕ → Result Command WordError
part_of rows context =
    Ok (Part (record { k = context.0; contexts = context.1; file = text_at rows (codes "FILE") }))

abbrev pub upgrade_of : List Row → Command
upgrade_of rows = Upgrade (record { old = text_at rows (codes "OLD"); new = text_at rows (codes "NEW") })

abbrev pub said_of : Verb → List Row → Result Command WordError
said_of verb.Slow rows = follow (contexts_at rows (codes "-c")) (slow_of rows)
said_of verb.Sim rows = Ok (sim_of rows)
said_of verb.SimContext rows = follow (context_at rows) (sim_context_of rows)
said_of verb.Mix rows = mix_of rows
said_of verb.Part rows = follow (context_at rows) (part_of rows)
said_of verb.Upgrade rows = Ok (upgrade_of rows)
said_of verb.Help rows = Ok Help
said_of verb.Version rows = Ok Version

-- ---- all words

-- each name that is required has a text in the matches
abbrev pub HasText : Bool → List ℕ → List Row → Type 0
HasText true name rows = is_some (first_of name rows) ≡ true
HasText false name rows = ⊤

abbrev pub HasTexts : List Rule → List Row → Type 0
HasTexts [] rows = ⊤
HasTexts (rule ∷ rules) rows = HasText rule.required rule.id rows × HasTexts rules rows

-- so it is in the matches of these words, by the form of the command that the first of them names
unfoldable pub AreNamed : List (List ℕ) → Type 0
AreNamed [] = ⊤
AreNamed (name ∷ words) = IfSome (verb_of name)
    (λ verb. HasTexts (form_of verb).top.rules (matches_of (form_of verb) (name ∷ words)))

-- what is said where the form finds no fault in the words; else that those behind this name are refused
abbrev pub taken_by : Kinds → List ℕ → Result Command WordError → Result Command WordError
taken_by [] name said = said
taken_by (_ ∷ _) name said = Err (BadWords name)

-- the command that the words of a form say, the first of which is this name
unfoldable pub said_by : Verb → List ℕ → List (List ℕ) → Result Command WordError
said_by verb name words =
    taken_by (fault_of (form_of verb) words) name (said_of verb (matches_of (form_of verb) words))

-- the command of the words after the program's name, or why there is none; that is never want of memory
abbrev pub command_of : List (List ℕ) → Result Command WordError
command_of [] = Err NoCommand
command_of (name ∷ words) =
    option_map_or (λ verb. said_by verb name (name ∷ words)) (verb_of name) (Err NoCommand)

-- what reading the words answers: just what they say, unless memory ran out
abbrev pub Reads : {T : Type 0} → Result T WordError → Result T WordError → Type 0
Reads said (Ok value) = said ≡ Ok value
Reads said (Err NoMemory) = ⊤
Reads said (Err error) = said ≡ Err error

-- `mix` has 1 to 16 streams, and `sim-context` and `part` a place below their number of contexts
abbrev pub IsWithin : Command → Type 0
IsWithin (SimContext words) = words.k < words.contexts
IsWithin (Mix words) = (1 ≤ length words.streams) × (length words.streams ≤ 16)
IsWithin (Part words) = words.k < words.contexts
IsWithin _ = ⊤
