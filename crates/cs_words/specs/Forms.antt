-- The commands by their first words, and the form of the words of each: a `clap` command, which takes the
-- words or refuses them. What it takes, and what matches it finds, is `clap`'s own definition.
use Rattle.std.specs.Prelude.{ℕ, true, List, [], ◌∷◌, Option, Some, find, fold, codes}
use Rattle.std.specs.Option.{option_map}
use Rattle.std.specs.Str.{bytes_eq}
use Rattle.clap.specs.Lexer.{usize_max}
use Rattle.clap.specs.Words.{App, Rule, new_app, new_rule, with_rule}
use Rattle.clap.specs.declared.builder.action.ArgAction.TheVariants.{Set}
use Rattle.cs_words.specs.declared.verb.Verb.{Verb}
use Rattle.cs_words.specs.declared.verb.Verb.TheVariants.{Slow, Sim, SimContext, Mix, Part, Upgrade, Help, Version}

-- ---- first words

abbrev pub verbs : List (List ℕ × Verb)
verbs =
    (codes "slow", Slow) ∷ (codes "sim", Sim) ∷ (codes "sim-context", SimContext) ∷ (codes "mix", Mix)
    ∷ (codes "part", Part) ∷ (codes "upgrade", Upgrade)
    ∷ (codes "help", Help) ∷ (codes "--help", Help) ∷ (codes "-h", Help)
    ∷ (codes "version", Version) ∷ (codes "--version", Version) ∷ (codes "-V", Version) ∷ []

-- the command that a first word names
abbrev pub verb_among : List (List ℕ × Verb) → List ℕ → Option Verb
verb_among verbs word = option_map (λ verb. verb.1) (find (λ verb. bytes_eq verb.0 word) verbs)

abbrev pub verb_of : List ℕ → Option Verb
verb_of word = verb_among verbs word

-- ---- arguments

-- a name or a number in its place: it is required, and has one text
abbrev pub named : List ℕ → Rule
named name = record (new_rule name) { action = Some Set; required = true }

-- any number of names at the end
abbrev pub all_named : List ℕ → Rule
all_named name =
    record (new_rule name) { range = Some (record { start_inclusive = 0; end_inclusive = usize_max }) }

-- an option that must be given, with one text behind its letter
abbrev pub option : List ℕ → ℕ → Rule
option name letter = record (named name) { short = Some letter }

-- an option that may be given, with one text behind its long name
abbrev pub long_option : List ℕ → Rule
long_option name = record (new_rule name) { action = Some Set; long = Some name }

-- ---- commands

-- the `clap` command with these arguments, and else with nothing but what `clap` adds by itself
abbrev pub form : List ℕ → List Rule → App
form name rules = fold with_rule (new_app name) rules

abbrev pub slow_form : App
slow_form = form (codes "slow") (
    named (codes "IN") ∷ named (codes "OUT") ∷ named (codes "CERT") ∷ named (codes "DELAYS")
    ∷ option (codes "-c") 99 ∷ long_option (codes "images")
    ∷ [])

abbrev pub sim_form : App
sim_form = form (codes "sim") (named (codes "NET") ∷ named (codes "STIM") ∷ [])

abbrev pub sim_context_form : App
sim_context_form = form (codes "sim-context") (
    named (codes "NET") ∷ named (codes "STIM") ∷ named (codes "IMAGES")
    ∷ named (codes "K") ∷ named (codes "C")
    ∷ [])

abbrev pub mix_form : App
mix_form = form (codes "mix") (named (codes "OUT") ∷ all_named (codes "STREAMS") ∷ [])

abbrev pub part_form : App
part_form = form (codes "part") (named (codes "K") ∷ named (codes "C") ∷ named (codes "FILE") ∷ [])

abbrev pub upgrade_form : App
upgrade_form = form (codes "upgrade") (named (codes "OLD") ∷ named (codes "NEW") ∷ [])

abbrev pub form_of : Verb → App
form_of Slow = slow_form
form_of Sim = sim_form
form_of SimContext = sim_context_form
form_of Mix = mix_form
form_of Part = part_form
form_of Upgrade = upgrade_form
form_of Help = form (codes "help") []
form_of Version = form (codes "version") []
