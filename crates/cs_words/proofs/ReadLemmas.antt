-- Words that a form takes or refuses.
use Rattle.std.proofs.Common.{◌≡◌, ◌≢◌, ◌<◌, ◌∙◌, ◌⊎◌, inl, inr, ℕ, true, List, [], ◌∷◌, get_or, length, arith, Some, Result, Ok, Err, IfOk, IfSome, IsErrAnd, refl, sym, ap, subst}
use Rattle.std.specs.Prelude.{String}
use Rattle.std.specs.String.{string_bytes}
use Rattle.std.specs.declared.alloc.Global.{Global}
use Rattle.clap.specs.declared.error.Error.{Error}
use Rattle.clap.specs.declared.error.kind.ErrorKind.TheVariants.{OutOfMemory}
use Rattle.clap.specs.Words.{App, HasKind, Kinds, Row, fault_of, is_simple, is_simple_and_free, kind_of, matches_of}
use Rattle.clap.proofs.OnLiterals.{clap_on_literals}
use Rattle.clap.proofs.WalkLemmas.{both}
use Rattle.cs_words.specs.declared.command.Command.{Command}
use Rattle.cs_words.specs.declared.read.WordError.{WordError}
use Rattle.cs_words.specs.declared.read.WordError.TheVariants.{BadWords, NoMemory}
use Rattle.cs_words.specs.declared.verb.Verb.{Verb}
use Rattle.cs_words.specs.declared.verb.Verb.TheVariants.{Slow, Sim, SimContext, Mix, Part, Upgrade, Help, Version}
use Rattle.cs_words.specs.Commands.{AreNamed, HasTexts, Reads, said_by, said_of, taken_by, texts}
use Rattle.cs_words.specs.Forms.{form_of, verb_of}

-- `clap` tells of each form what it takes
pub form_is_simple : (verb : Verb) → is_simple_and_free (form_of verb) ≡ true
unfolding clap_on_literals
form_is_simple Slow = refl
form_is_simple Sim = refl
form_is_simple SimContext = refl
form_is_simple Mix = refl
form_is_simple Part = refl
form_is_simple Upgrade = refl
form_is_simple Help = refl
form_is_simple Version = refl

pub app_is_simple : (app : App) → is_simple_and_free app ≡ true → is_simple app ≡ true
app_is_simple app plain = (both (is_simple app) _ plain).0

taken : (kinds : Kinds) (name : List ℕ) (said : Result Command WordError) → kinds ≡ []
    → taken_by kinds name said ≡ said
taken [] name said none = refl
taken (_ ∷ _) name said none = cc

refused : (kinds : Kinds) (name : List ℕ) (said : Result Command WordError) → kinds ≢ []
    → taken_by kinds name said ≡ Err (BadWords name)
refused [] name said some = absurd (some refl)
refused (_ ∷ _) name said some = refl

-- words that the form takes say what its matches say
pub said_where_taken : (verb : Verb) (name : List ℕ) (words : List (List ℕ)) (rows : List Row)
    (result : Result Command WordError)
    → fault_of (form_of verb) words ≡ [] → rows ≡ matches_of (form_of verb) words
    → Reads (said_of verb rows) result
    → Reads (said_by verb name words) result
unfolding said_by
said_where_taken verb name words rows result none same reads =
    let said : said_of verb rows ≡ taken_by (fault_of (form_of verb) words) name
    (said_of verb (matches_of (form_of verb) words)) =
    ap (said_of verb) same ∙ sym (taken (fault_of (form_of verb) words) name
    (said_of verb (matches_of (form_of verb) words)) none) in
    subst (λ s. Reads s result) said reads

refused_by : (verb : Verb) (name : List ℕ) (words : List (List ℕ)) (error : WordError)
    → (error ≡ NoMemory) ⊎ ((error ≡ BadWords name) × (fault_of (form_of verb) words ≢ []))
    → Reads (said_by verb name words) (Err error)
unfolding said_by
refused_by verb name words error (inl none) = subst (λ e. Reads (said_by verb name words) (Err e))
    (sym none) tt
refused_by verb name words error (inr (is, some)) =
    subst (λ e. Reads (said_by verb name words) (Err e)) (sym is)
    (refused (fault_of (form_of verb) words) name _ some)

-- words that the form refuses are refused by their first, where that is handed on
pub said_where_refused : (verb : Verb) (name : List ℕ) (words : List (List ℕ)) (error : WordError)
    (result : Result Command WordError)
    → IsErrAnd result (λ e. e ≡ error) → (error ≡ NoMemory)
    ⊎ ((error ≡ BadWords name) × (fault_of (form_of verb) words ≢ []))
    → Reads (said_by verb name words) result
said_where_refused verb name words error (Ok command) is why = absurd is
said_where_refused verb name words error (Err other) is why =
    subst (λ e. Reads (said_by verb name words) (Err e)) (sym is) (refused_by verb name words error why)

-- what holds in any case holds where a command is said
pub always : {P : Type 0} (result : Result Command WordError) → P → IfOk result (λ _. P)
always (Ok command) holds = holds
always (Err error) holds = tt

-- the first word names this command, and its form's names have texts
pub named_by : (name : List ℕ) (words : List (List ℕ)) (verb : Verb) → verb_of name ≡ Some verb
    → HasTexts (form_of verb).top.rules (matches_of (form_of verb) (name ∷ words)) → AreNamed (name ∷ words)
unfolding AreNamed
named_by name words verb is has =
    subst (λ found. IfSome found (λ v. HasTexts (form_of v).top.rules
    (matches_of (form_of v) (name ∷ words)))) (sym is) has

-- so it is of an answer to words of which this is the first
pub named_where_said : (words : List (String Global)) (item : String Global) (name : List ℕ) (verb : Verb)
    (result : Result Command WordError)
    → 0 < length words → item ≡ get_or words 0 item → name ≡ string_bytes item → verb_of name ≡ Some verb
    → IfOk result (λ _. HasTexts (form_of verb).top.rules (matches_of (form_of verb) (texts words)))
    → IfOk result (λ _. AreNamed (texts words))
named_where_said [] item name verb result some first same is has = absurd (omega arith)
named_where_said (word ∷ words) item name verb (Err error) some first same is has = tt
named_where_said (word ∷ words) item name verb (Ok command) some first same is has =
    named_by (string_bytes word) (texts words) verb
    (ap verb_of (ap string_bytes (sym first) ∙ sym same) ∙ is) has

-- an error that isn't want of memory comes only where there is a fault
pub some_fault : (kinds : Kinds) (error : Error) → HasKind kinds error → kind_of error ≢ OutOfMemory
    → kinds ≢ []
some_fault [] error (inl memory) other none = other memory
some_fault [] error (inr among) other none = among
some_fault (kind ∷ kinds) error has other none = absurd (cc)
