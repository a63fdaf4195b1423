-- What a form takes has a text for each name that is required.
use Rattle.std.proofs.Common.{◌≡◌, ◌<◌, ◌≤◌, ◌∙◌, ◌&&◌, ◌||◌, ℕ, zero, suc, Bool, true, false, not, List, [], ◌∷◌, Option, Some, None, length, map, codes, is_some, inl, inr, arith, refl, sym, ap, subst}
use Rattle.std.specs.List.{list_all, list_any, slice_index_or}
use Rattle.std.specs.Str.{bytes_eq}
use Rattle.std.proofs.lemmas.Slice.Eq.{bytes_eq-Decides}
use Rattle.clap.specs.Built.{IsAuto, IsParsedFrom, IsPlain, IsPlainArg}
use Rattle.clap.specs.Facts.{args_of, least_values, unwrap_or_range}
use Rattle.clap.specs.Matches.{found_of}
use Rattle.clap.specs.Walk.{Rule, Row, Text, is_empty, is_free_arg, is_simple_arg, rows_of, rule_of}
use Rattle.clap.specs.Simple.{App, Shape, app_of, shape_of}
use Rattle.clap.specs.declared.builder.action.ArgAction.{ArgAction}
use Rattle.clap.specs.declared.builder.action.ArgAction.TheVariants.{Set}
use Rattle.clap.specs.declared.builder.arg.Arg.{Arg}
use Rattle.clap.specs.declared.builder.command.Command.{Command}
use Rattle.clap.specs.declared.builder.command.Command.TheViews.{out-Command}
use Rattle.clap.specs.declared.parser.matches.ArgMatches.{ArgMatches}
use Rattle.clap.proofs.CallerLemmas.{required_has_value}
use Rattle.clap.proofs.SimpleLemmas.{is_false, is_nil}
use Rattle.clap.proofs.TakesLemmas.{each_rule}
use Rattle.clap.proofs.WalkLemmas.{both, first_value-rows}
use Rattle.cs_words.specs.declared.verb.Verb.{Verb}
use Rattle.cs_words.specs.declared.verb.Verb.TheVariants.{Slow, Sim, SimContext, Mix, Part, Upgrade, Help, Version}
use Rattle.cs_words.specs.Commands.{HasText, HasTexts}
use Rattle.cs_words.specs.Forms.{form_of}

-- ---- tests of a form

is_set : Option ArgAction → Bool
is_set (Some Set) = true
is_set _ = false

-- the name is none that `clap` adds by itself
is_own : Text → Bool
is_own name =
    not (is_empty name) && (not (bytes_eq name (codes "help")) && not (bytes_eq name (codes "version")))

-- a required argument has one text
takes_one : Rule → Bool
takes_one rule = not rule.required || (is_set rule.action && not (is_some rule.range))

are_distinct : List Rule → Bool
are_distinct [] = true
are_distinct (rule ∷ rules) = not (list_any (λ other. bytes_eq other.id rule.id) rules) && are_distinct rules

is_clear_rule : Rule → Bool
is_clear_rule rule = rule.is_simple && (rule.is_free && (is_own rule.id && takes_one rule))

is_clear : Shape → Bool
is_clear s =
    s.is_plain && (not s.subcommand_negates_reqs && (list_all is_clear_rule s.rules && are_distinct s.rules))

-- ---- what the tests say of an argument

no_value : {X : Type 0} (o : Option X) → not (is_some o) ≡ true → o ≡ None
no_value None h = refl
no_value (Some x) h = absurd (let both : false ≡ true = h in cc)

set_action : (action : Option ArgAction) → is_set action ≡ true → action ≡ Some Set
unfolding is_set
set_action (Some Set) h = refl
set_action None h = absurd (let both : false ≡ true = h in cc)
set_action (Some _) h = absurd (let both : false ≡ true = h in cc)

plain_arg : (a : Arg) → is_simple_arg a ≡ true → is_free_arg a ≡ true → IsPlainArg a
plain_arg a simple free =
    let p = both (is_empty a.overrides.items) _ simple in
    let q = both (is_empty a.default_vals_ifs.items) _ p.1 in
    let r = both (is_empty a.groups.items) _ q.1 in
    let f = both (not a.exclusive) _ free in
    let g = both (is_empty a.conflicts.items) _ f.1 in
    (is_false _ f.0, is_nil _ g.0, is_nil _ p.0, is_nil _ r.0)

no_delimiter : (a : Arg) → is_simple_arg a ≡ true → a.val_delim ≡ None
no_delimiter a simple =
    let p = both (is_empty a.overrides.items) _ simple in
    let q = both (is_empty a.default_vals_ifs.items) _ p.1 in
    let r = both (is_empty a.groups.items) _ q.1 in
    let s = both (not (is_some a.val_delim)) _ r.1 in
    no_value a.val_delim s.0

named_itself : (name : Text) → is_own name ≡ true → name ≡ [] → ⊥
unfolding is_own
named_itself [] own none = let both : false ≡ true = own in absurd (cc)
named_itself (x ∷ xs) own none = absurd (cc)

other_name : (name other : Text) → not (bytes_eq name other) ≡ true → name ≡ other → ⊥
other_name name other differ same =
    let test : bytes_eq name other ≡ true = (bytes_eq-Decides name other).1 same in
    let both : false ≡ true = ap not (sym test) ∙ differ in absurd (cc)

not_added : (a : Arg) → is_own a.id.now ≡ true → IsAuto a → ⊥
unfolding is_own
not_added a own auto =
    let names = both (not (bytes_eq a.id.now (codes "help"))) _ (both (not (is_empty a.id.now)) _ own).1 in
    elim auto [
      | inl help ↦ other_name a.id.now (codes "help") names.0 help
      | inr version ↦ other_name a.id.now (codes "version") names.1 version
    ]

one_value : (a : Arg) → takes_one (rule_of a) ≡ true → a.required ≡ true
    → (a.action ≡ Some Set) × (a.num_vals ≡ None)
unfolding takes_one
one_value a one required =
    let test : (is_set a.action && not (is_some a.num_vals)) ≡ true = rw required at one in
    let p = both (is_set a.action) _ test in
    (set_action a.action p.0, no_value a.num_vals p.1)

-- ---- distinct names

none_there : (xs : List Arg) (p : Rule → Bool) → list_any p (map rule_of xs) ≡ false
    → (k : ℕ) (d : Arg) → k < length xs → p (rule_of (slice_index_or xs k d)) ≡ false
none_there [] p none k d lt = absurd (omega arith)
none_there (x ∷ xs) p none k d lt = go k lt (none_there xs p) (p (rule_of x)) refl none
  where
    go : (k : ℕ) → k < length (x ∷ xs)
        → (list_any p (map rule_of xs) ≡ false → (k : ℕ) (d : Arg) → k < length xs
        → p (rule_of (slice_index_or xs k d)) ≡ false)
        → (test : Bool) → p (rule_of x) ≡ test → list_any p (map rule_of (x ∷ xs)) ≡ false
        → p (rule_of (slice_index_or (x ∷ xs) k d)) ≡ false
    go k lt more true test none = let both : true ≡ false = rw test at none in absurd (cc)
    go zero lt more false test none = test
    go (suc k) lt more false test none = more (rw test at none) k d (omega arith)

same_place : (xs : List Arg) → are_distinct (map rule_of xs) ≡ true → (j k : ℕ) (e d : Arg) → j < length xs
    → k < length xs
    → bytes_eq (slice_index_or xs j e).id.now (slice_index_or xs k d).id.now ≡ true → j ≡ k
unfolding are_distinct
same_place [] distinct j k e d low high same = absurd (omega arith)
same_place (x ∷ xs) distinct zero zero e d low high same = refl
same_place (x ∷ xs) distinct (suc j) zero e d low high same =
    let none : list_any (λ other. bytes_eq other.id x.id.now) (map rule_of xs) ≡ false =
    is_false _ (both _ _ distinct).0 in
    let differ = none_there xs (λ other. bytes_eq other.id x.id.now) none j e (omega arith) in
    let both : true ≡ false = sym same ∙ differ in absurd (cc)
same_place (x ∷ xs) distinct zero (suc k) e d low high same =
    let none : list_any (λ other. bytes_eq other.id x.id.now) (map rule_of xs) ≡ false =
    is_false _ (both _ _ distinct).0 in
    let differ = none_there xs (λ other. bytes_eq other.id x.id.now) none k d (omega arith) in
    let there = (slice_index_or xs k d).id.now in
    let turned : bytes_eq there x.id.now ≡ true = (bytes_eq-Decides there x.id.now).1
    (sym ((bytes_eq-Decides x.id.now there).0 same)) in
    let both : true ≡ false = sym turned ∙ differ in absurd (cc)
same_place (x ∷ xs) distinct (suc j) (suc k) e d low high same =
    ap suc (same_place xs (both _ _ distinct).1 j k e d (omega arith) (omega arith) same)

-- ---- the texts

each_text : (xs : List Arg) (rows : List Row)
    → ((k : ℕ) (d : Arg) → k < length xs → HasText (slice_index_or xs k d).required
    (slice_index_or xs k d).id.now rows)
    → HasTexts (map rule_of xs) rows
each_text [] rows each = tt
each_text (x ∷ xs) rows each = (
  each 0 x (omega arith),
  each_text xs rows
      (λ k d lt. each (suc k) d (omega arith)),
)

text_of : (c : Command) (m : ArgMatches) → IsParsedFrom c m → is_clear (shape_of c) ≡ true
    → (k : ℕ) (d : Arg) → k < length (args_of c)
    → HasText (slice_index_or (args_of c) k d).required (slice_index_or (args_of c) k d).id.now
    (rows_of (found_of m))
unfolding is_clear is_clear_rule
text_of c m parsed clear k d lt = go (slice_index_or (args_of c) k d).required refl
  where
    go : (required : Bool) → (slice_index_or (args_of c) k d).required ≡ required
        → HasText required (slice_index_or (args_of c) k d).id.now (rows_of (found_of m))
    go false at = tt
    go true at =
        let a = slice_index_or (args_of c) k d in
        let p = both (shape_of c).is_plain _ clear in
        let q = both (not (shape_of c).subcommand_negates_reqs) _ p.1 in
        let r = both (list_all is_clear_rule (shape_of c).rules) _ q.1 in
        let rules = each_rule is_clear_rule (args_of c) r.0 in
        let rule = both (is_simple_arg a) _ (rules k d lt) in
        let free = both (is_free_arg a) _ rule.1 in
        let own = both (is_own a.id.now) _ free.1 in
        let one = one_value a own.1 at in
        let fields = both (is_empty (out-Command c).groups.items) _ p.0 in
        let more = both (not (out-Command c).allow_external_subcommands) _ fields.1 in
        let globals = both (not (out-Command c).has_globals) _ more.1 in
        let plain : IsPlain c = (
          (λ j e low.
              let b = slice_index_or (args_of c) j e in
              let x = both (is_simple_arg b) _ (rules j e low) in
              plain_arg b x.0 (both (is_free_arg b) _ x.1).0),
          is_nil _ fields.0,
        ) in
        let least : 1 ≤ least_values a = subst (λ o. 1 ≤ (unwrap_or_range o).start_inclusive) (sym one.1)
        (omega arith) in
        let has = required_has_value c m parsed plain (is_false _ globals.0)
        (is_false _ q.0) k d lt at one.0 (no_delimiter a rule.0) least
        (λ j e low same. same_place (args_of c) r.1 j k e d low lt same)
        (named_itself a.id.now own.0) (not_added a own.0) in
        ap is_some (sym (first_value-rows (found_of m) a.id.now)) ∙ has

texts_of : (c : Command) (m : ArgMatches) → IsParsedFrom c m → is_clear (shape_of c) ≡ true
    → HasTexts (shape_of c).rules (rows_of (found_of m))
texts_of c m parsed clear = each_text (args_of c) (rows_of (found_of m)) (text_of c m parsed clear)

-- ---- the forms

form_is_clear : (verb : Verb) → is_clear (form_of verb).top ≡ true
unfolding is_clear is_clear_rule is_own takes_one is_set are_distinct
form_is_clear Slow = refl
form_is_clear Sim = refl
form_is_clear SimContext = refl
form_is_clear Mix = refl
form_is_clear Part = refl
form_is_clear Upgrade = refl
form_is_clear Help = refl
form_is_clear Version = refl

-- what a form takes has a text for each name that is required
pub named_texts : (verb : Verb) (form : Command) (m : ArgMatches) → app_of form ≡ form_of verb
    → IsParsedFrom form m
    → HasTexts (form_of verb).top.rules (rows_of (found_of m))
named_texts verb form m is parsed =
    let clear : is_clear (shape_of form) ≡ true = ap (λ (a : App). is_clear a.top) is ∙ form_is_clear verb in
    subst (λ (a : App). HasTexts a.top.rules (rows_of (found_of m))) is (texts_of form m parsed clear)
