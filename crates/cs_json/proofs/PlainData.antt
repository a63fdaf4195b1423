-- A value with numbers in range and members in order is read again from its compact text.
use Rattle.std.proofs.Common.{◌≡◌, ℕ, suc, ◌^◌, ◌<◌, ◌≤◌, max, List, [], ◌∷◌, ◌++◌, Option, Some, option_map, option_and_then, Greater, pos, negsuc, refl, sym, ap, ap₂, ◌∙◌, append-nil}
use Rattle.std.specs.Prelude.{⊤}
use Rattle.std.specs.Ordering.{nat_cmp, ordering_reverse}
use Rattle.std.specs.Cmp.Lexicographic.{slice_cmp}
use Rattle.std.proofs.lemmas.Cmp.{nat_list_cmp_total}
use Rattle.json.specs.Json as json
use Rattle.json.specs.Lex.{tokens}
use Rattle.json.specs.Print.{IsNumber}
use Rattle.json.specs.Tree as tree
use Rattle.json.proofs.Printed.Decimals.{IsNumber-decimal, IsNumber-signed_decimal}
use Rattle.json.proofs.Printed.Trees.{value-json_tokens, ArePrintable-json_tokens}
use Rattle.serde_json.specs.Data.{Num, unsigned, negative, float, Data, null, boolean, number, string, array, object, Items, no_items, item, Members, no_members, member, put, depth, items_depth, members_depth}
use Rattle.serde_json.specs.Read.{of_json, of_items, of_members, read, max_depth, number_of}
use Rattle.serde_json.specs.Written.{number_text, outline, items_outline, members_outline, compact_text}
use Rattle.serde_json.proofs.Numbers.{number_of-decimal, number_of-negative}
use Rattle.json.specs.Token.{Token}
use Rattle.serde_json.proofs.Texts.{print-outline}
use Rattle.cs_json.proofs.Ordered.{IsBefore, less_of}
use Rattle.cs_json.proofs.Newline.{tokens-newline}

-- a whole number of 64 bits
abbrev pub IsWhole : Num → Type 0
IsWhole (unsigned n) = n < 2 ^ 64
IsWhole (negative (pos n)) = ⊥
IsWhole (negative (negsuc n)) = n < 2 ^ 63
IsWhole (float x) = ⊥

-- whole numbers alone, and the members of each object in order
abbrev mutual
  pub IsPlain : Data → Type 0
  IsPlain null = ⊤
  IsPlain (boolean b) = ⊤
  IsPlain (number n) = IsWhole n
  IsPlain (string s) = ⊤
  IsPlain (array ds) = ArePlain ds
  IsPlain (object ms) = HasPlain ms

  pub ArePlain : Items → Type 0
  ArePlain no_items = ⊤
  ArePlain (item d ds) = IsPlain d × ArePlain ds

  pub HasPlain : Members → Type 0
  HasPlain no_members = ⊤
  HasPlain (member k d ms) = IsBefore k ms × IsPlain d × HasPlain ms

-- ---- its numbers are printable

number_printable : (n : Num) → IsWhole n → IsNumber (number_text n)
number_printable (unsigned n) h = IsNumber-decimal n h
number_printable (negative (pos n)) h = absurd h
number_printable (negative (negsuc n)) h = IsNumber-signed_decimal (negsuc n) h
number_printable (float x) h = absurd h

mutual
  printable : (d : Data) → IsPlain d → tree.HasNumbers (outline d)
  printable null h = tt
  printable (boolean b) h = tt
  printable (number n) h = number_printable n h
  printable (string s) h = tt
  printable (array ds) h = items_printable ds h
  printable (object ms) h = members_printable ms h

  items_printable : (ds : Items) → ArePlain ds → tree.ItemsHaveNumbers (items_outline ds)
  items_printable no_items h = tt
  items_printable (item d ds) h = (printable d h.0, items_printable ds h.1)

  members_printable : (ms : Members) → HasPlain ms → tree.MembersHaveNumbers (members_outline ms)
  members_printable no_members h = tt
  members_printable (member k d ms) h = (printable d h.1, members_printable ms h.2)

-- ---- it nests as deep as its outline

mutual
  depth-outline : (d : Data) → tree.depth (outline d) ≡ depth d
  depth-outline null = refl
  depth-outline (boolean b) = refl
  depth-outline (number n) = refl
  depth-outline (string s) = refl
  depth-outline (array ds) = ap suc (items_depth-outline ds)
  depth-outline (object ms) = ap suc (members_depth-outline ms)

  items_depth-outline : (ds : Items) → tree.items_depth (items_outline ds) ≡ items_depth ds
  items_depth-outline no_items = refl
  items_depth-outline (item d ds) = ap₂ max (depth-outline d) (items_depth-outline ds)

  members_depth-outline : (ms : Members)
      → tree.members_depth (members_outline ms) ≡ members_depth ms
  members_depth-outline no_members = refl
  members_depth-outline (member k d ms) = ap₂ max (depth-outline d) (members_depth-outline ms)

-- ---- its outline is read as it

number_back : (n : Num) → IsWhole n → number_of (number_text n) ≡ Some n
number_back (unsigned n) h = number_of-decimal n h
number_back (negative (pos n)) h = absurd h
number_back (negative (negsuc n)) h = number_of-negative n h
number_back (float x) h = absurd h

-- the members of one object, and then those of another
abbrev followed_by : Members → Members → Members
followed_by no_members ms = ms
followed_by (member l e done) ms = member l e (followed_by done ms)

-- each key is before all those keys
abbrev AreBefore : Members → Members → Type 0
AreBefore no_members ms = ⊤
AreBefore (member l e done) ms = IsBefore l ms × AreBefore done ms

followed_by-none : (done : Members) → followed_by done no_members ≡ done
followed_by-none no_members = refl
followed_by-none (member l e done) = ap (member l e) (followed_by-none done)

followed_by-one : (done : Members) (k : List ℕ) (d : Data) (ms : Members)
    → followed_by (followed_by done (member k d no_members)) ms ≡ followed_by done (member k d ms)
followed_by-one no_members k d ms = refl
followed_by-one (member l e done) k d ms = ap (member l e) (followed_by-one done k d ms)

put_behind : (done : Members) (k : List ℕ) (d : Data) (ms : Members)
    → AreBefore done (member k d ms) → put k d done ≡ followed_by done (member k d no_members)
put_behind no_members k d ms h = refl
put_behind (member l e done) k d ms h =
    let above : slice_cmp nat_cmp k l ≡ Greater = nat_list_cmp_total.antisymm k l
    ∙ ap ordering_reverse (less_of (slice_cmp nat_cmp l k) h.0.0) in
    rw above (ap (member l e) (put_behind done k d ms h.1))

before_next : (done : Members) (k : List ℕ) (d : Data) (ms : Members)
    → AreBefore done (member k d ms) → IsBefore k ms
    → AreBefore (followed_by done (member k d no_members)) ms
before_next no_members k d ms h first = (first, tt)
before_next (member l e done) k d ms h first = (h.0.1, before_next done k d ms h.1 first)

item_back : (j : Option Data) (js : Option Items) (d : Data) (ds : Items) → j ≡ Some d
    → js ≡ Some ds → option_and_then (λ x. option_map (item x) js) j ≡ Some (item d ds)
item_back j js d ds first rest = rw (first, rest) refl

mutual
  json_back : (d : Data) → IsPlain d → of_json (outline d) ≡ Some d
  json_back null h = refl
  json_back (boolean b) h = refl
  json_back (number n) h = ap (option_map number) (number_back n h)
  json_back (string s) h = refl
  json_back (array ds) h = ap (option_map array) (items_back ds h)
  json_back (object ms) h = ap (option_map object) (members_back ms no_members h tt)

  items_back : (ds : Items) → ArePlain ds → of_items (items_outline ds) ≡ Some ds
  items_back no_items h = refl
  items_back (item d ds) h =
      item_back (of_json (outline d)) (of_items (items_outline ds)) d ds (json_back d h.0)
      (items_back ds h.1)

  members_back : (ms done : Members) → HasPlain ms → AreBefore done ms
      → of_members (members_outline ms) done ≡ Some (followed_by done ms)
  members_back no_members done h before = ap Some (sym (followed_by-none done))
  members_back (member k d ms) done h before =
      ap (option_and_then (λ x. of_members (members_outline ms) (put k x done))) (json_back d h.1)
      ∙ ap (of_members (members_outline ms)) (put_behind done k d ms before)
      ∙ members_back ms (followed_by done (member k d no_members)) h.2
      (before_next done k d ms before h.0)
      ∙ ap Some (followed_by-one done k d ms)

-- the value of all tokens of a text
abbrev whole : Option (json.Json × List Token) → Option Data
whole o = option_and_then of_json (option_and_then (λ p. json.if_last p.0 p.1) o)

-- it is read again from its text
pub read-compact_text : (d : Data) → IsPlain d → depth d ≤ max_depth
    → read (compact_text d ++ 10 ∷ []) ≡ Some d
read-compact_text d plain shallow =
    let ts = tree.json_tokens (outline d) in
    let same : tokens (compact_text d ++ 10 ∷ []) ≡ ts =
    ap (λ text. tokens (text ++ 10 ∷ [])) (sym (print-outline d))
    ∙ tokens-newline ts (ArePrintable-json_tokens (outline d) (printable d plain)) in
    let nests : tree.depth (outline d) ≤ max_depth = rw (depth-outline d) shallow in
    ap whole
    (ap (json.value max_depth) (same ∙ sym (append-nil ts))
    ∙ value-json_tokens (outline d) max_depth [] nests)
    ∙ json_back d plain
