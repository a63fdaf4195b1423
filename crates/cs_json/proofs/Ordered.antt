-- What is read from a text has the members of each object in byte order of keys, each key once.
use Rattle.std.proofs.Common.{◌≡◌, ℕ, List, Option, Some, None, Ordering, Less, Equal, Greater, option_and_then, option_map, refl, ap, ◌∙◌, subst}
use Rattle.std.specs.Prelude.{IsTrue, ⊤}
use Rattle.std.specs.List.{AllByRecursion}
use Rattle.std.specs.Ordering.{nat_cmp, is_lt, match_ordering, ordering_reverse}
use Rattle.std.specs.Cmp.Lexicographic.{slice_cmp}
use Rattle.std.proofs.lemmas.Cmp.{nat_list_cmp_total}
use Rattle.json.specs.Json as json
use Rattle.json.specs.Lex.{tokens}
use Rattle.serde_json.specs.Data.{Data, null, boolean, number, string, array, object, Items, no_items, item, Members, no_members, member, put}
use Rattle.serde_json.specs.Find.{get_member}
use Rattle.serde_json.specs.Read.{of_json, of_items, of_members, read, max_depth, number_of}
use Rattle.cs_json.specs.Readable.{is_below, AreInOrder}
use Rattle.cs_json.specs.Walk.{entries}

-- the key is before those of all these members
abbrev pub IsBefore : List ℕ → Members → Type 0
IsBefore k no_members = ⊤
IsBefore k (member l e ms) = IsTrue (is_below k l) × IsBefore k ms

-- the members of each object are in byte order of keys
abbrev mutual
  pub IsOrdered : Data → Type 0
  IsOrdered null = ⊤
  IsOrdered (boolean b) = ⊤
  IsOrdered (number n) = ⊤
  IsOrdered (string s) = ⊤
  IsOrdered (array ds) = AreOrdered ds
  IsOrdered (object ms) = HasOrder ms

  pub AreOrdered : Items → Type 0
  AreOrdered no_items = ⊤
  AreOrdered (item d ds) = IsOrdered d × AreOrdered ds

  pub HasOrder : Members → Type 0
  HasOrder no_members = ⊤
  HasOrder (member k d ms) = IsBefore k ms × IsOrdered d × HasOrder ms

-- ---- the order of keys

pub less_of : (o : Ordering) → IsTrue (is_lt o) → o ≡ Less
less_of Less h = refl
less_of Equal h = absurd (cc)
less_of Greater h = absurd (cc)

below_trans : (a b c : List ℕ) → IsTrue (is_below a b) → IsTrue (is_below b c)
    → IsTrue (is_below a c)
below_trans a b c ab bc = ap is_lt (nat_list_cmp_total.trans a b c (less_of _ ab) (less_of _ bc))

before_trans : (a b : List ℕ) (ms : Members) → IsTrue (is_below a b) → IsBefore b ms → IsBefore a ms
before_trans a b no_members ab h = tt
before_trans a b (member l e ms) ab h = (below_trans a b l ab h.0, before_trans a b ms ab h.1)

-- ---- one more member

before_put_at : (o : Ordering) (l k m : List ℕ) (d e : Data) (ms : Members) → IsTrue (is_below l k)
    → IsBefore l (member m e ms) → IsBefore l (put k d ms)
    → IsBefore l
    (match_ordering o (member k d (member m e ms)) (member m d ms) (member m e (put k d ms)))
before_put_at Less l k m d e ms lk h later = (lk, h)
before_put_at Equal l k m d e ms lk h later = h
before_put_at Greater l k m d e ms lk h later = (h.0, later)

before_put : (l k : List ℕ) (d : Data) (ms : Members) → IsTrue (is_below l k) → IsBefore l ms
    → IsBefore l (put k d ms)
before_put l k d no_members lk h = (lk, tt)
before_put l k d (member m e ms) lk h =
    before_put_at (slice_cmp nat_cmp k m) l k m d e ms lk h (before_put l k d ms lk h.1)

put_ordered_at : (o : Ordering) (k m : List ℕ) (d e : Data) (ms : Members)
    → slice_cmp nat_cmp k m ≡ o → IsOrdered d → HasOrder (member m e ms) → HasOrder (put k d ms)
    → HasOrder
    (match_ordering o (member k d (member m e ms)) (member m d ms) (member m e (put k d ms)))
put_ordered_at Less k m d e ms is ordered h later =
    let below : IsTrue (is_below k m) = ap is_lt is in
    ((below, before_trans k m ms below h.0), ordered, h)
put_ordered_at Equal k m d e ms is ordered h later = (h.0, ordered, h.2)
put_ordered_at Greater k m d e ms is ordered h later =
    let below : IsTrue (is_below m k) =
    ap is_lt (nat_list_cmp_total.antisymm m k ∙ ap ordering_reverse is) in
    (before_put m k d ms below h.0, h.1, later)

put_ordered : (k : List ℕ) (d : Data) (ms : Members) → IsOrdered d → HasOrder ms
    → HasOrder (put k d ms)
put_ordered k d no_members ordered h = (tt, ordered, tt)
put_ordered k d (member m e ms) ordered h =
    put_ordered_at (slice_cmp nat_cmp k m) k m d e ms refl ordered h
    (put_ordered k d ms ordered h.2)

-- ---- what JSON is read as

-- P of what there is
abbrev pub Holds : {A : Type 0} → (A → Type 0) → Option A → Type 0
Holds P None = ⊤
Holds P (Some a) = P a

pub holds_at : {A : Type 0} (P : A → Type 0) (o : Option A) (a : A) → o ≡ Some a → Holds P o → P a
holds_at {A = A} P o a is h = let Q : Option A → Type 0 = Holds P in subst Q is h

holds_map : {A B : Type 0} (P : A → Type 0) (Q : B → Type 0) (f : A → B) → ((a : A) → P a → Q (f a))
    → (o : Option A) → Holds P o → Holds Q (option_map f o)
holds_map P Q f step None h = tt
holds_map P Q f step (Some a) h = step a h

holds_then : {A B : Type 0} (P : A → Type 0) (Q : B → Type 0) (f : A → Option B)
    → ((a : A) → P a → Holds Q (f a)) → (o : Option A) → Holds P o → Holds Q (option_and_then f o)
holds_then P Q f step None h = tt
holds_then P Q f step (Some a) h = step a h

holds_any : {A : Type 0} (o : Option A) → Holds (λ _. ⊤) o
holds_any None = tt
holds_any (Some a) = tt

mutual
  of_json_ordered : (j : json.Json) → Holds IsOrdered (of_json j)
  of_json_ordered json.null = tt
  of_json_ordered (json.boolean b) = tt
  of_json_ordered (json.number s) =
      holds_map (λ _. ⊤) IsOrdered number (λ n h. tt) (number_of s) (holds_any (number_of s))
  of_json_ordered (json.string s) = tt
  of_json_ordered (json.array js) =
      holds_map AreOrdered IsOrdered array (λ ds h. h) (of_items js) (of_items_ordered js)
  of_json_ordered (json.object ms) =
      holds_map HasOrder IsOrdered object (λ ds h. h) (of_members ms no_members)
      (of_members_ordered ms no_members tt)

  of_items_ordered : (js : json.Items) → Holds AreOrdered (of_items js)
  of_items_ordered json.no_items = tt
  of_items_ordered (json.item j js) =
      holds_then IsOrdered AreOrdered (λ d. option_map (item d) (of_items js))
      (λ d h. holds_map AreOrdered AreOrdered (item d) (λ ds more. (h, more))
      (of_items js) (of_items_ordered js))
      (of_json j) (of_json_ordered j)

  of_members_ordered : (ms : json.Members) (found : Members) → HasOrder found
      → Holds HasOrder (of_members ms found)
  of_members_ordered json.no_members found h = h
  of_members_ordered (json.member k j ms) found h =
      holds_then IsOrdered HasOrder (λ d. of_members ms (put k d found))
      (λ d ordered. of_members_ordered ms (put k d found) (put_ordered k d found ordered h))
      (of_json j) (of_json_ordered j)

whole_ordered : (o : Option json.Json) → Holds IsOrdered (option_and_then of_json o)
whole_ordered None = tt
whole_ordered (Some j) = of_json_ordered j

pub read_ordered : (text : List ℕ) (d : Data) → read text ≡ Some d → IsOrdered d
read_ordered text d is =
    holds_at IsOrdered (read text) d is
    (whole_ordered (option_and_then (λ p. json.if_last p.0 p.1) (json.value max_depth (tokens text))))

-- ---- into the parts

member_ordered_at : (o : Ordering) (later : Option Data) (e d : Data) → IsOrdered e
    → (later ≡ Some d → IsOrdered d) → match_ordering o later (Some e) later ≡ Some d → IsOrdered d
member_ordered_at Less later e d here there is = there is
member_ordered_at Equal later e d here there is = holds_at IsOrdered (Some e) d is here
member_ordered_at Greater later e d here there is = there is

pub member_ordered : (k : List ℕ) (d : Data) (ms : Members) → HasOrder ms → get_member k ms ≡ Some d
    → IsOrdered d
member_ordered k d no_members h is = absurd (cc)
member_ordered k d (member l e ms) h is =
    member_ordered_at (slice_cmp nat_cmp k l) (get_member k ms) e d h.1 (member_ordered k d ms h.2)
    is

-- the members as a list
before_entries : (k : List ℕ) (ms : Members) → IsBefore k ms
    → AllByRecursion (λ e. IsTrue (is_below k e.0)) (entries ms)
before_entries k no_members h = tt
before_entries k (member l e ms) h = (h.0, before_entries k ms h.1)

pub entries_in_order : (ms : Members) → HasOrder ms → AreInOrder (λ e. e.0) (entries ms)
entries_in_order no_members h = tt
entries_in_order (member k d ms) h = (before_entries k ms h.0, entries_in_order ms h.2)

pub entries_ordered : (ms : Members) → HasOrder ms
    → AllByRecursion (λ e. IsOrdered e.1) (entries ms)
entries_ordered no_members h = tt
entries_ordered (member k d ms) h = (h.1, entries_ordered ms h.2)
