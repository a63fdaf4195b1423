-- Going through a JSON value from place to place. A step that may refuse answers the first refused
-- place.
use Rattle.std.specs.Prelude.{ℕ, ◌+◌, List, [], ◌∷◌, ◌++◌, ◌==◌, if◌then◌else◌, Option, Some, None, option_map, option_and_then, Result, Ok, Err, decimal, flat_map, encode_utf8}
use Rattle.serde_json.specs.Data.{Data, Items, no_items, item, Members, no_members, member}
use Rattle.serde_json.specs.Find.{get_member, as_object, as_array, as_number, as_str, as_u64}

-- the text of a path: each key or list place that leads there, behind a `/`
abbrev pub Path : Type 0
Path = List ℕ

-- what is read, or the path to the first place that is refused
abbrev pub Read : Type 0 → Type 0
Read A = Result A Path

infixl 10 ◌>>=◌
-- what comes next, where nothing was refused
abbrev pub ◌>>=◌ : {A B : Type 0} → Read A → (A → Read B) → Read B
(Ok x) >>= f = f x
(Err at) >>= f = Err at

-- in a key `~` becomes `~0`, and `/` becomes `~1`
abbrev pub escaped_byte : ℕ → List ℕ
escaped_byte b = if b == 126 then 126 ∷ 48 ∷ [] else (if b == 47 then 126 ∷ 49 ∷ [] else b ∷ [])

-- the same for a character of the key
abbrev pub escaped_char : ℕ → List ℕ
escaped_char c =
    if c == 126 then 126 ∷ 48 ∷ [] else (if c == 47 then 126 ∷ 49 ∷ [] else encode_utf8 c)

-- the path to the member at a key
abbrev pub to_key : List ℕ → Path
to_key key = 47 ∷ flat_map escaped_byte key

-- the path to the item at a place
abbrev pub to_item : ℕ → Path
to_item i = 47 ∷ decimal i

-- what is read at the end of a path
abbrev pub under : {A : Type 0} → Path → Read A → Read A
under path (Ok a) = Ok a
under path (Err at) = Err (path ++ at)

-- ---- objects and lists

-- the members as a list, in byte order of their keys, each key once
abbrev pub entries : Members → List (List ℕ × Data)
entries no_members = []
entries (member k d ms) = (k, d) ∷ entries ms

-- the items as a list
abbrev pub elements : Items → List Data
elements no_items = []
elements (item d ds) = d ∷ elements ds

-- every member is read, each under its own key
abbrev pub each_member : {A : Type 0} → (List ℕ → Data → Read A) → List (List ℕ × Data)
    → Read (List A)
each_member f [] = Ok []
each_member f (e ∷ es) =
    under (to_key e.0) (f e.0 e.1) >>= λ a. each_member f es >>= λ rest. Ok (a ∷ rest)

-- every item is read, each at its own place, the first of them at place i
abbrev pub each_item : {A : Type 0} → (Data → Read A) → ℕ → List Data → Read (List A)
each_item f i [] = Ok []
each_item f i (d ∷ ds) =
    under (to_item i) (f d) >>= λ a. each_item f (i + 1) ds >>= λ rest. Ok (a ∷ rest)

-- what there is, or the value's own place refused
abbrev pub found : {A : Type 0} → Option A → Read A
found None = Err []
found (Some a) = Ok a

-- a number without fraction and exponent, from 0 to 2^64 - 1
abbrev pub whole_number : Data → Option ℕ
whole_number d = option_and_then as_u64 (as_number d)

-- the value has to be an object
abbrev pub members : Data → Read Members
members d = found (as_object d)

-- the value has to be a list
abbrev pub list : Data → Read (List Data)
list d = found (option_map elements (as_array d))

-- the value has to be a text
abbrev pub text : Data → Read (List ℕ)
text d = found (as_str d)

-- a member that has to be there: where it is missing it is refused at its own place
abbrev pub required : {A : Type 0} → (Data → Read A) → List ℕ → Members → Read A
required f key ms = under (to_key key) (found (get_member key ms) >>= f)

-- the members of an object that may be missing
abbrev pub members_or_none : Option Data → Read Members
members_or_none None = Ok no_members
members_or_none (Some d) = members d

-- an object that is empty where it is missing
abbrev pub optional : List ℕ → Members → Read Members
optional key ms = under (to_key key) (members_or_none (get_member key ms))

-- the members of such an object, each read under its own key
abbrev pub each_of : {A : Type 0} → (List ℕ → Data → Read A) → List ℕ → Members → Read (List A)
each_of f key ms = optional key ms >>= λ found. under (to_key key) (each_member f (entries found))
