-- Places of numbered and chosen things, keys by their places, and the words of a memory that is cut from its
-- bits.
use Rattle.std.proofs.Common.{◌≡◌, ◌∙◌, ℕ, zero, suc, ◌+◌, ◌*◌, ◌<◌, ◌≤◌, List, [], ◌∷◌, length, get_or, take, drop, map, Bool, true, false, cond, Option, Some, None, bytes_eq, refl, sym, ap, ap₂, arith}
use Rattle.std.specs.Prelude.{filter_map, slice_get}
use Rattle.std.specs.List.{cons_option, enumerate_from, position_from}
use Rattle.std.proofs.lemmas.List.{drop-drop, ext_get_or, get_or-drop, get_or-take, length-drop, length-map, length-take-le}
use Rattle.std.proofs.lemmas.Option.{get_or_from_slice_get, none-some, same_Some}
use Rattle.cs_circuit.proofs.Orders.{same_name}
use Rattle.cs_graph.specs.declared.graph.Graph.{Graph}
use Rattle.cs_graph.specs.Run.{words_from}
use Rattle.cs_modules.specs.Pins.{count_from}
use Rattle.cs_net.proofs.ClockPins.{counts}
use Rattle.cs_net.proofs.MemoryPlaces.{at_map}
use Rattle.cs_net.proofs.Members.{Has}
use Rattle.cs_prefix.specs.Prefixes.{IsOnEdge, RegisterKey, digit, key_code, place_of_key}
use Rattle.cs_share.specs.Registers.{AreRegisters, edge_contents, edge_drivers}
use Rattle.cs_share.proofs.CircuitKeys.{key_placed}
use Rattle.cs_share.proofs.CircuitPorts.{length_count}

-- ---- numbered and chosen things

-- an element with its number stands where the element does
pub numbered_at : {A : Type 0} (n : ℕ) (xs : List A) (i j : ℕ) (x : A) → slice_get xs i ≡ Some x → n + i ≡ j
    → slice_get (enumerate_from n xs) i ≡ Some (j, x)
numbered_at n [] i j x at is = absurd (none-some x at)
numbered_at n (y ∷ xs) zero j x at is =
    let same = same_Some y x at in
    let place : n ≡ j = omega (arith, is) in
    ap₂ (λ m z. Some (m, z)) place same
numbered_at n (y ∷ xs) (suc i) j x at is = numbered_at (n + 1) xs i j x at (omega (arith, is))

-- what an element is chosen as stands among what is chosen
pub chosen : {A B : Type 0} (f : A → Option B) (xs : List A) (i : ℕ) (x : A) (y : B) → slice_get xs i ≡ Some x
    → f x ≡ Some y → Has (filter_map f xs) y
chosen f [] i x y at is = absurd (none-some x at)
chosen {A = A} {B = B} f (z ∷ xs) zero x y at is =
    (0, ap (λ o. slice_get (cons_option o (filter_map f xs)) 0) (ap f (same_Some z x at) ∙ is))
chosen {A = A} {B = B} f (z ∷ xs) (suc i) x y at is = behind (f z) (chosen f xs i x y at is)
  where
    behind : (o : Option B) → Has (filter_map f xs) y → Has (cons_option o (filter_map f xs)) y
    behind None has = has
    behind (Some b) has = (suc has.0, has.1)

-- ---- keys

-- a place that is found passes the test
position_at : {A : Type 0} (test : A → Bool) (k : ℕ) (xs : List A) (p : ℕ) → position_from test k xs ≡ Some p
    → (i : ℕ) × (p ≡ k + i) × (x : A) × (slice_get xs i ≡ Some x) × (test x ≡ true)
position_at test k [] p found = absurd (none-some p found)
position_at {A = A} test k (y ∷ xs) p found = by (test y) refl found (position_at test (k + 1) xs p)
  where
    by : (t : Bool) → test y ≡ t → cond t (Some k) (position_from test (k + 1) xs) ≡ Some p
        → (position_from test (k + 1) xs ≡ Some p
        → (i : ℕ) × (p ≡ k + 1 + i) × (x : A) × (slice_get xs i ≡ Some x) × (test x ≡ true))
        → (i : ℕ) × (p ≡ k + i) × (x : A) × (slice_get (y ∷ xs) i ≡ Some x) × (test x ≡ true)
    by true is found later = let same = same_Some k p found in (0, omega (arith, same), y, refl, is)
    by false is found later =
        let rest = later found in
        let place = rest.1 in
        (suc rest.0, omega (arith, place), rest.2, rest.3, rest.4)

digits_apart : (a b : Bool) → digit a ≡ digit b → a ≡ b
digits_apart true true h = refl
digits_apart true false h = absurd (omega (arith, h))
digits_apart false true h = absurd (omega (arith, h))
digits_apart false false h = refl

same_starts : (xs ys : List Bool) → map digit xs ≡ map digit ys → xs ≡ ys
same_starts [] [] h = refl
same_starts [] (y ∷ ys) h = let never = ap length h in absurd (omega (arith, never))
same_starts (x ∷ xs) [] h = let never = ap length h in absurd (omega (arith, never))
same_starts (x ∷ xs) (y ∷ ys) h =
    ap₂ (λ z zs. z ∷ zs) (digits_apart x y (ap (λ ds. get_or ds 0 0) h)) (same_starts xs ys (ap (drop 1) h))

abbrev register : ℕ → ℕ → List Bool → RegisterKey
register vertex output starts = record { vertex = vertex; output = output; starts = starts }

-- keys of one code are one
same_key : (a b : RegisterKey) → key_code a ≡ key_code b → a ≡ b
same_key a b h =
    let starts = same_starts a.starts b.starts (ap (drop 3) h) in
    let output : a.output ≡ b.output = ap (λ ns. get_or ns 1 0) h in
    ap (λ v. register v a.output a.starts) (ap (λ ns. get_or ns 0 0) h)
    ∙ ap₂ (λ o bs. register b.vertex o bs) output starts

-- the place of a register's key is that of the key
pub key_at : (g : Graph) (keys : List RegisterKey) → AreRegisters g keys → (key : RegisterKey)
    → IsOnEdge (edge_drivers g) (edge_contents g) key
    → (p : ℕ) × (place_of_key keys key ≡ Some p) × (slice_get keys p ≡ Some key)
key_at g keys are key on =
    let placed = key_placed g keys are key on in
    let found = position_at (λ other. bytes_eq (key_code other) (key_code key)) 0 keys placed.0 placed.1 in
    let place = found.1 in
    let same : found.0 ≡ placed.0 = omega (arith, place) in
    let is = same_key found.2 key (same_name (key_code found.2) (key_code key) found.4) in
    (placed.0, placed.1, ap (slice_get keys) (sym same) ∙ found.3 ∙ ap (λ k. Some k) is)

-- ---- words

abbrev word_cut : List Bool → ℕ → ℕ → List Bool
word_cut start width i = map (λ j. get_or start (i * width + j) false) (count_from 0 width)

-- the first bits of a list, one by one
first_bits : (start : List Bool) (width at : ℕ) → at + width ≤ length start
    → map (λ j. get_or start (at + j) false) (count_from 0 width) ≡ take width (drop at start)
first_bits start width at within =
    let dropped = length-drop at start in
    let count : length (take width (drop at start)) ≡ width =
    length-take-le width (drop at start) (omega (arith, dropped, within)) in
    let own = length-map (count_from 0 width) (λ j. get_or start (at + j) false) ∙ length_count 0 width in
    ext_get_or false (map (λ j. get_or start (at + j) false) (count_from 0 width))
    (take width (drop at start)) (own ∙ sym count)
    (λ i below.
    let less : i < width = omega (arith, below, own) in
    let number : slice_get (count_from 0 width) i ≡ Some i =
    counts 0 width i less ∙ ap (λ n. Some n) (let none : 0 + i ≡ i = omega arith in none) in
    get_or_from_slice_get (map (λ j. get_or start (at + j) false) (count_from 0 width)) i
    (get_or start (at + i) false) false
    (at_map (λ j. get_or start (at + j) false) (count_from 0 width) i i number)
    ∙ sym (get_or-take width (drop at start) i false less ∙ get_or-drop at start i false))

-- the words from number k on
words_cut : (start : List Bool) (width count k : ℕ) → k * width + count * width ≤ length start
    → map (word_cut start width) (count_from k count) ≡ words_from count width (drop (k * width) start)
words_cut start width zero k within = refl
words_cut start width (suc count) k within =
    let here : k * width + width ≤ length start = omega (arith, within) in
    let next : (k + 1) * width ≡ k * width + width = omega arith in
    let rest : (k + 1) * width + count * width ≤ length start = omega (arith, within, next) in
    ap₂ (λ w ws. w ∷ ws) (first_bits start width (k * width) here)
    (words_cut start width count (k + 1) rest
    ∙ ap (words_from count width) (ap (λ n. drop n start) next ∙ sym (drop-drop width (k * width) start)))

-- a memory's bits word by word
pub words_are : (start : List Bool) (count width : ℕ) → length start ≡ count * width
    → map (λ i. map (λ j. get_or start (i * width + j) false) (count_from 0 width)) (count_from 0 count)
    ≡ words_from count width start
words_are start count width size =
    let none : 0 * width ≡ 0 = omega arith in
    words_cut start width count 0 (omega (arith, size, none))
    ∙ ap (words_from count width) (ap (λ n. drop n start) none)
