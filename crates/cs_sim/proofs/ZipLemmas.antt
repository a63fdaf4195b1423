-- Lists that are zipped, and the value that stands with a bit.
use Rattle.std.proofs.Common.{◌≡◌, ◌∙◌, ℕ, zero, suc, ◌+◌, ◌≤◌, List, [], ◌∷◌, ◌++◌, length, get_or, map, Bool, true, false, cond, Option, Some, None, refl, ap, ap₂, arith}
use Rattle.std.specs.Prelude.{◌==◌, filter_map, find, option_map, slice_get, unwrap_or}
use Rattle.std.specs.List.{cons_option, enumerate_from, zip}
use Rattle.std.proofs.Math.ListN.{get_or-append}
use Rattle.cs_base.specs.declared.signal.Signal.{Signal}
use Rattle.cs_base.specs.declared.signal.Signal.TheVariants.{Zero, One, Unknown, HighZ, Bit}
use Rattle.cs_net.specs.declared.state.BitValue.{BitValue}
use Rattle.cs_modules.specs.Signals.{is_bit}
use Rattle.cs_net.specs.Drivers.{bit_value}
use Rattle.cs_net.specs.Netlist.{bit_at}
use Rattle.cs_net.proofs.Occurrences.{count_of, counted, one_if}
use Rattle.cs_sim.proofs.PlaceLemmas.{slice_get_below, slice_get_front}

-- ---- lists

pub length_zipped : {A B : Type 0} (xs : List A) (ys : List B) → length xs ≡ length ys → length (zip xs ys) ≡ length xs
length_zipped [] ys h = refl
length_zipped (x ∷ xs) [] h = absurd (omega (arith, h))
length_zipped (x ∷ xs) (y ∷ ys) h = ap suc (length_zipped xs ys (omega (arith, h)))

pub zipped_at : {A B : Type 0} (xs : List A) (ys : List B) (i : ℕ) (x : A) (y : B) → slice_get xs i ≡ Some x → slice_get ys i ≡ Some y
    → slice_get (zip xs ys) i ≡ Some (x, y)
zipped_at [] ys i x y h k = absurd (cc)
zipped_at (a ∷ xs) [] i x y h k = absurd (cc)
zipped_at (a ∷ xs) (b ∷ ys) zero x y h k = let first : a ≡ x = cc in let second : b ≡ y = cc in cc
zipped_at (a ∷ xs) (b ∷ ys) (suc i) x y h k = zipped_at xs ys i x y h k

pub zipped_parts : {A B : Type 0} (xs xs' : List A) (ys ys' : List B) → length xs ≡ length ys
    → zip (xs ++ xs') (ys ++ ys') ≡ zip xs ys ++ zip xs' ys'
zipped_parts [] xs' [] ys' h = refl
zipped_parts [] xs' (y ∷ ys) ys' h = absurd (omega (arith, h))
zipped_parts (x ∷ xs) xs' [] ys' h = absurd (omega (arith, h))
zipped_parts (x ∷ xs) xs' (y ∷ ys) ys' h = ap (λ rest. (x, y) ∷ rest) (zipped_parts xs xs' ys ys' (omega (arith, h)))

-- a list zipped with an image of itself
pub zipped_image : {A B : Type 0} {C : Type 0} (f : A × B → Option C) (g : A → B) (xs : List A)
    → filter_map f (zip xs (map g xs)) ≡ filter_map (λ x. f (x, g x)) xs
zipped_image f g [] = refl
zipped_image f g (x ∷ xs) = ap (cons_option (f (x, g x))) (zipped_image f g xs)

kept_in_front : {B : Type 0} (o : Option B) (xs ys : List B) → cons_option o (xs ++ ys) ≡ cons_option o xs ++ ys
kept_in_front None xs ys = refl
kept_in_front (Some b) xs ys = refl

pub chosen_parts : {A B : Type 0} (f : A → Option B) (xs ys : List A) → filter_map f (xs ++ ys) ≡ filter_map f xs ++ filter_map f ys
chosen_parts f [] ys = refl
chosen_parts f (x ∷ xs) ys = ap (cons_option (f x)) (chosen_parts f xs ys) ∙ kept_in_front (f x) (filter_map f xs) (filter_map f ys)

pub chosen_image : {A B : Type 0} {C : Type 0} (f : B → Option C) (g : A → B) (xs : List A) → filter_map f (map g xs) ≡ filter_map (λ x. f (g x)) xs
chosen_image f g [] = refl
chosen_image f g (x ∷ xs) = ap (cons_option (f (g x))) (chosen_image f g xs)

pub image_at : {A B : Type 0} (f : A → B) (xs : List A) (i : ℕ) (x : A) → slice_get xs i ≡ Some x → slice_get (map f xs) i ≡ Some (f x)
image_at f [] i x h = absurd (cc)
image_at f (y ∷ xs) zero x h = let same : y ≡ x = cc in ap (λ z. Some (f z)) same
image_at f (y ∷ xs) (suc i) x h = image_at f xs i x h

pub preimage_at : {A B : Type 0} (f : A → B) (xs : List A) (i : ℕ) (y : B) → slice_get (map f xs) i ≡ Some y
    → (x : A) × (slice_get xs i ≡ Some x) × (f x ≡ y)
preimage_at f [] i y h = absurd (cc)
preimage_at f (x ∷ xs) zero y h = (x, refl, cc)
preimage_at f (x ∷ xs) (suc i) y h = preimage_at f xs i y h

pub numbered_at : {A : Type 0} (k : ℕ) (xs : List A) (i : ℕ) (x : A) → slice_get xs i ≡ Some x → slice_get (enumerate_from k xs) i ≡ Some (k + i, x)
numbered_at k [] i x h = absurd (cc)
numbered_at k (y ∷ xs) zero x h =
    let same : y ≡ x = cc in
    let none : k ≡ k + 0 = omega arith in
    ap₂ (λ n z. Some (n, z)) none same
numbered_at k (y ∷ xs) (suc i) x h =
    let next : (k + 1) + i ≡ k + suc i = omega arith in
    numbered_at (k + 1) xs i x h ∙ ap (λ n. Some (n, x)) next

-- the only element
pub only_at : {A : Type 0} (x y : A) (i : ℕ) → slice_get (x ∷ []) i ≡ Some y → x ≡ y
only_at x y zero h = cc
only_at x y (suc i) h = absurd (cc)

-- ---- a value with each signal

-- the values of those signals that are bits
abbrev pub shown_values : List Signal → List Bool → List BitValue
shown_values signals values = filter_map (λ s. bit_value s.0 s.1) (zip signals values)

-- this signal and this value stand at one place
pub record StandsWith (signals : List Signal) (values : List Bool) (s : Signal) (value : Bool) : Type 0 where
  pub i : ℕ
  pub signal_at : slice_get signals i ≡ Some s
  pub value_at : get_or values i false ≡ value

pub stands_in_front : (signals signals' : List Signal) (values values' : List Bool) (s : Signal) (value : Bool) → length signals ≡ length values
    → StandsWith signals values s value → StandsWith (signals ++ signals') (values ++ values') s value
stands_in_front signals signals' values values' s value fit p = moved signals values p.i fit p.signal_at p.value_at
  where
    moved : (xs : List Signal) (ys : List Bool) (i : ℕ) → length xs ≡ length ys → slice_get xs i ≡ Some s → get_or ys i false ≡ value
        → StandsWith (xs ++ signals') (ys ++ values') s value
    moved xs ys i fit at is =
        let below = slice_get_below xs i s at in
        record {
          i = i;
          signal_at = slice_get_front xs signals' i s at;
          value_at = get_or-append ys values' false i (omega (arith, below, fit)) ∙ is;
        }

pub stands_behind : (signals signals' : List Signal) (values values' : List Bool) (s : Signal) (value : Bool) → length signals ≡ length values
    → StandsWith signals' values' s value → StandsWith (signals ++ signals') (values ++ values') s value
stands_behind [] signals' [] values' s value fit p = p
stands_behind [] signals' (y ∷ ys) values' s value fit p = absurd (omega (arith, fit))
stands_behind (x ∷ xs) signals' [] values' s value fit p = absurd (omega (arith, fit))
stands_behind (x ∷ xs) signals' (y ∷ ys) values' s value fit p =
    let rest = stands_behind xs signals' ys values' s value (omega (arith, fit)) p in
    record { i = suc rest.i; signal_at = rest.signal_at; value_at = rest.value_at }

-- ---- the value that is shown for a bit

-- the value of the first signal that is the bit
first_value : (b : ℕ) (s : Signal) (value : Bool) (rest : List BitValue) (t : Bool) → is_bit b s ≡ t
    → bit_at (cons_option (bit_value s value) rest) b ≡ cond t value (bit_at rest b)
first_value b Zero value rest t is = ap (λ u. cond u value (bit_at rest b)) is
first_value b One value rest t is = ap (λ u. cond u value (bit_at rest b)) is
first_value b Unknown value rest t is = ap (λ u. cond u value (bit_at rest b)) is
first_value b HighZ value rest t is = ap (λ u. cond u value (bit_at rest b)) is
first_value b (Bit a) value rest t is =
    elim (a == b) as (λ u. unwrap_or (option_map (λ (e : BitValue). e.value) (cond u (Some (record { bit = a; value = value })) (find (λ e. e.bit == b) rest))) false ≡ cond u value (bit_at rest b)) [
      | true ↦ refl
      | false ↦ refl
    ]
    ∙ ap (λ u. cond u value (bit_at rest b)) is

-- a bit that is none of the signals is shown as 0
pub none_shown : (b : ℕ) (signals : List Signal) (values : List Bool) → count_of (is_bit b) signals ≡ 0 → bit_at (shown_values signals values) b ≡ false
none_shown b [] values none = refl
none_shown b (s ∷ signals) [] none = refl
none_shown b (s ∷ signals) (value ∷ values) none = by (is_bit b s) refl (none_shown b signals values)
  where
    by : (t : Bool) → is_bit b s ≡ t → (count_of (is_bit b) signals ≡ 0 → bit_at (shown_values signals values) b ≡ false)
        → bit_at (cons_option (bit_value s value) (shown_values signals values)) b ≡ false
    by true is rest = absurd (omega (arith, none, ap one_if is))
    by false is rest = first_value b s value (shown_values signals values) false is ∙ rest (omega (arith, none, ap one_if is))

shown_at : (b : ℕ) (s : Signal) (value : Bool) → is_bit b s ≡ true → (signals : List Signal) (values : List Bool) (i : ℕ) → count_of (is_bit b) signals ≤ 1
    → slice_get signals i ≡ Some s → get_or values i false ≡ value → bit_at (shown_values signals values) b ≡ value
shown_at b s value is [] values i once stands same = absurd (cc)
shown_at b s value is (x ∷ xs) [] i once stands same = same
shown_at b s value is (x ∷ xs) (y ∷ ys) zero once stands same =
    let here : x ≡ s = cc in
    first_value b x y (shown_values xs ys) true (ap (is_bit b) here ∙ is) ∙ same
shown_at b s value is (x ∷ xs) (y ∷ ys) (suc i) once stands same =
    by (is_bit b x) refl (λ less. shown_at b s value is xs ys i less stands same)
  where
    by : (t : Bool) → is_bit b x ≡ t → (count_of (is_bit b) xs ≤ 1 → bit_at (shown_values xs ys) b ≡ value)
        → bit_at (cons_option (bit_value x y) (shown_values xs ys)) b ≡ value
    by true first rest = let later = counted (is_bit b) xs i s stands is in absurd (omega (arith, once, later, ap one_if first))
    by false first rest = first_value b x y (shown_values xs ys) false first ∙ rest (omega (arith, once, ap one_if first))

-- a bit that is one of the signals, once, is shown with the value that stands there
pub one_shown : (b : ℕ) (signals : List Signal) (values : List Bool) (s : Signal) (value : Bool) → count_of (is_bit b) signals ≤ 1
    → is_bit b s ≡ true → StandsWith signals values s value → bit_at (shown_values signals values) b ≡ value
one_shown b signals values s value once is p = shown_at b s value is signals values p.i once p.signal_at p.value_at
