-- Where a bit stands among rows of drivers.
use Rattle.std.proofs.Common.{◌≡◌, ℕ, zero, suc, ◌+◌, ◌<◌, ◌≤◌, List, [], ◌∷◌, ◌++◌, length, length-append, take, Bool, true, false, cond, ◌||◌, Some, None, refl, ap, ◌∙◌, arith, inl, inr}
use Rattle.std.specs.Prelude.{◌⊎◌, find, flat_map, option_map, slice_get}
use Rattle.std.specs.List.{position_from}
use Rattle.cs_base.specs.declared.signal.Signal.{Signal}
use Rattle.cs_modules.specs.Signals.{holds_bit, is_bit}
use Rattle.cs_net.specs.Drivers.{DrivenSignal}
use Rattle.cs_sim.proofs.PieceLemmas.{signals_of}

-- ---- places in lists that are joined

-- how many elements stand before the list of a number
abbrev pub offset : {A B : Type 0} → (A → List B) → List A → ℕ → ℕ
offset f xs v = length (flat_map f (take v xs))

pub slice_get_front : {A : Type 0} (xs ys : List A) (i : ℕ) (x : A) → slice_get xs i ≡ Some x → slice_get (xs ++ ys) i ≡ Some x
slice_get_front [] ys i x h = absurd (cc)
slice_get_front (y ∷ xs) ys zero x h = h
slice_get_front (y ∷ xs) ys (suc i) x h = slice_get_front xs ys i x h

slice_get_rear : {A : Type 0} (xs ys : List A) (i : ℕ) → slice_get (xs ++ ys) (length xs + i) ≡ slice_get ys i
slice_get_rear [] ys i = ap (slice_get ys) (omega arith)
slice_get_rear (x ∷ xs) ys i =
    let next : length (x ∷ xs) + i ≡ suc (length xs + i) = omega arith in
    ap (slice_get (x ∷ (xs ++ ys))) next ∙ slice_get_rear xs ys i

-- element p of list v
pub joined_at : {A B : Type 0} (f : A → List B) (xs : List A) (v p : ℕ) (x : A) (y : B) → slice_get xs v ≡ Some x
    → slice_get (f x) p ≡ Some y → slice_get (flat_map f xs) (offset f xs v + p) ≡ Some y
joined_at f [] v p x y h at = absurd (cc)
joined_at f (z ∷ xs) zero p x y h at =
    let same : z ≡ x = cc in
    ap (slice_get (f z ++ flat_map f xs)) (omega arith)
    ∙ slice_get_front (f z) (flat_map f xs) p y (ap (λ w. slice_get (f w) p) same ∙ at)
joined_at f (z ∷ xs) (suc v) p x y h at =
    let n = length-append (f z) (flat_map f (take v xs)) in
    let far : offset f (z ∷ xs) (suc v) + p ≡ length (f z) + (offset f xs v + p) = omega (arith, n) in
    ap (slice_get (f z ++ flat_map f xs)) far ∙ slice_get_rear (f z) (flat_map f xs) (offset f xs v + p) ∙ joined_at f xs v p x y h at

-- lists of other numbers lie elsewhere
pub offsets_apart : {A B : Type 0} (f : A → List B) (xs : List A) (u v : ℕ) (x : A) → slice_get xs u ≡ Some x → u < v
    → offset f xs u + length (f x) ≤ offset f xs v
offsets_apart f [] u v x h below = absurd (cc)
offsets_apart f (z ∷ xs) zero zero x h below = absurd (omega arith)
offsets_apart f (z ∷ xs) zero (suc v) x h below =
    let same : z ≡ x = cc in
    let n = length-append (f z) (flat_map f (take v xs)) in
    omega (arith, n, ap (λ w. length (f w)) same)
offsets_apart f (z ∷ xs) (suc u) zero x h below = absurd (omega arith)
offsets_apart f (z ∷ xs) (suc u) (suc v) x h below =
    let rest = offsets_apart f xs u v x h (omega arith) in
    let n = length-append (f z) (flat_map f (take u xs)) in
    let m = length-append (f z) (flat_map f (take v xs)) in
    omega (arith, rest, n, m)

-- a list lies within the whole
pub offset_within : {A B : Type 0} (f : A → List B) (xs : List A) (v : ℕ) (x : A) → slice_get xs v ≡ Some x
    → offset f xs v + length (f x) ≤ length (flat_map f xs)
offset_within f [] v x h = absurd (cc)
offset_within f (z ∷ xs) zero x h =
    let same : z ≡ x = cc in
    omega (arith, length-append (f z) (flat_map f xs), ap (λ w. length (f w)) same)
offset_within f (z ∷ xs) (suc v) x h =
    omega (arith, offset_within f xs v x h, length-append (f z) (flat_map f (take v xs)), length-append (f z) (flat_map f xs))

pub slice_get_below : {A : Type 0} (xs : List A) (i : ℕ) (x : A) → slice_get xs i ≡ Some x → i < length xs
slice_get_below [] i x h = absurd (cc)
slice_get_below (y ∷ xs) zero x h = omega arith
slice_get_below (y ∷ xs) (suc i) x h = omega (arith, slice_get_below xs i x h)

-- ---- the first that passes

-- it passes nowhere, or it does at the first place i with element x; places begin at k
pub data First {A : Type 0} (test : A → Bool) (k : ℕ) (xs : List A) : Type 0 where
  nowhere : position_from test k xs ≡ None → find test xs ≡ None → First test k xs
  there : (i : ℕ) (x : A) → position_from test k xs ≡ Some (k + i) → find test xs ≡ Some x → slice_get xs i ≡ Some x → test x ≡ true → First test k xs

pub first_of : {A : Type 0} (test : A → Bool) (k : ℕ) (xs : List A) → First test k xs
first_of test k [] = nowhere refl refl
first_of {A = A} test k (x ∷ xs) = here (test x) refl (first_of test (k + 1) xs)
  where
    here : (t : Bool) → test x ≡ t → First test (k + 1) xs → First test k (x ∷ xs)
    here true is rest = there 0 x (rw is (ap (λ n. Some n) (omega arith))) (rw is refl) refl is
    here false is (nowhere none missing) = nowhere (rw is none) (rw is missing)
    here false is (there i y at found stands passes) =
        there (suc i) y (rw is (at ∙ ap (λ n. Some n) (omega arith))) (rw is found) stands passes

pub position_shift : {A : Type 0} (test : A → Bool) (k n : ℕ) (xs : List A)
    → position_from test (k + n) xs ≡ option_map (λ i. i + n) (position_from test k xs)
position_shift test k n [] = refl
position_shift test k n (x ∷ xs) =
    let next : (k + n) + 1 ≡ (k + 1) + n = omega arith in
    let rest = ap (λ m. position_from test m xs) next ∙ position_shift test (k + 1) n xs in
    elim (test x) as (λ t. cond t (Some (k + n)) (position_from test ((k + n) + 1) xs) ≡ option_map (λ i. i + n) (cond t (Some k) (position_from test (k + 1) xs))) [
      | true ↦ refl
      | false ↦ rest
    ]

position_front : {A : Type 0} (test : A → Bool) (k i : ℕ) (xs ys : List A) → position_from test k xs ≡ Some i
    → position_from test k (xs ++ ys) ≡ Some i
position_front test k i [] ys h = absurd (cc)
position_front test k i (x ∷ xs) ys h =
    elim (test x) as (λ t. cond t (Some k) (position_from test (k + 1) xs) ≡ Some i → cond t (Some k) (position_from test (k + 1) (xs ++ ys)) ≡ Some i) [
      | true ↦ λ at. at
      | false ↦ λ at. position_front test (k + 1) i xs ys at
    ] h

position_rear : {A : Type 0} (test : A → Bool) (k : ℕ) (xs ys : List A) → position_from test k xs ≡ None
    → position_from test k (xs ++ ys) ≡ position_from test (k + length xs) ys
position_rear test k [] ys h = ap (λ n. position_from test n ys) (omega arith)
position_rear test k (x ∷ xs) ys h =
    let far : (k + 1) + length xs ≡ k + length (x ∷ xs) = omega arith in
    elim (test x) as (λ t. cond t (Some k) (position_from test (k + 1) xs) ≡ None → cond t (Some k) (position_from test (k + 1) (xs ++ ys)) ≡ position_from test (k + length (x ∷ xs)) ys) [
      | true ↦ λ at. absurd (cc)
      | false ↦ λ at. position_rear test (k + 1) xs ys at ∙ ap (λ n. position_from test n ys) far
    ] h

none_holds : (b k : ℕ) (signals : List Signal) → position_from (is_bit b) k signals ≡ None → holds_bit b signals ≡ false
none_holds b k [] h = refl
none_holds b k (s ∷ signals) h =
    elim (is_bit b s) as (λ t. cond t (Some k) (position_from (is_bit b) (k + 1) signals) ≡ None → (t || holds_bit b signals) ≡ false) [
      | true ↦ λ at. absurd (cc)
      | false ↦ λ at. none_holds b (k + 1) signals at
    ] h

some_holds : (b k i : ℕ) (signals : List Signal) → position_from (is_bit b) k signals ≡ Some i → holds_bit b signals ≡ true
some_holds b k i [] h = absurd (cc)
some_holds b k i (s ∷ signals) h =
    elim (is_bit b s) as (λ t. cond t (Some k) (position_from (is_bit b) (k + 1) signals) ≡ Some i → (t || holds_bit b signals) ≡ true) [
      | true ↦ λ at. refl
      | false ↦ λ at. some_holds b (k + 1) i signals at
    ] h

-- ---- a bit among rows of drivers

abbrev pub row_signals : {A : Type 0} → (A → List DrivenSignal) → List A → List Signal
row_signals f xs = signals_of (flat_map f xs)

abbrev pub drives_bit : ℕ → DrivenSignal → Bool
drives_bit b d = is_bit b d.0

-- the first row that drives bit b has the number v, its first driver of it stands there at place p
pub record IsDriven {A : Type 0} (f : A → List DrivenSignal) (xs : List A) (b : ℕ) : Type 0 where
  pub v : ℕ
  pub p : ℕ
  pub row : A
  pub driver : DrivenSignal
  pub row_at : slice_get xs v ≡ Some row
  pub driver_at : slice_get (f row) p ≡ Some driver
  pub drives : is_bit b driver.0 ≡ true
  pub place : position_from (is_bit b) 0 (row_signals f xs) ≡ Some (offset f xs v + p)
  pub found : find (drives_bit b) (flat_map f xs) ≡ Some driver
  pub owner : position_from (λ x. holds_bit b (signals_of (f x))) 0 xs ≡ Some v

pub record IsUndriven {A : Type 0} (f : A → List DrivenSignal) (xs : List A) (b : ℕ) : Type 0 where
  pub place : position_from (is_bit b) 0 (row_signals f xs) ≡ None
  pub found : find (drives_bit b) (flat_map f xs) ≡ None

signals_joined : (xs ys : List DrivenSignal) → signals_of (xs ++ ys) ≡ signals_of xs ++ signals_of ys
signals_joined [] ys = refl
signals_joined (x ∷ xs) ys = ap (λ rest. x.0 ∷ rest) (signals_joined xs ys)

-- the same place among signals as among drivers
same_position : (b k : ℕ) (ds : List DrivenSignal) → position_from (is_bit b) k (signals_of ds) ≡ position_from (drives_bit b) k ds
same_position b k [] = refl
same_position b k (d ∷ ds) =
    elim (is_bit b d.0) as (λ t. cond t (Some k) (position_from (is_bit b) (k + 1) (signals_of ds)) ≡ cond t (Some k) (position_from (drives_bit b) (k + 1) ds)) [
      | true ↦ refl
      | false ↦ same_position b (k + 1) ds
    ]

signals_count : (ds : List DrivenSignal) → length (signals_of ds) ≡ length ds
signals_count [] = refl
signals_count (d ∷ ds) = ap suc (signals_count ds)

find_front : {A : Type 0} (test : A → Bool) (xs ys : List A) (x : A) → find test xs ≡ Some x → find test (xs ++ ys) ≡ Some x
find_front test [] ys x h = absurd (cc)
find_front test (z ∷ xs) ys x h =
    elim (test z) as (λ t. cond t (Some z) (find test xs) ≡ Some x → cond t (Some z) (find test (xs ++ ys)) ≡ Some x) [
      | true ↦ λ is. is
      | false ↦ λ is. find_front test xs ys x is
    ] h

find_rear : {A : Type 0} (test : A → Bool) (xs ys : List A) → find test xs ≡ None → find test (xs ++ ys) ≡ find test ys
find_rear test [] ys h = refl
find_rear test (z ∷ xs) ys h =
    elim (test z) as (λ t. cond t (Some z) (find test xs) ≡ None → cond t (Some z) (find test (xs ++ ys)) ≡ find test ys) [
      | true ↦ λ is. absurd (cc)
      | false ↦ λ is. find_rear test xs ys is
    ] h

module _ {A : Type 0} (f : A → List DrivenSignal) (b : ℕ) where
  driven_here : (x : A) (xs : List A) (i : ℕ) (d : DrivenSignal) → position_from (drives_bit b) 0 (f x) ≡ Some (0 + i)
      → find (drives_bit b) (f x) ≡ Some d → slice_get (f x) i ≡ Some d → is_bit b d.0 ≡ true → IsDriven f (x ∷ xs) b
  driven_here x xs i d at found stands passes =
      let at' : position_from (is_bit b) 0 (signals_of (f x)) ≡ Some (0 + i) = same_position b 0 (f x) ∙ at in
      let holds = some_holds b 0 (0 + i) (signals_of (f x)) at' in
      record {
        v = 0;
        p = i;
        row = x;
        driver = d;
        row_at = refl;
        driver_at = stands;
        drives = passes;
        place =
            ap (position_from (is_bit b) 0) (signals_joined (f x) (flat_map f xs))
            ∙ position_front (is_bit b) 0 (0 + i) (signals_of (f x)) (row_signals f xs) at';
        found = find_front (drives_bit b) (f x) (flat_map f xs) d found;
        owner = rw holds refl;
      }

  driven_later : (x : A) (xs : List A) → position_from (drives_bit b) 0 (f x) ≡ None → find (drives_bit b) (f x) ≡ None
      → IsDriven f xs b → IsDriven f (x ∷ xs) b
  driven_later x xs none missing d =
      let none' : position_from (is_bit b) 0 (signals_of (f x)) ≡ None = same_position b 0 (f x) ∙ none in
      let holds = none_holds b 0 (signals_of (f x)) none' in
      let count = signals_count (f x) in
      let n = length-append (f x) (flat_map f (take d.v xs)) in
      record {
        v = suc d.v;
        p = d.p;
        row = d.row;
        driver = d.driver;
        row_at = d.row_at;
        driver_at = d.driver_at;
        drives = d.drives;
        place =
            ap (position_from (is_bit b) 0) (signals_joined (f x) (flat_map f xs))
            ∙ position_rear (is_bit b) 0 (signals_of (f x)) (row_signals f xs) none'
            ∙ position_shift (is_bit b) 0 (length (signals_of (f x))) (row_signals f xs)
            ∙ ap (option_map (λ i. i + length (signals_of (f x)))) d.place
            ∙ ap (λ i. Some i) (omega (arith, n, count));
        found = find_rear (drives_bit b) (f x) (flat_map f xs) missing ∙ d.found;
        owner =
            rw holds (position_shift (λ y. holds_bit b (signals_of (f y))) 0 1 xs ∙ ap (option_map (λ i. i + 1)) d.owner ∙ ap (λ i. Some i) (omega arith));
      }

  undriven_later : (x : A) (xs : List A) → position_from (drives_bit b) 0 (f x) ≡ None → find (drives_bit b) (f x) ≡ None
      → IsUndriven f xs b → IsUndriven f (x ∷ xs) b
  undriven_later x xs none missing d =
      let none' : position_from (is_bit b) 0 (signals_of (f x)) ≡ None = same_position b 0 (f x) ∙ none in
      record {
        place =
            ap (position_from (is_bit b) 0) (signals_joined (f x) (flat_map f xs))
            ∙ position_rear (is_bit b) 0 (signals_of (f x)) (row_signals f xs) none'
            ∙ position_shift (is_bit b) 0 (length (signals_of (f x))) (row_signals f xs)
            ∙ ap (option_map (λ i. i + length (signals_of (f x)))) d.place;
        found = find_rear (drives_bit b) (f x) (flat_map f xs) missing ∙ d.found;
      }

  pub located : (xs : List A) → IsDriven f xs b ⊎ IsUndriven f xs b
  located [] = inr (record { place = refl; found = refl })
  located (x ∷ xs) = by_row (first_of (drives_bit b) 0 (f x)) (located xs)
    where
      by_row : First (drives_bit b) 0 (f x) → IsDriven f xs b ⊎ IsUndriven f xs b → IsDriven f (x ∷ xs) b ⊎ IsUndriven f (x ∷ xs) b
      by_row (there i d at found stands passes) rest = inl (driven_here x xs i d at found stands passes)
      by_row (nowhere none missing) (inl d) = inl (driven_later x xs none missing d)
      by_row (nowhere none missing) (inr d) = inr (undriven_later x xs none missing d)
