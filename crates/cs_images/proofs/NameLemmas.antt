-- Where names stand, and what holds of names that aren't faulty.
use Rattle.std.proofs.Common.{◌≡◌, ℕ, zero, suc, ◌+◌, ◌<◌, List, [], ◌∷◌, length, map, drop, get_or, Bool, true, false, ◌||◌, cond, bytes_eq, Option, Some, None, refl, sym, ap, ◌∙◌, arith, add-one}
use Rattle.std.specs.Prelude.{IfSome, find, if◌then◌else◌, is_some, nat_lt, slice_get}
use Rattle.std.specs.List.{list_any, position_from}
use Rattle.std.specs.Borrow.{Bor}
use Rattle.std.specs.Option.{option_copied, option_or}
use Rattle.std.proofs.Math.Seq.{drop-cons}
use Rattle.std.proofs.lemmas.Slice.Eq.{bytes_eq-Decides}
use Rattle.cs_net.proofs.CellNames.{bytes_eq_flips}
use Rattle.cs_images.specs.Names.{place_of}

-- ---- places

-- a name has a place exactly where it is among the names
pub placed_if_among : {A : Type 0} (p : A → Bool) (k : ℕ) (xs : List A) → is_some (position_from p k xs) ≡ list_any p xs
placed_if_among p k [] = refl
placed_if_among p k (x ∷ xs) = here (p x) (position_from p (k + 1) xs) (list_any p xs) (placed_if_among p (k + 1) xs)
  where
    here : (t : Bool) (o : Option ℕ) (b : Bool) → is_some o ≡ b → is_some (cond t (Some k) o) ≡ (t || b)
    here true o b is = refl
    here false o b is = is

-- a name that has a place keeps it
pub noted_before : (get : List ℕ → Option ℕ) (name n : List ℕ) (place : ℕ) → is_some (get name) ≡ true
    → get n ≡ option_or (get n) (if bytes_eq name n then Some place else None)
noted_before get name n place has = at (bytes_eq name n) refl
  where
    kept : (o : Option ℕ) (p : Option ℕ) → is_some o ≡ true → o ≡ option_or o p
    kept None p h = absurd (cc)
    kept (Some i) p h = refl

    same_or_none : (o : Option ℕ) → o ≡ option_or o None
    same_or_none None = refl
    same_or_none (Some i) = refl

    at : (t : Bool) → bytes_eq name n ≡ t → get n ≡ option_or (get n) (cond t (Some place) None)
    at true is =
        let same : name ≡ n = sym ((bytes_eq-Decides n name).0 (bytes_eq_flips n name ∙ is)) in
        kept (get n) (Some place) (ap (λ m. is_some (get m)) (sym same) ∙ has)
    at false is = same_or_none (get n)

-- a name without a place takes it
pub noted_now : (get : List ℕ → Option ℕ) (name n : List ℕ) (place : ℕ) (new : Option ℕ) → is_some (get name) ≡ false
    → new ≡ cond (bytes_eq name n) (Some place) (get n)
    → new ≡ option_or (get n) (if bytes_eq name n then Some place else None)
noted_now get name n place new has is = is ∙ at (bytes_eq name n) refl
  where
    taken : (o : Option ℕ) → is_some o ≡ false → Some place ≡ option_or o (Some place)
    taken None h = refl
    taken (Some i) h = absurd (cc)

    same_or_none : (o : Option ℕ) → o ≡ option_or o None
    same_or_none None = refl
    same_or_none (Some i) = refl

    at : (t : Bool) → bytes_eq name n ≡ t
        → cond t (Some place) (get n) ≡ option_or (get n) (cond t (Some place) None)
    at true equal =
        let same : name ≡ n = sym ((bytes_eq-Decides n name).0 (bytes_eq_flips n name ∙ equal)) in
        taken (get n) (ap (λ m. is_some (get m)) (sym same) ∙ has)
    at false equal = same_or_none (get n)

-- the name at a place is noted, and those after it are left
pub one_place : {A : Type 0} (f : A → List ℕ) (name : List ℕ) (place : ℕ) (xs : List A) (x : A) (old new : Option ℕ)
    → place < length xs → x ≡ get_or xs place x
    → new ≡ option_or old (if bytes_eq (f x) name then Some place else None)
    → option_or new (position_from (λ n. bytes_eq n name) (place + 1) (map f (drop (place + 1) xs)))
    ≡ option_or old (position_from (λ n. bytes_eq n name) place (map f (drop place xs)))
one_place f name place xs x old new below at noted =
    ap (λ o. option_or o later) noted
    ∙ joined old (bytes_eq (f x) name)
    ∙ ap (λ ys. option_or old (position_from (λ n. bytes_eq n name) place (map f ys))) (sym left)
  where
    later : Option ℕ
    later = position_from (λ n. bytes_eq n name) (place + 1) (map f (drop (place + 1) xs))

    left : drop place xs ≡ x ∷ drop (place + 1) xs
    left =
        drop-cons xs place x below ∙ ap (λ y. y ∷ drop (suc place) xs) (sym at)
        ∙ ap (λ n. x ∷ drop n xs) (sym (add-one place))

    joined : (old : Option ℕ) (t : Bool)
        → option_or (option_or old (if t then Some place else None)) later ≡ option_or old (cond t (Some place) later)
    joined None true = refl
    joined None false = refl
    joined (Some i) t = refl

-- what stands at a place is what is found
abbrev StandsFrom : {A : Type 0} → ℕ → List A → ℕ → Option A → Type 0
StandsFrom k xs i found = (j : ℕ) × (i ≡ k + j) × (slice_get xs j ≡ found)

stands_here : {A : Type 0} (k : ℕ) (x : A) (xs : List A) (i : ℕ) (place : Option ℕ) (found : Option A) (t : Bool)
    → (place ≡ Some i → StandsFrom (k + 1) xs i found) → cond t (Some k) place ≡ Some i
    → StandsFrom k (x ∷ xs) i (cond t (Some x) found)
stands_here k x xs i place found true later is =
    let same : k ≡ i = cc in
    let at : i ≡ k + 0 = omega arith in
    (0, at, refl)
stands_here k x xs i place found false later is =
    let there = later is in
    let at : i ≡ k + suc there.0 = there.1 ∙ omega arith in
    (suc there.0, at, there.2)

stands_from : {A : Type 0} (f : A → List ℕ) (name : List ℕ) (k : ℕ) (xs : List A) (i : ℕ)
    → position_from (λ n. bytes_eq n name) k (map f xs) ≡ Some i
    → StandsFrom k xs i (find (λ x. bytes_eq (f x) name) xs)
stands_from f name k [] i is = absurd (cc)
stands_from f name k (x ∷ xs) i is =
    stands_here k x xs i (position_from (λ n. bytes_eq n name) (k + 1) (map f xs))
    (find (λ x. bytes_eq (f x) name) xs) (bytes_eq (f x) name) (stands_from f name (k + 1) xs i) is

pub found_at_place : {A : Type 0} (f : A → List ℕ) (name : List ℕ) (xs : List A) (i : ℕ)
    → place_of name (map f xs) ≡ Some i → slice_get xs i ≡ find (λ x. bytes_eq (f x) name) xs
found_at_place f name xs i is =
    let there = stands_from f name 0 xs i is in
    let same : i ≡ there.0 = there.1 ∙ omega arith in
    ap (slice_get xs) same ∙ there.2

-- where there is no place, nothing is found
nowhere_here : {A : Type 0} (k : ℕ) (x : A) (place : Option ℕ) (found : Option A) (t : Bool)
    → (place ≡ None → found ≡ None) → cond t (Some k) place ≡ None → cond t (Some x) found ≡ None
nowhere_here k x place found true later is = absurd (cc)
nowhere_here k x place found false later is = later is

pub found_nowhere : {A : Type 0} (f : A → List ℕ) (name : List ℕ) (k : ℕ) (xs : List A)
    → position_from (λ n. bytes_eq n name) k (map f xs) ≡ None → find (λ x. bytes_eq (f x) name) xs ≡ None
found_nowhere f name k [] is = refl
found_nowhere f name k (x ∷ xs) is =
    nowhere_here k x (position_from (λ n. bytes_eq n name) (k + 1) (map f xs))
    (find (λ x. bytes_eq (f x) name) xs) (bytes_eq (f x) name) (found_nowhere f name (k + 1) xs) is

-- ---- what isn't faulty

-- what is found fails a test that nothing passes
passes_at : {A : Type 0} (test : A → Bool) (y x : A) (later found : Option A) (b c : Bool) → test y ≡ b
    → cond b (Some y) found ≡ None → (found ≡ None → later ≡ Some x → test x ≡ false)
    → cond c (Some y) later ≡ Some x → test x ≡ false
passes_at test y x later found true c here none rest is = absurd (cc)
passes_at test y x later found false true here none rest is = let same : y ≡ x = cc in ap test (sym same) ∙ here
passes_at test y x later found false false here none rest is = rest none is

pub found_passes_not : {A : Type 0} (test among : A → Bool) (xs : List A) (x : A) → find test xs ≡ None
    → find among xs ≡ Some x → test x ≡ false
found_passes_not test among [] x none is = absurd (cc)
found_passes_not test among (y ∷ ys) x none is =
    passes_at test y x (find among ys) (find test ys) (test y) (among y) refl none
    (λ later. found_passes_not test among ys x later) is

-- ---- looking at a place

past_the_end : {A : Type 0} (xs : List A) (i : ℕ) → nat_lt i (length xs) ≡ false → slice_get xs i ≡ None
past_the_end [] i h = refl
past_the_end (x ∷ xs) zero h = absurd (grind arith)
past_the_end (x ∷ xs) (suc i) h = past_the_end xs i (grind arith)

stands_at : {A : Type 0} (xs : List A) (i : ℕ) (x : A) → nat_lt i (length xs) ≡ true → x ≡ get_or xs i x
    → slice_get xs i ≡ Some x
stands_at [] i x h at = absurd (grind arith)
stands_at (y ∷ ys) zero x h at = ap Some (sym at)
stands_at (y ∷ ys) (suc i) x h at = stands_at ys i x (grind arith) at

-- what a look at a place gives
pub got_at : {A : Type 0} (xs : List A) (i : ℕ) (got : Option (Bor A)) → is_some got ≡ nat_lt i (length xs)
    → IfSome got (λ x. x.now ≡ get_or xs i x.now) → option_copied got ≡ slice_get xs i
got_at xs i None there is = sym (past_the_end xs i (sym there))
got_at xs i (Some x) there is = sym (stands_at xs i x.now (sym there) is)
