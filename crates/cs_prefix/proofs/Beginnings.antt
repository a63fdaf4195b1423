-- Which lists begin with which, and the order of lists of one length.
use Rattle.std.proofs.Common.{◌≡◌, ℕ, zero, suc, ◌≤◌, ◌⊎◌, inl, inr, List, [], ◌∷◌, ◌++◌, length, take, get_or, filter, Bool, true, false, not, cond, ◌&&◌, refl, sym, subst, ap, ap₂, ◌∙◌, arith}
use Rattle.std.specs.Prelude.{slice_get, if◌then◌else◌}
use Rattle.cs_prefix.specs.Layers.{goes_on, is_start}

-- ---- beginnings

abbrev pub same : Bool → Bool → Bool
same a b = if a then b else not b

-- the second list begins with the first
abbrev pub is_prefix : List Bool → List Bool → Bool
is_prefix [] xs = true
is_prefix (b ∷ p) [] = false
is_prefix (b ∷ p) (x ∷ xs) = same b x && is_prefix p xs

and_true : (b : Bool) → (b && true) ≡ b
and_true true = refl
and_true false = refl

and_false : (b : Bool) → (b && false) ≡ false
and_false true = refl
and_false false = refl

and_assoc : (a b c : Bool) → (a && (b && c)) ≡ ((a && b) && c)
and_assoc true b c = refl
and_assoc false b c = refl

pub both : (a b : Bool) → (a && b) ≡ true → (a ≡ true) × (b ≡ true)
both true true h = (refl, refl)
both true false h = absurd (cc)
both false b h = absurd (cc)

-- one digit more
pub prefix_more : (p : List Bool) (b : Bool) (xs : List Bool)
    → is_prefix (p ++ b ∷ []) xs ≡ (is_prefix p xs && is_start b (slice_get xs (length p)))
prefix_more [] b [] = refl
prefix_more [] b (x ∷ xs) = and_true (same b x)
prefix_more (a ∷ p) b [] = refl
prefix_more (a ∷ p) b (x ∷ xs) =
    ap (λ t. same a x && t) (prefix_more p b xs) ∙ and_assoc (same a x) (is_prefix p xs) _

same_is : (a b : Bool) → same a b ≡ true → a ≡ b
same_is true true h = refl
same_is true false h = absurd (cc)
same_is false true h = absurd (cc)
same_is false false h = refl

pub prefix_is_taken : (p xs : List Bool) → is_prefix p xs ≡ true → p ≡ take (length p) xs
prefix_is_taken [] xs h = refl
prefix_is_taken (b ∷ p) [] h = absurd (cc)
prefix_is_taken (b ∷ p) (x ∷ xs) h =
    let parts = both (same b x) (is_prefix p xs) h in
    ap₂ (λ d ds. d ∷ ds) (same_is b x parts.0) (prefix_is_taken p xs parts.1)

pub prefix_is_short : (p xs : List Bool) → is_prefix p xs ≡ true → length p ≤ length xs
prefix_is_short [] xs h = omega arith
prefix_is_short (b ∷ p) [] h = absurd (cc)
prefix_is_short (b ∷ p) (x ∷ xs) h =
    let rest = prefix_is_short p xs (both (same b x) (is_prefix p xs) h).1 in omega arith

same_self : (b : Bool) → same b b ≡ true
same_self true = refl
same_self false = refl

pub taken_is_prefix : (l : ℕ) (xs : List Bool) → is_prefix (take l xs) xs ≡ true
taken_is_prefix zero xs = refl
taken_is_prefix (suc l) [] = refl
taken_is_prefix (suc l) (x ∷ xs) = ap₂ (λ a b. a && b) (same_self x) (taken_is_prefix l xs)

-- ---- the edges that go on

filter_twice : {A : Type 0} (f g h : A → Bool) (xs : List A) → ((x : A) → h x ≡ (g x && f x))
    → filter f (filter g xs) ≡ filter h xs
filter_twice f g h [] same = refl
filter_twice f g h (x ∷ xs) same =
    rw (same x)
    (elim (g x) as (λ t. filter f (cond t (x ∷ filter g xs) (filter g xs)) ≡ cond (t && f x) (x ∷ filter h xs)
    (filter h xs)) [
      | true ↦ ap (λ rest. cond (f x) (x ∷ rest) rest) (filter_twice f g h xs same)
      | false ↦ filter_twice f g h xs same
    ])

-- the contents of an edge begin so
abbrev pub begins : List (List Bool) → List Bool → ℕ → Bool
begins contents p e = is_prefix p (get_or contents e [])

pub going_on_begin : (contents : List (List Bool)) (p : List Bool) (b : Bool) (es : List ℕ)
    → filter (goes_on contents (length p) b) (filter (begins contents p) es)
    ≡ filter (begins contents (p ++ b ∷ [])) es
going_on_begin contents p b es =
    filter_twice (goes_on contents (length p) b) (begins contents p) (begins contents (p ++ b ∷ [])) es
    (λ e. prefix_more p b (get_or contents e []))

-- ---- members

abbrev pub In : ℕ → List ℕ → Type 0
In e [] = ⊥
In e (x ∷ xs) = (x ≡ e) ⊎ In e xs

pub in_filter : (f : ℕ → Bool) (e : ℕ) (es : List ℕ) → In e es → f e ≡ true → In e (filter f es)
in_filter f e [] h passes = h
in_filter f e (x ∷ es) (inl is) passes =
    subst (λ t. In e (cond t (x ∷ filter f es) (filter f es))) (sym (ap f is ∙ passes)) (inl is)
in_filter f e (x ∷ es) (inr rest) passes =
    elim (f x) as (λ t. In e (cond t (x ∷ filter f es) (filter f es))) [
      | true ↦ inr (in_filter f e es rest passes)
      | false ↦ in_filter f e es rest passes
    ]

pub of_filter : (f : ℕ → Bool) (e : ℕ) (es : List ℕ) → In e (filter f es) → In e es × (f e ≡ true)
of_filter f e [] h = absurd h
of_filter f e (x ∷ es) h = by_test (f x) refl (of_filter f e es) h
  where
    by_test : (t : Bool) → f x ≡ t → (In e (filter f es) → In e es × (f e ≡ true))
        → In e (cond t (x ∷ filter f es) (filter f es)) → In e (x ∷ es) × (f e ≡ true)
    by_test true is later (inl same) = (inl same, sym (ap f same) ∙ is)
    by_test true is later (inr there) = let rest = later there in (inr rest.0, rest.1)
    by_test false is later here = let rest = later here in (inr rest.0, rest.1)

-- ---- order of lists of one length

abbrev pub is_less : List Bool → List Bool → Bool
is_less [] q = false
is_less (a ∷ p) [] = false
is_less (a ∷ p) (b ∷ q) = if same a b then is_less p q else b

pub less_more : (p q : List Bool) (a b : Bool) → length p ≡ length q → is_less p q ≡ true
    → is_less (p ++ a ∷ []) (q ++ b ∷ []) ≡ true
less_more [] q a b long h = absurd (cc)
less_more (x ∷ p) [] a b long h = absurd (cc)
less_more (x ∷ p) (y ∷ q) a b long h =
    elim (same x y) as (λ t. cond t (is_less p q) y ≡ true → cond t (is_less (p ++ a ∷ []) (q ++ b ∷ [])) y
    ≡ true) [
      | true ↦ λ less. less_more p q a b (omega arith) less
      | false ↦ λ less. less
    ] h

-- 0 stands before 1
pub zero_before_one : (p : List Bool) → is_less (p ++ false ∷ []) (p ++ true ∷ []) ≡ true
zero_before_one [] = refl
zero_before_one (x ∷ p) = rw (same_self x) (zero_before_one p)
