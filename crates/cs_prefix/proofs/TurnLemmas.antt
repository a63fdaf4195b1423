-- The codes of edges: what they tell, and that those of one driver stand together.
use Rattle.std.proofs.Common.{◌≡◌, ℕ, zero, suc, ◌+◌, ◌/◌, ◌%◌, ◌<◌, ◌≤◌, ◌==◌, ◌⊎◌, inl, inr, List, [], ◌∷◌, length, map, take, drop, get_or, Bool, true, false, cond, Some, refl, sym, subst, ap, ap₂, ◌∙◌, ⊎_elim, arith}
use Rattle.std.specs.Prelude.{slice_get}
use Rattle.std.specs.List.{AllByRecursion, Contains, enumerate_from}
use Rattle.std.specs.List.Sorted.{IsNonDecreasing, IsPermutation}
use Rattle.std.proofs.lemmas.List.Sorted.{Contains-permutation}
use Rattle.std.proofs.lemmas.Nat.{div-mul-add}
use Rattle.std.proofs.lemmas.Bool.{eqb-false}
use Rattle.std.proofs.lemmas.Bool.Decides.{Decides-eqb}
use Rattle.cs_prefix.specs.declared.plan.DriverId.{DriverId}
use Rattle.cs_prefix.specs.Prefixes.{IsSmallDriver}
use Rattle.cs_prefix.specs.Runs.{all_codes, driver_code, driver_of, edge_code, edge_of, leading}
use Rattle.cs_prefix.proofs.Beginnings.{In}

-- ---- members

pub in_some : (xs : List ℕ) (n x : ℕ) → slice_get xs n ≡ Some x → In x xs
in_some [] n x h = absurd (cc)
in_some (y ∷ xs) zero x h = let same : y ≡ x = cc in inl same
in_some (y ∷ xs) (suc n) x h = inr (in_some xs n x h)

pub some_in : (xs : List ℕ) (x : ℕ) → In x xs → (n : ℕ) × (slice_get xs n ≡ Some x)
some_in [] x h = absurd h
some_in (y ∷ xs) x (inl same) = (0, ap Some same)
some_in (y ∷ xs) x (inr later) = let rest = some_in xs x later in (suc rest.0, rest.1)

pub all_in : (P : ℕ → Type 0) (xs : List ℕ) → AllByRecursion P xs → (x : ℕ) → In x xs → P x
all_in P [] all x h = absurd h
all_in P (y ∷ xs) all x (inl same) = subst P same all.0
all_in P (y ∷ xs) all x (inr later) = all_in P xs all.1 x later

pub in_parts : (n : ℕ) (xs : List ℕ) (x : ℕ) → In x xs → In x (take n xs) ⊎ In x (drop n xs)
in_parts zero xs x h = inr h
in_parts (suc n) [] x h = absurd h
in_parts (suc n) (y ∷ xs) x (inl same) = inl (inl same)
in_parts (suc n) (y ∷ xs) x (inr later) =
    ⊎_elim (λ here. inl (inr here)) (λ there. inr there) (in_parts n xs x later)

pub in_taken : (n : ℕ) (xs : List ℕ) (x : ℕ) → In x (take n xs) → In x xs
in_taken zero xs x h = absurd h
in_taken (suc n) [] x h = absurd h
in_taken (suc n) (y ∷ xs) x (inl same) = inl same
in_taken (suc n) (y ∷ xs) x (inr later) = inr (in_taken n xs x later)

pub in_dropped : (n : ℕ) (xs : List ℕ) (x : ℕ) → In x (drop n xs) → In x xs
in_dropped zero xs x h = h
in_dropped (suc n) [] x h = absurd h
in_dropped (suc n) (y ∷ xs) x h = inr (in_dropped n xs x h)

pub in_map : (f : ℕ → ℕ) (xs : List ℕ) (x : ℕ) → In x xs → In (f x) (map f xs)
in_map f [] x h = absurd h
in_map f (y ∷ xs) x (inl same) = inl (ap f same)
in_map f (y ∷ xs) x (inr later) = inr (in_map f xs x later)

pub of_map : (f : ℕ → ℕ) (xs : List ℕ) (y : ℕ) → In y (map f xs) → (x : ℕ) × In x xs × (f x ≡ y)
of_map f [] y h = absurd h
of_map f (x ∷ xs) y (inl same) = (x, inl refl, same)
of_map f (x ∷ xs) y (inr later) = let rest = of_map f xs y later in (rest.0, inr rest.1, rest.2)

contains_in : (xs : List ℕ) (x : ℕ) → Contains xs x → In x xs
contains_in [] x h = absurd (let low = h.1 in omega (arith, low))
contains_in (y ∷ xs) x h = by h.0 h.1 h.2 (contains_in xs x)
  where
    by : (k : ℕ) → k < suc (length xs) → get_or (y ∷ xs) k x ≡ x → (Contains xs x → In x xs) → In x (y ∷ xs)
    by zero low is later = inl is
    by (suc k) low is later = inr (later (k, omega (arith, low), is))

in_contains : (xs : List ℕ) (x : ℕ) → In x xs → Contains xs x
in_contains [] x h = absurd h
in_contains (y ∷ xs) x (inl same) = (0, omega arith, same)
in_contains (y ∷ xs) x (inr later) =
    let rest = in_contains xs x later in let low = rest.1 in (suc rest.0, omega (arith, low), rest.2)

pub in_permutation : (xs ys : List ℕ) → IsPermutation xs ys → (x : ℕ) → In x xs → In x ys
in_permutation xs ys same x h = contains_in ys x (Contains-permutation xs ys x same (in_contains xs x h))

-- ---- what a code tells

pub code_driver : (d : DriverId) (e : ℕ) → e < 65536 → edge_code d e / 65536 ≡ driver_code d
code_driver d e low = div-mul-add (driver_code d) 65536 e low

pub code_edge : (d : DriverId) (e : ℕ) → e < 65536 → edge_of (edge_code d e) ≡ e
code_edge d e low = let h = code_driver d e low in omega (arith, h, low)

pub driver_of_code : (d : DriverId) (e : ℕ) → IsSmallDriver d → e < 65536 → driver_of (edge_code d e) ≡ d
driver_of_code d e small low =
    let code = code_driver d e low in
    let vertex = div-mul-add d.vertex 16777216 d.output small.output in
    let output : driver_code d % 16777216 ≡ d.output = let low = small.output in omega (arith, vertex, low) in
    ap₂ (λ v o. let x : DriverId = record { vertex = v; output = o } in x)
    (ap (λ n. n / 16777216) code ∙ vertex) (ap (λ n. n % 16777216) code ∙ output)

pub code_small : (d : DriverId) (e : ℕ) → IsSmallDriver d → e < 65536 → edge_code d e < 72057594037927936
code_small d e small low = let v = small.vertex in let o = small.output in omega (arith, v, o, low)

-- the code of one of these edges
pub record IsCode (drivers : List DriverId) (code : ℕ) : Type 0 where
  pub e : ℕ
  pub driver : DriverId
  pub found : slice_get drivers e ≡ Some driver
  pub is : code ≡ edge_code driver e

code_from : (k : ℕ) (drivers : List DriverId) (code : ℕ)
    → In code (map (λ e. edge_code e.1 e.0) (enumerate_from k drivers))
    → (e : ℕ) × (d : DriverId) × (slice_get drivers e ≡ Some d) × (code ≡ edge_code d (k + e))
code_from k [] code h = absurd h
code_from k (d ∷ drivers) code (inl same) =
    (0, d, refl, sym same ∙ ap (edge_code d) (let e : k ≡ k + 0 = omega arith in e))
code_from k (d ∷ drivers) code (inr later) =
    let rest = code_from (k + 1) drivers code later in
    (suc rest.0, rest.1, rest.2, rest.3 ∙ ap (edge_code rest.1) (move k rest.0))
  where
    move : (k n : ℕ) → k + 1 + n ≡ k + suc n
    move k n = omega arith

code_there : (k : ℕ) (drivers : List DriverId) (e : ℕ) (d : DriverId) → slice_get drivers e ≡ Some d
    → In (edge_code d (k + e)) (map (λ e. edge_code e.1 e.0) (enumerate_from k drivers))
code_there k [] e d h = absurd (cc)
code_there k (x ∷ drivers) zero d h =
    let same : x ≡ d = cc in inl (ap₂ edge_code same (let e : k ≡ k + 0 = omega arith in e))
code_there k (x ∷ drivers) (suc e) d h =
    inr (subst (λ n. In (edge_code d n) (map (λ e. edge_code e.1 e.0) (enumerate_from (k + 1) drivers))) (move k e)
    (code_there (k + 1) drivers e d h))
  where
    move : (k n : ℕ) → k + 1 + n ≡ k + suc n
    move k n = omega arith

pub of_codes : (drivers : List DriverId) (code : ℕ) → In code (all_codes drivers) → IsCode drivers code
of_codes drivers code h =
    let found = code_from 0 drivers code h in
    record {
      e = found.0;
      driver = found.1;
      found = found.2;
      is = found.3 ∙ ap (edge_code found.1)
          (let e : 0 + found.0 ≡ found.0 = omega arith in e);
    }

pub to_codes : (drivers : List DriverId) (e : ℕ) (d : DriverId) → slice_get drivers e ≡ Some d
    → In (edge_code d e) (all_codes drivers)
to_codes drivers e d found =
    subst (λ n. In (edge_code d n) (all_codes drivers)) (let same : 0 + e ≡ e = omega arith in same)
    (code_there 0 drivers e d found)

-- ---- codes in order

-- each is at most those behind it
abbrev pub Rises : List ℕ → Type 0
Rises [] = Unit {0}
Rises (x ∷ xs) = AllByRecursion (λ y. x ≤ y) xs × Rises xs

pub rises : (xs : List ℕ) → IsNonDecreasing xs → Rises xs
rises [] h = tt
rises (x ∷ xs) h = (
  each xs (λ j d low. h 0 (suc j) d (omega arith) (omega (arith, low))),
  rises xs (λ i j d up low. h (suc i)
      (suc j) d (omega (arith, up)) (omega (arith, low))),
)
  where
    each : (ys : List ℕ) → ((j d : ℕ) → j < length ys → x ≤ get_or ys j d) → AllByRecursion (λ y. x ≤ y) ys
    each [] all = tt
    each (y ∷ ys) all = (all 0 0 (omega arith), each ys (λ j d low. all (suc j) d (omega (arith, low))))

all_more : (P Q : ℕ → Type 0) → ((x : ℕ) → P x → Q x) → (xs : List ℕ) → AllByRecursion P xs
    → AllByRecursion Q xs
all_more P Q step [] h = tt
all_more P Q step (x ∷ xs) h = (step x h.0, all_more P Q step xs h.1)

-- those of one driver, then those of later ones
pub run_split : (driver : ℕ) (codes : List ℕ) → Rises codes → AllByRecursion (λ c. driver ≤ c / 65536) codes
    → AllByRecursion (λ c. c / 65536 ≡ driver) (take (leading driver codes) codes)
    × AllByRecursion (λ c. driver < c / 65536) (drop (leading driver codes) codes)
run_split driver [] rising above = (tt, tt)
run_split driver (code ∷ codes) rising above =
    by (code / 65536 == driver) refl (run_split driver codes rising.1 above.1)
  where
    by : (t : Bool) → (code / 65536 == driver) ≡ t
        → AllByRecursion (λ c. c / 65536 ≡ driver) (take (leading driver codes) codes)
        × AllByRecursion (λ c. driver < c / 65536) (drop (leading driver codes) codes)
        → AllByRecursion (λ c. c / 65536 ≡ driver) (take (cond t (suc (leading driver codes)) 0) (code ∷ codes))
        × AllByRecursion (λ c. driver < c / 65536) (drop (cond t (suc (leading driver codes)) 0) (code ∷ codes))
    by true is rest = (((Decides-eqb (code / 65536) driver).0 is, rest.0), rest.1)
    by false is rest =
        let at = above.0 in
        let other = eqb-false (code / 65536) driver is in
        let less : driver < code / 65536 = omega (arith, other, at) in (
          tt,
          (
            less,
            all_more (λ c. code ≤ c) (λ c. driver < c / 65536)
                (λ c up. omega (arith, less, up)) codes rising.0,
          ),
        )

pub rises_drop : (n : ℕ) (codes : List ℕ) → Rises codes → Rises (drop n codes)
rises_drop zero codes rising = rising
rises_drop (suc n) [] rising = tt
rises_drop (suc n) (code ∷ codes) rising = rises_drop n codes rising.1

pub leading_within : (driver : ℕ) (codes : List ℕ) → leading driver codes ≤ length codes
leading_within driver [] = omega arith
leading_within driver (code ∷ codes) = by (code / 65536 == driver) (leading_within driver codes)
  where
    by : (t : Bool) → leading driver codes ≤ length codes
        → cond t (suc (leading driver codes)) 0 ≤ suc (length codes)
    by true rest = omega (arith, rest)
    by false rest = omega arith

pub leading_some : (code : ℕ) (codes : List ℕ)
    → leading (code / 65536) (code ∷ codes) ≡ suc (leading (code / 65536) codes)
leading_some code codes =
    by (code / 65536 == code / 65536) ((Decides-eqb (code / 65536) (code / 65536)).1 refl)
  where
    by : (t : Bool) → t ≡ true
        → cond t (suc (leading (code / 65536) codes)) 0 ≡ suc (leading (code / 65536) codes)
    by true is = refl
    by false is = absurd (cc)
