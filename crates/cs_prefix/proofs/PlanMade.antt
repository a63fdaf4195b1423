-- What stands behind the last turn is the plan: each key is there, at its place.
use Rattle.std.proofs.Common.{◌≡◌, ℕ, zero, suc, ◌-◌, ◌<◌, ◌≤◌, inl, inr, List, [], ◌∷◌, ◌++◌, drop, length, length-take-le, ◌/◌, map, take, take-take, get_or, replicate, All, Bool, false, Option, Some, None, refl, sym, subst, ap, ap₂, ◌∙◌, ⊎_elim, arith}
use Rattle.std.specs.Prelude.{slice_get}
use Rattle.std.specs.List.{AllByRecursion, zip}
use Rattle.std.specs.List.Sorted.{IsNonDecreasing, IsPermutation}
use Rattle.std.proofs.lemmas.List.{append-nil, drop_all, length-replicate, take_all}
use Rattle.std.proofs.lemmas.List.Elements.{All-from_recursion}
use Rattle.std.proofs.lemmas.List.Sorted.{IsPermutation-sym}
use Rattle.std.proofs.lemmas.Option.{slice_get_within, slice_get-get_or}
use Rattle.cs_prefix.specs.declared.plan.DriverId.{DriverId}
use Rattle.cs_prefix.specs.declared.plan.Planned.{Planned}
use Rattle.cs_prefix.specs.declared.layers.Group.{Group}
use Rattle.cs_prefix.specs.Layers.{Progress}
use Rattle.cs_prefix.specs.Prefixes.{IsOnEdge, IsPlan, IsSmallDriver, RegisterKey, edge_key, end_of, key_before, place_of_key, planned}
use Rattle.cs_prefix.specs.Runs.{add_runs, all_codes, driver_code, edge_code, edge_of}
use Rattle.cs_prefix.proofs.Beginnings.{In}
use Rattle.cs_prefix.proofs.Served.{take_whole}
use Rattle.cs_prefix.proofs.KeyOrder.{order_nil, place_found, place_none}
use Rattle.cs_prefix.proofs.Standing.{HasPlace, Standing, same_some}
use Rattle.cs_prefix.proofs.TurnLemmas.{IsCode, code_edge, code_small, in_permutation, of_codes, rises, to_codes}
use Rattle.cs_prefix.proofs.Turns.{AreLeft, runs_stand}

-- ---- lists

made_by : (f : RegisterKey → Planned) (keys : List RegisterKey) (rs : List Planned) → length rs ≡ length keys
    → ((n : ℕ) (key : RegisterKey) (r : Planned) → slice_get keys n ≡ Some key → slice_get rs n ≡ Some r → r
    ≡ f key)
    → rs ≡ map f keys
made_by f [] [] long each = refl
made_by f [] (r ∷ rs) long each = absurd (omega (arith, long))
made_by f (key ∷ keys) [] long each = absurd (omega (arith, long))
made_by f (key ∷ keys) (r ∷ rs) long each =
    ap₂ (λ x xs. x ∷ xs) (each 0 key r refl refl)
    (made_by f keys rs (omega (arith, long)) (λ n k x h i. each (suc n) k x h i))

ends_by : (keys : List RegisterKey) (drivers : List DriverId) (contents : List (List Bool))
    (ends : List (Option ℕ))
    → length drivers ≡ length contents → length ends ≡ length contents
    → ((e : ℕ) (d : DriverId) → slice_get drivers e ≡ Some d
    → get_or ends e None ≡ place_of_key keys (edge_key d (get_or contents e [])))
    → ends ≡ map (end_of keys) (zip drivers contents)
ends_by keys [] [] [] same long each = refl
ends_by keys [] [] (v ∷ ends) same long each = absurd (omega (arith, long))
ends_by keys [] (c ∷ contents) ends same long each = absurd (omega (arith, same))
ends_by keys (d ∷ drivers) [] ends same long each = absurd (omega (arith, same))
ends_by keys (d ∷ drivers) (c ∷ contents) [] same long each = absurd (omega (arith, long))
ends_by keys (d ∷ drivers) (c ∷ contents) (v ∷ ends) same long each =
    ap₂ (λ x xs. x ∷ xs) (each 0 d refl)
    (ends_by keys drivers contents ends (omega (arith, same)) (omega (arith, long)) (λ e x h. each (suc e) x h))

got : {A : Type 0} (xs : List A) (n : ℕ) (x y : A) → slice_get xs n ≡ Some x → get_or xs n y ≡ x
got [] n x y h = absurd (cc)
got (z ∷ xs) zero x y h = same_some z x h
got (z ∷ xs) (suc n) x y h = got xs n x y h

abbrev pub no_ends : ℕ → List (Option ℕ)
no_ends n = replicate n None

all_free : (n e : ℕ) → get_or (no_ends n) e None ≡ None
all_free zero e = refl
all_free (suc n) zero = refl
all_free (suc n) (suc e) = all_free n e

one_shorter : (xs : List Bool) (k : ℕ)
    → take (length (take (length xs - k) xs) - 1) (take (length xs - k) xs) ≡ take (length xs - suc k) xs
one_shorter xs k =
    let count : length (take (length xs - k) xs) ≡ length xs - k = length-take-le (length xs - k) xs (omega arith) in
    let fewer : length (take (length xs - k) xs) - 1 ≡ length xs - suc k = omega (arith, count) in
    ap (λ j. take j (take (length xs - k) xs)) fewer ∙ take-take (length xs - suc k)
    (length xs - k) xs (omega arith)

all_of_in : (P : ℕ → Type 0) (xs : List ℕ) → ((x : ℕ) → In x xs → P x) → AllByRecursion P xs
all_of_in P [] each = tt
all_of_in P (x ∷ xs) each = (each x (inl refl), all_of_in P xs (λ y h. each y (inr h)))

-- ---- the plan

module _ (drivers : List DriverId) (contents : List (List Bool)) (same : length drivers ≡ length contents)
    (small : (e : ℕ) (d : DriverId) → slice_get drivers e ≡ Some d → IsSmallDriver d)
    (t : Progress) (bound : ℕ) (st : Standing drivers contents same small bound t)
    (all : (e : ℕ) (d : DriverId) → slice_get drivers e ≡ Some d → driver_code d < bound) where
  abbrev keys : List RegisterKey
  keys = st.keys

  place_is : (key : RegisterKey) (v : Option ℕ) → HasPlace keys key v → v ≡ place_of_key keys key
  place_is key v = ⊎_elim
      (λ none. none.1 ∙ sym (place_none keys key none.0 (λ n x h. (st.on n x h).some)))
      (λ found. found.2 ∙ sym (place_found keys found.0 key st.order found.1))

  planned_is : (n : ℕ) (key : RegisterKey) (r : Planned) → slice_get keys n ≡ Some key
      → slice_get t.registers n ≡ Some r
      → r ≡ planned keys key
  planned_is n key r h i =
      let is = st.each n key r h i in
      ap (λ d. let x : Planned = record { driver = d; behind = r.behind; start = r.start } in x) is.driver_is
      ∙ ap₂ (λ b s. let x : Planned = record { driver = record { vertex = key.vertex; output = key.output }; behind = b; start = s } in x)
      (place_is (key_before key) r.behind is.behind) is.start

  -- the register before one that is there is there
  before_there : (n : ℕ) (key : RegisterKey) → slice_get keys n ≡ Some key
      → ((key_before key).starts ≡ [] → ⊥)
      → (m : ℕ) × (slice_get keys m ≡ Some (key_before key))
  before_there n key h some =
      let within = slice_get_within keys n key h in
      let count = st.count in
      let r = get_or t.registers n (record { driver = record { vertex = 0; output = 0 }; behind = None; start = false }) in
      let is = st.each n key r h (slice_get-get_or t.registers n _ (omega (arith, within, count))) in
      ⊎_elim (λ none. absurd (some none.0)) (λ found. (found.0, found.1)) is.behind

  -- so are all before it, nearer the driver one by one
  beginning_there : (driver : DriverId) (whole : List Bool) (n : ℕ)
      → slice_get keys n ≡ Some (edge_key driver whole)
      → (k : ℕ) → k < length whole
      → (m : ℕ) × (slice_get keys m ≡ Some (edge_key driver (take (length whole - k) whole)))
  beginning_there driver whole n h zero some =
      (n, h ∙ ap (λ p. Some (edge_key driver p)) (sym (take_whole (length whole - 0) whole (omega arith))))
  beginning_there driver whole n h (suc k) some =
      let later = beginning_there driver whole n h k (omega (arith, some)) in
      let shorter = one_shorter whole k in
      let long : length (take (length whole - suc k) whole)
      ≡ length whole - suc k = length-take-le (length whole - suc k) whole (omega arith) in
      let found = before_there later.0 (edge_key driver (take (length whole - k) whole)) later.1
      (λ none. let nothing = ap length (sym shorter ∙ none) in omega (arith, nothing, long, some)) in
      (found.0, found.1 ∙ ap (λ p. Some (edge_key driver p)) shorter)

  there : (key : RegisterKey) → IsOnEdge drivers contents key → (n : ℕ) × (slice_get keys n ≡ Some key)
  there key on = ⊎_elim
      (λ none. absurd (let nothing = ap length (sym contents_is ∙ none.0) in let some = on.some in
      let within = on.within in
      omega (arith, nothing, some, within)))
      (λ found. at_end found.0 (found.1 ∙ ap (λ p. Some (edge_key on.driver p)) contents_is))
      (st.passed on.e on.driver on.driver_is (all on.e on.driver on.driver_is))
    where
      contents_is : get_or contents on.e [] ≡ on.all
      contents_is = got contents on.e on.all [] on.contents_are

      at_end : (n : ℕ) → slice_get keys n ≡ Some (edge_key on.driver on.all)
          → (m : ℕ) × (slice_get keys m ≡ Some key)
      at_end n h =
          let some = on.some in
          let within = on.within in
          let found = beginning_there on.driver on.all n h (length on.all - length key.starts)
          (omega (arith, some, within)) in (
            found.0,
            found.1
                ∙ ap (λ j. Some (edge_key on.driver (take j on.all)))
                (let e : length on.all - (length on.all - length key.starts)
                ≡ length key.starts = omega (arith, within) in e)
                ∙ ap Some (sym on.is),
          )

  pub is_plan : IsPlan drivers contents (record { registers = t.registers; ends = t.ends })
  is_plan = record {
    keys = keys;
    are = record { order = st.order; needed = st.on; there = there };
    is = record {
      registers = made_by (planned keys) keys t.registers st.count planned_is;
      ends = ends_by keys drivers contents t.ends same st.ends_count
          (λ e d found. place_is (edge_key d (get_or contents e [])) (get_or t.ends e None)
          (st.passed e d found (all e d found)));
    };
  }

-- ---- from the beginning

pub small_at : (drivers : List DriverId) → All IsSmallDriver drivers → (e : ℕ) (d : DriverId)
    → slice_get drivers e ≡ Some d
    → IsSmallDriver d
small_at drivers all e d found =
    subst IsSmallDriver (got drivers e d d found) (all e d (slice_get_within drivers e d found))

module _ (drivers : List DriverId) (contents : List (List Bool)) (same : length drivers ≡ length contents)
    (few : length drivers ≤ 65536)
    (small : (e : ℕ) (d : DriverId) → slice_get drivers e ≡ Some d → IsSmallDriver d)
    (codes : List ℕ) (sorted : IsNonDecreasing codes) (permuted : IsPermutation (all_codes drivers) codes) where
  abbrev begun : Progress
  begun = record { registers = []; ends = no_ends (length contents); groups = [] }

  at_begin : Standing drivers contents same small 0 begun
  at_begin = record {
    keys = [];
    count = refl;
    each = λ n key r h. absurd (cc);
    on = λ n key h. absurd (cc);
    below = λ n key h. absurd (cc);
    order = order_nil;
    ends_count = length-replicate (length contents) None;
    passed = λ e d found low. absurd (omega (arith, low));
    free = λ e d found high. all_free (length contents) e;
  }

  code_of : (code : ℕ) → In code codes → IsCode drivers code
  code_of code h =
      of_codes drivers code
      (in_permutation codes (all_codes drivers) (IsPermutation-sym (all_codes drivers) codes permuted) code h)

  low : (e : ℕ) (d : DriverId) → slice_get drivers e ≡ Some d → e < 65536
  low e d found = let within = slice_get_within drivers e d found in omega (arith, within, few)

  pub codes_small : All (λ code. code < 72057594037927936) codes
  codes_small = All-from_recursion (λ code. code < 72057594037927936) codes
      (all_of_in (λ code. code < 72057594037927936) codes (λ code h.
      let is = code_of code h in
      let top = code_small is.driver is.e (small is.e is.driver is.found) (low is.e is.driver is.found) in
      let same = is.is in omega (arith, top, same)))

  pub edges_below : All (λ code. edge_of code < length contents) codes
  edges_below = All-from_recursion (λ code. edge_of code < length contents) codes
      (all_of_in (λ code. edge_of code < length contents) codes (λ code h.
      let is = code_of code h in
      let edge = ap edge_of is.is ∙ code_edge is.driver is.e (low is.e is.driver is.found) in
      let within = slice_get_within drivers is.e is.driver is.found in omega (arith, edge, within, same)))

  all_left : AreLeft drivers contents same few small 0 codes
  all_left = record {
    of = code_of;
    there =
        λ e d found high. in_permutation (all_codes drivers) codes permuted (edge_code d e)
        (to_codes drivers e d found);
    above = above codes;
    rising = rises codes sorted;
  }
    where
      above : (xs : List ℕ) → AllByRecursion (λ c. 0 ≤ c / 65536) xs
      above [] = tt
      above (x ∷ xs) = (omega arith, above xs)

  pub plan_made : IsPlan drivers contents (record {
    registers = (add_runs contents (length codes) codes begun).registers;
    ends = (add_runs contents (length codes) codes begun).ends;
  })
  plan_made =
      let stand = runs_stand drivers contents same few small (length codes) codes 0 begun (omega arith) all_left at_begin in
      is_plan drivers contents same small (add_runs contents (length codes) codes begun) stand.bound stand.stands stand.all

  pub begun_by : (registers : List Planned) (groups : List Group) (ends : List (Option ℕ)) → registers ≡ []
      → groups ≡ []
      → ends ≡ no_ends (length contents)
      → record { registers = registers; ends = ends; groups = groups } ≡ begun
  begun_by registers groups ends no_registers no_groups free =
      ap (λ rs. let s : Progress = record { registers = rs; ends = ends; groups = groups } in s) no_registers
      ∙ ap₂ (λ es gs. let s : Progress = record { registers = []; ends = es; groups = gs } in s) free no_groups

  -- the state behind all turns is the plan
  pub plan_of : (s t : Progress) (all : List ℕ) → s ≡ begun → all ≡ codes
      → t ≡ add_runs contents (length all) all s
      → (ends : List (Option ℕ)) → ends ≡ t.ends
      → IsPlan drivers contents (record { registers = t.registers; ends = ends })
  plan_of s t all s_is all_is t_is ends ends_are =
      let made : t ≡ add_runs contents (length codes) codes begun =
      t_is ∙ ap₂ (λ cs x. add_runs contents (length cs) cs x) all_is s_is in
      subst (λ es. IsPlan drivers contents (record { registers = t.registers; ends = es })) (sym ends_are)
      (subst (λ (x : Progress). IsPlan drivers contents (record { registers = x.registers; ends = x.ends }))
      (sym made) plan_made)

-- a list that was written over whole
pub written_over : {A : Type 0} (n : ℕ) (xs ys : List A) → length xs ≡ n → length ys ≡ n
    → take n (xs ++ drop (length xs) ys) ≡ xs
written_over n xs ys long over =
    ap (λ rest. take n (xs ++ rest)) (drop_all (length xs) ys (omega (arith, long, over))) ∙ ap (take n)
    (append-nil xs)
    ∙ take_all n xs (omega (arith, long))
