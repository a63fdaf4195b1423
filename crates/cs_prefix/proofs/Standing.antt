-- The registers of the first drivers stand: those of the next driver come behind them.
use Rattle.std.proofs.Common.{◌≡◌, ℕ, zero, suc, ◌+◌, ◌-◌, ◌<◌, ◌≤◌, ◌⊎◌, inl, inr, List, [], ◌∷◌, ◌++◌, length, map, take, get_or, Bool, Option, Some, None, refl, sym, subst, ap, ap₂, ◌∙◌, ⊎_elim, length-append, arith}
use Rattle.std.specs.Prelude.{slice_get}
use Rattle.std.proofs.lemmas.Bool.{cases_lt, cases_eq}
use Rattle.std.proofs.lemmas.Option.{slice_get_within}
use Rattle.cs_prefix.specs.declared.plan.DriverId.{DriverId}
use Rattle.cs_prefix.specs.declared.plan.Planned.{Planned}
use Rattle.cs_prefix.specs.Layers.{Progress, add_driver, longest}
use Rattle.cs_prefix.specs.Prefixes.{IsOnEdge, IsSmallDriver, RegisterKey, edge_key, key_before, key_start}
use Rattle.cs_prefix.specs.Runs.{driver_code}
use Rattle.cs_prefix.proofs.Beginnings.{In, prefix_is_short, prefix_is_taken}
use Rattle.cs_prefix.proofs.Partly.{IsBehind, IsOn}
use Rattle.cs_prefix.proofs.Splitting.{get_behind}
use Rattle.cs_prefix.proofs.Served.{Served, driver_served}
use Rattle.cs_prefix.proofs.KeyOrder.{AreInOrder, ComesBefore, drivers_less, key_driver, order_append, order_of_starts}

-- ---- places

pub at_map : {A B : Type 0} (f : A → B) (xs : List A) (i : ℕ) (x : A) → slice_get xs i ≡ Some x
    → slice_get (map f xs) i ≡ Some (f x)
at_map f [] i x at = absurd (cc)
at_map f (z ∷ xs) zero x at = let same : z ≡ x = cc in ap (λ y. Some (f y)) same
at_map f (z ∷ xs) (suc i) x at = at_map f xs i x at

pub map_at : {A B : Type 0} (f : A → B) (xs : List A) (i : ℕ) (y : B) → slice_get (map f xs) i ≡ Some y
    → (x : A) × (slice_get xs i ≡ Some x) × (f x ≡ y)
map_at f [] i y at = absurd (cc)
map_at f (x ∷ xs) zero y at = let same : f x ≡ y = cc in (x, refl, same)
map_at f (x ∷ xs) (suc i) y at = map_at f xs i y at

pub at_append : {A : Type 0} (xs ys : List A) (n : ℕ) (x : A) → slice_get ys n ≡ Some x
    → slice_get (xs ++ ys) (length xs + n) ≡ Some x
at_append [] ys n x h = subst (λ m. slice_get ys m ≡ Some x) (let e : n ≡ 0 + n = omega arith in e) h
at_append (y ∷ xs) ys n x h =
    subst (λ m. slice_get (y ∷ xs ++ ys) m ≡ Some x) (let e : suc (length xs + n)
    ≡ suc (length xs) + n = omega arith in e) (at_append xs ys n x h)

-- it is in front, or so far behind
pub append_at : {A : Type 0} (xs ys : List A) (n : ℕ) (x : A) → slice_get (xs ++ ys) n ≡ Some x
    → (slice_get xs n ≡ Some x) ⊎ ((m : ℕ) × (n ≡ length xs + m) × (slice_get ys m ≡ Some x))
append_at [] ys n x h = inr (n, omega arith, h)
append_at (y ∷ xs) ys zero x h = inl h
append_at (y ∷ xs) ys (suc n) x h =
    ⊎_elim inl (λ rest. let far = rest.1 in inr (rest.0, omega (arith, far), rest.2)) (append_at xs ys n x h)

pub length_map : {A B : Type 0} (f : A → B) (xs : List A) → length (map f xs) ≡ length xs
length_map f [] = refl
length_map f (x ∷ xs) = ap suc (length_map f xs)

pub same_some : {A : Type 0} (x y : A) → Some x ≡ Some y → x ≡ y
same_some x y h = cc

-- the place of a key, none where it begins with nothing
abbrev pub HasPlace : List RegisterKey → RegisterKey → Option ℕ → Type 0
HasPlace keys key place =
    ((key.starts ≡ []) × (place ≡ None)) ⊎ ((m : ℕ) × (slice_get keys m ≡ Some key) × (place ≡ Some m))

place_more : (keys more : List RegisterKey) (key : RegisterKey) (place : Option ℕ) → HasPlace keys key place
    → HasPlace (keys ++ more) key place
place_more keys more key place =
    ⊎_elim inl (λ found. inr (found.0, get_behind keys more found.0 key found.1, found.2))

-- the register of a key
pub record IsRegister (keys : List RegisterKey) (key : RegisterKey) (r : Planned) : Type 0 where
  pub driver_is : r.driver ≡ record { vertex = key.vertex; output = key.output }
  pub start : r.start ≡ key_start key
  pub behind : HasPlace keys (key_before key) r.behind

module _ (drivers : List DriverId) (contents : List (List Bool)) (same : length drivers ≡ length contents)
    (small : (e : ℕ) (d : DriverId) → slice_get drivers e ≡ Some d → IsSmallDriver d) where
  -- the registers of all drivers below a bound, and no others
  pub record Standing (bound : ℕ) (s : Progress) : Type 0 where
    pub keys : List RegisterKey
    pub count : length s.registers ≡ length keys
    pub each : (n : ℕ) (key : RegisterKey) (r : Planned) → slice_get keys n ≡ Some key
        → slice_get s.registers n ≡ Some r
        → IsRegister keys key r
    pub on : (n : ℕ) (key : RegisterKey) → slice_get keys n ≡ Some key → IsOnEdge drivers contents key
    pub below : (n : ℕ) (key : RegisterKey) → slice_get keys n ≡ Some key → key_driver key < bound
    pub order : AreInOrder keys
    pub ends_count : length s.ends ≡ length contents
    pub passed : (e : ℕ) (d : DriverId) → slice_get drivers e ≡ Some d → driver_code d < bound
        → HasPlace keys (edge_key d (get_or contents e [])) (get_or s.ends e None)
    pub free : (e : ℕ) (d : DriverId) → slice_get drivers e ≡ Some d → bound ≤ driver_code d
        → get_or s.ends e None ≡ None

  -- a bound may be raised where no driver lies between
  pub raised : (b c : ℕ) (s : Progress) → b ≤ c
      → ((e : ℕ) (d : DriverId) → slice_get drivers e ≡ Some d → b ≤ driver_code d → c ≤ driver_code d)
      → Standing b s → Standing c s
  raised b c s up none st = record {
    keys = st.keys;
    count = st.count;
    each = st.each;
    on = st.on;
    below = λ n key h. let low = st.below n key h in omega (arith, low, up);
    order = st.order;
    ends_count = st.ends_count;
    passed = λ e d found low. st.passed e d found (under e d found low (cases_lt (driver_code d) b));
    free = λ e d found high. st.free e d found (omega (arith, up, high));
  }
    where
      under : (e : ℕ) (d : DriverId) → slice_get drivers e ≡ Some d → driver_code d < c
          → (driver_code d < b) ⊎ (b ≤ driver_code d) → driver_code d < b
      under e d found low (inl less) = less
      under e d found low (inr more) = absurd (let high = none e d found more in omega (arith, low, high))

  -- the next driver
  module _ (driver : DriverId) (es : List ℕ) (s : Progress) (st : Standing (driver_code driver) s)
      (of : (e : ℕ) → In e es → slice_get drivers e ≡ Some driver)
      (all : (e : ℕ) (d : DriverId) → slice_get drivers e ≡ Some d → driver_code d ≡ driver_code driver
      → In e es) where
    abbrev end : Progress
    end = add_driver contents driver es s

    within : (e : ℕ) → In e es → e < length s.ends
    within e among =
        let low = slice_get_within drivers e driver (of e among) in let count = st.ends_count in
        omega (arith, low, count, same)

    served : Served contents es driver s end
    served =
        driver_served contents es driver s within (λ e among. st.free e driver (of e among) (omega arith))

    abbrev fresh : List RegisterKey
    fresh = map (edge_key driver) served.keys

    abbrev keys : List RegisterKey
    keys = st.keys ++ fresh

    -- behind what stands
    placed : (p : List Bool) (place : Option ℕ)
        → IsBehind contents es driver (length s.registers) served.keys p place
        → HasPlace keys (edge_key driver p) place
    placed [] place none = inl (refl, none)
    placed (b ∷ p) place found =
        inr (
          length st.keys + found.0,
          at_append st.keys fresh found.0 (edge_key driver (b ∷ p))
              (at_map (edge_key driver) served.keys found.0 (b ∷ p) found.1),
          found.2 ∙ ap (λ n. Some (n + found.0)) st.count,
        )

    count : length end.registers ≡ length keys
    count =
        ap length served.registers_are ∙ length-append s.registers served.made
        ∙ ap₂ (λ m n. m + n) st.count (served.count ∙ sym (length_map (edge_key driver) served.keys))
        ∙ sym (length-append st.keys fresh)

    each : (n : ℕ) (key : RegisterKey) (r : Planned) → slice_get keys n ≡ Some key
        → slice_get end.registers n ≡ Some r
        → IsRegister keys key r
    each n key r at_key at_register = by (append_at st.keys fresh n key at_key)
        (append_at s.registers served.made n r (subst (λ rs. slice_get rs n
        ≡ Some r) served.registers_are at_register))
      where
        by : (slice_get st.keys n ≡ Some key) ⊎ ((m : ℕ) × (n ≡ length st.keys + m)
            × (slice_get fresh m ≡ Some key))
            → (slice_get s.registers n ≡ Some r) ⊎ ((m : ℕ) × (n ≡ length s.registers + m)
            × (slice_get served.made m ≡ Some r))
            → IsRegister keys key r
        by (inl old) (inl there) =
            let was = st.each n key r old there in
            record { driver_is = was.driver_is; start = was.start; behind = place_more st.keys fresh (key_before key) r.behind was.behind }
        by (inl old) (inr far) =
            absurd (let low = slice_get_within st.keys n key old in let at = far.1 in let count = st.count in
            omega (arith, low, at, count))
        by (inr far) (inl there) =
            absurd (let low = slice_get_within s.registers n r there in let at = far.1 in
            let count = st.count in omega (arith, low, at, count))
        by (inr new) (inr made) =
            let starts = map_at (edge_key driver) served.keys new.0 key new.2 in
            let a = new.1 in
            let b = made.1 in
            let count = st.count in
            let place : made.0 ≡ new.0 = omega (arith, a, b, count) in
            let is = served.each new.0 starts.0 r starts.1 (subst (λ m. slice_get served.made m
            ≡ Some r) place made.2) in
            subst (λ k. IsRegister keys k r) starts.2 (record {
              driver_is = is.driver_is;
              start = is.start;
              behind = placed (take (length starts.0 - 1) starts.0) r.behind is.behind;
            })

    on_new : (p : List Bool) → IsOn contents es driver (length s.registers) (longest contents es) p
        → IsOnEdge drivers contents (edge_key driver p)
    on_new p on =
        let low = slice_get_within drivers on.e driver (of on.e on.among) in
        record {
          e = on.e;
          driver = driver;
          all = get_or contents on.e [];
          driver_is = of on.e on.among;
          contents_are = contents_at contents on.e (omega (arith, low, same));
          some = on.some;
          within = prefix_is_short p (get_or contents on.e []) on.begin;
          is = ap (edge_key driver) (prefix_is_taken p (get_or contents on.e []) on.begin);
        }
      where
        contents_at : (xs : List (List Bool)) (n : ℕ) → n < length xs → slice_get xs n ≡ Some (get_or xs n [])
        contents_at [] n low = absurd (omega (arith, low))
        contents_at (x ∷ xs) zero low = refl
        contents_at (x ∷ xs) (suc n) low = contents_at xs n (omega (arith, low))

    on : (n : ℕ) (key : RegisterKey) → slice_get keys n ≡ Some key → IsOnEdge drivers contents key
    on n key at_key = ⊎_elim (st.on n key)
        (λ far. let starts = map_at (edge_key driver) served.keys far.0 key far.2 in
        subst (IsOnEdge drivers contents) starts.2 (on_new starts.0 (served.on far.0 starts.0 starts.1)))
        (append_at st.keys fresh n key at_key)

    fresh_driver : (n : ℕ) (key : RegisterKey) → slice_get fresh n ≡ Some key
        → key_driver key ≡ driver_code driver
    fresh_driver n key h = sym (ap key_driver (map_at (edge_key driver) served.keys n key h).2)

    below : (n : ℕ) (key : RegisterKey) → slice_get keys n ≡ Some key
        → key_driver key < suc (driver_code driver)
    below n key at_key = ⊎_elim (λ old. let low = st.below n key old in omega (arith, low))
        (λ far. let is = fresh_driver far.0 key far.2 in omega (arith, is))
        (append_at st.keys fresh n key at_key)

    small_key : (key : RegisterKey) → IsOnEdge drivers contents key → key.output < 16777216
    small_key key on =
        subst (λ (k : RegisterKey). k.output < 16777216) (sym on.is) (small on.e on.driver on.driver_is).output

    order : AreInOrder keys
    order = order_append st.keys fresh st.order (order_of_starts driver served.keys served.ordered) less
      where
        less : (m n : ℕ) (a b : RegisterKey) → slice_get st.keys m ≡ Some a → slice_get fresh n ≡ Some b
            → ComesBefore a b
        less m n a b h i =
            let low = st.below m a h in
            let is = fresh_driver n b i in
            drivers_less a b (small_key a (st.on m a h))
            (small_key b (on (length st.keys + n) b (at_append st.keys fresh n b i))) (omega (arith, low, is))

    -- edges of other drivers stay as they are
    stays : (e : ℕ) (d : DriverId) → slice_get drivers e ≡ Some d → (driver_code d ≡ driver_code driver → ⊥)
        → get_or end.ends e None ≡ get_or s.ends e None
    stays e d found other = served.others e
        (λ among. other (ap driver_code (same_some d driver (sym found ∙ of e among))))

    passed : (e : ℕ) (d : DriverId) → slice_get drivers e ≡ Some d → driver_code d < suc (driver_code driver)
        → HasPlace keys (edge_key d (get_or contents e [])) (get_or end.ends e None)
    passed e d found low = ⊎_elim here
        (λ other. rw (stays e d found other) (place_more st.keys fresh (edge_key d (get_or contents e []))
        (get_or s.ends e None)
        (st.passed e d found (omega (arith, low, other)))))
        (cases_eq (driver_code d) (driver_code driver))
      where
        here : driver_code d ≡ driver_code driver
            → HasPlace keys (edge_key d (get_or contents e [])) (get_or end.ends e None)
        here is =
            let among = all e d found is in
            let known : driver ≡ d = same_some driver d (sym (of e among) ∙ found) in
            subst (λ x. HasPlace keys (edge_key x (get_or contents e [])) (get_or end.ends e None)) known
            (placed (get_or contents e []) (get_or end.ends e None) (served.ends e among))

    pub next_driver : Standing (suc (driver_code driver)) (add_driver contents driver es s)
    next_driver = record {
      keys = keys;
      count = count;
      each = each;
      on = on;
      below = below;
      order = order;
      ends_count = served.ends_count ∙ st.ends_count;
      passed = passed;
      free =
          λ e d found high. stays e d found (λ is. omega (arith, high, is))
          ∙ st.free e d found (omega (arith, high));
    }
