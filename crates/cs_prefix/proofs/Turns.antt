-- Turn after turn: the registers of all drivers below a bound stand, and the codes of the others are left.
use Rattle.std.proofs.Common.{◌≡◌, ℕ, zero, suc, ◌/◌, ◌%◌, ◌<◌, ◌≤◌, ◌⊎◌, inl, inr, List, [], ◌∷◌, length, map, take, drop, length-drop, Bool, Some, refl, sym, subst, ap, ◌∙◌, ⊎_elim, arith}
use Rattle.std.specs.Prelude.{slice_get}
use Rattle.std.specs.List.{AllByRecursion}
use Rattle.std.proofs.lemmas.Bool.{cases_lt}
use Rattle.std.proofs.lemmas.Option.{slice_get_within}
use Rattle.cs_prefix.specs.declared.plan.DriverId.{DriverId}
use Rattle.cs_prefix.specs.Layers.{Progress, add_driver}
use Rattle.cs_prefix.specs.Prefixes.{IsSmallDriver}
use Rattle.cs_prefix.specs.Runs.{add_runs, driver_code, driver_of, edge_code, edge_of, leading}
use Rattle.cs_prefix.proofs.Beginnings.{In}
use Rattle.cs_prefix.proofs.TurnLemmas.{IsCode, Rises, all_in, code_driver, code_edge, driver_of_code, in_dropped, in_map, in_parts, in_taken, leading_some, of_map, rises_drop, run_split}
use Rattle.cs_prefix.proofs.Standing.{Standing, next_driver, raised}

all_more : (P Q : ℕ → Type 0) → ((x : ℕ) → P x → Q x) → (xs : List ℕ) → AllByRecursion P xs
    → AllByRecursion Q xs
all_more P Q step [] h = tt
all_more P Q step (x ∷ xs) h = (step x h.0, all_more P Q step xs h.1)

module _ (drivers : List DriverId) (contents : List (List Bool)) (same : length drivers ≡ length contents)
    (few : length drivers ≤ 65536)
    (small : (e : ℕ) (d : DriverId) → slice_get drivers e ≡ Some d → IsSmallDriver d) where
  abbrev Stands : ℕ → Progress → Type 0
  Stands = Standing drivers contents same small

  -- the codes of the drivers from a bound on, in order
  pub record AreLeft (bound : ℕ) (codes : List ℕ) : Type 0 where
    pub of : (code : ℕ) → In code codes → IsCode drivers code
    pub there : (e : ℕ) (d : DriverId) → slice_get drivers e ≡ Some d → bound ≤ driver_code d
        → In (edge_code d e) codes
    pub above : AllByRecursion (λ c. bound ≤ c / 65536) codes
    pub rising : Rises codes

  low : (e : ℕ) (d : DriverId) → slice_get drivers e ≡ Some d → e < 65536
  low e d found = let within = slice_get_within drivers e d found in omega (arith, within, few)

  module _ (code : ℕ) (codes : List ℕ) (bound : ℕ) (left : AreLeft bound (code ∷ codes)) where
    abbrev whole : List ℕ
    whole = code ∷ codes

    abbrev number : ℕ
    number = code / 65536

    abbrev count : ℕ
    count = leading number whole

    here : IsCode drivers code
    here = left.of code (inl refl)

    abbrev driver : DriverId
    driver = here.driver

    number_is : number ≡ driver_code driver
    number_is = ap (λ c. c / 65536) here.is ∙ code_driver driver here.e (low here.e driver here.found)

    driver_is : driver_of code ≡ driver
    driver_is =
        ap driver_of here.is
        ∙ driver_of_code driver here.e (small here.e driver here.found) (low here.e driver here.found)

    least : AllByRecursion (λ c. code ≤ c) whole
    least = (omega arith, left.rising.0)

    -- no driver lies between
    none_between : (e : ℕ) (d : DriverId) → slice_get drivers e ≡ Some d → bound ≤ driver_code d
        → driver_code driver ≤ driver_code d
    none_between e d found high =
        let up = all_in (λ c. code ≤ c) whole least (edge_code d e) (left.there e d found high) in
        let is = code_driver d e (low e d found) in
        let first = number_is in
        omega (arith, up, is, first)

    above_number : AllByRecursion (λ c. number ≤ c / 65536) whole
    above_number = all_more (λ c. code ≤ c) (λ c. number ≤ c / 65536) (λ c up. omega (arith, up)) whole least

    parts : AllByRecursion (λ c. c / 65536 ≡ number) (take count whole)
        × AllByRecursion (λ c. number < c / 65536) (drop count whole)
    parts = run_split number whole left.rising above_number

    abbrev es : List ℕ
    es = map edge_of (take count whole)

    of_run : (e : ℕ) → In e es → slice_get drivers e ≡ Some driver
    of_run e among =
        let from = of_map edge_of (take count whole) e among in
        let is = left.of from.0 (in_taken count whole from.0 from.1) in
        let below = low is.e is.driver is.found in
        let edge : is.e ≡ e = sym (code_edge is.driver is.e below) ∙ ap edge_of (sym is.is) ∙ from.2 in
        let numbers = all_in (λ c. c / 65536 ≡ number) (take count whole) parts.0 from.0 from.1 in
        let known : is.driver ≡ driver =
        sym (driver_of_code is.driver is.e (small is.e is.driver is.found) below) ∙ ap driver_of (sym is.is)
        ∙ ap (λ n. let x : DriverId = record { vertex = n / 16777216; output = n % 16777216 } in x) numbers
        ∙ driver_is in
        ap (slice_get drivers) (sym edge) ∙ is.found ∙ ap Some known

    all_run : (e : ℕ) (d : DriverId) → slice_get drivers e ≡ Some d → driver_code d ≡ driver_code driver
        → In e es
    all_run e d found is = ⊎_elim
        (λ taken. subst (λ n. In n es) (code_edge d e (low e d found))
        (in_map edge_of (take count whole) (edge_code d e) taken))
        (λ later. absurd (
        let up = all_in (λ c. number < c / 65536) (drop count whole) parts.1 (edge_code d e) later in
        let own = code_driver d e (low e d found) in
        let first = number_is in
        omega (arith, up, own, first, is)))
        (in_parts count whole (edge_code d e) (left.there e d found high))
      where
        high : bound ≤ driver_code d
        high = let up = left.above.0 in let first = number_is in omega (arith, up, first, is)

    stands_next : (s : Progress) → Stands bound s
        → Stands (suc (driver_code driver)) (add_driver contents (driver_of code) es s)
    stands_next s st =
        subst (λ d. Stands (suc (driver_code driver)) (add_driver contents d es s)) (sym driver_is)
        (next_driver drivers contents same small driver es s
        (raised drivers contents same small bound (driver_code driver) s
        (let up = left.above.0 in let first = number_is in omega (arith, up, first)) none_between st)
        of_run all_run)

    left_next : AreLeft (suc (driver_code driver)) (drop count whole)
    left_next = record {
      of = λ c later. left.of c (in_dropped count whole c later);
      there = λ e d found high. ⊎_elim
          (λ taken. absurd (
          let is = all_in (λ c. c / 65536 ≡ number) (take count whole) parts.0 (edge_code d e) taken in
          let own = code_driver d e (low e d found) in
          let first = number_is in
          omega (arith, is, own, first, high)))
          (λ later. later)
          (in_parts count whole (edge_code d e) (left.there e d found
          (let up = left.above.0 in let first = number_is in omega (arith, up, first, high))));
      above = all_more (λ c. number < c / 65536) (λ c. suc (driver_code driver) ≤ c / 65536)
          (λ c up. let first = number_is in omega (arith, up, first)) (drop count whole) parts.1;
      rising = rises_drop count whole left.rising;
    }

    fewer_left : (turns : ℕ) → length whole ≤ suc turns → length (drop count whole) ≤ turns
    fewer_left turns enough =
        let long = length-drop count whole in let one = leading_some code codes in omega (arith, long, one, enough)

  -- all drivers' registers stand
  pub record AllStand (t : Progress) : Type 0 where
    pub bound : ℕ
    pub stands : Stands bound t
    pub all : (e : ℕ) (d : DriverId) → slice_get drivers e ≡ Some d → driver_code d < bound

  ended : (bound : ℕ) (s : Progress) → AreLeft bound [] → Stands bound s → AllStand s
  ended bound s left st = record {
    bound = bound;
    stands = st;
    all = λ e d found. by_bound e d found (cases_lt (driver_code d) bound);
  }
    where
      by_bound : (e : ℕ) (d : DriverId) → slice_get drivers e ≡ Some d
          → (driver_code d < bound) ⊎ (bound ≤ driver_code d)
          → driver_code d < bound
      by_bound e d found (inl less) = less
      by_bound e d found (inr more) = absurd (left.there e d found more)

  pub runs_stand : (turns : ℕ) (codes : List ℕ) (bound : ℕ) (s : Progress) → length codes ≤ turns
      → AreLeft bound codes → Stands bound s
      → AllStand (add_runs contents turns codes s)
  runs_stand zero [] bound s enough left st = ended bound s left st
  runs_stand zero (code ∷ codes) bound s enough left st = absurd (omega (arith, enough))
  runs_stand (suc turns) [] bound s enough left st = ended bound s left st
  runs_stand (suc turns) (code ∷ codes) bound s enough left st =
      runs_stand turns (drop (count code codes bound left) (code ∷ codes))
      (suc (driver_code (driver code codes bound left)))
      (add_driver contents (driver_of code) (es code codes bound left) s)
      (fewer_left code codes bound left turns enough) (left_next code codes bound left)
      (stands_next code codes bound left s st)
