-- All levels of one driver's edges: their registers, and where each edge ends.
use Rattle.std.proofs.Common.{◌≡◌, ℕ, zero, suc, ◌+◌, ◌<◌, ◌≤◌, ◌⊎◌, inl, inr, List, [], ◌∷◌, ◌++◌, length, take, get_or, map, filter, Bool, true, max, Option, Some, None, refl, sym, subst, ap, ◌∙◌, ⊎_elim, arith}
use Rattle.std.specs.Prelude.{slice_get}
use Rattle.std.specs.List.{AllByRecursion}
use Rattle.std.proofs.lemmas.List.{append-nil}
use Rattle.std.proofs.lemmas.Bool.{cases_lt}
use Rattle.cs_prefix.specs.declared.plan.DriverId.{DriverId}
use Rattle.cs_prefix.specs.declared.plan.Planned.{Planned}
use Rattle.cs_prefix.specs.declared.layers.Group.{Group}
use Rattle.cs_prefix.specs.Layers.{Progress, add_driver, add_levels, longest, longest_from, next_layer, split_all}
use Rattle.cs_prefix.proofs.Beginnings.{In, begins, is_less}
use Rattle.cs_prefix.proofs.Partly.{AreOrdered, Comes, IsBehind, IsIn, IsKnown, IsMade, IsOn, Known, StandsUnder}
use Rattle.cs_prefix.proofs.Child.{starts_of}
use Rattle.cs_prefix.proofs.LevelSteps.{AreLess, Level, all_at, level_split}

pub take_whole : (n : ℕ) (xs : List Bool) → length xs ≤ n → take n xs ≡ xs
take_whole zero [] short = refl
take_whole zero (x ∷ xs) short = absurd (omega arith)
take_whole (suc n) [] short = refl
take_whole (suc n) (x ∷ xs) short = ap (λ rest. x ∷ rest) (take_whole n xs (omega arith))

-- ---- order

ordered_end : (before ss : List (List Bool)) → AreOrdered (before ++ ss) → AreOrdered ss
ordered_end [] ss h = h
ordered_end (p ∷ before) ss h = ordered_end before ss h.1

less_of_order : (l : ℕ) (ss : List (List Bool)) → AreOrdered ss
    → AllByRecursion (λ (p : List Bool). length p ≡ l) ss → AreLess ss
less_of_order l [] ordered long = tt
less_of_order l (p ∷ ss) ordered long = (each ss ordered.0 long.1, less_of_order l ss ordered.1 long.1)
  where
    each : (qs : List (List Bool)) → AllByRecursion (Comes p) qs
        → AllByRecursion (λ (q : List Bool). length q ≡ l) qs
        → AllByRecursion (λ q. is_less p q ≡ true) qs
    each [] h same = tt
    each (q ∷ qs) h same = (
      ⊎_elim (λ shorter. absurd (let a = long.0 in let b = same.0 in omega (arith, shorter, a, b)))
          (λ both. both.1) h.0,
      each qs h.1 same.1,
    )

all_true : (f : ℕ → Bool) (xs : List ℕ) → ((x : ℕ) → f x ≡ true) → filter f xs ≡ xs
all_true f [] each = refl
all_true f (x ∷ xs) each = rw (each x) (ap (λ rest. x ∷ rest) (all_true f xs each))

-- ---- levels

module _ (contents : List (List Bool)) (es : List ℕ) (driver : DriverId) (registers : List Planned)
    (ends : List (Option ℕ))
    (below : (e : ℕ) → In e es → e < length ends) where
  abbrev first : ℕ
  first = length registers

  abbrev of_edge : ℕ → List Bool
  of_edge e = get_or contents e []

  -- the registers up to level l are made
  pub record Reached (l : ℕ) (t : Progress) : Type 0 where
    pub keys : List (List Bool)
    pub made : List Planned
    pub knowns : List Known
    pub registers_are : t.registers ≡ registers ++ made
    pub groups_are : t.groups ≡ map (λ (k : Known). k.group) knowns
    pub count : length made ≡ length keys
    pub each : (n : ℕ) (p : List Bool) (r : Planned) → slice_get keys n ≡ Some p → slice_get made n ≡ Some r
        → IsMade contents es driver first keys p r
    pub on : (n : ℕ) (p : List Bool) → slice_get keys n ≡ Some p → IsOn contents es driver first l p
    pub known : AllByRecursion (IsKnown contents es driver first l keys) knowns
    pub ordered : AreOrdered keys
    pub less : AreLess (starts_of knowns)
    pub ends_count : length t.ends ≡ length ends
    pub others : (e : ℕ) → (In e es → ⊥) → get_or t.ends e None ≡ get_or ends e None
    pub at_level : (e : ℕ) → In e es
        → IsBehind contents es driver first keys (take l (of_edge e)) (get_or t.ends e None)
        × (l < length (of_edge e) → IsIn contents es driver first e knowns)

  -- the next level begins
  to_level : (l : ℕ) (t : Progress) (r : Reached l t)
      → Level contents es driver registers ends below l r.knowns (record t { groups = [] })
  to_level l t r = record {
    keys = r.keys;
    made = r.made;
    fresh = [];
    before = r.keys;
    stands = record {
      registers_are = r.registers_are;
      groups_are = refl;
      count = r.count;
      each = r.each;
      on = λ n p h. let was = r.on n p h in
          record {
            e = was.e;
            among = was.among;
            begin = was.begin;
            some = was.some;
            few = (let few = was.few in
                omega (arith, few));
          };
      known = tt;
      ordered = r.ordered;
      ends_count = r.ends_count;
      others = r.others;
    };
    tail = sym (append-nil r.keys);
    rest_known = r.known;
    under = under r.knowns;
    less = r.less;
    status = λ e among. inr (r.at_level e among);
  }
    where
      under : (knowns : List Known)
          → AllByRecursion (λ (k : Known). AllByRecursion (StandsUnder l k.starts) r.keys) knowns
      under [] = tt
      under (k ∷ knowns) =
          (all_at (StandsUnder l k.starts) r.keys (λ n p h. inl (r.on n p h).few), under knowns)

  -- and ends
  from_level : (l : ℕ) (t : Progress) → Level contents es driver registers ends below l [] t
      → Reached (suc l) t
  from_level l t level = record {
    keys = level.keys;
    made = level.made;
    knowns = level.fresh;
    registers_are = level.stands.registers_are;
    groups_are = level.stands.groups_are;
    count = level.stands.count;
    each = level.stands.each;
    on = level.stands.on;
    known = level.stands.known;
    ordered = level.stands.ordered;
    less = less_of_order (suc l) (starts_of level.fresh)
        (ordered_end level.before (starts_of level.fresh) (subst AreOrdered level.tail level.stands.ordered))
        (long level.fresh level.stands.known);
    ends_count = level.stands.ends_count;
    others = level.stands.others;
    at_level = λ e among. ⊎_elim
        (λ done. (done.0, λ more. done.1 (omega (arith, more))))
        (λ waiting. by_length e waiting.0 waiting.1 (cases_lt l (length (of_edge e))))
        (level.status e among);
  }
    where
      long : (knowns : List Known)
          → AllByRecursion (IsKnown contents es driver first (suc l) level.keys) knowns
          → AllByRecursion (λ (p : List Bool). length p ≡ suc l) (starts_of knowns)
      long [] h = tt
      long (k ∷ knowns) h = (h.0.long, long knowns h.1)

      by_length : (e : ℕ)
          → IsBehind contents es driver first level.keys (take l (of_edge e)) (get_or t.ends e None)
          → (l < length (of_edge e) → IsIn contents es driver first e [])
          → (l < length (of_edge e)) ⊎ (length (of_edge e) ≤ l)
          → IsBehind contents es driver first level.keys (take (suc l) (of_edge e)) (get_or t.ends e None)
          × (suc l < length (of_edge e) → IsIn contents es driver first e level.fresh)
      by_length e behind there (inl more) = absurd (there more)
      by_length e behind there (inr short) = (
        subst (λ p. IsBehind contents es driver first level.keys p (get_or t.ends e None))
            (take_whole l (of_edge e) short ∙ sym (take_whole (suc l) (of_edge e) (omega (arith, short)))) behind,
        λ more. absurd (omega (arith, more, short)),
      )

  next_reached : (l : ℕ) (t : Progress) → Reached l t → Reached (suc l) (next_layer contents driver l t)
  next_reached l t r =
      from_level l (next_layer contents driver l t)
      (subst (λ groups. Level contents es driver registers ends below l []
      (split_all contents driver l groups (record t { groups = [] })))
      (sym r.groups_are)
      (level_split contents es driver registers ends below l r.knowns (record t { groups = [] }) (to_level l t r)))

  pub levels_reached : (count l : ℕ) (t : Progress) → Reached l t
      → Reached (l + count) (add_levels contents driver l count t)
  levels_reached zero l t r = subst (λ n. Reached n t) (omega arith) r
  levels_reached (suc count) l t r =
      subst (λ n. Reached n (add_levels contents driver (suc l) count (next_layer contents driver l t)))
      (omega arith)
      (levels_reached count (suc l) (next_layer contents driver l t) (next_reached l t r))

-- ---- all of them

longest_rises : (contents : List (List Bool)) (most : ℕ) (es : List ℕ) → most ≤ longest_from contents most es
longest_rises contents most [] = omega arith
longest_rises contents most (e ∷ es) =
    let rest = longest_rises contents (max most (length (get_or contents e []))) es in
    let up = most_max most (length (get_or contents e [])) in omega (arith, rest, up)
  where
    most_max : (a b : ℕ) → a ≤ max a b
    most_max a b = omega arith

longest_each : (contents : List (List Bool)) (most : ℕ) (es : List ℕ) (e : ℕ) → In e es
    → length (get_or contents e []) ≤ longest_from contents most es
longest_each contents most [] e h = absurd h
longest_each contents most (x ∷ es) e (inl is) =
    let rest = longest_rises contents (max most (length (get_or contents x []))) es in
    let same = ap (λ i. length (get_or contents i [])) is in
    let up = most_max most (length (get_or contents x [])) in omega (arith, rest, same, up)
  where
    most_max : (a b : ℕ) → b ≤ max a b
    most_max a b = omega arith
longest_each contents most (x ∷ es) e (inr later) =
    longest_each contents (max most (length (get_or contents x []))) es e later

module _ (contents : List (List Bool)) (es : List ℕ) (driver : DriverId) where
  -- the registers of one driver's edges behind others
  pub record Served (s t : Progress) : Type 0 where
    pub keys : List (List Bool)
    pub made : List Planned
    pub registers_are : t.registers ≡ s.registers ++ made
    pub count : length made ≡ length keys
    pub each : (n : ℕ) (p : List Bool) (r : Planned) → slice_get keys n ≡ Some p → slice_get made n ≡ Some r
        → IsMade contents es driver (length s.registers) keys p r
    pub on : (n : ℕ) (p : List Bool) → slice_get keys n ≡ Some p
        → IsOn contents es driver (length s.registers) (longest contents es) p
    pub ordered : AreOrdered keys
    pub ends_count : length t.ends ≡ length s.ends
    pub others : (e : ℕ) → (In e es → ⊥) → get_or t.ends e None ≡ get_or s.ends e None
    pub ends : (e : ℕ) → In e es
        → IsBehind contents es driver (length s.registers) keys (get_or contents e []) (get_or t.ends e None)

  module _ (s : Progress) (below : (e : ℕ) → In e es → e < length s.ends)
      (free : (e : ℕ) → In e es → get_or s.ends e None ≡ None) where
    abbrev root : Group
    root = record { behind = None; edges = es }

    abbrev begun : Progress
    begun = record s { groups = root ∷ [] }

    at_root : Reached contents es driver s.registers s.ends below 0 begun
    at_root = record {
      keys = [];
      made = [];
      knowns = record { starts = []; group = root } ∷ [];
      registers_are = sym (append-nil s.registers);
      groups_are = refl;
      count = refl;
      each = λ n p r h. absurd (cc);
      on = λ n p h. absurd (cc);
      known =
          (record { long = refl; edges = sym (all_true (begins contents []) es (λ e. refl)); behind = refl }, tt);
      ordered = tt;
      less = (tt, tt);
      ends_count = refl;
      others = λ e none. refl;
      at_level = λ e among. (free e among, λ more. inl among);
    }

    pub driver_served : Served s (add_driver contents driver es s)
    driver_served =
        let r : Reached contents es driver s.registers s.ends below (longest contents es)
        (add_driver contents driver es s) =
        subst (λ n. Reached contents es driver s.registers s.ends below n (add_driver contents driver es s))
        (omega arith)
        (levels_reached contents es driver s.registers s.ends below (longest contents es) 0 begun at_root) in
        record {
          keys = r.keys;
          made = r.made;
          registers_are = r.registers_are;
          count = r.count;
          each = r.each;
          on = r.on;
          ordered = r.ordered;
          ends_count = r.ends_count;
          others = r.others;
          ends =
              λ e among. subst (λ p. IsBehind contents es driver (length s.registers) r.keys p (get_or (add_driver contents driver es s).ends e None))
              (take_whole (longest contents es) (get_or contents e []) (longest_each contents 0 es e among))
              (r.at_level e among).0;
        }
