-- Settled labels of the negated values are the least values, negated.
use Rattle.std.proofs.Common.{◌≡◌, ℕ, ◌+◌, ◌-◌, ◌*◌, ◌^◌, ◌<◌, ◌≤◌, min, List, length, Option, Some, None, is_some, cond, get_or, replicate, map, sym, ap, ◌∙◌, arith, inl, inr, refl}
use Rattle.std.specs.Prelude.{ℤ, pos, ◌+ℤ◌, ◌-ℤ◌, neg_ℤ, ◌≤ℤ◌, unsigned_abs, slice_get}
use Rattle.std.specs.Int.{int_max}
use Rattle.std.specs.List.{count_by}
use Rattle.std.specs.Option.{option_map}
use Rattle.std.proofs.lemmas.Int.{ints, clamps}
use Rattle.std.proofs.lemmas.Bool.{cases_eq, cases_lt}
use Rattle.std.proofs.lemmas.List.{get_or-set_same, get_or-set_other, get_or_past, get_or-replicate, length-replicate, length-map, get_or-map}
use Rattle.std.proofs.lemmas.Option.{slice_get_within, get_or_from_slice_get}
use Rattle.std.proofs.lemmas.List.Sums.{sum_by-set}
use Rattle.std.proofs.lemmas.List.Folds.{sum_by-replicate}
use Rattle.cs_diff.specs.declared.system.Constraint.{Constraint}
use Rattle.cs_diff.specs.declared.system.System.{System}
use Rattle.cs_diff.specs.declared.reading.Reading.TheVariants.{Lower}
use Rattle.cs_diff.specs.declared.types.Floors.{Floors}
use Rattle.cs_diff.specs.Floors.{Shows, root_alone, AreFloors}
use Rattle.cs_diff.specs.Labels.{Labels, at, Solves, IsLoopBy, AreStarts, AreSettled}
use Rattle.cs_diff.proofs.LoopLemmas.{loop_refutes}
use Rattle.cs_diff.proofs.StepLemmas.{shows_same}
use Rattle.cs_diff.specs.Steps.{root_label}
use Rattle.cs_diff.specs.Systems.{IsSolution, HasSolution, IsLeast}

-- ---- the labels to begin with

module _ (n root : ℕ) (within : root < n) where
  root_here : at (root_label n root) root ≡ Some (pos 0)
  root_here = get_or-set_same (replicate n None) root (Some (pos 0)) None
      (omega (arith, length-replicate {A = Option ℤ} n None))

  root_there : (v : ℕ) → (v ≡ root → ⊥) → at (root_label n root) v ≡ None
  root_there v other =
      get_or-set_other (replicate n None) root v (Some (pos 0)) None other ∙ elim (cases_lt v n) [
        | inl below ↦ get_or-replicate n v None None below
        | inr past ↦ get_or_past (replicate n None) v None
            (omega (arith, length-replicate {A = Option ℤ} n None))
      ]

  root_only : (v : ℕ) (z : ℤ) → at (root_label n root) v ≡ Some z → (v ≡ root) × (z ≡ pos 0)
  root_only v z is = elim (cases_eq v root) [
    | inl same ↦ let here = ap (at (root_label n root)) same ∙ root_here in (same, cc)
    | inr other ↦ let gone = root_there v other in cc
  ]

  count_root : count_by is_some (root_label n root) ≡ 1
  count_root =
      let blank : Labels = replicate n None in
      let some : Option ℤ → ℕ = λ x. cond (is_some x) 1 0 in
      let more = sum_by-set some blank root (Some (pos 0)) None
      (omega (arith, length-replicate {A = Option ℤ} n None)) in
      let empty = sum_by-replicate some n None in
      let was : some (at blank root) ≡ 0 = ap some (get_or-replicate n root None None within) in
      omega (arith, more, empty, was)

  high_root : (n' k : ℕ) → k ≡ 1 → (pos 0 +ℤ pos (min 1 (n' - 1))) ≤ℤ pos (2 ^ 31 * k)
  high_root n' k is = omega (arith, ints)

  pub root_starts : AreStarts n (root_label n root)
  root_starts = record {
    range = record {
      low = λ v z is. let r = root_only v z is in rw r.1 (omega (arith, ints));
      high = λ v z is. let r = root_only v z is in rw r.1
          (high_root n (count_by is_some (root_label n root)) count_root);
    };
    roots = λ v z is. let r = root_only v z is in rw r.1 (omega (arith, ints));
  }

-- ---- least values

negated_holds : (a b m : ℤ) → (a -ℤ b) ≤ℤ m → (neg_ℤ b -ℤ neg_ℤ a) ≤ℤ m
negated_holds a b m h = omega (arith, ints)

zero_bound : (a : ℤ) → a ≡ pos 0 → (neg_ℤ a) ≤ℤ pos 0
zero_bound a h = omega (arith, ints)

moved : (a b m p : ℤ) → (a -ℤ b) ≤ℤ m → ((a -ℤ p) -ℤ (b -ℤ p)) ≤ℤ m
moved a b m p h = omega (arith, ints)

at_zero : (a : ℤ) → (a -ℤ a) ≡ pos 0
at_zero a = omega (arith, ints)

between : (y a : ℤ) → y ≤ℤ pos 0 → a ≡ pos 0 → (neg_ℤ a) ≤ℤ y → y ≡ pos 0
between y a h is g = omega (arith, ints)

least_below : (a z : ℤ) → (neg_ℤ a) ≤ℤ z → (neg_ℤ z) ≤ℤ a
least_below a z h = omega (arith, ints)

-- the value that a label forces up to its own, negated
lifted : Option ℤ → ℤ → ℤ
lifted None x = x
lifted (Some z) x = int_max (neg_ℤ z) x

lifted_above : (o : Option ℤ) (x : ℤ) → x ≤ℤ (lifted o x)
unfolding lifted
lifted_above None x = omega (arith, ints)
lifted_above (Some z) x = omega (arith, ints, clamps)

lifted_none : (a b x m : ℤ) → (a -ℤ b) ≤ℤ m → b ≤ℤ x → (a -ℤ x) ≤ℤ m
lifted_none a b x m h g = omega (arith, ints)

lifted_both : (a b z y m : ℤ) → (a -ℤ b) ≤ℤ m → y ≤ℤ (z +ℤ m)
    → (int_max (neg_ℤ z) a -ℤ int_max (neg_ℤ y) b) ≤ℤ m
lifted_both a b z y m h g = omega (arith, ints, clamps)

lifted_root : (a : ℤ) (k : ℕ) → a ≡ pos 0 → int_max (neg_ℤ (pos 0)) (a -ℤ pos k) ≡ pos 0
lifted_root a k is = omega (arith, ints, clamps)

lifted_to : (a z : ℤ) (k : ℕ) → unsigned_abs (a +ℤ z) ≤ k → int_max (neg_ℤ z) (a -ℤ pos k) ≡ neg_ℤ z
lifted_to a z k h = omega (arith, ints, clamps)

sinks : (a z : ℤ) → z ≤ℤ (a -ℤ pos (unsigned_abs (a -ℤ z) + 1)) → ⊥
sinks a z h = omega (arith, ints)

module _ (s : System) (root : ℕ) (within : root < s.vertices) (some : HasSolution s)
    (labels : Labels) (settled : AreSettled Lower s.constraints (root_label s.vertices root) labels)
  where
    negated : (r : ℕ → ℤ) → IsSolution s r → Solves Lower s.constraints (λ v. neg_ℤ (r v))
    negated r solves i c found = negated_holds (r c.from) (r c.to) c.most (solves i c found)

    -- a solution with the root at 0 is nowhere below the negated labels
    above_labels : (r : ℕ → ℤ) → IsSolution s r → r root ≡ pos 0 → (v : ℕ) (z : ℤ)
        → at labels v ≡ Some z → (neg_ℤ (r v)) ≤ℤ z
    above_labels r solves at_root =
        settled.bound (λ v. neg_ℤ (r v)) (negated r solves)
        (λ v z is. let o = root_only s.vertices root within v z is in rw (o.0, o.1)
        (zero_bound (r root) at_root))

    -- a solution with the root at 0
    base : ℕ → ℤ
    base v = some.values v -ℤ some.values root

    base_solves : IsSolution s base
    unfolding base
    base_solves i c found = moved (some.values c.from) (some.values c.to) c.most (some.values root)
        (some.solves i c found)

    base_root : base root ≡ pos 0
    unfolding base
    base_root = at_zero (some.values root)

    pub root_label_is : at labels root ≡ Some (pos 0)
    root_label_is =
        let fell = settled.lower root (pos 0) (root_here s.vertices root within) in
        let low = above_labels base base_solves base_root root fell.0 fell.1 in
        fell.1 ∙ ap (λ z. Some z) (between fell.0 (base root) fell.2 base_root low)

    -- the base lowered by k, but for what the labels force up
    sunk : ℕ → ℕ → ℤ
    sunk k v = lifted (at labels v) (base v -ℤ pos k)

    sunk_holds : (k i : ℕ) (c : Constraint) → slice_get s.constraints i ≡ Some c → (o : Option ℤ)
        → at labels c.from ≡ o → (lifted o (base c.from -ℤ pos k) -ℤ sunk k c.to) ≤ℤ c.most
    unfolding sunk lifted
    sunk_holds k i c found None is =
        lifted_none (base c.from -ℤ pos k) (base c.to -ℤ pos k) (sunk k c.to) c.most
        (moved (base c.from) (base c.to) c.most (pos k) (base_solves i c found))
        (lifted_above (at labels c.to) (base c.to -ℤ pos k))
    sunk_holds k i c found (Some z) is =
        let kept = settled.kept i c found z is in
        rw kept.1 (lifted_both (base c.from -ℤ pos k) (base c.to -ℤ pos k) z kept.0 c.most
        (moved (base c.from) (base c.to) c.most (pos k) (base_solves i c found)) kept.2)

    sunk_solves : (k : ℕ) → IsSolution s (sunk k)
    unfolding sunk
    sunk_solves k i c found = sunk_holds k i c found (at labels c.from) refl

    sunk_root : (k : ℕ) → sunk k root ≡ pos 0
    unfolding sunk lifted
    sunk_root k = rw root_label_is (lifted_root (base root) k base_root)

    reached_at : (v : ℕ) (z : ℤ) → at labels v ≡ Some z
        → sunk (unsigned_abs (base v +ℤ z)) v ≡ neg_ℤ z
    unfolding sunk lifted
    reached_at v z is = rw is (lifted_to (base v) z (unsigned_abs (base v +ℤ z)) (omega arith))

    pub is_least : (v : ℕ) (z : ℤ) → at labels v ≡ Some z → IsLeast s root v (neg_ℤ z)
    is_least v z is =
        let k = unsigned_abs (base v +ℤ z) in
        record {
          values = sunk k;
          solves = sunk_solves k;
          root_at_zero = sunk_root k;
          reached = reached_at v z is;
          below = λ other solves at_root. least_below (other v) z
              (above_labels other solves at_root v z is);
        }

    pub no_least : (v : ℕ) → at labels v ≡ None → (z : ℤ) → IsLeast s root v z → ⊥
    unfolding sunk lifted
    no_least v none z least =
        let k = unsigned_abs (base v -ℤ z) + 1 in
        let low = least.below (sunk k) (sunk_solves k) (sunk_root k) in
        sinks (base v) z (rw none at low)

-- where there is a solution no loop of the negated reading has a sum below 0
pub lower_refutes : (s : System) (places : List ℕ) → HasSolution s
    → IsLoopBy Lower s.constraints places → ⊥
lower_refutes s places some l =
    loop_refutes Lower s.constraints (λ v. neg_ℤ (some.values v)) places
    (λ i c found. negated_holds (some.values c.from) (some.values c.to) c.most
    (some.solves i c found)) l

-- ---- what the code tells

module _ (s : System) (root : ℕ) (within : root < s.vertices) (some : HasSolution s)
    (labels : Labels) (settled : AreSettled Lower s.constraints (root_label s.vertices root) labels)
    (len : length labels ≡ s.vertices) (floors : Floors)
    (is : floors.least ≡ map (option_map neg_ℤ) labels) where
  least_at : (v : ℕ) (o : Option ℤ) → slice_get floors.least v ≡ Some o
      → o ≡ option_map neg_ℤ (at labels v)
  least_at v o get =
      let below = slice_get_within floors.least v o get in
      let size = length-map labels (option_map neg_ℤ) in
      let same = ap length is in
      sym (get_or_from_slice_get floors.least v o None get) ∙ ap
      (λ (xs : List (Option ℤ)). get_or xs v None) is
      ∙ get_or-map (option_map neg_ℤ) labels v None None (omega (arith, below, size, same))

  label_of : (v : ℕ) (z : ℤ) (o : Option ℤ) → at labels v ≡ o → Some z ≡ option_map neg_ℤ o
      → IsLeast s root v z
  label_of v z None at_v bad = cc
  label_of v z (Some y) at_v good =
      let same : z ≡ neg_ℤ y = cc in
      rw same (is_least s root within some labels settled v y at_v)

  gone : (v : ℕ) (o : Option ℤ) → at labels v ≡ o → None ≡ option_map neg_ℤ o → at labels v ≡ None
  gone v None at_v good = at_v
  gone v (Some y) at_v bad = cc

  known_is : (v : ℕ) → option_map neg_ℤ (at labels v) ≡ get_or floors.least v None
  known_is v = elim (cases_lt v (length labels)) [
    | inl below ↦ sym (ap (λ (xs : List (Option ℤ)). get_or xs v None) is ∙ get_or-map
        (option_map neg_ℤ) labels v None None below)
    | inr past ↦
        let size = length-map labels (option_map neg_ℤ) in
        let same = ap length is in
        ap (option_map neg_ℤ) (get_or_past labels v None past) ∙ sym
        (get_or_past floors.least v None (omega (arith, past, size, same)))
  ]

  pub are_floors : Shows s (root_alone root) floors.steps (λ v. option_map neg_ℤ (at labels v))
      → AreFloors s root floors
  are_floors shows = record {
    count = ap length is ∙ length-map labels (option_map neg_ℤ) ∙ len;
    least = λ v z get. label_of v z (at labels v) refl (least_at v (Some z) get);
    none = λ v get. no_least s root within some labels settled v
        (gone v (at labels v) refl (least_at v None get));
    steps = shows_same s floors.steps (root_alone root) (λ v. option_map neg_ℤ (at labels v))
        (λ v. get_or floors.least v None) shows known_is;
  }
