-- One step of relaxation keeps what the labels and parents say.
use Rattle.std.proofs.Common.{◌≡◌, ℕ, suc, ◌<◌, List, length, Option, Some, None, set, sym, ap, ◌∙◌, arith, inl, inr, refl}
use Rattle.std.specs.Prelude.{ℤ, pos, ◌+ℤ◌, ◌-ℤ◌, ◌≤ℤ◌, ◌<ℤ◌, slice_get, ◌==◌, if◌then◌else◌}
use Rattle.std.specs.Option.{option_map}
use Rattle.std.proofs.lemmas.Int.{ints}
use Rattle.std.proofs.lemmas.Bool.{cases_eq}
use Rattle.std.proofs.lemmas.Bool.Decides.{nat_tests}
use Rattle.std.proofs.lemmas.List.{get_or-set_same, get_or-set_other}
use Rattle.cs_diff.specs.declared.system.Constraint.{Constraint}
use Rattle.cs_diff.specs.declared.reading.Reading.{Reading}
use Rattle.cs_diff.specs.Labels.{head, tail, Labels, Parents, at, Solves, Bound, IsAfter, IsArc, IsForest, IsLowered}

-- ---- integers

allowed : (a b b' m : ℤ) → (a -ℤ b) ≤ℤ m → b ≤ℤ b' → a ≤ℤ (b' +ℤ m)
allowed a b b' m h g = omega (arith, ints)

same_most : (a b : ℤ) → a ≡ b → a ≤ℤ b
same_most a b h = omega (arith, ints)

less_most : (a b : ℤ) → a <ℤ b → a ≤ℤ b
less_most a b h = omega (arith, ints)

-- ---- nothing changed

pub lowered_none : (d : Reading) (cs : List Constraint) (labels : Labels) (parents : Parents)
    → IsLowered d cs labels parents labels parents
lowered_none d cs labels parents = record {
  forest = λ f. f;
  bound = λ r solves h. h;
  lower = λ v z is. (z, is, same_most z z refl);
  roots = λ v none. (none, refl);
}

most_through : (a b c : ℤ) → a ≤ℤ b → b ≤ℤ c → a ≤ℤ c
most_through a b c h g = omega (arith, ints)

-- one change after another
pub lowered_more : (d : Reading) (cs : List Constraint) (l l' l'' : Labels) (p p' p'' : Parents)
    → IsLowered d cs l p l' p' → IsLowered d cs l' p' l'' p'' → IsLowered d cs l p l'' p''
lowered_more d cs l l' l'' p p' p'' h g = record {
  forest = λ f. g.forest (h.forest f);
  bound = λ r solves is. g.bound r solves (h.bound r solves is);
  lower = λ v z is. let first = h.lower v z is in let second = g.lower v first.0 first.1 in
      (second.0, second.1, most_through second.0 first.0 z second.2 first.2);
  roots = λ v none. let last = g.roots v none in let before = h.roots v last.0 in
      (before.0, last.1 ∙ before.1);
}

-- ---- one relaxation

-- the stamp of one vertex moves to the present
stamped : (ℕ → ℕ) → ℕ → ℕ → ℕ → ℕ
stamped stamp clock u v = if v == u then clock else stamp v

stamped_same : (stamp : ℕ → ℕ) (clock u : ℕ) → stamped stamp clock u u ≡ clock
unfolding stamped
stamped_same stamp clock u = grind (arith, nat_tests)

stamped_other : (stamp : ℕ → ℕ) (clock u v : ℕ) → (v ≡ u → ⊥) → stamped stamp clock u v ≡ stamp v
unfolding stamped
stamped_other stamp clock u v h = grind (arith, nat_tests)

after_lower : (a b b' m : ℤ) (s t t' : ℕ) → IsAfter a s (b +ℤ m) t → b' <ℤ b
    → IsAfter a s (b' +ℤ m) t'
after_lower a b b' m s t t' h low = inl (elim h [
  | inl above ↦ omega (arith, ints)
  | inr same ↦ omega
      (arith, ints)
])

-- the constraint was violated: its head had no label, or one above what the tail allows
abbrev pub IsViolated : Labels → ℕ → ℤ → Type 0
IsViolated labels v z = (y : ℤ) → at labels v ≡ Some y → z <ℤ y

falls_on : (b m : ℤ) → m <ℤ pos 0 → ((b +ℤ m) +ℤ m) <ℤ (b +ℤ m)
falls_on b m h = omega (arith, ints)

below_zero : (b m : ℤ) → (b +ℤ m) <ℤ b → m <ℤ pos 0
below_zero b m h = omega (arith, ints)

module _ (d : Reading) (cs : List Constraint) (labels : Labels) (parents : Parents) (i : ℕ)
    (c : Constraint) (found : slice_get cs i ≡ Some c) (in_labels : head d c < length labels)
    (in_parents : head d c < length parents) (b : ℤ) (there : at labels (tail d c) ≡ Some b)
    (violated : IsViolated labels (head d c) (b +ℤ c.most)) where
  labels' : Labels
  labels' = set labels (head d c) (Some (b +ℤ c.most))

  parents' : Parents
  parents' = set parents (head d c) (Some i)

  label_here : at labels' (head d c) ≡ Some (b +ℤ c.most)
  unfolding labels'
  label_here = get_or-set_same labels (head d c) (Some (b +ℤ c.most)) None in_labels

  label_there : (v : ℕ) → (v ≡ head d c → ⊥) → at labels' v ≡ at labels v
  unfolding labels'
  label_there v h = get_or-set_other labels (head d c) v (Some (b +ℤ c.most)) None h

  parent_here : at parents' (head d c) ≡ Some i
  unfolding parents'
  parent_here = get_or-set_same parents (head d c) (Some i) None in_parents

  parent_there : (v : ℕ) → (v ≡ head d c → ⊥) → at parents' v ≡ at parents v
  unfolding parents'
  parent_there v h = get_or-set_other parents (head d c) v (Some i) None h

  -- a label that stood is not lower now
  lower_here : (v : ℕ) (z : ℤ) → at labels v ≡ Some z → (y : ℤ) × (at labels' v ≡ Some y) × (y ≤ℤ z)
  lower_here v z is = elim (cases_eq v (head d c)) [
    | inl same ↦ (
      b +ℤ c.most,
      ap (at labels') same ∙ label_here,
      less_most (b +ℤ c.most) z
          (violated z (ap (at labels) (sym same) ∙ is)),
    )
    | inr other ↦ (z, label_there v other ∙ is, same_most z z refl)
  ]

  bound_here : (r : ℕ → ℤ) → Solves d cs r → Bound labels r → Bound labels' r
  bound_here r solves bound v z is = elim (cases_eq v (head d c)) [
    | inl same ↦
        let value : b +ℤ c.most ≡ z = cc (label_here, ap (at labels') same) in
        let low = allowed (r (head d c)) (r (tail d c)) b c.most (solves i c found)
        (bound (tail d c) b there) in
        rw (← value, same) low
    | inr other ↦ bound v z (sym (label_there v other) ∙ is)
  ]

  roots_here : (v : ℕ) → at parents' v ≡ None → (at parents v ≡ None) × (at labels' v ≡ at labels v)
  roots_here v none = elim (cases_eq v (head d c)) [
    | inl same ↦ let is : at parents' v ≡ Some i = ap (at parents') same ∙ parent_here in cc
    | inr other ↦ (sym (parent_there v other) ∙ none, label_there v other)
  ]

  module _ (f : IsForest d cs labels parents) where
    stamp' : ℕ → ℕ
    stamp' = stamped f.stamp f.clock (head d c)

    stamp_here : stamp' (head d c) ≡ f.clock
    unfolding stamp'
    stamp_here = stamped_same f.stamp f.clock (head d c)

    stamp_there : (v : ℕ) → (v ≡ head d c → ⊥) → stamp' v ≡ f.stamp v
    unfolding stamp'
    stamp_there v h = stamped_other f.stamp f.clock (head d c) v h

    earlier_here : (v : ℕ) → stamp' v < suc f.clock
    earlier_here v = elim (cases_eq v (head d c)) [
      | inl same ↦ rw (same, stamp_here) (omega arith)
      | inr other ↦ rw (stamp_there v other) (omega (arith, f.earlier v))
    ]

    -- the new arc, from the head
    new_arc : IsArc d cs labels' stamp' (head d c) i
    new_arc = elim (cases_eq (tail d c) (head d c)) [
      | inl same ↦
          let fall : c.most <ℤ pos 0 = below_zero b c.most
          (violated b (ap (at labels) (sym same) ∙ there)) in
          record {
            constraint = c;
            found = found;
            ends = refl;
            here = b +ℤ c.most;
            there = b +ℤ c.most;
            label = label_here;
            above = ap (at labels') same ∙ label_here;
            after = inl (falls_on b c.most fall);
          }
      | inr other ↦
          record {
            constraint = c;
            found = found;
            ends = refl;
            here = b +ℤ c.most;
            there = b;
            label = label_here;
            above = label_there (tail d c) other ∙ there;
            after = inr (
              refl,
              rw (stamp_here, stamp_there (tail d c) other)
                  (f.earlier (tail d c)),
            );
          }
    ]

    -- an arc that stood, from another vertex
    old_arc : (v j : ℕ) → (v ≡ head d c → ⊥) → IsArc d cs labels f.stamp v j
        → IsArc d cs labels' stamp' v j
    old_arc v j apart a = elim (cases_eq (tail d a.constraint) (head d c)) [
      | inl same ↦
          record {
            constraint = a.constraint;
            found = a.found;
            ends = a.ends;
            here = a.here;
            there = b +ℤ c.most;
            label = label_there v apart ∙ a.label;
            above = ap (at labels') same ∙ label_here;
            after = rw (stamp_there v apart)
                (after_lower a.here a.there (b +ℤ c.most) a.constraint.most (f.stamp v)
                (f.stamp (tail d a.constraint)) (stamp' (tail d a.constraint)) a.after
                (violated a.there (ap (at labels) (sym same) ∙ a.above)));
          }
      | inr other ↦
          record {
            constraint = a.constraint;
            found = a.found;
            ends = a.ends;
            here = a.here;
            there = a.there;
            label = label_there v apart ∙ a.label;
            above = label_there (tail d a.constraint) other ∙ a.above;
            after = rw (stamp_there v apart, stamp_there (tail d a.constraint) other) a.after;
          }
    ]

    arcs_here : (v j : ℕ) → at parents' v ≡ Some j → IsArc d cs labels' stamp' v j
    arcs_here v j is = elim (cases_eq v (head d c)) [
      | inl same ↦
          let place : i ≡ j = cc (parent_here, ap (at parents') same) in
          rw (same, ← place) new_arc
      | inr other ↦ old_arc v j other (f.arcs v j (sym (parent_there v other) ∙ is))
    ]

    forest_here : IsForest d cs labels' parents'
    forest_here = record {
      stamp = stamp';
      clock = suc f.clock;
      earlier = earlier_here;
      roots = λ v z none is. let before = roots_here v none in f.roots v z before.0
          (sym before.1 ∙ is);
      arcs = arcs_here;
    }

  lowered_here : IsLowered d cs labels parents labels' parents'
  lowered_here = record {
    forest = forest_here;
    bound = bound_here;
    lower = lower_here;
    roots =
        roots_here;
  }

-- a relaxation of a violated constraint
pub lowered_by : (d : Reading) (cs : List Constraint) (labels : Labels) (parents : Parents) (i : ℕ)
    (c : Constraint)
    → slice_get cs i ≡ Some c → head d c < length labels → head d c < length parents → (b : ℤ)
    → at labels (tail d c) ≡ Some b → IsViolated labels (head d c) (b +ℤ c.most)
    → IsLowered d cs labels parents (set labels (head d c) (Some (b +ℤ c.most)))
    (set parents (head d c) (Some i))
unfolding labels' parents'
lowered_by d cs labels parents i c found in_labels in_parents b there violated = lowered_here d cs
    labels parents i c found in_labels in_parents b there violated

-- the same, as the code finds the new label
pub relaxed : (d : Reading) (cs : List Constraint) (labels : Labels) (parents : Parents) (i : ℕ)
    (c : Constraint) (h : ℕ) (z : ℤ)
    → slice_get cs i ≡ Some c → h ≡ head d c → h < length labels → h < length parents
    → Some z ≡ option_map (λ b. b +ℤ c.most) (at labels (tail d c)) → IsViolated labels h z
    → IsLowered d cs labels parents (set labels h (Some z)) (set parents h (Some i))
relaxed d cs labels parents i c h z found ends in_labels in_parents allows violated = relaxed_at
    (at labels (tail d c)) refl allows where
      relaxed_at : (o : Option ℤ) → at labels (tail d c) ≡ o → Some z ≡ option_map (λ b. b +ℤ c.most) o
          → IsLowered d cs labels parents (set labels h (Some z)) (set parents h (Some i))
      relaxed_at None is bad = cc
      relaxed_at (Some b) is good =
          let sum : z ≡ b +ℤ c.most = cc in
          rw (sum, ends)
          (lowered_by d cs labels parents i c found (rw (← ends) in_labels) (rw (← ends) in_parents) b
          is (rw (← sum, ← ends) violated))
