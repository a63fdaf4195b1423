-- A loop of parents has a sum below 0, and a label too low has parents without an end.
use Rattle.std.proofs.Common.{◌≡◌, ℕ, zero, suc, ◌*◌, ◌^◌, ◌<◌, ◌≤◌, ◌⊎◌, List, [], ◌∷◌, length, Option, Some, None, sym, ap, ◌∙◌, arith, inl, inr, refl}
use Rattle.std.specs.Prelude.{ℤ, pos, ◌+ℤ◌, ◌-ℤ◌, ◌≤ℤ◌, ◌<ℤ◌, IsSome, slice_get}
use Rattle.std.specs.Option.{option_map, option_and_then}
use Rattle.std.proofs.lemmas.Int.{ints}
use Rattle.std.proofs.lemmas.Option.{option_and_then_some}
use Rattle.cs_diff.specs.declared.system.Constraint.{Constraint}
use Rattle.cs_diff.specs.declared.reading.Reading.{Reading}
use Rattle.cs_diff.specs.Ranges.{AreAmong}
use Rattle.cs_diff.specs.Systems.{most_of, sum_of}
use Rattle.cs_diff.specs.Labels.{head, tail, Labels, Parents, at, up, ancestor, ClimbsBy, Solves, LeadsBy, IsLoopBy, IsParentLoop, IsAfter, IsForest, IsTooLow}
use Rattle.cs_diff.proofs.ClimbLemmas.{step_up}

-- ---- sums along constraints

through : (a b c x y z : ℤ) → (a -ℤ b) ≤ℤ x → (b -ℤ c) ≤ℤ y → z ≡ x +ℤ y → (a -ℤ c) ≤ℤ z
through a b c x y z h g is = omega (arith, ints)

none_between : (a : ℤ) → (a -ℤ a) ≤ℤ pos 0
none_between a = omega (arith, ints)

-- under a solution the values at the ends differ by at most the sum
pub leads_bound : (d : Reading) (cs : List Constraint) (r : ℕ → ℤ) → Solves d cs r
    → (places : List ℕ) (x y : ℕ) → LeadsBy d cs x places y → (r x -ℤ r y) ≤ℤ sum_of cs places
leads_bound d cs r solves [] x y same = rw same (none_between (r y))
leads_bound d cs r solves (i ∷ places) x y (c, found, begins, rest) =
    rw (← begins)
    (through (r (head d c)) (r (tail d c)) (r y) c.most (sum_of cs places)
    (most_of (slice_get cs i) +ℤ sum_of cs places)
    (solves i c found) (leads_bound d cs r solves places (tail d c) y rest)
    (ap (λ o. most_of o +ℤ sum_of cs places) found))

not_below : (a s : ℤ) → (a -ℤ a) ≤ℤ s → s <ℤ pos 0 → ⊥
not_below a s h g = omega (arith, ints)

-- a loop with a sum below 0 leaves no solution
pub loop_refutes : (d : Reading) (cs : List Constraint) (r : ℕ → ℤ) (places : List ℕ)
    → Solves d cs r → IsLoopBy d cs places → ⊥
loop_refutes d cs r places solves l = not_below (r l.vertex) (sum_of cs places)
    (leads_bound d cs r solves places l.vertex l.vertex l.closes) l.negative

-- ---- loops of parents

-- above, or equal and not lowered before
IsSince : ℤ → ℕ → ℤ → ℕ → Type 0
IsSince a s b t = (b <ℤ a) ⊎ ((a ≡ b) × (t ≤ s))

since_itself : (a b : ℤ) (s : ℕ) → b ≡ a +ℤ pos 0 → IsSince a s b s
unfolding IsSince
since_itself a b s is = inr (omega (arith, ints), omega arith)

after_since : (a b c m x : ℤ) (s t u : ℕ) → IsAfter a s (b +ℤ m) t → IsSince b t (c +ℤ x) u
    → IsAfter a s (c +ℤ (m +ℤ x)) u
unfolding IsSince
after_since a b c m x s t u (inl h) (inl g) = inl (omega (arith, ints))
after_since a b c m x s t u (inl h) (inr g) = inl (omega (arith, ints))
after_since a b c m x s t u (inr h) (inl g) = inl (omega (arith, ints))
after_since a b c m x s t u (inr h) (inr g) = inr (omega (arith, ints), omega arith)

since_after : (a b : ℤ) (s t : ℕ) → IsAfter a s b t → IsSince a s b t
unfolding IsSince
since_after a b s t (inl h) = inl h
since_after a b s t (inr h) = inr (h.0, omega arith)

after_loop : (a x : ℤ) (s : ℕ) → IsAfter a s (a +ℤ x) s → x <ℤ pos 0
after_loop a x s (inl h) = omega (arith, ints)
after_loop a x s (inr h) = absurd (omega arith)

module _ (d : Reading) (cs : List Constraint) (labels : Labels) (parents : Parents)
    (f : IsForest d cs labels parents) where
  -- the label of x is since what the constraints up to y allow
  record Descends (x y : ℕ) (a s : ℤ) : Type 0 where
    label : ℤ
    is : at labels y ≡ Some label
    since : IsSince a (f.stamp x) (label +ℤ s) (f.stamp y)

  record Falls (x y : ℕ) (a s : ℤ) : Type 0 where
    label : ℤ
    is : at labels y ≡ Some label
    after : IsAfter a (f.stamp x) (label +ℤ s) (f.stamp y)

  -- a parent, and then what the constraints above it allow
  falls_by : (x y : ℕ) (a s : ℤ) (i : ℕ) (c : Constraint) → at labels x ≡ Some a
      → at parents x ≡ Some i → slice_get cs i ≡ Some c
      → ((b : ℤ) → at labels (tail d c) ≡ Some b → Descends (tail d c) y b s)
      → Falls x y a (most_of (slice_get cs i) +ℤ s)
  falls_by x y a s i c is parent found rest =
      let arc = f.arcs x i parent in
      let same : arc.constraint ≡ c = cc (arc.found) in
      let here : arc.here ≡ a = cc (arc.label) in
      let g = rest arc.there (ap (λ (e : Constraint). at labels (tail d e)) (sym same) ∙ arc.above)
      in
      let after = rw (same, here) at arc.after in
      record {
        label = g.label;
        is = g.is;
        after = rw found
            (after_since a arc.there g.label c.most s (f.stamp x) (f.stamp (tail d c)) (f.stamp y)
            after g.since);
      }

  descends : (places : List ℕ) (x y : ℕ) (a : ℤ) → at labels x ≡ Some a
      → ClimbsBy d cs parents x places y → Descends x y a (sum_of cs places)
  descends [] x y a is same = record {
    label = a;
    is = ap (at labels) (sym same) ∙ is;
    since = rw
        (← same) (since_itself a (a +ℤ pos 0) (f.stamp x) refl);
  }
  descends (i ∷ places) x y a is (c, parent, found, rest) =
      let g = falls_by x y a (sum_of cs places) i c is parent found
      (λ b there. descends places (tail d c) y b there rest) in
      record {
        label = g.label;
        is = g.is;
        since = since_after a
            (g.label +ℤ (most_of (slice_get cs i) +ℤ sum_of cs places)) (f.stamp x) (f.stamp y)
            g.after;
      }

  -- the way up leads along the constraints
  leads : (places : List ℕ) (x y : ℕ) → ClimbsBy d cs parents x places y → LeadsBy d cs x places y
  leads [] x y same = same
  leads (i ∷ places) x y (c, parent, found, rest) =
      let arc = f.arcs x i parent in
      let same : arc.constraint ≡ c = cc (arc.found) in
      (c, found, ap (head d) (sym same) ∙ arc.ends, leads places (tail d c) y rest)

  negative : (places : List ℕ) (x : ℕ) → 0 < length places → ClimbsBy d cs parents x places x
      → (sum_of cs places) <ℤ pos 0
  negative [] x some climbs = absurd (omega arith)
  negative (i ∷ places) x some (c, parent, found, rest) =
      let arc = f.arcs x i parent in
      let g = falls_by x x arc.here (sum_of cs places) i c arc.label parent found
      (λ b there. descends places (tail d c) x b there rest) in
      let same : g.label ≡ arc.here = cc (g.is, arc.label) in
      after_loop arc.here (most_of (slice_get cs i) +ℤ sum_of cs places) (f.stamp x)
      (rw same at g.after)

  -- ---- labels too low

  -- what k parents lower a label at most
  record Above (u k : ℕ) (a : ℤ) : Type 0 where
    label : ℤ
    is : at labels u ≡ Some label
    most : label ≤ℤ (a +ℤ pos (2 ^ 31 * k))

  above_none : (a : ℤ) → a ≤ℤ (a +ℤ pos (2 ^ 31 * 0))
  above_none a = omega (arith, ints)

  above_more : (a b c m : ℤ) (k s t : ℕ) → b ≤ℤ (a +ℤ pos (2 ^ 31 * k)) → IsAfter b s (c +ℤ m) t
      → pos 0 ≤ℤ (m +ℤ pos (2 ^ 31)) → c ≤ℤ (a +ℤ pos (2 ^ 31 * suc k))
  above_more a b c m k s t h (inl g) small = omega (arith, ints)
  above_more a b c m k s t h (inr g) small = omega (arith, ints)

  module _ (n : ℕ) (among : AreAmong n cs) where
    climbs_above : (k v u : ℕ) (a : ℤ) → at labels v ≡ Some a → ancestor d cs parents k v ≡ Some u
        → Above u k a
    climbs_above zero v u a is reached = let same : v ≡ u = cc in record
        { label = a; is = ap (at labels) (sym same) ∙ is; most = above_none a }
    climbs_above (suc k) v u a is reached =
        option_and_then_some (up d cs parents) (ancestor d cs parents k v) u reached
        (λ w before step.
        let s = step_up d cs parents w u step in
        let g = climbs_above k v w a is before in
        let arc = f.arcs w s.place s.parent in
        let same : arc.constraint ≡ s.constraint = cc (arc.found, s.found) in
        let here : arc.here ≡ g.label = cc (arc.label, g.is) in
        let after = rw (here) at arc.after in
        record {
          label = arc.there;
          is = ap (at labels) (sym (ap (tail d) same ∙ s.ends)) ∙ arc.above;
          most = above_more a g.label arc.there arc.constraint.most k (f.stamp w)
              (f.stamp (tail d arc.constraint)) g.most after
              (among s.place arc.constraint arc.found).most.low;
        })

    -- where the parents end
    record Ends (k v : ℕ) : Type 0 where
      steps : ℕ
      root : ℕ
      before : steps < k
      reached : ancestor d cs parents steps v ≡ Some root
      last : up d cs parents root ≡ None

    ends : (k v : ℕ) → ancestor d cs parents k v ≡ None → Ends k v
    ends zero v none = cc
    ends (suc k) v none = ends_at (ancestor d cs parents k v) refl (ends k v) where
      ends_at : (o : Option ℕ) → ancestor d cs parents k v ≡ o
          → (ancestor d cs parents k v ≡ None → Ends k v) → Ends (suc k) v
      ends_at None is before = let e = before is in record {
        steps = e.steps;
        root = e.root;
        before = omega (arith, e.before);
        reached = e.reached;
        last = e.last;
      }
      ends_at (Some u) is before = record {
        steps = k;
        root = u;
        before = omega arith;
        reached = is;
        last = sym (ap (option_and_then (up d cs parents)) is) ∙ none;
      }

    root_is : (u : ℕ) → up d cs parents u ≡ None → at parents u ≡ None
    root_is u none = root_at (at parents u) refl where
      root_at : (o : Option ℕ) → at parents u ≡ o → at parents u ≡ None
      root_at None is = is
      root_at (Some i) is =
          let arc = f.arcs u i is in
          let there : up d cs parents u ≡ Some (tail d arc.constraint) = ap
          (λ o. option_map (tail d) (option_and_then (slice_get cs) o)) is ∙ ap
          (option_map (tail d)) arc.found in
          cc

    contradicts : (a b : ℤ) (k : ℕ) → b ≤ℤ (a +ℤ pos (2 ^ 31 * k)) → pos 0 ≤ℤ (b +ℤ pos (2 ^ 31))
        → k < n → (a +ℤ pos (2 ^ 31 * n)) <ℤ pos 0 → ⊥
    contradicts a b k h low few less = omega (arith, ints)

    endless : (v : ℕ) → IsTooLow n labels v → ancestor d cs parents n v ≡ None → ⊥
    endless v (a, is, low) none =
        let e = ends n v none in
        let g = climbs_above e.steps v e.root a is e.reached in
        contradicts a g.label e.steps g.most (f.roots e.root g.label (root_is e.root e.last) g.is)
        e.before low

-- a loop of parents is one of constraints with a sum below 0
pub parent_loop : (d : Reading) (cs : List Constraint) (labels : Labels) (parents : Parents)
    (places : List ℕ)
    → IsForest d cs labels parents → IsParentLoop d cs parents places → IsLoopBy d cs places
parent_loop d cs labels parents places f l = record {
  vertex = l.vertex;
  closes = leads d cs labels parents f places l.vertex l.vertex l.climbs;
  negative = negative d cs labels parents f places l.vertex l.some l.climbs;
}

-- above a label that is too low the parents lead on without an end
pub too_low : (d : Reading) (cs : List Constraint) (labels : Labels) (parents : Parents) (n v : ℕ)
    → IsForest d cs labels parents → AreAmong n cs → IsTooLow n labels v
    → IsSome (ancestor d cs parents n v)
too_low d cs labels parents n v f among low = lasts (ancestor d cs parents n v) refl where
  lasts : (o : Option ℕ) → ancestor d cs parents n v ≡ o → IsSome (ancestor d cs parents n v)
  lasts None is = absurd (endless d cs labels parents f n among v low is)
  lasts (Some u) is = rw is refl
