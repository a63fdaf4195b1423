-- The labels at the beginning and at the end of the labelling method.
use Rattle.std.proofs.Common.{◌≡◌, ℕ, ◌<◌, ◌⊎◌, List, Option, Some, None, sym, ◌∙◌, arith, inl, inr, refl}
use Rattle.std.specs.Prelude.{ℤ, ◌+ℤ◌, ◌≤ℤ◌}
use Rattle.std.proofs.lemmas.Int.{ints}
use Rattle.cs_diff.specs.declared.system.Constraint.{Constraint}
use Rattle.cs_diff.specs.declared.reading.Reading.{Reading}
use Rattle.cs_diff.specs.Labels.{tail, Labels, Parents, at, KeepAll, IsAfter, IsArc, IsForest, IsLowered, AreStarts, IsTight, AreSettled}

-- without a parent the labels to begin with are a forest
pub forest_none : (d : Reading) (cs : List Constraint) (n : ℕ) (labels : Labels) (parents : Parents)
    → AreStarts n labels → ((v : ℕ) → at parents v ≡ None) → IsForest d cs labels parents
forest_none d cs n labels parents starts fresh = record {
  stamp = λ v. 0;
  clock = 1;
  earlier = λ v. omega arith;
  roots = λ v z none is. starts.roots v z is;
  arcs = λ v i is. let none = fresh v in cc;
}

-- an arc whose constraint is kept is tight
exactly : (a b m : ℤ) (s t : ℕ) → IsAfter a s (b +ℤ m) t → a ≤ℤ (b +ℤ m) → (a ≡ b +ℤ m) × (t < s)
exactly a b m s t (inl above) most = absurd (omega (arith, ints))
exactly a b m s t (inr same) most = same

module _ (d : Reading) (cs : List Constraint) (n : ℕ) (old new : Labels)
    (parents parents' : Parents) (starts : AreStarts n old) (fresh : (v : ℕ) → at parents v ≡ None)
    (lowered : IsLowered d cs old parents new parents') where
  pub forest_now : IsForest d cs new parents'
  forest_now = lowered.forest (forest_none d cs n old parents starts fresh)

  module _ (kept : KeepAll d cs new) where
    tight : (v i : ℕ) (z : ℤ) → at new v ≡ Some z → IsArc d cs new forest_now.stamp v i
        → IsTight d cs new forest_now.stamp v z
    tight v i z is arc =
        let here : arc.here ≡ z = cc (arc.label, is) in
        let keeps = kept i arc.constraint arc.found arc.there arc.above in
        let most : arc.here ≡ keeps.0 = cc (keeps.1, arc.label, arc.ends) in
        let low = rw (← most) at keeps.2 in
        let e = exactly arc.here arc.there arc.constraint.most (forest_now.stamp v)
        (forest_now.stamp (tail d arc.constraint)) arc.after low in
        record {
          place = i;
          constraint = arc.constraint;
          found = arc.found;
          ends = arc.ends;
          there = arc.there;
          above = arc.above;
          sum = sym here ∙ e.0;
          earlier = e.1;
        }

    reached_by : (v : ℕ) (z : ℤ) → at new v ≡ Some z → (o : Option ℕ) → at parents' v ≡ o
        → (at old v ≡ Some z) ⊎ IsTight d cs new forest_now.stamp v z
    reached_by v z is None none = inl (sym (lowered.roots v none).1 ∙ is)
    reached_by v z is (Some i) parent = inr (tight v i z is (forest_now.arcs v i parent))

    pub settled : AreSettled d cs old new
    settled = record {
      kept = kept;
      bound = lowered.bound;
      lower = lowered.lower;
      reached = record {
        stamp = forest_now.stamp;
        reached = λ v z is. reached_by v z is
            (at parents' v) refl;
      };
    }
