-- Steps taken one after the other: each leaves one list of bounds, and these bound all legal lags of a period within the
-- bound.
use Rattle.std.proofs.Common.{◌≡◌, Bool, ℕ, zero, suc, ◌+◌, ◌<◌, List, [], ◌∷◌, ◌++◌, length, Some, None, map, take, set, if◌then◌else◌, inl, inr, sym, ap, ◌∙◌, subst, arith, ◌↔◌}
use Rattle.std.specs.Prelude.{ℤ, pos, ◌-ℤ◌, ◌≤ℤ◌, slice_get, slice_set}
use Rattle.std.proofs.lemmas.Int.{ints}
use Rattle.std.proofs.lemmas.List.{take_more, take_more_set}
use Rattle.std.proofs.lemmas.Option.{get_or_from_slice_get}
use Rattle.cs_base.specs.declared.contexts.Mode.{Mode}
use Rattle.cs_graph.specs.declared.edge.Edge.{Edge}
use Rattle.cs_graph.specs.declared.vertex.Vertex.{Vertex}
use Rattle.cs_graph.specs.declared.graph.Graph.{Graph}
use Rattle.cs_graph.specs.declared.delays.Delays.{Delays}
use Rattle.cs_graph.specs.Kinds.{is_pinned}
use Rattle.cs_graph.specs.Lags.{IsLegal, lag_at}
use Rattle.cs_graph.specs.Period.{IsPath, IsPeriodWithin}
use Rattle.cs_graph.proofs.LagLemmas.{got}
use Rattle.cs_cert.specs.declared.step.Step.{Step}
use Rattle.cs_cert.specs.declared.step.Step.TheVariants.{EdgeStep, PathStep, PinStep}
use Rattle.cs_cert.specs.Steps.{Goes, cost}
use Rattle.cs_cert.specs.Floors.{AreBoundBy, IsBoundBy, LowerBounds, pinned_bounds}
use Rattle.cs_cert.proofs.SoundLemmas.{step_bound}
use Rattle.cs_cert.proofs.FloorLemmas.{got_after, pinned_zero}

-- ---- a step begins and ends at one vertex each

same_item : {A : Type 0} (x y : A) → Some x ≡ Some y → x ≡ y
same_item x y e = cc

path_end_once : (g : Graph) (es : List ℕ) (u v v' : ℕ) → IsPath g u es v → IsPath g u es v' → v ≡ v'
path_end_once g [] u v v' one other = sym one ∙ other
path_end_once g (e ∷ es) u v v' (d, found, from, rest) (d', found', from', rest') =
    let same = same_item d' d (sym found' ∙ found) in
    path_end_once g es d.to v v' rest (subst (λ (x : Edge). IsPath g x.to es v') same rest')

goes_once : (g : Graph) (step : Step) (u v u' v' : ℕ) → Goes g step u v → Goes g step u' v' → (u ≡ u') × (v ≡ v')
goes_once g (EdgeStep e) u v u' v' (d, found, from, to) (d', found', from', to') =
    let same = same_item d d' (sym found ∙ found') in
    (sym from ∙ ap (λ (x : Edge). x.from) same ∙ from', sym to ∙ ap (λ (x : Edge). x.to) same ∙ to')
goes_once g (PathStep first es) u v u' v' (from, among, leads) (from', among', leads') =
    (sym from ∙ from', path_end_once g es first v v' leads leads')
goes_once g (PinStep first last) u v u' v' (from, to) (from', to') = (sym from ∙ from', sym to ∙ to')

known_once : (x y : ℤ) → Some (Some x) ≡ Some (Some y) → x ≡ y
known_once x y e = cc

module _ (g : Graph) (delays : Delays) (mode : Mode) (bound : ℕ) where
  bound_once : (step : Step) (old new new' : LowerBounds) → IsBoundBy g delays mode bound step old new
      → IsBoundBy g delays mode bound step old new' → new ≡ new'
  bound_once step old new new' b b' =
      let ends = goes_once g step b.from b.to b'.from b'.to b.goes b'.goes in
      let known = known_once b.known b'.known (sym b.begins ∙ ap (slice_get old) ends.0 ∙ b'.begins) in
      b.is ∙ ap (λ (v : ℕ). slice_set old v (Some (b.known -ℤ cost g step))) ends.1
      ∙ ap (λ (z : ℤ). slice_set old b'.to (Some (z -ℤ cost g step))) known ∙ sym b'.is

  -- after a step that was taken the rest of the steps leave what all leave
  pub bounds_on : (step : Step) (steps : List Step) (old mid new : LowerBounds) → IsBoundBy g delays mode bound step old mid
      → AreBoundBy g delays mode bound (step ∷ steps) old new ↔ AreBoundBy g delays mode bound steps mid new
  bounds_on step steps old mid new b = (
    λ (next, taken, rest). subst (λ (x : LowerBounds). AreBoundBy g delays mode bound steps x new)
        (bound_once step old next mid taken b) rest,
    λ rest. (mid, b, rest),
  )

  -- a step that can't be taken leaves nothing
  pub bounds_nowhere : (step : Step) (steps : List Step) (old new : LowerBounds)
      → ((mid : LowerBounds) → IsBoundBy g delays mode bound step old mid → ⊥)
      → AreBoundBy g delays mode bound (step ∷ steps) old new → ⊥
  bounds_nowhere step steps old new none (next, taken, rest) = none next taken

-- ---- the bounds hold

lower : (known from to cost z : ℤ) → known -ℤ cost ≡ z → known ≤ℤ from → (from -ℤ to) ≤ℤ cost → z ≤ℤ to
lower known from to cost z is low most = omega (arith, ints)

both_zero : (z lag : ℤ) → z ≡ pos 0 → lag ≡ pos 0 → z ≤ℤ lag
both_zero z lag is too = omega (arith, ints)

module _ (g : Graph) (delays : Delays) (mode : Mode) (bound : ℕ) (lags : List ℤ) (legal : IsLegal g mode lags)
    (within : IsPeriodWithin g delays lags bound) where
  abbrev Hold : LowerBounds → Type 0
  Hold least = (v : ℕ) (z : ℤ) → slice_get least v ≡ Some (Some z) → z ≤ℤ lag_at lags v

  pinned_hold : Hold (pinned_bounds g)
  pinned_hold v z found =
      let (x, there, pinned, is) = pinned_zero g v z found in
      both_zero z (lag_at lags v) is (legal.pinned v x there pinned)

  one_holds : (step : Step) (old new : LowerBounds) → IsBoundBy g delays mode bound step old new → Hold old → Hold new
  one_holds step old new b holds v z found =
      elim (got_after old b.to (Some (b.known -ℤ cost g step)) v (Some z)
      (subst (λ (x : LowerBounds). slice_get x v ≡ Some (Some z)) b.is found)) [
        | inl (place, value) ↦
            subst (λ (n : ℕ). z ≤ℤ lag_at lags n) place
            (lower b.known (lag_at lags b.from) (lag_at lags b.to) (cost g step) z (cc)
            (holds b.from b.known b.begins)
            (step_bound g delays mode bound lags legal within step b.from b.to b.goes b.valid))
        | inr before ↦ holds v z before
      ]

  all_hold : (steps : List Step) (old new : LowerBounds) → AreBoundBy g delays mode bound steps old new → Hold old → Hold new
  all_hold [] old new same holds = subst Hold (sym same) holds
  all_hold (step ∷ steps) old new (next, taken, rest) holds =
      all_hold steps next new rest (one_holds step old next taken holds)

  pub bounds_hold : (steps : List Step) (new : LowerBounds)
      → AreBoundBy g delays mode bound steps (pinned_bounds g) new → Hold new
  bounds_hold steps new taken = all_hold steps (pinned_bounds g) new taken pinned_hold

-- ---- writing the bounds to begin with

mapped_at : {A B : Type 0} (f : A → B) (xs : List A) (i : ℕ) (x : A) → slice_get xs i ≡ Some x
    → slice_get (map f xs) i ≡ Some (f x)
mapped_at f [] i x found = absurd (cc)
mapped_at f (y ∷ ys) zero x found = let same : y ≡ x = cc in ap (λ z. Some (f z)) same
mapped_at f (y ∷ ys) (suc i) x found = mapped_at f ys i x found

pub bound_of_vertex : (g : Graph) (v : ℕ) (answer : Bool) → v < length g.vertices
    → ((x : Vertex) → slice_get g.vertices v ≡ Some x → answer ≡ is_pinned x.kind)
    → slice_get (pinned_bounds g) v ≡ Some (if answer then Some (pos 0) else None)
bound_of_vertex g v answer below tells =
    let found = got g.vertices v below in
    mapped_at (λ (x : Vertex). if is_pinned x.kind then Some (pos 0) else None) g.vertices v found.0 found.1
    ∙ ap (λ (b : Bool). Some (if b then Some (pos 0) else None)) (sym (tells found.0 found.1))

pub next_written : {A : Type 0} (xs ys : List A) (i : ℕ) (x : A) → i < length xs → i < length ys
    → take i xs ≡ take i ys → slice_get ys i ≡ Some x → take (i + 1) (set xs i x) ≡ take (i + 1) ys
next_written xs ys i x within within' same here =
    take_more_set xs i x within ∙ ap (λ front. front ++ x ∷ []) same
    ∙ ap (λ z. take i ys ++ z ∷ []) (sym (get_or_from_slice_get ys i x x here)) ∙ sym (take_more ys i x within')
