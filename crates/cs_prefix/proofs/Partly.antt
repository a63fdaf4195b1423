-- What stands while the groups of a level are split, one after the other.
use Rattle.std.proofs.Common.{◌≡◌, ℕ, suc, ◌+◌, ◌-◌, ◌<◌, ◌≤◌, ◌⊎◌, inl, inr, List, [], ◌∷◌, ◌++◌, length, take, get_or, map, filter, Bool, true, false, Option, Some, None, refl}
use Rattle.std.specs.Prelude.{slice_get}
use Rattle.std.specs.List.{AllByRecursion}
use Rattle.cs_prefix.specs.declared.plan.DriverId.{DriverId}
use Rattle.cs_prefix.specs.declared.plan.Planned.{Planned}
use Rattle.cs_prefix.specs.declared.layers.Group.{Group}
use Rattle.cs_prefix.specs.Layers.{Progress}
use Rattle.cs_prefix.proofs.Beginnings.{In, begins, is_less}
use Rattle.cs_prefix.proofs.Splitting.{get_behind, get_last}

-- ---- the order of starts

-- shorter ones first, those of one length by their digits
abbrev pub Comes : List Bool → List Bool → Type 0
Comes p q = (length p < length q) ⊎ ((length p ≡ length q) × (is_less p q ≡ true))

abbrev pub AreOrdered : List (List Bool) → Type 0
AreOrdered [] = Unit {0}
AreOrdered (p ∷ ps) = AllByRecursion (Comes p) ps × AreOrdered ps

-- it stands before what follows starts of length l with one digit more
abbrev pub StandsUnder : ℕ → List Bool → List Bool → Type 0
StandsUnder l s p = (length p ≤ l) ⊎ ((length p ≡ suc l) × (is_less (take l p) s ≡ true))

pub ordered_more : (ps : List (List Bool)) (q : List Bool) → AreOrdered ps
    → AllByRecursion (λ p. Comes p q) ps → AreOrdered (ps ++ q ∷ [])
ordered_more [] q h all = (tt, tt)
ordered_more (p ∷ ps) q h all = (all_more (Comes p) ps q h.0 all.0, ordered_more ps q h.1 all.1)
  where
    all_more : (P : List Bool → Type 0) (xs : List (List Bool)) (x : List Bool) → AllByRecursion P xs → P x
        → AllByRecursion P (xs ++ x ∷ [])
    all_more P [] x h one = (one, tt)
    all_more P (y ∷ xs) x h one = (h.0, all_more P xs x h.1 one)

-- ---- one driver's edges

-- a group, and the starts that its edges have in common
pub record Known : Type 0 where
  pub starts : List Bool
  pub group : Group

module _ (contents : List (List Bool)) (es : List ℕ) (driver : DriverId) (first : ℕ) where
  -- the register behind these starts, none behind nothing
  abbrev pub IsBehind : List (List Bool) → List Bool → Option ℕ → Type 0
  IsBehind ks [] v = v ≡ None
  IsBehind ks (b ∷ p) v = (m : ℕ) × (slice_get ks m ≡ Some (b ∷ p)) × (v ≡ Some (first + m))

  pub behind_more : (ks : List (List Bool)) (q p : List Bool) (v : Option ℕ) → IsBehind ks p v
      → IsBehind (ks ++ q ∷ []) p v
  behind_more ks q [] v h = h
  behind_more ks q (b ∷ p) v h = (h.0, get_behind ks (q ∷ []) h.0 (b ∷ p) h.1, h.2)

  pub behind_new : (ks : List (List Bool)) (p : List Bool) (b : Bool)
      → IsBehind (ks ++ (p ++ b ∷ []) ∷ []) (p ++ b ∷ []) (Some (first + length ks))
  behind_new ks [] b = (length ks, get_last ks (b ∷ []), refl)
  behind_new ks (a ∷ p) b = (length ks, get_last ks (a ∷ p ++ b ∷ []), refl)

  pub record IsKnown (l : ℕ) (ks : List (List Bool)) (known : Known) : Type 0 where
    pub long : length known.starts ≡ l
    pub edges : known.group.edges ≡ filter (begins contents known.starts) es
    pub behind : IsBehind ks known.starts known.group.behind

  -- the register of these starts
  pub record IsMade (ks : List (List Bool)) (p : List Bool) (r : Planned) : Type 0 where
    pub driver_is : r.driver ≡ driver
    pub start : r.start ≡ get_or p (length p - 1) false
    pub behind : IsBehind ks (take (length p - 1) p) r.behind

  -- an edge has these starts, at most so many
  pub record IsOn (l : ℕ) (p : List Bool) : Type 0 where
    pub e : ℕ
    pub among : In e es
    pub begin : begins contents p e ≡ true
    pub some : 0 < length p
    pub few : length p ≤ l

  abbrev pub IsIn : ℕ → List Known → Type 0
  IsIn e [] = ⊥
  IsIn e (known ∷ knowns) = In e known.group.edges ⊎ IsIn e knowns

  pub in_more : (e : ℕ) (knowns : List Known) (known : Known) → IsIn e knowns → IsIn e (knowns ++ known ∷ [])
  in_more e [] known h = absurd h
  in_more e (k ∷ knowns) known (inl here) = inl here
  in_more e (k ∷ knowns) known (inr later) = inr (in_more e knowns known later)

  pub in_last : (e : ℕ) (knowns : List Known) (known : Known) → In e known.group.edges
      → IsIn e (knowns ++ known ∷ [])
  in_last e [] known h = inl h
  in_last e (k ∷ knowns) known h = inr (in_last e knowns known h)

  module _ (registers : List Planned) (ends : List (Option ℕ)) where
    -- the registers so far are those of `ks`, and the groups of the next level those of `fresh`
    pub record Stands (l : ℕ) (ks : List (List Bool)) (made : List Planned) (fresh : List Known)
        (t : Progress) : Type 0 where
      pub registers_are : t.registers ≡ registers ++ made
      pub groups_are : t.groups ≡ map (λ (k : Known). k.group) fresh
      pub count : length made ≡ length ks
      pub each : (n : ℕ) (p : List Bool) (r : Planned) → slice_get ks n ≡ Some p → slice_get made n ≡ Some r
          → IsMade ks p r
      pub on : (n : ℕ) (p : List Bool) → slice_get ks n ≡ Some p → IsOn (suc l) p
      pub known : AllByRecursion (IsKnown (suc l) ks) fresh
      pub ordered : AreOrdered ks
      pub ends_count : length t.ends ≡ length ends
      pub others : (e : ℕ) → (In e es → ⊥) → get_or t.ends e None ≡ get_or ends e None

    -- an edge that has passed the registers of this level
    abbrev pub IsDone : ℕ → List (List Bool) → List Known → Progress → ℕ → Type 0
    IsDone l ks fresh t e =
        IsBehind ks (take (suc l) (get_or contents e [])) (get_or t.ends e None)
        × (l < length (get_or contents e []) → IsIn e fresh)

    -- an edge that has passed those of the levels before
    abbrev pub IsWaiting : ℕ → List (List Bool) → List Known → Progress → ℕ → Type 0
    IsWaiting l ks rest t e =
        IsBehind ks (take l (get_or contents e [])) (get_or t.ends e None)
        × (l < length (get_or contents e []) → IsIn e rest)

    abbrev pub HasStatus : ℕ → List (List Bool) → List Known → List Known → Progress → ℕ → Type 0
    HasStatus l ks fresh rest t e = IsDone l ks fresh t e ⊎ IsWaiting l ks rest t e
