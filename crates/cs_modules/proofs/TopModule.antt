-- The only marked module is that at the only marked place.
use Rattle.std.proofs.Common.{◌≡◌, ℕ, suc, ◌+◌, List, [], ◌∷◌, ◌++◌, map, length, get_or, ◌≤◌, Bool, true, false, cond, Some, None, refl, ap, ap₂, ◌∙◌, sym, arith}
use Rattle.std.specs.Prelude.{slice_get, filter}
use Rattle.cs_json.specs.declared.document.Document.{Document}
use Rattle.cs_json.specs.declared.document.Module.{Module}
use Rattle.cs_modules.specs.Modules.{is_marked, only_one, only_marked, top_of}
use Rattle.cs_modules.specs.PinBits.{marked_places_from, top_at}

pub top_at_none : (places : List ℕ) (all : List Module) → length places ≡ 0 → top_at places all ≡ only_one all
top_at_none [] all e = refl
top_at_none (place ∷ places) all e = absurd (omega arith)

pub top_at_one : (places : List ℕ) (all : List Module) → length places ≡ 1 → top_at places all ≡ slice_get all (get_or places 0 0)
top_at_one [] all e = absurd (omega arith)
top_at_one (place ∷ []) all e = refl
top_at_one (place ∷ next ∷ places) all e = absurd (omega arith)

pub top_at_more : (places : List ℕ) (all : List Module) → 2 ≤ length places → top_at places all ≡ None
top_at_more [] all h = absurd (omega arith)
top_at_more (place ∷ []) all h = absurd (omega arith)
top_at_more (place ∷ next ∷ places) all h = refl

module _ (all : List Module) where
  further : (marked : Bool) (i : ℕ) (m : Module) (ms : List Module) (places : List ℕ) → slice_get all i ≡ Some m → map Some (filter is_marked ms) ≡ map (slice_get all) places
      → map Some (cond marked (m ∷ filter is_marked ms) (filter is_marked ms)) ≡ map (slice_get all) (cond marked (i ∷ []) [] ++ places)
  further true i m ms places at e = ap₂ (λ first rest. first ∷ rest) (sym at) e
  further false i m ms places at e = e

  marked_at : (i : ℕ) (ms : List Module) → ((j : ℕ) → slice_get all (i + j) ≡ slice_get ms j) → map Some (filter is_marked ms) ≡ map (slice_get all) (marked_places_from i ms)
  marked_at i [] tail = refl
  marked_at i (m ∷ ms) tail =
      let here : i ≡ i + 0 = omega arith in
      further (is_marked m) i m ms (marked_places_from (i + 1) ms) (ap (slice_get all) here ∙ tail 0)
      (marked_at (i + 1) ms (λ j. let place : i + 1 + j ≡ i + suc j = omega arith in ap (slice_get all) place ∙ tail (suc j)))

  by_places : (marked : List Module) (places : List ℕ) → map Some marked ≡ map (slice_get all) places → top_at places all ≡ only_marked marked all
  by_places [] [] e = refl
  by_places [] (p ∷ ps) e = absurd (cc)
  by_places (m ∷ ms) [] e = absurd (cc)
  by_places (m ∷ []) (p ∷ []) e = let same : Some m ≡ slice_get all p = cc in sym same
  by_places (m ∷ []) (p ∷ q ∷ ps) e = let rest : [] ≡ slice_get all q ∷ map (slice_get all) ps = cc in absurd (cc)
  by_places (m ∷ n ∷ ms) (p ∷ []) e = let rest : Some n ∷ map Some ms ≡ [] = cc in absurd (cc)
  by_places (m ∷ n ∷ ms) (p ∷ q ∷ ps) e = refl

  pub top_at-marked_places : top_at (marked_places_from 0 all) all ≡ only_marked (filter is_marked all) all
  top_at-marked_places = by_places (filter is_marked all) (marked_places_from 0 all) (marked_at 0 all (λ j. let place : 0 + j ≡ j = omega arith in ap (slice_get all) place))

-- a document of one module has that module at its top
pub only_top : (m : Module) → let doc : Document = record { modules = m ∷ [] } in top_of doc None ≡ Some m
only_top m = elim (is_marked m) as (λ t. only_marked (cond t (m ∷ filter is_marked []) (filter is_marked [])) (m ∷ []) ≡ Some m) [ true ↦ refl | false ↦ refl ]
