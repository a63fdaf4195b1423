-- The rules on a memory's parameters, asked of the digits that there are.
use Rattle.std.proofs.Common.{◌≡◌, ℕ, zero, suc, ◌+◌, ◌*◌, ◌<◌, List, [], ◌∷◌, drop, length, take, map, get_or, Bool, true, false, not, ◌&&◌, ◌||◌, cond, Option, Some, None, refl, ap, ap₂, sym, ◌∙◌, arith}
use Rattle.std.specs.Prelude.{◌==◌, find, nat_le, nat_lt, option_map}
use Rattle.std.specs.List.{list_all, list_any}
use Rattle.std.proofs.Math.Dec.{leb-zero, leb-suc-zero, leb-suc-suc}
use Rattle.std.proofs.Math.Bool.{and-false}
use Rattle.std.proofs.Math.Seq.{drop-cons}
use Rattle.std.proofs.lemmas.Bool.{le-leb}
use Rattle.cs_json.specs.declared.document.CellDecl.{CellDecl}
use Rattle.cs_json.specs.declared.document.Module.{Module}
use Rattle.cs_conditions.specs.Conditions.{MemoryRule, are_one, are_zero, broken_rule, first_where, is_broken, is_misformed, memory_rules}
use Rattle.cs_modules.specs.Modules.{cells_in, is_scope, is_memory}
use Rattle.cs_modules.specs.Pins.{has_right_pins, class_at, count_from}
use Rattle.cs_cells.specs.declared.memory.MemShape.{MemShape}
use Rattle.cs_modules.specs.Memories.{shapes_in, shape_of}
use Rattle.cs_conditions.specs.declared.error.NetError.TheVariants.{MemoryForm}
use Rattle.cs_modules.specs.Digits.{is_nonzero, is_one, value_of}

-- a test of the numbers from i + 1 on
shifted : (p : ℕ → Bool) (i k : ℕ) → list_all p (count_from (suc i) k) ≡ list_all (λ j. p (suc j)) (count_from i k)
shifted p i zero = refl
shifted p i (suc k) =
    let next : suc i + 1 ≡ suc (i + 1) = omega arith in
    ap (λ j. p (suc i) && list_all p (count_from j k)) next ∙ ap (λ t. p (suc i) && t) (shifted p (i + 1) k)

none_is_one : (i k : ℕ) → list_all (λ j. not (is_one [] j)) (count_from i k) ≡ true
none_is_one i zero = refl
none_is_one i (suc k) = none_is_one (i + 1) k

not_or : (x y : Bool) → not (x || y) ≡ (not x && not y)
not_or true y = refl
not_or false y = refl

pub zeros : (ds : List ℕ) (k : ℕ) → not (is_nonzero (take k ds)) ≡ are_zero ds k
zeros ds zero = refl
zeros [] (suc k) = sym (none_is_one 0 (suc k))
zeros (d ∷ ds) (suc k) =
    not_or (d == 49) (is_nonzero (take k ds))
    ∙ ap (λ t. not (d == 49) && t) (zeros ds k ∙ sym (shifted (λ i. not (is_one (d ∷ ds) i)) 0 k))

-- every digit is there and is 1
pub ones : (ds : List ℕ) (k : ℕ) → (nat_le k (length ds) && list_all (λ d. d == 49) (take k ds)) ≡ are_one ds k
ones ds zero = ap (λ t. t && true) (leb-zero (length ds))
ones [] (suc k) = ap (λ t. t && true) (leb-suc-zero k)
ones (d ∷ ds) (suc k) =
    ap (λ t. t && ((d == 49) && list_all (λ e. e == 49) (take k ds))) (leb-suc-suc k (length ds))
    ∙ swap (nat_le k (length ds)) (d == 49) (list_all (λ e. e == 49) (take k ds))
    ∙ ap (λ t. (d == 49) && t) (ones ds k ∙ sym (shifted (is_one (d ∷ ds)) 0 k))
  where
    swap : (x y z : Bool) → (x && (y && z)) ≡ (y && (x && z))
    swap true true z = refl
    swap true false z = refl
    swap false true z = refl
    swap false false z = refl

-- a number is above 0 where a digit is 1
pub positive : (ds : List ℕ) → is_nonzero ds ≡ nat_lt 0 (value_of ds)
positive [] = refl
positive (d ∷ ds) = by (d == 49) (positive ds)
  where
    doubled : (n : ℕ) → nat_lt 0 n ≡ nat_lt 0 (0 + 2 * n)
    doubled zero = refl
    doubled (suc n) = le-leb 1 (suc n) (omega arith) ∙ sym (le-leb 1 (0 + 2 * suc n) (omega arith))

    by : (t : Bool) → is_nonzero ds ≡ nat_lt 0 (value_of ds) → (t || is_nonzero ds) ≡ nat_lt 0 (cond t 1 0 + 2 * value_of ds)
    by true rest = sym (le-leb 1 (1 + 2 * value_of ds) (omega arith))
    by false rest = rest ∙ doubled (value_of ds)

-- whether a rule is broken, and the first that is
module _ (name : List ℕ) where
  pub none_broken : (rules : List MemoryRule) → option_map (λ (rule : MemoryRule). rule.0) (find is_broken rules) ≡ None → list_any is_broken rules ≡ false
  none_broken [] h = refl
  none_broken (rule ∷ rules) h =
      elim (is_broken rule) as (λ t. option_map (λ (r : MemoryRule). r.0) (cond t (Some rule) (find is_broken rules)) ≡ None → (t || list_any is_broken rules) ≡ false) [
        | true ↦ λ is. absurd (cc)
        | false ↦ λ is. none_broken rules is
      ] h

  pub one_broken : (rules : List MemoryRule) (parameter : List ℕ) → option_map (λ (rule : MemoryRule). rule.0) (find is_broken rules) ≡ Some parameter →
      (list_any is_broken rules ≡ true) × (first_where is_broken (λ rule. MemoryForm name rule.0) rules ≡ Some (MemoryForm name parameter))
  one_broken [] parameter h = absurd (cc)
  one_broken (rule ∷ rules) parameter h =
      elim (is_broken rule) as (λ t. option_map (λ (r : MemoryRule). r.0) (cond t (Some rule) (find is_broken rules)) ≡ Some parameter →
      ((t || list_any is_broken rules) ≡ true) × (option_map (λ (r : MemoryRule). MemoryForm name r.0) (cond t (Some rule) (find is_broken rules)) ≡ Some (MemoryForm name parameter))) [
        | true ↦ λ is. (refl, ap (option_map (MemoryForm name)) is)
        | false ↦ λ is. one_broken rules parameter is
      ] h

module _ (m : Module) (cell : CellDecl) where
  pub no_misform : option_map (λ (rule : MemoryRule). rule.0) (find is_broken (memory_rules m cell)) ≡ None → is_misformed m cell ≡ false
  no_misform none = ap (λ t. is_memory (class_at cell) && t) (none_broken cell.name (memory_rules m cell) none) ∙ and-false (is_memory (class_at cell))

  pub misform : (parameter : List ℕ) → is_memory (class_at cell) ≡ true →
      option_map (λ (rule : MemoryRule). rule.0) (find is_broken (memory_rules m cell)) ≡ Some parameter →
      (is_misformed m cell ≡ true) × (broken_rule m cell ≡ Some (MemoryForm cell.name parameter))
  misform parameter memory some =
      let facts = one_broken cell.name (memory_rules m cell) parameter some in
      (ap₂ (λ a b. a && b) memory facts.0, facts.1)

-- the cells from place i on, where that isn't passed over
module _ (cells : List CellDecl) (i : ℕ) (cell : CellDecl) (within : i < length cells) (is : cell ≡ get_or cells i cell)
    (kept : is_scope (class_at cell) ≡ false) where
  pub cells_from : cells_in (drop i cells) ≡ cell ∷ cells_in (drop (i + 1) cells)
  cells_from =
      let next : suc i ≡ i + 1 = omega arith in
      ap cells_in (drop-cons cells i cell within ∙ ap₂ (λ c n. c ∷ drop n cells) (sym is) next)
      ∙ ap (λ t. cond (not t) (cell ∷ cells_in (drop (i + 1) cells)) (cells_in (drop (i + 1) cells))) kept

  -- a cell that fails the test is not the one that is found
  pub found_later : (test : CellDecl → Bool) → test cell ≡ false → find test (cells_in (drop (i + 1) cells)) ≡ find test (cells_in (drop i cells))
  found_later test fails = sym (ap (find test) cells_from ∙ ap (λ t. cond t (Some cell) (find test (cells_in (drop (i + 1) cells)))) fails)

  -- where none is found, this one fails
  pub fails_here : (test : CellDecl → Bool) → find test (cells_in (drop i cells)) ≡ None → test cell ≡ false
  fails_here test none = by (test cell) (sym (ap (find test) cells_from) ∙ none)
    where
      by : (t : Bool) → cond t (Some cell) (find test (cells_in (drop (i + 1) cells))) ≡ None → t ≡ false
      by true h = absurd (cc)
      by false h = refl

  -- where all cells have their pins, so does this one
  pub right_here : find (λ c. not (has_right_pins c)) (cells_in (drop i cells)) ≡ None → has_right_pins cell ≡ true
  right_here none = by (has_right_pins cell) (fails_here (λ c. not (has_right_pins c)) none)
    where
      by : (t : Bool) → not t ≡ false → t ≡ true
      by true h = refl
      by false h = absurd (cc)

  -- and so do the later ones
  pub right_later : find (λ c. not (has_right_pins c)) (cells_in (drop i cells)) ≡ None → find (λ c. not (has_right_pins c)) (cells_in (drop (i + 1) cells)) ≡ None
  right_later none = found_later (λ c. not (has_right_pins c)) (fails_here (λ c. not (has_right_pins c)) none) ∙ none

  -- where no memory is too wide, no later one is
  pub narrow_later : find (λ shape. nat_lt 20 shape.abits) (shapes_in (map shape_of (cells_in (drop i cells)))) ≡ None →
      find (λ shape. nat_lt 20 shape.abits) (shapes_in (map shape_of (cells_in (drop (i + 1) cells)))) ≡ None
  narrow_later none = by (shape_of cell) (sym (ap (λ cs. find (λ shape. nat_lt 20 shape.abits) (shapes_in (map shape_of cs))) cells_from) ∙ none)
    where
      rest : List (Option MemShape)
      rest = map shape_of (cells_in (drop (i + 1) cells))

      by : (shape : Option MemShape) → find (λ s. nat_lt 20 s.abits) (shapes_in (shape ∷ rest)) ≡ None → find (λ s. nat_lt 20 s.abits) (shapes_in rest) ≡ None
      by None h = h
      by (Some s) h = passed (nat_lt 20 s.abits) h
        where
          passed : (t : Bool) → cond t (Some s) (find (λ z. nat_lt 20 z.abits) (shapes_in rest)) ≡ None → find (λ z. nat_lt 20 z.abits) (shapes_in rest) ≡ None
          passed true h = absurd (cc)
          passed false h = h
