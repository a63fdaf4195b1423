-- The elements of a netlist, made cell by cell.
use Rattle.std.proofs.Common.{◌≡◌, ℕ, zero, suc, ◌+◌, ◌≤◌, List, [], ◌∷◌, ◌++◌, append_assoc, append-nil, length, drop, filter, not, Option, Some, None, refl, sym, ap, ap₂, ◌∙◌, add-one, arith}
use Rattle.std.specs.Prelude.{flat_map, slice_get, Result, Ok, Err, OnOk}
use Rattle.std.specs.List.{enumerate_from, zip}
use Rattle.cs_base.specs.declared.signal.Signal.{Signal}
use Rattle.cs_cells.specs.declared.memory.MemShape.{MemShape}
use Rattle.cs_net.specs.declared.elements.Element.{Element}
use Rattle.cs_net.specs.declared.netlist.Cell.{Cell}
use Rattle.cs_modules.specs.declared.clocks.Clock.{Clock}
use Rattle.cs_net.specs.declared.netlist.Port.{Port}
use Rattle.cs_modules.specs.Signals.{is_input}
use Rattle.cs_net.specs.Drivers.{is_clock}
use Rattle.cs_net.specs.Elements.{cell_elements, elements_of}
use Rattle.cs_net.specs.Netlist.{Net}

-- the pairs from a place on begin with what stands there
pairs_at : {A B : Type 0} (i : ℕ) (xs : List A) (ys : List B) (x : A) (y : B) → slice_get xs i ≡ Some x →
    slice_get ys i ≡ Some y →
    drop i (zip xs ys) ≡ (x, y) ∷ drop (suc i) (zip xs ys)
pairs_at i [] ys x y first second = absurd (cc)
pairs_at i (a ∷ xs) [] x y first second = absurd (cc)
pairs_at zero (a ∷ xs) (b ∷ ys) x y first second =
    let one : a ≡ x = cc in
    let other : b ≡ y = cc in
    ap₂ (λ c d. (c, d) ∷ zip xs ys) one other
pairs_at (suc i) (a ∷ xs) (b ∷ ys) x y first second = pairs_at i xs ys x y first second

-- there are none where the second list has ended
pairs_past : {A B : Type 0} (i : ℕ) (xs : List A) (ys : List B) → slice_get ys i ≡ None →
    drop i (zip xs ys) ≡ []
pairs_past zero [] ys past = refl
pairs_past (suc i) [] ys past = refl
pairs_past zero (x ∷ xs) [] past = refl
pairs_past (suc i) (x ∷ xs) [] past = refl
pairs_past zero (x ∷ xs) (y ∷ ys) past = absurd (cc)
pairs_past (suc i) (x ∷ xs) (y ∷ ys) past = pairs_past i xs ys past

drop_more : {A : Type 0} (i : ℕ) (xs : List A) → drop i xs ≡ [] → drop (suc i) xs ≡ []
drop_more zero [] none = refl
drop_more (suc i) [] none = refl
drop_more zero (x ∷ xs) none = absurd (cc)
drop_more (suc i) (x ∷ xs) none = drop_more i xs none

-- what follows from what a call promises of its value
pub on_ok : {T E P Q : Type 0} → (P → Q) → (r : Result T E) → OnOk r P → OnOk r Q
on_ok f (Ok v) h = f h
on_ok f (Err e) h = tt

abbrev pub Cells : Type 0
Cells = List (Cell × Option MemShape)

-- the elements of the cells from a place on
abbrev pub elements_from : ℕ → Cells → List Element
elements_from i cells = flat_map cell_elements (enumerate_from i (drop i cells))

-- the elements of a cell are pushed
pub next_cell : (i : ℕ) (cells : List Cell) (shapes : List (Option MemShape)) (cell : Cell)
    (shape : Option MemShape) (old new : List Element) →
    slice_get cells i ≡ Some cell → slice_get shapes i ≡ Some shape →
    new ≡ old ++ cell_elements (i, (cell, shape)) →
    new ++ elements_from (i + 1) (zip cells shapes) ≡ old ++ elements_from i (zip cells shapes)
next_cell i cells shapes cell shape old new first second pushed =
    let pairs = zip cells shapes in
    ap (λ made. made ++ elements_from (i + 1) pairs) pushed
    ∙ append_assoc old (cell_elements (i, (cell, shape))) (elements_from (i + 1) pairs)
    ∙ ap (λ rest. old ++ (cell_elements (i, (cell, shape)) ++ flat_map cell_elements
    (enumerate_from (i + 1) (drop rest pairs)))) (add-one i)
    ∙ sym (ap (λ rest. old ++ flat_map cell_elements (enumerate_from i rest))
    (pairs_at i cells shapes cell shape first second))

none_left : (i : ℕ) (pairs : Cells) (made : List Element) → drop i pairs ≡ [] →
    made ++ elements_from (i + 1) pairs ≡ made ++ elements_from i pairs
none_left i pairs made none =
    ap (λ n. made ++ flat_map cell_elements (enumerate_from (i + 1) (drop n pairs))) (add-one i)
    ∙ ap (λ rest. made ++ flat_map cell_elements (enumerate_from (i + 1) rest)) (drop_more i pairs none)
    ∙ sym (ap (λ rest. made ++ flat_map cell_elements (enumerate_from i rest)) none)

-- a cell without an entry for a shape has no elements
pub no_shape : (i : ℕ) (cells : List Cell) (shapes : List (Option MemShape)) (made : List Element) →
    slice_get shapes i ≡ None →
    made ++ elements_from (i + 1) (zip cells shapes) ≡ made ++ elements_from i (zip cells shapes)
no_shape i cells shapes made past = none_left i (zip cells shapes) made (pairs_past i cells shapes past)

pairs_all : {A B : Type 0} (i : ℕ) (xs : List A) (ys : List B) → length xs ≤ i → drop i (zip xs ys) ≡ []
pairs_all zero [] ys past = refl
pairs_all (suc i) [] ys past = refl
pairs_all zero (x ∷ xs) ys past = absurd (omega (arith, past))
pairs_all (suc i) (x ∷ xs) [] past = refl
pairs_all (suc i) (x ∷ xs) (y ∷ ys) past = pairs_all i xs ys (omega (arith, past))

-- past the last cell all elements are made
pub all_made : (i : ℕ) (cells : List Cell) (shapes : List (Option MemShape)) (made whole : List Element) →
    length cells ≤ i →
    made ++ elements_from i (zip cells shapes) ≡ whole → made ≡ whole
all_made i cells shapes made whole past so_far =
    sym (append-nil made)
    ∙ sym (ap (λ rest. made ++ flat_map cell_elements (enumerate_from i rest))
    (pairs_all i cells shapes past))
    ∙ so_far

-- the data inputs are pushed first
pub first_made : (old new : List Element) (made inputs outputs : List Signal) → old ≡ [] → made ≡ outputs →
    inputs ≡ [] →
    new ≡ old ++ record { cell = 0; outputs = made; inputs = inputs } ∷ [] →
    new ≡ record { cell = 0; outputs = outputs; inputs = [] } ∷ []
first_made old new made inputs outputs empty same none pushed =
    pushed
    ∙ ap (λ (es : List Element). es ++ record { cell = 0; outputs = made; inputs = inputs } ∷ []) empty
    ∙ ap₂ (λ os is. let e : Element = record { cell = 0; outputs = os; inputs = is } in e ∷ []) same none

-- the elements of a netlist by its parts
pub elements_of_parts : (net : Net) (ports : List Port) (clock : Option Clock) (cells : List Cell)
    (shapes : List (Option MemShape)) →
    net.ports ≡ ports → net.clock ≡ clock → net.cells ≡ cells → net.shapes ≡ shapes →
    record {
      cell = 0;
      outputs = filter (λ s. not (is_clock clock s))
          (flat_map (λ p. p.bits) (filter (λ p. is_input p.direction) ports));
      inputs = [];
    } ∷ flat_map cell_elements (enumerate_from 0 (zip cells shapes)) ≡ elements_of net
elements_of_parts net ports clock cells shapes p k c s =
    ap₂ (λ os rest. let e : Element = record { cell = 0; outputs = os; inputs = [] } in e ∷ rest)
    (sym (ap₂ (λ k ps. filter (λ s. not (is_clock k s))
    (flat_map (λ p. p.bits) (filter (λ p. is_input p.direction) ps))) k p))
    (sym (ap₂ (λ cs ss. flat_map cell_elements (enumerate_from 0 (zip cs ss))) c s))
