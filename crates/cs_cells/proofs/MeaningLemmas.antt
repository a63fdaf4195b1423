-- The clauses of a gate are true exactly where the output has the gate's value, and stay within the formula's variables.
use Rattle.std.proofs.Common.{◌≡◌, ℕ, zero, suc, ◌^◌, ◌<◌, ◌==◌, Bool, true, false, if◌then◌else◌, inl, inr, ◌↔◌, List, [], ◌∷◌, ◌++◌, map, take, drop, get_or, length, refl, sym, arith, subst, ap, ◌∙◌}
use Rattle.std.specs.List.{All}
use Rattle.std.proofs.lemmas.Bool.{cases_lt}
use Rattle.std.proofs.lemmas.List.{length-map, length-drop, length-take-le, get_or-take, get_or-map, drop-map, get_or_past}
use Rattle.std.proofs.lemmas.List.Elements.{All-nil, All-cons, All-head, All-tail, All-append, All-get_or, All-take, All-drop}
use Rattle.cs_base.specs.declared.formula.Lit.{Lit}
use Rattle.cs_base.specs.declared.formula.Clause.{Clause}
use Rattle.cs_base.specs.declared.formula.Formula.{Formula}
use Rattle.cs_base.specs.Formulas.{Assignment, lit_value, MakesTrue, IsInRange}
use Rattle.cs_base.specs.Derivations.{negated}
use Rattle.cs_cells.specs.declared.gate.Kind.{Kind}
use Rattle.cs_cells.specs.declared.gate.Kind.TheVariants.{Mux, Nmux, Mux4, Mux8, Mux16}
use Rattle.cs_cells.specs.Gates.{row_of, pin_count, gate_value}
use Rattle.cs_cells.specs.Clauses.{bits_of, has, has_not, have_not, for_each, row_clause, table_clauses, datum_clauses, select_clauses, selected_out, gate_clauses, IsWithin}
use Rattle.cs_cells.proofs.NumberLemmas.{number_of, number_below}
use Rattle.cs_cells.proofs.ClauseLemmas.{table_to, to_table}
use Rattle.cs_cells.proofs.SelectLemmas.{select_to, to_select, multiplexed, flip, flip_out, flip_twice}

-- a multiplexer has a datum for each number of its selects
data_count : (kind : Kind) → ((row_of kind).selects == 0) ≡ false → (row_of kind).data_pins ≡ 2 ^ (row_of kind).selects
data_count Mux is = refl
data_count Nmux is = refl
data_count Mux4 is = refl
data_count Mux8 is = refl
data_count Mux16 is = refl
data_count kind is = cc

module _ (a : Assignment) (kind : Kind) (out : Lit) (pins : List Lit) (len : length pins ≡ pin_count kind)
    (is : ((row_of kind).selects == 0) ≡ false)
  where
    selects_len : length (drop (row_of kind).data_pins pins) ≡ (row_of kind).selects
    selects_len = length-drop (row_of kind).data_pins pins ∙ omega arith

    count : length (take (row_of kind).data_pins pins) ≡ 2 ^ length (drop (row_of kind).data_pins pins)
    count = length-take-le (row_of kind).data_pins pins (omega arith) ∙ data_count kind is ∙ ap (λ n. 2 ^ n) (sym selects_len)

    below : number_of (map (lit_value a) (drop (row_of kind).data_pins pins)) < (row_of kind).data_pins
    below = subst (λ n. number_of (map (lit_value a) (drop (row_of kind).data_pins pins)) < n)
        (ap (λ n. 2 ^ n) (length-map (drop (row_of kind).data_pins pins) (lit_value a) ∙ selects_len) ∙ sym (data_count kind is))
        (number_below (map (lit_value a) (drop (row_of kind).data_pins pins)))

    picked : lit_value a (get_or (take (row_of kind).data_pins pins)
        (number_of (map (lit_value a) (drop (row_of kind).data_pins pins))) (selected_out kind out))
        ≡ get_or (map (lit_value a) pins) (number_of (drop (row_of kind).data_pins (map (lit_value a) pins))) false
    picked =
        let i = number_of (map (lit_value a) (drop (row_of kind).data_pins pins)) in
        let low = below in
        ap (lit_value a) (get_or-take (row_of kind).data_pins pins i (selected_out kind out) below)
        ∙ sym (get_or-map (lit_value a) pins i (selected_out kind out) false (omega arith))
        ∙ ap (λ n. get_or (map (lit_value a) pins) n false)
        (ap number_of (sym (drop-map (lit_value a) (row_of kind).data_pins pins)))

    value : gate_value kind (map (lit_value a) pins)
        ≡ flip kind (get_or (map (lit_value a) pins) (number_of (drop (row_of kind).data_pins (map (lit_value a) pins))) false)
    value = multiplexed kind (map (lit_value a) pins) (length-map pins (lit_value a) ∙ len) is

    select_means : MakesTrue a (select_clauses (selected_out kind out) (drop (row_of kind).data_pins pins)
        (take (row_of kind).data_pins pins))
        ↔ (lit_value a out ≡ gate_value kind (map (lit_value a) pins))
    select_means = (
      λ all.
          let selected = select_to a (selected_out kind out) (drop (row_of kind).data_pins pins)
          (take (row_of kind).data_pins pins) count all in
          sym (flip_twice kind (lit_value a out)) ∙ ap (flip kind) (sym (flip_out a kind out) ∙ selected ∙ picked) ∙ sym value,
      λ same. to_select a (selected_out kind out) (drop (row_of kind).data_pins pins) (take (row_of kind).data_pins pins) count
          (flip_out a kind out ∙ ap (flip kind) (same ∙ value) ∙ flip_twice kind _ ∙ sym picked),
    )

-- the clauses mean the gate
pub gate_means : (kind : Kind) (out : Lit) (pins : List Lit) → length pins ≡ pin_count kind → (a : Assignment)
    → MakesTrue a (gate_clauses kind out pins) ↔ (lit_value a out ≡ gate_value kind (map (lit_value a) pins))
gate_means kind out pins len a =
    let table = table_clauses kind out pins in
    let select = select_clauses (selected_out kind out) (drop (row_of kind).data_pins pins) (take (row_of kind).data_pins pins) in
    let cases : (b : Bool) → ((row_of kind).selects == 0) ≡ b
    → MakesTrue a (if b then table else select) ↔ (lit_value a out ≡ gate_value kind (map (lit_value a) pins)) =
    λ b. elim b as (λ b. ((row_of kind).selects == 0) ≡ b
    → MakesTrue a (if b then table else select) ↔ (lit_value a out ≡ gate_value kind (map (lit_value a) pins))) [
      | true ↦ λ is. (table_to a out pins (gate_value kind), to_table a out pins (gate_value kind))
      | false ↦ λ is. select_means a kind out pins len is
    ] in
    cases ((row_of kind).selects == 0) refl

-- ---- variables

within_has : (vars : ℕ) (lit : Lit) (value : Bool) → IsWithin vars lit → IsWithin vars (has lit value)
within_has vars lit true is = is
within_has vars lit false is = is

within_has_not : (vars : ℕ) (lit : Lit) (value : Bool) → IsWithin vars lit → IsWithin vars (has_not lit value)
within_has_not vars lit true is = is
within_has_not vars lit false is = is

all_have_not : (vars : ℕ) (pins : List Lit) (values : List Bool) → All (IsWithin vars) pins → All (IsWithin vars) (have_not pins values)
all_have_not vars [] values all = All-nil (IsWithin vars)
all_have_not vars (p ∷ ps) [] all = All-nil (IsWithin vars)
all_have_not vars (p ∷ ps) (v ∷ vs) all =
    All-cons (IsWithin vars) (has_not p v) (have_not ps vs) (within_has_not vars p v (All-head (IsWithin vars) p ps all))
    (all_have_not vars ps vs (All-tail (IsWithin vars) p ps all))

all_for_each : (P : Clause → Type 0) (clauses : ℕ → List Clause) (count : ℕ) → ((i : ℕ) → All P (clauses i)) → All P (for_each clauses count)
all_for_each P clauses zero each = All-nil P
all_for_each P clauses (suc count) each =
    All-append P (for_each clauses count) (clauses count) (all_for_each P clauses count each) (each count)

one : {X : Type 0} (P : X → Type 0) (x : X) → P x → All P (x ∷ [])
one P x is = All-cons P x [] is (All-nil P)

two : {X : Type 0} (P : X → Type 0) (x y : X) → P x → P y → All P (x ∷ y ∷ [])
two P x y is other = All-cons P x (y ∷ []) is (one P y other)

within_datum : (vars : ℕ) (pins : List Lit) (i : ℕ) (out : Lit) → All (IsWithin vars) pins → IsWithin vars out → IsWithin vars (get_or pins i out)
within_datum vars pins i out all is = elim (cases_lt i (length pins)) [
  | inl lt ↦ All-get_or (IsWithin vars) pins i out lt all
  | inr ge ↦ subst (IsWithin vars) (sym (get_or_past pins i out ge)) is
]

within_selected : (vars : ℕ) (kind : Kind) (out : Lit) → IsWithin vars out → IsWithin vars (selected_out kind out)
within_selected vars Nmux out is = is
within_selected vars kind out is = is

-- the clauses name no other variables than the pins and the output
pub gate_within : (vars : ℕ) (kind : Kind) (out : Lit) (pins : List Lit) → All (IsWithin vars) pins → IsWithin vars out
    → All (λ clause. All (IsWithin vars) clause.lits) (gate_clauses kind out pins)
gate_within vars kind out pins all is =
    let P : Clause → Type 0 = λ clause. All (IsWithin vars) clause.lits in
    let d = (row_of kind).data_pins in
    let o = selected_out kind out in
    let selects = drop d pins in
    let all_selects = All-drop (IsWithin vars) d pins all in
    let o_within = within_selected vars kind out is in
    let table : All P (table_clauses kind out pins) =
    all_for_each P (λ number. row_clause kind out pins number ∷ []) (2 ^ length pins) (λ i.
    one P (row_clause kind out pins i)
    (All-append (IsWithin vars) (have_not pins (bits_of (length pins) i)) (has out (gate_value kind (bits_of (length pins) i)) ∷ [])
    (all_have_not vars pins (bits_of (length pins) i) all)
    (one (IsWithin vars) (has out (gate_value kind (bits_of (length pins) i))) (within_has vars out _ is)))) in
    let select : All P (select_clauses o selects (take d pins)) =
    all_for_each P (λ number. datum_clauses o selects (get_or (take d pins) number o) number) (length (take d pins)) (λ i.
    let bits = bits_of (length selects) i in
    let datum = get_or (take d pins) i o in
    let datum_within = within_datum vars (take d pins) i o (All-take (IsWithin vars) d pins all) o_within in
    let none = all_have_not vars selects bits all_selects in
    two P _ _
    (All-append (IsWithin vars) (have_not selects bits) (negated datum ∷ o ∷ []) none
    (two (IsWithin vars) (negated datum) o datum_within o_within))
    (All-append (IsWithin vars) (have_not selects bits) (datum ∷ negated o ∷ []) none
    (two (IsWithin vars) datum (negated o) datum_within o_within))) in
    let cases : (b : Bool) → All P (if b then table_clauses kind out pins else select_clauses o selects (take d pins)) =
    λ b. elim b as (λ b. All P (if b then table_clauses kind out pins else select_clauses o selects (take d pins))) [
      | true ↦ table
      | false ↦ select
    ] in
    cases ((row_of kind).selects == 0)

-- the formula with more clauses, or as before
pub range_more : (old new : Formula) (more : List Clause) → new.vars ≡ old.vars → new.clauses ≡ old.clauses ++ more
    → All (λ clause. All (IsWithin old.vars) clause.lits) more → IsInRange old → IsInRange new
range_more old new more vars clauses within range =
    subst (λ n. All (λ clause. All (IsWithin n) clause.lits) new.clauses) (sym vars)
    (subst (λ cs. All (λ clause. All (IsWithin old.vars) clause.lits) cs) (sym clauses)
    (All-append (λ clause. All (IsWithin old.vars) clause.lits) old.clauses more range within))

pub range_same : (old new : Formula) → new.vars ≡ old.vars → new.clauses ≡ old.clauses → IsInRange old → IsInRange new
range_same old new vars clauses range =
    subst (λ n. All (λ clause. All (IsWithin n) clause.lits) new.clauses) (sym vars)
    (subst (λ cs. All (λ clause. All (IsWithin old.vars) clause.lits) cs) (sym clauses) range)
