-- The clauses of a gate: true exactly where the output has the gate's value (Tseitin 1968).
use Rattle.std.specs.Prelude.{ℕ, zero, suc, ◌/◌, ◌%◌, ◌^◌, ◌==◌, ◌≤◌, Bool, if◌then◌else◌, List, [], ◌∷◌, ◌++◌, map, take, drop, get_or, length}
use Rattle.std.specs.List.{zip}
use Rattle.cs_base.specs.declared.formula.Lit.{Lit}
use Rattle.cs_base.specs.declared.formula.Clause.{Clause}
use Rattle.cs_base.specs.Derivations.{negated}
use Rattle.cs_cells.specs.declared.gate.Kind.{Kind}
use Rattle.cs_cells.specs.declared.gate.Kind.TheVariants.{Nmux}
use Rattle.cs_cells.specs.Gates.{row_of, gate_value}

-- the lowest digits of a number in base 2, the lowest first
abbrev pub bits_of : ℕ → ℕ → List Bool
bits_of zero number = []
bits_of (suc count) number = (number % 2 == 1) ∷ bits_of count (number / 2)

-- the literal that says that a literal has this value
abbrev pub has : Lit → Bool → Lit
has lit value = if value then lit else negated lit

-- the literal that says that a literal hasn't this value
abbrev pub has_not : Lit → Bool → Lit
has_not lit value = if value then negated lit else lit

-- the literals that say that pins haven't all these values
abbrev pub have_not : List Lit → List Bool → List Lit
have_not pins values = map (λ e. has_not e.0 e.1) (zip pins values)

-- the clauses for each number below a count, in rising order
abbrev pub for_each : (ℕ → List Clause) → ℕ → List Clause
for_each clauses zero = []
for_each clauses (suc count) = for_each clauses count ++ clauses count

-- the pins aren't this number, or the output has the gate's value
abbrev pub row_clause : Kind → Lit → List Lit → ℕ → Clause
row_clause kind out pins number =
    let bits = bits_of (length pins) number in
    record { lits = have_not pins bits ++ has out (gate_value kind bits) ∷ [] }

-- for each number of the pins, the first the lowest digit
abbrev pub table_clauses : Kind → Lit → List Lit → List Clause
table_clauses kind out pins = for_each (λ number. row_clause kind out pins number ∷ []) (2 ^ length pins)

-- the selects aren't this number, or the datum is false or the output true; and the other way round
abbrev pub datum_clauses : Lit → List Lit → Lit → ℕ → List Clause
datum_clauses out selects datum number =
    let others = have_not selects (bits_of (length selects) number) in
    record { lits = others ++ negated datum ∷ out ∷ [] }
    ∷ record { lits = others ++ datum ∷ negated out ∷ [] } ∷ []

-- for each number of the selects
abbrev pub select_clauses : Lit → List Lit → List Lit → List Clause
select_clauses out selects data_pins =
    for_each (λ number. datum_clauses out selects (get_or data_pins number out) number) (length data_pins)

-- the literal that has the selected datum's value
abbrev pub selected_out : Kind → Lit → Lit
selected_out Nmux out = negated out
selected_out kind out = out

-- the clauses of a gate with these pins and this output: a multiplexer's by its selects, others' by all pins
abbrev pub gate_clauses : Kind → Lit → List Lit → List Clause
gate_clauses kind out pins =
    if (row_of kind).selects == 0 then table_clauses kind out pins
    else
    (let count = (row_of kind).data_pins in select_clauses (selected_out kind out) (drop count pins) (take count pins))

-- a literal of a variable from 1 to this one
abbrev pub IsWithin : ℕ → Lit → Type 0
IsWithin vars lit = (1 ≤ lit.var) × (lit.var ≤ vars)
