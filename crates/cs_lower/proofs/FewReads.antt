-- A netlist has few shapes, and each memory few read ports.
use Rattle.std.proofs.Common.{◌≡◌, ℕ, ◌<◌, ◌≤◌, ◌^◌, ◌-◌, inl, inr, Bool, true, false, cond, List, [], ◌∷◌, length, map, min, nat_lt, Option, Some, None, codes, refl, sym, ap, subst, ◌∙◌, arith}
use Rattle.std.specs.List.{AllByRecursion, list_all}
use Rattle.std.proofs.lemmas.Bool.{cases_lt, lt-ltb, ltb-true}
use Rattle.cs_base.specs.declared.limit.Counted.TheVariants.{Cells}
use Rattle.cs_base.specs.declared.limit.LimitFault.{LimitFault}
use Rattle.cs_cells.specs.declared.class.Class.{Class}
use Rattle.cs_cells.specs.declared.class.Class.TheVariants.{Gate, Register, Memory, Scope, Asynchronous, NotFine, Unknown}
use Rattle.cs_cells.specs.declared.memory.MemShape.{MemShape}
use Rattle.cs_conditions.specs.Conditions.{or_else}
use Rattle.cs_json.specs.declared.document.CellDecl.{CellDecl}
use Rattle.cs_modules.specs.Memories.{memory_shape, read_shape, shape_by, shape_of}
use Rattle.cs_modules.specs.Modules.{cells_of}
use Rattle.cs_modules.specs.Pins.{class_at, count_from, has_pins, has_right_pins, has_sizes, is_size, memory_sizes, number_at, widths_of}
use Rattle.cs_modules.proofs.GatePins.{all_pass, both}
use Rattle.cs_net.specs.Accept.{above_limit, limit_fault, memory_fault_of}
use Rattle.cs_net.specs.Build.{net_of}
use Rattle.cs_net.specs.Invariant.{IsWellFormed}
use Rattle.cs_net.specs.Netlist.{Net}
use Rattle.cs_net.proofs.MemoryFacts.{shape_count}
use Rattle.cs_net.proofs.PinLemmas.{right_pins}
use Rattle.cs_net.proofs.PinWidths.{length-count_from, length-map-count}
use Rattle.cs_lower.specs.Cells.{HasFewReads}

-- ---- reads

few_of_memory : (d : CellDecl) → list_all (is_size d) memory_sizes ≡ true → HasFewReads (Some (memory_shape d))
few_of_memory d sizes s is =
    let count = number_at d (codes "RD_PORTS") in
    let parts = all_pass (is_size d) memory_sizes sizes in
    let small : nat_lt count (2 ^ 32) ≡ true = (both _ (nat_lt count (2 ^ 32)) parts.1.1.1.0).1 in
    let many : length (memory_shape d).reads ≡ count =
    length-map-count (read_shape d (number_at d (codes "WIDTH"))) (count_from 0 count) ∙ length-count_from 0 count in
    let below : count < 2 ^ 32 = ltb-true count (2 ^ 32) small in
    let same : memory_shape d ≡ s = cc in
    subst (λ (x : MemShape). length x.reads < 2 ^ 32) same (subst (λ n. n < 2 ^ 32) (sym many) below)

few_of_class : (d : CellDecl) (k : Class) → has_sizes k d ≡ true → HasFewReads (shape_by k d)
few_of_class d (Gate kind) sizes s is = absurd (cc)
few_of_class d (Register kind) sizes s is = absurd (cc)
few_of_class d Memory sizes s is = few_of_memory d sizes s is
few_of_class d Scope sizes s is = absurd (cc)
few_of_class d Asynchronous sizes s is = absurd (cc)
few_of_class d NotFine sizes s is = absurd (cc)
few_of_class d Unknown sizes s is = absurd (cc)

few_of_cells : (ds : List CellDecl) → AllByRecursion (λ d. has_right_pins d ≡ true) ds → AllByRecursion HasFewReads (map shape_of ds)
few_of_cells [] right = tt
few_of_cells (d ∷ ds) right = (
  few_of_class d (class_at d) (both (has_sizes (class_at d) d) (has_pins (widths_of (class_at d) d) d.pins) right.0).0,
  few_of_cells ds right.1,
)

pub few_reads : (net : Net) → IsWellFormed net → AllByRecursion HasFewReads net.shapes
unfolding net_of
few_reads net w =
    subst (λ (n : Net). AllByRecursion HasFewReads n.shapes) (sym w.is)
    (few_of_cells (cells_of w.«module») (right_pins w.«module» w.early))

-- ---- shapes

few_cells : (cells : ℕ) (rest : Option LimitFault) → or_else (above_limit Cells cells 65536) rest ≡ None → cells ≤ 65536
few_cells cells rest none = by (nat_lt 65536 cells) refl
  where
    by : (t : Bool) → nat_lt 65536 cells ≡ t → cells ≤ 65536
    by true many =
        let some = sym (ap (λ t. or_else (cond t (Some (record { what = Cells; found = min cells (2 ^ 64 - 1); most = 65536 })) None) rest) many) ∙ none in
        absurd (cc)
    by false few = elim (cases_lt 65536 cells) [
      | inl many ↦ let yes = lt-ltb 65536 cells many in absurd (cc)
      | inr below ↦ below
    ]

pub few_shapes : (net : Net) → IsWellFormed net → length net.shapes ≤ 65536
unfolding limit_fault
few_shapes net w =
    let count = shape_count net w in
    let few = few_cells (length net.cells) (memory_fault_of net.shapes) w.within in
    omega (arith, count, few)
