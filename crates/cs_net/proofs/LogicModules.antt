-- Modules of gates and registers: which conditions they can't meet.
use Rattle.std.proofs.Common.{◌≡◌, List, [], ◌∷◌, map, Bool, true, false, None, refl, sym, ap, ◌∙◌}
use Rattle.std.specs.Prelude.{find, option_map}
use Rattle.std.specs.List.{AllByRecursion}
use Rattle.std.proofs.lemmas.List.{length-map}
use Rattle.cs_json.specs.declared.document.Module.{Module}
use Rattle.cs_json.specs.declared.document.CellDecl.{CellDecl}
use Rattle.cs_cells.specs.declared.class.Class.{Class}
use Rattle.cs_cells.specs.declared.class.Class.TheVariants.{Gate, Register, Memory, Scope, Asynchronous, NotFine, Unknown}
use Rattle.cs_modules.specs.Memories.{shape_of}
use Rattle.cs_net.specs.Build.{net_of, cell_of}
use Rattle.cs_modules.specs.Pins.{class_at}
use Rattle.cs_conditions.specs.Conditions.{is_unknown, is_not_fine, is_asynchronous, unknown_cell, not_fine, asynchronous, is_misformed, memory_form}
use Rattle.cs_modules.specs.Modules.{cells_of, cells_in, is_scope, is_memory}
use Rattle.cs_net.proofs.PlainNets.{is_logic, IsLogicNet, AreLogic}

-- a cell that is a gate or a register
abbrev pub IsLogicCell : CellDecl → Type 0
IsLogicCell cell = is_logic (class_at cell) ≡ true

no_scope : (k : Class) → is_logic k ≡ true → is_scope k ≡ false
no_scope (Gate kind) h = refl
no_scope (Register kind) h = refl
no_scope Memory h = absurd (cc)
no_scope Scope h = absurd (cc)
no_scope Asynchronous h = absurd (cc)
no_scope NotFine h = absurd (cc)
no_scope Unknown h = absurd (cc)

known : (k : Class) → is_logic k ≡ true → is_unknown k ≡ false
known (Gate kind) h = refl
known (Register kind) h = refl
known Memory h = absurd (cc)
known Scope h = absurd (cc)
known Asynchronous h = absurd (cc)
known NotFine h = absurd (cc)
known Unknown h = absurd (cc)

fine : (k : Class) → is_logic k ≡ true → is_not_fine k ≡ false
fine (Gate kind) h = refl
fine (Register kind) h = refl
fine Memory h = absurd (cc)
fine Scope h = absurd (cc)
fine Asynchronous h = absurd (cc)
fine NotFine h = absurd (cc)
fine Unknown h = absurd (cc)

synchronous : (k : Class) → is_logic k ≡ true → is_asynchronous k ≡ false
synchronous (Gate kind) h = refl
synchronous (Register kind) h = refl
synchronous Memory h = absurd (cc)
synchronous Scope h = absurd (cc)
synchronous Asynchronous h = absurd (cc)
synchronous NotFine h = absurd (cc)
synchronous Unknown h = absurd (cc)

no_memory : (k : Class) → is_logic k ≡ true → is_memory k ≡ false
no_memory (Gate kind) h = refl
no_memory (Register kind) h = refl
no_memory Memory h = absurd (cc)
no_memory Scope h = absurd (cc)
no_memory Asynchronous h = absurd (cc)
no_memory NotFine h = absurd (cc)
no_memory Unknown h = absurd (cc)

pub all_count : (cells : List CellDecl) → AllByRecursion IsLogicCell cells → cells_in cells ≡ cells
all_count [] logic = refl
all_count (cell ∷ cells) logic = rw (no_scope (class_at cell) logic.0) (ap (λ rest. cell ∷ rest) (all_count cells logic.1))

no_cell : (test : CellDecl → Bool) (cells : List CellDecl) → ((cell : CellDecl) → IsLogicCell cell → test cell ≡ false) → AllByRecursion IsLogicCell cells → find test cells ≡ None
no_cell test [] fails logic = refl
no_cell test (cell ∷ cells) fails logic = rw (fails cell logic.0) (no_cell test cells fails logic.1)

module _ (m : Module) (logic : AllByRecursion IsLogicCell (cells_of m)) where
  none_of : (test : CellDecl → Bool) → ((cell : CellDecl) → IsLogicCell cell → test cell ≡ false) → find test (cells_of m) ≡ None
  none_of test fails = no_cell test (cells_of m) fails logic

  pub no_unknown : unknown_cell m ≡ None
  no_unknown = ap (option_map _) (none_of (λ cell. is_unknown (class_at cell)) (λ cell k. known (class_at cell) k))

  pub none_coarse : not_fine m ≡ None
  none_coarse = ap (option_map _) (none_of (λ cell. is_not_fine (class_at cell)) (λ cell k. fine (class_at cell) k))

  pub no_asynchronous : asynchronous m ≡ None
  no_asynchronous = ap (option_map _) (none_of (λ cell. is_asynchronous (class_at cell)) (λ cell k. synchronous (class_at cell) k))

  pub no_misformed : memory_form m ≡ None
  no_misformed = rw (none_of (is_misformed m) (λ cell k. rw (no_memory (class_at cell) k) refl)) refl

  all_logic : (cells : List CellDecl) → AllByRecursion IsLogicCell cells → AreLogic (map cell_of cells)
  all_logic [] h = tt
  all_logic (cell ∷ cells) h = (h.0, all_logic cells h.1)

  pub is_logic_net : IsLogicNet (net_of m)
  unfolding net_of
  is_logic_net = record {
    shapes = length-map (cells_of m) shape_of ∙ sym (length-map (cells_of m) cell_of);
    logic = all_logic (cells_of m) logic;
  }
