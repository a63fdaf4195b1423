-- The memories of the netlist of a circuit's module: their words at the start, and their writes.
use Rattle.std.proofs.Common.{◌≡◌, ℕ, zero, suc, List, [], ◌∷◌, map, true, Option, Some, None, bytes_eq, filter_map, option_map, unwrap_or, zip, slice_get, refl, sym, ap, subst, ◌∙◌}
use Rattle.std.specs.List.{cons_option}
use Rattle.std.proofs.lemmas.Slice.Eq.{bytes_eq-Decides}
use Rattle.cs_json.specs.declared.document.CellDecl.{CellDecl}
use Rattle.cs_json.specs.declared.document.Module.{Module}
use Rattle.cs_json.specs.declared.document.NetDecl.{NetDecl}
use Rattle.cs_cells.specs.declared.class.Class.{Class}
use Rattle.cs_cells.specs.declared.class.Class.TheVariants.{Gate, Register, Memory, Scope, Asynchronous, NotFine, Unknown}
use Rattle.cs_cells.specs.declared.memory.MemShape.{MemShape}
use Rattle.cs_modules.specs.Modules.{cells_of}
use Rattle.cs_modules.specs.Pins.{class_at}
use Rattle.cs_net.specs.declared.netlist.Cell.{Cell}
use Rattle.cs_net.specs.declared.state.MemoryWords.{MemoryWords}
use Rattle.cs_net.specs.Build.{net_of, words_by}
use Rattle.cs_net.specs.Netlist.{Net}
use Rattle.cs_net.specs.Trace.{Valuation, writes_at, writes_of}
use Rattle.cs_net.proofs.CellNames.{same_itself}
use Rattle.cs_net.proofs.Members.{Has, has_in_map, has_of_choice, has_of_map}
use Rattle.cs_circuit.specs.declared.circuit.Circuit.{Circuit}
use Rattle.cs_circuit.specs.declared.circuit.MemoryPart.{MemoryPart}
use Rattle.cs_circuit.specs.Documents.{circuit_cells, circuit_module}
use Rattle.cs_circuit.specs.MemoryCells.{memory_cell, memory_name}
use Rattle.cs_circuit.specs.Order.{IsInNameOrder}
use Rattle.cs_circuit.specs.ReadBack.{memory_words, start_of, write_by}
use Rattle.cs_circuit.specs.WellFormed.{IsCircuit, IsMemoryPart}
use Rattle.cs_circuit.proofs.NetBits.{part_of}
use Rattle.cs_circuit.proofs.NetLists.{found_image, one_of_name}
use Rattle.cs_circuit.proofs.NetMemoryState.{words_of_memory_cell, writes_of_memory_cell}
use Rattle.cs_circuit.proofs.NetModules.{cells_of_made, has_cell, has_memory_cell, memory_fits, parts_of_made}

-- what a choice makes of an element stands in what it keeps
has_in_choice : {A B : Type 0} (f : A → Option B) (xs : List A) (x : A) (y : B) → Has xs x → f x ≡ Some y
    → Has (filter_map f xs) y
has_in_choice f [] x y (i, stands) is = cc
has_in_choice f (z ∷ xs) x y (zero, stands) is =
    let same : z ≡ x = cc in
    let here : f z ≡ Some y = ap f same ∙ is in
    subst (λ o. Has (cons_option o (filter_map f xs)) y) (sym here) (zero, refl)
has_in_choice {A = A} {B = B} f (z ∷ xs) x y (suc i, stands) is =
    behind (f z) (has_in_choice f xs x y (i, stands) is)
  where
    behind : (o : Option B) → Has (filter_map f xs) y → Has (cons_option o (filter_map f xs)) y
    behind None has = has
    behind (Some b) has = (suc has.0, has.1)

-- the words of a cell have its name
name_of_words : (cell : CellDecl) (c : Class) (w : MemoryWords) → words_by c cell ≡ Some w
    → w.name ≡ cell.name
name_of_words cell (Gate kind) w is = cc
name_of_words cell (Register kind) w is = cc
name_of_words cell Memory w is =
    sym (ap (λ (o : Option MemoryWords). unwrap_or (option_map (λ (w : MemoryWords). w.name) o) []) is)
name_of_words cell Scope w is = cc
name_of_words cell Asynchronous w is = cc
name_of_words cell NotFine w is = cc
name_of_words cell Unknown w is = cc

module _ (k : Circuit) (is : IsCircuit k) (cells : List CellDecl) (nets : List NetDecl)
    (ordered : IsInNameOrder (λ (c : CellDecl). c.name) (circuit_cells k) cells)
    (i : ℕ) (m : MemoryPart) (stands : slice_get k.memories i ≡ Some m) where
  abbrev made : Module
  made = circuit_module k cells nets

  abbrev net : Net
  net = net_of made

  abbrev own : CellDecl
  own = memory_cell k.clock i m

  fits : IsMemoryPart k.clock m
  fits = memory_fits k is cells nets ordered i m stands

  own_cell : Has cells own
  own_cell = has_cell k is cells nets ordered own (has_memory_cell k i m stands)

  -- it is the only cell of its name
  only_cell : (cell : CellDecl) → Has cells cell → cell.name ≡ memory_name i → cell ≡ own
  only_cell cell has same =
      one_of_name (λ (c : CellDecl). c.name) cells cell own ordered.order has own_cell same

  -- ---- words

  abbrev words_of : CellDecl → Option MemoryWords
  words_of cell = words_by (class_at cell) cell

  abbrev own_words : MemoryWords
  own_words = record { name = memory_name i; words = memory_words m }

  own_words_is : words_of own ≡ Some own_words
  own_words_is = words_of_memory_cell k.clock i m fits

  has_own_words : Has (filter_map words_of (cells_of made)) own_words
  has_own_words =
      subst (λ cs. Has (filter_map words_of cs) own_words) (sym (cells_of_made k is cells nets ordered))
      (has_in_choice words_of cells own own_words own_cell own_words_is)

  only_words : (w : MemoryWords) → Has (filter_map words_of (cells_of made)) w
      → bytes_eq w.name (memory_name i) ≡ true
      → w.words ≡ memory_words m
  only_words w has passes =
      let there = subst (λ cs. Has (filter_map words_of cs) w) (cells_of_made k is cells nets ordered) has in
      let from = has_of_choice words_of cells w there in
      let named : w.name ≡ memory_name i = (bytes_eq-Decides w.name (memory_name i)).0 passes in
      let cell_named : from.0.name ≡ memory_name i =
      sym (name_of_words from.0 (class_at from.0) w from.2) ∙ named in
      let same = only_cell from.0 from.1 cell_named in
      let both : Some w ≡ Some own_words = sym from.2 ∙ ap words_of same ∙ own_words_is in
      let words : w ≡ own_words = cc in
      ap (λ (v : MemoryWords). v.words) words

  pub words_are : (start_of net).words (memory_name i) ≡ memory_words m
  unfolding net_of
  words_are =
      ap (λ o. unwrap_or o [])
      (found_image (λ (w : MemoryWords). w.words) (λ (w : MemoryWords). bytes_eq w.name (memory_name i))
      (filter_map words_of (cells_of made)) own_words has_own_words (same_itself (memory_name i)) only_words)

  -- ---- writes

  abbrev parts : List (Cell × Option MemShape)
  parts = zip net.cells net.shapes

  has_own_part : Has parts (part_of own)
  has_own_part =
      subst (λ cs. Has cs (part_of own)) (sym (parts_of_made k is cells nets ordered))
      (has_in_map part_of cells own own_cell)

  pub writes_are : (v : Valuation) → writes_at net (memory_name i) v ≡ map (write_by v) m.writes
  writes_are v =
      ap (λ o. unwrap_or o [])
      (found_image (λ c. writes_of c v) (λ (c : Cell × Option MemShape). bytes_eq c.0.name (memory_name i))
      parts (part_of own) has_own_part (same_itself (memory_name i)) only)
      ∙ writes_of_memory_cell k.clock i m fits v
    where
      only : (c : Cell × Option MemShape) → Has parts c → bytes_eq c.0.name (memory_name i) ≡ true
          → writes_of c v ≡ writes_of (part_of own) v
      only c has passes =
          let there = subst (λ cs. Has cs c) (parts_of_made k is cells nets ordered) has in
          let cell = has_of_map part_of cells c there in
          let named : c.0.name ≡ memory_name i = (bytes_eq-Decides c.0.name (memory_name i)).0 passes in
          let cell_named : cell.0.name ≡ memory_name i =
          sym (ap (λ (p : Cell × Option MemShape). p.0.name) cell.2) ∙ named in
          ap (λ c. writes_of c v) (cell.2 ∙ ap part_of (only_cell cell.0 cell.1 cell_named))
