-- Memories of a netlist: which cells have a shape, and where the words of each stand, by its name.
use Rattle.std.proofs.Common.{◌≡◌, ◌∙◌, ℕ, zero, suc, ◌+◌, List, [], ◌∷◌, true, false, cond, Option, Some, None, ap, arith, find, filter_map, get_or, length, map, option_map, refl, subst, sym}
use Rattle.std.specs.Prelude.{IsTrue, bytes_eq, is_some, option_and_then, slice_get, unwrap_or}
use Rattle.std.specs.List.{AllByRecursion, IsDistinct, cons_option, zip}
use Rattle.std.proofs.lemmas.Slice.Eq.{bytes_eq-Decides}
use Rattle.cs_cells.specs.declared.class.Class.{Class}
use Rattle.cs_cells.specs.declared.class.Class.TheVariants.{Gate, Register, Memory, Scope, Asynchronous, NotFine, Unknown}
use Rattle.cs_cells.specs.declared.memory.MemShape.{MemShape}
use Rattle.cs_json.specs.declared.document.CellDecl.{CellDecl}
use Rattle.cs_json.specs.Readable.{AreInOrder, is_below}
use Rattle.cs_net.specs.declared.netlist.Cell.{Cell}
use Rattle.cs_net.specs.declared.state.MemoryWords.{MemoryWords}
use Rattle.cs_modules.specs.Memories.{shapes_in, shape_by, shape_of}
use Rattle.cs_net.specs.Build.{cell_of, net_of, places_from, words_by}
use Rattle.cs_modules.specs.Modules.{cells_of, is_memory}
use Rattle.cs_net.specs.Invariant.{AreAlike, AreMemoryPlaces, IsWellFormed, size_of}
use Rattle.cs_net.specs.Netlist.{Net, words_at}
use Rattle.cs_modules.specs.Pins.{class_at}
use Rattle.cs_net.proofs.CellNames.{below_differs, bytes_eq_flips, same_itself}
use Rattle.cs_net.proofs.CellOrder.{cells_in_order}
use Rattle.cs_net.proofs.Members.{of_all}

-- the names of the cells that have a shape, in order
abbrev pub memory_names : List Cell → List (Option MemShape) → List (List ℕ)
memory_names [] shapes = []
memory_names (cell ∷ cells) [] = []
memory_names (cell ∷ cells) (None ∷ shapes) = memory_names cells shapes
memory_names (cell ∷ cells) (Some shape ∷ shapes) = cell.name ∷ memory_names cells shapes

-- the name stands at a place and at none before
abbrev pub IsFirstAt : List ℕ → List (List ℕ) → ℕ → Type 0
IsFirstAt name [] j = ⊥
IsFirstAt name (other ∷ names) zero = other ≡ name
IsFirstAt name (other ∷ names) (suc j) = (bytes_eq other name ≡ false) × IsFirstAt name names j

-- none of the names is this one
abbrev pub IsNone : List ℕ → List (List ℕ) → Type 0
IsNone name names = AllByRecursion (λ other. bytes_eq other name ≡ false) names

-- ---- of a module's cells

-- words stand under the names of the cells that have a shape
words_named : (ds : List CellDecl) →
    map (λ (m : MemoryWords). m.name) (filter_map (λ d. words_by (class_at d) d) ds) ≡ memory_names (map cell_of ds) (map shape_of ds)
words_named [] = refl
words_named (d ∷ ds) = by (class_at d) (words_named ds)
  where
    by : (k : Class) → map (λ (m : MemoryWords). m.name) (filter_map (λ d. words_by (class_at d) d) ds) ≡ memory_names (map cell_of ds) (map shape_of ds) →
        map (λ (m : MemoryWords). m.name) (cons_option (words_by k d) (filter_map (λ d. words_by (class_at d) d) ds)) ≡ memory_names (cell_of d ∷ map cell_of ds) (shape_by k d ∷ map shape_of ds)
    by (Gate kind) rest = rest
    by (Register kind) rest = rest
    by Memory rest = ap (λ names. d.name ∷ names) rest
    by Scope rest = rest
    by Asynchronous rest = rest
    by NotFine rest = rest
    by Unknown rest = rest

-- a cell has a shape exactly where it is a memory
fits : (k : Class) (d : CellDecl) → is_some (shape_by k d) ≡ is_memory k
fits (Gate kind) d = refl
fits (Register kind) d = refl
fits Memory d = refl
fits Scope d = refl
fits Asynchronous d = refl
fits NotFine d = refl
fits Unknown d = refl

all_fit : (ds : List CellDecl) → AllByRecursion (λ (c : Cell × Option MemShape). is_some c.1 ≡ is_memory c.0.class) (zip (map cell_of ds) (map shape_of ds))
all_fit [] = tt
all_fit (d ∷ ds) = (fits (class_at d) d, all_fit ds)

one_for_each : (ds : List CellDecl) → length (map shape_of ds) ≡ length (map cell_of ds)
one_for_each [] = refl
one_for_each (d ∷ ds) = ap suc (one_for_each ds)

-- ---- places of names

-- the memory of a name is the j-th of those that are counted from n on
record IsPlaced (names : List (List ℕ)) (places : List ℕ) (n i : ℕ) (name : List ℕ) : Type 0 where
  j : ℕ
  place : get_or places i 0 ≡ n + j
  first : IsFirstAt name names j

placed : (cells : List Cell) (shapes : List (Option MemShape)) (n i : ℕ) (cell : Cell) (shape : MemShape) → AreInOrder (λ (c : Cell). c.name) cells →
    slice_get cells i ≡ Some cell → slice_get shapes i ≡ Some (Some shape) → IsPlaced (memory_names cells shapes) (places_from n shapes) n i cell.name
placed [] shapes n i cell shape order at is = absurd (cc)
placed (c ∷ cells) [] n i cell shape order at is = absurd (cc)
placed (c ∷ cells) (None ∷ shapes) n zero cell shape order at is = absurd (cc)
placed (c ∷ cells) (Some s ∷ shapes) n zero cell shape order at is =
    let same : c ≡ cell = cc in
    record { j = 0; place = omega arith; first = ap (λ (x : Cell). x.name) same }
placed (c ∷ cells) (None ∷ shapes) n (suc i) cell shape order at is =
    let rest = placed cells shapes n i cell shape order.1 at is in
    record { j = rest.j; place = rest.place; first = rest.first }
placed (c ∷ cells) (Some s ∷ shapes) n (suc i) cell shape order at is =
    let rest = placed cells shapes (n + 1) i cell shape order.1 at is in
    let next : n + 1 + rest.j ≡ n + suc rest.j = omega arith in
    let below = of_all (λ (x : Cell). IsTrue (is_below c.name x.name)) cells i cell order.0 at in
    record { j = suc rest.j; place = rest.place ∙ next; first = (below_differs c.name cell.name below, rest.first) }

-- names above this one are other names
none_above : (name : List ℕ) (cells : List Cell) (shapes : List (Option MemShape)) → AllByRecursion (λ (c : Cell). IsTrue (is_below name c.name)) cells →
    IsNone name (memory_names cells shapes)
none_above name [] shapes above = tt
none_above name (c ∷ cells) [] above = tt
none_above name (c ∷ cells) (None ∷ shapes) above = none_above name cells shapes above.1
none_above name (c ∷ cells) (Some s ∷ shapes) above =
    (bytes_eq_flips c.name name ∙ below_differs name c.name above.0, none_above name cells shapes above.1)

-- the shape of the cell of a name
abbrev shape_named : List ℕ → List (Cell × Option MemShape) → Option MemShape
shape_named name cells = option_and_then (λ c. c.1) (find (λ c. bytes_eq c.0.name name) cells)

none_named : (name : List ℕ) (cells : List Cell) (shapes : List (Option MemShape)) → AreInOrder (λ (c : Cell). c.name) cells →
    shape_named name (zip cells shapes) ≡ None → IsNone name (memory_names cells shapes)
none_named name [] shapes order none = tt
none_named name (c ∷ cells) [] order none = tt
none_named name (c ∷ cells) (None ∷ shapes) order none =
    elim (bytes_eq c.name name) as (λ t. bytes_eq c.name name ≡ t →
    option_and_then (λ (e : Cell × Option MemShape). e.1) (cond t (Some (c, None)) (find (λ e. bytes_eq e.0.name name) (zip cells shapes))) ≡ None →
    IsNone name (memory_names cells shapes)) [
      | true ↦ λ same is.
          subst (λ n. IsNone n (memory_names cells shapes)) ((bytes_eq-Decides c.name name).0 same) (none_above c.name cells shapes order.0)
      | false ↦ λ other is. none_named name cells shapes order.1 is
    ] refl none
none_named name (c ∷ cells) (Some s ∷ shapes) order none =
    elim (bytes_eq c.name name) as (λ t. bytes_eq c.name name ≡ t →
    option_and_then (λ (e : Cell × Option MemShape). e.1) (cond t (Some (c, Some s)) (find (λ e. bytes_eq e.0.name name) (zip cells shapes))) ≡ None →
    IsNone name (c.name ∷ memory_names cells shapes)) [
      | true ↦ λ same is. absurd (cc)
      | false ↦ λ other is. (other, none_named name cells shapes order.1 is)
    ] refl none

all_distinct : (cells : List Cell) (shapes : List (Option MemShape)) → AreInOrder (λ (c : Cell). c.name) cells → IsDistinct bytes_eq (memory_names cells shapes)
unfolding IsDistinct
all_distinct [] shapes order = tt
all_distinct (c ∷ cells) [] order = tt
all_distinct (c ∷ cells) (None ∷ shapes) order = all_distinct cells shapes order.1
all_distinct (c ∷ cells) (Some s ∷ shapes) order = (flipped (memory_names cells shapes) (none_above c.name cells shapes order.0), all_distinct cells shapes order.1)
  where
    flipped : (names : List (List ℕ)) → IsNone c.name names → AllByRecursion (λ other. bytes_eq c.name other ≡ false) names
    flipped [] none = tt
    flipped (name ∷ names) none = (bytes_eq_flips c.name name ∙ none.0, flipped names none.1)

count_names : (cells : List Cell) (shapes : List (Option MemShape)) → length shapes ≡ length cells → length (memory_names cells shapes) ≡ length (shapes_in shapes)
count_names [] [] same = refl
count_names [] (s ∷ shapes) same = absurd (omega (arith, same))
count_names (c ∷ cells) [] same = absurd (omega (arith, same))
count_names (c ∷ cells) (None ∷ shapes) same = count_names cells shapes (omega (arith, same))
count_names (c ∷ cells) (Some s ∷ shapes) same = ap suc (count_names cells shapes (omega (arith, same)))

-- ---- words by names

names_of : List MemoryWords → List (List ℕ)
names_of ms = map (λ m. m.name) ms

found_at : (name : List ℕ) (ms : List MemoryWords) (j : ℕ) → IsFirstAt name (names_of ms) j → find (λ m. bytes_eq m.name name) ms ≡ slice_get ms j
unfolding names_of
found_at name [] j first = absurd first
found_at name (m ∷ ms) zero first =
    ap (λ t. cond t (Some m) (find (λ n. bytes_eq n.name name) ms)) (ap (λ n. bytes_eq n name) first ∙ same_itself name)
found_at name (m ∷ ms) (suc j) first =
    ap (λ t. cond t (Some m) (find (λ n. bytes_eq n.name name) ms)) first.0 ∙ found_at name ms j first.1

stands_at : (name : List ℕ) (ms : List MemoryWords) (j : ℕ) → IsFirstAt name (names_of ms) j → option_map (λ (m : MemoryWords). m.name) (slice_get ms j) ≡ Some name
unfolding names_of
stands_at name [] j first = absurd first
stands_at name (m ∷ ms) zero first = ap Some first
stands_at name (m ∷ ms) (suc j) first = stands_at name ms j first.1

not_found : (name : List ℕ) (ms : List MemoryWords) → IsNone name (names_of ms) → find (λ m. bytes_eq m.name name) ms ≡ None
unfolding names_of
not_found name [] none = refl
not_found name (m ∷ ms) none = ap (λ t. cond t (Some m) (find (λ n. bytes_eq n.name name) ms)) none.0 ∙ not_found name ms none.1

-- the words of a name are those at its place
words_there : (name : List ℕ) (ms : List MemoryWords) (j : ℕ) → IsFirstAt name (names_of ms) j →
    option_map (λ (m : MemoryWords). m.words) (slice_get ms j) ≡ Some (words_at ms name)
words_there name ms j first = by (slice_get ms j) (found_at name ms j first) (stands_at name ms j first)
  where
    by : (at : Option MemoryWords) → find (λ (m : MemoryWords). bytes_eq m.name name) ms ≡ at → option_map (λ (m : MemoryWords). m.name) at ≡ Some name →
        option_map (λ (m : MemoryWords). m.words) at ≡ Some (words_at ms name)
    by None found named = absurd (cc)
    by (Some m) found named = ap (λ o. Some (unwrap_or (option_map (λ (n : MemoryWords). n.words) o) [])) (sym found)

-- memories that are alike have the same names
pub names_alike : (old new : List MemoryWords) → AreAlike old new → map (λ (m : MemoryWords). m.name) old ≡ map (λ (m : MemoryWords). m.name) new
names_alike old new same = firsts old ∙ ap (map (λ (size : List ℕ × List ℕ). size.0)) same ∙ sym (firsts new)
  where
    firsts : (ms : List MemoryWords) → map (λ (m : MemoryWords). m.name) ms ≡ map (λ (size : List ℕ × List ℕ). size.0) (map size_of ms)
    firsts [] = refl
    firsts (m ∷ ms) = ap (λ names. m.name ∷ names) (firsts ms)

-- ---- of a netlist

module _ (net : Net) (w : IsWellFormed net) where
  cells_order : AreInOrder (λ (c : Cell). c.name) net.cells
  cells_order = subst (λ (n : Net). AreInOrder (λ (c : Cell). c.name) n.cells) (sym w.is) (cells_in_order w.«module» w.readable.cells_order)

  names_are : names_of net.memories ≡ memory_names net.cells net.shapes
  unfolding net_of names_of
  names_are =
      sym (names_alike (net_of w.«module»).memories net.memories w.memories)
      ∙ subst (λ (n : Net). map (λ (m : MemoryWords). m.name) (net_of w.«module»).memories ≡ memory_names n.cells n.shapes) (sym w.is)
      (words_named (cells_of w.«module»))

  -- one entry for each cell
  pub shape_count : length net.shapes ≡ length net.cells
  unfolding net_of
  shape_count = subst (λ (n : Net). length n.shapes ≡ length n.cells) (sym w.is) (one_for_each (cells_of w.«module»))

  -- a shape exactly where the cell is a memory
  pub shapes_fit : AllByRecursion (λ (c : Cell × Option MemShape). is_some c.1 ≡ is_memory c.0.class) (zip net.cells net.shapes)
  unfolding net_of
  shapes_fit = subst (λ (n : Net). AllByRecursion (λ (c : Cell × Option MemShape). is_some c.1 ≡ is_memory c.0.class) (zip n.cells n.shapes)) (sym w.is) (all_fit (cells_of w.«module»))

  pub shape_fits : (i : ℕ) (cell : Cell) (shape : Option MemShape) → slice_get net.cells i ≡ Some cell → slice_get net.shapes i ≡ Some shape →
      is_some shape ≡ is_memory cell.class
  shape_fits i cell shape at is =
      of_all (λ (c : Cell × Option MemShape). is_some c.1 ≡ is_memory c.0.class) (zip net.cells net.shapes) i (cell, shape) shapes_fit
      (zipped net.cells net.shapes i at is)
    where
      zipped : (cells : List Cell) (shapes : List (Option MemShape)) (i : ℕ) → slice_get cells i ≡ Some cell → slice_get shapes i ≡ Some shape →
          slice_get (zip cells shapes) i ≡ Some (cell, shape)
      zipped [] shapes i at is = absurd (cc)
      zipped (c ∷ cells) [] i at is = absurd (cc)
      zipped (c ∷ cells) (s ∷ shapes) zero at is = let same : c ≡ cell = cc in let fit : s ≡ shape = cc in cc
      zipped (c ∷ cells) (s ∷ shapes) (suc i) at is = zipped cells shapes i at is

  -- as many memories as shapes
  pub memory_count : length net.memories ≡ length (shapes_in net.shapes)
  unfolding names_of
  memory_count = sym (length-map-names net.memories) ∙ ap length names_are ∙ count_names net.cells net.shapes shape_count
    where
      length-map-names : (ms : List MemoryWords) → length (map (λ (m : MemoryWords). m.name) ms) ≡ length ms
      length-map-names [] = refl
      length-map-names (m ∷ ms) = ap suc (length-map-names ms)

  -- no two of them have one name
  pub memory_names_distinct : IsDistinct bytes_eq (map (λ (m : MemoryWords). m.name) net.memories)
  unfolding names_of
  memory_names_distinct = subst (IsDistinct bytes_eq) (sym names_are) (all_distinct net.cells net.shapes cells_order)

  -- words under the names of the netlist's memories, as those of each of its states
  module _ (ms : List MemoryWords) (named : map (λ (m : MemoryWords). m.name) ms ≡ map (λ (m : MemoryWords). m.name) net.memories) where
    names_too : names_of ms ≡ memory_names net.cells net.shapes
    unfolding names_of
    names_too = named ∙ names_are

    module _ (i : ℕ) (cell : Cell) (shape : MemShape) (at : slice_get net.cells i ≡ Some cell) (is : slice_get net.shapes i ≡ Some (Some shape)) where
      first_place : IsFirstAt cell.name (names_of ms) (get_or (places_from 0 net.shapes) i 0)
      first_place =
          let found = placed net.cells net.shapes 0 i cell shape cells_order at is in
          let place : found.j ≡ get_or (places_from 0 net.shapes) i 0 = omega (arith, found.place) in
          subst (λ names. IsFirstAt cell.name names (get_or (places_from 0 net.shapes) i 0)) (sym names_too)
          (subst (IsFirstAt cell.name (memory_names net.cells net.shapes)) place found.first)

      -- cell i's stand where its place is counted
      pub named_there : option_map (λ (m : MemoryWords). m.name) (slice_get ms (get_or (places_from 0 net.shapes) i 0)) ≡ Some cell.name
      named_there = stands_at cell.name ms (get_or (places_from 0 net.shapes) i 0) first_place

      -- and are found there by its name
      pub words_by_place : option_map (λ (m : MemoryWords). m.words) (slice_get ms (get_or (places_from 0 net.shapes) i 0)) ≡ Some (words_at ms cell.name)
      words_by_place = words_there cell.name ms (get_or (places_from 0 net.shapes) i 0) first_place

    -- a name of no memory has none
    pub no_words : (name : List ℕ) → option_and_then (λ (c : Cell × Option MemShape). c.1) (find (λ c. bytes_eq c.0.name name) (zip net.cells net.shapes)) ≡ None →
        words_at ms name ≡ []
    no_words name none =
        ap (λ o. unwrap_or (option_map (λ (m : MemoryWords). m.words) o) [])
        (not_found name ms (subst (IsNone name) (sym names_too) (none_named name net.cells net.shapes cells_order none)))

  -- cell i's words stand where its place is counted
  pub memory_name : (i : ℕ) (cell : Cell) (shape : MemShape) → slice_get net.cells i ≡ Some cell → slice_get net.shapes i ≡ Some (Some shape) →
      option_map (λ (m : MemoryWords). m.name) (slice_get net.memories (get_or (places_from 0 net.shapes) i 0)) ≡ Some cell.name
  memory_name i cell shape at is = named_there net.memories refl i cell shape at is

  -- the places that are counted are those of the netlist's memories
  pub are_places : AreMemoryPlaces net (places_from 0 net.shapes)
  are_places i cell shape at is = words_by_place net.memories refl i cell shape at is
