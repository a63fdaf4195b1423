-- What clocks a cell, and what it reads beside, is connected to its pins.
use Rattle.std.proofs.Common.{◌≡◌, ◌∙◌, ℕ, zero, suc, ◌+◌, ◌<◌, List, [], ◌∷◌, ◌++◌, Bool, true, false, ◌&&◌, cond, eqb-true, Option, Some, None, ap, ap₂, arith, codes, filter_map, find, get_or, length, map, not, option_map, refl, subst, sym}
use Rattle.std.specs.Prelude.{◌==◌, bytes_eq, if◌then◌else◌, slice_get, unwrap_or}
use Rattle.std.specs.List.{AllByRecursion, cons_option, enumerate_from, flat_map, list_all}
use Rattle.std.proofs.lemmas.Slice.Eq.{bytes_eq-Decides}
use Rattle.cs_base.specs.declared.signal.Signal.{Signal}
use Rattle.cs_base.specs.declared.signal.Signal.TheVariants.{Zero}
use Rattle.cs_cells.specs.declared.class.Class.{Class}
use Rattle.cs_cells.specs.declared.class.Class.TheVariants.{Gate, Register, Memory, Scope, Asynchronous, NotFine, Unknown}
use Rattle.cs_cells.specs.declared.gate.Kind.{Kind}
use Rattle.cs_cells.specs.declared.memory.ReadShape.{ReadShape}
use Rattle.cs_cells.specs.declared.register.FfKind.{FfKind}
use Rattle.cs_cells.specs.Gates.{pin_count, pin_name}
use Rattle.cs_json.specs.declared.document.CellDecl.{CellDecl}
use Rattle.cs_json.specs.declared.document.PinDecl.{PinDecl}
use Rattle.cs_modules.specs.declared.connection.Role.{Role}
use Rattle.cs_modules.specs.declared.connection.Role.TheVariants as roles
use Rattle.cs_modules.specs.Memories.{memory_shape, read_shape, shape_by}
use Rattle.cs_modules.specs.Modules.{edge_of, is_data_input}
use Rattle.cs_modules.specs.Pins.{Connection, cell_connections, class_at, count_from, gate_role, has_pin, has_pins, has_right_pins, has_sizes, is_clocked, is_for_clocked_reads, is_pin_of, is_rising, number_at, pin_bits, pin_connections, read_clock_role, role_of, width_at, widths_of, write_clock_role}
use Rattle.cs_modules.proofs.GatePins.{all_pass, both, inputs_are_not_y}
use Rattle.cs_net.specs.Build.{cell_of}
use Rattle.cs_net.specs.Clocks.{clocks_by, data_by, memory_clocks, of_clocked_reads}
use Rattle.cs_net.specs.Drivers.{bits_of, signal_of}
use Rattle.cs_net.specs.Widths.{widths_by}
use Rattle.cs_net.proofs.MemoryPlaces.{at_map, map_at}
use Rattle.cs_net.proofs.Members.{Has, append_all, has_in_map, has_left, has_of_chain, has_of_choice, has_of_map, has_right, numbered, of_all, within_has}
use Rattle.cs_net.proofs.PinLemmas.{same_bits}
use Rattle.cs_net.proofs.PinWidths.{wide_decl}

-- ---- lists

-- what holds of each element holds of all
all_of_each : {A : Type 0} (P : A → Type 0) (xs : List A) → ((i : ℕ) (x : A) → slice_get xs i ≡ Some x → P x)
    → AllByRecursion P xs
all_of_each P [] each = tt
all_of_each P (x ∷ xs) each = (each 0 x refl, all_of_each P xs (λ i. each (suc i)))

get_of_all : {A : Type 0} (P : A → Type 0) (xs : List A) (i : ℕ) (d : A) → AllByRecursion P xs → P d → P (get_or xs i d)
get_of_all P [] i d all other = other
get_of_all P (x ∷ xs) zero d all other = all.0
get_of_all P (x ∷ xs) (suc i) d all other = get_of_all P xs i d all.1 other

got : {A : Type 0} (xs : List A) (i : ℕ) (x d : A) → slice_get xs i ≡ Some x → get_or xs i d ≡ x
got [] i x d at = absurd (cc)
got (y ∷ xs) zero x d at = cc
got (y ∷ xs) (suc i) x d at = got xs i x d at

within : {A : Type 0} (xs : List A) (i : ℕ) (x : A) → slice_get xs i ≡ Some x → i < length xs
within [] i x at = absurd (cc)
within (y ∷ xs) zero x at = omega arith
within (y ∷ xs) (suc i) x at = let below = within xs i x at in omega arith

enumerated : {A : Type 0} (n : ℕ) (xs : List A) (i : ℕ) (x : A) → slice_get xs i ≡ Some x
    → Has (enumerate_from n xs) (n + i, x)
enumerated n [] i x at = absurd (cc)
enumerated n (y ∷ xs) zero x at =
    let first : n ≡ n + 0 = omega arith in
    let same : y ≡ x = cc in
    (0, ap₂ (λ k z. Some (k, z)) first same)
enumerated {A = A} n (y ∷ xs) (suc i) x at =
    let rest = enumerated (n + 1) xs i x at in
    let place : n + 1 + i ≡ n + suc i = omega arith in
    (suc rest.0, rest.1 ∙ ap (λ k. Some (k, x)) place)

counted : (from count i n : ℕ) → slice_get (count_from from count) i ≡ Some n → (n ≡ from + i) × (i < count)
counted from zero i n at = absurd (cc)
counted from (suc count) zero n at = let same : from ≡ n = cc in (omega arith, omega arith)
counted from (suc count) (suc i) n at = let rest = counted (from + 1) count i n at in (omega (arith, rest.0), omega (arith, rest.1))

-- what a choice makes of an element stands in the list
pub has_in_choice : {A B : Type 0} (f : A → Option B) (xs : List A) (x : A) (y : B) → f x ≡ Some y → Has xs x
    → Has (filter_map f xs) y
has_in_choice f [] x y is (i, stands) = cc
has_in_choice f (z ∷ xs) x y is (zero, stands) =
    let here : z ≡ x = cc in
    let made : f z ≡ Some y = ap f here ∙ is in
    subst (λ o. Has (cons_option o (filter_map f xs)) y) (sym made) (0, refl)
has_in_choice {A = A} {B = B} f (z ∷ xs) x y is (suc i, stands) = later (f z) (has_in_choice f xs x y is (i, stands))
  where
    later : (o : Option B) → Has (filter_map f xs) y → Has (cons_option o (filter_map f xs)) y
    later None has = has
    later (Some b) has = (suc has.0, has.1)

-- a number that is counted stands at its place
pub counts : (from count i : ℕ) → i < count → slice_get (count_from from count) i ≡ Some (from + i)
counts from zero i below = absurd (omega arith)
counts from (suc count) zero below = let none : from ≡ from + 0 = omega arith in ap (λ n. Some n) none
counts from (suc count) (suc i) below =
    let next : from + 1 + i ≡ from + suc i = omega arith in
    counts (from + 1) count i (omega arith) ∙ ap (λ n. Some n) next

-- a list in which something stands is not empty
not_empty : {A : Type 0} (xs : List A) (x : A) → Has xs x → xs ≡ [] → ⊥
not_empty xs x (i, at) none = let never = sym (ap (λ ys. slice_get ys i) none) ∙ at in absurd (cc)

-- ---- a cell

-- what the bit at place i of a pin is connected to
abbrev connection : CellDecl → List ℕ → ℕ → Signal → Connection
connection d name i s = record { cell = d.name; signal = s; role = role_of (class_at d) d name i }

connected : (d : CellDecl) (name : List ℕ) (i : ℕ) (s : Signal) → slice_get (bits_of (cell_of d) name) i ≡ Some s
    → Has (cell_connections d) (connection d name i s)
connected d name i s at = among d.pins (sym (ap (λ bits. slice_get bits i) (same_bits d name)) ∙ at)
  where
    here : (p : PinDecl) → p.name ≡ name → slice_get p.bits i ≡ Some s → Has (pin_connections d p) (connection d name i s)
    here p named is =
        let none : 0 + i ≡ i = omega arith in
        subst (Has (pin_connections d p)) (ap₂ (λ n k. connection d n k s) named none)
        (has_in_map (λ (e : ℕ × Signal). connection d p.name e.0 e.1) (enumerate_from 0 p.bits) (0 + i, s) (enumerated 0 p.bits i s is))

    among : (pins : List PinDecl) → slice_get (pin_bits pins name) i ≡ Some s
        → Has (flat_map (pin_connections d) pins) (connection d name i s)
    among [] is = absurd (cc)
    among (p ∷ pins) is =
        elim (bytes_eq p.name name) as (λ t. bytes_eq p.name name ≡ t →
        slice_get (unwrap_or (option_map (λ (q : PinDecl). q.bits) (cond t (Some p) (find (λ q. bytes_eq q.name name) pins))) []) i ≡ Some s →
        Has (pin_connections d p ++ flat_map (pin_connections d) pins) (connection d name i s)) [
          | true ↦ λ same h. has_left (pin_connections d p) (flat_map (pin_connections d) pins) _ (here p ((bytes_eq-Decides p.name name).0 same) h)
          | false ↦ λ other h. has_right (pin_connections d p) (flat_map (pin_connections d) pins) _ (among pins h)
        ] refl is

-- the bits of clocked read ports at a pin
reads_each : (d : CellDecl) (P : Signal → Type 0) (name : List ℕ) → length (bits_of (cell_of d) name) ≡ length (memory_shape d).reads
    → ((i : ℕ) (s : Signal) → is_clocked d (codes "RD") i ≡ true → slice_get (bits_of (cell_of d) name) i ≡ Some s → P s)
    → AllByRecursion P (of_clocked_reads name (cell_of d) (memory_shape d))
reads_each d P name wide each =
    all_of_each P (of_clocked_reads name (cell_of d) (memory_shape d)) (λ j s at. of_port s (has_of_choice port reads s (j, at)))
  where
    bits : List Signal
    bits = bits_of (cell_of d) name

    width : ℕ
    width = number_at d (codes "WIDTH")

    reads : List (ℕ × ReadShape)
    reads = enumerate_from 0 (memory_shape d).reads

    port : ℕ × ReadShape → Option Signal
    port e = if e.1.clocked then Some (get_or bits e.0 Zero) else None

    has_bit : (s : Signal) (i : ℕ) → i < length bits → is_clocked d (codes "RD") i ≡ true → Some (get_or bits i Zero) ≡ Some s → P s
    has_bit s i below clocked is =
        let found = within_has bits i below in
        let same : get_or bits i Zero ≡ s = cc in
        subst P (sym (got bits i found.0 Zero found.1) ∙ same) (each i found.0 clocked found.1)

    of_port : (s : Signal) → (e : ℕ × ReadShape) × Has reads e × (port e ≡ Some s) → P s
    of_port s (e, has, is) =
        let placed = numbered 0 (memory_shape d).reads e has in
        let i = placed.0 in
        let read = map_at (read_shape d width) (count_from 0 (number_at d (codes "RD_PORTS"))) i e.1 placed.2 in
        let place = counted 0 (number_at d (codes "RD_PORTS")) i read.0 read.1 in
        let same : read.0 ≡ e.0 = place.0 ∙ sym placed.1 in
        let clocked : is_clocked d (codes "RD") e.0 ≡ e.1.clocked =
        ap (is_clocked d (codes "RD")) (sym same) ∙ ap (λ (r : ReadShape). r.clocked) read.2 in
        let below = within (memory_shape d).reads i e.1 placed.2 in
        by e.1.clocked (omega (arith, placed.1, wide, below)) clocked is
      where
        by : (t : Bool) → e.0 < length bits → is_clocked d (codes "RD") e.0 ≡ t
            → (if t then Some (get_or bits e.0 Zero) else None) ≡ Some s → P s
        by true below clocked h = has_bit s e.0 below clocked h
        by false below clocked h = absurd (cc)

module _ (d : CellDecl) (right : has_right_pins d ≡ true) where
  -- a pin of the cell's type is as wide as that has it
  wide : (k : Class) → class_at d ≡ k → (name : List ℕ) (n : ℕ) → width_at (widths_by k (shape_by k d)) name ≡ Some n
      → length (bits_of (cell_of d) name) ≡ n
  wide k is name n has = wide_decl d right name n (ap (λ c. width_at (widths_by c (shape_by c d)) name) is ∙ has)

  -- a register is clocked by its connection at C
  pub register_clocked : (kind : FfKind) → class_at d ≡ Register kind
      → (c : Connection) × Has (cell_connections d) c × (edge_of c.role ≡ Some kind.rising)
  register_clocked kind is =
      let one = wide (Register kind) is (codes "C") 1 refl in
      let found = within_has (bits_of (cell_of d) (codes "C")) 0 (omega (arith, one)) in (
        connection d (codes "C") 0 found.0,
        connected d (codes "C") 0 found.0 found.1,
        ap (λ k. edge_of (role_of k d (codes "C") 0)) is,
      )

  -- what holds of all that clocks the cell's connections holds of all that clocks the cell
  pub clocks_are : (P : Signal → Type 0)
      → ((c : Connection) → Has (cell_connections d) c → (rising : Bool) → edge_of c.role ≡ Some rising → P c.signal)
      → ((i : ℕ) → class_at d ≡ Memory → i < number_at d (codes "WR_PORTS") → is_clocked d (codes "WR") i ≡ true)
      → AllByRecursion P (clocks_by (class_at d) (cell_of d) (shape_by (class_at d) d))
  clocks_are P each writes = by (class_at d) refl
    where
      at : (name : List ℕ) (i : ℕ) (s : Signal) (rising : Bool) → edge_of (role_of (class_at d) d name i) ≡ Some rising
          → slice_get (bits_of (cell_of d) name) i ≡ Some s → P s
      at name i s rising edge is = each (connection d name i s) (connected d name i s is) rising edge

      by : (k : Class) → class_at d ≡ k → AllByRecursion P (clocks_by k (cell_of d) (shape_by k d))
      by (Gate kind) is = tt
      by (Register kind) is =
          let one = wide (Register kind) is (codes "C") 1 refl in
          let found = within_has (bits_of (cell_of d) (codes "C")) 0 (omega (arith, one)) in
          let edge : edge_of (role_of (class_at d) d (codes "C") 0) ≡ Some kind.rising =
          ap (λ k. edge_of (role_of k d (codes "C") 0)) is in
          (subst P (sym (got (bits_of (cell_of d) (codes "C")) 0 found.0 Zero found.1)) (at (codes "C") 0 found.0 kind.rising edge found.1), tt)
      by Memory is =
          let reads = wide Memory is (codes "RD_CLK") (length (memory_shape d).reads) refl in
          let ports = wide Memory is (codes "WR_CLK") (number_at d (codes "WR_PORTS")) refl in
          append_all P (of_clocked_reads (codes "RD_CLK") (cell_of d) (memory_shape d)) (bits_of (cell_of d) (codes "WR_CLK"))
          (reads_each d P (codes "RD_CLK") reads (λ i s clocked at_i. at (codes "RD_CLK") i s (is_rising d (codes "RD") i)
          (ap (λ k. edge_of (role_of k d (codes "RD_CLK") i)) is
          ∙ ap (λ t. edge_of (if t then roles.Clock (is_rising d (codes "RD") i) else roles.Unused)) clocked) at_i))
          (all_of_each P (bits_of (cell_of d) (codes "WR_CLK")) (λ i s at_i. at (codes "WR_CLK") i s (is_rising d (codes "WR") i)
          (ap (λ k. edge_of (role_of k d (codes "WR_CLK") i)) is
          ∙ ap (λ t. edge_of (if t then roles.Clock (is_rising d (codes "WR") i) else roles.Data))
          (writes i is (omega (arith, within (bits_of (cell_of d) (codes "WR_CLK")) i s at_i, ports)))) at_i))
      by Scope is = tt
      by Asynchronous is = tt
      by NotFine is = tt
      by Unknown is = tt

  -- what holds of a constant and of all that the cell's connections read as data holds of all that the cell reads
  pub data_are : (P : Signal → Type 0) → P Zero
      → ((c : Connection) → Has (cell_connections d) c → is_data_input c.role ≡ true → P c.signal)
      → AllByRecursion P (data_by (class_at d) (cell_of d) (shape_by (class_at d) d))
  data_are P constant each = by (class_at d) refl
    where
      at : (name : List ℕ) (i : ℕ) (s : Signal) → is_data_input (role_of (class_at d) d name i) ≡ true
          → slice_get (bits_of (cell_of d) name) i ≡ Some s → P s
      at name i s reads is = each (connection d name i s) (connected d name i s is) reads

      pin : (name : List ℕ) → ((i : ℕ) → is_data_input (role_of (class_at d) d name i) ≡ true)
          → AllByRecursion P (bits_of (cell_of d) name)
      pin name reads = all_of_each P (bits_of (cell_of d) name) (λ i s is. at name i s (reads i) is)

      bit : (name : List ℕ) → ((i : ℕ) → is_data_input (role_of (class_at d) d name i) ≡ true) → P (signal_of (cell_of d) name)
      bit name reads = get_of_all P (bits_of (cell_of d) name) 0 Zero (pin name reads) constant

      no_y : (name : List ℕ) → not (bytes_eq name (codes "Y")) ≡ true → is_data_input (gate_role name) ≡ true
      no_y name other = test (bytes_eq name (codes "Y")) other
        where
          test : (t : Bool) → not t ≡ true → is_data_input (if t then roles.Output else roles.Data) ≡ true
          test true h = absurd (cc)
          test false h = refl

      gate_pins : (kind : Kind) → class_at d ≡ Gate kind → (places : List ℕ)
          → AllByRecursion (λ i. not (bytes_eq (pin_name kind i) (codes "Y")) ≡ true) places
          → AllByRecursion P (map (λ i. signal_of (cell_of d) (pin_name kind i)) places)
      gate_pins kind is [] others = tt
      gate_pins kind is (i ∷ places) others = (
        bit (pin_name kind i) (λ j. ap (λ k. is_data_input (role_of k d (pin_name kind i) j)) is ∙ no_y (pin_name kind i) others.0),
        gate_pins kind is places others.1,
      )

      all_read : class_at d ≡ Memory → (name : List ℕ) → ((i : ℕ) → is_data_input (role_of Memory d name i) ≡ true)
          → AllByRecursion P (bits_of (cell_of d) name)
      all_read is name reads = pin name (λ i. ap (λ k. is_data_input (role_of k d name i)) is ∙ reads i)

      port_read : class_at d ≡ Memory → (name : List ℕ)
          → width_at (widths_by Memory (shape_by Memory d)) name ≡ Some (length (memory_shape d).reads)
          → ((i : ℕ) → role_of Memory d name i ≡ (if not (is_clocked d (codes "RD") i) then roles.Unused else roles.Data))
          → AllByRecursion P (of_clocked_reads name (cell_of d) (memory_shape d))
      port_read is name has role =
          reads_each d P name (wide Memory is name (length (memory_shape d).reads) has)
          (λ i s clocked at_i. at name i s
          (ap (λ k. is_data_input (role_of k d name i)) is ∙ ap is_data_input (role i)
          ∙ ap (λ t. is_data_input (if not t then roles.Unused else roles.Data)) clocked) at_i)

      by : (k : Class) → class_at d ≡ k → AllByRecursion P (data_by k (cell_of d) (shape_by k d))
      by (Gate kind) is = gate_pins kind is (count_from 0 (pin_count kind)) (inputs_are_not_y kind)
      by (Register kind) is =
          let reads = λ (name : List ℕ) (i : ℕ). ap (λ k. is_data_input (role_of k d name i)) is in
          (bit (codes "D") (reads (codes "D")), (bit (codes "E") (reads (codes "E")), (bit (codes "R") (reads (codes "R")), tt)))
      by Memory is =
          append_all P _ _ (append_all P _ _ (append_all P _ _ (append_all P _ _ (append_all P _ _
          (all_read is (codes "RD_ADDR") (λ i. refl)) (all_read is (codes "WR_ADDR") (λ i. refl)))
          (all_read is (codes "WR_DATA") (λ i. refl))) (all_read is (codes "WR_EN") (λ i. refl)))
          (port_read is (codes "RD_EN") refl (λ i. refl))) (port_read is (codes "RD_SRST") refl (λ i. refl))
      by Scope is = tt
      by Asynchronous is = tt
      by NotFine is = tt
      by Unknown is = tt

  -- a pin is as wide as the cell's type has a pin of its name
  own_width : (p : PinDecl) → Has d.pins p → (n : ℕ) → width_at (widths_of (class_at d) d) p.name ≡ Some n → length p.bits ≡ n
  own_width p (i, at) n is =
      let widths = widths_of (class_at d) d in
      let pins = both (has_sizes (class_at d) d) (has_pins widths d.pins) right in
      let all = both (list_all (is_pin_of widths) d.pins) (list_all (λ w. has_pin d.pins w.0) widths) pins.1 in
      let this = of_all (λ q. is_pin_of widths q ≡ true) d.pins i p (all_pass (is_pin_of widths) d.pins all.0) at in
      eqb-true (length p.bits) n (sym (ap (λ o. unwrap_or (option_map (λ width. length p.bits == width) o) false) is) ∙ this)

  -- a choice of two roles that are no clock is none
  never : (rising t : Bool) → (a b : Role) → edge_of a ≡ None → edge_of b ≡ None → edge_of (if t then a else b) ≡ Some rising → ⊥
  never rising true a b none_a none_b is = let differ = sym none_a ∙ is in absurd (cc)
  never rising false a b none_a none_b is = let differ = sym none_b ∙ is in absurd (cc)

  -- bit i of a pin is the cell's clock
  module _ (rising : Bool) (p : PinDecl) (has_p : Has d.pins p) (i : ℕ) (below : i < length p.bits) where
    width : ℕ
    width = number_at d (codes "WIDTH")

    ports : ℕ
    ports = number_at d (codes "RD_PORTS")

    read_there : class_at d ≡ Memory → bytes_eq p.name (codes "RD_CLK") ≡ true → (t : Bool) → is_clocked d (codes "RD") i ≡ t
        → edge_of (if t then roles.Clock (is_rising d (codes "RD") i) else roles.Unused) ≡ Some rising
        → memory_clocks (cell_of d) (Some (memory_shape d)) ≡ [] → ⊥
    unfolding ports width
    read_there is named false clocked is_edge empty = absurd (cc)
    read_there is named true clocked is_edge empty =
        let name = (bytes_eq-Decides p.name (codes "RD_CLK")).0 named in
        let wide_p = own_width p has_p ports (ap₂ (λ k n. width_at (widths_of k d) n) is name) in
        let first : 0 + i ≡ i = omega arith in
        let counted_i = counts 0 ports i (omega (arith, below, wide_p)) ∙ ap (λ n. Some n) first in
        let read = read_shape d width i in
        let at = at_map (read_shape d width) (count_from 0 ports) i i counted_i in
        let entry = enumerated 0 (memory_shape d).reads i read at in
        let bit = get_or (bits_of (cell_of d) (codes "RD_CLK")) (0 + i) Zero in
        let chosen = has_in_choice
        (λ (e : ℕ × ReadShape). if e.1.clocked then Some (get_or (bits_of (cell_of d) (codes "RD_CLK")) e.0 Zero) else None)
        (enumerate_from 0 (memory_shape d).reads) (0 + i, read) bit (ap (λ t. if t then Some bit else None) clocked) entry in
        not_empty _ bit
        (has_left (of_clocked_reads (codes "RD_CLK") (cell_of d) (memory_shape d)) (bits_of (cell_of d) (codes "WR_CLK")) bit chosen) empty

    write_there : class_at d ≡ Memory → bytes_eq p.name (codes "WR_CLK") ≡ true
        → memory_clocks (cell_of d) (Some (memory_shape d)) ≡ [] → ⊥
    write_there is named empty =
        let name = (bytes_eq-Decides p.name (codes "WR_CLK")).0 named in
        let wide_p = own_width p has_p (number_at d (codes "WR_PORTS")) (ap₂ (λ k n. width_at (widths_of k d) n) is name) in
        let all = wide Memory is (codes "WR_CLK") (number_at d (codes "WR_PORTS")) refl in
        let bit = within_has (bits_of (cell_of d) (codes "WR_CLK")) i (omega (arith, below, wide_p, all)) in
        not_empty _ bit.0
        (has_right (of_clocked_reads (codes "RD_CLK") (cell_of d) (memory_shape d)) (bits_of (cell_of d) (codes "WR_CLK")) bit.0 (i, bit.1)) empty

    memory_there : class_at d ≡ Memory → (output read write : Bool) → bytes_eq p.name (codes "RD_DATA") ≡ output
        → bytes_eq p.name (codes "RD_CLK") ≡ read → bytes_eq p.name (codes "WR_CLK") ≡ write
        → edge_of (if output then roles.Output else (if read then read_clock_role d i else (if write then write_clock_role d i
        else (if is_for_clocked_reads p.name && not (is_clocked d (codes "RD") i) then roles.Unused else roles.Data)))) ≡ Some rising
        → memory_clocks (cell_of d) (Some (memory_shape d)) ≡ [] → ⊥
    memory_there is true read write is_output is_read is_write at empty = absurd (cc)
    memory_there is false true write is_output is_read is_write at empty = read_there is is_read (is_clocked d (codes "RD") i) refl at empty
    memory_there is false false true is_output is_read is_write at empty = write_there is is_write empty
    memory_there is false false false is_output is_read is_write at empty =
        never rising (is_for_clocked_reads p.name && not (is_clocked d (codes "RD") i)) roles.Unused roles.Data refl refl at

    of_class : (k : Class) → class_at d ≡ k → edge_of (role_of k d p.name i) ≡ Some rising
        → clocks_by k (cell_of d) (shape_by k d) ≡ [] → ⊥
    of_class (Gate kind) is at empty = never rising (bytes_eq p.name (codes "Y")) roles.Output roles.Data refl refl at
    of_class (Register kind) is at empty = absurd (cc)
    of_class Memory is at empty =
        memory_there is (bytes_eq p.name (codes "RD_DATA")) (bytes_eq p.name (codes "RD_CLK")) (bytes_eq p.name (codes "WR_CLK")) refl refl refl at empty
    of_class Scope is at empty = absurd (cc)
    of_class Asynchronous is at empty = absurd (cc)
    of_class NotFine is at empty = absurd (cc)
    of_class Unknown is at empty = absurd (cc)

  -- where a connection of the cell is its clock, something clocks the cell
  pub clock_there : (c : Connection) → Has (cell_connections d) c → (rising : Bool) → edge_of c.role ≡ Some rising
      → clocks_by (class_at d) (cell_of d) (shape_by (class_at d) d) ≡ [] → ⊥
  clock_there c has rising edge none = of_pin (has_of_chain (pin_connections d) d.pins c has)
    where
      of_pin : (p : PinDecl) × Has d.pins p × Has (pin_connections d p) c → ⊥
      of_pin (p, has_p, has_c) =
          let e = has_of_map (λ (e : ℕ × Signal). connection d p.name e.0 e.1) (enumerate_from 0 p.bits) c has_c in
          let placed = numbered 0 p.bits e.0 e.1 in
          let place : e.0.0 ≡ placed.0 = omega (arith, placed.1) in
          let at : edge_of (role_of (class_at d) d p.name e.0.0) ≡ Some rising =
          ap (λ (x : Connection). edge_of x.role) (sym e.2) ∙ edge in
          of_class rising p has_p placed.0 (within p.bits placed.0 e.0.1 placed.2) (class_at d) refl
          (ap (λ i. edge_of (role_of (class_at d) d p.name i)) (sym place) ∙ at) none
