-- Once all pieces have driven their bits in the netlist's order, each bit has the value that settles.
use Rattle.std.proofs.Common.{◌≡◌, ℕ, zero, suc, ◌+◌, ◌<◌, ◌≤◌, ◌≢◌, List, [], ◌∷◌, length, length-append, get_or, map, take, Bool, true, false, cond, ◌||◌, Option, Some, None, refl, sym, ap, ap₂, subst, ◌∙◌, arith, inl, inr, codes, eq-eqb}
use Rattle.std.specs.Prelude.{◌⊎◌, Contains, fold, flat_map, option_map, slice_get, unwrap_or, set}
use Rattle.std.specs.List.{enumerate_from, position_from}
use Rattle.std.proofs.lemmas.Bool.{cases_lt}
use Rattle.std.proofs.lemmas.List.{get_or-set_same, get_or-set_other, length-set, length-map}
use Rattle.cs_base.specs.declared.signal.Signal.{Signal}
use Rattle.cs_base.specs.declared.signal.Signal.TheVariants.{Zero, One, Unknown, HighZ, Bit}
use Rattle.cs_cells.specs.declared.gate.Kind.{Kind}
use Rattle.cs_cells.specs.declared.register.FfKind.{FfKind}
use Rattle.cs_cells.specs.declared.memory.MemShape.{MemShape}
use Rattle.cs_cells.specs.declared.memory.ReadShape.{ReadShape}
use Rattle.cs_cells.specs.Gates.{gate_value, pin_count, pin_name}
use Rattle.cs_cells.specs.Memories.{read_bit}
use Rattle.cs_net.specs.declared.elements.Element.{Element}
use Rattle.cs_net.specs.declared.netlist.Cell.{Cell}
use Rattle.cs_modules.specs.Signals.{holds_bit, is_bit}
use Rattle.cs_net.specs.Drivers.{Driver, DrivenSignal, input, gate, word_bit, register, data_inputs, port_part, read_data, read_element as read_register_element, read_word_bit, signal_of}
use Rattle.cs_net.specs.Elements.{elements_of, graph_of, owner, sources}
use Rattle.cs_net.specs.Netlist.{Net, NetState}
use Rattle.cs_modules.specs.Pins.{count_from}
use Rattle.cs_net.specs.Trace.{Row, Settles, Valuation, signal_value, value_by}
use Rattle.cs_net.proofs.ElementGraphs.{input_owner, sources_of_element, vertex_count}
use Rattle.cs_order.specs.Graphs.{IsOrder, StandsBefore, sources_of}
use Rattle.cs_base.proofs.ListLemmas.{at_contains, contains_at}
use Rattle.cs_sim.specs.declared.layout.Part.{Part}
use Rattle.cs_sim.specs.Clock.{HeldValues, evaluated, evaluated_at, output_bits, pins_at, settled, word_in, with_constants}
use Rattle.cs_sim.specs.Layout.{address_slots, driven_signals, layout_of}
use Rattle.cs_sim.specs.Slots.{bits_from, slot_of, stored, value_at}
use Rattle.cs_sim.proofs.Agreement.{Agrees}
use Rattle.cs_sim.proofs.DriverLemmas.{driver_is, driver_is_none}
use Rattle.cs_sim.proofs.LayoutLemmas.{laid_out}
use Rattle.cs_sim.proofs.PieceLemmas.{driven_by_pieces, element_wires, elements_by_pieces, piece_wires, signals_of}
use Rattle.cs_sim.proofs.Pieces.{Piece, drives, gate_piece, inputs_of, inputs_piece, parts_from, pieces, ports_of, read_piece, register_piece, registers_of, work_of}
use Rattle.cs_sim.proofs.PlaceLemmas.{IsDriven, IsUndriven, located, offset, offset_within, offsets_apart, slice_get_below}
use Rattle.cs_sim.proofs.ZipLemmas.{image_at, preimage_at}
use Rattle.cs_sim.proofs.StoredLemmas.{bits_from_at, get_or-counts, length-bits_from, length-stored, stored_before, stored_behind, stored_there}

-- ---- lists

slice_get-numbered : {A : Type 0} (k : ℕ) (xs : List A) (i : ℕ) (e : ℕ × A) → slice_get (enumerate_from k xs) i ≡ Some e
    → (e.0 ≡ k + i) × (slice_get xs i ≡ Some e.1)
slice_get-numbered k [] i e h = absurd (cc)
slice_get-numbered {A = A} k (x ∷ xs) zero e h =
    let same : (k, x) ≡ e = cc in
    (sym (ap (λ (p : ℕ × A). p.0) same) ∙ omega arith, ap (λ (p : ℕ × A). Some p.1) same)
slice_get-numbered k (x ∷ xs) (suc i) e h =
    let rest = slice_get-numbered (k + 1) xs i e h in
    (rest.0 ∙ omega arith, rest.1)

position-image : {A B : Type 0} (f : A → B) (test : B → Bool) (k : ℕ) (xs : List A)
    → position_from test k (map f xs) ≡ position_from (λ x. test (f x)) k xs
position-image f test k [] = refl
position-image f test k (x ∷ xs) = ap (λ rest. cond (test (f x)) (Some k) rest) (position-image f test (k + 1) xs)

length-numbered : {A : Type 0} (k : ℕ) (xs : List A) → length (enumerate_from k xs) ≡ length xs
length-numbered k [] = refl
length-numbered k (x ∷ xs) = ap suc (length-numbered (k + 1) xs)

fused : {A B C : Type 0} (f : B → C) (g : A → B) (xs : List A) → map f (map g xs) ≡ map (λ x. f (g x)) xs
fused f g [] = refl
fused f g (x ∷ xs) = ap (λ rest. f (g x) ∷ rest) (fused f g xs)

same_counts : {A : Type 0} (f g : ℕ → A) (from count : ℕ) → ((i : ℕ) → from ≤ i → i < from + count → f i ≡ g i)
    → map f (count_from from count) ≡ map g (count_from from count)
same_counts f g from zero h = refl
same_counts f g from (suc count) h =
    ap₂ (λ a rest. a ∷ rest) (h from (omega arith) (omega arith))
    (same_counts f g (from + 1) count (λ i low below. h i (omega arith) (omega arith)))

-- ---- parts

part_at : (net : Net) (first registers ports : ℕ) (ps : List Piece) (v : ℕ) (x : Piece) → slice_get ps v ≡ Some x
    → slice_get (parts_from net first registers ports ps) v
    ≡ Some (record { first = first + offset (drives net) ps v; work = work_of net (registers + offset (registers_of net) ps v) (ports + offset (ports_of net) ps v) x })
part_at net first registers ports [] v x h = absurd (cc)
part_at net first registers ports (p ∷ ps) zero x h =
    let same : p ≡ x = cc in
    let P : ℕ → ℕ → ℕ → Piece → Option Part = λ a b c y. Some (record { first = a; work = work_of net b c y }) in
    ap (P first registers ports) same ∙ ap (λ a. P a registers ports x) (omega arith) ∙ ap (λ b. P (first + 0) b ports x) (omega arith) ∙ ap (λ c. P (first + 0) (registers + 0) c x) (omega arith)
part_at net first registers ports (p ∷ ps) (suc v) x h =
    let rest = part_at net (first + length (drives net p)) (registers + length (registers_of net p)) (ports + length (ports_of net p)) ps v x h in
    let P : ℕ → ℕ → ℕ → Option Part = λ a b c. Some (record { first = a; work = work_of net b c x }) in
    rest
    ∙ ap (λ a. P a ((registers + length (registers_of net p)) + offset (registers_of net) ps v) ((ports + length (ports_of net p)) + offset (ports_of net) ps v)) (far (drives net) first)
    ∙ ap (λ b. P (first + offset (drives net) (p ∷ ps) (suc v)) b ((ports + length (ports_of net p)) + offset (ports_of net) ps v)) (far (registers_of net) registers)
    ∙ ap (λ c. P (first + offset (drives net) (p ∷ ps) (suc v)) (registers + offset (registers_of net) (p ∷ ps) (suc v)) c) (far (ports_of net) ports)
  where
    far : {B : Type 0} (f : Piece → List B) (n : ℕ) → (n + length (f p)) + offset f ps v ≡ n + offset f (p ∷ ps) (suc v)
    far f n = omega (arith, length-append (f p) (flat_map f (take v ps)))

-- ---- the slot of a bit

slot_found : (net : Net) (b : ℕ) (o : Option ℕ) → position_from (is_bit b) 0 (signals_of (flat_map (drives net) (pieces net))) ≡ o
    → slot_of (driven_signals net) (Bit b) ≡ unwrap_or (option_map (λ i. i + 2) o) 0
slot_found net b o h =
    ap (λ signals. unwrap_or (option_map (λ i. i + 2) (position_from (is_bit b) 0 signals)) 0) (driven_by_pieces net)
    ∙ ap (λ found. unwrap_or (option_map (λ i. i + 2) found) 0) h

-- ---- the order

-- what a piece depends on comes before it
module _ (net : Net) (order : List ℕ) (is_order : IsOrder (graph_of (elements_of net)) order) where
  owner_is : (b : ℕ) (d : IsDriven (drives net) (pieces net) b) → owner (elements_of net) b ≡ Some d.v
  owner_is b d =
      sym (position-image element_wires (λ w. holds_bit b w.0) 0 (elements_of net))
      ∙ ap (position_from (λ w. holds_bit b w.0) 0) (elements_by_pieces net)
      ∙ position-image (piece_wires net) (λ w. holds_bit b w.0) 0 (pieces net)
      ∙ d.owner

  piece_count : length (graph_of (elements_of net)) ≡ length (pieces net)
  piece_count =
      vertex_count (elements_of net) ∙ sym (length-map (elements_of net) element_wires)
      ∙ ap length (elements_by_pieces net) ∙ length-map (pieces net) (piece_wires net)

  element_at : (v : ℕ) (x : Piece) → slice_get (pieces net) v ≡ Some x
      → (e : Element) × (slice_get (elements_of net) v ≡ Some e) × (element_wires e ≡ piece_wires net x)
  element_at v x h =
      preimage_at element_wires (elements_of net) v (piece_wires net x)
      (ap (λ ws. slice_get ws v) (elements_by_pieces net) ∙ image_at (piece_wires net) (pieces net) v x h)

  pub input_before : (k v : ℕ) (x : Piece) (b : ℕ) (d : IsDriven (drives net) (pieces net) b) → slice_get order k ≡ Some v
      → slice_get (pieces net) v ≡ Some x → holds_bit b (inputs_of x) ≡ true → StandsBefore order k d.v
  input_before k v x b d stands h holds =
      let e = element_at v x h in
      let inputs : e.0.inputs ≡ inputs_of x = ap (λ (w : List Signal × List Signal). w.1) e.2 in
      let at = input_owner (owner (elements_of net)) b d.v e.0.inputs (ap (holds_bit b) inputs ∙ holds) (owner_is b d) in
      let row : sources_of (graph_of (elements_of net)) v ≡ sources (elements_of net) e.0 = sources_of_element (elements_of net) v e.0 e.1 in
      let below = slice_get_below (pieces net) d.v d.row d.row_at in
      is_order.after k v d.v stands (record {
        source = subst (λ (ws : List ℕ). Contains ws d.v) (sym row) (at_contains (sources (elements_of net) e.0) at.0 d.v at.1);
        vertex = omega (arith, below, piece_count);
      })

  pub all_before : (v : ℕ) (x : Piece) → slice_get (pieces net) v ≡ Some x → StandsBefore order (length order) v
  all_before v x h =
      let below = slice_get_below (pieces net) v x h in
      let at = contains_at order v (is_order.every v (omega (arith, below, piece_count))) in
      (at.0, slice_get_below order at.0 v at.1, at.1)

-- ---- the values

module _ (net : Net) (held : HeldValues) (row : Row) (now : NetState) (v : Valuation) (settles : Settles net row now v)
    (fits : length row ≡ length (data_inputs net)) (agrees : Agrees net held now) where
  ps : List Piece
  ps = pieces net

  -- the value of a bit by its driver
  value_is : (b : ℕ) (d : IsDriven (drives net) (pieces net) b) → v b ≡ value_by d.driver.1 b row now v
  value_is b d = settles b ∙ ap (λ x. value_by x b row now v) (driver_is net b d)

  -- the bits of the pieces of `Done` hold their values
  pub record Good (Done : ℕ → Type 0) (values : List Bool) : Type 0 where
    pub zero_is : get_or values 0 false ≡ false
    pub one_is : get_or values 1 false ≡ true
    pub count : length values ≡ 2 + length (flat_map (drives net) (pieces net))
    pub done : (b : ℕ) (d : IsDriven (drives net) (pieces net) b) → Done d.v
        → get_or values (2 + (offset (drives net) (pieces net) d.v + d.p)) false ≡ v b

  module _ (Done : ℕ → Type 0) (values : List Bool) (good : Good Done values) where
    seen_bit : (b : ℕ) → ((d : IsDriven (drives net) (pieces net) b) → Done d.v)
        → value_at values (slot_of (driven_signals net) (Bit b)) ≡ v b
    seen_bit b ready = by_driver (located (drives net) b (pieces net))
      where
        by_driver : IsDriven (drives net) (pieces net) b ⊎ IsUndriven (drives net) (pieces net) b
            → value_at values (slot_of (driven_signals net) (Bit b)) ≡ v b
        by_driver (inl d) =
            let slot = slot_found net b (Some (offset (drives net) (pieces net) d.v + d.p)) d.place in
            let moved : slot_of (driven_signals net) (Bit b) ≡ 2 + (offset (drives net) (pieces net) d.v + d.p) = slot ∙ omega arith in
            ap (λ i. get_or values i false) moved ∙ good.done b d (ready d)
        by_driver (inr u) =
            ap (λ i. get_or values i false) (slot_found net b None u.place) ∙ good.zero_is
            ∙ sym (settles b ∙ ap (λ x. value_by x b row now v) (driver_is_none net b u))

    pub seen : (s : Signal) → ((b : ℕ) → is_bit b s ≡ true → (d : IsDriven (drives net) (pieces net) b) → Done d.v)
        → value_at values (slot_of (driven_signals net) s) ≡ signal_value v s
    seen Zero ready = good.zero_is
    seen One ready = good.one_is
    seen Unknown ready = good.zero_is
    seen HighZ ready = good.zero_is
    seen (Bit b) ready = seen_bit b (ready b (eq-eqb b b refl))

    pub all_seen : (signals : List Signal) → ((b : ℕ) → holds_bit b signals ≡ true → (d : IsDriven (drives net) (pieces net) b) → Done d.v)
        → map (value_at values) (map (slot_of (driven_signals net)) signals) ≡ map (signal_value v) signals
    all_seen [] ready = refl
    all_seen (s ∷ signals) ready =
        ap₂ (λ a rest. a ∷ rest)
        (seen s (λ b is d. ready b (ap (λ t. t || holds_bit b signals) is) d))
        (all_seen signals (λ b is d. ready b (or_later (is_bit b s) (holds_bit b signals) is) d))
      where
        or_later : (x y : Bool) → y ≡ true → (x || y) ≡ true
        or_later true y is = refl
        or_later false y is = is

    -- ---- what a piece drives

    abbrev Ready : Piece → Type 0
    Ready x = (b : ℕ) → holds_bit b (inputs_of x) ≡ true → (d : IsDriven (drives net) (pieces net) b) → Done d.v

    -- what a piece drives, behind so many registers and clocked ports
    abbrev bits_of_piece : ℕ → Piece → List Bool
    bits_of_piece u x = output_bits held row values (work_of net (0 + offset (registers_of net) (pieces net) u) (0 + offset (ports_of net) (pieces net) u) x)

    -- they are as many as its drivers, and each is the value of its bit
    record IsRight (u : ℕ) (x : Piece) : Type 0 where
      count : length (bits_of_piece u x) ≡ length (drives net x)
      each : (b : ℕ) (d : IsDriven (drives net) (pieces net) b) → d.v ≡ u → d.row ≡ x → get_or (bits_of_piece u x) d.p false ≡ v b

    driver_here : (x : Piece) (b : ℕ) (d : IsDriven (drives net) (pieces net) b) → d.row ≡ x → slice_get (drives net x) d.p ≡ Some d.driver
    driver_here x b d row_is = ap (λ y. slice_get (drives net y) d.p) (sym row_is) ∙ d.driver_at

    only_one : {A : Type 0} (x y : A) (p : ℕ) → slice_get (x ∷ []) p ≡ Some y → (p ≡ 0) × (x ≡ y)
    only_one x y zero h = (refl, cc)
    only_one x y (suc p) h = absurd (cc)

    -- a piece that drives one bit
    right_of_one : (u : ℕ) (x : Piece) (s : Signal) (by : Driver) (value : Bool) → drives net x ≡ (s, by) ∷ []
        → bits_of_piece u x ≡ value ∷ []
        → ((b : ℕ) (d : IsDriven (drives net) (pieces net) b) → d.v ≡ u → d.row ≡ x → value ≡ value_by by b row now v)
        → IsRight u x
    right_of_one u x s by value one bits is = record {
      count = ap length bits ∙ sym (ap length one);
      each = λ b d at row_is.
          let alone = only_one (s, by) d.driver d.p (ap (λ ds. slice_get ds d.p) (sym one) ∙ driver_here x b d row_is) in
          ap (λ xs. get_or xs d.p false) bits ∙ ap (λ p. get_or (value ∷ []) p false) alone.0
          ∙ is b d at row_is ∙ ap (λ (e : DrivenSignal). value_by e.1 b row now v) alone.1 ∙ sym (value_is b d);
    }

    right_register : (u : ℕ) (cell : Cell) (kind : FfKind) → IsRight u (register_piece cell kind)
    right_register u cell kind =
        right_of_one u (register_piece cell kind) _ _ (get_or held.registers (0 + offset (registers_of net) (pieces net) u) false) refl refl
        (λ b d at row_is.
        ap (λ n. get_or held.registers n false) (omega arith)
        ∙ ap (λ w. get_or held.registers (offset (registers_of net) (pieces net) w) false) (sym at)
        ∙ agrees.registers b d cell kind row_is)

    -- the values at a gate's pins
    gate_pins : (kind : Kind) (f : ℕ → Signal)
        → pins_at values kind (map (λ i. slot_of (driven_signals net) (f i)) (count_from 0 (pin_count kind)))
        ≡ map (value_at values) (map (slot_of (driven_signals net)) (map f (count_from 0 (pin_count kind))))
    gate_pins kind f =
        let D = driven_signals net in
        let slots = map (λ i. slot_of D (f i)) (count_from 0 (pin_count kind)) in
        same_counts (λ i. value_at values (get_or slots i 0)) (λ i. value_at values (slot_of D (f i))) 0 (pin_count kind)
        (λ i low below. ap (value_at values) (get_or-counts (λ j. slot_of D (f j)) 0 (pin_count kind) i 0 (omega arith) ∙ ap (λ j. slot_of D (f j)) (omega arith)))
        ∙ sym (fused (value_at values) (λ i. slot_of D (f i)) (count_from 0 (pin_count kind)))
        ∙ ap (map (value_at values)) (sym (fused (slot_of D) f (count_from 0 (pin_count kind))))

    right_gate : (u : ℕ) (cell : Cell) (kind : Kind) → Ready (gate_piece cell kind) → IsRight u (gate_piece cell kind)
    right_gate u cell kind ready =
        let f : ℕ → Signal = λ i. signal_of cell (pin_name kind i) in
        let pins = map f (count_from 0 (pin_count kind)) in
        let seen_pins = gate_pins kind f ∙ all_seen pins ready in
        right_of_one u (gate_piece cell kind) (signal_of cell (codes "Y")) (gate kind pins)
        (gate_value kind (pins_at values kind (map (λ i. slot_of (driven_signals net) (f i)) (count_from 0 (pin_count kind))))) refl refl
        (λ b d at row_is. ap (gate_value kind) seen_pins)

    -- ---- rows of bits

    -- a piece whose drivers are told by their places
    right_of_row : (u : ℕ) (x : Piece) (by : ℕ → Driver) (signals : List Signal) (bits : List Bool)
        → drives net x ≡ map (λ e. (e.1, by e.0)) (enumerate_from 0 signals) → bits_of_piece u x ≡ bits → length bits ≡ length signals
        → ((b : ℕ) (d : IsDriven (drives net) (pieces net) b) → d.v ≡ u → d.row ≡ x → d.p < length bits → get_or bits d.p false ≡ value_by (by d.p) b row now v)
        → IsRight u x
    right_of_row u x by signals bits numbered are long is = record {
      count = ap length are ∙ long ∙ sym (ap length numbered ∙ length-map (enumerate_from 0 signals) _ ∙ length-numbered 0 signals);
      each = λ b d at row_is.
          let here = preimage_at (λ (e : ℕ × Signal). (e.1, by e.0)) (enumerate_from 0 signals) d.p d.driver
          (ap (λ ds. slice_get ds d.p) (sym numbered) ∙ driver_here x b d row_is) in
          let place = slice_get-numbered 0 signals d.p here.0 here.1 in
          let below : d.p < length bits = omega (arith, slice_get_below signals d.p here.0.1 place.1, long) in
          let driver : by d.p ≡ d.driver.1 =
          ap by (sym (place.0 ∙ omega arith)) ∙ ap (λ (e : DrivenSignal). e.1) here.2 in
          ap (λ xs. get_or xs d.p false) are ∙ is b d at row_is below
          ∙ ap (λ e. value_by e b row now v) driver ∙ sym (value_is b d);
    }

    right_inputs : (u : ℕ) → IsRight u inputs_piece
    right_inputs u =
        right_of_row u inputs_piece (λ i. input i) (data_inputs net) (bits_from row 0 (length row)) refl refl
        (length-bits_from row 0 (length row) ∙ fits)
        (λ b d at row_is below. bits_from_at row (length row) d.p (omega (arith, below, length-bits_from row 0 (length row))))

    module _ (u m : ℕ) (cell : Cell) (shape : MemShape) (port : ℕ) (read : ReadShape)
        (stands : slice_get (pieces net) u ≡ Some (read_piece m cell shape port read))
        (ready : Ready (read_piece m cell shape port read)) where
      abbrev outputs : List Signal
      outputs = port_part cell (codes "RD_DATA") shape.width port

      abbrev address : List Signal
      address = port_part cell (codes "RD_ADDR") shape.abits port

      abbrev ports_before : ℕ
      ports_before = offset (ports_of net) (pieces net) u

      right_clocked : read.clocked ≡ true → IsRight u (read_piece m cell shape port read)
      right_clocked is =
          let bits = get_or held.reads (0 + ports_before) [] in
          let same : 0 + ports_before ≡ ports_before = omega arith in
          let count = ap (λ n. length (get_or held.reads n [])) same ∙ agrees.counts u m cell shape port read stands is in
          right_of_row u (read_piece m cell shape port read) (λ p. register (read_register_element cell shape read port p)) outputs (bits_from bits 0 (length bits))
          (rw is refl) (rw is refl)
          (length-bits_from bits 0 (length bits) ∙ count ∙ length-numbered 0 outputs)
          (λ b d at row_is below.
          bits_from_at bits (length bits) d.p (omega (arith, below, length-bits_from bits 0 (length bits)))
          ∙ ap (λ n. get_or (get_or held.reads n []) d.p false) same
          ∙ ap (λ w. get_or (get_or held.reads (offset (ports_of net) (pieces net) w) []) d.p false) (sym at)
          ∙ agrees.reads b d m cell shape port read row_is is)

      read_there : (values : List Bool) (slots : List ℕ) (p : ℕ) → get_or (word_in held.memories m values slots) p false
          ≡ read_bit (get_or held.memories m []) (map (value_at values) slots) p
      unfolding read_bit
      read_there values slots p = refl

      right_unclocked : read.clocked ≡ false → IsRight u (read_piece m cell shape port read)
      right_unclocked is =
          let slots = address_slots (driven_signals net) cell shape port in
          let word = word_in held.memories m values slots in
          let width = length (read_data cell shape port) in
          let seen_address : map (value_at values) slots ≡ map (signal_value v) address
          = all_seen address (λ b holds d. ready b (rw is holds) d) in
          right_of_row u (read_piece m cell shape port read) (λ p. word_bit (read_word_bit cell shape port p)) outputs (bits_from word 0 width)
          (rw is refl) (rw is refl)
          (length-bits_from word 0 width ∙ length-numbered 0 outputs)
          (λ b d at row_is below.
          bits_from_at word width d.p (omega (arith, below, length-bits_from word 0 width))
          ∙ read_there values slots d.p
          ∙ ap (λ a. read_bit (get_or held.memories m []) a d.p) seen_address
          ∙ ap (λ words. read_bit words (map (signal_value v) address) d.p) (agrees.words u m cell shape port read stands))

      right_read : IsRight u (read_piece m cell shape port read)
      right_read = by_clock read.clocked refl
        where
          by_clock : (clocked : Bool) → read.clocked ≡ clocked → IsRight u (read_piece m cell shape port read)
          by_clock true is = right_clocked is
          by_clock false is = right_unclocked is

    right : (u : ℕ) (x : Piece) → slice_get (pieces net) u ≡ Some x → Ready x → IsRight u x
    right u inputs_piece stands ready = right_inputs u
    right u (gate_piece cell kind) stands ready = right_gate u cell kind ready
    right u (register_piece cell kind) stands ready = right_register u cell kind
    right u (read_piece m cell shape port read) stands ready = right_read u m cell shape port read stands ready

    -- ---- a piece drives its bits

    part_of : (u : ℕ) (x : Piece) → slice_get (pieces net) u ≡ Some x
        → slice_get (layout_of net).parts u
        ≡ Some (record { first = 2 + offset (drives net) (pieces net) u; work = work_of net (0 + offset (registers_of net) (pieces net) u) (0 + offset (ports_of net) (pieces net) u) x })
    part_of u x stands = ap (λ parts. slice_get parts u) (laid_out net).parts ∙ part_at net 2 0 0 (pieces net) u x stands

    after_piece : (u : ℕ) (x : Piece) → slice_get (pieces net) u ≡ Some x
        → evaluated_at held row (layout_of net).parts values u ≡ stored values (2 + offset (drives net) (pieces net) u) (bits_of_piece u x)
    unfolding evaluated
    after_piece u x stands = ap (λ p. unwrap_or (option_map (evaluated held row values) p) values) (part_of u x stands)

    same_row : {a c : Piece} → Some a ≡ Some c → a ≡ c
    same_row h = cc

    module _ (u : ℕ) (x : Piece) (stands : slice_get (pieces net) u ≡ Some x) (ready : Ready x) where
      abbrev first : ℕ
      first = 2 + offset (drives net) (pieces net) u

      abbrev bits : List Bool
      bits = bits_of_piece u x

      is_right : IsRight u x
      is_right = right u x stands ready

      room : first + length bits ≤ length values
      room = omega (arith, is_right.count, offset_within (drives net) (pieces net) u x stands, good.count)

      driven_here : (b : ℕ) (d : IsDriven (drives net) (pieces net) b) → d.v ≡ u
          → get_or (stored values first bits) (2 + (offset (drives net) (pieces net) d.v + d.p)) false ≡ v b
      driven_here b d at =
          let row_is : d.row ≡ x = same_row (sym d.row_at ∙ ap (slice_get (pieces net)) at ∙ stands) in
          let below = slice_get_below (drives net d.row) d.p d.driver d.driver_at in
          let inside : d.p < length bits = omega (arith, below, is_right.count, ap (λ y. length (drives net y)) row_is) in
          ap (λ w. get_or (stored values first bits) w false) (ap (λ w. 2 + (offset (drives net) (pieces net) w + d.p)) at ∙ omega arith)
          ∙ stored_there values first bits d.p inside room
          ∙ is_right.each b d at row_is

      by_place : (b : ℕ) (d : IsDriven (drives net) (pieces net) b) → Done d.v ⊎ (d.v ≡ u) → (d.v < u) ⊎ (u ≤ d.v) → (u < d.v) ⊎ (d.v ≤ u)
          → get_or (stored values first bits) (2 + (offset (drives net) (pieces net) d.v + d.p)) false ≡ v b
      by_place b d (inl is) (inl before) other =
          let apart = offsets_apart (drives net) (pieces net) d.v u d.row d.row_at before in
          let below = slice_get_below (drives net d.row) d.p d.driver d.driver_at in
          stored_before values first bits (2 + (offset (drives net) (pieces net) d.v + d.p)) (omega (arith, apart, below)) ∙ good.done b d is
      by_place b d (inl is) (inr above) (inl behind) =
          let apart = offsets_apart (drives net) (pieces net) u d.v x stands behind in
          stored_behind values first bits (2 + (offset (drives net) (pieces net) d.v + d.p)) (omega (arith, apart, is_right.count)) ∙ good.done b d is
      by_place b d (inl is) (inr above) (inr most) = driven_here b d (omega arith)
      by_place b d (inr is) first_case other = driven_here b d is

      good_stored : Good (λ w. Done w ⊎ (w ≡ u)) (stored values first bits)
      good_stored = record {
        zero_is = stored_before values first bits 0 (omega arith) ∙ good.zero_is;
        one_is = stored_before values first bits 1 (omega arith) ∙ good.one_is;
        count = length-stored values first bits ∙ good.count;
        done = λ b d is. by_place b d is (cases_lt d.v u) (cases_lt u d.v);
      }

      -- so its bits hold their values too
      pub good_after : Good (λ w. Done w ⊎ (w ≡ u)) (evaluated_at held row (layout_of net).parts values u)
      good_after = subst (Good (λ w. Done w ⊎ (w ≡ u))) (sym (after_piece u x stands)) good_stored

  -- ---- all pieces, in order

  weaker : {P Q : ℕ → Type 0} (values : List Bool) → ((w : ℕ) → Q w → P w) → Good P values → Good Q values
  weaker values f good =
      record { zero_is = good.zero_is; one_is = good.one_is; count = good.count; done = λ b d is. good.done b d (f d.v is) }

  module _ (order : List ℕ) (is_order : IsOrder (graph_of (elements_of net)) order) where
    piece_at : (u : ℕ) → u < length (pieces net) → (x : Piece) × (slice_get (pieces net) u ≡ Some x)
    piece_at u below = within (pieces net) u below
      where
        within : (xs : List Piece) (i : ℕ) → i < length xs → (x : Piece) × (slice_get xs i ≡ Some x)
        within [] i h = absurd (omega arith)
        within (x ∷ xs) zero h = (x, refl)
        within (x ∷ xs) (suc i) h = within xs i (omega arith)

    good_one : (k u : ℕ) (values : List Bool) → slice_get order k ≡ Some u → Good (StandsBefore order k) values
        → Good (StandsBefore order (suc k)) (evaluated_at held row (layout_of net).parts values u)
    good_one k u values stands good =
        let vertex = is_order.only u (at_contains order k u stands) in
        let x = piece_at u (omega (arith, vertex, piece_count net order is_order)) in
        let after = good_after (StandsBefore order k) values good u x.0 x.1
        (λ b holds d. input_before net order is_order k u x.0 b d stands x.1 holds) in
        weaker (evaluated_at held row (layout_of net).parts values u) earlier after
      where
        earlier : (w : ℕ) → StandsBefore order (suc k) w → StandsBefore order k w ⊎ (w ≡ u)
        earlier w (j, below, at) = elim (cases_lt j k) [
          | inl before ↦ inl (j, before, at)
          | inr not_before ↦
              let last : j ≡ k = omega arith in
              let same : Some w ≡ Some u = sym at ∙ ap (slice_get order) last ∙ stands in
              inr (cc)
        ]

    good_rest : (k : ℕ) (rest : List ℕ) (values : List Bool) → ((j : ℕ) → slice_get rest j ≡ slice_get order (k + j))
        → Good (StandsBefore order k) values
        → Good (StandsBefore order (k + length rest)) (fold (evaluated_at held row (layout_of net).parts) values rest)
    good_rest k [] values is good = subst (λ n. Good (StandsBefore order n) values) (omega arith) good
    good_rest k (u ∷ rest) values is good =
        let here : slice_get order k ≡ Some u = ap (slice_get order) (omega arith) ∙ sym (is 0) in
        let far : suc k + length rest ≡ k + length (u ∷ rest) = omega arith in
        let values' = evaluated_at held row (layout_of net).parts values u in
        subst (λ n. Good (StandsBefore order n) (fold (evaluated_at held row (layout_of net).parts) values' rest)) far
        (good_rest (suc k) rest values' (λ j. is (suc j) ∙ ap (slice_get order) (omega arith)) (good_one k u values here good))

    good_start : (values : List Bool) → length values ≡ (layout_of net).slots → Good (StandsBefore order 0) (with_constants values)
    good_start values count =
        let whole : length values ≡ 2 + length (flat_map (drives net) (pieces net)) = count ∙ (laid_out net).slots in
        let one : length (set values 0 false) ≡ length values = length-set values 0 false in
        let two : length (set (set values 0 false) 1 true) ≡ length (set values 0 false) = length-set (set values 0 false) 1 true in
        let apart : ◌≢◌ {A = ℕ} 0 1 = omega arith in
        record {
          zero_is = get_or-set_other (set values 0 false) 1 0 true false apart ∙ get_or-set_same values 0 false false (omega arith);
          one_is = get_or-set_same (set values 0 false) 1 true false (omega arith);
          count = two ∙ one ∙ whole;
          done = λ b d (j, below, at). absurd (omega arith);
        }

    -- in the end each signal has the value that settles
    pub settled_values : (values : List Bool) → length values ≡ (layout_of net).slots → (s : Signal)
        → value_at (settled held row (layout_of net).parts order values) (slot_of (driven_signals net) s) ≡ signal_value v s
    unfolding settled
    settled_values values count s =
        let good = good_rest 0 order (with_constants values) (λ j. ap (slice_get order) (omega arith)) (good_start values count) in
        let good' : Good (StandsBefore order (length order)) (fold (evaluated_at held row (layout_of net).parts) (with_constants values) order)
        = subst (λ n. Good (StandsBefore order n) (fold (evaluated_at held row (layout_of net).parts) (with_constants values) order)) (omega arith) good in
        seen (StandsBefore order (length order)) (fold (evaluated_at held row (layout_of net).parts) (with_constants values) order) good' s
        (λ b is d. all_before net order is_order d.v d.row d.row_at)
