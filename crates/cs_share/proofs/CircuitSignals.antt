-- What the pins of a machine's circuit read: constants, data input bits, what vertices drive, and registers.
use Rattle.std.proofs.Common.{◌≡◌, ◌∙◌, ℕ, zero, suc, ◌+◌, ◌-◌, ◌^◌, ◌<◌, ◌≤◌, ◌⊎◌, List, [], ◌∷◌, length, get_or, Bool, true, false, ◌&&◌, cond, Option, Some, None, ap, arith, filter, inl, inr, map, not, refl, subst, sym}
use Rattle.std.specs.Prelude.{◌==◌, is_some, nat_le, nat_lt, option_map, slice_get, unwrap_or}
use Rattle.std.specs.List.{AllByRecursion, count_by}
use Rattle.std.proofs.lemmas.Bool.Decides.{nat_tests}
use Rattle.std.proofs.lemmas.List.Sums.{count_by-le-length}
use Rattle.std.proofs.lemmas.Option.{slice_get-get_or}
use Rattle.cs_base.specs.declared.signal.Signal.{Signal}
use Rattle.cs_base.specs.declared.signal.Signal.TheVariants.{Zero, Bit}
use Rattle.cs_circuit.specs.WellFormed.{IsData}
use Rattle.cs_graph.specs.declared.edge.Edge.{Edge}
use Rattle.cs_graph.specs.declared.graph.Graph.{Graph}
use Rattle.cs_graph.specs.declared.vertex.Feed.{Feed}
use Rattle.cs_graph.specs.declared.vertex.Feed.TheVariants.{Tied, Edge as Along}
use Rattle.cs_graph.specs.declared.vertex.Vertex.{Vertex}
use Rattle.cs_graph.specs.declared.vertex.VertexKind.{VertexKind}
use Rattle.cs_graph.specs.declared.vertex.VertexKind.TheVariants.{Host, Input, Output, Constant, Gate, Read, Write as WritePort}
use Rattle.cs_graph.specs.Invariant.{HasOutput, IsMachine, kinds}
use Rattle.cs_graph.specs.Kinds.{is_input, output_count}
use Rattle.cs_graph.specs.Run.{inputs_before}
use Rattle.cs_modules.specs.declared.clocks.Clock.{Clock}
use Rattle.cs_modules.specs.Pins.{count_from}
use Rattle.cs_net.specs.Drivers.{is_clock}
use Rattle.cs_net.proofs.Members.{has_in_map, of_all, within_has}
use Rattle.cs_net.proofs.MemoryPlaces.{map_at}
use Rattle.cs_net.proofs.Occurrences.{count_of, one_if}
use Rattle.cs_prefix.specs.Prefixes.{IsOnEdge, RegisterKey, key_before, place_of_key}
use Rattle.cs_share.specs.declared.types.Names.{Names}
use Rattle.cs_share.specs.Names.{is_output}
use Rattle.cs_share.specs.Ports.{data_numbers, first_number, input_signals, written_clock}
use Rattle.cs_share.specs.Registers.{AreRegisters, edge_contents, edge_drivers}
use Rattle.cs_share.specs.Shared.{constant, driver_signal, edge_signal, first_register, has_some, has_write, key_signal, logic_bit, logic_bits, output_signal, pin_signal, signal_behind}
use Rattle.cs_share.proofs.CircuitBlocks.{input_among, logic_bits_few, part_within}
use Rattle.cs_share.proofs.CircuitClock.{all_kept}
use Rattle.cs_share.proofs.CircuitKeys.{edge_of_key, key_before_is, key_placed, keys_few, last_on_edge}
use Rattle.cs_share.proofs.CircuitNames.{HasFitPorts, HasOneClock, output_signals}
use Rattle.cs_share.proofs.CircuitPorts.{WrittenClock, clocked, data_inputs_written, input_numbers, length_data, the_clock, unclocked}

-- names whose ports fit one another and the machine, with a clock where something is clocked
pub record AreCircuitNames (g : Graph) (keys : List RegisterKey) (names : Names) : Type 0 where
  pub ports : HasFitPorts names
  pub inputs : length (data_numbers names) ≡ count_by (λ (x : Vertex). is_input x.kind) g.vertices
  pub outputs : length (output_signals names.ports) ≡ count_by (λ (x : Vertex). is_output x.kind) g.vertices
  pub registers : has_some keys ≡ true → is_some names.clock ≡ true
  pub writes : has_write g ≡ true → is_some names.clock ≡ true

-- what the signal of an output of vertex u is
pub data DriverOrigin (g : Graph) (names : Names) (u : ℕ) (s : Signal) : Type 0 where
  of_constant : (b : Bool) → s ≡ constant b → DriverOrigin g names u s
  of_input : (number : ℕ) → s ≡ Bit number → 2 ≤ number → number < first_number names
      → is_clock (written_clock names) (Bit number) ≡ false → DriverOrigin g names u s
  of_logic : (x : Vertex) (o : ℕ) → slice_get g.vertices u ≡ Some x → o < logic_bits g.memories x.kind
      → s ≡ Bit (logic_bit g names u + o) → DriverOrigin g names u s

-- what a pin of vertex v reads
pub data PinOrigin (g : Graph) (names : Names) (keys : List RegisterKey) (v : ℕ) (s : Signal) : Type 0 where
  tied : (b : Bool) → s ≡ constant b → PinOrigin g names keys v s
  driven : (e : ℕ) (d : Edge) → slice_get g.edges e ≡ Some d → d.weight ≡ 0 → d.to ≡ v → DriverOrigin g names d.from s
      → PinOrigin g names keys v s
  registered : (n : ℕ) → n < length keys → s ≡ Bit (first_register g names + n) → PinOrigin g names keys v s

-- ---- numbers of data inputs

record IsInRange (from count : ℕ) (s : Signal) : Type 0 where
  number : ℕ
  is : s ≡ Bit number
  low : from ≤ number
  high : number < from + count

in_range : (low from high count : ℕ) → low ≤ from → from + count ≤ low + high
    → AllByRecursion (IsInRange low high) (map Bit (count_from from count))
in_range low from high zero a b = tt
in_range low from high (suc count) a b = (
  record { number = from; is = refl; low = a; high = omega (arith, b) },
  in_range low (from + 1) high count (omega (arith, a)) (omega (arith, b)),
)

passed : {A : Type 0} (test : A → Bool) (xs : List A) → AllByRecursion (λ x. test x ≡ false) (filter (λ x. not (test x)) xs)
passed test [] = tt
passed {A = A} test (x ∷ xs) = by (test x) refl (passed test xs)
  where
    by : (t : Bool) → test x ≡ t → AllByRecursion (λ x. test x ≡ false) (filter (λ x. not (test x)) xs)
        → AllByRecursion (λ x. test x ≡ false) (cond (not t) (x ∷ filter (λ x. not (test x)) xs) (filter (λ x. not (test x)) xs))
    by true is rest = rest
    by false is rest = (is, rest)

all_but : {A : Type 0} (test : A → Bool) (xs : List A) → length xs ≡ length (filter (λ x. not (test x)) xs) + count_of test xs
all_but test [] = omega arith
all_but {A = A} test (x ∷ xs) = by (test x) (all_but test xs)
  where
    by : (t : Bool) → length xs ≡ length (filter (λ x. not (test x)) xs) + count_of test xs
        → suc (length xs) ≡ length (cond (not t) (x ∷ filter (λ x. not (test x)) xs) (filter (λ x. not (test x)) xs)) + (one_if t + count_of test xs)
    by true rest = omega (arith, rest)
    by false rest = omega (arith, rest)

readable : (b m : ℕ) → 2 ≤ b → b < m → (nat_le 2 b && nat_lt b m) ≡ true
readable b m low high = grind (arith, nat_tests)

apart_from : (b c : ℕ) → c < b → (b == c) ≡ false
apart_from b c less = grind (arith, nat_tests)

pub constant_is_data : (clock : Option Clock) (b : Bool) → IsData clock (constant b)
constant_is_data None true = record { closed = refl; readable = refl; apart = refl }
constant_is_data None false = record { closed = refl; readable = refl; apart = refl }
constant_is_data (Some clock) true = record { closed = refl; readable = refl; apart = refl }
constant_is_data (Some clock) false = record { closed = refl; readable = refl; apart = refl }

pub bit_is_data : (clock : Option Clock) (b : ℕ) → 2 ≤ b → b < 2 ^ 32 - 1 → is_clock clock (Bit b) ≡ false → IsData clock (Bit b)
bit_is_data clock b low high apart = record { closed = refl; readable = readable b (2 ^ 32 - 1) low high; apart = apart }

module _ (g : Graph) (machine : IsMachine g) (keys : List RegisterKey) (are : AreRegisters g keys) (names : Names)
    (fit : AreCircuitNames g keys names) where
  -- ---- sizes

  few_clocks : (clock : Option Clock) (signals : List Signal) → HasOneClock clock signals → count_of (is_clock clock) signals ≤ 1
  few_clocks None signals once = let none = nothing signals in omega (arith, none)
    where
      nothing : (xs : List Signal) → count_of (is_clock None) xs ≡ 0
      nothing [] = refl
      nothing (x ∷ xs) = let rest = nothing xs in omega (arith, rest)
  few_clocks (Some clock) signals once = omega (arith, once)

  pub inputs_few : length (input_signals names.ports) ≤ 4097
  inputs_few =
      let parts = all_but (is_clock names.clock) (input_signals names.ports) in
      let data_count = length_data names in
      let inputs = fit.inputs in
      let fewer = count_by-le-length (λ (x : Vertex). is_input x.kind) g.vertices in
      let most = machine.limits.vertices in
      let clocks = few_clocks names.clock (input_signals names.ports) fit.ports.clock in
      omega (arith, parts, data_count, inputs, fewer, most, clocks)

  pub all_small : first_register g names + length keys + 1 < 2 ^ 32 - 1
  all_small =
      let inputs = inputs_few in
      let bits = logic_bits_few g.memories g.vertices in
      let reads = machine.memories.reads in
      let most = machine.limits.vertices in
      let registers = keys_few g machine keys are in
      omega (arith, inputs, bits, reads, most, registers)

  -- no number behind those of the inputs is the clock
  pub beyond_clock : (b : ℕ) → first_number names ≤ b → is_clock (written_clock names) (Bit b) ≡ false
  beyond_clock b high = by (the_clock names fit.ports)
    where
      by : WrittenClock names → is_clock (written_clock names) (Bit b) ≡ false
      by (unclocked none is) = ap (λ c. is_clock c (Bit b)) is
      by (clocked clock place there low is) =
          ap (λ c. is_clock c (Bit b)) is ∙ apart_from b (2 + place) (omega (arith, low, high))

  pub behind_is_data : (b : ℕ) → first_number names ≤ b → b < first_register g names + length keys
      → IsData (written_clock names) (Bit b)
  behind_is_data b low high =
      let small = all_small in
      bit_is_data (written_clock names) b (omega (arith, low)) (omega (arith, high, small)) (beyond_clock b low)

  -- ---- data inputs

  abbrev IsDataNumber : Signal → Type 0
  IsDataNumber s = IsInRange 2 (length (input_signals names.ports)) s × (is_clock (written_clock names) s ≡ false)

  both : (xs : List Signal) → AllByRecursion (IsInRange 2 (length (input_signals names.ports))) xs
      → AllByRecursion (λ s. is_clock (written_clock names) s ≡ false) xs → AllByRecursion IsDataNumber xs
  both [] h k = tt
  both (x ∷ xs) h k = ((h.0, k.0), both xs h.1 k.1)

  numbers_are : AllByRecursion IsDataNumber (map Bit (data_numbers names))
  numbers_are =
      let all = map Bit (count_from 2 (length (input_signals names.ports))) in
      let same = ap (filter (λ s. not (is_clock (written_clock names) s))) (sym (input_numbers 2 [] names.ports))
      ∙ data_inputs_written names fit.ports [] in
      subst (AllByRecursion IsDataNumber) same
      (both (filter (λ s. not (is_clock (written_clock names) s)) (map Bit (count_from 2 (length (input_signals names.ports)))))
      (all_kept (IsInRange 2 (length (input_signals names.ports))) (λ s. not (is_clock (written_clock names) s))
      (map Bit (count_from 2 (length (input_signals names.ports))))
      (in_range 2 2 (length (input_signals names.ports)) (length (input_signals names.ports)) (omega arith) (omega arith)))
      (passed (is_clock (written_clock names)) (map Bit (count_from 2 (length (input_signals names.ports))))))

  -- ---- drivers

  input_origin : (u : ℕ) (x : Vertex) → slice_get g.vertices u ≡ Some x → is_input x.kind ≡ true
      → DriverOrigin g names u (Bit (get_or (data_numbers names) (inputs_before g.vertices u) 0))
  input_origin u x at input =
      let among = input_among g.vertices u x at input in
      let count = fit.inputs in
      let found = slice_get-get_or (data_numbers names) (inputs_before g.vertices u) 0 (omega (arith, among, count)) in
      let there = has_in_map Bit (data_numbers names) (get_or (data_numbers names) (inputs_before g.vertices u) 0)
      (inputs_before g.vertices u, found) in
      let is = of_all IsDataNumber (map Bit (data_numbers names)) there.0 _ numbers_are there.1 in
      let same : get_or (data_numbers names) (inputs_before g.vertices u) 0 ≡ is.0.number = let e = is.0.is in cc in
      let low = is.0.low in
      let high = is.0.high in
      of_input (get_or (data_numbers names) (inputs_before g.vertices u) 0) refl (omega (arith, low, same)) (omega (arith, high, same)) is.1

  kind_origin : (u o : ℕ) (x : Vertex) (kind : VertexKind) → slice_get g.vertices u ≡ Some x → x.kind ≡ kind
      → o < output_count g.memories kind → DriverOrigin g names u (output_signal g names kind u o)
  kind_origin u o x Host at is low = absurd (omega (arith, low))
  kind_origin u o x Input at is low = input_origin u x at (ap is_input is)
  kind_origin u o x Output at is low = absurd (omega (arith, low))
  kind_origin u o x (Constant b) at is low = of_constant b refl
  kind_origin u o x (Gate kind) at is low =
      let bits = ap (logic_bits g.memories) is in of_logic x o at (omega (arith, low, bits)) refl
  kind_origin u o x (Read memory port) at is low =
      let bits = ap (logic_bits g.memories) is in of_logic x o at (omega (arith, low, bits)) refl
  kind_origin u o x (WritePort memory port) at is low = absurd (omega (arith, low))

  pub driver_origin : (u o : ℕ) → HasOutput g.memories (kinds g.vertices) u o → DriverOrigin g names u (driver_signal g names u o)
  driver_origin u o has =
      let at = map_at (λ (x : Vertex). x.kind) g.vertices u has.kind has.found in
      let same = ap (λ p. unwrap_or (option_map (λ (x : Vertex). output_signal g names x.kind u o) p) Zero) at.1
      ∙ ap (λ kind. output_signal g names kind u o) at.2 in
      subst (DriverOrigin g names u) (sym same) (kind_origin u o at.0 has.kind at.1 at.2 has.among)

  -- ---- registers

  register_origin : (key : RegisterKey) → IsOnEdge (edge_drivers g) (edge_contents g) key
      → (n : ℕ) × (n < length keys) × (Bit (first_register g names + unwrap_or (place_of_key keys key) 0) ≡ Bit (first_register g names + n))
  register_origin key on =
      let at = key_placed g keys are key on in
      (at.0, at.2, ap (λ o. Bit (first_register g names + unwrap_or o 0)) at.1)

  edge_origin : (v e : ℕ) (d : Edge) → slice_get g.edges e ≡ Some d → d.to ≡ v → PinOrigin g names keys v (edge_signal g names keys d)
  edge_origin v e d found to = by d.contents refl
    where
      by : (starts : List Bool) → d.contents ≡ starts
          → PinOrigin g names keys v (signal_behind g names keys starts (record { vertex = d.from; output = d.output; starts = d.contents }))
      by [] is =
          let held = machine.well_formed.held e d found in
          let none = ap length is in
          driven e d found (omega (arith, held, none)) to (driver_origin d.from d.output (machine.outputs e d found))
      by (b ∷ bs) is =
          let some = ap length is in
          let at = register_origin (record { vertex = d.from; output = d.output; starts = d.contents }) (last_on_edge g e d found (omega (arith, some))) in
          registered at.0 at.1 at.2

  pub pin_origin : (v i : ℕ) (x : Vertex) (f : Feed) → slice_get g.vertices v ≡ Some x → slice_get x.pins i ≡ Some f
      → PinOrigin g names keys v (pin_signal g names keys f)
  pin_origin v i x (Tied b) at pin = tied b refl
  pin_origin v i x (Along e) at pin =
      let low = machine.well_formed.fed.named v i e x at pin in
      let has = within_has g.edges e low in
      let to = machine.well_formed.fed.to v i e x has.0 at pin has.1 in
      subst (PinOrigin g names keys v) (sym (ap (λ o. unwrap_or (option_map (edge_signal g names keys) o) Zero) has.1))
      (edge_origin v e has.0 has.1 to)

  -- ---- data

  pub origin_is_data : (u : ℕ) (s : Signal) → DriverOrigin g names u s → IsData (written_clock names) s
  origin_is_data u s (of_constant b is) = subst (IsData (written_clock names)) (sym is) (constant_is_data (written_clock names) b)
  origin_is_data u s (of_input number is low high apart) =
      let small = all_small in
      subst (IsData (written_clock names)) (sym is)
      (bit_is_data (written_clock names) number low (omega (arith, high, small)) apart)
  origin_is_data u s (of_logic x o at low is) =
      let within = part_within (λ (y : Vertex). logic_bits g.memories y.kind) g.vertices u x at in
      subst (IsData (written_clock names)) (sym is)
      (behind_is_data (logic_bit g names u + o) (omega arith) (omega (arith, within, low)))

  pub pin_is_data : (v : ℕ) (s : Signal) → PinOrigin g names keys v s → IsData (written_clock names) s
  pin_is_data v s (tied b is) = subst (IsData (written_clock names)) (sym is) (constant_is_data (written_clock names) b)
  pin_is_data v s (driven e d found none to origin) = origin_is_data d.from s origin
  pin_is_data v s (registered n low is) =
      subst (IsData (written_clock names)) (sym is)
      (behind_is_data (first_register g names + n) (omega arith) (omega (arith, low)))

  -- what a register has at D
  pub source_is_data : (key : RegisterKey) → IsOnEdge (edge_drivers g) (edge_contents g) key
      → IsData (written_clock names) (key_signal g names keys (key_before key))
  source_is_data key on = by (key_before key).starts refl (key_before_is g key on)
    where
      by : (starts : List Bool) → (key_before key).starts ≡ starts
          → (((key_before key).starts ≡ []) ⊎ IsOnEdge (edge_drivers g) (edge_contents g) (key_before key))
          → IsData (written_clock names) (signal_behind g names keys starts (key_before key))
      by [] is before =
          let at = edge_of_key g key on in
          origin_is_data key.vertex (driver_signal g names key.vertex key.output)
          (driver_origin key.vertex key.output
          (subst (λ o. HasOutput g.memories (kinds g.vertices) key.vertex o) at.3
          (subst (λ u. HasOutput g.memories (kinds g.vertices) u at.0.output) at.2 (machine.outputs on.e at.0 at.1))))
      by (b ∷ bs) is (inl none) = let never = sym none ∙ is in absurd (cc)
      by (b ∷ bs) is (inr before) =
          let at = register_origin (key_before key) before in
          subst (IsData (written_clock names)) (sym at.2)
          (let low = at.1 in behind_is_data (first_register g names + at.0) (omega arith) (omega (arith, low)))
