-- The bits of a machine's circuit have places: those that a vertex drives have the vertex's, all others come before.
use Rattle.std.proofs.Common.{◌≡◌, ◌∙◌, ℕ, zero, suc, ◌+◌, ◌-◌, ◌<◌, ◌≤◌, List, [], ◌∷◌, take, Bool, true, false, cond, Some, ap, arith, refl, subst}
use Rattle.std.specs.Prelude.{IsTrue, if◌then◌else◌, nat_lt, slice_get}
use Rattle.std.proofs.lemmas.Bool.Decides.{nat_tests}
use Rattle.std.proofs.lemmas.List.Sums.{sum_by-cons}
use Rattle.std.proofs.lemmas.Option.{none-some, same_Some}
use Rattle.cs_base.specs.declared.signal.Signal.TheVariants.{Bit}
use Rattle.cs_circuit.specs.WellFormed.{HasPlaces}
use Rattle.cs_circuit.proofs.NetBits.{bit_is}
use Rattle.cs_graph.specs.declared.graph.Graph.{Graph}
use Rattle.cs_graph.specs.declared.memory.Memory.{Memory}
use Rattle.cs_graph.specs.declared.vertex.Vertex.{Vertex}
use Rattle.cs_graph.specs.Invariant.{HasOrder, IsMachine}
use Rattle.cs_modules.specs.Signals.{holds_bit, is_bit}
use Rattle.cs_net.proofs.MemoryPlaces.{map_at}
use Rattle.cs_prefix.specs.Prefixes.{RegisterKey}
use Rattle.cs_share.specs.declared.types.Names.{Names}
use Rattle.cs_share.specs.Ports.{first_number}
use Rattle.cs_share.specs.Registers.{AreRegisters}
use Rattle.cs_share.specs.Shared.{all_logic_bits, circuit_with, constant, first_register, logic_bit, logic_bits, pin_signal, pin_signals}
use Rattle.cs_share.proofs.CircuitKeys.{has_any}
use Rattle.cs_share.proofs.CircuitParts.{gate_origin, read_bit_origin}
use Rattle.cs_share.proofs.CircuitSignals.{AreCircuitNames, DriverOrigin, PinOrigin, driven, of_constant, of_input, of_logic, pin_origin, registered, tied}

-- the place of a bit among those that vertices drive, the first of which is vertex v, and 0 behind them
abbrev pub place_among : List Memory → (ℕ → ℕ) → ℕ → List Vertex → ℕ → ℕ
place_among memories place v [] b = 0
place_among memories place v (x ∷ xs) b =
    if nat_lt b (logic_bits memories x.kind) then 1 + place v
    else place_among memories place (v + 1) xs (b - logic_bits memories x.kind)

-- 1 and the place of the vertex that drives the bit, 0 where none does
abbrev pub bit_place : Graph → Names → (ℕ → ℕ) → ℕ → ℕ
bit_place g names place b =
    if nat_lt b (first_number names) then 0
    else place_among g.memories place 0 g.vertices (b - first_number names)

below : (a b : ℕ) → a < b → nat_lt a b ≡ true
below a b less = grind (arith, nat_tests)

not_below : (a b : ℕ) → b ≤ a → nat_lt a b ≡ false
not_below a b more = grind (arith, nat_tests)

module _ (memories : List Memory) (place : ℕ → ℕ) where
  place_here : (v : ℕ) (x : Vertex) (xs : List Vertex) (b : ℕ) → b < logic_bits memories x.kind
      → place_among memories place v (x ∷ xs) b ≡ 1 + place v
  place_here v x xs b less =
      ap (λ t. cond t (1 + place v) (place_among memories place (v + 1) xs (b - logic_bits memories x.kind)))
      (below b (logic_bits memories x.kind) less)

  place_later : (v : ℕ) (x : Vertex) (xs : List Vertex) (b : ℕ) → logic_bits memories x.kind ≤ b
      → place_among memories place v (x ∷ xs) b
      ≡ place_among memories place (v + 1) xs (b - logic_bits memories x.kind)
  place_later v x xs b more =
      ap (λ t. cond t (1 + place v) (place_among memories place (v + 1) xs (b - logic_bits memories x.kind)))
      (not_below b (logic_bits memories x.kind) more)

  place_at : (u : ℕ) (xs : List Vertex) (v : ℕ) (x : Vertex) (o : ℕ) → slice_get xs v ≡ Some x
      → o < logic_bits memories x.kind
      → place_among memories place u xs (all_logic_bits memories (take v xs) + o) ≡ 1 + place (u + v)
  place_at u [] v x o at low = absurd (none-some x at)
  place_at u (y ∷ xs) zero x o at low =
      let same = ap (λ (z : Vertex). logic_bits memories z.kind) (same_Some y x at) in
      let here : u ≡ u + 0 = omega arith in
      place_here u y xs (0 + o) (omega (arith, low, same)) ∙ ap (λ n. 1 + place n) here
  place_at u (y ∷ xs) (suc v) x o at low =
      let sum = sum_by-cons (λ (z : Vertex). logic_bits memories z.kind) y (take v xs) in
      let left : all_logic_bits memories (take (suc v) (y ∷ xs)) + o - logic_bits memories y.kind
      ≡ all_logic_bits memories (take v xs) + o = omega (arith, sum) in
      let next : u + 1 + v ≡ u + suc v = omega arith in
      place_later u y xs (all_logic_bits memories (take (suc v) (y ∷ xs)) + o) (omega (arith, sum))
      ∙ ap (place_among memories place (u + 1) xs) left ∙ place_at (u + 1) xs v x o at low
      ∙ ap (λ n. 1 + place n) next

  place_behind : (u : ℕ) (xs : List Vertex) (b : ℕ) → all_logic_bits memories xs ≤ b
      → place_among memories place u xs b ≡ 0
  place_behind u [] b more = refl
  place_behind u (y ∷ xs) b more =
      let sum = sum_by-cons (λ (z : Vertex). logic_bits memories z.kind) y xs in
      place_later u y xs b (omega (arith, sum, more))
      ∙ place_behind (u + 1) xs (b - logic_bits memories y.kind) (omega (arith, sum, more))

module _ (g : Graph) (names : Names) (place : ℕ → ℕ) where
  place_of_input : (b : ℕ) → b < first_number names → bit_place g names place b ≡ 0
  place_of_input b low =
      ap (λ t. cond t 0 (place_among g.memories place 0 g.vertices (b - first_number names)))
      (below b (first_number names) low)

  behind_inputs : (b : ℕ) → first_number names ≤ b
      → bit_place g names place b ≡ place_among g.memories place 0 g.vertices (b - first_number names)
  behind_inputs b high =
      ap (λ t. cond t 0 (place_among g.memories place 0 g.vertices (b - first_number names)))
      (not_below b (first_number names) high)

  pub place_of_vertex : (v o : ℕ) (x : Vertex) → slice_get g.vertices v ≡ Some x
      → o < logic_bits g.memories x.kind
      → bit_place g names place (logic_bit g names v + o) ≡ 1 + place v
  place_of_vertex v o x at low =
      let left : logic_bit g names v + o - first_number names
      ≡ all_logic_bits g.memories (take v g.vertices) + o = omega arith in
      let none : 0 + v ≡ v = omega arith in
      behind_inputs (logic_bit g names v + o) (omega arith)
      ∙ ap (place_among g.memories place 0 g.vertices) left ∙ place_at g.memories place 0 g.vertices v x o at low
      ∙ ap (λ n. 1 + place n) none

  place_of_register : (n : ℕ) → bit_place g names place (first_register g names + n) ≡ 0
  place_of_register n =
      behind_inputs (first_register g names + n) (omega arith)
      ∙ place_behind g.memories place 0 g.vertices (first_register g names + n - first_number names) (omega arith)

no_bit : (b : Bool) (a : ℕ) → Bit a ≡ constant b → ⊥
no_bit true a h = cc
no_bit false a h = cc

number_is : (a b : ℕ) → Bit a ≡ Bit b → a ≡ b
number_is a b h = cc

module _ (g : Graph) (machine : IsMachine g) (keys : List RegisterKey) (are : AreRegisters g keys) (names : Names)
    (fit : AreCircuitNames g keys names) (order : HasOrder g) where
  abbrev place : ℕ → ℕ
  place b = bit_place g names order.place b

  driver_before : (u v a : ℕ) → order.place u < order.place v → DriverOrigin g names u (Bit a)
      → place a < 1 + order.place v
  driver_before u v a less (of_constant b is) = absurd (no_bit b a is)
  driver_before u v a less (of_input number is low high apart) =
      let here = ap place (number_is a number is) ∙ place_of_input g names order.place number high in
      omega (arith, here)
  driver_before u v a less (of_logic x o at low is) =
      let here = ap place (number_is a (logic_bit g names u + o) is)
      ∙ place_of_vertex g names order.place u o x at low in
      omega (arith, here, less)

  pin_before : (v a : ℕ) → PinOrigin g names keys v (Bit a) → place a < 1 + order.place v
  pin_before v a (tied b is) = absurd (no_bit b a is)
  pin_before v a (driven e d found none to origin) =
      let less = order.below e d found none in
      driver_before d.from v a (subst (λ w. order.place d.from < order.place w) to less) origin
  pin_before v a (registered n low is) =
      let here = ap place (number_is a (first_register g names + n) is)
      ∙ place_of_register g names order.place n in
      omega (arith, here)

  pins_before : (v a : ℕ) (x : Vertex) → slice_get g.vertices v ≡ Some x
      → IsTrue (holds_bit a (pin_signals g names keys x))
      → place a < 1 + order.place v
  pins_before v a x at holds =
      let one = has_any (is_bit a) (pin_signals g names keys x) holds in
      let pin = map_at (pin_signal g names keys) x.pins one.1.0 one.0 one.1.1 in
      pin_before v a
      (subst (PinOrigin g names keys v) (pin.2 ∙ bit_is a one.0 one.2)
      (pin_origin g machine keys are names fit v one.1.0 x pin.0 at pin.1))

  pub have_places : HasPlaces (circuit_with g keys names)
  have_places = record {
    place = place;
    gates = λ p a part found holds.
        let here = gate_origin g names keys p part found in
        let was = here.was_kept in
        let bits = ap (logic_bits g.memories) here.kind in
        let before = pins_before was.place a was.thing was.at
        (subst (λ pins. IsTrue (holds_bit a pins)) here.pins holds) in
        let bit = place_of_vertex g names order.place was.place 0 was.thing was.at (omega (arith, bits)) in
        let none : logic_bit g names was.place ≡ logic_bit g names was.place + 0 = omega arith in
        let output = ap place (here.output ∙ none) in
        omega (arith, before, bit, output);
    reads = λ i j o b a bit holds.
        let here = read_bit_origin g names keys i j o b bit in
        let was = here.origin.was_kept in
        let before = pins_before was.place a was.thing was.at
        (subst (λ pins. IsTrue (holds_bit a pins)) here.address_is holds) in
        let driven_bit = place_of_vertex g names order.place was.place o was.thing was.at here.among in
        let same = ap place here.is in
        omega (arith, before, driven_bit, same);
  }
