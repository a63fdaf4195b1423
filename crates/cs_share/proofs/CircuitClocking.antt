-- A machine's circuit has a clock just where something is clocked.
use Rattle.std.proofs.Common.{◌≡◌, ◌∙◌, ℕ, suc, ◌<◌, List, [], ◌∷◌, length, Bool, true, false, ◌&&◌, ◌||◌, cond, Some, None, ap, arith, map, not, refl, sym}
use Rattle.std.specs.Prelude.{◌==◌, is_some, slice_get}
use Rattle.std.specs.List.{enumerate_from, list_any}
use Rattle.std.proofs.lemmas.Bool.Decides.{nat_tests}
use Rattle.cs_circuit.specs.declared.circuit.MemoryPart.{MemoryPart}
use Rattle.cs_circuit.specs.declared.circuit.RegisterPart.{RegisterPart}
use Rattle.cs_circuit.specs.declared.circuit.WritePart.{WritePart}
use Rattle.cs_circuit.specs.WellFormed.{Clocking, clocked as clocked_circuit, is_clocked, unclocked as unclocked_circuit}
use Rattle.cs_graph.specs.declared.graph.Graph.{Graph}
use Rattle.cs_graph.specs.declared.memory.Memory.{Memory}
use Rattle.cs_graph.specs.declared.vertex.Vertex.{Vertex}
use Rattle.cs_graph.specs.declared.vertex.VertexKind.{VertexKind}
use Rattle.cs_graph.specs.declared.vertex.VertexKind.TheVariants.{Host, Input, Output, Constant, Gate, Read, Write as WritePort}
use Rattle.cs_graph.specs.Invariant.{HasMemory, IsMachine}
use Rattle.cs_net.proofs.Members.{any_of, has_in_map, of_all, within_has}
use Rattle.cs_net.proofs.MemoryPlaces.{at_map}
use Rattle.cs_prefix.specs.Prefixes.{RegisterKey}
use Rattle.cs_share.specs.declared.types.Names.{Names}
use Rattle.cs_share.specs.Shared.{circuit_with, has_some, has_write, is_write, memory_part, pin_signals, register_part, write_by, write_of_pins, write_part}
use Rattle.cs_share.proofs.CircuitApart.{input_count_is}
use Rattle.cs_share.proofs.CircuitKept.{entry_there, kept_nothing, kept_there}
use Rattle.cs_share.proofs.CircuitKeys.{has_any}
use Rattle.cs_share.proofs.CircuitNames.{none_passes}
use Rattle.cs_share.proofs.CircuitParts.{memory_origin}
use Rattle.cs_share.proofs.CircuitPorts.{WrittenClock, clocked, the_clock, unclocked}
use Rattle.cs_share.proofs.CircuitSignals.{AreCircuitNames}

-- ---- lists

any_none : {A : Type 0} (test : A → Bool) (xs : List A)
    → ((i : ℕ) (x : A) → slice_get xs i ≡ Some x → test x ≡ false)
    → list_any test xs ≡ false
any_none test [] none = refl
any_none test (x ∷ xs) none =
    ap (λ t. t || list_any test xs) (none 0 x refl) ∙ any_none test xs (λ i y at. none (suc i) y at)

some_any : {A : Type 0} (xs : List A) → list_any (λ x. true) xs ≡ has_some xs
some_any [] = refl
some_any (x ∷ xs) = refl

some_map : {A B : Type 0} (f : A → B) (xs : List A) → has_some (map f xs) ≡ has_some xs
some_map f [] = refl
some_map f (x ∷ xs) = refl

either_way : (a b c : Bool) → a ≡ true → (a || b || c) ≡ true
either_way true b c h = refl
either_way false b c h = absurd (cc)

second_way : (a b c : Bool) → b ≡ true → (a || b || c) ≡ true
second_way true b c h = refl
second_way false true c h = refl
second_way false false c h = absurd (cc)

last_way : (a b c : Bool) → c ≡ true → (a || b || c) ≡ true
last_way true b c h = refl
last_way false true c h = refl
last_way false false c h = h

no_way : (a b c : Bool) → a ≡ false → b ≡ false → c ≡ false → (a || b || c) ≡ false
no_way true b c h k l = absurd (cc)
no_way false true c h k l = absurd (cc)
no_way false false c h k l = l

same_number : (a : ℕ) → (a == a) ≡ true
same_number a = grind (arith, nat_tests)

-- ---- write ports

not_written : (g : Graph) (names : Names) (keys : List RegisterKey) (i : ℕ) (m : Memory) (x : Vertex)
    (kind : VertexKind)
    → is_write kind ≡ false → write_by g names keys i m x kind ≡ None
not_written g names keys i m x Host h = refl
not_written g names keys i m x Input h = refl
not_written g names keys i m x Output h = refl
not_written g names keys i m x (Constant b) h = refl
not_written g names keys i m x (Gate gate) h = refl
not_written g names keys i m x (Read memory port) h = refl
not_written g names keys i m x (WritePort memory port) h = absurd (cc)

-- the memory of a write port
record WritesTo (g : Graph) (x : Vertex) : Type 0 where
  memory : ℕ
  port : ℕ
  kind : x.kind ≡ WritePort memory port
  low : memory < length g.memories

module _ (g : Graph) (machine : IsMachine g) (keys : List RegisterKey) (names : Names) where
  writes_to : (v : ℕ) (x : Vertex) → slice_get g.vertices v ≡ Some x → is_write x.kind ≡ true → WritesTo g x
  writes_to v x at writes = by x.kind refl writes
      (machine.memories.there v x.kind (at_map (λ (y : Vertex). y.kind) g.vertices v x at))
    where
      by : (kind : VertexKind) → x.kind ≡ kind → is_write kind ≡ true → HasMemory g.memories kind → WritesTo g x
      by Host is h there = absurd (cc)
      by Input is h there = absurd (cc)
      by Output is h there = absurd (cc)
      by (Constant b) is h there = absurd (cc)
      by (Gate gate) is h there = absurd (cc)
      by (Read memory port) is h there = absurd (cc)
      by (WritePort memory port) is h there = record { memory = memory; port = port; kind = is; low = there }

  abbrev any_writes : Bool
  any_writes =
      list_any (λ (m : MemoryPart). list_any (λ (w : WritePart). true) m.writes)
      (circuit_with g keys names).memories

  no_writes : has_write g ≡ false → any_writes ≡ false
  no_writes none =
      any_none (λ (m : MemoryPart). list_any (λ (w : WritePart). true) m.writes)
      (circuit_with g keys names).memories
      (λ i part found. let origin = memory_origin g names keys i part found in
      ap (λ (m : MemoryPart). list_any (λ (w : WritePart). true) m.writes) origin.is
      ∙ ap (list_any (λ (w : WritePart). true))
      (kept_nothing (write_part g names keys i origin.memory) g.vertices
      (λ v x at. not_written g names keys i origin.memory x x.kind
      (of_all (λ (y : Vertex). is_write y.kind ≡ false) g.vertices v x
      (none_passes (λ (y : Vertex). is_write y.kind) g.vertices none) at))))

  some_writes : has_write g ≡ true → any_writes ≡ true
  some_writes some =
      let one = has_any (λ (x : Vertex). is_write x.kind) g.vertices some in
      let x = one.0 in
      let to = writes_to one.1.0 x one.1.1 one.2 in
      let memory = within_has g.memories to.memory to.low in
      let part = has_in_map (memory_part g names keys) (enumerate_from 0 g.memories) (to.memory, memory.0)
      (entry_there g.memories to.memory memory.0 memory.1) in
      let write = kept_there (write_part g names keys to.memory memory.0) g.vertices one.1.0 x
      (write_of_pins memory.0 (pin_signals g names keys x)) one.1.1
      (ap (write_by g names keys to.memory memory.0 x) to.kind
      ∙ ap (λ t. cond t (Some (write_of_pins memory.0 (pin_signals g names keys x))) None)
      (same_number to.memory)) in
      any_of (λ (m : MemoryPart). list_any (λ (w : WritePart). true) m.writes)
      (circuit_with g keys names).memories
      (memory_part g names keys (to.memory, memory.0)) part
      (any_of (λ (w : WritePart). true) (memory_part g names keys (to.memory, memory.0)).writes
      (write_of_pins memory.0 (pin_signals g names keys x)) write refl)

  -- ---- the clock

  registers_any : list_any (λ (r : RegisterPart). true) (circuit_with g keys names).registers ≡ has_some keys
  registers_any = some_any (map (register_part g names keys) keys) ∙ some_map (register_part g names keys) keys

  nothing_clocked : has_some keys ≡ false → has_write g ≡ false → is_some names.clock ≡ false
      → is_clocked (circuit_with g keys names) ≡ false
  nothing_clocked no_keys none no_clock =
      no_way _ any_writes _ (registers_any ∙ no_keys) (no_writes none)
      (ap (λ t. t && not (has_some keys) && not (has_write g)) no_clock)

  all_clocked : is_some names.clock ≡ true → is_clocked (circuit_with g keys names) ≡ true
  all_clocked clock = by (has_some keys) (has_write g) refl refl
    where
      by : (t u : Bool) → has_some keys ≡ t → has_write g ≡ u → is_clocked (circuit_with g keys names) ≡ true
      by true u t is = either_way _ any_writes _ (registers_any ∙ t)
      by false true t is = second_way _ any_writes _ (some_writes is)
      by false false t is =
          last_way _ any_writes _
          (ap (λ b. b && not (has_some keys) && not (has_write g)) clock
          ∙ ap (λ b. not b && not (has_write g)) t ∙ ap not is)

  no_true : (t : Bool) → (t ≡ true → false ≡ true) → t ≡ false
  no_true true h = sym (h refl)
  no_true false h = refl

  pub clocking : AreCircuitNames g keys names → Clocking (circuit_with g keys names)
  clocking fit = by (the_clock names fit.ports)
    where
      by : WrittenClock names → Clocking (circuit_with g keys names)
      by (unclocked none is) =
          let no_clock = ap (is_some) none in
          unclocked_circuit
          (nothing_clocked (no_true (has_some keys) (λ h. sym no_clock ∙ fit.registers h))
          (no_true (has_write g) (λ h. sym no_clock ∙ fit.writes h)) no_clock) is
      by (clocked clock place there low is) =
          let inputs = input_count_is g keys names in
          clocked_circuit place clock.rising (all_clocked (ap (is_some) there)) (omega (arith, low, inputs)) is
