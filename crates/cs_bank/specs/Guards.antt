-- Guards: gates that let a write through only where its address is below the memory's size.
use Rattle.std.specs.Prelude.{ℕ, zero, suc, ◌+◌, ◌-◌, ◌*◌, ◌^◌, nat_lt, if◌then◌else◌, Bool, true, false, Option, List, [], ◌∷◌, ◌++◌, length, map, filter, take, drop}
use Rattle.std.specs.List.{range_with_len}
use Rattle.cs_cells.specs.declared.gate.Kind.TheVariants.{And, AndNot, Not, OrNot}
use Rattle.cs_graph.specs.declared.memory.Memory.{Memory}
use Rattle.cs_graph.specs.declared.source.OpenVertex.{OpenVertex}
use Rattle.cs_graph.specs.declared.source.Source.{Source}
use Rattle.cs_graph.specs.Kinds.{is_write_of}
use Rattle.cs_bank.specs.ContextBits.{digits, gate, wire}

-- ---- the test of an address

-- the gates after vertex v, each with the vertex before it and the next address bit: it keeps whether the address is
-- below the size so far, and the higher digit decides where the two differ
abbrev pub comparison : ℕ → List (Option Source) → List Bool → List OpenVertex
comparison v [] ds = []
comparison v (a ∷ address) [] = []
comparison v (a ∷ address) (d ∷ ds) =
    gate (if d then OrNot else AndNot) (wire v ∷ a ∷ []) ∷ comparison (v + 1) address ds

-- whether the address is below the size of these digits, from vertex v on: it begins at the lowest digit 1, and its
-- last vertex has the answer
abbrev pub below_size : ℕ → List (Option Source) → List Bool → List OpenVertex
below_size v [] ds = []
below_size v (a ∷ address) [] = []
below_size v (a ∷ address) (true ∷ ds) = gate Not (a ∷ []) ∷ comparison v address ds
below_size v (a ∷ address) (false ∷ ds) = below_size v address ds

-- how many digits there are from the lowest 1 on, which is how many gates test an address
abbrev pub test_count : List Bool → ℕ
test_count [] = 0
test_count (true ∷ ds) = suc (length ds)
test_count (false ∷ ds) = test_count ds

abbrev pub memory_tests : Memory → ℕ
memory_tests m = test_count (digits m.abits m.size)

-- ---- the guard of a write port

-- a memory with addresses that are no words
abbrev pub is_guarded : Memory → Bool
is_guarded m = nat_lt m.size (2 ^ m.abits)

-- how many vertices a guard has: the test, and a gate for each enable bit
abbrev pub guard_count : Memory → ℕ
guard_count m = if is_guarded m then memory_tests m + m.width else 0

-- enable bits where vertex v has 1, else 0
abbrev pub guarded_enables : ℕ → List (Option Source) → List OpenVertex
guarded_enables v enables = map (λ e. gate And (e ∷ wire v ∷ [])) enables

-- the guard of a Write with these pins, from vertex v on
abbrev pub guard_gates : ℕ → Memory → List (Option Source) → List OpenVertex
guard_gates v m pins =
    below_size v (take m.abits pins) (digits m.abits m.size)
    ++ guarded_enables (v + memory_tests m - 1) (drop m.width (drop m.abits pins))

abbrev pub guard : ℕ → Memory → List (Option Source) → List OpenVertex
guard v m pins = if is_guarded m then guard_gates v m pins else []

-- ---- all guards

-- the Writes of memory i, in order of their ports
abbrev pub write_ports : ℕ → List OpenVertex → List OpenVertex
write_ports i vertices = filter (λ x. is_write_of i x.kind) vertices

-- the guards of these Writes of a memory, from vertex v on
abbrev pub port_guards : ℕ → Memory → List OpenVertex → List OpenVertex
port_guards v m [] = []
port_guards v m (x ∷ xs) = guard v m x.pins ++ port_guards (v + guard_count m) m xs

-- how many vertices guard the ports of memory i
abbrev pub port_guard_count : ℕ → Memory → List OpenVertex → ℕ
port_guard_count i m vertices = length (write_ports i vertices) * guard_count m

-- the guards of memories i and on, from vertex v on: memory by memory, and port by port
abbrev pub guards : ℕ → ℕ → List Memory → List OpenVertex → List OpenVertex
guards v i [] vertices = []
guards v i (m ∷ ms) vertices =
    port_guards v m (write_ports i vertices) ++ guards (v + port_guard_count i m vertices) (i + 1) ms vertices

-- where the guards of a memory begin that is so many after memory i, whose guards begin at vertex v
abbrev pub guards_place : ℕ → ℕ → List Memory → List OpenVertex → ℕ → ℕ
guards_place v i [] vertices k = v
guards_place v i (m ∷ ms) vertices zero = v
guards_place v i (m ∷ ms) vertices (suc k) =
    guards_place (v + port_guard_count i m vertices) (i + 1) ms vertices k

-- what the enable pins of a Write read whose guard begins at vertex v
abbrev pub enable_pins : ℕ → Memory → List (Option Source) → List (Option Source)
enable_pins v m enables =
    if is_guarded m then map wire (range_with_len (v + memory_tests m) m.width) else enables
