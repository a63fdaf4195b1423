-- The place of one memory more.
use Rattle.std.proofs.Common.{◌≡◌, ℕ, suc, ◌+◌, ◌*◌, ◌∙◌, ◌++◌, ◌≤◌, Some, [], ◌∷◌, length, map, refl, sym, ap, ap₂, arith}
use Rattle.std.specs.Prelude.{slice_get}
use Rattle.std.specs.List.{range_with_len}
use Rattle.cs_graph.specs.declared.graph.Graph.{Graph}
use Rattle.cs_graph.specs.declared.memory.Memory.{Memory}
use Rattle.cs_graph.specs.Invariant.{IsMachine}
use Rattle.cs_bank.specs.Guards.{guards, guards_place, port_guard_count}
use Rattle.cs_bank.specs.Wired.{wired, wired_vertex}
use Rattle.cs_bank.proofs.GuardPlaces.{width_few}
use Rattle.cs_bank.proofs.MachineWrites.{have_pins, list_count, list_of}
use Rattle.cs_bank.proofs.Pushed.{push_range}
use Rattle.cs_bank.proofs.WriteLists.{few_writes, first_place, length-writes, place_next, place_within}
use Rattle.cs_bank.proofs.vertices.guard_places.Goals as goal

pub loop-i-init : goal.loop-i-init
loop-i-init c = record {
  places = c.new-places.ensures;
  place = sym (first_place c.args.first 0 c.args.machine.now.memories (wired c.args.machine.now).vertices);
}

pub overflow_cast-i : goal.overflow_cast-i
overflow_cast-i c =
    let low = c.loop-i-test.true in
    let count = list_count c.args.machine.now c.keeps.ensures c.args.writes.now c.requires.writes in
    let few = c.keeps.ensures.memories.few in
    omega (arith, low, count, few)

pub overflow_cast-place : goal.overflow_cast-place
overflow_cast-place c =
    let g = c.args.machine.now in
    let low = c.loop-i-test.true in
    let count = list_count g c.keeps.ensures c.args.writes.now c.requires.writes in
    let list = ap length (c.index-writes-i.is ∙ list_of g c.keeps.ensures c.args.writes.now c.loop-i.i
    c.index-writes-i.result c.requires.writes (omega (arith, low, count))) in
    let few = few_writes c.loop-i.i 0 g.vertices in
    let all = c.keeps.ensures.limits.vertices in
    let len = c.len.ensures in
    omega (arith, list, few, all, len)

pub memory-requires : goal.memory-requires
memory-requires c =
    let low = c.loop-i-test.true in
    let count = list_count c.args.machine.now c.keeps.ensures c.args.writes.now c.requires.writes in
    let new = c.new.ensures in
    omega (arith, low, count, new)

pub guard_count-requires-clause-few : goal.guard_count-requires-clause-few
guard_count-requires-clause-few c =
    let is = c.keeps.ensures.memories.each c.new.result c.memory.result.now c.memory.ensures in
    let width = width_few c.memory.result.now is in
    let bits = is.address_bits in
    omega (arith, width, bits)

-- the guards of memory i end within all guards
ends : (g : Graph) (is : IsMachine g) (first i : ℕ) (m : Memory) → slice_get g.memories i ≡ Some m
    → first + length (guards first 0 g.memories (wired g).vertices) ≤ 4096
    → guards_place first 0 g.memories (wired g).vertices i + port_guard_count i m (wired g).vertices ≤ 4096
ends g is first i m at few =
    let ws = (wired g).vertices in
    let none : 0 + i ≡ i = omega arith in
    let next = place_next first 0 g.memories ws i m at in
    let same = ap (λ j. port_guard_count j m ws) none in
    let within = place_within first 0 g.memories ws (suc i) (have_pins g is) in
    omega (arith, next, same, within, few)

pub overflow_mul-place : goal.overflow_mul-place
overflow_mul-place c =
    let g = c.args.machine.now in
    let ws = (wired g).vertices in
    let m = c.memory.result.now in
    let low = c.loop-i-test.true in
    let count = list_count g c.keeps.ensures c.args.writes.now c.requires.writes in
    let list = ap length (c.index-writes-i.is ∙ list_of g c.keeps.ensures c.args.writes.now c.loop-i.i
    c.index-writes-i.result c.requires.writes (omega (arith, low, count)))
    ∙ length-writes (wired_vertex g.edges) (λ x. refl) c.loop-i.i 0 g.vertices in
    let product : c.len.result * c.guard_count.result ≡ port_guard_count c.loop-i.i m ws =
    ap₂ (λ a b. a * b) (c.len.ensures ∙ list) c.guard_count.ensures in
    let few = ends g c.keeps.ensures c.args.first c.loop-i.i m
    (ap (slice_get g.memories) (sym c.new.ensures) ∙ c.memory.ensures) c.requires.few in
    omega (arith, product, few)

pub overflow_add-place : goal.overflow_add-place
overflow_add-place c =
    let g = c.args.machine.now in
    let ws = (wired g).vertices in
    let m = c.memory.result.now in
    let low = c.loop-i-test.true in
    let count = list_count g c.keeps.ensures c.args.writes.now c.requires.writes in
    let list = ap length (c.index-writes-i.is ∙ list_of g c.keeps.ensures c.args.writes.now c.loop-i.i
    c.index-writes-i.result c.requires.writes (omega (arith, low, count)))
    ∙ length-writes (wired_vertex g.edges) (λ x. refl) c.loop-i.i 0 g.vertices in
    let product : c.len.result * c.guard_count.result ≡ port_guard_count c.loop-i.i m ws =
    ap₂ (λ a b. a * b) (c.len.ensures ∙ list) c.guard_count.ensures in
    let few = ends g c.keeps.ensures c.args.first c.loop-i.i m
    (ap (slice_get g.memories) (sym c.new.ensures) ∙ c.memory.ensures) c.requires.few in
    let place = c.loop-i.invariant.place in
    omega (arith, product, few, place)

pub loop-i-preserved : goal.loop-i-preserved
loop-i-preserved c =
    let g = c.args.machine.now in
    let ws = (wired g).vertices in
    let i = c.loop-i.i in
    let first = c.args.first in
    let m = c.memory.result.now in
    let low = c.loop-i-test.true in
    let count = list_count g c.keeps.ensures c.args.writes.now c.requires.writes in
    let list = ap length (c.index-writes-i.is ∙ list_of g c.keeps.ensures c.args.writes.now i
    c.index-writes-i.result c.requires.writes (omega (arith, low, count)))
    ∙ length-writes (wired_vertex g.edges) (λ x. refl) i 0 g.vertices in
    let at = ap (slice_get g.memories) (sym c.new.ensures) ∙ c.memory.ensures in
    let none : 0 + i ≡ i = omega arith in
    let one : suc i ≡ i + 1 = omega arith in
    record {
      places = push_range (guards_place first 0 g.memories ws) 0 i i [] c.loop-i.places c.push.new.self none
          c.loop-i.invariant.places
          (c.in_ok-push.ensures.ok ∙ ap (λ p. c.loop-i.places ++ p ∷ []) c.loop-i.invariant.place);
      place = ap₂ (λ a b. a + b) c.loop-i.invariant.place
          (ap₂ (λ a b. a * b) (c.len.ensures ∙ list) c.guard_count.ensures)
          ∙ ap (λ j. guards_place first 0 g.memories ws i + port_guard_count j m ws) (sym none)
          ∙ sym (place_next first 0 g.memories ws i m at)
          ∙ ap (guards_place first 0 g.memories ws) one;
    }

pub returns : goal.returns
returns c =
    let g = c.args.machine.now in
    let all = c.loop-i-test.false in
    let most = c.loop-i.auto.i-end in
    let count = list_count g c.keeps.ensures c.args.writes.now c.requires.writes in
    let same : c.loop-i.i ≡ length g.memories = omega (arith, all, most, count) in
    c.loop-i.invariant.places
    ∙ ap (λ n. map (guards_place c.args.first 0 g.memories (wired g).vertices) (range_with_len 0 n)) same
