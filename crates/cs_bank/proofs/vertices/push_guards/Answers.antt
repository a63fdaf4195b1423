-- The guards of one memory more.
use Rattle.std.proofs.Common.{◌≡◌, ℕ, ◌+◌, ◌∙◌, ◌++◌, ◌≤◌, length, sym, ap, subst, arith, length-append}
use Rattle.std.specs.Prelude.{slice_get}
use Rattle.cs_bank.specs.Guards.{guards, port_guards, write_ports}
use Rattle.cs_bank.specs.Wired.{wired}
use Rattle.cs_bank.specs.WritePlaces.{writes_from}
use Rattle.cs_bank.proofs.Counted.{drop_past}
use Rattle.cs_bank.proofs.Lists.{append_none, there}
use Rattle.cs_bank.proofs.MachineWrites.{have_pins, list_count, list_of}
use Rattle.cs_bank.proofs.WriteLists.{memory_room, memory_step}
use Rattle.cs_bank.proofs.vertices.push_guards.Goals as goal

none : (n : ℕ) → 0 + n ≡ n
none n = omega arith

pub overflow_cast-i : goal.overflow_cast-i
overflow_cast-i c =
    let low = c.loop-i-test.true in
    let count = list_count c.args.machine.now c.keeps.ensures c.args.writes.now c.requires.writes in
    let few = c.keeps.ensures.memories.few in
    omega (arith, low, count, few)

pub push_port_guards-requires-clause-writes : goal.push_port_guards-requires-clause-writes
push_port_guards-requires-clause-writes c =
    let g = c.args.machine.now in
    let low = c.loop-i-test.true in
    let count = list_count g c.keeps.ensures c.args.writes.now c.requires.writes in
    c.as_slice.ensures
    ∙ c.index-writes-i.is
    ∙ list_of g c.keeps.ensures c.args.writes.now c.loop-i.i c.index-writes-i.result c.requires.writes
    (omega (arith, low, count))
    ∙ ap (λ j. writes_from j 0 g.vertices) (sym c.new.ensures)

pub push_port_guards-requires-clause-whole : goal.push_port_guards-requires-clause-whole
push_port_guards-requires-clause-whole c = λ m at. c.requires.whole c.new.result m at

pub push_port_guards-requires-clause-there : goal.push_port_guards-requires-clause-there
push_port_guards-requires-clause-there c =
    let low = c.loop-i-test.true in
    let count = list_count c.args.machine.now c.keeps.ensures c.args.writes.now c.requires.writes in
    let new = c.new.ensures in
    omega (arith, low, count, new)

pub push_port_guards-requires-clause-few : goal.push_port_guards-requires-clause-few
push_port_guards-requires-clause-few c = λ m at.
    let g = c.args.machine.now in
    let ws = (wired g).vertices in
    let items = c.loop-i.vertices.items in
    let old = c.args.vertices.now.items in
    let whole = old ++ guards (length old) 0 g.memories ws in
    let sum = length-append old (guards (length old) 0 g.memories ws) in
    let few = c.requires.few in
    subst (λ i. length items + length (port_guards (length items) m (write_ports i ws)) ≤ 4096) (sym c.new.ensures)
    (memory_room g.memories ws c.loop-i.i m items whole 4096
    (ap (slice_get g.memories) (sym c.new.ensures) ∙ at) c.loop-i.invariant.so_far (omega (arith, sum, few)))

pub loop-i-preserved : goal.loop-i-preserved
loop-i-preserved c =
    let g = c.args.machine.now in
    let ws = (wired g).vertices in
    let i = c.loop-i.i in
    let items = c.loop-i.vertices.items in
    let old = c.args.vertices.now.items in
    let low = c.loop-i-test.true in
    let count = list_count g c.keeps.ensures c.args.writes.now c.requires.writes in
    let memory = there g.memories i (omega (arith, low, count)) in
    let m = memory.0 in
    let pushed = c.in_ok-push_port_guards.ensures m (ap (slice_get g.memories) c.new.ensures ∙ memory.1)
    ∙ ap (λ j. items ++ port_guards (length items) m (write_ports j ws)) c.new.ensures in
    let sum = ap length pushed ∙ length-append items (port_guards (length items) m (write_ports i ws)) in
    let some = c.loop-i.invariant.some in
    record {
      some = omega (arith, sum, some);
      so_far = memory_step g.memories ws i m old items c.push_port_guards.new.vertices.items memory.1
          (λ p x at. have_pins g c.keeps.ensures i p m x memory.1
          (ap (λ j. slice_get (write_ports j ws) p) (none i) ∙ at)) c.loop-i.invariant.so_far pushed;
    }

pub returns : goal.returns
returns c =
    let g = c.args.machine.now in
    let ws = (wired g).vertices in
    let items = c.loop-i.vertices.items in
    let all = c.loop-i-test.false in
    let count = list_count g c.keeps.ensures c.args.writes.now c.requires.writes in
    let past = drop_past g.memories c.loop-i.i (omega (arith, all, count)) in
    sym (append_none items)
    ∙ ap (λ rest. items ++ guards (length items) c.loop-i.i rest ws) (sym past)
    ∙ c.loop-i.invariant.so_far
