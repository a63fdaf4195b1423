-- The guard of one port more.
use Rattle.std.proofs.Common.{◌≡◌, ℕ, ◌+◌, ◌∙◌, ◌++◌, length, map, drop, refl, sym, ap, subst, arith, length-append}
use Rattle.std.specs.Prelude.{slice_get}
use Rattle.std.proofs.lemmas.Option.{same_Some, slice_get_read, slice_get_within}
use Rattle.cs_graph.specs.declared.vertex.Vertex.{Vertex}
use Rattle.cs_bank.specs.Guards.{guard, port_guards, write_ports}
use Rattle.cs_bank.specs.Wired.{feed_source, wired, wired_vertex}
use Rattle.cs_bank.proofs.Counted.{drop_past}
use Rattle.cs_bank.proofs.Lists.{append_none}
use Rattle.cs_bank.proofs.MachineWrites.{have_pins, listed}
use Rattle.cs_bank.proofs.WriteLists.{length-writes, port_step, within_whole}
use Rattle.cs_bank.proofs.vertices.push_port_guards.Goals as goal

none : (n : ℕ) → 0 + n ≡ n
none n = omega arith

pub vertex-write-requires : goal.vertex-write-requires
vertex-write-requires c =
    let g = c.args.machine.now in
    let writes = c.args.writes.now in
    let found = slice_get_read writes (length writes) c.loop-v.v-index c.v-item.result refl c.loop-v-test.true
    c.v-item.is in
    let l = listed g c.keeps.ensures c.args.i c.loop-v.v-index c.v-item.result c.memory-memory.result.now
    (ap (λ ws. slice_get ws c.loop-v.v-index) (sym c.requires.writes) ∙ found) c.memory-memory.ensures in
    slice_get_within g.vertices c.v-item.result l.x l.found

pub push_guard-requires-clause-pins : goal.push_guard-requires-clause-pins
push_guard-requires-clause-pins c =
    let g = c.args.machine.now in
    let writes = c.args.writes.now in
    let found = slice_get_read writes (length writes) c.loop-v.v-index c.v-item.result refl c.loop-v-test.true
    c.v-item.is in
    let l = listed g c.keeps.ensures c.args.i c.loop-v.v-index c.v-item.result c.memory-memory.result.now
    (ap (λ ws. slice_get ws c.loop-v.v-index) (sym c.requires.writes) ∙ found) c.memory-memory.ensures in
    let same = same_Some l.x c.vertex-write.result.now (sym l.found ∙ c.vertex-write.ensures) in
    ap length c.as_slice.ensures ∙ ap (λ (x : Vertex). length x.pins) (sym same) ∙ l.pins

pub push_guard-requires-clause-few : goal.push_guard-requires-clause-few
push_guard-requires-clause-few c =
    let g = c.args.machine.now in
    let m = c.memory-memory.result.now in
    let ports = write_ports c.args.i (wired g).vertices in
    let items = c.loop-v.vertices.items in
    let old = c.args.vertices.now.items in
    let sum = length-append old (port_guards (length old) m ports) in
    let most = c.requires.few m c.memory-memory.ensures in
    let few = within_whole items (port_guards (length items) m (drop c.loop-v.v-index ports))
    (old ++ port_guards (length old) m ports) 4096 (c.loop-v.invariant.so_far m c.memory-memory.ensures)
    (omega (arith, sum, most)) in
    let is = c.keeps.ensures.memories.each c.args.i m c.memory-memory.ensures in
    let bits = is.address_bits in
    omega (arith, few, bits)

pub loop-v-preserved : goal.loop-v-preserved
loop-v-preserved c =
    let g = c.args.machine.now in
    let m = c.memory-memory.result.now in
    let writes = c.args.writes.now in
    let fs = feed_source g.edges in
    let ports = write_ports c.args.i (wired g).vertices in
    let items = c.loop-v.vertices.items in
    let old = c.args.vertices.now.items in
    let found = slice_get_read writes (length writes) c.loop-v.v-index c.v-item.result refl c.loop-v-test.true
    c.v-item.is in
    let l = listed g c.keeps.ensures c.args.i c.loop-v.v-index c.v-item.result m
    (ap (λ ws. slice_get ws c.loop-v.v-index) (sym c.requires.writes) ∙ found) c.memory-memory.ensures in
    let same = same_Some l.x c.vertex-write.result.now (sym l.found ∙ c.vertex-write.ensures) in
    let pins = c.as_slice.ensures ∙ ap (λ (x : Vertex). x.pins) (sym same) in
    let pushed = c.in_ok-push_guard.ensures
    ∙ ap (λ ps. items ++ guard (length items) m (map fs ps)) pins in
    let are = have_pins g c.keeps.ensures c.args.i c.loop-v.v-index m (wired_vertex g.edges l.x) c.memory-memory.ensures
    (ap (λ j. slice_get (write_ports j (wired g).vertices) c.loop-v.v-index) (none c.args.i) ∙ l.at) in
    let sum = ap length pushed ∙ length-append items (guard (length items) m (map fs l.x.pins)) in
    let some = c.loop-v.invariant.some in
    record {
      some = omega (arith, sum, some);
      so_far = λ m' at.
          let memory = same_Some m m' (sym c.memory-memory.ensures ∙ at) in
          subst (λ o. c.push_guard.new.vertices.items
          ++ port_guards (length c.push_guard.new.vertices.items) o (drop (c.loop-v.v-index + 1) ports)
          ≡ old ++ port_guards (length old) o ports) memory
          (port_step m ports c.loop-v.v-index (wired_vertex g.edges l.x) old items c.push_guard.new.vertices.items l.at
          are (c.loop-v.invariant.so_far m c.memory-memory.ensures) pushed);
    }

pub returns : goal.returns
returns c m at =
    let g = c.args.machine.now in
    let ports = write_ports c.args.i (wired g).vertices in
    let items = c.loop-v.vertices.items in
    let many = length-writes (wired_vertex g.edges) (λ x. refl) c.args.i 0 g.vertices in
    let count = ap length c.requires.writes in
    let all = c.loop-v-test.false in
    let none = drop_past ports c.loop-v.v-index (omega (arith, many, count, all)) in
    sym (append_none items)
    ∙ ap (λ ps. items ++ port_guards (length items) m ps) (sym none)
    ∙ c.loop-v.invariant.so_far m at
