-- A vertex more.
use Rattle.std.proofs.Common.{◌≡◌, ◌∙◌, ◌++◌, Some, [], ◌∷◌, length, map, ap, subst, arith}
use Rattle.std.specs.Prelude.{slice_get}
use Rattle.std.proofs.lemmas.List.{take_all}
use Rattle.cs_bank.specs.Bank.{banked_pins, banked_vertex, first_guard}
use Rattle.cs_bank.specs.ContextBits.{context_pins}
use Rattle.cs_bank.specs.Wired.{feed_source, wired, wired_vertex}
use Rattle.cs_bank.proofs.Pushed.{map_twice, push_map}
use Rattle.cs_bank.proofs.vertices.push_old_vertices.Goals as goal

pub loop-v-preserved : goal.loop-v-preserved
loop-v-preserved c =
    let g = c.args.machine.now in
    let x = c.vertex-vertex.result.now in
    let first = first_guard c.args.contexts (wired g) in
    let context = context_pins c.args.contexts (length g.vertices) in
    let low = c.loop-v-test.true in
    let many = c.vertex_count-v-end.ensures in
    let found = subst (λ u. slice_get g.vertices u ≡ Some x) c.new.ensures c.vertex-vertex.ensures in
    push_map (λ y. banked_vertex context first (wired g) (wired_vertex g.edges y)) g.vertices c.loop-v.v x
    c.args.vertices.now.items c.loop-v.vertices.items c.push.new.self.items (omega (arith, low, many)) found
    c.loop-v.invariant
    (c.in_ok-push.ensures.items
    ∙ ap (λ ps. c.loop-v.vertices.items ++ record { kind = x.kind; pins = ps } ∷ [])
    (c.from_vec.ensures
    ∙ c.in_ok-push_pins.ensures
    ∙ ap (λ ss. ss ++ banked_pins context first (wired g) x.kind (map (feed_source g.edges) x.pins))
    c.new-pins.ensures.items))

pub returns : goal.returns
returns c =
    let g = c.args.machine.now in
    let first = first_guard c.args.contexts (wired g) in
    let context = context_pins c.args.contexts (length g.vertices) in
    let mine = banked_vertex context first (wired g) in
    let old = c.args.vertices.now.items in
    let all = c.loop-v-test.false in
    let many = c.vertex_count-v-end.ensures in
    c.loop-v.invariant
    ∙ ap (λ xs. old ++ map (λ y. mine (wired_vertex g.edges y)) xs)
    (take_all c.loop-v.v g.vertices (omega (arith, all, many)))
    ∙ ap (λ ys. old ++ ys) (map_twice mine (wired_vertex g.edges) g.vertices)
