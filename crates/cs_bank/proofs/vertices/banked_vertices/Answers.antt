-- The vertices that were there, the context bits and the guards.
use Rattle.std.proofs.Common.{◌≡◌, ℕ, ◌+◌, ◌∙◌, ◌++◌, ◌≤◌, List, length, map, sym, ap, ap₂, subst, arith, length-append, append_assoc}
use Rattle.std.proofs.lemmas.List.{length-map}
use Rattle.std.proofs.lemmas.List.FromFn.{length-map-range_with_len}
use Rattle.cs_graph.specs.declared.source.OpenVertex.{OpenVertex}
use Rattle.cs_graph.specs.Draft.{Draft}
use Rattle.cs_bank.specs.Bank.{banked_vertex, banked_vertices, first_guard}
use Rattle.cs_bank.specs.ContextBits.{context_bit, context_bits, context_pins, context_vertices}
use Rattle.cs_bank.specs.Guards.{guards}
use Rattle.cs_bank.specs.Wired.{wired, wired_vertex}
use Rattle.cs_bank.proofs.GuardPlaces.{length-banked}
use Rattle.cs_bank.proofs.vertices.banked_vertices.Goals as goal

-- the vertices that were there and the context bits
abbrev front : ℕ → Draft → List OpenVertex
front c d =
    map (banked_vertex (context_pins c (length d.vertices)) (first_guard c d) d) d.vertices
    ++ context_vertices c (length d.vertices)

length-front : (c : ℕ) (d : Draft) → length (front c d) ≡ first_guard c d
length-front c d =
    let n = length d.vertices in
    let mine = banked_vertex (context_pins c n) (first_guard c d) d in
    let sum = length-append (map mine d.vertices) (context_vertices c n) in
    let old = length-map d.vertices mine in
    let bits = length-map-range_with_len (λ j. context_bit c (n + j) j) 0 (context_bits c) in
    omega (arith, sum, old, bits)

room : (c : ℕ) (d : Draft) (first : ℕ) → first ≡ first_guard c d → length (banked_vertices c d) ≤ 4096
    → first + length (guards first 0 d.memories d.vertices) ≤ 4096
room c d first is few =
    subst (λ n. n + length (guards n 0 d.memories d.vertices) ≤ 4096) (sym is)
    (let all = length-banked c d in omega (arith, all, few))

pub guard_places-requires-clause-few : goal.guard_places-requires-clause-few
guard_places-requires-clause-few c =
    let g = c.args.machine.now in
    room c.args.contexts (wired g) (c.vertex_count-count.result + c.context_bits.result)
    (ap₂ (λ a b. a + b) (c.vertex_count-count.ensures ∙ sym (length-map g.vertices (wired_vertex g.edges)))
    c.context_bits.ensures.is) c.requires.few

pub push_guards-requires-clause-few : goal.push_guards-requires-clause-few
push_guards-requires-clause-few c =
    let g = c.args.machine.now in
    let d = wired g in
    let contexts = c.args.contexts in
    let many = sym (length-map g.vertices (wired_vertex g.edges)) in
    let old = c.in_ok-push_old_vertices.ensures
    ∙ ap₂ (λ xs n. xs ++ map (banked_vertex (context_pins contexts n) (first_guard contexts d) d) d.vertices)
    c.new-vertices.ensures.items many in
    let items = c.in_ok-push_context_bits.ensures
    ∙ ap₂ (λ xs n. xs ++ context_vertices contexts n) old (c.vertex_count-count.ensures ∙ many) in
    room contexts d (length c.push_context_bits.new.vertices.items) (ap length items ∙ length-front contexts d)
    c.requires.few

pub returns : goal.returns
returns c =
    let g = c.args.machine.now in
    let d = wired g in
    let contexts = c.args.contexts in
    let many = sym (length-map g.vertices (wired_vertex g.edges)) in
    let mine = banked_vertex (context_pins contexts (length d.vertices)) (first_guard contexts d) d in
    let old = c.in_ok-push_old_vertices.ensures
    ∙ ap₂ (λ xs n. xs ++ map (banked_vertex (context_pins contexts n) (first_guard contexts d) d) d.vertices)
    c.new-vertices.ensures.items many in
    let items = c.in_ok-push_context_bits.ensures
    ∙ ap₂ (λ xs n. xs ++ context_vertices contexts n) old (c.vertex_count-count.ensures ∙ many) in
    c.in_ok-push_guards.ensures
    ∙ ap₂ (λ xs n. xs ++ guards n 0 d.memories d.vertices) items (ap length items ∙ length-front contexts d)
    ∙ append_assoc (map mine d.vertices) (context_vertices contexts (length d.vertices))
    (guards (first_guard contexts d) 0 d.memories d.vertices)
