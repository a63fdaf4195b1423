-- What a banked draft counts is what its vertices count, each banked and with its guard, and the context bits.
use Rattle.std.proofs.Common.{◌≡◌, ℕ, zero, suc, ◌+◌, ◌-◌, ◌*◌, ◌<◌, Bool, true, false, List, [], ◌∷◌, ◌++◌, length, map, take, drop, refl, sym, ap, ap₂, ◌∙◌, arith}
use Rattle.std.specs.Prelude.{slice_get, Option, if◌then◌else◌, ◌==◌}
use Rattle.std.specs.List.{range_with_len, sum_by}
use Rattle.std.proofs.lemmas.Bool.Decides.{nat_tests}
use Rattle.std.proofs.lemmas.List.{length-map}
use Rattle.std.proofs.lemmas.List.Sums.{sum_by-append, sum_by-cons}
use Rattle.cs_cells.specs.declared.gate.Kind.TheVariants.{And, AndNot, Not, OrNot}
use Rattle.cs_graph.specs.declared.graph.Graph.{Graph}
use Rattle.cs_graph.specs.declared.memory.Memory.{Memory}
use Rattle.cs_graph.specs.declared.source.OpenVertex.{OpenVertex}
use Rattle.cs_graph.specs.declared.source.Source.{Source}
use Rattle.cs_graph.specs.declared.vertex.VertexKind.{VertexKind}
use Rattle.cs_graph.specs.declared.vertex.VertexKind.TheVariants.{Constant, Gate, Host, Input, Output, Read, Write}
use Rattle.cs_graph.specs.Draft.{Draft, driven, edge_count, registers, weight}
use Rattle.cs_graph.specs.Kinds.{is_write_of}
use Rattle.cs_bank.specs.declared.measures.Measure.{Measure}
use Rattle.cs_bank.specs.declared.measures.Measure.TheVariants.{Edges, Registers, Vertices}
use Rattle.cs_bank.specs.Bank.{banked_vertex, banked_vertices, first_guard}
use Rattle.cs_bank.specs.ContextBits.{context_bit, context_bits, context_pins, context_vertices, digits, gate, wire}
use Rattle.cs_bank.specs.Guards.{below_size, comparison, guard, guard_count, guard_gates, guarded_enables, guards, is_guarded, memory_tests, port_guard_count, port_guards, write_ports}
use Rattle.cs_bank.specs.Measures.{banked_extent, extent, guard_by, guard_of, of_pin, of_pins, of_vertex, of_wire}
use Rattle.cs_bank.specs.Wired.{wired, wired_vertex}

-- ---- sums

sum_of_sums : {A : Type 0} (f g : A → ℕ) (xs : List A) → sum_by f xs + sum_by g xs ≡ sum_by (λ x. f x + g x) xs
sum_of_sums f g [] = refl
sum_of_sums f g (x ∷ xs) =
    let left = sum_by-cons f x xs in
    let right = sum_by-cons g x xs in
    let both = sum_by-cons (λ y. f y + g y) x xs in
    let rest = sum_of_sums f g xs in
    omega (arith, left, right, both, rest)

sum_of_none : {A : Type 0} (xs : List A) → sum_by (λ x. 0) xs ≡ 0
sum_of_none [] = refl
sum_of_none (x ∷ xs) =
    let cons = sum_by-cons (λ y. 0) x xs in let rest = sum_of_none xs in omega (arith, cons, rest)

sum_same : {A : Type 0} (f g : A → ℕ) → ((x : A) → f x ≡ g x) → (xs : List A) → sum_by f xs ≡ sum_by g xs
sum_same f g same [] = refl
sum_same f g same (x ∷ xs) =
    sum_by-cons f x xs ∙ ap₂ (λ a b. a + b) (same x) (sum_same f g same xs) ∙ sym (sum_by-cons g x xs)

sum_of_map : {A B : Type 0} (f : B → ℕ) (g : A → B) (xs : List A) → sum_by f (map g xs) ≡ sum_by (λ x. f (g x)) xs
sum_of_map f g [] = refl
sum_of_map f g (x ∷ xs) =
    sum_by-cons f (g x) (map g xs) ∙ ap (λ n. f (g x) + n) (sum_of_map f g xs) ∙ sym (sum_by-cons (λ y. f (g y)) x xs)

-- ---- what is counted

pub extent_vertices : (xs : List OpenVertex) → extent Vertices xs ≡ length xs
extent_vertices [] = refl
extent_vertices (x ∷ xs) =
    let cons = sum_by-cons (λ (y : OpenVertex). of_vertex Vertices + of_pins Vertices y.pins) x xs in
    let none = sum_of_none x.pins in
    let rest = extent_vertices xs in
    omega (arith, cons, none, rest)

plain : (n : ℕ) → 0 + n ≡ n
plain n = omega arith

pub extent_edges : (xs : List OpenVertex) → extent Edges xs ≡ edge_count xs
extent_edges xs =
    sum_same (λ (x : OpenVertex). of_vertex Edges + of_pins Edges x.pins) (λ (x : OpenVertex). sum_by driven x.pins)
    (λ x. plain (sum_by driven x.pins)) xs

pub extent_registers : (xs : List OpenVertex) → extent Registers xs ≡ weight xs
extent_registers xs =
    sum_same (λ (x : OpenVertex). of_vertex Registers + of_pins Registers x.pins)
    (λ (x : OpenVertex). sum_by registers x.pins) (λ x. plain (sum_by registers x.pins)) xs

module _ (measure : Measure) where
  abbrev one : OpenVertex → ℕ
  one x = of_vertex measure + of_pins measure x.pins

  pub extent_append : (xs ys : List OpenVertex) → extent measure (xs ++ ys) ≡ extent measure xs + extent measure ys
  extent_append xs ys = sum_by-append one xs ys

  pub extent_cons : (x : OpenVertex) (xs : List OpenVertex)
      → extent measure (x ∷ xs) ≡ (of_vertex measure + of_pins measure x.pins) + extent measure xs
  extent_cons x xs = sum_by-cons one x xs

  pub pins_append : (ss ts : List (Option Source)) → of_pins measure (ss ++ ts) ≡ of_pins measure ss + of_pins measure ts
  pins_append ss ts = sum_by-append (of_pin measure) ss ts

  pub pins_cons : (s : Option Source) (ss : List (Option Source))
      → of_pins measure (s ∷ ss) ≡ of_pin measure s + of_pins measure ss
  pins_cons s ss = sum_by-cons (of_pin measure) s ss

  pub pins_two : (s t : Option Source) → of_pins measure (s ∷ t ∷ []) ≡ of_pin measure s + of_pin measure t
  pins_two s t =
      let first = pins_cons s (t ∷ []) in
      let second = pins_cons t [] in
      let none : of_pins measure [] ≡ 0 = refl in
      omega (arith, first, second, none)

  pub pins_one : (s : Option Source) → of_pins measure (s ∷ []) ≡ of_pin measure s
  pins_one s =
      let first = pins_cons s [] in
      let none : of_pins measure [] ≡ 0 = refl in
      omega (arith, first, none)

  pub extent_one : (x : OpenVertex) → extent measure (x ∷ []) ≡ of_vertex measure + of_pins measure x.pins
  extent_one x =
      let cons = extent_cons x [] in
      let none : extent measure [] ≡ 0 = refl in
      omega (arith, cons, none)

-- a pin that reads a vertex without a register counts the same, whatever the vertex
pub of_wire_is : (measure : Measure) (v : ℕ) → of_pin measure (wire v) ≡ of_wire measure
of_wire_is Vertices v = refl
of_wire_is Edges v = refl
of_wire_is Registers v = refl

module _ (measure : Measure) where
  pub wires_count : (v count : ℕ) → of_pins measure (map wire (range_with_len v count)) ≡ of_wire measure * count
  wires_count v zero = omega arith
  wires_count v (suc count) =
      let cons = pins_cons measure (wire v) (map wire (range_with_len (v + 1) count)) in
      let first = of_wire_is measure v in
      let rest = wires_count (v + 1) count in
      let sum : of_wire measure * suc count ≡ of_wire measure + of_wire measure * count = omega arith in
      omega (arith, cons, first, rest, sum)

  -- ---- guards count the same, wherever they stand

  pub comparison_same : (u v : ℕ) (address : List (Option Source)) (ds : List Bool)
      → extent measure (comparison u address ds) ≡ extent measure (comparison v address ds)
  comparison_same u v [] ds = refl
  comparison_same u v (a ∷ address) [] = refl
  comparison_same u v (a ∷ address) (d ∷ ds) =
      let x = gate (if d then OrNot else AndNot) (wire u ∷ a ∷ []) in
      let y = gate (if d then OrNot else AndNot) (wire v ∷ a ∷ []) in
      let left = extent_cons measure x (comparison (u + 1) address ds) in
      let right = extent_cons measure y (comparison (v + 1) address ds) in
      let pins = pins_two measure (wire u) a in
      let pins' = pins_two measure (wire v) a in
      let at = of_wire_is measure u in
      let at' = of_wire_is measure v in
      let rest = comparison_same (u + 1) (v + 1) address ds in
      omega (arith, left, right, pins, pins', at, at', rest)

  pub below_same : (u v : ℕ) (address : List (Option Source)) (ds : List Bool)
      → extent measure (below_size u address ds) ≡ extent measure (below_size v address ds)
  below_same u v [] ds = refl
  below_same u v (a ∷ address) [] = refl
  below_same u v (a ∷ address) (true ∷ ds) =
      let left = extent_cons measure (gate Not (a ∷ [])) (comparison u address ds) in
      let right = extent_cons measure (gate Not (a ∷ [])) (comparison v address ds) in
      let rest = comparison_same u v address ds in
      omega (arith, left, right, rest)
  below_same u v (a ∷ address) (false ∷ ds) = below_same u v address ds

  pub enables_same : (u v : ℕ) (es : List (Option Source))
      → extent measure (guarded_enables u es) ≡ extent measure (guarded_enables v es)
  enables_same u v [] = refl
  enables_same u v (e ∷ es) =
      let left = extent_cons measure (gate And (e ∷ wire u ∷ [])) (guarded_enables u es) in
      let right = extent_cons measure (gate And (e ∷ wire v ∷ [])) (guarded_enables v es) in
      let pins = pins_two measure e (wire u) in
      let pins' = pins_two measure e (wire v) in
      let at = of_wire_is measure u in
      let at' = of_wire_is measure v in
      let rest = enables_same u v es in
      omega (arith, left, right, pins, pins', at, at', rest)

  pub guard_same : (u v : ℕ) (m : Memory) (pins : List (Option Source))
      → extent measure (guard u m pins) ≡ extent measure (guard v m pins)
  guard_same u v m pins = by (is_guarded m)
    where
      gates_same : extent measure (guard_gates u m pins) ≡ extent measure (guard_gates v m pins)
      gates_same =
          let ds = digits m.abits m.size in
          let address = take m.abits pins in
          let enables = drop m.width (drop m.abits pins) in
          extent_append measure (below_size u address ds) (guarded_enables (u + memory_tests m - 1) enables)
          ∙ ap₂ (λ a b. a + b) (below_same u v address ds)
          (enables_same (u + memory_tests m - 1) (v + memory_tests m - 1) enables)
          ∙ sym (extent_append measure (below_size v address ds) (guarded_enables (v + memory_tests m - 1) enables))

      by : (b : Bool) → extent measure (if b then guard_gates u m pins else [])
          ≡ extent measure (if b then guard_gates v m pins else [])
      by true = gates_same
      by false = refl

  -- ---- all guards

  -- what the guards of a vertex count that is a Write of memory i
  abbrev port_extent : ℕ → Memory → OpenVertex → ℕ
  port_extent i m x = if is_write_of i x.kind then extent measure (guard 0 m x.pins) else 0

  -- the same of memories i and on
  abbrev ports_extent : ℕ → List Memory → OpenVertex → ℕ
  ports_extent i [] x = 0
  ports_extent i (m ∷ ms) x = port_extent i m x + ports_extent (i + 1) ms x

  port_guards_count : (i : ℕ) (m : Memory) (xs : List OpenVertex) (v : ℕ)
      → extent measure (port_guards v m (write_ports i xs)) ≡ sum_by (port_extent i m) xs
  port_guards_count i m [] v = refl
  port_guards_count i m (x ∷ xs) v =
      by (is_write_of i x.kind) (port_guards_count i m xs v) (port_guards_count i m xs (v + guard_count m))
      ∙ sym (sum_by-cons (port_extent i m) x xs)
    where
      by : (b : Bool) → extent measure (port_guards v m (write_ports i xs)) ≡ sum_by (port_extent i m) xs
          → extent measure (port_guards (v + guard_count m) m (write_ports i xs)) ≡ sum_by (port_extent i m) xs
          → extent measure (port_guards v m (if b then x ∷ write_ports i xs else write_ports i xs))
          ≡ (if b then extent measure (guard 0 m x.pins) else 0) + sum_by (port_extent i m) xs
      by true here after =
          extent_append measure (guard v m x.pins) (port_guards (v + guard_count m) m (write_ports i xs))
          ∙ ap₂ (λ a b. a + b) (guard_same v 0 m x.pins) after
      by false here after = omega (arith, here)

  guards_count : (i : ℕ) (ms : List Memory) (xs : List OpenVertex) (v : ℕ)
      → extent measure (guards v i ms xs) ≡ sum_by (ports_extent i ms) xs
  guards_count i [] xs v = sym (sum_of_none xs)
  guards_count i (m ∷ ms) xs v =
      extent_append measure (port_guards v m (write_ports i xs)) (guards (v + port_guard_count i m xs) (i + 1) ms xs)
      ∙ ap₂ (λ a b. a + b) (port_guards_count i m xs v) (guards_count (i + 1) ms xs (v + port_guard_count i m xs))
      ∙ sum_of_sums (port_extent i m) (ports_extent (i + 1) ms) xs

  -- ---- each vertex has at most one guard

  abbrev kind_extent : ℕ → List Memory → VertexKind → List (Option Source) → ℕ
  kind_extent i ms kind pins = ports_extent i ms (record { kind = kind; pins = pins })

  no_guard : (kind : VertexKind) → ((i : ℕ) → is_write_of i kind ≡ false) → (i : ℕ) (ms : List Memory)
      (pins : List (Option Source)) → kind_extent i ms kind pins ≡ 0
  no_guard kind none i [] pins = refl
  no_guard kind none i (m ∷ ms) pins =
      ap₂ (λ (b : Bool) n. (if b then extent measure (guard 0 m pins) else 0) + n) (none i)
      (no_guard kind none (i + 1) ms pins)

  equal_number : (a b : ℕ) → a ≡ b → (a == b) ≡ true
  equal_number a b h = grind (arith, nat_tests)

  other_number : (a b : ℕ) → (a ≡ b → ⊥) → (a == b) ≡ false
  other_number a b h = grind (arith, nat_tests)

  past_guards : (memory port i : ℕ) (ms : List Memory) (pins : List (Option Source)) → memory < i
      → kind_extent i ms (Write memory port) pins ≡ 0
  past_guards memory port i [] pins low = refl
  past_guards memory port i (m ∷ ms) pins low =
      ap₂ (λ (b : Bool) n. (if b then extent measure (guard 0 m pins) else 0) + n)
      (other_number memory i (λ same. omega (arith, same, low)))
      (past_guards memory port (i + 1) ms pins (omega (arith, low)))

  one_guard : (memory port i k : ℕ) (ms : List Memory) (pins : List (Option Source)) → memory ≡ i + k
      → kind_extent i ms (Write memory port) pins ≡ extent measure (guard_by (slice_get ms k) pins)
  one_guard memory port i k [] pins is = refl
  one_guard memory port i zero (m ∷ ms) pins is =
      ap₂ (λ (b : Bool) n. (if b then extent measure (guard 0 m pins) else 0) + n)
      (equal_number memory i (omega (arith, is))) (past_guards memory port (i + 1) ms pins (omega (arith, is)))
      ∙ (let all : extent measure (guard 0 m pins) + 0 ≡ extent measure (guard 0 m pins) = omega arith in all)
  one_guard memory port i (suc k) (m ∷ ms) pins is =
      ap₂ (λ (b : Bool) n. (if b then extent measure (guard 0 m pins) else 0) + n)
      (other_number memory i (λ same. omega (arith, same, is)))
      (one_guard memory port (i + 1) k ms pins (omega (arith, is)))
      ∙ plain (extent measure (guard_by (slice_get ms k) pins))

  guard_is : (ms : List Memory) (kind : VertexKind) (pins : List (Option Source))
      → kind_extent 0 ms kind pins ≡ extent measure (guard_of ms kind pins)
  guard_is ms Host pins = no_guard Host (λ i. refl) 0 ms pins
  guard_is ms Input pins = no_guard Input (λ i. refl) 0 ms pins
  guard_is ms Output pins = no_guard Output (λ i. refl) 0 ms pins
  guard_is ms (Constant b) pins = no_guard (Constant b) (λ i. refl) 0 ms pins
  guard_is ms (Gate kind) pins = no_guard (Gate kind) (λ i. refl) 0 ms pins
  guard_is ms (Read memory port) pins = no_guard (Read memory port) (λ i. refl) 0 ms pins
  guard_is ms (Write memory port) pins = one_guard memory port 0 memory ms pins (omega arith)

  -- ---- the whole draft

  pub banked_counts : (c : ℕ) (d : Draft) → extent measure (banked_vertices c d)
      ≡ sum_by (banked_extent measure c d) d.vertices + extent measure (context_vertices c (length d.vertices))
  banked_counts c d =
      let n = length d.vertices in
      let mine = banked_vertex (context_pins c n) (first_guard c d) d in
      let all = guards (first_guard c d) 0 d.memories d.vertices in
      let outer = extent_append measure (map mine d.vertices) (context_vertices c n ++ all) in
      let inner = extent_append measure (context_vertices c n) all in
      let old = sum_of_map (one measure) mine d.vertices in
      let new = guards_count 0 d.memories d.vertices (first_guard c d) in
      let sum = sum_of_sums (λ x. one measure (mine x)) (ports_extent 0 d.memories) d.vertices in
      let each = sum_same (λ x. one measure (mine x) + ports_extent 0 d.memories x) (banked_extent measure c d)
      (λ x. ap (λ k. one measure (mine x) + k) (guard_is d.memories x.kind x.pins)
      ∙ sym (extent_cons measure (mine x) (guard_of d.memories x.kind x.pins))) d.vertices in
      omega (arith, outer, inner, old, new, sum, each)

  -- the context bits count the same each
  pub bits_count : (c n k : ℕ) → ((v j : ℕ) → k ≡ extent measure (context_bit c v j ∷ []))
      → context_bits c * k ≡ extent measure (context_vertices c n)
  bits_count c n k each = by 0 (context_bits c)
    where
      by : (a count : ℕ) → count * k ≡ extent measure (map (λ j. context_bit c (n + j) j) (range_with_len a count))
      by a zero = omega arith
      by a (suc count) =
          let x = context_bit c (n + a) a in
          let cons = extent_cons measure x (map (λ j. context_bit c (n + j) j) (range_with_len (a + 1) count)) in
          let one = extent_one measure x in
          let is = each (n + a) a in
          let rest = by (a + 1) count in
          let sum : suc count * k ≡ k + count * k = omega arith in
          omega (arith, cons, one, is, rest, sum)

  -- the same of a machine
  pub machine_counts : (c : ℕ) (g : Graph) → extent measure (context_vertices c (length g.vertices))
      + sum_by (λ x. banked_extent measure c (wired g) (wired_vertex g.edges x)) g.vertices
      ≡ extent measure (banked_vertices c (wired g))
  machine_counts c g =
      let all = banked_counts c (wired g) in
      let each = sum_of_map (banked_extent measure c (wired g)) (wired_vertex g.edges) g.vertices in
      let bits = ap (λ n. extent measure (context_vertices c n)) (length-map g.vertices (wired_vertex g.edges)) in
      omega (arith, all, each, bits)
