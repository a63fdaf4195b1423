-- Where the vertices of a banked graph stand.
use Rattle.std.proofs.Common.{◌≡◌, ℕ, zero, suc, ◌+◌, ◌-◌, ◌*◌, ◌<◌, Bool, true, false, List, [], ◌∷◌, ◌++◌, length, map, filter, take, drop, refl, sym, ap, ap₂, subst, ◌∙◌, arith, mul-le-mul_right}
use Rattle.std.specs.Prelude.{slice_get, option_map, flat_map, Option, Some, if◌then◌else◌, ◌==◌}
use Rattle.std.specs.List.{count_by, range_with_len}
use Rattle.std.proofs.lemmas.Bool.Decides.{nat_tests}
use Rattle.std.proofs.lemmas.Grind.{flat_map-append}
use Rattle.std.proofs.lemmas.List.{length-map}
use Rattle.std.proofs.lemmas.List.Folds.{flat_map-map}
use Rattle.std.proofs.lemmas.List.FromFn.{length-map-range_with_len}
use Rattle.std.proofs.lemmas.Option.{none-some, same_Some, slice_get-map, slice_get_within}
use Rattle.cs_cells.specs.declared.gate.Kind.{Kind}
use Rattle.cs_cells.specs.declared.gate.Kind.TheVariants.{And, AndNot, Buf, Not, OrNot}
use Rattle.cs_graph.specs.declared.memory.Memory.{Memory}
use Rattle.cs_graph.specs.declared.source.OpenVertex.{OpenVertex}
use Rattle.cs_graph.specs.declared.source.Source.{Source}
use Rattle.cs_graph.specs.declared.source.Source.TheVariants.{Driven}
use Rattle.cs_graph.specs.declared.vertex.VertexKind.{VertexKind}
use Rattle.cs_graph.specs.declared.vertex.VertexKind.TheVariants.{Constant, Gate, Host, Input, Output, Read, Write}
use Rattle.cs_graph.specs.Draft.{Draft, open_kinds}
use Rattle.cs_graph.specs.Kinds.{is_write_of}
use Rattle.cs_net.specs.Contexts.{Image}
use Rattle.cs_bank.specs.Bank.{banked, banked_vertex, first_guard, guard_count_of, guard_place, new_vertices}
use Rattle.cs_bank.specs.ContextBits.{context_bit, context_bits, context_pins, context_vertices, counter_contents, digits, gate, wire}
use Rattle.cs_bank.specs.Guards.{below_size, comparison, guard, guard_count, guard_gates, guarded_enables, guards, guards_place, is_guarded, memory_tests, port_guard_count, port_guards, write_ports}
use Rattle.cs_bank.proofs.Counters.{get_context_bit}
use Rattle.cs_bank.proofs.GuardLemmas.{AreWritePins, HaveWritePins, get_guard, get_port_guard, get_write_port, length-guard, place_after}
use Rattle.cs_bank.proofs.Lists.{append_none, get_after, get_first}
use Rattle.cs_bank.proofs.SizeTests.{StandAt}

-- ---- ports

-- each Read and Write has its memory, and pins for it; and Writes are numbered in order
pub record HasPorts (d : Draft) : Type 0 where
  pub reads : (v memory port : ℕ) (x : OpenVertex) → slice_get d.vertices v ≡ Some x → x.kind ≡ Read memory port
      → (m : Memory) × (slice_get d.memories memory ≡ Some m) × (length x.pins ≡ m.abits)
  pub writes : (v memory port : ℕ) (x : OpenVertex) → slice_get d.vertices v ≡ Some x → x.kind ≡ Write memory port
      → (m : Memory) × (slice_get d.memories memory ≡ Some m) × AreWritePins m x.pins
      × (port ≡ count_by (is_write_of memory) (take v (open_kinds d.vertices)))

no_such : false ≡ true → ⊥
no_such same = let bad : ◌≡◌ {A = ℕ} 0 1 = ap (λ b. if b then 1 else 0) same in absurd (omega (arith, bad))

same_number : (a b : ℕ) → (a == b) ≡ true → a ≡ b
same_number a b h = grind (arith, nat_tests)

equal_number : (a b : ℕ) → a ≡ b → (a == b) ≡ true
equal_number a b h = grind (arith, nat_tests)

write_kind : (i : ℕ) (kind : VertexKind) → is_write_of i kind ≡ true → (port : ℕ) × (kind ≡ Write i port)
write_kind i Host is = absurd (no_such is)
write_kind i Input is = absurd (no_such is)
write_kind i Output is = absurd (no_such is)
write_kind i (Constant b) is = absurd (no_such is)
write_kind i (Gate kind) is = absurd (no_such is)
write_kind i (Read memory port) is = absurd (no_such is)
write_kind i (Write memory port) is = (port, ap (λ n. Write n port) (same_number memory i is))

pub in_filter : (p : OpenVertex → Bool) (xs : List OpenVertex) (j : ℕ) (x : OpenVertex)
    → slice_get (filter p xs) j ≡ Some x
    → (v : ℕ) × (slice_get xs v ≡ Some x) × (p x ≡ true)
in_filter p [] j x found = absurd (none-some x found)
in_filter p (y ∷ xs) j x found = by (in_filter p xs) (p y) refl j found
  where
    by : ((i : ℕ) (z : OpenVertex) → slice_get (filter p xs) i ≡ Some z
        → (v : ℕ) × (slice_get xs v ≡ Some z) × (p z ≡ true))
        → (b : Bool) → p y ≡ b → (i : ℕ) → slice_get (if p y then y ∷ filter p xs else filter p xs) i ≡ Some x
        → (v : ℕ) × (slice_get (y ∷ xs) v ≡ Some x) × (p x ≡ true)
    by rest true on zero at =
        let same = same_Some y x (sym (ap (λ b. slice_get (if b then y ∷ filter p xs else filter p xs) 0) on) ∙ at) in
        (0, ap Some same, sym (ap p same) ∙ on)
    by rest true on (suc i) at =
        let more = rest i x (sym (ap (λ b. slice_get (if b then y ∷ filter p xs else filter p xs) (suc i)) on) ∙ at) in
        (suc more.0, more.1, more.2)
    by rest false off i at =
        let more = rest i x (sym (ap (λ b. slice_get (if b then y ∷ filter p xs else filter p xs) i) off) ∙ at) in
        (suc more.0, more.1, more.2)

-- all Writes have the right pins
pub write_pins_are : (d : Draft) → HasPorts d → HaveWritePins 0 d.memories d.vertices
write_pins_are d ports k p m x at found =
    let here : 0 + k ≡ k = omega arith in
    let inside = in_filter (λ (y : OpenVertex). is_write_of (0 + k) y.kind) d.vertices p x found in
    let kind = write_kind (0 + k) x.kind inside.2 in
    let own = ports.writes inside.0 (0 + k) kind.0 x inside.1 kind.1 in
    subst (λ n. AreWritePins n x.pins) (same_Some own.0 m (sym own.1 ∙ ap (slice_get d.memories) here ∙ at)) own.2

-- ---- places

module _ (c : ℕ) (entries : List (Option (List Image))) (d : Draft) where
  -- the vertices that were there
  abbrev pub banked_of : OpenVertex → OpenVertex
  banked_of x = banked_vertex (context_pins c (length d.vertices)) (first_guard c d) d x

  pub old_vertex : (v : ℕ) → v < length d.vertices → slice_get (banked c entries d).vertices v ≡ option_map banked_of
      (slice_get d.vertices v)
  old_vertex v low =
      let mine = banked_vertex (context_pins c (length d.vertices)) (first_guard c d) d in
      let count = length-map d.vertices mine in
      get_first (map mine d.vertices)
      (context_vertices c (length d.vertices) ++ guards (first_guard c d) 0 d.memories d.vertices) v
      (omega (arith, count, low))
      ∙ slice_get-map mine d.vertices v

  -- the context bits
  pub bit_vertex : (j : ℕ) → j < context_bits c
      → slice_get (banked c entries d).vertices (length d.vertices + j) ≡ Some (context_bit c (length d.vertices + j) j)
  bit_vertex j low =
      let mine = banked_vertex (context_pins c (length d.vertices)) (first_guard c d) d in
      let count = length-map d.vertices mine in
      let bits = length-map-range_with_len (λ i. context_bit c (length d.vertices + i) i) 0 (context_bits c) in
      get_after (map mine d.vertices)
      (context_vertices c (length d.vertices) ++ guards (first_guard c d) 0 d.memories d.vertices)
      (length d.vertices + j) j (omega (arith, count))
      ∙ get_first (context_vertices c (length d.vertices)) (guards (first_guard c d) 0 d.memories d.vertices) j
      (omega (arith, bits, low))
      ∙ get_context_bit c (length d.vertices) j low

  -- the guard of a Write
  pub guard_stands : HasPorts d → (u i p : ℕ) (x : OpenVertex) (m : Memory) → slice_get d.vertices u ≡ Some x
      → x.kind ≡ Write i p → slice_get d.memories i ≡ Some m
      → StandAt (banked c entries d) (guard_place (first_guard c d) d i p)
      (guard (guard_place (first_guard c d) d i p) m x.pins)
  guard_stands ports u i p x m found kind at j low =
      let f = first_guard c d in
      let mine = banked_vertex (context_pins c (length d.vertices)) f d in
      let count = length-map d.vertices mine in
      let bits = length-map-range_with_len (λ k. context_bit c (length d.vertices + k) k) 0 (context_bits c) in
      let own = ports.writes u i p x found kind in
      let are = subst (λ n. AreWritePins n x.pins) (same_Some own.0 m (sym own.1 ∙ at)) own.2 in
      let place = guards_place f 0 d.memories d.vertices i in
      let each : guard_count_of (slice_get d.memories i) ≡ guard_count m = ap guard_count_of at in
      let here : guard_place f d i p ≡ place + p * guard_count m = ap (λ n. place + p * n) each in
      let long = length-guard (guard_place f d i p) m x.pins are in
      let first = place_after f 0 d.memories d.vertices i in
      let none : 0 + i ≡ i = omega arith in
      let ports_at = ap (λ k. slice_get (write_ports k d.vertices) p) none
      ∙ ap (slice_get (write_ports i d.vertices)) own.3
      ∙ get_write_port i d.vertices u x found (ap (is_write_of i) kind ∙ equal_number i i refl) in
      let within = slice_get_within (write_ports (0 + i) d.vertices) p x ports_at in
      let most = mul-le-mul_right (guard_count m) within in
      let off = place + p * guard_count m + j - f in
      let t = p * guard_count m + j in
      let sum : f + off ≡ place + t = omega (arith, first) in
      let index : guard_place f d i p + j ≡ length d.vertices + (context_bits c + off) = omega (arith, here, first) in
      let low' : j < guard_count m = omega (arith, low, long) in
      let inside : t < port_guard_count (0 + i) m d.vertices = omega (arith, most, low') in
      get_after (map mine d.vertices) (context_vertices c (length d.vertices) ++ guards f 0 d.memories d.vertices)
      (guard_place f d i p + j) (context_bits c + off) (omega (arith, count, index))
      ∙ get_after (context_vertices c (length d.vertices)) (guards f 0 d.memories d.vertices) (context_bits c + off) off
      (omega (arith, bits))
      ∙ get_guard f 0 d.memories d.vertices i t off m (write_pins_are d ports) at inside sum
      ∙ get_port_guard place m (write_ports (0 + i) d.vertices) p j x (λ k y on. write_pins_are d ports i k m y at on)
      ports_at low'
      ∙ ap (λ v. slice_get (guard v m x.pins) j) (sym here)

-- ---- what is made of each vertex, where gates make none

module _ {A : Type 0} (f : OpenVertex → List A) (none : (kind : Kind) (pins : List (Option Source))
    → f (gate kind pins) ≡ []) where
  none_of_map : {B : Type 0} (g : B → OpenVertex) (xs : List B) → ((x : B) → f (g x) ≡ []) → flat_map f (map g xs) ≡ []
  none_of_map g [] each = refl
  none_of_map g (x ∷ xs) each = ap₂ (λ y z. y ++ z) (each x) (none_of_map g xs each)

  none_of_two : (xs ys : List OpenVertex) → flat_map f xs ≡ [] → flat_map f ys ≡ [] → flat_map f (xs ++ ys) ≡ []
  none_of_two xs ys left right = flat_map-append f xs ys ∙ ap₂ (λ y z. y ++ z) left right

  none_of_comparison : (v : ℕ) (address : List (Option Source)) (ds : List Bool)
      → flat_map f (comparison v address ds) ≡ []
  none_of_comparison v [] ds = refl
  none_of_comparison v (a ∷ address) [] = refl
  none_of_comparison v (a ∷ address) (true ∷ ds) = ap₂ (λ y z. y ++ z) (none OrNot (wire v ∷ a ∷ []))
      (none_of_comparison (v + 1) address ds)
  none_of_comparison v (a ∷ address) (false ∷ ds) = ap₂ (λ y z. y ++ z) (none AndNot (wire v ∷ a ∷ []))
      (none_of_comparison (v + 1) address ds)

  none_of_test : (v : ℕ) (address : List (Option Source)) (ds : List Bool) → flat_map f (below_size v address ds) ≡ []
  none_of_test v [] ds = refl
  none_of_test v (a ∷ address) [] = refl
  none_of_test v (a ∷ address) (true ∷ ds) = ap₂ (λ y z. y ++ z) (none Not (a ∷ [])) (none_of_comparison v address ds)
  none_of_test v (a ∷ address) (false ∷ ds) = none_of_test v address ds

  none_of_gates : (v : ℕ) (m : Memory) (pins : List (Option Source)) → flat_map f (guard_gates v m pins) ≡ []
  none_of_gates v m pins =
      let last = v + memory_tests m - 1 in
      none_of_two (below_size v (take m.abits pins) (digits m.abits m.size))
      (guarded_enables last (drop m.width (drop m.abits pins)))
      (none_of_test v (take m.abits pins) (digits m.abits m.size))
      (none_of_map (λ e. gate And (e ∷ wire last ∷ [])) (drop m.width (drop m.abits pins))
      (λ e. none And (e ∷ wire last ∷ [])))

  none_of_guard : (v : ℕ) (m : Memory) (pins : List (Option Source)) (b : Bool)
      → flat_map f (if b then guard_gates v m pins else []) ≡ []
  none_of_guard v m pins true = none_of_gates v m pins
  none_of_guard v m pins false = refl

  none_of_ports : (v : ℕ) (m : Memory) (xs : List OpenVertex) → flat_map f (port_guards v m xs) ≡ []
  none_of_ports v m [] = refl
  none_of_ports v m (x ∷ xs) =
      none_of_two (guard v m x.pins) (port_guards (v + guard_count m) m xs) (none_of_guard v m x.pins (is_guarded m))
      (none_of_ports (v + guard_count m) m xs)

  none_of_guards : (v i : ℕ) (ms : List Memory) (vertices : List OpenVertex) → flat_map f (guards v i ms vertices) ≡ []
  none_of_guards v i [] vertices = refl
  none_of_guards v i (m ∷ ms) vertices =
      none_of_two (port_guards v m (write_ports i vertices))
      (guards (v + port_guard_count i m vertices) (i + 1) ms vertices)
      (none_of_ports v m (write_ports i vertices))
      (none_of_guards (v + port_guard_count i m vertices) (i + 1) ms vertices)

  none_of_bits : (c n : ℕ) → flat_map f (context_vertices c n) ≡ []
  none_of_bits c n =
      none_of_map (λ j. context_bit c (n + j) j) (range_with_len 0 (context_bits c))
      (λ j. none Buf (Some (Driven (record { from = n + j; output = 0; contents = counter_contents c j })) ∷ []))

  none_of_new : (c : ℕ) (d : Draft) → flat_map f (new_vertices c d) ≡ []
  none_of_new c d =
      none_of_two (context_vertices c (length d.vertices)) (guards (first_guard c d) 0 d.memories d.vertices)
      (none_of_bits c (length d.vertices)) (none_of_guards (first_guard c d) 0 d.memories d.vertices)

  -- the new vertices make none
  pub of_old : (c : ℕ) (entries : List (Option (List Image))) (d : Draft)
      → flat_map f (banked c entries d).vertices ≡ flat_map (λ x. f (banked_of c entries d x)) d.vertices
  of_old c entries d =
      let mine = banked_vertex (context_pins c (length d.vertices)) (first_guard c d) d in
      flat_map-append f (map mine d.vertices) (new_vertices c d)
      ∙ ap₂ (λ y z. y ++ z) (flat_map-map f mine d.vertices) (none_of_new c d)
      ∙ append_none (flat_map (λ x. f (mine x)) d.vertices)
