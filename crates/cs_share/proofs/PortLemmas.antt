-- Ports of memories, vertex by vertex.
use Rattle.std.proofs.Common.{◌≡◌, ◌∙◌, ℕ, zero, suc, ◌+◌, ◌<◌, List, [], ◌∷◌, ◌++◌, length, map, take, Bool, true, false, Option, Some, None, refl, ap, ap₂, arith}
use Rattle.std.specs.Prelude.{◌==◌, get_or, slice_get, slice_set, filter_map, if◌then◌else◌}
use Rattle.std.specs.List.{cons_option, enumerate_from}
use Rattle.std.proofs.lemmas.Bool.Decides.{nat_tests}
use Rattle.cs_base.specs.declared.signal.Signal.{Signal}
use Rattle.cs_circuit.specs.declared.circuit.MemoryPart.{MemoryPart}
use Rattle.cs_circuit.specs.declared.circuit.ReadPart.{ReadPart}
use Rattle.cs_circuit.specs.declared.circuit.WritePart.{WritePart}
use Rattle.cs_graph.specs.declared.memory.Memory.{Memory}
use Rattle.cs_graph.specs.declared.vertex.Vertex.{Vertex}
use Rattle.cs_graph.specs.declared.vertex.VertexKind.{VertexKind}
use Rattle.cs_graph.specs.declared.vertex.VertexKind.TheVariants.{Host, Input, Output, Constant, Gate, Read, Write as WritePort}
use Rattle.cs_share.specs.Planned.{add_port, changed_at, empty_memory, feed_signals, planned_memory, planned_read, planned_read_by, planned_write, planned_write_by, read_of, with_read, with_write}
use Rattle.cs_share.specs.Shared.{write_of_pins}
use Rattle.cs_share.proofs.Numbered.{append_none, given_more}

-- an item that is set is changed
pub changed_set : {A : Type 0} (f : A → A) (xs : List A) (i : ℕ) (x : A) → i < length xs → x ≡ get_or xs i x
    → slice_set xs i (f x) ≡ changed_at f xs i
changed_set f [] i x low is = absurd (omega (arith, low))
changed_set {A = A} f (y ∷ xs) zero x low is = ap (λ (z : A). f z ∷ xs) is
changed_set {A = A} f (y ∷ xs) (suc i) x low is = ap (λ (zs : List A). y ∷ zs) (changed_set f xs i x (omega (arith, low)) is)

-- ---- one item of a list made by places

module _ {A B : Type 0} (f g : ℕ × A → B) (h : B → B) (j : ℕ) (same : (e : ℕ × A) → e.0 ≡ j → g e ≡ h (f e))
    (apart : (e : ℕ × A) → (e.0 ≡ j → ⊥) → g e ≡ f e) where
  rest_same : (k : ℕ) (ms : List A) → j < k → map g (enumerate_from k ms) ≡ map f (enumerate_from k ms)
  rest_same k [] past = refl
  rest_same k (m ∷ ms) past =
      ap₂ (λ (b : B) (bs : List B). b ∷ bs) (apart (k, m) (λ is. omega (arith, past, is))) (rest_same (k + 1) ms (omega (arith, past)))

  pub changed_mapped : (k i : ℕ) (ms : List A) → k + i ≡ j
      → map g (enumerate_from k ms) ≡ changed_at h (map f (enumerate_from k ms)) i
  changed_mapped k i [] place = refl
  changed_mapped k zero (m ∷ ms) place =
      ap₂ (λ (b : B) (bs : List B). b ∷ bs) (same (k, m) (omega (arith, place))) (rest_same (k + 1) ms (omega (arith, place)))
  changed_mapped k (suc i) (m ∷ ms) place =
      ap₂ (λ (b : B) (bs : List B). b ∷ bs) (apart (k, m) (λ is. omega (arith, place, is)))
      (changed_mapped (k + 1) i ms (omega (arith, place)))

all_same : {A B : Type 0} (f g : ℕ × A → B) → ((e : ℕ × A) → g e ≡ f e) → (k : ℕ) (ms : List A)
    → map g (enumerate_from k ms) ≡ map f (enumerate_from k ms)
all_same f g same k [] = refl
all_same {B = B} f g same k (m ∷ ms) = ap₂ (λ (b : B) (bs : List B). b ∷ bs) (same (k, m)) (all_same f g same (k + 1) ms)

same_test : (a b : ℕ) → b ≡ a → (a == b) ≡ true
same_test a b is = grind (arith, nat_tests)

apart_test : (a b : ℕ) → (b ≡ a → ⊥) → (a == b) ≡ false
apart_test a b not_is = grind (arith, nat_tests)

-- ---- ports

abbrev listed : {B : Type 0} → Option B → List B
listed None = []
listed (Some b) = b ∷ []

listed_one : {A B : Type 0} (h : A → Option B) (y : A) → filter_map h (y ∷ []) ≡ listed (h y)
listed_one {B = B} h y = by (h y)
  where
    by : (o : Option B) → cons_option o [] ≡ listed o
    by None = refl
    by (Some b) = refl

module _ (numbers : List ℕ) (signals : List Signal) (v : ℕ) (x : Vertex) where
  -- a memory with what a vertex of this kind is of its ports
  abbrev added : VertexKind → ℕ × Memory → MemoryPart → MemoryPart
  added kind e part = record part {
    reads = part.reads ++ listed (planned_read_by numbers signals e.0 v x kind);
    writes = part.writes ++ listed (planned_write_by signals e.0 e.1 x kind);
  }

  nothing : (part : MemoryPart) → record part { reads = part.reads ++ []; writes = part.writes ++ [] } ≡ part
  nothing part = ap₂ (λ (rs : List ReadPart) (ws : List WritePart). record part { reads = rs; writes = ws })
      (append_none part.reads) (append_none part.writes)

  module _ (vertices : List Vertex) (ms : List Memory) where
    abbrev was : ℕ × Memory → MemoryPart
    was = planned_memory vertices numbers signals

    by_kind : (kind : VertexKind) → map (λ e. added kind e (was e)) (enumerate_from 0 ms)
        ≡ add_port numbers signals v x kind (map was (enumerate_from 0 ms))
    by_kind Host = all_same was (λ e. added Host e (was e)) (λ e. nothing (was e)) 0 ms
    by_kind Input = all_same was (λ e. added Input e (was e)) (λ e. nothing (was e)) 0 ms
    by_kind Output = all_same was (λ e. added Output e (was e)) (λ e. nothing (was e)) 0 ms
    by_kind (Constant b) = all_same was (λ e. added (Constant b) e (was e)) (λ e. nothing (was e)) 0 ms
    by_kind (Gate kind) = all_same was (λ e. added (Gate kind) e (was e)) (λ e. nothing (was e)) 0 ms
    by_kind (Read memory port) =
        changed_mapped was (λ e. added (Read memory port) e (was e)) (with_read numbers signals v x) memory
        (λ e is. ap₂ (λ (b : Bool) (ws : List WritePart). record (was e) {
          reads = (was e).reads ++ listed (if b then Some (read_of numbers signals v x) else None);
          writes = ws;
        }) (same_test memory e.0 is) (append_none (was e).writes))
        (λ e not_is. ap (λ (b : Bool). record (was e) {
          reads = (was e).reads ++ listed (if b then Some (read_of numbers signals v x) else None);
          writes = (was e).writes ++ [];
        }) (apart_test memory e.0 not_is) ∙ nothing (was e))
        0 memory ms (omega arith)
    by_kind (WritePort memory port) =
        changed_mapped was (λ e. added (WritePort memory port) e (was e)) (with_write signals x) memory
        (λ e is. ap₂ (λ (b : Bool) (rs : List ReadPart). record (was e) {
          reads = rs;
          writes = (was e).writes ++ listed (if b then Some (write_of_pins e.1 (feed_signals signals x)) else None);
        }) (same_test memory e.0 is) (append_none (was e).reads))
        (λ e not_is. ap (λ (b : Bool). record (was e) {
          reads = (was e).reads ++ [];
          writes = (was e).writes ++ listed (if b then Some (write_of_pins e.1 (feed_signals signals x)) else None);
        }) (apart_test memory e.0 not_is) ∙ nothing (was e))
        0 memory ms (omega arith)

  -- one vertex more
  pub memories_more : (vertices : List Vertex) (ms : List Memory) → slice_get vertices v ≡ Some x
      → map (planned_memory (take (v + 1) vertices) numbers signals) (enumerate_from 0 ms)
      ≡ add_port numbers signals v x x.kind (map (planned_memory (take v vertices) numbers signals) (enumerate_from 0 ms))
  memories_more vertices ms at =
      all_same (λ e. added x.kind e (planned_memory (take v vertices) numbers signals e))
      (planned_memory (take (v + 1) vertices) numbers signals)
      (λ e. ap₂ (λ (rs : List ReadPart) (ws : List WritePart). record (planned_memory (take v vertices) numbers signals e) { reads = rs; writes = ws })
      (given_more (planned_read numbers signals e.0) vertices v x at
      ∙ ap (λ (rs : List ReadPart). filter_map (planned_read numbers signals e.0) (enumerate_from 0 (take v vertices)) ++ rs)
      (listed_one (planned_read numbers signals e.0) (v, x)))
      (given_more (planned_write signals e.0 e.1) vertices v x at
      ∙ ap (λ (ws : List WritePart). filter_map (planned_write signals e.0 e.1) (enumerate_from 0 (take v vertices)) ++ ws)
      (listed_one (planned_write signals e.0 e.1) (v, x))))
      0 ms
      ∙ by_kind (take v vertices) ms x.kind

-- without vertices there are no ports
pub no_ports : (numbers : List ℕ) (signals : List Signal) (k : ℕ) (ms : List Memory)
    → map (planned_memory [] numbers signals) (enumerate_from k ms) ≡ map empty_memory ms
no_ports numbers signals k [] = refl
no_ports numbers signals k (m ∷ ms) = ap (λ (parts : List MemoryPart). empty_memory m ∷ parts) (no_ports numbers signals (k + 1) ms)
