-- What a builder keeps when it takes a source, a vertex or a memory.
use Rattle.std.proofs.Common.{◌≡◌, ◌≢◌, ◌⊎◌, ℕ, zero, suc, ◌+◌, ◌^◌, ◌<◌, ◌≤◌, Bool, List, [], ◌∷◌, ◌++◌, length, replicate, set, take, refl, sym, ap, ap₂, subst, ◌∙◌, inl, inr, arith, length-append}
use Rattle.std.specs.Prelude.{slice_get, Option, Some, None, option_map}
use Rattle.std.specs.List.{sum_by}
use Rattle.std.proofs.lemmas.List.{length-set}
use Rattle.std.proofs.lemmas.List.Sums.{sum_by-append, sum_by-cons, sum_by-set}
use Rattle.std.proofs.lemmas.Option.{none-some, same_Some, slice_get_within, slice_get-map, get_or_from_slice_get}
use Rattle.cs_graph.specs.declared.source.Source.{Source}
use Rattle.cs_graph.specs.declared.source.Source.TheVariants.{Tied as TiedTo, Driven}
use Rattle.cs_graph.specs.declared.source.Driver.{Driver}
use Rattle.cs_graph.specs.declared.source.OpenVertex.{OpenVertex}
use Rattle.cs_graph.specs.declared.vertex.VertexKind.{VertexKind}
use Rattle.cs_graph.specs.declared.vertex.VertexKind.TheVariants.{Host, Input, Output, Constant, Gate, Read, Write}
use Rattle.cs_graph.specs.declared.memory.Memory.{Memory}
use Rattle.cs_graph.specs.Kinds.{pin_count, output_count, read_width}
use Rattle.cs_graph.specs.Invariant.{HasHost, HasMemories, HasMemory, HasOutput, IsNextPort, IsMemory}
use Rattle.cs_graph.specs.Draft.{Draft, open_kinds, IsOpen, with_source, driven, registers, edge_count, weight, IsDraft}
use Rattle.cs_base.proofs.ListLemmas.{at_push, at_replicate}
use Rattle.cs_graph.proofs.Lists.{get_left, get_set_cases}

-- ---- a source

-- the vertex with the source takes the place of the old one
pub with_source_is : (xs : List OpenVertex) (v i : ℕ) (s : Source) (x : OpenVertex) → slice_get xs v ≡ Some x
    → with_source xs v i s ≡ set xs v (record x { pins = set x.pins i (Some s) })
with_source_is [] v i s x h = absurd (none-some x h)
with_source_is (y ∷ xs) zero i s x h =
    ap (λ (z : OpenVertex). record z { pins = set z.pins i (Some s) } ∷ xs) (same_Some y x h)
with_source_is (y ∷ xs) (suc v) i s x h = ap (λ ys. y ∷ ys) (with_source_is xs v i s x h)

pub kinds_with_source : (xs : List OpenVertex) (v i : ℕ) (s : Source)
    → open_kinds (with_source xs v i s) ≡ open_kinds xs
kinds_with_source [] v i s = refl
kinds_with_source (y ∷ xs) zero i s = refl
kinds_with_source (y ∷ xs) (suc v) i s = ap (λ ys. y.kind ∷ ys) (kinds_with_source xs v i s)

pub length_with_source : (xs : List OpenVertex) (v i : ℕ) (s : Source)
    → length (with_source xs v i s) ≡ length xs
length_with_source [] v i s = refl
length_with_source (y ∷ xs) zero i s = refl
length_with_source (y ∷ xs) (suc v) i s = ap suc (length_with_source xs v i s)

pin_total : (f : Option Source → ℕ) (pins : List (Option Source)) (i : ℕ) (s : Source) → f None ≡ 0
    → slice_get pins i ≡ Some None → sum_by f (set pins i (Some s)) ≡ sum_by f pins + f (Some s)
pin_total f pins i s none at =
    let there = get_or_from_slice_get pins i None None at in
    let sums = sum_by-set f pins i (Some s) None (slice_get_within pins i None at) in
    let zero_there = ap f there ∙ none in
    omega (arith, sums, zero_there)

sums_first : (a b rest more : ℕ) → a ≡ b + more → a + rest ≡ (b + rest) + more
sums_first a b rest more h = omega arith

sums_rest : (b old rest more : ℕ) → old ≡ rest + more → b + old ≡ (b + rest) + more
sums_rest b old rest more h = omega arith

-- the source adds its number
pub total_with_source : (f : Option Source → ℕ) (xs : List OpenVertex) (v i : ℕ) (s : Source) → f None ≡ 0
    → IsOpen xs v i → sum_by (λ (x : OpenVertex). sum_by f x.pins) (with_source xs v i s)
    ≡ sum_by (λ (x : OpenVertex). sum_by f x.pins) xs + f (Some s)
total_with_source f [] v i s none (x, is, at) = absurd (none-some x is)
total_with_source f (y ∷ xs) zero i s none (x, is, at) =
    let same = same_Some y x is in
    let here = pin_total f y.pins i s none (subst (λ (z : OpenVertex). slice_get z.pins i ≡ Some None) (sym
    same) at) in
    let g : OpenVertex → ℕ = λ z. sum_by f z.pins in
    sum_by-cons g (record y { pins = set y.pins i (Some s) }) xs
    ∙ sums_first (sum_by f (set y.pins i (Some s))) (sum_by f y.pins) (sum_by g xs) (f (Some s)) here
    ∙ ap (λ n. n + f (Some s)) (sym (sum_by-cons g y xs))
total_with_source f (y ∷ xs) (suc v) i s none (x, is, at) =
    let g : OpenVertex → ℕ = λ z. sum_by f z.pins in
    let rest = total_with_source f xs v i s none (x, is, at) in
    sum_by-cons g y (with_source xs v i s)
    ∙ sums_rest (g y) (sum_by g (with_source xs v i s)) (sum_by g xs) (f (Some s)) rest
    ∙ ap (λ n. n + f (Some s)) (sym (sum_by-cons g y xs))

-- a vertex of the new list: its kind is as before, and each pin is as before or has the source
pub record WasBefore (xs : List OpenVertex) (w : ℕ) (s : Source) (y : OpenVertex) : Type 0 where
  pub old : OpenVertex
  pub found : slice_get xs w ≡ Some old
  pub kind : y.kind ≡ old.kind
  pub count : length y.pins ≡ length old.pins
  pub pin : (j : ℕ) (t : Option Source) → slice_get y.pins j ≡ Some t
      → (slice_get old.pins j ≡ Some t) ⊎ (t ≡ Some s)

was_same : (xs : List OpenVertex) (w : ℕ) (s : Source) (y : OpenVertex) → slice_get xs w ≡ Some y
    → WasBefore xs w s y
was_same xs w s y is = record { old = y; found = is; kind = refl; count = refl; pin = λ j t at. inl at }

was_set : (xs : List OpenVertex) (w i : ℕ) (s : Source) (x : OpenVertex) → slice_get xs w ≡ Some x
    → WasBefore xs w s (record x { pins = set x.pins i (Some s) })
was_set xs w i s x is = record {
  old = x;
  found = is;
  kind = refl;
  count = length-set x.pins i (Some s);
  pin = λ j t at. elim (get_set_cases x.pins i j (Some s) t at) [
    | inl here ↦ inr here.1
    | inr there ↦ inl there.1
  ];
}

pub was_before : (xs : List OpenVertex) (v i : ℕ) (s : Source) → IsOpen xs v i → (w : ℕ) (y : OpenVertex)
    → slice_get (with_source xs v i s) w ≡ Some y → WasBefore xs w s y
was_before xs v i s (x, is, at) w y found =
    let found' = subst (λ ys. slice_get ys w ≡ Some y) (with_source_is xs v i s x is) found in
    elim (get_set_cases xs v w (record x { pins = set x.pins i (Some s) }) y found') [
      | inl here ↦ subst (λ (z : OpenVertex). WasBefore xs w s z) (sym here.1)
          (was_set xs w i s x (ap (slice_get xs) here.0 ∙ is))
      | inr there ↦ was_same xs w s y there.1
    ]

-- a source that a pin may have
abbrev pub IsSource : Draft → Source → Type 0
IsSource d s = (k : Driver) → s ≡ Driven k → HasOutput d.memories (open_kinds d.vertices) k.from k.output

driver_of : Driver → Source → Driver
driver_of other (TiedTo b) = other
driver_of other (Driven k) = k

pub source_is : (d : Draft) (k : Driver) → HasOutput d.memories (open_kinds d.vertices) k.from k.output
    → IsSource d (Driven k)
unfolding driver_of
source_is d k has other same =
    subst (λ (j : Driver). HasOutput d.memories (open_kinds d.vertices) j.from j.output) (ap (driver_of k)
    same) has

count_of : Source → ℕ
count_of (TiedTo b) = 0
count_of (Driven k) = 1

pub tie_is : (d : Draft) (b : Bool) → IsSource d (TiedTo b)
unfolding count_of
tie_is d b k same = let no : ◌≡◌ {A = ℕ} 0 1 = ap count_of same in absurd (omega (arith, no))

pub draft_with_source : (d : Draft) (v i : ℕ) (s : Source) → IsDraft d → IsOpen d.vertices v i → IsSource d s
    → edge_count d.vertices + driven (Some s) ≤ 32768 → weight d.vertices + registers (Some s) ≤ 65536
    → IsDraft (record d { vertices = with_source d.vertices v i s })
draft_with_source d v i s is open_pin source edges few =
    let kinds = kinds_with_source d.vertices v i s in
    record {
      host = subst HasHost (sym kinds) is.host;
      pins = λ w y found.
          let was = was_before d.vertices v i s open_pin w y found in
          was.count ∙ is.pins w was.old was.found ∙ ap (pin_count d.memories) (sym was.kind);
      outputs = λ w j y k found at.
          let was = was_before d.vertices v i s open_pin w y found in
          subst (λ ks. HasOutput d.memories ks k.from k.output) (sym kinds)
          (elim (was.pin j (Some (Driven k)) at) [
            | inl before ↦ is.outputs w j was.old k was.found before
            | inr new ↦ source k (sym (same_Some (Driven k) s new))
          ]);
      memories = subst (HasMemories d.memories) (sym kinds) is.memories;
      limits = record {
        vertices = let same = length_with_source d.vertices v i s in let few = is.limits.vertices in omega
            (arith, same);
        edges = let sum = total_with_source driven d.vertices v i s refl open_pin in omega (arith, sum);
        weight = let sum = total_with_source registers d.vertices v i s refl open_pin in omega (arith, sum);
      };
    }

-- ---- a vertex

kinds_push : (xs : List OpenVertex) (x : OpenVertex)
    → open_kinds (xs ++ x ∷ []) ≡ open_kinds xs ++ x.kind ∷ []
kinds_push [] x = refl
kinds_push (y ∷ xs) x = ap (λ ys. y.kind ∷ ys) (kinds_push xs x)

length_replicate : (n : ℕ) → length (replicate {A = Option Source} n None) ≡ n
length_replicate zero = refl
length_replicate (suc n) = ap suc (length_replicate n)

total_replicate : (f : Option Source → ℕ) (n : ℕ) → f None ≡ 0 → sum_by f (replicate n None) ≡ 0
total_replicate f zero none = refl
total_replicate f (suc n) none =
    let rest = total_replicate f n none in sum_by-cons f None (replicate n None) ∙ ap₂ (λ a b. a + b) none
    rest ∙ omega arith

total_push : (f : Option Source → ℕ) (xs : List OpenVertex) (kind : VertexKind) (n : ℕ) → f None ≡ 0
    → sum_by (λ (x : OpenVertex). sum_by f x.pins) (xs ++ record { kind = kind; pins = replicate n None } ∷
    [])
    ≡ sum_by (λ (x : OpenVertex). sum_by f x.pins) xs
total_push f xs kind n none =
    let sums = sum_by-append (λ (x : OpenVertex). sum_by f x.pins) xs
    (record { kind = kind; pins = replicate n None } ∷ []) in
    let nothing = total_replicate f n none in
    omega (arith, sums, nothing)

host_push : (ks : List VertexKind) (kind : VertexKind) → HasHost ks → kind ≢ Host → HasHost (ks ++ kind ∷ [])
host_push ks kind has other = record {
  first = get_left ks (kind ∷ []) 0 Host has.first;
  one = λ v is. elim (at_push ks kind v Host is) [
    | inl before ↦ has.one v before
    | inr new ↦ absurd (other (sym new.1))
  ];
}

take_left : (ks ls : List VertexKind) (v : ℕ) → v ≤ length ks → take v (ks ++ ls) ≡ take v ks
take_left ks ls zero h = refl
take_left [] ls (suc v) h = absurd (omega arith)
take_left (k ∷ ks) ls (suc v) h = ap (λ ys. k ∷ ys) (take_left ks ls v (omega arith))

take_whole : (ks ls : List VertexKind) → take (length ks) (ks ++ ls) ≡ ks
take_whole [] ls = refl
take_whole (k ∷ ks) ls = ap (λ ys. k ∷ ys) (take_whole ks ls)

memories_push : (ms : List Memory) (ks : List VertexKind) (kind : VertexKind) → HasMemories ms ks
    → HasMemory ms kind → IsNextPort ks kind → sum_by (read_width ms) ks + read_width ms kind ≤ 4194304
    → HasMemories ms (ks ++ kind ∷ [])
memories_push ms ks kind has there port few = record {
  few = has.few;
  each = has.each;
  there = λ v k is. elim (at_push ks kind v k is) [
    | inl before ↦ has.there v k before
    | inr new ↦ subst (HasMemory ms) (sym new.1) there
  ];
  ports = λ v k is. elim (at_push ks kind v k is) [
    | inl before ↦
        let within = slice_get_within ks v k before in
        subst (λ before. IsNextPort before k) (sym (take_left ks (kind ∷ []) v (omega arith))) (has.ports v
        k before)
    | inr new ↦
        subst (λ n. IsNextPort (take n (ks ++ kind ∷ [])) k) (sym new.0)
        (subst (λ before. IsNextPort before k) (sym (take_whole ks (kind ∷ []))) (subst (IsNextPort ks)
        (sym new.1) port))
  ];
  reads = let sums = sum_by-append (read_width ms) ks (kind ∷ []) in omega (arith, sums);
}

output_push : (ms : List Memory) (ks : List VertexKind) (kind : VertexKind) (u o : ℕ) → HasOutput ms ks u o
    → HasOutput ms (ks ++ kind ∷ []) u o
output_push ms ks kind u o has = record {
  kind = has.kind;
  found = get_left ks (kind ∷ []) u has.kind has.found;
  among = has.among;
}

pub draft_with_vertex : (d : Draft) (kind : VertexKind) → IsDraft d → kind ≢ Host → HasMemory d.memories kind
    → IsNextPort (open_kinds d.vertices) kind
    → sum_by (read_width d.memories) (open_kinds d.vertices) + read_width d.memories kind ≤ 4194304
    → length d.vertices < 4096
    → IsDraft (record d {
      vertices = d.vertices ++ record {
        kind = kind;
        pins = replicate (pin_count
            d.memories kind) None;
      } ∷ [];
    })
draft_with_vertex d kind is other there port reads room =
    let n = pin_count d.memories kind in
    let x : OpenVertex = record { kind = kind; pins = replicate n None } in
    let kinds = kinds_push d.vertices x in
    record {
      host = subst HasHost (sym kinds) (host_push (open_kinds d.vertices) kind is.host other);
      pins = λ w y found. elim (at_push d.vertices x w y found) [
        | inl before ↦ is.pins w y before
        | inr new ↦ subst (λ (z : OpenVertex). length z.pins ≡ pin_count d.memories z.kind) (sym new.1)
            (length_replicate n)
      ];
      outputs = λ w j y k found at. elim (at_push d.vertices x w y found) [
        | inl before ↦ subst (λ ks. HasOutput d.memories ks k.from k.output) (sym kinds)
            (output_push d.memories (open_kinds d.vertices) kind k.from k.output (is.outputs w j y k before
            at))
        | inr new ↦
            let none = at_replicate n j None (Some (Driven k))
            (subst (λ (z : OpenVertex). slice_get z.pins j ≡ Some (Some (Driven k))) new.1 at) in
            absurd (none-some (Driven k) (sym none))
      ];
      memories = subst (HasMemories d.memories) (sym kinds)
          (memories_push d.memories (open_kinds d.vertices) kind is.memories there port reads);
      limits = record {
        vertices = let more = length-append d.vertices (x ∷ []) in omega (arith, more);
        edges = let same = total_push driven d.vertices kind n refl in let few = is.limits.edges in omega
            (arith, same);
        weight = let same = total_push registers d.vertices kind n refl in let few = is.limits.weight in
            omega (arith, same);
      };
    }

pub counts_with_vertex : (d : Draft) (kind : VertexKind) (n : ℕ) (f : Option Source → ℕ) → f None ≡ 0
    → sum_by (λ (x : OpenVertex). sum_by f x.pins) (d.vertices ++ record {
      kind = kind;
      pins = replicate n
          None;
    } ∷ [])
    ≡ sum_by (λ (x : OpenVertex). sum_by f x.pins) d.vertices
counts_with_vertex d kind n f none = total_push f d.vertices kind n none

-- ---- a memory

found_still : (ms : List Memory) (m : Memory) (i : ℕ) → i < length ms
    → slice_get (ms ++ m ∷ []) i ≡ slice_get ms i
found_still [] m i h = absurd (omega arith)
found_still (x ∷ ms) m zero h = refl
found_still (x ∷ ms) m (suc i) h = found_still ms m i (omega arith)

pins_still : (ms : List Memory) (m : Memory) (kind : VertexKind) → HasMemory ms kind
    → pin_count (ms ++ m ∷ []) kind ≡ pin_count ms kind
pins_still ms m Host h = refl
pins_still ms m Input h = refl
pins_still ms m Output h = refl
pins_still ms m (Constant b) h = refl
pins_still ms m (Gate gate) h = refl
pins_still ms m (Read memory port) h = rw (found_still ms m memory h) refl
pins_still ms m (Write memory port) h = rw (found_still ms m memory h) refl

outputs_still : (ms : List Memory) (m : Memory) (kind : VertexKind) → HasMemory ms kind
    → output_count (ms ++ m ∷ []) kind ≡ output_count ms kind
outputs_still ms m Host h = refl
outputs_still ms m Input h = refl
outputs_still ms m Output h = refl
outputs_still ms m (Constant b) h = refl
outputs_still ms m (Gate gate) h = refl
outputs_still ms m (Read memory port) h = rw (found_still ms m memory h) refl
outputs_still ms m (Write memory port) h = refl

width_still : (ms : List Memory) (m : Memory) (kind : VertexKind) → HasMemory ms kind
    → read_width (ms ++ m ∷ []) kind ≡ read_width ms kind
width_still ms m Host h = refl
width_still ms m Input h = refl
width_still ms m Output h = refl
width_still ms m (Constant b) h = refl
width_still ms m (Gate gate) h = refl
width_still ms m (Read memory port) h = rw (found_still ms m memory h) refl
width_still ms m (Write memory port) h = refl

there_still : (ms : List Memory) (m : Memory) (kind : VertexKind) → HasMemory ms kind
    → HasMemory (ms ++ m ∷ []) kind
there_still ms m Host h = h
there_still ms m Input h = h
there_still ms m Output h = h
there_still ms m (Constant b) h = h
there_still ms m (Gate gate) h = h
there_still ms m (Read memory port) h = let more = length-append ms (m ∷ []) in omega (arith, more)
there_still ms m (Write memory port) h = let more = length-append ms (m ∷ []) in omega (arith, more)

widths_still : (ms : List Memory) (m : Memory) (ks : List VertexKind)
    → ((v : ℕ) (kind : VertexKind) → slice_get ks v ≡ Some kind → HasMemory ms kind)
    → sum_by (read_width (ms ++ m ∷ [])) ks ≡ sum_by (read_width ms) ks
widths_still ms m [] h = refl
widths_still ms m (k ∷ ks) h =
    sum_by-cons (read_width (ms ++ m ∷ [])) k ks
    ∙ ap₂ (λ a b. a + b) (width_still ms m k (h 0 k refl)) (widths_still ms m ks (λ v kind is. h (suc v)
    kind is))
    ∙ sym (sum_by-cons (read_width ms) k ks)

pub draft_with_memory : (d : Draft) (m : Memory) → IsDraft d → IsMemory m → length d.memories + 1 < 2 ^ 32
    → IsDraft (record d { memories = d.memories ++ m ∷ [] })
draft_with_memory d m is sizes room =
    let ks = open_kinds d.vertices in
    let there : (v : ℕ) (kind : VertexKind) → slice_get ks v ≡ Some kind
    → HasMemory d.memories kind = is.memories.there in
    record {
      host = is.host;
      pins = λ w y found.
          let kind = there w y.kind (slice_get-map (λ (z : OpenVertex). z.kind) d.vertices w
          ∙ ap (option_map (λ (z : OpenVertex). z.kind)) found) in
          is.pins w y found ∙ sym (pins_still d.memories m y.kind kind);
      outputs = λ w j y k found at.
          let has = is.outputs w j y k found at in
          let kind = there k.from has.kind has.found in
          record {
            kind = has.kind;
            found = has.found;
            among = let same = outputs_still d.memories m has.kind kind in let few = has.among in omega
                (arith, same);
          };
      memories = record {
        few = let more = length-append d.memories (m ∷ []) in omega (arith, more);
        each = λ i x found. elim (at_push d.memories m i x found) [
          | inl before ↦ is.memories.each i x before
          | inr new ↦ subst IsMemory (sym new.1) sizes
        ];
        there = λ v kind found. there_still d.memories m kind (there v kind found);
        ports = is.memories.ports;
        reads = let same = widths_still d.memories m ks there in let few = is.memories.reads in omega
            (arith, same);
      };
      limits = is.limits;
    }
