-- The run of a draft, whose pins hold their source, and that of the graph that is built of it.
use Rattle.std.proofs.Common.{◌≡◌, ℕ, zero, suc, ◌+◌, ◌<◌, Bool, false, List, [], ◌∷◌, ◌++◌, length, map, drop, refl, sym, ap, ap₂, ◌∙◌, arith}
use Rattle.std.specs.Prelude.{ℤ, pos, negsuc, ◌-ℤ◌, get_or, slice_get, option_map, flat_map, fold, Option, Some, None, if◌then◌else◌}
use Rattle.std.specs.List.{sum_by}
use Rattle.std.proofs.lemmas.Option.{slice_get-map}
use Rattle.cs_cells.specs.Memories.{Words, Write}
use Rattle.cs_graph.specs.declared.edge.Edge.{Edge}
use Rattle.cs_graph.specs.declared.graph.Graph.{Graph}
use Rattle.cs_graph.specs.declared.memory.Memory.{Memory}
use Rattle.cs_graph.specs.declared.source.Driver.{Driver}
use Rattle.cs_graph.specs.declared.source.OpenVertex.{OpenVertex}
use Rattle.cs_graph.specs.declared.source.Source.{Source}
use Rattle.cs_graph.specs.declared.source.Source.TheVariants.{Driven, Tied as TiedTo}
use Rattle.cs_graph.specs.declared.vertex.Feed.{Feed}
use Rattle.cs_graph.specs.declared.vertex.Feed.TheVariants.{Edge as Along, Tied}
use Rattle.cs_graph.specs.declared.vertex.Vertex.{Vertex}
use Rattle.cs_graph.specs.declared.vertex.VertexKind.{VertexKind}
use Rattle.cs_graph.specs.Draft.{Draft, built, driven, edge_into, edges_from, edges_into, feed_of, feeds_from, vertices_from}
use Rattle.cs_graph.specs.Kinds.{is_input}
use Rattle.cs_graph.specs.Run.{Outs, Row, RunsFor, carried, inputs_before, memory_after, output_of, outputs_at, seen, seen_edge, shown_by, start_words, taken_in, value_at, vertex_output, writes_by}
use Rattle.cs_graph.proofs.NumberingLemmas.{length_edge_into, length_edges_into}
use Rattle.cs_bank.specs.Wired.{edge_source, feed_source, wired, wired_vertex}
use Rattle.cs_bank.proofs.Lists.{append_assoc}

-- ---- what pins that hold their source see

abbrev pub carried_from : Driver → (ℕ → Outs) → ℤ → Bool
carried_from k value (pos n) = value n k.from k.output
carried_from k value (negsuc j) = get_or k.contents j false

abbrev pub sees : (ℕ → Outs) → ℕ → Option Source → Bool
sees value n None = false
sees value n (Some (TiedTo b)) = b
sees value n (Some (Driven k)) = carried_from k value (pos n -ℤ pos (length k.contents))

-- ---- what a run makes of a vertex: its kind, and what its pins see

abbrev pub Sight : Type 0
Sight = VertexKind × List Bool

-- ---- runs of drafts

abbrev pub open_output : Option OpenVertex → ℕ → Row → (ℕ → Words) → (Option Source → Bool) → ℕ → Bool
open_output None i row words see o = false
open_output (Some x) i row words see o = output_of x.kind i row words (map see x.pins) o

abbrev pub open_inputs_before : List OpenVertex → ℕ → ℕ
open_inputs_before [] v = 0
open_inputs_before (x ∷ xs) zero = 0
open_inputs_before (x ∷ xs) (suc v) = (if is_input x.kind then 1 else 0) + open_inputs_before xs v

abbrev pub open_value : Draft → Row → (ℕ → Words) → (Option Source → Bool) → Outs
open_value d row words see v o = open_output (slice_get d.vertices v) (open_inputs_before d.vertices v) row words see o

abbrev pub open_writes : Draft → ℕ → Memory → (Option Source → Bool) → List Write
open_writes d i m see = flat_map (λ x. writes_by i m x.kind (map see x.pins)) d.vertices

abbrev pub open_memory : Bool → Draft → ℕ → Option Memory → (Option Source → Bool) → Words → Words
open_memory bounded d i None see now = now
open_memory bounded d i (Some m) see now = fold (taken_in bounded m) now (open_writes d i m see)

abbrev pub open_outputs : Draft → (Option Source → Bool) → Row
open_outputs d see = flat_map (λ x. shown_by x.kind (map see x.pins)) d.vertices

pub record DraftRuns (bounded : Bool) (d : Draft) (clocks : ℕ) (row : ℕ → Row) (value : ℕ → Outs) (words : ℕ
    → ℕ → Words) : Type 0 where
  pub begins : (i : ℕ) → words 0 i ≡ start_words (slice_get d.memories i)
  pub settles : (n : ℕ) → n < clocks → (v o : ℕ) → value n v o ≡ open_value d (row n) (words n) (sees value n) v o
  pub goes_on : (n : ℕ) → n < clocks → (i : ℕ)
      → words (suc n) i ≡ open_memory bounded d i (slice_get d.memories i) (sees value n) (words n i)

-- ---- the same of a list of sights

abbrev pub sights_of : (Feed → Bool) → List Vertex → List Sight
sights_of see xs = map (λ (x : Vertex). (x.kind, map see x.pins)) xs

abbrev pub open_sights : (Option Source → Bool) → List OpenVertex → List Sight
open_sights see xs = map (λ (x : OpenVertex). (x.kind, map see x.pins)) xs

sight_output : Option Sight → ℕ → Row → (ℕ → Words) → ℕ → Bool
sight_output None i row words o = false
sight_output (Some s) i row words o = output_of s.0 i row words s.1 o

sight_inputs : List Sight → ℕ → ℕ
sight_inputs [] v = 0
sight_inputs (s ∷ ss) zero = 0
sight_inputs (s ∷ ss) (suc v) = (if is_input s.0 then 1 else 0) + sight_inputs ss v

inputs_by_sight : (see : Feed → Bool) (xs : List Vertex) (v : ℕ)
    → inputs_before xs v ≡ sight_inputs (sights_of see xs) v
unfolding sight_inputs
inputs_by_sight see [] v = refl
inputs_by_sight see (x ∷ xs) zero = refl
inputs_by_sight see (x ∷ xs) (suc v) = ap (λ n. (if is_input x.kind then 1 else 0) + n) (inputs_by_sight see xs v)

open_inputs_by_sight : (see : Option Source → Bool) (xs : List OpenVertex) (v : ℕ)
    → open_inputs_before xs v ≡ sight_inputs (open_sights see xs) v
unfolding sight_inputs
open_inputs_by_sight see [] v = refl
open_inputs_by_sight see (x ∷ xs) zero = refl
open_inputs_by_sight see (x ∷ xs) (suc v) = ap (λ n. (if is_input x.kind then 1 else 0) + n)
    (open_inputs_by_sight see xs v)

output_by_sight : (see : Feed → Bool) (x : Option Vertex) (i : ℕ) (row : Row) (words : ℕ → Words) (o : ℕ)
    → vertex_output x i row words see o ≡ sight_output (option_map (λ (y : Vertex). (y.kind, map see y.pins)) x) i row
    words o
unfolding sight_output
output_by_sight see None i row words o = refl
output_by_sight see (Some x) i row words o = refl

open_output_by_sight : (see : Option Source → Bool) (x : Option OpenVertex) (i : ℕ) (row : Row) (words : ℕ → Words)
    (o : ℕ)
    → open_output x i row words see o ≡ sight_output (option_map (λ (y : OpenVertex). (y.kind, map see y.pins)) x) i row
    words o
unfolding sight_output
open_output_by_sight see None i row words o = refl
open_output_by_sight see (Some x) i row words o = refl

value_by_sight : (see : Feed → Bool) (g : Graph) (row : Row) (words : ℕ → Words) (v o : ℕ)
    → value_at g row words see v o
    ≡ sight_output (slice_get (sights_of see g.vertices) v) (sight_inputs (sights_of see g.vertices) v) row words o
value_by_sight see g row words v o =
    output_by_sight see (slice_get g.vertices v) (inputs_before g.vertices v) row words o
    ∙ ap₂ (λ x i. sight_output x i row words o)
    (sym (slice_get-map (λ (y : Vertex). (y.kind, map see y.pins)) g.vertices v))
    (inputs_by_sight see g.vertices v)

open_value_by_sight : (see : Option Source → Bool) (d : Draft) (row : Row) (words : ℕ → Words) (v o : ℕ)
    → open_value d row words see v o
    ≡ sight_output (slice_get (open_sights see d.vertices) v) (sight_inputs (open_sights see d.vertices) v) row words o
open_value_by_sight see d row words v o =
    open_output_by_sight see (slice_get d.vertices v) (open_inputs_before d.vertices v) row words o
    ∙ ap₂ (λ x i. sight_output x i row words o)
    (sym (slice_get-map (λ (y : OpenVertex). (y.kind, map see y.pins)) d.vertices v))
    (open_inputs_by_sight see d.vertices v)

gathered : {A : Type 0} (see : Feed → Bool) (f : VertexKind → List Bool → List A) (xs : List Vertex)
    → flat_map (λ (x : Vertex). f x.kind (map see x.pins)) xs ≡ flat_map (λ (s : Sight). f s.0 s.1) (sights_of see xs)
gathered see f [] = refl
gathered see f (x ∷ xs) = ap (λ ys. f x.kind (map see x.pins) ++ ys) (gathered see f xs)

open_gathered : {A : Type 0} (see : Option Source → Bool) (f : VertexKind → List Bool → List A) (xs : List OpenVertex)
    → flat_map (λ (x : OpenVertex). f x.kind (map see x.pins)) xs ≡ flat_map (λ (s : Sight). f s.0 s.1)
    (open_sights see xs)
open_gathered see f [] = refl
open_gathered see f (x ∷ xs) = ap (λ ys. f x.kind (map see x.pins) ++ ys) (open_gathered see f xs)

-- ---- a graph and a draft whose vertices see the same have the same runs

abbrev pub SeeAlike : Graph → Draft → (ℕ → Outs) → ℕ → Type 0
SeeAlike g d value n = sights_of (seen g value n) g.vertices ≡ open_sights (sees value n) d.vertices

module _ (g : Graph) (d : Draft) (memories : g.memories ≡ d.memories) (value : ℕ → Outs)
    (alike : (n : ℕ) → SeeAlike g d value n) where
  value_alike : (n : ℕ) (row : Row) (words : ℕ → Words) (v o : ℕ)
      → value_at g row words (seen g value n) v o ≡ open_value d row words (sees value n) v o
  value_alike n row words v o =
      value_by_sight (seen g value n) g row words v o
      ∙ ap (λ ss. sight_output (slice_get ss v) (sight_inputs ss v) row words o) (alike n)
      ∙ sym (open_value_by_sight (sees value n) d row words v o)

  all_alike : {A : Type 0} (n : ℕ) (f : VertexKind → List Bool → List A)
      → flat_map (λ (x : Vertex). f x.kind (map (seen g value n) x.pins)) g.vertices
      ≡ flat_map (λ (x : OpenVertex). f x.kind (map (sees value n) x.pins)) d.vertices
  all_alike n f =
      gathered (seen g value n) f g.vertices
      ∙ ap (λ ss. flat_map (λ (s : Sight). f s.0 s.1) ss) (alike n)
      ∙ sym (open_gathered (sees value n) f d.vertices)

  memory_alike : (bounded : Bool) (n i : ℕ) (o : Option Memory) (now : Words)
      → memory_after bounded g i o (seen g value n) now ≡ open_memory bounded d i o (sees value n) now
  memory_alike bounded n i None now = refl
  memory_alike bounded n i (Some m) now = ap (λ (ws : List Write). fold (taken_in bounded m) now ws)
      (all_alike n (writes_by i m))

  pub outputs_alike : (n : ℕ) → outputs_at g (seen g value n) ≡ open_outputs d (sees value n)
  outputs_alike n = all_alike n shown_by

  pub to_draft : (bounded : Bool) (clocks : ℕ) (row : ℕ → Row) (words : ℕ → ℕ → Words)
      → RunsFor bounded g clocks row value words → DraftRuns bounded d clocks row value words
  to_draft bounded clocks row words r = record {
    begins = λ i. r.begins i ∙ ap (λ ms. start_words (slice_get ms i)) memories;
    settles = λ n h v o. r.settles n h v o ∙ value_alike n (row n) (words n) v o;
    goes_on = λ n h i. r.goes_on n h i
        ∙ memory_alike bounded n i (slice_get g.memories i) (words n i)
        ∙ ap (λ ms. open_memory bounded d i (slice_get ms i) (sees value n) (words n i)) memories;
  }

  pub from_draft : (bounded : Bool) (clocks : ℕ) (row : ℕ → Row) (words : ℕ → ℕ → Words)
      → DraftRuns bounded d clocks row value words → RunsFor bounded g clocks row value words
  from_draft bounded clocks row words r = record {
    begins = λ i. r.begins i ∙ sym (ap (λ ms. start_words (slice_get ms i)) memories);
    settles = λ n h v o. r.settles n h v o ∙ sym (value_alike n (row n) (words n) v o);
    goes_on = λ n h i. r.goes_on n h i
        ∙ sym (ap (λ ms. open_memory bounded d i (slice_get ms i) (sees value n) (words n i)) memories)
        ∙ sym (memory_alike bounded n i (slice_get g.memories i) (words n i));
  }

-- ---- a graph and its wired form

module _ (g : Graph) (held : (e : ℕ) (d : Edge) → slice_get g.edges e ≡ Some d → length d.contents ≡ d.weight)
    (value : ℕ → Outs) (n : ℕ) where
  edge_alike : (o : Option Edge) → ((d : Edge) → o ≡ Some d → length d.contents ≡ d.weight)
      → seen_edge o value n ≡ sees value n (edge_source o)
  edge_alike None h = refl
  edge_alike (Some d) h = ap (λ w. carried d value (pos n -ℤ pos w)) (sym (h d refl))
      ∙ by d (pos n -ℤ pos (length d.contents))
    where
      by : (d : Edge) (t : ℤ)
          → carried d value t ≡ carried_from (record { from = d.from; output = d.output; contents = d.contents }) value
          t
      by d (pos m) = refl
      by d (negsuc j) = refl

  feed_alike : (f : Feed) → seen g value n f ≡ sees value n (feed_source g.edges f)
  feed_alike (Tied b) = refl
  feed_alike (Along e) = edge_alike (slice_get g.edges e) (held e)

  pins_alike : (fs : List Feed) → map (seen g value n) fs ≡ map (sees value n) (map (feed_source g.edges) fs)
  pins_alike [] = refl
  pins_alike (f ∷ fs) = ap₂ (λ y ys. y ∷ ys) (feed_alike f) (pins_alike fs)

  vertices_alike : (xs : List Vertex)
      → sights_of (seen g value n) xs ≡ open_sights (sees value n) (map (wired_vertex g.edges) xs)
  vertices_alike [] = refl
  vertices_alike (x ∷ xs) = ap₂ (λ y ys. (x.kind, y) ∷ ys) (pins_alike x.pins) (vertices_alike xs)

  pub wired_alike : SeeAlike g (wired g) value n
  wired_alike = vertices_alike g.vertices

-- ---- a draft and the graph that is built of it

module _ (g : Graph) (value : ℕ → Outs) (n : ℕ) where
  -- what a pin reads whose edges are next
  feed_built : (v i e : ℕ) (s : Option Source) (rest : List Edge) → drop e g.edges ≡ edge_into v i s ++ rest
      → seen g value n (feed_of e s) ≡ sees value n s
  feed_built v i e None rest h = refl
  feed_built v i e (Some (TiedTo b)) rest h = refl
  feed_built v i e (Some (Driven k)) rest h =
      let found = at_drop g.edges e _ rest h in
      ap (λ o. seen_edge o value n) found ∙ by (pos n -ℤ pos (length k.contents))
    where
      by : (t : ℤ)
          → carried (record {
            from = k.from;
            output = k.output;
            to = v;
            pin = i;
            weight = length k.contents;
            contents =
                k.contents;
          }) value t ≡ carried_from k value t
      by (pos m) = refl
      by (negsuc j) = refl

      at_drop : (ds : List Edge) (e : ℕ) (d : Edge) (rest : List Edge) → drop e ds ≡ d ∷ rest → slice_get ds e ≡ Some d
      at_drop [] zero d rest h = ap (λ (xs : List Edge). slice_get xs 0) h
      at_drop [] (suc e) d rest h = ap (λ (xs : List Edge). slice_get xs 0) h
      at_drop (x ∷ ds) zero d rest h = ap (λ (xs : List Edge). slice_get xs 0) h
      at_drop (x ∷ ds) (suc e) d rest h = at_drop ds e d rest h

  drop_more : (e m k : ℕ) (ds xs ys : List Edge) → drop e ds ≡ xs ++ ys → length xs ≡ k → e + k ≡ m → drop m ds ≡ ys
  drop_more e m k ds [] ys h none sum = let same : m ≡ e = omega (arith, none, sum) in ap (λ n. drop n ds) same ∙ h
  drop_more zero m k [] (x ∷ xs) ys h count sum = absurd (no_items (sym h))
    where
      no_items : {x : Edge} {zs : List Edge} → x ∷ zs ≡ [] → ⊥
      no_items same = let no = ap length same in absurd (omega (arith, no))
  drop_more (suc e) m k [] (x ∷ xs) ys h count sum = absurd (no_items (sym h))
    where
      no_items : {x : Edge} {zs : List Edge} → x ∷ zs ≡ [] → ⊥
      no_items same = let no = ap length same in absurd (omega (arith, no))
  drop_more zero m zero (d ∷ ds) (x ∷ xs) ys h count sum = absurd (omega (arith, count))
  drop_more zero m (suc k) (d ∷ ds) (x ∷ xs) ys h count sum =
      let place : m ≡ suc k = omega (arith, sum) in
      ap (λ n. drop n (d ∷ ds)) place
      ∙ drop_more zero k k ds xs ys (drop_none ds ∙ ap (λ zs. drop 1 zs) h' ∙ drop_none (xs ++ ys))
      (omega (arith, count)) (omega arith)
    where
      drop_none : (zs : List Edge) → drop 0 zs ≡ zs
      drop_none [] = refl
      drop_none (z ∷ zs) = refl

      h' : d ∷ ds ≡ x ∷ (xs ++ ys)
      h' = h
  drop_more (suc e) zero k (d ∷ ds) (x ∷ xs) ys h count sum = absurd (omega (arith, sum))
  drop_more (suc e) (suc m) k (d ∷ ds) (x ∷ xs) ys h count sum = drop_more e m k ds (x ∷ xs) ys h count
      (omega (arith, sum))

  feeds_built : (v i e : ℕ) (ss : List (Option Source)) (rest : List Edge) → drop e g.edges ≡ edges_into v i ss ++ rest
      → map (seen g value n) (feeds_from e ss) ≡ map (sees value n) ss
  feeds_built v i e [] rest h = refl
  feeds_built v i e (s ∷ ss) rest h =
      let split = h ∙ append_assoc (edge_into v i s) (edges_into v (i + 1) ss) rest in
      ap₂ (λ y ys. y ∷ ys) (feed_built v i e s (edges_into v (i + 1) ss ++ rest) split)
      (feeds_built v (i + 1) (e + driven s) ss rest
      (drop_more e (e + driven s) (driven s) g.edges (edge_into v i s) (edges_into v (i + 1) ss ++ rest) split
      (length_edge_into v i s) refl))

  all_built : (v e : ℕ) (xs : List OpenVertex) → drop e g.edges ≡ edges_from v xs
      → sights_of (seen g value n) (vertices_from e xs) ≡ open_sights (sees value n) xs
  all_built v e [] h = refl
  all_built v e (x ∷ xs) h =
      let count = sum_by driven x.pins in
      ap₂ (λ y ys. (x.kind, y) ∷ ys) (feeds_built v 0 e x.pins (edges_from (v + 1) xs) h)
      (all_built (v + 1) (e + count) xs
      (drop_more e (e + count) count g.edges (edges_into v 0 x.pins) (edges_from (v + 1) xs) h
      (length_edges_into v 0 x.pins) refl))

-- what is built of a draft sees what the draft's pins say
pub built_alike : (d : Draft) (value : ℕ → Outs) (n : ℕ) → SeeAlike (built d) d value n
built_alike d value n = all_built (built d) value n 0 0 d.vertices (drop_none (edges_from 0 d.vertices))
  where
    drop_none : (ds : List Edge) → drop 0 ds ≡ ds
    drop_none [] = refl
    drop_none (x ∷ ds) = refl
