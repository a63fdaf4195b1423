-- Numbering pin by pin and vertex by vertex.
use Rattle.std.proofs.Common.{◌≡◌, ℕ, suc, ◌+◌, ◌<◌, ◌≤◌, List, [], ◌∷◌, ◌++◌, length, refl, sym, ap, ap₂, ◌∙◌, arith, length-append, append_assoc}
use Rattle.std.specs.Prelude.{Option, Some, None, slice_get, ◌^◌}
use Rattle.std.specs.List.{sum_by}
use Rattle.std.proofs.lemmas.List.Sums.{sum_by-cons}
use Rattle.cs_graph.specs.declared.source.Source.{Source}
use Rattle.cs_graph.specs.declared.source.Source.TheVariants.{Tied as TiedTo, Driven}
use Rattle.cs_graph.specs.declared.source.OpenVertex.{OpenVertex}
use Rattle.cs_graph.specs.declared.vertex.Feed.{Feed}
use Rattle.cs_graph.specs.declared.vertex.Vertex.{Vertex}
use Rattle.cs_graph.specs.declared.edge.Edge.{Edge}
use Rattle.cs_graph.specs.declared.memory.Memory.{Memory}
use Rattle.cs_graph.specs.declared.graph.Graph.{Graph}
use Rattle.cs_graph.specs.Draft.{driven, registers, feed_of, edge_into, feeds_from, edges_into, vertices_from, edges_from, edge_count, weight, built}

-- a source makes as many edges as it counts
pub length_edge_into : (v i : ℕ) (s : Option Source) → length (edge_into v i s) ≡ driven s
length_edge_into v i None = refl
length_edge_into v i (Some (TiedTo b)) = refl
length_edge_into v i (Some (Driven k)) = refl

pub length_edges_into : (v i : ℕ) (ss : List (Option Source)) → length (edges_into v i ss) ≡ sum_by driven ss
length_edges_into v i [] = refl
length_edges_into v i (s ∷ ss) =
    length-append (edge_into v i s) (edges_into v (i + 1) ss)
    ∙ ap₂ (λ a b. a + b) (length_edge_into v i s) (length_edges_into v (i + 1) ss)
    ∙ sym (sum_by-cons driven s ss)

pub length_feeds_from : (e : ℕ) (ss : List (Option Source)) → length (feeds_from e ss) ≡ length ss
length_feeds_from e [] = refl
length_feeds_from e (s ∷ ss) = ap suc (length_feeds_from (e + driven s) ss)

-- ---- pin by pin

-- what is made of the pins so far, and of the rest from there on
pub record PinsSoFar (to : ℕ) (before : List Edge) (sources : List (Option Source)) (pins : List Feed)
    (edges : List Edge) (rest : List (Option Source)) : Type 0 where
  pub feeds : pins ++ feeds_from (length edges) rest ≡ feeds_from (length before) sources
  pub into : edges ++ edges_into to (length pins) rest ≡ before ++ edges_into to 0 sources
  pub count : length pins + length rest ≡ length sources
  pub room : length edges + sum_by driven rest ≡ length before + sum_by driven sources
  pub short : sum_by registers rest ≤ sum_by registers sources

pub pins_begin : (to : ℕ) (before : List Edge) (sources : List (Option Source)) (pins : List Feed)
    (rest : List (Option Source)) → pins ≡ [] → rest ≡ sources → PinsSoFar to before sources pins before rest
pins_begin to before sources pins rest none all = rw (none, all) (record {
  feeds = refl;
  into = refl;
  count = omega arith;
  room = refl;
  short = omega arith;
})

room_more : (n k m r t : ℕ) → n + t ≡ r → t ≡ k + m → (n + k) + m ≡ r
room_more n k m r t h g = omega arith

pub pins_go_on : (to : ℕ) (before : List Edge) (sources : List (Option Source)) (pins pins' : List Feed)
    (edges edges' : List Edge) (rest rest' : List (Option Source)) (s : Option Source) (feed : Feed) (pin : ℕ)
    → PinsSoFar to before sources pins edges rest → rest ≡ s ∷ rest' → pin ≡ length pins
    → feed ≡ feed_of (length edges) s → pins' ≡ pins ++ feed ∷ [] → edges' ≡ edges ++ edge_into to pin s
    → PinsSoFar to before sources pins' edges' rest'
pins_go_on to before sources pins pins' edges edges' rest rest' s feed pin is next at fed pushed made =
    let e = length edges in
    let p = length pins in
    let made' = made ∙ ap (λ n. edges ++ edge_into to n s) at in
    let longer = ap length made' ∙ length-append edges (edge_into to p s) ∙ ap (λ n. e + n)
    (length_edge_into to p s) in
    let more = ap length pushed ∙ length-append pins (feed ∷ []) in
    let sums = ap (sum_by driven) next ∙ sum_by-cons driven s rest' in
    let shorter = ap (sum_by registers) next ∙ sum_by-cons registers s rest' in
    let few = ap length next in
    record {
      feeds =
          ap₂ (λ ps n. ps ++ feeds_from n rest') pushed longer
          ∙ append_assoc pins (feed ∷ []) (feeds_from (e + driven s) rest')
          ∙ ap (λ f. pins ++ f ∷ feeds_from (e + driven s) rest') fed
          ∙ sym (ap (λ ss. pins ++ feeds_from e ss) next)
          ∙ is.feeds;
      into =
          ap₂ (λ es n. es ++ edges_into to n rest') made' more
          ∙ append_assoc edges (edge_into to p s) (edges_into to (p + 1) rest')
          ∙ sym (ap (λ ss. edges ++ edges_into to p ss) next)
          ∙ is.into;
      count = let sum = is.count in omega (arith, more, few);
      room = ap (λ n. n + sum_by driven rest') longer
          ∙ room_more e (driven s) (sum_by driven rest') (length before + sum_by driven sources) (sum_by
          driven rest) is.room sums;
      short = let most = is.short in omega (arith, shorter);
    }

-- where no pin is left, all is made
append_none : {A : Type 0} (xs : List A) → xs ++ [] ≡ xs
append_none [] = refl
append_none (x ∷ xs) = ap (λ ys. x ∷ ys) (append_none xs)

none_left : {A : Type 0} (xs : List A) → length xs ≡ 0 → xs ≡ []
none_left [] h = refl
none_left (x ∷ xs) h = absurd (omega arith)

pub pins_end : (to : ℕ) (before : List Edge) (sources : List (Option Source)) (pins : List Feed)
    (edges : List Edge) (rest : List (Option Source)) → PinsSoFar to before sources pins edges rest
    → length rest ≡ 0
    → (pins ≡ feeds_from (length before) sources) × (edges ≡ before ++ edges_into to 0 sources)
pins_end to before sources pins edges rest is none =
    let end = none_left rest none in (
      sym (append_none pins) ∙ sym (ap (λ ss. pins ++ feeds_from (length edges) ss) end) ∙ is.feeds,
      sym (append_none edges) ∙ sym (ap (λ ss. edges ++ edges_into to (length pins) ss) end) ∙ is.into,
    )

-- the next pin makes no more edges and registers than all that are left
pub counts_next : (s : Option Source) (rest rest' : List (Option Source)) → rest ≡ s ∷ rest'
    → (sum_by driven rest ≡ driven s + sum_by driven rest')
    × (sum_by registers rest ≡ registers s + sum_by registers rest')
counts_next s rest rest' next = (
  ap (sum_by driven) next ∙ sum_by-cons driven s rest',
  ap (sum_by registers) next ∙ sum_by-cons
      registers s rest',
)

-- ---- vertex by vertex

-- what is made of the vertices so far, and of the rest from there on
pub record VerticesSoFar (all : List OpenVertex) (vertices : List Vertex) (edges : List Edge) (rest : List
    OpenVertex) :
    Type 0 where
  pub numbered : vertices ++ vertices_from (length edges) rest ≡ vertices_from 0 all
  pub into : edges ++ edges_from (length vertices) rest ≡ edges_from 0 all
  pub count : length vertices + length rest ≡ length all
  pub room : length edges + edge_count rest ≡ edge_count all
  pub short : weight rest ≤ weight all
  pub pins : (w : ℕ) (x : OpenVertex) → slice_get rest w ≡ Some x → length x.pins < 2 ^ 32

pub vertices_begin : (all : List OpenVertex) (vertices : List Vertex) (edges : List Edge) (rest : List
    OpenVertex)
    → vertices ≡ [] → edges ≡ [] → rest ≡ all
    → ((w : ℕ) (x : OpenVertex) → slice_get all w ≡ Some x → length x.pins < 2 ^ 32)
    → VerticesSoFar all vertices edges rest
vertices_begin all vertices edges rest none no_edge same short = rw (none, no_edge, same) (record {
  numbered = refl;
  into = refl;
  count = omega arith;
  room = omega arith;
  short = omega arith;
  pins = short;
})

-- the next vertex has few pins, and its edges and registers are among all that are few
pub next_is_small : (all : List OpenVertex) (vertices : List Vertex) (edges : List Edge)
    (rest rest' : List OpenVertex) (x : OpenVertex) → VerticesSoFar all vertices edges rest → rest ≡ x ∷ rest'
    → edge_count all < 2 ^ 32 → weight all < 2 ^ 32
    → (length x.pins < 2 ^ 32) × (length edges + sum_by driven x.pins < 2 ^ 32)
    × (sum_by registers x.pins < 2 ^ 32)
next_is_small all vertices edges rest rest' x is next few light =
    let sums = ap edge_count next ∙ sum_by-cons (λ (z : OpenVertex). sum_by driven z.pins) x rest' in
    let lighter = ap weight next ∙ sum_by-cons (λ (z : OpenVertex). sum_by registers z.pins) x rest' in (
      is.pins 0 x (ap (λ xs. slice_get xs 0) next),
      omega (arith, is.room, sums, few),
      omega (arith, is.short, lighter, light),
    )

pub vertices_go_on : (all : List OpenVertex) (vertices vertices' : List Vertex) (edges edges' : List Edge)
    (rest rest' : List OpenVertex) (x : OpenVertex) (y : Vertex) (v : ℕ)
    → VerticesSoFar all vertices edges rest → rest ≡ x ∷ rest' → v ≡ length vertices
    → y ≡ record { kind = x.kind; pins = feeds_from (length edges) x.pins } → vertices' ≡ vertices ++ y ∷ []
    → edges' ≡ edges ++ edges_into v 0 x.pins → VerticesSoFar all vertices' edges' rest'
vertices_go_on all vertices vertices' edges edges' rest rest' x y v is next at made pushed put =
    let e = length edges in
    let n = length vertices in
    let new = sum_by driven x.pins in
    let put' = put ∙ ap (λ m. edges ++ edges_into m 0 x.pins) at in
    let longer = ap length put' ∙ length-append edges (edges_into n 0 x.pins) ∙ ap (λ m. e + m)
    (length_edges_into n 0 x.pins) in
    let more = ap length pushed ∙ length-append vertices (y ∷ []) in
    let sums = ap edge_count next ∙ sum_by-cons (λ (z : OpenVertex). sum_by driven z.pins) x rest' in
    let shorter = ap weight next ∙ sum_by-cons (λ (z : OpenVertex). sum_by registers z.pins) x rest' in
    let few = ap length next in
    record {
      numbered =
          ap₂ (λ xs m. xs ++ vertices_from m rest') pushed longer
          ∙ append_assoc vertices (y ∷ []) (vertices_from (e + new) rest')
          ∙ ap (λ z. vertices ++ z ∷ vertices_from (e + new) rest') made
          ∙ sym (ap (λ xs. vertices ++ vertices_from e xs) next)
          ∙ is.numbered;
      into =
          ap₂ (λ es m. es ++ edges_from m rest') put' more
          ∙ append_assoc edges (edges_into n 0 x.pins) (edges_from (n + 1) rest')
          ∙ sym (ap (λ xs. edges ++ edges_from n xs) next)
          ∙ is.into;
      count = let sum = is.count in omega (arith, more, few);
      room = ap (λ m. m + edge_count rest') longer
          ∙ room_more e new (edge_count rest') (edge_count all) (edge_count rest) is.room sums;
      short = let most = is.short in omega (arith, shorter);
      pins = λ w z found. is.pins (suc w) z (ap (λ xs. slice_get xs (suc w)) next ∙ found);
    }

-- what the next vertex needs
pub vertex_next : (all : List OpenVertex) (vertices : List Vertex) (edges : List Edge) (rest rest' : List
    OpenVertex)
    (x : OpenVertex) → VerticesSoFar all vertices edges rest → rest ≡ x ∷ rest'
    → (length x.pins < 2 ^ 32) × (length edges + sum_by driven x.pins ≤ edge_count all)
    × (sum_by registers x.pins ≤ weight all) × (length vertices < length all)
vertex_next all vertices edges rest rest' x is next =
    let sums = ap edge_count next ∙ sum_by-cons (λ (z : OpenVertex). sum_by driven z.pins) x rest' in
    let shorter = ap weight next ∙ sum_by-cons (λ (z : OpenVertex). sum_by registers z.pins) x rest' in
    let few = ap length next in
    let room = is.room in
    let short = is.short in
    let count = is.count in (
      is.pins 0 x (ap (λ xs. slice_get xs 0) next),
      omega (arith, sums, room),
      omega (
        arith,
        shorter,
        short,
      ),
      omega (arith, few, count),
    )

pub vertices_end : (all : List OpenVertex) (memories : List Memory) (vertices : List Vertex) (edges : List
    Edge)
    (rest : List OpenVertex) → VerticesSoFar all vertices edges rest → length rest ≡ 0
    → ◌≡◌ {A = Graph} (record { vertices = vertices; edges = edges; memories = memories })
    (built (record { vertices = all; memories = memories }))
vertices_end all memories vertices edges rest is none =
    let end = none_left rest none in
    ap₂ (λ (xs : List Vertex) (es : List Edge). record { vertices = xs; edges = es; memories = memories })
    (sym (append_none vertices) ∙ sym (ap (λ xs. vertices ++ vertices_from (length edges) xs) end) ∙
    is.numbered)
    (sym (append_none edges) ∙ sym (ap (λ xs. edges ++ edges_from (length vertices) xs) end) ∙ is.into)
