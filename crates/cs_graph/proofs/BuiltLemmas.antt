-- What is built keeps what every machine keeps, but for loops; it is well-formed whatever its limits.
use Rattle.std.proofs.Common.{◌≡◌, ℕ, zero, suc, ◌+◌, ◌<◌, List, [], ◌∷◌, ◌++◌, length, refl, sym, ap, ap₂, subst, ◌∙◌, inl, inr, arith, length-append}
use Rattle.std.specs.Prelude.{Option, Some, None, slice_get}
use Rattle.std.specs.List.{sum_by}
use Rattle.std.proofs.lemmas.List.{length-map}
use Rattle.std.proofs.lemmas.List.Sums.{sum_by-append, sum_by-cons}
use Rattle.std.proofs.lemmas.Option.{none-some, same_Some, slice_get_within}
use Rattle.cs_graph.specs.declared.source.Source.{Source}
use Rattle.cs_graph.specs.declared.source.Source.TheVariants.{Tied as TiedTo, Driven}
use Rattle.cs_graph.specs.declared.source.Driver.{Driver}
use Rattle.cs_graph.specs.declared.source.OpenVertex.{OpenVertex}
use Rattle.cs_graph.specs.declared.vertex.Feed.{Feed}
use Rattle.cs_graph.specs.declared.vertex.Feed.TheVariants.{Tied, Edge as Along}
use Rattle.cs_graph.specs.declared.vertex.Vertex.{Vertex}
use Rattle.cs_graph.specs.declared.edge.Edge.{Edge}
use Rattle.cs_graph.specs.Kinds.{pin_count}
use Rattle.cs_graph.specs.Invariant.{IsFed, HasOrder, IsWellFormed, IsMachine, LeadsBefore, HasHost, HasOutput, HasMemories, kinds}
use Rattle.cs_graph.specs.Order.{IsWired}
use Rattle.cs_graph.specs.Draft.{Draft, IsDraft, open_kinds, driven, registers, edge_count, weight, feed_of, edge_into, feeds_from, edges_into, vertices_from, edges_from, built}
use Rattle.cs_graph.proofs.Lists.{get_left, get_right, get_append, get_single}
use Rattle.cs_graph.proofs.NumberingLemmas.{length_edge_into, length_edges_into, length_feeds_from}

-- ---- pins

-- the edge that a driver makes at pin i of vertex v
abbrev edge_by : ℕ → ℕ → Driver → Edge
edge_by v i k = record {
  from = k.from;
  output = k.output;
  to = v;
  pin = i;
  weight = length k.contents;
  contents = k.contents;
}

number_of_feed : Feed → ℕ
number_of_feed (Tied b) = 0
number_of_feed (Along e) = e

is_edge : Feed → ℕ
is_edge (Tied b) = 0
is_edge (Along e) = 1

not_edge : (b : _) (e : ℕ) → Tied b ≡ Along e → ⊥
unfolding is_edge
not_edge b e same = let no : ◌≡◌ {A = ℕ} 0 1 = ap is_edge same in absurd (omega (arith, no))

same_edge : (e f : ℕ) → Along e ≡ Along f → e ≡ f
unfolding number_of_feed
same_edge e f same = ap number_of_feed same

-- edge f is edge k of these, and leads to pin i of vertex v
pub record LeadsTo (edges : List Edge) (e f v i : ℕ) : Type 0 where
  pub k : ℕ
  pub edge : Edge
  pub number : f ≡ e + k
  pub found : slice_get edges k ≡ Some edge
  pub to : edge.to ≡ v
  pub pin : edge.pin ≡ i

first_leads : (v j e f : ℕ) (s : Option Source) (rest : List Edge) → feed_of e s ≡ Along f
    → LeadsTo (edge_into v j s ++ rest) e f v j
first_leads v j e f None rest same = absurd (not_edge _ f same)
first_leads v j e f (Some (TiedTo b)) rest same = absurd (not_edge b f same)
first_leads v j e f (Some (Driven k)) rest same =
    let number = same_edge e f same in
    record { k = 0; edge = edge_by v j k; number = omega arith; found = refl; to = refl; pin = refl }

-- an edge that a pin reads leads to it
pins_to : (v j e : ℕ) (ss : List (Option Source)) (i f : ℕ) → slice_get (feeds_from e ss) i ≡ Some (Along f)
    → LeadsTo (edges_into v j ss) e f v (j + i)
pins_to v j e [] i f h = absurd (none-some (Along f) h)
pins_to v j e (s ∷ ss) zero f h =
    let here : j ≡ j + 0 = omega arith in
    subst (λ i. LeadsTo (edges_into v j (s ∷ ss)) e f v i) here
    (first_leads v j e f s (edges_into v (j + 1) ss) (same_Some (feed_of e s) (Along f) h))
pins_to v j e (s ∷ ss) (suc i) f h =
    let rest = pins_to v (j + 1) (e + driven s) ss i f h in
    let count = length_edge_into v j s in
    record {
      k = driven s + rest.k;
      edge = rest.edge;
      number = let number = rest.number in omega (arith, number);
      found = get_right (edge_into v j s) (edges_into v (j + 1) ss) (driven s + rest.k) rest.k (omega
          (arith, count)) ∙ rest.found;
      to = rest.to;
      pin = let pin = rest.pin in omega (arith, pin);
    }

-- edge k comes from pin i of a vertex
pub record ComesFrom (feeds : List Feed) (sources : List (Option Source)) (e k i : ℕ) (d : Edge) : Type 0
  where
    pub named : slice_get feeds i ≡ Some (Along (e + k))
    pub driver : Driver
    pub source : slice_get sources i ≡ Some (Some (Driven driver))
    pub from : d.from ≡ driver.from
    pub output : d.output ≡ driver.output
    pub contents : d.contents ≡ driver.contents
    pub held : length d.contents ≡ d.weight

-- edge k of the pins from j on
record FromPins (v j e : ℕ) (ss : List (Option Source)) (k : ℕ) (d : Edge) : Type 0 where
  i : ℕ
  to : d.to ≡ v
  pin : d.pin ≡ j + i
  comes : ComesFrom (feeds_from e ss) ss e k i d

first_comes : (v j e : ℕ) (s : Option Source) (ss : List (Option Source)) (k : ℕ) (d : Edge)
    → slice_get (edge_into v j s) k ≡ Some d → FromPins v j e (s ∷ ss) k d
first_comes v j e None ss k d h = absurd (none-some d h)
first_comes v j e (Some (TiedTo b)) ss k d h = absurd (none-some d h)
first_comes v j e (Some (Driven c)) ss k d h =
    let single = get_single (edge_by v j c) d k h in
    let here : e ≡ e + k = omega (arith, single.0) in
    subst (FromPins v j e (Some (Driven c) ∷ ss) k) (sym single.1)
    (record {
      i = 0;
      to = refl;
      pin = omega arith;
      comes = record {
        named = ap (λ n. Some (Along n)) here;
        driver = c;
        source = refl;
        from = refl;
        output = refl;
        contents = refl;
        held = refl;
      };
    })

pins_from : (v j e : ℕ) (ss : List (Option Source)) (k : ℕ) (d : Edge)
    → slice_get (edges_into v j ss) k ≡ Some d
    → FromPins v j e ss k d
pins_from v j e [] k d h = absurd (none-some d h)
pins_from v j e (s ∷ ss) k d h = elim (get_append (edge_into v j s) (edges_into v (j + 1) ss) k d h) [
  | inl left ↦ first_comes v j e s ss k d left
  | inr (k', is, right) ↦
      let rest = pins_from v (j + 1) (e + driven s) ss k' d right in
      let count = length_edge_into v j s in
      let place : (e + driven s) + k' ≡ e + k = omega (arith, is, count) in
      record {
        i = suc rest.i;
        to = rest.to;
        pin = let pin = rest.pin in omega (arith, pin);
        comes = record {
          named = rest.comes.named ∙ ap (λ n. Some (Along n)) place;
          driver = rest.comes.driver;
          source = rest.comes.source;
          from = rest.comes.from;
          output = rest.comes.output;
          contents = rest.comes.contents;
          held = rest.comes.held;
        };
      }
]

-- a later edge of the same vertex leads to a later pin
first_is_0 : (v j : ℕ) (s : Option Source) (k : ℕ) (d : Edge) → slice_get (edge_into v j s) k ≡ Some d
    → (k ≡ 0) × (d.pin ≡ j)
first_is_0 v j None k d h = absurd (none-some d h)
first_is_0 v j (Some (TiedTo b)) k d h = absurd (none-some d h)
first_is_0 v j (Some (Driven c)) k d h =
    let single = get_single (edge_by v j c) d k h in (single.0, ap (λ (x : Edge). x.pin) single.1)

pins_numbered : (v j : ℕ) (ss : List (Option Source)) (k l : ℕ) (d d' : Edge) → k < l
    → slice_get (edges_into v j ss) k ≡ Some d → slice_get (edges_into v j ss) l ≡ Some d' → d.pin < d'.pin
pins_numbered v j [] k l d d' less h g = absurd (none-some d h)
pins_numbered v j (s ∷ ss) k l d d' less h g =
    elim (get_append (edge_into v j s) (edges_into v (j + 1) ss) l d' g) [
      | inl left ↦ let first = first_is_0 v j s l d' left in absurd (omega (arith, first.0))
      | inr (l', is', right') ↦ elim (get_append (edge_into v j s) (edges_into v (j + 1) ss) k d h) [
        | inl left ↦
            let first = first_is_0 v j s k d left in
            let rest = pins_from v (j + 1) 0 ss l' d' right' in
            let pin = rest.pin in
            omega (arith, first.1, pin)
        | inr (k', is, right) ↦ pins_numbered v (j + 1) ss k' l' d d' (omega (arith, is, is')) right right'
      ]
    ]

-- ---- vertices

vertex_to : (v e : ℕ) (xs : List OpenVertex) (w i f : ℕ) (x : Vertex)
    → slice_get (vertices_from e xs) w ≡ Some x
    → slice_get x.pins i ≡ Some (Along f) → LeadsTo (edges_from v xs) e f (v + w) i
vertex_to v e [] w i f x h at = absurd (none-some x h)
vertex_to v e (y ∷ xs) zero i f x h at =
    let same = same_Some (record { kind = y.kind; pins = feeds_from e y.pins }) x h in
    let pin = pins_to v 0 e y.pins i f (subst (λ (z : Vertex). slice_get z.pins i ≡ Some (Along f)) (sym
    same) at) in
    record {
      k = pin.k;
      edge = pin.edge;
      number = pin.number;
      found = get_left (edges_into v 0 y.pins) (edges_from (v + 1) xs) pin.k pin.edge pin.found;
      to = let to = pin.to in omega (arith, to);
      pin = let at = pin.pin in omega (arith, at);
    }
vertex_to v e (y ∷ xs) (suc w) i f x h at =
    let new = sum_by driven y.pins in
    let rest = vertex_to (v + 1) (e + new) xs w i f x h at in
    let count = length_edges_into v 0 y.pins in
    record {
      k = new + rest.k;
      edge = rest.edge;
      number = let number = rest.number in omega (arith, number);
      found = get_right (edges_into v 0 y.pins) (edges_from (v + 1) xs) (new + rest.k) rest.k (omega
          (arith, count)) ∙ rest.found;
      to = let to = rest.to in omega (arith, to);
      pin = rest.pin;
    }

-- edge k of the vertices from v on
pub record FromVertices (v e : ℕ) (xs : List OpenVertex) (k : ℕ) (d : Edge) : Type 0 where
  pub w : ℕ
  pub to : d.to ≡ v + w
  pub old : OpenVertex
  pub given : slice_get xs w ≡ Some old
  pub new : Vertex
  pub found : slice_get (vertices_from e xs) w ≡ Some new
  pub comes : ComesFrom new.pins old.pins e k d.pin d

pub vertex_from : (v e : ℕ) (xs : List OpenVertex) (k : ℕ) (d : Edge) → slice_get (edges_from v xs) k ≡ Some d
    → FromVertices v e xs k d
vertex_from v e [] k d h = absurd (none-some d h)
vertex_from v e (y ∷ xs) k d h = elim (get_append (edges_into v 0 y.pins) (edges_from (v + 1) xs) k d h) [
  | inl left ↦
      let pin = pins_from v 0 e y.pins k d left in
      let here : pin.i ≡ d.pin = let at = pin.pin in omega (arith, at) in
      record {
        w = 0;
        to = let to = pin.to in omega (arith, to);
        old = y;
        given = refl;
        new = record { kind = y.kind; pins = feeds_from e y.pins };
        found = refl;
        comes = subst (λ i. ComesFrom (feeds_from e y.pins) y.pins e k i d) here pin.comes;
      }
  | inr (k', is, right) ↦
      let more = sum_by driven y.pins in
      let rest = vertex_from (v + 1) (e + more) xs k' d right in
      let count = length_edges_into v 0 y.pins in
      let place : (e + more) + k' ≡ e + k = omega (arith, is, count) in
      record {
        w = suc rest.w;
        to = let to = rest.to in omega (arith, to);
        old = rest.old;
        given = rest.given;
        new = rest.new;
        found = rest.found;
        comes = record {
          named = rest.comes.named ∙ ap (λ n. Some (Along n)) place;
          driver = rest.comes.driver;
          source = rest.comes.source;
          from = rest.comes.from;
          output = rest.comes.output;
          contents = rest.comes.contents;
          held = rest.comes.held;
        };
      }
]

vertices_numbered : (v : ℕ) (xs : List OpenVertex) (k l : ℕ) (d d' : Edge) → k < l
    → slice_get (edges_from v xs) k ≡ Some d → slice_get (edges_from v xs) l ≡ Some d' → LeadsBefore d d'
vertices_numbered v [] k l d d' less h g = absurd (none-some d h)
vertices_numbered v (y ∷ xs) k l d d' less h g =
    let mine = edges_into v 0 y.pins in
    let others = edges_from (v + 1) xs in
    elim (get_append mine others k d h) [
      | inl left ↦
          let pin = pins_from v 0 0 y.pins k d left in
          let to = pin.to in
          elim (get_append mine others l d' g) [
            | inl left' ↦
                let pin' = pins_from v 0 0 y.pins l d' left' in
                let to' = pin'.to in
                inr (omega (arith, to, to'), pins_numbered v 0 y.pins k l d d' less left left')
            | inr (l', is', right') ↦
                let from = vertex_from (v + 1) 0 xs l' d' right' in
                let to' = from.to in
                inl (omega (arith, to, to'))
          ]
      | inr (k', is, right) ↦ elim (get_append mine others l d' g) [
        | inl left' ↦ let within = slice_get_within mine l d' left' in absurd (omega (arith, is, within))
        | inr (l', is', right') ↦ vertices_numbered (v + 1) xs k' l' d d' (omega (arith, is, is')) right
            right'
      ]
    ]

-- ---- counts and kinds

pub kinds_from : (e : ℕ) (xs : List OpenVertex) → kinds (vertices_from e xs) ≡ open_kinds xs
kinds_from e [] = refl
kinds_from e (x ∷ xs) = ap (λ ks. x.kind ∷ ks) (kinds_from (e + sum_by driven x.pins) xs)

pub length_vertices_from : (e : ℕ) (xs : List OpenVertex) → length (vertices_from e xs) ≡ length xs
length_vertices_from e [] = refl
length_vertices_from e (x ∷ xs) = ap suc (length_vertices_from (e + sum_by driven x.pins) xs)

pub length_edges_from : (v : ℕ) (xs : List OpenVertex) → length (edges_from v xs) ≡ edge_count xs
length_edges_from v [] = refl
length_edges_from v (x ∷ xs) =
    length-append (edges_into v 0 x.pins) (edges_from (v + 1) xs)
    ∙ ap₂ (λ a b. a + b) (length_edges_into v 0 x.pins) (length_edges_from (v + 1) xs)
    ∙ sym (sum_by-cons (λ (z : OpenVertex). sum_by driven z.pins) x xs)

abbrev pub edge_weights : List Edge → ℕ
edge_weights es = sum_by (λ (d : Edge). d.weight) es

weight_into_one : (v j : ℕ) (s : Option Source) → edge_weights (edge_into v j s) ≡ registers s
weight_into_one v j None = refl
weight_into_one v j (Some (TiedTo b)) = refl
weight_into_one v j (Some (Driven k)) = sum_by-cons (λ (d : Edge). d.weight) (edge_by v j k) [] ∙ omega arith

weight_into : (v j : ℕ) (ss : List (Option Source)) → edge_weights (edges_into v j ss) ≡ sum_by registers ss
weight_into v j [] = refl
weight_into v j (s ∷ ss) =
    sum_by-append (λ (d : Edge). d.weight) (edge_into v j s) (edges_into v (j + 1) ss)
    ∙ ap₂ (λ a b. a + b) (weight_into_one v j s) (weight_into v (j + 1) ss)
    ∙ sym (sum_by-cons registers s ss)

pub weight_from : (v : ℕ) (xs : List OpenVertex) → edge_weights (edges_from v xs) ≡ weight xs
weight_from v [] = refl
weight_from v (x ∷ xs) =
    sum_by-append (λ (d : Edge). d.weight) (edges_into v 0 x.pins) (edges_from (v + 1) xs)
    ∙ ap₂ (λ a b. a + b) (weight_into v 0 x.pins) (weight_from (v + 1) xs)
    ∙ sym (sum_by-cons (λ (z : OpenVertex). sum_by registers z.pins) x xs)

-- the vertex that a given one became
pub record Became (e : ℕ) (xs : List OpenVertex) (w : ℕ) (x : Vertex) : Type 0 where
  pub old : OpenVertex
  pub given : slice_get xs w ≡ Some old
  pub kind : x.kind ≡ old.kind
  pub count : length x.pins ≡ length old.pins

pub became : (e : ℕ) (xs : List OpenVertex) (w : ℕ) (x : Vertex) → slice_get (vertices_from e xs) w ≡ Some x
    → Became e xs w x
became e [] w x h = absurd (none-some x h)
became e (y ∷ xs) zero x h =
    let same = same_Some (record { kind = y.kind; pins = feeds_from e y.pins }) x h in
    record {
      old = y;
      given = refl;
      kind = sym (ap (λ (z : Vertex). z.kind) same);
      count = sym (ap (λ (z : Vertex). length z.pins) same) ∙ length_feeds_from e y.pins;
    }
became e (y ∷ xs) (suc w) x h =
    let rest = became (e + sum_by driven y.pins) xs w x h in
    record { old = rest.old; given = rest.given; kind = rest.kind; count = rest.count }

-- ---- all together

-- each source that drives a pin is an output that is there
abbrev pub HasOutputs : Draft → Type 0
HasOutputs d =
    (v i : ℕ) (x : OpenVertex) (k : Driver) → slice_get d.vertices v ≡ Some x
    → slice_get x.pins i ≡ Some (Some (Driven k))
    → HasOutput d.memories (open_kinds d.vertices) k.from k.output

module _ (d : Draft) (has_outputs : HasOutputs d) where
  built_fed : IsFed (built d)
  built_fed = record {
    named = λ v i e x found at.
        let leads = vertex_to 0 0 d.vertices v i e x found at in
        let within = slice_get_within (edges_from 0 d.vertices) leads.k leads.edge leads.found in
        let number = leads.number in
        omega (arith, within, number);
    to = λ v i e x y found at there.
        let leads = vertex_to 0 0 d.vertices v i e x found at in
        let number : e ≡ leads.k = let number = leads.number in omega (arith, number) in
        let same = same_Some leads.edge y (sym leads.found ∙ ap (slice_get (edges_from 0 d.vertices)) (sym
        number) ∙ there) in
        let to = leads.to in
        sym (ap (λ (z : Edge). z.to) same) ∙ to ∙ omega arith;
    pin = λ v i e x y found at there.
        let leads = vertex_to 0 0 d.vertices v i e x found at in
        let number : e ≡ leads.k = let number = leads.number in omega (arith, number) in
        let same = same_Some leads.edge y (sym leads.found ∙ ap (slice_get (edges_from 0 d.vertices)) (sym
        number) ∙ there) in
        sym (ap (λ (z : Edge). z.pin) same) ∙ leads.pin;
    feeds = λ e y there.
        let from = vertex_from 0 0 d.vertices e y there in
        let to : y.to ≡ from.w = let to = from.to in omega (arith, to) in
        let number : 0 + e ≡ e = omega arith in (
          from.new,
          ap (slice_get (vertices_from 0 d.vertices)) to ∙ from.found,
          from.comes.named ∙ ap (λ n. Some (Along n)) number,
        );
  }

  built_output : (e : ℕ) (y : Edge) → slice_get (edges_from 0 d.vertices) e ≡ Some y
      → HasOutput d.memories (open_kinds d.vertices) y.from y.output
  built_output e y there =
      let from = vertex_from 0 0 d.vertices e y there in
      let comes = from.comes in
      let has = has_outputs from.w y.pin from.old comes.driver from.given comes.source in
      subst (λ u. HasOutput d.memories (open_kinds d.vertices) u y.output) (sym comes.from)
      (subst (λ o. HasOutput d.memories (open_kinds d.vertices) comes.driver.from o) (sym comes.output) has)

  wired_by_outputs : IsWired (built d)
  wired_by_outputs = record {
    fed = built_fed;
    from = λ e y there.
        let has = built_output e y there in
        let within = slice_get_within (open_kinds d.vertices) y.from has.kind has.found in
        let same = length-map d.vertices (λ (z : OpenVertex). z.kind) in
        let count = length_vertices_from 0 d.vertices in
        omega (arith, within, same, count);
  }

  -- what is built of it is well-formed where no loop lacks a register
  pub built_well_formed : HasOrder (built d) → IsWellFormed (built d)
  built_well_formed order = record {
    fed = built_fed;
    from = wired_by_outputs.from;
    to = λ e y there.
        let from = vertex_from 0 0 d.vertices e y there in
        let within = slice_get_within (vertices_from 0 d.vertices) from.w from.new from.found in
        let to = from.to in
        omega (arith, within, to);
    held = λ e y there. let from = vertex_from 0 0 d.vertices e y there in from.comes.held;
    order = order;
  }

module _ (d : Draft) (is : IsDraft d) where
  pub built_wired : IsWired (built d)
  built_wired = wired_by_outputs d is.outputs

  pub built_machine : HasOrder (built d) → IsMachine (built d)
  built_machine order =
      let same = kinds_from 0 d.vertices in
      record {
        well_formed = built_well_formed d is.outputs order;
        host = subst HasHost (sym same) is.host;
        pins = λ v x found.
            let was = became 0 d.vertices v x found in
            was.count ∙ is.pins v was.old was.given ∙ ap (pin_count d.memories) (sym was.kind);
        outputs = λ e y there. subst (λ ks. HasOutput d.memories ks y.from y.output) (sym same)
            (built_output d is.outputs e y there);
        memories = subst (HasMemories d.memories) (sym same) is.memories;
        numbered = λ e f y z less there there'. vertices_numbered 0 d.vertices e f y z less there there';
        limits = record {
          vertices = let count = length_vertices_from 0 d.vertices in let few = is.limits.vertices in omega
              (arith, count, few);
          edges = let count = length_edges_from 0 d.vertices in let few = is.limits.edges in omega (
            arith,
            count,
            few,
          );
          weight = let count = weight_from 0 d.vertices in let few = is.limits.weight in omega (
            arith,
            count,
            few,
          );
        };
      }
