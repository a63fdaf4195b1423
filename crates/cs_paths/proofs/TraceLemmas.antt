-- Paths that attain what a row keeps, edge by edge from their end.
use Rattle.std.proofs.Common.{◌≡◌, ◌≢◌, ℕ, ◌+◌, ◌-◌, ◌<◌, List, [], ◌∷◌, ◌++◌, Bool, true, false, length, get_or, reverse, refl, sym, ap, ap₂, subst, ◌∙◌, arith}
use Rattle.std.specs.Prelude.{Option, Some, None, slice_get, is_some, IfNone, ◌==◌}
use Rattle.std.specs.Bool.{OnTrue, OnFalse}
use Rattle.std.proofs.lemmas.List.{reverse-append, length-reverse, length-append}
use Rattle.std.proofs.lemmas.Option.{same_Some, get_or_from_slice_get}
use Rattle.cs_graph.specs.declared.delays.Delays.{Delays}
use Rattle.cs_graph.specs.declared.edge.Edge.{Edge}
use Rattle.cs_graph.specs.declared.graph.Graph.{Graph}
use Rattle.cs_graph.specs.declared.vertex.Vertex.{Vertex}
use Rattle.cs_graph.specs.declared.vertex.Feed.{Feed}
use Rattle.cs_graph.specs.declared.vertex.Feed.TheVariants.{Tied, Edge as Along}
use Rattle.cs_graph.specs.Invariant.{IsFed, IsWellFormed}
use Rattle.cs_graph.specs.Period.{vertex_delay, pin_delay, edge_delay, edges_delay, path_delay, edge_weight, path_weight, IsPath, IsPathPair}
use Rattle.cs_graph.proofs.PathWeights.{closed_path, least_short}
use Rattle.cs_paths.specs.declared.reach.Reach.{Reach}
use Rattle.cs_paths.specs.Reaches.{no_reach, reach_of, known_at, HasReach}
use Rattle.cs_paths.specs.Rows.{IsPairAt, IsRowOf, IsBestPath}
use Rattle.cs_paths.specs.Searches.{along}
use Rattle.cs_paths.specs.Traces.{Attains, IsLastEdge}
use Rattle.cs_paths.proofs.DefaultLemmas.{get_or_default}
use Rattle.cs_paths.proofs.SearchLemmas.{path_push, weight_push, delay_push}

module _ (g : Graph) (delays : Delays) where
  -- ---- the last edge of a path

  -- a path with an edge: the path before its last edge, and that edge
  record HasLast (u : ℕ) (es : List ℕ) (v : ℕ) : Type 0 where
    before : List ℕ
    e : ℕ
    edge : Edge
    found : slice_get g.edges e ≡ Some edge
    to : edge.to ≡ v
    leads : IsPath g u before edge.from
    weight : path_weight g es ≡ path_weight g before + edge.weight
    delay : edges_delay g delays es ≡ edges_delay g delays before + pin_delay delays edge.to edge.pin

  last_of : (u f : ℕ) (es : List ℕ) (v : ℕ) → IsPath g u (f ∷ es) v → HasLast u (f ∷ es) v
  last_of u f [] v (d, found, begins, ends) = record {
    before = [];
    e = f;
    edge = d;
    found = found;
    to = ends;
    leads = sym begins;
    weight = let here = ap edge_weight found in omega (arith, here);
    delay = let here = ap (edge_delay delays) found in omega (arith, here);
  }
  last_of u f (e ∷ es) v (d, found, begins, rest) =
      let last = last_of d.to e es v rest in
      record {
        before = f ∷ last.before;
        e = last.e;
        edge = last.edge;
        found = last.found;
        to = last.to;
        leads = (d, found, begins, last.leads);
        weight = let weight = last.weight in omega (arith, weight);
        delay = let delay = last.delay in omega (arith, delay);
      }

  has_last : (u : ℕ) (es : List ℕ) (v : ℕ) → u ≢ v → IsPath g u es v → HasLast u es v
  has_last u [] v apart same = absurd (apart same)
  has_last u (f ∷ es) v apart leads = last_of u f es v leads

  -- ---- paths joined

  path_append : (u : ℕ) (es : List ℕ) (x : ℕ) (fs : List ℕ) (v : ℕ) → IsPath g u es x → IsPath g x fs v
      → IsPath g u (es ++ fs) v
  path_append u [] x fs v same goes = subst (λ n. IsPath g n fs v) (sym same) goes
  path_append u (e ∷ es) x fs v (d, found, from, rest) goes = (d, found, from, path_append d.to es x fs v rest goes)

  weight_append : (es fs : List ℕ) → path_weight g (es ++ fs) ≡ path_weight g es + path_weight g fs
  weight_append [] fs = omega arith
  weight_append (e ∷ es) fs = let rest = weight_append es fs in omega (arith, rest)

  -- edges that lead on to `target`, the last first, and add what is kept of it to what is kept of v
  pub record IsTail (row : List Reach) (target v : ℕ) (edges : List ℕ) : Type 0 where
    pub low : v < length g.vertices
    pub reached : HasReach row v
    pub leads : IsPath g v (reverse edges) target
    pub adds : (a : ℕ × ℕ) → known_at row v ≡ Some a
        → known_at row target ≡ Some (a.0 + path_weight g (reverse edges), a.1 + edges_delay g delays (reverse edges))

  module _ (well : IsWellFormed g) (u : ℕ) (row : List Reach) (is : IsRowOf g delays u row) where
    pair_of : (v : ℕ) (a : ℕ × ℕ) → v < length g.vertices → known_at row v ≡ Some a
        → IsPathPair g delays u v a.0 a.1
    pair_of v a low known = subst (IsPairAt g delays u v) known (is.pairs v low)

    -- what a path leads to has something kept
    reached_by : (v : ℕ) (es : List ℕ) → v < length g.vertices → IsPath g u es v
        → (o : Option (ℕ × ℕ)) → known_at row v ≡ o → HasReach row v
    reached_by v es low leads None unknown =
        absurd ((subst (IsPairAt g delays u v) unknown (is.pairs v low)) es leads)
    reached_by v es low leads (Some a) known = (a, known)

    -- ---- an edge that attains

    module _ (v : ℕ) (at : ℕ × ℕ) (low : v < length g.vertices) (known : known_at row v ≡ Some at)
        (apart : u ≢ v) where
      abbrev pair : IsPathPair g delays u v at.0 at.1
      pair = pair_of v at low known

      abbrev last : HasLast u pair.greatest_delay.path v
      last = has_last u pair.greatest_delay.path v apart pair.greatest_delay.leads

      from_low : last.edge.from < length g.vertices
      from_low = well.from last.e last.edge last.found

      reached : HasReach row last.edge.from
      reached = reached_by last.edge.from last.before from_low last.leads _ refl

      abbrev pair_before : IsPathPair g delays u last.edge.from reached.0.0 reached.0.1
      pair_before = pair_of last.edge.from reached.0 from_low reached.1

      abbrev through : List ℕ
      through = pair_before.greatest_delay.path ++ last.e ∷ []

      through_leads : IsPath g u through v
      through_leads = subst (IsPath g u through) last.to
          (path_push g delays u pair_before.greatest_delay.path last.edge.from last.e last.edge
          pair_before.greatest_delay.leads last.found refl)

      same_weight : reached.0.0 + last.edge.weight ≡ at.0
      same_weight =
          let few = pair_before.least_weight.least last.before last.leads in
          let all = pair.least_weight.least through through_leads in
          let pushed = weight_push g delays pair_before.greatest_delay.path last.e last.edge last.found in
          let weighs = pair_before.greatest_delay.weighs in
          let split = last.weight in
          let whole = pair.greatest_delay.weighs in
          omega (arith, few, all, pushed, weighs, split, whole)

      same_delay : reached.0.1 + pin_delay delays last.edge.to last.edge.pin ≡ at.1
      same_delay =
          let split = last.weight in
          let whole = pair.greatest_delay.weighs in
          let weight = same_weight in
          let pushed = weight_push g delays pair_before.greatest_delay.path last.e last.edge last.found in
          let weighs = pair_before.greatest_delay.weighs in
          let most_before = pair_before.greatest_delay.greatest last.before last.leads
          (omega (arith, split, whole, weight)) in
          let most = pair.greatest_delay.greatest through through_leads (omega (arith, pushed, weighs, weight)) in
          let delayed = delay_push g delays pair_before.greatest_delay.path last.e last.edge last.found in
          let was = pair_before.greatest_delay.is in
          let is_at = pair.greatest_delay.is in
          let parts = last.delay in
          omega (arith, most_before, most, delayed, was, is_at, parts)

      pub last_exists : (e : ℕ) × IsLastEdge g delays row v at e
      last_exists = (
        last.e,
        record {
          attains = record {
            edge = last.edge;
            found = last.found;
            before = reached.0;
            known = reached.1;
            is = ap₂ (λ (m n : ℕ). (m, n)) same_weight same_delay;
          };
          to = last.to;
        },
      )

    -- ---- from the end back

    pub tail_begins : (target : ℕ) → target < length g.vertices → HasReach row target → IsTail row target target []
    tail_begins target low reached = record {
      low = low;
      reached = reached;
      leads = refl;
      adds = λ a known. known ∙ ap₂ (λ (m n : ℕ). Some (m, n)) (omega arith) (omega arith);
    }

    pub tail_goes_on : (target v e : ℕ) (d : Edge) (edges : List ℕ) → IsTail row target v edges
        → ((at : ℕ × ℕ) → known_at row v ≡ Some at → IsLastEdge g delays row v at e)
        → slice_get g.edges e ≡ Some d → IsTail row target d.from (edges ++ e ∷ [])
    tail_goes_on target v e d edges tail last found = record {
      low = well.from e d found;
      reached = (b, subst (λ n. known_at row n ≡ Some b) (ap (λ (x : Edge). x.from) edge) one.attains.known);
      leads = subst (λ es. IsPath g d.from es target) (sym turned)
          (d, found, refl, subst (λ n. IsPath g n (reverse edges) target) (sym to) tail.leads);
      adds = λ a known.
          let which = same_Some b a (sym one.attains.known ∙ ap (known_at row) (ap (λ (x : Edge). x.from) edge) ∙ known) in
          let is = one.attains.is in
          let weight : at.0 ≡ a.0 + d.weight =
          sym (ap (λ (x : ℕ × ℕ). x.0) is) ∙ ap₂ (λ (x : ℕ × ℕ) (y : Edge). x.0 + y.weight) which edge in
          let delay : at.1 ≡ a.1 + pin_delay delays d.to d.pin =
          sym (ap (λ (x : ℕ × ℕ). x.1) is)
          ∙ ap₂ (λ (x : ℕ × ℕ) (y : Edge). x.1 + pin_delay delays y.to y.pin) which edge in
          let first_weight = ap edge_weight found in
          let first_delay = ap (edge_delay delays) found in
          subst (λ es. known_at row target ≡ Some (a.0 + path_weight g es, a.1 + edges_delay g delays es)) (sym turned)
          (tail.adds at tail.reached.1
          ∙ ap₂ (λ (m n : ℕ). Some (m, n)) (omega (arith, weight, first_weight)) (omega (arith, delay, first_delay)));
    }
      where
        at : ℕ × ℕ
        at = tail.reached.0

        one : IsLastEdge g delays row v tail.reached.0 e
        one = last tail.reached.0 tail.reached.1

        b : ℕ × ℕ
        b = one.attains.before

        edge : one.attains.edge ≡ d
        edge = same_Some one.attains.edge d (sym one.attains.found ∙ found)

        to : d.to ≡ v
        to = sym (ap (λ (x : Edge). x.to) edge) ∙ one.to

        turned : reverse (edges ++ e ∷ []) ≡ e ∷ reverse edges
        turned = reverse-append edges (e ∷ [])

    -- there are fewer edges than vertices
    pub tail_short : (target v : ℕ) (edges : List ℕ) → u < length g.vertices → target < length g.vertices
        → IsTail row target v edges → length edges < length g.vertices
    tail_short target v edges low target_low tail =
        let a = tail.reached.0 in
        let pair = pair_of v a tail.low tail.reached.1 in
        let whole = pair_of target (a.0 + path_weight g (reverse edges), a.1 + edges_delay g delays (reverse edges))
        target_low (tail.adds a tail.reached.1) in
        let first = pair.least_weight in
        let leads = path_append u first.path v (reverse edges) target first.leads tail.leads in
        let weight = weight_append first.path (reverse edges) in
        let weighs = first.is in
        let short = least_short g well u target (a.0 + path_weight g (reverse edges))
        (first.path ++ reverse edges) low whole.least_weight leads (omega (arith, weight, weighs)) in
        let count = length-append first.path (reverse edges) in
        let turned = length-reverse edges in
        omega (arith, short, count, turned)

    -- no register, and its own delay, are kept of u
    own_pair : (a : ℕ × ℕ) → u < length g.vertices → known_at row u ≡ Some a
        → (a.0 ≡ 0) × (a.1 ≡ vertex_delay delays u)
    own_pair a low known =
        let pair = pair_of u a low known in
        let least = pair.least_weight.least [] refl in
        let none : a.0 ≡ 0 = omega (arith, least) in (
          none,
          own_delay pair.greatest_delay.path pair.greatest_delay.leads
              (let weighs = pair.greatest_delay.weighs in omega (arith, weighs, none)) a.1 pair.greatest_delay.is,
        )
      where
        own_delay : (es : List ℕ) → IsPath g u es u → path_weight g es ≡ 0 → (delay : ℕ)
            → path_delay g delays u es ≡ delay → delay ≡ vertex_delay delays u
        own_delay [] leads none delay is = omega (arith, is)
        own_delay (e ∷ es) leads none delay is =
            let some = closed_path g well.order u e es leads in absurd (omega (arith, some, none))

    pub tail_ends : (target v : ℕ) (edges : List ℕ) → u < length g.vertices → target < length g.vertices → u ≡ v
        → IsTail row target v edges → IsBestPath g delays u target (reverse edges)
    tail_ends target v edges low target_low same tail =
        let a = tail.reached.0 in
        let own = own_pair a low (subst (λ n. known_at row n ≡ Some a) (sym same) tail.reached.1) in
        let weight : a.0 + path_weight g (reverse edges) ≡ path_weight g (reverse edges) =
        let none = own.0 in omega (arith, none) in
        let delay : a.1 + edges_delay g delays (reverse edges) ≡ path_delay g delays u (reverse edges) =
        let mine = own.1 in omega (arith, mine) in
        record {
          leads = subst (λ n. IsPath g n (reverse edges) target) (sym same) tail.leads;
          attains = subst (λ n. IsPathPair g delays u target n (path_delay g delays u (reverse edges))) weight
              (subst (IsPathPair g delays u target (a.0 + path_weight g (reverse edges))) delay
              (pair_of target (a.0 + path_weight g (reverse edges), a.1 + edges_delay g delays (reverse edges))
              target_low (tail.adds a tail.reached.1)));
        }

-- ---- what a row is read to keep

pub known_read : (row : List Reach) (i v : ℕ) (d : Reach) (o : Option (ℕ × ℕ)) → i ≡ v → v < length row
    → o ≡ reach_of (get_or row i d) → known_at row v ≡ o
known_read row i v d o same low read =
    ap (known_at row) (sym same)
    ∙ sym (read ∙ ap reach_of (get_or_default row i d no_reach (subst (λ n. n < length row) (sym same) low)))

pub some_reach : (row : List Reach) (v : ℕ) (o : Option (ℕ × ℕ)) → known_at row v ≡ o → is_some o ≡ true
    → HasReach row v
some_reach row v None known some = absurd (cc)
some_reach row v (Some a) known some = (a, known)

pub row_read : (rows : List (List Reach)) (row : List Reach) (i u : ℕ) → i ≡ u → u < length rows
    → row ≡ get_or rows i row → get_or rows u [] ≡ row
row_read rows row i u same low read =
    ap (λ n. get_or rows n []) (sym same)
    ∙ get_or_default rows i [] row (subst (λ n. n < length rows) (sym same) low) ∙ sym read

-- ---- an edge is asked

pub pin_delay_is : (delays : Delays) (v i : ℕ) (ds : List ℕ) → slice_get delays.per_pin v ≡ Some ds
    → pin_delay delays v i ≡ get_or ds i 0
pin_delay_is delays v i ds found = ap (λ xs. get_or xs i 0) (get_or_from_slice_get delays.per_pin v ds [] found)

equal_by : (b : Bool) (x y : ℕ) → b ≡ (x == y) → b ≡ true → x ≡ y
equal_by b x y is h = let both : (x == y) ≡ true = sym is ∙ h in grind (arith, both)

apart_by : (b : Bool) (x y : ℕ) → b ≡ (x == y) → b ≡ false → x ≡ y → ⊥
apart_by b x y is h same = let both : (x == y) ≡ false = sym is ∙ h in grind (arith, both, same)

on_true_by : (b : Bool) (P : Type 0) → (b ≡ true → P) → OnTrue b P
on_true_by true P h = h refl
on_true_by false P h = tt

on_false_by : (b : Bool) (P : Type 0) → (b ≡ false → P) → OnFalse b P
on_false_by true P h = tt
on_false_by false P h = h refl

pub on_equal : (x y : ℕ) (P : Type 0) → (x ≡ y → P) → OnTrue (x == y) P
on_equal x y P h = on_true_by (x == y) P (λ is. h (equal_by (x == y) x y refl is))

pub on_apart : (x y : ℕ) (P : Type 0) → ((x ≡ y → ⊥) → P) → OnFalse (x == y) P
on_apart x y P h = on_false_by (x == y) P (λ is. h (apart_by (x == y) x y refl is))

pub attains_also : (g : Graph) (delays : Delays) (row : List Reach) (at : ℕ × ℕ) (e : ℕ) (d : Edge) (a : ℕ × ℕ)
    → slice_get g.edges e ≡ Some d → known_at row d.from ≡ Some a → Attains g delays row at e
    → along delays d a ≡ at
attains_also g delays row at e d a found known has =
    let edge = same_Some has.edge d (sym has.found ∙ found) in
    let before = same_Some has.before a (sym has.known ∙ ap (λ (x : Edge). known_at row x.from) edge ∙ known) in
    ap₂ (λ (x : Edge) (b : ℕ × ℕ). along delays x b) (sym edge) (sym before) ∙ has.is

-- an edge that a pin names leads to the pin's vertex
pub leads_to : (g : Graph) (delays : Delays) (row : List Reach) (v i e : ℕ) (at : ℕ × ℕ) (x : Vertex) (pins : List Feed)
    → IsFed g → slice_get g.vertices v ≡ Some x → pins ≡ x.pins → slice_get pins i ≡ Some (Along e)
    → Attains g delays row at e → IsLastEdge g delays row v at e
leads_to g delays row v i e at x pins fed there same pin has = record {
  attains = has;
  to = fed.to v i e x has.edge there (ap (λ (fs : List Feed). slice_get fs i) (sym same) ∙ pin) has.found;
}

-- an edge that leads to a vertex is named by a pin of it
pub named_by : (g : Graph) (delays : Delays) (row : List Reach) (v e : ℕ) (at : ℕ × ℕ) (x : Vertex) (pins : List Feed)
    → IsFed g → slice_get g.vertices v ≡ Some x → pins ≡ x.pins → (last : IsLastEdge g delays row v at e)
    → slice_get pins last.attains.edge.pin ≡ Some (Along e)
named_by g delays row v e at x pins fed there same last =
    let d = last.attains.edge in
    let pin = fed.feeds e d last.attains.found in
    let vertex = same_Some pin.0 x (sym pin.1 ∙ ap (slice_get g.vertices) last.to ∙ there) in
    ap (λ (fs : List Feed). slice_get fs d.pin) (same ∙ sym (ap (λ (y : Vertex). y.pins) vertex)) ∙ pin.2

pub if_none_then : {A : Type 0} (o : Option A) (P Q : Type 0) → (P → Q) → IfNone o P → IfNone o Q
if_none_then None P Q h p = h p
if_none_then (Some a) P Q h p = tt

pub fewer_left : (n : ℕ) (old new : List ℕ) (e : ℕ) → length old < n → new ≡ old ++ e ∷ []
    → n - length new < n - length old
fewer_left n old new e low same =
    let count = ap (λ (xs : List ℕ). length xs) same in
    let more = length-append old (e ∷ []) in
    omega (arith, low, count, more)

pub attains_when : (g : Graph) (delays : Delays) (row : List Reach) (at : ℕ × ℕ) (e : ℕ) (d : Edge) (a : ℕ × ℕ)
    → slice_get g.edges e ≡ Some d → known_at row d.from ≡ Some a → a.0 + d.weight ≡ at.0
    → a.1 + pin_delay delays d.to d.pin ≡ at.1 → Attains g delays row at e
attains_when g delays row at e d a found known weight delay = record {
  edge = d;
  found = found;
  before = a;
  known = known;
  is = ap₂ (λ (m n : ℕ). (m, n)) weight delay;
}

abbrev named : Feed → ℕ
named (Tied b) = 0
named (Along e) = e

pub same_edge : (e f : ℕ) → Along e ≡ Along f → e ≡ f
same_edge e f same = ap named same
