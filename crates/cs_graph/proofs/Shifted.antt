-- The run of a machine, each vertex shifted by its lag, is a run of the retimed machine.
use Rattle.std.proofs.Common.{◌≡◌, ℕ, zero, suc, ◌+◌, ◌*◌, ◌<◌, ◌≤◌, ◌⊎◌, Bool, false, List, [], ◌∷◌, length, get_or, map, refl, sym, ap, subst, ◌∙◌, arith, inl, inr, add-zero, mul-le-mul_right}
use Rattle.std.specs.Prelude.{ℤ, pos, negsuc, ◌+ℤ◌, ◌-ℤ◌, ◌≤ℤ◌, slice_get, option_map, Option, Some, None, IsTrue, if◌then◌else◌, nat_lt, unsigned_abs}
use Rattle.std.specs.List.{enumerate_from}
use Rattle.std.proofs.lemmas.Int.{ints}
use Rattle.std.proofs.lemmas.List.{length-map}
use Rattle.std.proofs.lemmas.List.FromFn.{length-enumerate_from}
use Rattle.std.proofs.lemmas.Bool.{cases_lt}
use Rattle.std.proofs.lemmas.Bool.Decides.{nat_tests}
use Rattle.std.proofs.lemmas.Option.{slice_get-map}
use Rattle.cs_cells.specs.declared.gate.Kind.{Kind}
use Rattle.cs_cells.specs.Gates.{gate_value}
use Rattle.cs_cells.specs.Memories.{Words}
use Rattle.cs_base.specs.declared.contexts.Mode.{Mode}
use Rattle.cs_graph.specs.declared.vertex.VertexKind.{VertexKind}
use Rattle.cs_graph.specs.declared.vertex.VertexKind.TheVariants.{Host, Input, Output, Constant, Gate, Read, Write as WritePort}
use Rattle.cs_graph.specs.declared.vertex.Feed.{Feed}
use Rattle.cs_graph.specs.declared.vertex.Feed.TheVariants.{Tied, Edge as Along}
use Rattle.cs_graph.specs.declared.vertex.Vertex.{Vertex}
use Rattle.cs_graph.specs.declared.edge.Edge.{Edge}
use Rattle.cs_graph.specs.declared.contents.Contents.{Contents}
use Rattle.cs_graph.specs.declared.graph.Graph.{Graph}
use Rattle.cs_graph.specs.Run.{Row, Outs, carried, seen_edge, seen, output_of, vertex_output, value_at, inputs_before, RunsFor, row_of, RunsWith}
use Rattle.cs_graph.specs.Kinds.{is_pinned}
use Rattle.cs_graph.specs.Invariant.{HasOrder, IsWellFormed}
use Rattle.cs_graph.specs.Lags.{lag_at, weight_under, IsLegal, of_edge, retimed_edge, retimed, Justifies, AreWithin}
use Rattle.cs_graph.specs.Past.{Past, lead, ever, past_carried, past_edge, past_seen, IsPast, AreRight}
use Rattle.cs_graph.proofs.Lists.{map_same}
use Rattle.cs_graph.proofs.Sees.{SameSight, SamePinned, value_same, words_same, outputs_same, carried_same}
use Rattle.cs_graph.proofs.Runs.{sooner, runs_agree, value_of, words_of, run_of}
use Prim.Native.Nat.{max}
use borrow.Author.Differences.{up, down}

-- ---- tests and numbers

pub if_below : (i w : ℕ) (a b : Bool) → i < w → (if nat_lt i w then a else b) ≡ a
if_below i w a b h = grind (arith, nat_tests)

pub if_above : (i w : ℕ) (a b : Bool) → w ≤ i → (if nat_lt i w then a else b) ≡ b
if_above i w a b h = grind (arith, nat_tests)

pub lead_is : (z : ℤ) → lead z + down z ≡ max (up z) (down z)
lead_is (pos n) = omega arith
lead_is (negsuc n) = omega arith

pub slice_get-enumerate : {A : Type 0} (xs : List A) (n i : ℕ)
    → slice_get (enumerate_from n xs) i ≡ option_map (λ x. (n + i, x)) (slice_get xs i)
slice_get-enumerate [] n i = refl
slice_get-enumerate (x ∷ xs) n zero = ap (λ m. Some (m, x)) (sym (add-zero n))
slice_get-enumerate (x ∷ xs) n (suc i) = let place : n + 1 + i ≡ n + suc i = omega arith in
    slice_get-enumerate xs (n + 1) i ∙ ap (λ m. option_map (λ y. (m, y)) (slice_get xs i)) place

-- a vertex is pinned or a gate
pinned_or : (kind : VertexKind) → IsTrue (is_pinned kind) ⊎ ((gate : Kind) × (kind ≡ Gate gate))
pinned_or Host = inl refl
pinned_or Input = inl refl
pinned_or Output = inl refl
pinned_or (Constant b) = inl refl
pinned_or (Gate kind) = inr (kind, refl)
pinned_or (Read memory port) = inl refl
pinned_or (WritePort memory port) = inl refl

-- as many edges as before
edge_count : (lags : List ℤ) (k : Contents) (g : Graph) → length (retimed lags k g).edges ≡ length g.edges
edge_count lags k g = length-map (enumerate_from 0 g.edges) (retimed_edge lags k) ∙ length-enumerate_from 0
    g.edges

-- edge e of the retimed machine
pub edge_of : (lags : List ℤ) (k : Contents) (g : Graph) (e : ℕ)
    → slice_get (retimed lags k g).edges e ≡ option_map (λ d. retimed_edge lags k (e, d)) (slice_get
    g.edges e)
edge_of lags k g e = slice_get-map (retimed_edge lags k) (enumerate_from 0 g.edges) e ∙ ap (option_map
    (retimed_edge lags k)) (slice_get-enumerate g.edges 0 e) ∙ joined (slice_get g.edges e)
  where
    joined : (o : Option Edge) → option_map (retimed_edge lags k) (option_map (λ x. (0 + e, x)) o) ≡
        option_map (λ d. retimed_edge lags k (e, d)) o
    joined None = refl
    joined (Some d) = let place : 0 + e ≡ e = omega arith in ap (λ m. Some (retimed_edge lags k (m, d))) place

-- ---- the times of an edge

sees_at : (m w : ℕ) (lag lag' : ℤ) → pos 0 ≤ℤ (pos w +ℤ lag' -ℤ lag)
    → (pos m -ℤ pos (unsigned_abs (pos w +ℤ lag' -ℤ lag))) -ℤ lag ≡ (pos m -ℤ lag') -ℤ pos w
sees_at m w lag lag' h = omega (arith, ints)

held_at : (m w' j : ℕ) → pos m -ℤ pos w' ≡ negsuc j → j < w'
held_at m w' j h = omega (arith, ints)

shift_up : (m : ℕ) (lag : ℤ) (i : ℕ) → pos m -ℤ lag ≡ negsuc i → i < lead lag
shift_up m lag i h = omega (arith, ints, lead_is lag)

deeper : (i w : ℕ) → negsuc i -ℤ pos w ≡ negsuc (i + w)
deeper i w = omega (arith, ints)

no_lag : (m : ℕ) (lag : ℤ) → lag ≡ pos 0 → pos m -ℤ lag ≡ pos m
no_lag m lag h = omega (arith, ints)

back : (m n : ℕ) (lag : ℤ) → pos m ≡ pos n +ℤ lag → pos m -ℤ lag ≡ pos n
back m n lag h = omega (arith, ints)

length_of_none : {A : Type 0} (xs : List A) (i : ℕ) → slice_get xs i ≡ None → length xs ≤ i
length_of_none [] i h = omega arith
length_of_none (x ∷ xs) zero h = cc
length_of_none (x ∷ xs) (suc i) h = let rest = length_of_none xs i h in omega arith

no_lag_past : (lags : List ℤ) (v : ℕ) → length lags ≤ v → lag_at lags v ≡ pos 0
no_lag_past [] v h = refl
no_lag_past (z ∷ lags) zero h = absurd (omega arith)
no_lag_past (z ∷ lags) (suc v) h = no_lag_past lags v (omega arith)

module _ (g : Graph) (mode : Mode) (lags : List ℤ) (legal : IsLegal g mode lags) where
  pub still_or_gate : (v : ℕ) → (lag_at lags v ≡ pos 0) ⊎ ((x : Vertex) × (kind : Kind) × (slice_get
      g.vertices v ≡ Some x) × (x.kind ≡ Gate kind))
  still_or_gate v = by_vertex (slice_get g.vertices v) refl
    where
      by_kind : (x : Vertex) → slice_get g.vertices v ≡ Some x
          → (IsTrue (is_pinned x.kind) ⊎ ((gate : Kind) × (x.kind ≡ Gate gate)))
          → (lag_at lags v ≡ pos 0) ⊎ ((x : Vertex) × (kind : Kind) × (slice_get g.vertices v ≡ Some x) ×
          (x.kind ≡ Gate kind))
      by_kind x is (inl pinned) = inl (legal.pinned v x is pinned)
      by_kind x is (inr gate) = inr (x, gate.0, is, gate.1)

      by_vertex : (o : Option Vertex) → slice_get g.vertices v ≡ o
          → (lag_at lags v ≡ pos 0) ⊎ ((x : Vertex) × (kind : Kind) × (slice_get g.vertices v ≡ Some x) ×
          (x.kind ≡ Gate kind))
      by_vertex None is = inl (no_lag_past lags v (let past = length_of_none g.vertices v is in let same =
          legal.count in omega arith))
      by_vertex (Some x) is = by_kind x is (pinned_or x.kind)

module _ (g : Graph) (whole : IsWellFormed g) (mode : Mode) (lags : List ℤ) (legal : IsLegal g mode lags)
    (past : Past) (model : IsPast g lags past) (k : Contents) (right : AreRight g lags past k) (row : ℕ
    → Row) (value : ℕ → Outs) (words : ℕ → ℕ → Words) (run : (n : ℕ)
    → RunsFor false g n row value words) where
  -- ---- the values of the vertices and edges at all clocks

  signal : ℤ → Outs
  signal (pos n) v o = value n v o
  signal (negsuc i) v o = past.values v i

  line : ℕ → Edge → ℤ → Bool
  line e d z = ever lags past value e d z

  line_edge : ℕ → Option Edge → ℤ → Bool
  line_edge e None z = false
  line_edge e (Some d) z = line e d (z -ℤ pos d.weight)

  line_seen : ℤ → Feed → Bool
  line_seen z (Tied b) = b
  line_seen z (Along e) = line_edge e (slice_get g.edges e) z

  -- ---- they are those of the machine

  started : (e : ℕ) (d : Edge) (z : ℤ) → ((i : ℕ) → z ≡ negsuc i → i < d.weight)
      → carried d value z ≡ line e d z
  unfolding line
  started e d (pos n) h = refl
  started e d (negsuc i) h = sym (if_below i d.weight (get_or d.contents i false) (past_carried lags past e
      d i) (h i refl))

  now_edge : (e n : ℕ) (o : Option Edge) → seen_edge o value n ≡ line_edge e o (pos n)
  unfolding line_edge
  now_edge e n None = refl
  now_edge e n (Some d) = started e d (pos n -ℤ pos d.weight) (λ i at. held_at n d.weight i at)

  now_seen : (n : ℕ) (f : Feed) → seen g value n f ≡ line_seen (pos n) f
  unfolding line_seen
  now_seen n (Tied b) = refl
  now_seen n (Along e) = now_edge e n (slice_get g.edges e)

  past_edge_seen : (e i : ℕ) (o : Option Edge) → past_edge lags past e o i ≡ line_edge e o (negsuc i)
  unfolding line_edge line
  past_edge_seen e i None = refl
  past_edge_seen e i (Some d) = sym (ap (line e d) (deeper i d.weight) ∙ if_above (i + d.weight) d.weight
      (get_or d.contents (i + d.weight) false) (past_carried lags past e d (i + d.weight)) (omega arith))

  before_seen : (i : ℕ) (f : Feed) → past_seen g lags past i f ≡ line_seen (negsuc i) f
  unfolding line_seen
  before_seen i (Tied b) = refl
  before_seen i (Along e) = past_edge_seen e i (slice_get g.edges e)

  -- an edge carries its driver's values from where they begin
  along : (e : ℕ) (d : Edge) (z : ℤ) → slice_get g.edges e ≡ Some d → ((i : ℕ) → z ≡ negsuc i
      → i < lead (lag_at lags d.from)) → signal z d.from d.output ≡ line e d z
  unfolding signal line
  along e d (pos n) found h = refl
  along e d (negsuc i) found h = elim (cases_lt i d.weight) [
    | inl low ↦ model.starts e i d found (h i refl) low ∙ sym (if_below i d.weight (get_or d.contents i
        false) (past_carried lags past e d i) low)
    | inr high ↦ sym (if_above i d.weight (get_or d.contents i false) (past_carried lags past e d i) high ∙
        if_below i (lead (lag_at lags d.from)) (past.values d.from i) (past.contents e i) (h i refl))
  ]

  -- ---- the shifted run

  pub shifted : ℕ → Outs
  shifted m v o = signal (pos m -ℤ lag_at lags v) v o

  shifted_carried : (e : ℕ) (d : Edge) (s : ℤ) → slice_get g.edges e ≡ Some d → ((j : ℕ) → s ≡ negsuc j
      → j < length (of_edge k e)) → carried (retimed_edge lags k (e, d)) shifted s ≡ line e d (s -ℤ
      lag_at lags d.from)
  unfolding shifted line
  shifted_carried e d (pos m) found h = along e d (pos m -ℤ lag_at lags d.from) found (λ i at. shift_up m
      (lag_at lags d.from) i at)
  shifted_carried e d (negsuc j) found h = right.each e j d found (h j refl) row value words run

  edge_shifted : (e m v : ℕ) (o : Option Edge) → slice_get g.edges e ≡ o → ((d : Edge) → o ≡ Some d
      → d.to ≡ v) → seen_edge (option_map (λ d. retimed_edge lags k (e, d)) o) shifted m ≡ line_edge e o
      (pos m -ℤ lag_at lags v)
  unfolding line_edge
  edge_shifted e m v None found to = refl
  edge_shifted e m v (Some d) found to =
      let w' = unsigned_abs (weight_under lags d) in
      shifted_carried e d (pos m -ℤ pos w') found (λ j at. let low = held_at m w' j at in let many =
      right.lengths.each e d found in omega arith)
      ∙ ap (line e d) (sees_at m d.weight (lag_at lags d.from) (lag_at lags d.to) (legal.weights e d found))
      ∙ ap (λ u. line e d ((pos m -ℤ lag_at lags u) -ℤ pos d.weight)) (to d refl)

  shifted_seen : (v i m : ℕ) (x : Vertex) (f : Feed) → slice_get g.vertices v ≡ Some x
      → slice_get x.pins i ≡ Some f → seen (retimed lags k g) shifted m f ≡ line_seen (pos m -ℤ lag_at lags
      v) f
  unfolding line_seen
  shifted_seen v i m x (Tied b) is at = refl
  shifted_seen v i m x (Along e) is at = ap (λ o. seen_edge o shifted m) (edge_of lags k g e) ∙
      edge_shifted e m v (slice_get g.edges e) refl (λ d found. whole.fed.to v i e x d is at found)

  -- ---- each vertex gives its output

  gate_at : (v o : ℕ) (x : Vertex) (kind : Kind) (z : ℤ) → slice_get g.vertices v ≡ Some x
      → x.kind ≡ Gate kind → ((i : ℕ) → z ≡ negsuc i → i < lead (lag_at lags v))
      → signal z v o ≡ gate_value kind (map (line_seen z) x.pins)
  unfolding signal
  gate_at v o x kind (pos n) is gate h =
      (run (suc n)).settles n (omega arith) v o
      ∙ ap (λ p. vertex_output p (inputs_before g.vertices v) (row n) (words n) (seen g value n) o) is
      ∙ ap (λ q. output_of q (inputs_before g.vertices v) (row n) (words n) (map (seen g value n) x.pins)
      o) gate
      ∙ ap (gate_value kind) (map_same (seen g value n) (line_seen (pos n)) x.pins (λ i f at. now_seen n f))
  gate_at v o x kind (negsuc i) is gate h =
      model.gates v i x kind is gate (h i refl)
      ∙ ap (gate_value kind) (map_same (past_seen g lags past i) (line_seen (negsuc i)) x.pins (λ j f at.
      before_seen i f))

  -- the pinned vertices see what they see in the machine
  pinned_sight : (m v : ℕ) (x : Vertex) → slice_get g.vertices v ≡ Some x → lag_at lags v ≡ pos 0
      → SameSight x (seen (retimed lags k g) shifted m) (seen g value m)
  pinned_sight m v x is still = record {
    at = λ i f at. shifted_seen v i m x f is at ∙ ap (λ z. line_seen z
        f) (no_lag m (lag_at lags v) still) ∙ sym (now_seen m f);
  }

  settles_at : (m v o : ℕ) → (lag_at lags v ≡ pos 0) ⊎ ((x : Vertex) × (kind : Kind) × (slice_get
      g.vertices v ≡ Some x) × (x.kind ≡ Gate kind))
      → shifted m v o ≡ value_at (retimed lags k g) (row m) (words m) (seen (retimed lags k g) shifted m) v o
  unfolding shifted signal
  settles_at m v o (inl still) =
      ap (λ z. signal z v o) (no_lag m (lag_at lags v) still)
      ∙ (run (suc m)).settles m (omega arith) v o
      ∙ sym (value_same g (row m) (words m) (words m) (seen (retimed lags k g) shifted m) (seen g value m)
      v o (λ i. refl) (λ x is. pinned_sight m v x is still))
  settles_at m v o (inr (x, kind, is, gate)) =
      gate_at v o x kind (pos m -ℤ lag_at lags v) is gate (λ i at. shift_up m (lag_at lags v) i at)
      ∙ sym (ap (λ p. vertex_output p (inputs_before g.vertices v) (row m) (words m) (seen (retimed lags k
      g) shifted m) o) is
      ∙ ap (λ q. output_of q (inputs_before g.vertices v) (row m) (words m) (map (seen (retimed lags k g)
      shifted m) x.pins) o) gate
      ∙ ap (gate_value kind) (map_same (seen (retimed lags k g) shifted m) (line_seen (pos m -ℤ lag_at lags
      v)) x.pins (λ i f at. shifted_seen v i m x f is at)))

  pub shifted_pinned : (m : ℕ) → SamePinned g (seen g value m) (seen (retimed lags k g) shifted m)
  shifted_pinned m v x is pinned = record {
    at = λ i f at. sym ((pinned_sight m v x is (legal.pinned v x is
        pinned)).at i f at);
  }

  pub shifted_run : (n : ℕ) → RunsFor false (retimed lags k g) n row shifted words
  shifted_run clocks = record {
    begins = (run 0).begins;
    settles = λ m h v o. settles_at m v o (still_or_gate g mode lags legal v);
    goes_on = λ m h i. (run (suc m)).goes_on m (omega arith) i ∙ words_same false g (seen g value m) (seen
        (retimed lags k g) shifted m) (words m) (words m) i refl (shifted_pinned m);
  }

  pub shifted_sees : (v i n m : ℕ) (x : Vertex) (f : Feed) → slice_get g.vertices v ≡ Some x
      → slice_get x.pins i ≡ Some f → pos m ≡ pos n +ℤ lag_at lags v
      → seen (retimed lags k g) shifted m f ≡ seen g value n f
  shifted_sees v i n m x f is at when =
      shifted_seen v i m x f is at ∙ ap (λ z. line_seen z f) (back m n (lag_at lags v) when) ∙ sym
      (now_seen n f)

-- ---- the retimed machine has an order too

found_edge : (lags : List ℤ) (k : Contents) (e : ℕ) (o : Option Edge) (d' : Edge)
    → option_map (λ d. retimed_edge lags k (e, d)) o ≡ Some d'
    → (d : Edge) × (o ≡ Some d) × (d' ≡ retimed_edge lags k (e, d))
found_edge lags k e None d' h = cc
found_edge lags k e (Some d) d' h = (d, refl, cc)

steps_down : (reach w : ℕ) (lag lag' : ℤ) → pos 0 ≤ℤ (pos w +ℤ lag' -ℤ lag)
    → unsigned_abs (pos w +ℤ lag' -ℤ lag) ≡ 0 → lag ≤ℤ pos reach → lag' ≤ℤ pos reach
    → unsigned_abs (pos reach -ℤ lag) + w ≡ unsigned_abs (pos reach -ℤ lag')
steps_down reach w lag lag' h none high high' = omega (arith, ints)

depth_within : (reach : ℕ) (lag : ℤ) → lag ≤ℤ pos reach → pos 0 ≤ℤ (lag +ℤ pos reach)
    → unsigned_abs (pos reach -ℤ lag) ≤ reach + reach
depth_within reach lag high low = omega (arith, ints)

place_within : (depth reach span place : ℕ) → depth ≤ reach + reach → place < span
    → depth * span + place < suc (reach + reach) * span
place_within depth reach span place h low = let most = mul-le-mul_right span h in omega arith

module _ (g : Graph) (whole : IsWellFormed g) (mode : Mode) (lags : List ℤ) (legal : IsLegal g mode lags)
    (reach : ℕ) (within : AreWithin reach lags) (k : Contents) (count : (e : ℕ) (d : Edge)
    → slice_get g.edges e ≡ Some d → length (of_edge k e) ≡ unsigned_abs (weight_under lags d)) where
  came_from : (e : ℕ) (d' : Edge) → slice_get (retimed lags k g).edges e ≡ Some d'
      → (d : Edge) × (slice_get g.edges e ≡ Some d) × (d' ≡ retimed_edge lags k (e, d))
  came_from e d' is = found_edge lags k e (slice_get g.edges e) d' (sym (edge_of lags k g e) ∙ is)

  depth : ℕ → ℕ
  depth v = unsigned_abs (pos reach -ℤ lag_at lags v)

  order_of : HasOrder (retimed lags k g)
  unfolding depth
  order_of = record {
    place = λ v. depth v * whole.order.span + whole.order.place v;
    span = suc (reach + reach) * whole.order.span;
    within = λ v. place_within (depth v) reach whole.order.span (whole.order.place v) (depth_within reach
        (lag_at lags v) (within.each v).high (within.each v).low) (whole.order.within v);
    below = λ e d' is none.
        let old = came_from e d' is in
        let d = old.0 in
        let zero_weight : unsigned_abs (weight_under lags d) ≡ 0 = ap (λ (x : Edge). x.weight) (sym old.2)
        ∙ none in
        let down = steps_down reach d.weight (lag_at lags d.from) (lag_at lags d.to) (legal.weights e d
        old.1) zero_weight (within.each d.from).high (within.each d.to).high in
        subst (λ (x : Edge). depth x.from * whole.order.span + whole.order.place x.from < depth x.to *
        whole.order.span + whole.order.place x.to) (sym old.2)
        (sooner (depth d.from) d.weight (depth d.to) whole.order.span (whole.order.place d.from)
        (whole.order.place d.to) down (whole.order.within d.from) (λ empty. whole.order.below e d old.1
        empty));
  }

  pub retimed_whole : IsWellFormed (retimed lags k g)
  retimed_whole = record {
    fed = record {
      named = λ v i e x is at. let named = whole.fed.named v i e x is at in rw (edge_count lags k g) named;
      to = λ v i e x d' is at there. let old = came_from e d' there in ap (λ (y : Edge). y.to) old.2 ∙
          whole.fed.to v i e x old.0 is at old.1;
      pin = λ v i e x d' is at there. let old = came_from e d' there in ap (λ (y : Edge). y.pin) old.2 ∙
          whole.fed.pin v i e x old.0 is at old.1;
      feeds = λ e d' there. let old = came_from e d' there in subst (λ (y : Edge). (x : Vertex) ×
          (slice_get g.vertices y.to ≡ Some x) × (slice_get x.pins y.pin ≡ Some (Along e))) (sym old.2)
          (whole.fed.feeds e old.0 old.1);
    };
    from = λ e d' there. let old = came_from e d' there in subst (λ (y : Edge). y.from < length g.vertices)
        (sym old.2) (whole.from e old.0 old.1);
    to = λ e d' there. let old = came_from e d' there in subst (λ (y : Edge). y.to < length g.vertices)
        (sym old.2) (whole.to e old.0 old.1);
    held = λ e d' there. let old = came_from e d' there in subst (λ (y : Edge). length y.contents ≡
        y.weight) (sym old.2) (count e old.0 old.1);
    order = order_of;
  }

-- ---- any run of the retimed machine

seen_until : (g : Graph) (a b : ℕ → Outs) (m : ℕ) (f : Feed) → ((n v o : ℕ) → n ≤ m → a n v o ≡ b n v o)
    → seen g a m f ≡ seen g b m f
seen_until g a b m (Tied b') h = refl
seen_until g a b m (Along e) h = until (slice_get g.edges e)
  where
    until : (o : Option Edge) → seen_edge o a m ≡ seen_edge o b m
    until None = refl
    until (Some d) = carried_same d a b (pos m -ℤ pos d.weight) (λ n at. h n d.from d.output (omega (
      arith,
      ints,
    )))

module _ (g : Graph) (whole : IsWellFormed g) (mode : Mode) (lags : List ℤ) (legal : IsLegal g mode lags)
    (reach : ℕ) (within : AreWithin reach lags) (past : Past) (model : IsPast g lags past) (k : Contents)
    (right : AreRight g lags past k) where
  pub right_justifies : Justifies g lags k
  right_justifies rows value value' words words' r r' v i n m x f is at low low' when =
      let whole' = retimed_whole g whole mode lags legal reach within k right.lengths.each in
      let total = value_of g whole false (length rows) (row_of rows) in
      let held = words_of g whole false (length rows) (row_of rows) in
      let run = run_of g whole false (length rows) (row_of rows) in
      let moved = shifted g whole mode lags legal past model k right (row_of rows) total held run in
      let moves = shifted_run g whole mode lags legal past model k right (row_of rows) total held run in
      let same = runs_agree g whole false (length rows) (row_of rows) value total words held r (run (length
      rows)) in
      let same' = runs_agree (retimed lags k g) whole' false (length rows) (row_of rows) value' moved
      words' held r' (moves (length rows)) in
      seen_until (retimed lags k g) value' moved m f (λ t u o h. same'.same_values t (omega arith) u o)
      ∙ shifted_sees g whole mode lags legal past model k right (row_of rows) total held run v i n m x f is
      at when
      ∙ sym (seen_until g value total n f (λ t u o h. same.same_values t (omega arith) u o))

  -- and it answers what the machine answers
  pub right_answers : (rows outputs : List Row) → RunsWith false g rows outputs
      → RunsWith false (retimed lags k g) rows outputs
  right_answers rows outputs r =
      let total = value_of g whole false (length rows) (row_of rows) in
      let held = words_of g whole false (length rows) (row_of rows) in
      let run = run_of g whole false (length rows) (row_of rows) in
      let moved = shifted g whole mode lags legal past model k right (row_of rows) total held run in
      let same = runs_agree g whole false (length rows) (row_of rows) r.value total r.words held r.run (run
      (length rows)) in
      record {
        value = moved;
        words = held;
        run = shifted_run g whole mode lags legal past model k right (row_of rows) total held run (length
            rows);
        shows = record {
          count = r.shows.count;
          each = λ n h.
              r.shows.each n h
              ∙ outputs_same g (seen g r.value n) (seen g total n) (λ v x is pinned. record {
                at = λ i f
                    at. seen_until g r.value total n f (λ t u o low. same.same_values t (omega arith) u o);
              })
              ∙ outputs_same g (seen g total n) (seen (retimed lags k g) moved n) (shifted_pinned g whole
              mode lags legal past model k right (row_of rows) total held run n);
        };
      }
