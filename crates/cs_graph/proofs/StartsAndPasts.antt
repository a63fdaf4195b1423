-- Lags have a start exactly where they have a past.
use Rattle.std.proofs.Common.{◌≡◌, ℕ, zero, suc, ◌+◌, ◌-◌, ◌<◌, ◌⊎◌, Bool, false, List, [], ◌∷◌, length, get_or, map, replicate, refl, sym, ap, ◌∙◌, arith, inl, inr}
use Rattle.std.specs.Prelude.{ℤ, pos, negsuc, ◌+ℤ◌, ◌-ℤ◌, ◌≤ℤ◌, ◌<ℤ◌, slice_get, option_map, Option, Some, None, unsigned_abs}
use Rattle.std.specs.List.{enumerate_from}
use Rattle.std.proofs.lemmas.Int.{ints}
use Rattle.std.proofs.lemmas.Bool.{cases_lt}
use Rattle.std.proofs.lemmas.List.{length-map}
use Rattle.std.proofs.lemmas.List.FromFn.{length-enumerate_from}
use Rattle.std.proofs.lemmas.Option.{slice_get-map, get_or_from_slice_get}
use Rattle.cs_cells.specs.declared.gate.Kind.{Kind}
use Rattle.cs_cells.specs.Gates.{gate_value}
use Rattle.cs_cells.specs.Memories.{Words}
use Rattle.cs_base.specs.declared.contexts.Mode.{Mode}
use Rattle.cs_graph.specs.declared.vertex.VertexKind.TheVariants.{Gate}
use Rattle.cs_graph.specs.declared.vertex.Feed.{Feed}
use Rattle.cs_graph.specs.declared.vertex.Feed.TheVariants.{Tied, Edge as Along}
use Rattle.cs_graph.specs.declared.vertex.Vertex.{Vertex}
use Rattle.cs_graph.specs.declared.edge.Edge.{Edge}
use Rattle.cs_graph.specs.declared.contents.Contents.{Contents}
use Rattle.cs_graph.specs.declared.graph.Graph.{Graph}
use Rattle.cs_graph.specs.Run.{Row, Outs, carried, seen_edge, seen, RunsOn, row_of}
use Rattle.cs_graph.specs.Invariant.{IsWellFormed}
use Rattle.cs_graph.specs.Lags.{lag_at, weight_under, IsLegal, of_edge, retimed_edge, retimed, AreWithin, HasStart}
use Rattle.cs_graph.specs.Past.{Past, lead, past_carried, past_edge, past_seen, ever, IsPast, AreRight, HasPast}
use Rattle.cs_graph.proofs.Lists.{map_same}
use Rattle.cs_graph.proofs.Runs.{value_of, words_of, run_of, same_rows}
use Rattle.cs_graph.proofs.Shifted.{still_or_gate, if_below, if_above, lead_is, edge_of, slice_get-enumerate, retimed_whole, right_justifies}
use Rattle.cs_graph.proofs.Pasts.{ahead_same, gate_gives}

-- ---- the contents that a past gives

listed : ℕ → (ℕ → Bool) → List Bool
listed zero f = []
listed (suc n) f = f 0 ∷ listed n (λ i. f (suc i))

length-listed : (n : ℕ) (f : ℕ → Bool) → length (listed n f) ≡ n
unfolding listed
length-listed zero f = refl
length-listed (suc n) f = ap suc (length-listed n (λ i. f (suc i)))

get_or-listed : (n : ℕ) (f : ℕ → Bool) (i : ℕ) → i < n → get_or (listed n f) i false ≡ f i
unfolding listed
get_or-listed zero f i h = absurd (omega arith)
get_or-listed (suc n) f zero h = refl
get_or-listed (suc n) f (suc i) h = get_or-listed n (λ i. f (suc i)) i (omega arith)

before_all : (j t : ℕ) (lag : ℤ) → negsuc j -ℤ lag ≡ pos t → (pos t +ℤ lag) <ℤ pos 0
before_all j t lag h = omega (arith, ints)

module _ (g : Graph) (whole : IsWellFormed g) (mode : Mode) (lags : List ℤ) (legal : IsLegal g mode lags)
    (past : Past) where
  ahead : ℕ → Outs
  ahead = value_of g whole false 0 (λ n. [])

  list_of : ℕ × Edge → List Bool
  list_of p = listed (unsigned_abs (weight_under lags p.1)) (λ j. ever lags past ahead p.0 p.1 (negsuc j -ℤ
      lag_at lags p.1.from))

  pub contents_of : Contents
  contents_of = record { of = map list_of (enumerate_from 0 g.edges) }

  list_at : (e : ℕ) (d : Edge) → slice_get g.edges e ≡ Some d → of_edge contents_of e ≡ list_of (e, d)
  unfolding contents_of
  list_at e d found = get_or_from_slice_get (map list_of (enumerate_from 0 g.edges)) e (list_of (e, d)) [] (
      slice_get-map list_of (enumerate_from 0 g.edges) e
      ∙ ap (option_map list_of) (slice_get-enumerate g.edges 0 e)
      ∙ ap (λ o. option_map list_of (option_map (λ x. (0 + e, x)) o)) found
      ∙ (let place : 0 + e ≡ e = omega arith in ap (λ i. Some (list_of (i, d))) place))

  ever_same : (e j : ℕ) (d : Edge) (value : ℕ → Outs) (row : ℕ → Row) (words : ℕ → ℕ → Words)
      → RunsOn false g row value words → (z : ℤ) → negsuc j -ℤ lag_at lags d.from ≡ z
      → ever lags past ahead e d z ≡ ever lags past value e d z
  unfolding ahead
  ever_same e j d value row words run (pos t) at =
      ahead_same g whole mode lags legal (suc t) (suc t) (λ n. []) row ahead value (words_of g whole false
      0 (λ n. [])) words (run_of g whole false 0 (λ n. []) (suc t)) (run (suc t)) t d.from d.output
      (omega arith) (omega arith) (before_all j t (lag_at lags d.from) at)
  ever_same e j d value row words run (negsuc i) at = refl

  pub contents_right : AreRight g lags past contents_of
  unfolding list_of contents_of
  contents_right = record {
    lengths = record {
      lists = length-map (enumerate_from 0 g.edges) list_of ∙ length-enumerate_from 0 g.edges;
      each = λ e d found. ap length (list_at e d found) ∙ length-listed (unsigned_abs (weight_under lags d))
          (λ j. ever lags past ahead e d (negsuc j -ℤ lag_at lags d.from));
    };
    each = λ e j d found low row value words run.
        let many = ap length (list_at e d found) ∙ length-listed (unsigned_abs (weight_under lags d)) (λ j.
        ever lags past ahead e d (negsuc j -ℤ lag_at lags d.from)) in
        ap (λ bits. get_or bits j false) (list_at e d found)
        ∙ get_or-listed (unsigned_abs (weight_under lags d)) (λ j. ever lags past ahead e d (negsuc j -ℤ
        lag_at lags d.from)) j (omega arith)
        ∙ ever_same e j d value row words run (negsuc j -ℤ lag_at lags d.from) refl;
  }

pub start_of_past : (g : Graph) (whole : IsWellFormed g) (mode : Mode) (lags : List ℤ)
    → IsLegal g mode lags → (reach : ℕ) → AreWithin reach lags → HasPast g lags → HasStart g lags
start_of_past g whole mode lags legal reach within p =
    let right = contents_right g whole mode lags legal p.past in
    record {
      contents = contents_of g whole mode lags legal p.past;
      lengths = right.lengths;
      justifies =
          right_justifies g whole mode lags legal reach within p.past p.is (contents_of g whole mode lags
          legal p.past) right;
    }

-- ---- the past that a start gives: it is read off the retimed run over rows of zeros

row_of-replicate : (c n : ℕ) (x : Row) → n < c → x ≡ row_of (replicate c x) n
row_of-replicate zero n x h = absurd (omega arith)
row_of-replicate (suc c) zero x h = refl
row_of-replicate (suc c) (suc n) x h = row_of-replicate c n x (omega arith)

length-replicate' : {A : Type 0} (c : ℕ) (x : A) → length (replicate c x) ≡ c
length-replicate' zero x = refl
length-replicate' (suc c) x = ap suc (length-replicate' c x)

lead_now : (i : ℕ) (lag : ℤ) → i < lead lag → negsuc i +ℤ lag ≡ pos (lead lag - suc i)
lead_now i lag h = omega (arith, ints, lead_is lag)

lead_before : (i j : ℕ) (lag : ℤ) → negsuc i +ℤ lag ≡ pos j → i < lead lag
lead_before i j lag h = omega (arith, ints, lead_is lag)

gate_time : (i w : ℕ) (lag lag' : ℤ) → i < lead lag' → pos 0 ≤ℤ (pos w +ℤ lag' -ℤ lag)
    → pos (lead lag' - suc i) -ℤ pos (unsigned_abs (pos w +ℤ lag' -ℤ lag)) ≡ negsuc (i + w) +ℤ lag
gate_time i w lag lag' h legal = omega (arith, ints, lead_is lag')

edge_time : (i n m w : ℕ) (lag lag' : ℤ) → n + suc i ≡ w → pos m ≡ pos n +ℤ lag'
    → pos 0 ≤ℤ (pos w +ℤ lag' -ℤ lag) → pos m -ℤ pos (unsigned_abs (pos w +ℤ lag' -ℤ lag)) ≡ negsuc i +ℤ lag
edge_time i n m w lag lag' h when legal = omega (arith, ints)

own_time : (i n w : ℕ) → n + suc i ≡ w → pos n -ℤ pos w ≡ negsuc i
own_time i n w h = omega (arith, ints)

when_is : (n : ℕ) (lag : ℤ) → pos 0 ≤ℤ (pos n +ℤ lag) → pos (unsigned_abs (pos n +ℤ lag)) ≡ pos n +ℤ lag
when_is n lag h = omega (arith, ints)

starts_late : (i n w : ℕ) (lag lag' : ℤ) → n + suc i ≡ w → i < lead lag → pos 0 ≤ℤ (pos w +ℤ lag' -ℤ lag)
    → pos 0 ≤ℤ (pos n +ℤ lag')
starts_late i n w lag lag' h low legal = omega (arith, ints, lead_is lag)

held_late : (n : ℕ) (lag : ℤ) → 0 < lead lag → pos 0 ≤ℤ (pos n +ℤ lag)
held_late n lag h = omega (arith, ints, lead_is lag)

still_none : (lag : ℤ) (i : ℕ) → lag ≡ pos 0 → i < lead lag → ⊥
still_none lag i still h = omega (arith, ints, lead_is lag)

module _ (g : Graph) (whole : IsWellFormed g) (mode : Mode) (lags : List ℤ) (legal : IsLegal g mode lags)
    (reach : ℕ) (within : AreWithin reach lags) (start : HasStart g lags) (zeros : Row) where
  later : Graph
  later = retimed lags start.contents g

  later_whole : IsWellFormed later
  unfolding later
  later_whole = retimed_whole g whole mode lags legal reach within start.contents start.lengths.each

  bits : ℕ → Outs
  bits = value_of later later_whole false 0 (λ n. zeros)

  bits_run : RunsOn false later (λ n. zeros) bits (words_of later later_whole false 0 (λ n. zeros))
  unfolding bits
  bits_run = run_of later later_whole false 0 (λ n. zeros)

  content_at : ℕ → ℤ → Bool
  content_at e (pos n) = false
  content_at e (negsuc j) = get_or (of_edge start.contents e) j false

  content_of : ℕ → Option Edge → ℕ → Bool
  content_of e None i = false
  content_of e (Some d) i = content_at e (negsuc i +ℤ lag_at lags d.from)

  pub past_of : Past
  past_of = record {
    values = λ v i. bits (lead (lag_at lags v) - suc i) v 0;
    contents = λ e i. content_of
        e (slice_get g.edges e) i;
  }

  -- a gate has one output
  one_output : (m v o : ℕ) → 0 < lead (lag_at lags v) → bits m v o ≡ bits m v 0
  unfolding later
  one_output m v o some = by (still_or_gate g mode lags legal v)
    where
      by : (lag_at lags v ≡ pos 0) ⊎ ((x : Vertex) × (kind : Kind) × (slice_get g.vertices v ≡ Some x) ×
          (x.kind ≡ Gate kind)) → bits m v o ≡ bits m v 0
      by (inl still) = absurd (still_none (lag_at lags v) 0 still some)
      by (inr (x, kind, is, gate)) =
          gate_gives later (suc m) (λ n. zeros) bits (words_of later later_whole false 0 (λ n. zeros))
          (bits_run (suc m)) m v o x kind (omega arith) is gate
          ∙ sym (gate_gives later (suc m) (λ n. zeros) bits (words_of later later_whole false 0 (λ n.
          zeros)) (bits_run (suc m)) m v 0 x kind (omega arith) is gate)

  content_is : (e : ℕ) (d : Edge) (z : ℤ) → ((n : ℕ) → z ≡ pos n → ⊥)
      → content_at e z ≡ carried (retimed_edge lags start.contents (e, d)) bits z
  unfolding content_at
  content_is e d (pos n) h = absurd (h n refl)
  content_is e d (negsuc j) h = refl

  carried_past : (e i : ℕ) (d : Edge) → slice_get g.edges e ≡ Some d
      → past_carried lags past_of e d i ≡ carried (retimed_edge lags start.contents (e, d)) bits (negsuc i
      +ℤ lag_at lags d.from)
  unfolding past_of content_of
  carried_past e i d found = elim (cases_lt i (lead (lag_at lags d.from))) [
    | inl low ↦
        if_below i (lead (lag_at lags d.from)) (past_of.values d.from i) (past_of.contents e i) low
        ∙ sym (one_output (lead (lag_at lags d.from) - suc i) d.from d.output (omega arith))
        ∙ sym (ap (carried (retimed_edge lags start.contents (e, d)) bits) (lead_now i (lag_at lags d.from)
        low))
    | inr high ↦
        if_above i (lead (lag_at lags d.from)) (past_of.values d.from i) (past_of.contents e i) high
        ∙ ap (λ o. content_of e o i) found
        ∙ content_is e d (negsuc i +ℤ lag_at lags d.from) (λ n is. let low = lead_before i n (lag_at lags
        d.from) is in absurd (omega arith))
  ]

  -- a start is carried where the retimed machine shows it
  justified : (e i : ℕ) (d : Edge) → slice_get g.edges e ≡ Some d → i < d.weight
      → pos 0 ≤ℤ (pos (d.weight - suc i) +ℤ lag_at lags d.to)
      → carried (retimed_edge lags start.contents (e, d)) bits (negsuc i +ℤ lag_at lags d.from) ≡ get_or
      d.contents i false
  unfolding later
  justified e i d found low late =
      let pin = whole.fed.feeds e d found in
      let n = d.weight - suc i in
      let sum : n + suc i ≡ d.weight = omega arith in
      let m = unsigned_abs (pos n +ℤ lag_at lags d.to) in
      let when = when_is n (lag_at lags d.to) late in
      let count = suc (n + m) in
      let rows = replicate count zeros in
      let many = length-replicate' count zeros in
      let own = value_of g whole false 0 (row_of rows) in
      let own_run = run_of g whole false 0 (row_of rows) (length rows) in
      let moved = same_rows false later (length rows) (λ n. zeros) (row_of rows) bits (words_of later later_whole
      false 0 (λ n. zeros)) (λ t h. row_of-replicate count t zeros (omega arith)) (bits_run (length
      rows)) in
      let alike = start.justifies rows own bits (words_of g whole false 0 (row_of rows)) (words_of later
      later_whole false 0 (λ n. zeros)) own_run moved d.to d.pin n m pin.0 (Along e) pin.1 pin.2 (omega
      arith) (omega arith) when in
      sym (ap (carried (retimed_edge lags start.contents (e, d)) bits) (edge_time i n m d.weight (lag_at
      lags d.from) (lag_at lags d.to) sum when (legal.weights e d found)))
      ∙ sym (ap (λ o. seen_edge o bits m) (edge_of lags start.contents g e ∙ ap (option_map (λ d.
      retimed_edge lags start.contents (e, d))) found))
      ∙ alike
      ∙ ap (λ o. seen_edge o own n) found
      ∙ ap (carried d own) (own_time i n d.weight sum)

  gate_sees : (v i j : ℕ) (x : Vertex) (f : Feed) → slice_get g.vertices v ≡ Some x
      → slice_get x.pins j ≡ Some f → i < lead (lag_at lags v)
      → seen later bits (lead (lag_at lags v) - suc i) f ≡ past_seen g lags past_of i f
  unfolding later
  gate_sees v i j x (Tied b) is at low = refl
  gate_sees v i j x (Along e) is at low = ap (λ o. seen_edge o bits (lead (lag_at lags v) - suc i))
      (edge_of lags start.contents g e) ∙ by (slice_get g.edges e) refl
    where
      by : (o : Option Edge) → slice_get g.edges e ≡ o
          → seen_edge (option_map (λ d. retimed_edge lags start.contents (e, d)) o) bits (lead (lag_at lags
          v) - suc i) ≡ past_edge lags past_of e o i
      by None found = refl
      by (Some d) found =
          let to = ap (lag_at lags) (whole.fed.to v j e x d is at found) in
          ap (λ lag. carried (retimed_edge lags start.contents (e, d)) bits (pos (lead lag - suc i) -ℤ pos
          (unsigned_abs (weight_under lags d)))) (sym to)
          ∙ ap (carried (retimed_edge lags start.contents (e, d)) bits) (gate_time i d.weight (lag_at lags
          d.from) (lag_at lags d.to) (rw to low) (legal.weights e d found))
          ∙ sym (carried_past e (i + d.weight) d found)

  pub past_is : IsPast g lags past_of
  unfolding past_of later content_of
  past_is = record {
    gates = λ v i x kind is gate low.
        gate_gives later (suc (lead (lag_at lags v) - suc i)) (λ n. zeros) bits (words_of later later_whole
        false 0 (λ n. zeros)) (bits_run (suc (lead (lag_at lags v) - suc i))) (lead (lag_at lags v) -
        suc i) v 0 x kind (omega arith) is gate
        ∙ ap (gate_value kind) (map_same (seen later bits (lead (lag_at lags v) - suc i)) (past_seen g lags
        past_of i) x.pins (λ j f at. gate_sees v i j x f is at low));
    starts = λ e i d found low own.
        sym (if_below i (lead (lag_at lags d.from)) (past_of.values d.from i) (past_of.contents e i) low)
        ∙ carried_past e i d found
        ∙ justified e i d found own (starts_late i (d.weight - suc i) d.weight (lag_at lags d.from) (lag_at
        lags d.to) (omega arith) low (legal.weights e d found));
    held = λ e i d found late high own.
        sym (if_above i (lead (lag_at lags d.from)) (past_of.values d.from i) (past_of.contents e i) high)
        ∙ carried_past e i d found
        ∙ justified e i d found own (held_late (d.weight - suc i) (lag_at lags d.to) late);
  }

  pub past_of_start : HasPast g lags
  past_of_start = record { past = past_of; is = past_is }
