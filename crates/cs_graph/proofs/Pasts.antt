-- Values ahead are the same for all rows, and a past passes to smaller lags.
use Rattle.std.proofs.Common.{◌≡◌, ℕ, zero, suc, ◌+◌, ◌<◌, ◌≤◌, ◌⊎◌, Bool, false, List, map, refl, sym, ap, ◌∙◌, arith, inl, inr}
use Rattle.std.specs.Prelude.{ℤ, pos, ◌+ℤ◌, ◌-ℤ◌, ◌≤ℤ◌, ◌<ℤ◌, slice_get, Option, Some, None}
use Rattle.std.proofs.lemmas.Int.{ints}
use Rattle.std.proofs.lemmas.Bool.{cases_lt}
use Rattle.cs_cells.specs.declared.gate.Kind.{Kind}
use Rattle.cs_cells.specs.Gates.{gate_value}
use Rattle.cs_cells.specs.Memories.{Words}
use Rattle.cs_base.specs.declared.contexts.Mode.{Mode}
use Rattle.cs_graph.specs.declared.vertex.VertexKind.TheVariants.{Gate}
use Rattle.cs_graph.specs.declared.vertex.Feed.{Feed}
use Rattle.cs_graph.specs.declared.vertex.Feed.TheVariants.{Tied, Edge as Along}
use Rattle.cs_graph.specs.declared.vertex.Vertex.{Vertex}
use Rattle.cs_graph.specs.declared.edge.Edge.{Edge}
use Rattle.cs_graph.specs.declared.graph.Graph.{Graph}
use Rattle.cs_graph.specs.Run.{Row, Outs, seen_edge, seen, output_of, vertex_output, inputs_before, RunsFor}
use Rattle.cs_graph.specs.Invariant.{IsWellFormed}
use Rattle.cs_graph.specs.Lags.{lag_at, IsLegal}
use Rattle.cs_graph.specs.Past.{Past, lead, past_carried, past_edge, past_seen, IsPast}
use Rattle.cs_graph.proofs.Lists.{map_same}
use Rattle.cs_graph.proofs.Sees.{carried_same, edge_same}
use Rattle.cs_graph.proofs.Runs.{rank, takes_sooner}
use Rattle.cs_graph.proofs.Shifted.{still_or_gate, if_below, if_above}

-- a driver with so early a value has it before its own lag too
ahead_on : (m w t : ℕ) (lag lag' : ℤ) → m + w ≡ t → pos 0 ≤ℤ (pos w +ℤ lag' -ℤ lag)
    → (pos t +ℤ lag') <ℤ pos 0 → (pos m +ℤ lag) <ℤ pos 0
ahead_on m w t lag lag' sum h early = omega (arith, ints)

-- a gate's value
pub gate_gives : (g : Graph) (cs : ℕ) (r : ℕ → Row) (value : ℕ → Outs) (ws : ℕ → ℕ → Words)
    → RunsFor false g cs r value ws → (t v o : ℕ) (x : Vertex) (kind : Kind) → t < cs
    → slice_get g.vertices v ≡ Some x → x.kind ≡ Gate kind
    → value t v o ≡ gate_value kind (map (seen g value t) x.pins)
gate_gives g cs r value ws run t v o x kind h is gate =
    run.settles t h v o
    ∙ ap (λ p. vertex_output p (inputs_before g.vertices v) (r t) (ws t) (seen g value t) o) is
    ∙ ap (λ q. output_of q (inputs_before g.vertices v) (r t) (ws t) (map (seen g value t) x.pins) o) gate

module _ (g : Graph) (whole : IsWellFormed g) (mode : Mode) (lags : List ℤ) (legal : IsLegal g mode lags)
    (clocks clocks' : ℕ) (row row' : ℕ → Row) (a b : ℕ → Outs) (words words' : ℕ → ℕ
    → Words) (ra : RunsFor false g clocks row a words) (rb : RunsFor false g clocks' row' b words') where
  ahead_at : (t v o : ℕ) → t < clocks → t < clocks' → (pos t +ℤ lag_at lags v) <ℤ pos 0 → ((m u p : ℕ)
      → m ≤ t → rank g whole m u < rank g whole t v → (pos m +ℤ lag_at lags u) <ℤ pos 0
      → a m u p ≡ b m u p) → (lag_at lags v ≡ pos 0) ⊎ ((x : Vertex) × (kind : Kind) × (slice_get
      g.vertices v ≡ Some x) × (x.kind ≡ Gate kind)) → a t v o ≡ b t v o
  ahead_at t v o h h' early before (inl still) = absurd (omega (arith, ints))
  ahead_at t v o h h' early before (inr (x, kind, is, gate)) =
      gate_gives g clocks row a words ra t v o x kind h is gate
      ∙ ap (gate_value kind) (map_same (seen g a t) (seen g b t) x.pins (λ i. elim [
        | Tied bit ↦ λ at. refl
        | Along e ↦ λ at. edge_same (slice_get g.edges e) (slice_get g.edges e) a b t t (λ none. none) (λ d
            found.
            carried_same d a b (pos t -ℤ pos d.weight) (λ m there.
            let to = whole.fed.to v i e x d is at found in
            let sooner = takes_sooner g whole t v e m d found to there in
            before m d.from d.output sooner.0 sooner.1 (ahead_on m d.weight t (lag_at lags d.from) (lag_at
            lags v) (omega (arith, ints)) (rw (← ap (lag_at lags) to) (legal.weights e d found)) early))
            ∙ ap (λ p. seen_edge p b t) (sym found))
      ]))
      ∙ sym (gate_gives g clocks' row' b words' rb t v o x kind h' is gate)

  ahead_below : (k t v o : ℕ) → rank g whole t v < k → t < clocks → t < clocks'
      → (pos t +ℤ lag_at lags v) <ℤ pos 0 → a t v o ≡ b t v o
  ahead_below zero t v o low h h' early = absurd (omega arith)
  ahead_below (suc k) t v o low h h' early = ahead_at t v o h h' early (λ m u p soon less soonest.
      ahead_below k m u p (omega arith) (omega arith) (omega arith) soonest) (still_or_gate g mode lags
      legal v)

  pub ahead_same : (t v o : ℕ) → t < clocks → t < clocks' → (pos t +ℤ lag_at lags v) <ℤ pos 0
      → a t v o ≡ b t v o
  ahead_same t v o h h' early = ahead_below (suc (rank g whole t v)) t v o (omega arith) h h' early

-- ---- smaller lags

module _ (g : Graph) (lags lags' : List ℤ) (smaller : (v : ℕ)
    → lead (lag_at lags v) ≤ lead (lag_at lags' v)) (past : Past) (model : IsPast g lags' past) where
  -- contents are now carried where a value was
  carried_by : ℕ → Option Edge → ℕ → Bool
  carried_by e None i = false
  carried_by e (Some d) i = past_carried lags' past e d i

  pub fewer : Past
  fewer = record { values = past.values; contents = λ e i. carried_by e (slice_get g.edges e) i }

  same_carried : (e i : ℕ) (d : Edge) → slice_get g.edges e ≡ Some d
      → past_carried lags fewer e d i ≡ past_carried lags' past e d i
  unfolding fewer carried_by
  same_carried e i d found =
      let less = smaller d.from in
      elim (cases_lt i (lead (lag_at lags d.from))) [
        | inl low ↦ if_below i (lead (lag_at lags d.from)) (past.values d.from i) (carried_by e (slice_get
            g.edges e) i) low ∙ sym (if_below i (lead (lag_at lags' d.from)) (past.values d.from i)
            (past.contents e i) (omega arith))
        | inr high ↦ if_above i (lead (lag_at lags d.from)) (past.values d.from i) (carried_by e (slice_get
            g.edges e) i) high ∙ ap (λ o. carried_by e o i) found
      ]

  same_seen : (i : ℕ) (f : Feed) → past_seen g lags fewer i f ≡ past_seen g lags' past i f
  same_seen i (Tied b) = refl
  same_seen i (Along e) = by (slice_get g.edges e) refl
    where
      by : (o : Option Edge) → slice_get g.edges e ≡ o
          → past_edge lags fewer e o i ≡ past_edge lags' past e o i
      by None is = refl
      by (Some d) is = same_carried e (i + d.weight) d is

  pub fewer_is : IsPast g lags fewer
  unfolding fewer carried_by
  fewer_is = record {
    gates = λ v i x kind is gate low. let less = smaller v in model.gates v i x kind is gate (omega arith)
        ∙ ap (gate_value kind) (map_same (past_seen g lags' past i) (past_seen g lags fewer i) x.pins (λ j
        f at. sym (same_seen i f)));
    starts = λ e i d found low own. let less = smaller d.from in model.starts e i d found (omega arith) own;
    held = λ e i d found ahead high own.
        let less = smaller d.to in
        ap (λ o. carried_by e o i) found
        ∙ elim (cases_lt i (lead (lag_at lags' d.from))) [
          | inl low ↦ if_below i (lead (lag_at lags' d.from)) (past.values d.from i) (past.contents e i)
              low ∙ model.starts e i d found low own
          | inr past' ↦ if_above i (lead (lag_at lags' d.from)) (past.values d.from i) (past.contents e i)
              past' ∙ model.held e i d found (omega arith) past' own
        ];
  }
