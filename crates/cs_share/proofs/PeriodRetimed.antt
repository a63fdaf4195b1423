-- The period of a retimed machine is that of the machine under the lags.
use Rattle.std.proofs.Common.{◌≡◌, ◌∙◌, ℕ, ◌+◌, List, [], ◌∷◌, Option, Some, None, inl, inr, refl, sym, ap, ap₂, subst, arith}
use Rattle.std.specs.Prelude.{◌↔◌, ℤ, negsuc, option_map, pos, slice_get, unsigned_abs}
use Rattle.std.proofs.lemmas.Int.{ints}
use Rattle.std.proofs.lemmas.Option.{none-some, same_Some}
use Rattle.cs_delay.specs.Assigned.{AreAssigned}
use Rattle.cs_delay.specs.declared.table.DelayTable.{DelayTable}
use Rattle.cs_graph.specs.declared.contents.Contents.{Contents}
use Rattle.cs_graph.specs.declared.delays.Delays.{Delays}
use Rattle.cs_graph.specs.declared.edge.Edge.{Edge}
use Rattle.cs_graph.specs.declared.graph.Graph.{Graph}
use Rattle.cs_graph.specs.Invariant.{IsMachine}
use Rattle.cs_graph.specs.Lags.{retimed, retimed_edge, weight_under}
use Rattle.cs_graph.specs.Order.{no_lags}
use Rattle.cs_graph.specs.Period.{HasNoRegister, IsPath, IsPeriod, edge_delay, edges_delay, vertex_delay}
use Rattle.cs_graph.proofs.LagLemmas.{weight_alone}
use Rattle.cs_graph.proofs.Shifted.{edge_of}
use Rattle.cs_json.specs.declared.document.Document.{Document}
use Rattle.cs_net.specs.Accept.{IsNetOfTop}
use Rattle.cs_net.specs.Netlist.{Net}
use Rattle.cs_share.specs.declared.types.Names.{Names}
use Rattle.cs_share.specs.Emission.{IsEmission}
use Rattle.cs_share.specs.Names.{AreNamesFor}
use Rattle.cs_share.specs.Period.{IsNetPeriod}
use Rattle.cs_share.proofs.PeriodLaw.{written_period}

none_if : (z : ℤ) → unsigned_abs z ≡ 0 → z ≡ pos 0
none_if (pos n) h = ap pos h
none_if (negsuc n) h = absurd (omega (arith, h))

module _ (g : Graph) (lags : List ℤ) (k : Contents) (delays : Delays) where
  abbrev r : Graph
  r = retimed lags k g

  -- ---- edges

  -- a retimed edge was an edge
  was : (e : ℕ) (d' : Edge) → slice_get r.edges e ≡ Some d'
      → (d : Edge) × (slice_get g.edges e ≡ Some d) × (retimed_edge lags k (e, d) ≡ d')
  was e d' found = by (slice_get g.edges e) refl
    where
      by : (o : Option Edge) → slice_get g.edges e ≡ o
          → (d : Edge) × (slice_get g.edges e ≡ Some d) × (retimed_edge lags k (e, d) ≡ d')
      by None at =
          absurd (none-some d'
          (sym (edge_of lags k g e ∙ ap (option_map (λ d. retimed_edge lags k (e, d))) at) ∙ found))
      by (Some d) at = (
        d,
        at,
        same_Some (retimed_edge lags k (e, d)) d'
            (sym (edge_of lags k g e ∙ ap (option_map (λ d. retimed_edge lags k (e, d))) at) ∙ found),
      )

  now : (e : ℕ) (d : Edge) → slice_get g.edges e ≡ Some d
      → slice_get r.edges e ≡ Some (retimed_edge lags k (e, d))
  now e d found = edge_of lags k g e ∙ ap (option_map (λ d. retimed_edge lags k (e, d))) found

  -- ---- paths

  path_now : (u v : ℕ) (es : List ℕ) → IsPath g u es v → IsPath r u es v
  path_now u v [] leads = leads
  path_now u v (e ∷ es) (d, found, from, rest) =
      (retimed_edge lags k (e, d), now e d found, from, path_now d.to v es rest)

  path_was : (u v : ℕ) (es : List ℕ) → IsPath r u es v → IsPath g u es v
  path_was u v [] leads = leads
  path_was u v (e ∷ es) (d', found, from, rest) =
      let old = was e d' found in (
        old.0,
        old.1,
        ap (λ (d : Edge). d.from) old.2 ∙ from,
        path_was old.0.to v es (subst (λ w. IsPath r w es v) (sym (ap (λ (d : Edge). d.to) old.2)) rest),
      )

  free_now : (es : List ℕ) → HasNoRegister g lags es → HasNoRegister r no_lags es
  free_now [] free = tt
  free_now (e ∷ es) free = (
    λ d' found.
        let old = was e d' found in
        weight_alone d' ∙ ap (λ (d : Edge). pos d.weight) (sym old.2)
        ∙ ap (λ z. pos (unsigned_abs z)) (free.0 old.0 old.1),
    free_now es free.1,
  )

  free_was : (es : List ℕ) → HasNoRegister r no_lags es → HasNoRegister g lags es
  free_was [] free = tt
  free_was (e ∷ es) free = (
    λ d found.
        let none = free.0 (retimed_edge lags k (e, d)) (now e d found) in
        none_if (weight_under lags d)
        (number (unsigned_abs (weight_under lags d)) (sym (weight_alone (retimed_edge lags k (e, d))) ∙ none)),
    free_was es free.1,
  )
    where
      number : (w : ℕ) → pos w ≡ pos 0 → w ≡ 0
      number w h = omega (arith, ints)

  same_delay : (es : List ℕ) → edges_delay r delays es ≡ edges_delay g delays es
  same_delay [] = refl
  same_delay (e ∷ es) =
      ap₂ (λ m n. m + n) (ap (edge_delay delays) (edge_of lags k g e) ∙ by (slice_get g.edges e)) (same_delay es)
    where
      by : (o : Option Edge)
          → edge_delay delays (option_map (λ d. retimed_edge lags k (e, d)) o) ≡ edge_delay delays o
      by None = refl
      by (Some d) = refl

  -- ---- periods

  now_period : (period : ℕ) → IsPeriod g delays lags period → IsPeriod r delays no_lags period
  now_period period is = record {
    within = λ u v es among leads free.
        let same = same_delay es in
        let within = is.within u v es among (path_was u v es leads) (free_was es free) in
        omega (arith, within, same);
    reached = elim is.reached [
      | inl none ↦ inl none
      | inr path ↦ inr (record {
        first = path.first;
        last = path.last;
        edges = path.edges;
        among = path.among;
        leads = path_now path.first path.last path.edges path.leads;
        no_register = free_now path.edges path.no_register;
        is = ap (λ n. vertex_delay delays path.first + n) (same_delay path.edges) ∙ path.is;
      })
    ];
  }

  was_period : (period : ℕ) → IsPeriod r delays no_lags period → IsPeriod g delays lags period
  was_period period is = record {
    within = λ u v es among leads free.
        let same = same_delay es in
        let within = is.within u v es among (path_now u v es leads) (free_now es free) in
        omega (arith, within, same);
    reached = elim is.reached [
      | inl none ↦ inl none
      | inr path ↦ inr (record {
        first = path.first;
        last = path.last;
        edges = path.edges;
        among = path.among;
        leads = path_was path.first path.last path.edges path.leads;
        no_register = free_was path.edges path.no_register;
        is = ap (λ n. vertex_delay delays path.first + n) (sym (same_delay path.edges)) ∙ path.is;
      })
    ];
  }

  -- the period of the retimed machine is that of the machine under the lags
  pub retimed_period : (period : ℕ) → IsPeriod r delays no_lags period ↔ IsPeriod g delays lags period
  retimed_period period = (was_period period, now_period period)

-- the netlist that is read from the emission of a retimed machine has the machine's period under the lags
pub retimed_written_period : (g : Graph) (lags : List ℤ) (k : Contents) → IsMachine (retimed lags k g)
    → (names : Names) → AreNamesFor (retimed lags k g) names → (doc : Document)
    → IsEmission (retimed lags k g) names doc → (net : Net) → IsNetOfTop doc None net
    → (table : DelayTable) (delays : Delays) → AreAssigned table g delays → (period : ℕ)
    → IsNetPeriod table net period ↔ IsPeriod g delays lags period
retimed_written_period g lags k machine names fit doc e net of_top table delays assigned period =
    let written = written_period (retimed lags k g) machine names fit doc e net of_top table delays
    (record { vertices = assigned.vertices; pins = assigned.pins }) period in
    let moved = retimed_period g lags k delays period in
    (λ is. moved.0 (written.0 is), λ is. written.1 (moved.1 is))
