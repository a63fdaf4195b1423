-- Paths by their last edge, and arrivals as greatest delays.
use Rattle.std.proofs.Common.{◌≡◌, ◌⊎◌, ℕ, ◌+◌, ◌*◌, ◌<◌, ◌≤◌, List, [], ◌∷◌, ◌++◌, length, set, max, refl, sym, ap, ap₂, subst, ◌∙◌, inl, inr, arith}
use Rattle.std.specs.Prelude.{ℤ, pos, Some, slice_get}
use Rattle.std.proofs.lemmas.Bool.{cases_lt, cases_eq}
use Rattle.std.proofs.lemmas.List.{get_or-set_same, get_or-set_other, length-set}
use Rattle.std.proofs.lemmas.Option.{same_Some, slice_get_within}
use Rattle.cs_graph.specs.declared.edge.Edge.{Edge}
use Rattle.cs_graph.specs.declared.delays.Delays.{Delays}
use Rattle.cs_graph.specs.declared.graph.Graph.{Graph}
use Rattle.cs_graph.specs.Lags.{weight_under}
use Rattle.cs_graph.specs.Period.{vertex_delay, pin_delay, edge_delay, edges_delay, path_delay, IsPath, HasNoRegister, IsPeriod}
use Rattle.cs_graph.specs.Order.{IsWired, IsDriver, IsOrder}
use Rattle.cs_graph.specs.Arrivals.{arrival_of, AreAtMost, IsLatest, IsArrival}

module _ (g : Graph) (lags : List ℤ) (delays : Delays) where
  -- ---- one edge more

  path_push : (u : ℕ) (es : List ℕ) (v e : ℕ) (d : Edge) → IsPath g u es v → slice_get g.edges e ≡ Some d
      → d.from ≡ v
      → IsPath g u (es ++ e ∷ []) d.to
  path_push u [] v e d same found from = (d, found, from ∙ sym same, refl)
  path_push u (f ∷ es) v e d (c, there, begins, rest) found from = (
    c,
    there,
    begins,
    path_push c.to es v e
        d rest found from,
  )

  free_push : (es : List ℕ) (e : ℕ) (d : Edge) → HasNoRegister g lags es → slice_get g.edges e ≡ Some d
      → weight_under lags d ≡ pos 0 → HasNoRegister g lags (es ++ e ∷ [])
  free_push [] e d h found none = (
    λ c there. subst (λ (x : Edge). weight_under lags x ≡ pos 0) (same_Some d c (sym found ∙ there))
        none,
    tt,
  )
  free_push (f ∷ es) e d (first, rest) found none = (first, free_push es e d rest found none)

  delay_push : (es : List ℕ) (e : ℕ) (d : Edge) → slice_get g.edges e ≡ Some d
      → edges_delay g delays (es ++ e ∷ []) ≡ edges_delay g delays es + pin_delay delays d.to d.pin
  delay_push [] e d found =
      let here = ap (edge_delay delays) found in omega (arith, here)
  delay_push (f ∷ es) e d found = let rest = delay_push es e d found in omega (arith, rest)

  -- ---- the last edge

  -- a path with an edge: the path before its last edge, and that edge
  record HasLast (u : ℕ) (es : List ℕ) (v : ℕ) : Type 0 where
    before : List ℕ
    e : ℕ
    edge : Edge
    found : slice_get g.edges e ≡ Some edge
    to : edge.to ≡ v
    leads : IsPath g u before edge.from
    delay : edges_delay g delays es ≡ edges_delay g delays before + pin_delay delays edge.to edge.pin
    free : HasNoRegister g lags es → HasNoRegister g lags before × (weight_under lags edge ≡ pos 0)

  last_of : (u f : ℕ) (es : List ℕ) (v : ℕ) → IsPath g u (f ∷ es) v → HasLast u (f ∷ es) v
  last_of u f [] v (d, found, begins, ends) = record {
    before = [];
    e = f;
    edge = d;
    found = found;
    to = ends;
    leads = sym begins;
    delay = let here = ap (edge_delay delays) found in omega (arith, here);
    free = λ h. (tt, h.0 d found);
  }
  last_of u f (e ∷ es) v (d, found, begins, rest) =
      let last = last_of d.to e es v rest in
      record {
        before = f ∷ last.before;
        e = last.e;
        edge = last.edge;
        found = last.found;
        to = last.to;
        leads = (d, found, begins, last.leads);
        delay = let delay = last.delay in omega (arith, delay);
        free = λ h. let both = last.free h.1 in ((h.0, both.0), both.1);
      }

  -- ---- arrivals

  module _ (wired : IsWired g) (arrivals : List ℕ) (v latest : ℕ) (is : IsLatest g lags delays arrivals v
      latest)
      (before : (i u : ℕ) → IsDriver g lags v i u → IsArrival g lags delays u (arrival_of arrivals u)) where
    latest_within : (u : ℕ) (es : List ℕ) → IsPath g u es v → HasNoRegister g lags es
        → path_delay g delays u es ≤ latest
    latest_within u [] same free =
        let own = is.own in
        let here = ap (vertex_delay delays) same in
        omega (arith, own, here)
    latest_within u (f ∷ es) leads free =
        let last = last_of u f es v leads in
        let both = last.free free in
        let d = last.edge in
        let pin = wired.fed.feeds last.e d last.found in
        let drives : IsDriver g lags v d.pin d.from = record {
          vertex = pin.0;
          e = last.e;
          edge = d;
          there = ap (slice_get g.vertices) (sym last.to) ∙ pin.1;
          pin = pin.2;
          found = last.found;
          none = both.1;
          from = refl;
        } in
        let arrival = (before d.pin d.from drives).within u last.before last.leads both.0 in
        let by_pin = is.pins d.pin d.from drives in
        let delay = last.delay in
        let same = ap (λ n. pin_delay delays n d.pin) last.to in
        omega (arith, arrival, by_pin, delay, same)

    from_pin : (i u : ℕ) → IsDriver g lags v i u → latest ≡ arrival_of arrivals u + pin_delay delays v i
        → IsArrival g lags delays v latest
    from_pin i u drives at =
        let old = before i u drives in
        let d = drives.edge in
        let to = wired.fed.to v i drives.e drives.vertex d drives.there drives.pin drives.found in
        let pin = wired.fed.pin v i drives.e drives.vertex d drives.there drives.pin drives.found in
        let sum = delay_push old.path drives.e d drives.found in
        let ends = ap₂ (λ n j. pin_delay delays n j) to pin in
        let was = old.is in
        record {
          within = latest_within;
          first = old.first;
          path = old.path ++ drives.e ∷ [];
          leads = subst (IsPath g old.first (old.path ++ drives.e ∷ [])) to
              (path_push old.first old.path u drives.e d old.leads drives.found drives.from);
          no_register = free_push old.path drives.e d old.no_register drives.found drives.none;
          is = omega (arith, sum, ends, was, at);
        }

    pub latest_arrives : IsArrival g lags delays v latest
    latest_arrives = elim is.reached [
      | inl own ↦ record {
        within = latest_within;
        first = v;
        path = [];
        leads = refl;
        no_register = tt;
        is = omega (arith, own);
      }
      | inr (i, u, drives, at) ↦ from_pin i u drives at
    ]

  -- ---- the sweep

  -- the first k vertices of the order have their arrivals, and the period is the greatest of them
  pub record IsSweep (order : List ℕ) (k : ℕ) (arrivals : List ℕ) (period : ℕ) : Type 0 where
    pub count : length arrivals ≡ length g.vertices
    pub right : (j w : ℕ) → j < k → slice_get order j ≡ Some w
        → IsArrival g lags delays w (arrival_of arrivals w)
    pub few : AreAtMost arrivals (k * 1000000)
    pub most : (j w : ℕ) → j < k → slice_get order j ≡ Some w → arrival_of arrivals w ≤ period
    pub reached : ((k ≡ 0) × (period ≡ 0))
        ⊎ ((j : ℕ) × (w : ℕ) × (j < k) × (slice_get order j ≡ Some w) × (arrival_of arrivals w ≡ period))

  pub sweep_begins : (order arrivals : List ℕ) → length arrivals ≡ length g.vertices → AreAtMost arrivals 0
      → IsSweep order 0 arrivals 0
  sweep_begins order arrivals count few = record {
    count = count;
    right = λ j w low. absurd (omega (arith, low));
    few = λ v. let none = few v in omega (arith, none);
    most = λ j w low. absurd (omega (arith, low));
    reached = inl (refl, refl);
  }

  -- what the next vertex reads has its arrival
  pub sweep_knows : (order : List ℕ) (k : ℕ) (arrivals : List ℕ) (period v : ℕ) → IsWired g
      → IsOrder g lags order
      → IsSweep order k arrivals period → slice_get order k ≡ Some v → (i u : ℕ) → IsDriver g lags v i u
      → IsArrival g lags delays u (arrival_of arrivals u)
  sweep_knows order k arrivals period v wired ordered is at i u drives =
      let d = drives.edge in
      let to = wired.fed.to v i drives.e drives.vertex d drives.there drives.pin drives.found in
      let less = ordered.below drives.e d drives.found drives.none in
      let here = (ordered.once k v at).1 in
      let there = ap ordered.place to in
      let from = ap ordered.place drives.from in
      let among = subst (λ n. n < length g.vertices) drives.from (wired.from drives.e d drives.found) in
      is.right (ordered.place u) u (omega (arith, less, here, there, from)) (ordered.at u among)

  pub sweep_goes_on : (order : List ℕ) (k : ℕ) (arrivals : List ℕ) (period v latest : ℕ) → IsWired g
      → IsOrder g lags order → IsSweep order k arrivals period → slice_get order k ≡ Some v
      → IsArrival g lags delays v latest → latest ≤ k * 1000000 + 1000000
      → IsSweep order (k + 1) (set arrivals v latest) (max period latest)
  sweep_goes_on order k arrivals period v latest wired ordered is at new few = record {
    count = length-set arrivals v latest ∙ is.count;
    right = λ j w low found. elim (cases_lt j k) [
      | inl less ↦ subst (IsArrival g lags delays w) (sym (other j w less found)) (is.right j w less found)
      | inr more ↦ subst (λ x. IsArrival g lags delays x (arrival_of (set arrivals v latest) x)) (same j w
          low more found)
          (subst (IsArrival g lags delays v) (sym mine) new)
    ];
    few = λ w. small w;
    most = λ j w low found. elim (cases_lt j k) [
      | inl less ↦
          let old = is.most j w less found in let unchanged = other j w less found in omega (
            arith,
            old,
            unchanged,
          )
      | inr more ↦
          let who = ap (arrival_of (set arrivals v latest)) (same j w low more found) in
          let here = mine in omega (arith, who, here)
    ];
    reached = elim (cases_lt period latest) [
      | inl later ↦ inr (k, v, omega arith, at, let here = mine in omega (arith, here, later))
      | inr before ↦ elim is.reached [
        | inl (none, zero_period) ↦ inr (
          k,
          v,
          omega arith,
          at,
          let here = mine in omega (
            arith,
            here,
            before,
            zero_period,
          ),
        )
        | inr (j, w, less, found, was) ↦
            inr (
              j,
              w,
              omega (arith, less),
              found,
              let unchanged = other j w less found in omega (
                arith,
                unchanged,
                was,
                before,
              ),
            )
      ]
    ];
  }
    where
      low_v : v < length arrivals
      low_v = let once = ordered.once k v at in let count = is.count in omega (arith, once.0, count)

      mine : arrival_of (set arrivals v latest) v ≡ latest
      mine = get_or-set_same arrivals v latest 0 low_v

      other : (j w : ℕ) → j < k → slice_get order j ≡ Some w
          → arrival_of (set arrivals v latest) w ≡ arrival_of arrivals w
      other j w less found =
          get_or-set_other arrivals v w latest 0
          (λ both.
          let here = (ordered.once k v at).1 in
          let there = (ordered.once j w found).1 in
          let place = ap ordered.place both in
          absurd (omega (arith, here, there, place, less)))

      same : (j w : ℕ) → j < k + 1 → k ≤ j → slice_get order j ≡ Some w → v ≡ w
      same j w low more found =
          let place : k ≡ j = omega (arith, low, more) in
          same_Some v w (sym at ∙ ap (slice_get order) place ∙ found)

      small : (w : ℕ) → arrival_of (set arrivals v latest) w ≤ (k + 1) * 1000000
      small w = elim (cases_eq w v) [
        | inl here ↦
            let now = ap (arrival_of (set arrivals v latest)) here ∙ get_or-set_same arrivals v latest 0
            (let once = ordered.once k v at in let count = is.count in omega (arith, once.0, count)) in
            omega (arith, now, few)
        | inr away ↦
            let now = get_or-set_other arrivals v w latest 0 away in
            let old = is.few w in
            omega (arith, now, old)
      ]

  -- ---- the period

  ends_among : IsWired g → (u : ℕ) (es : List ℕ) (v : ℕ) → u < length g.vertices → IsPath g u es v
      → v < length g.vertices
  ends_among wired u [] v low same = subst (λ n. n < length g.vertices) same low
  ends_among wired u (e ∷ es) v low (d, found, begins, rest) =
      let pin = wired.fed.feeds e d found in
      ends_among wired d.to es v (slice_get_within g.vertices d.to pin.0 pin.1) rest

  begins_among : IsWired g → (u : ℕ) (es : List ℕ) (v : ℕ) → v < length g.vertices → IsPath g u es v
      → u < length g.vertices
  begins_among wired u [] v low same = subst (λ n. n < length g.vertices) (sym same) low
  begins_among wired u (e ∷ es) v low (d, found, begins, rest) = subst (λ n. n < length g.vertices) begins
      (wired.from e d found)

  pub sweep_ends : (order : List ℕ) (k : ℕ) (arrivals : List ℕ) (period : ℕ) → IsWired g
      → IsOrder g lags order
      → IsSweep order k arrivals period → length order ≤ k → IsPeriod g delays lags period
  sweep_ends order k arrivals period wired ordered is all = record {
    within = λ u v es low leads free.
        let among = ends_among wired u es v low leads in
        let at = ordered.at v among in
        let within = slice_get_within order (ordered.place v) v at in
        let place : ordered.place v < k = omega (arith, within, all) in
        let arrival = (is.right (ordered.place v) v place at).within u es leads free in
        let most = is.most (ordered.place v) v place at in
        omega (arith, arrival, most);
    reached = elim is.reached [
      | inl (none, zero_period) ↦ let count = ordered.count in inl (
        omega (arith, none, all, count),
        zero_period,
      )
      | inr (j, w, less, found, was) ↦
          let arrival = is.right j w less found in
          let low = (ordered.once j w found).0 in
          inr (record {
            first = arrival.first;
            last = w;
            edges = arrival.path;
            among = begins_among wired arrival.first arrival.path w low arrival.leads;
            leads = arrival.leads;
            no_register = arrival.no_register;
            is = arrival.is ∙ was;
          })
    ];
  }
