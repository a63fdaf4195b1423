-- The rounds of a search, over all that is kept of it.
use Rattle.std.proofs.Common.{◌≡◌, ℕ, zero, suc, ◌+◌, ◌-◌, ◌*◌, ◌<◌, ◌≤◌, Bool, true, false, List, [], length, set, replicate, refl, sym, ap, subst, ◌∙◌, arith}
use Rattle.std.specs.Prelude.{Some, None, slice_get}
use Rattle.std.proofs.lemmas.List.{length-set}
use Rattle.cs_graph.specs.declared.delays.Delays.{Delays}
use Rattle.cs_graph.specs.declared.graph.Graph.{Graph}
use Rattle.cs_graph.proofs.ArrivalLemmas.{vertex_delay_few}
use Rattle.cs_paths.specs.declared.reach.Reach.{Reach}
use Rattle.cs_paths.specs.declared.guide.Guide.{Guide}
use Rattle.cs_paths.specs.Guides.{place_of, IsGuide}
use Rattle.cs_paths.specs.Reaches.{reach_of, known_at}
use Rattle.cs_paths.specs.Rows.{IsRowOf}
use Rattle.cs_paths.specs.Searches.{IsSearch, IsFresh, Settles}
use Rattle.cs_paths.specs.Waitings.{Queue, Waits, IsAdded, Takes, position}
use Rattle.cs_paths.proofs.SettleLemmas.{settled_most, search_begins, passed_over, now_settled, settles_first, search_ends}

-- a search from u, with all edges of settled vertices relaxed
abbrev pub Searches : Graph → Delays → Guide → ℕ → List Reach → List Bool → Queue → Type 0
Searches g delays guide u row settled waiting = (last : ℕ × ℕ) × IsSearch g delays guide u last [] 0 row settled waiting

-- no queue comes further
abbrev pub most_position : ℕ
most_position = (4096 * 65536 + 1) * 4097

pub unknown_at : (n v : ℕ) (r : Reach) → reach_of r ≡ None → known_at (replicate n r) v ≡ None
unknown_at zero v r none = refl
unknown_at (suc n) zero r none = none
unknown_at (suc n) (suc v) r none = unknown_at n v r none

module _ (g : Graph) (delays : Delays) (guide : Guide) (guides : IsGuide g guide) (u : ℕ) where
  pub round_begins : (r : Reach) (items : List Reach) (flags : List Bool) (i d p : ℕ) (empty waiting : Queue)
      → u < length g.vertices → length items ≡ length g.vertices → ((v : ℕ) → known_at items v ≡ None)
      → flags ≡ replicate (length g.vertices) false → i ≡ u → reach_of r ≡ Some (0, d)
      → slice_get delays.per_vertex u ≡ Some d → p ≡ place_of guide u → ((k : ℕ × ℕ) → Waits empty k → ⊥)
      → IsAdded (0, p) empty waiting → Searches g delays guide u (set items i r) flags waiting
  round_begins r items flags i d p empty waiting low count blank flat same is own place idle added =
      let delay = vertex_delay_few delays u d own in
      let begun = search_begins g delays guide guides u items r empty waiting low count blank
      (is ∙ ap (λ (t : ℕ). Some (0, t)) (sym delay.0))
      (let quick = delay.1 in let which = delay.0 in omega (arith, quick, which)) idle
      (subst (λ q. IsAdded (0, q) empty waiting) place added) in (
        (0, 0),
        subst (λ n. IsSearch g delays guide u (0, 0) [] 0 (set items n r) flags waiting) (sym same)
            (subst (λ bs. IsSearch g delays guide u (0, 0) [] 0 (set items u r) bs waiting) (sym flat) begun),
      )

  module _ (row : List Reach) (settled : List Bool) (waiting waiting' : Queue) (k : ℕ × ℕ)
      (has : Searches g delays guide u row settled waiting) (takes : Takes k waiting waiting') where
    -- the place that is taken is one of the order
    pub taken_low : k.1 < length guide.order
    taken_low =
        let low = has.1.places k takes.taken in
        let count = guides.ordered in
        omega (arith, low, count)

    module _ (v : ℕ) (at : slice_get guide.order k.1 ≡ Some v) where
      pub row_low : v < length row
      row_low = let low = (guides.once k.1 v at).0 in let count = has.1.reaches in omega (arith, low, count)

      pub flag_low : v < length settled
      flag_low = let low = (guides.once k.1 v at).0 in let count = has.1.flags in omega (arith, low, count)

      pub vertex_low : v < length g.vertices
      vertex_low = (guides.once k.1 v at).0

      -- what is known of a vertex is few
      pub fresh_few : (delay : ℕ) → length g.vertices ≤ 4096 → IsFresh row settled v (k.0, delay)
          → (k.0 ≤ 4096 * 65536) × (delay ≤ 4096 * 1000000)
      fresh_few delay all fresh =
          let few = has.1.few v (k.0, delay) fresh.known in
          let most = settled_most (set settled v true) in
          let now = now_settled g delays guide guides u has.0 row settled waiting waiting' k v has.1 takes at delay fresh in
          let width = length-set settled v true in
          let flags = has.1.flags in
          let light = now.weight in
          let quick = now.delay in
          (omega (arith, light, most, width, flags, all), omega (arith, quick, most, width, flags, all))

      -- a vertex is passed over
      pub round_passes : ((delay : ℕ) → IsFresh row settled v (k.0, delay) → ⊥)
          → Searches g delays guide u row settled waiting'
      round_passes stale =
          (has.0, passed_over g delays guide guides u has.0 row settled waiting waiting' k v has.1 takes at stale)

      -- a vertex is settled, and the edges that leave it are relaxed
      pub round_settles : (delay : ℕ) (row' : List Reach) (waiting'' : Queue)
          → IsFresh row settled v (k.0, delay) → Settles g delays guide v (k.0, delay) row waiting' row' waiting''
          → Searches g delays guide u row' (set settled v true) waiting''
      round_settles delay row' waiting'' fresh settles = (
        (k.0, place_of guide v),
        settles u (set settled v true)
            (now_settled g delays guide guides u has.0 row settled waiting waiting' k v has.1 takes at delay fresh)
            (settles_first g delays guide guides u has.0 row settled waiting waiting' k v has.1 takes at delay fresh),
      )

    -- what has been taken is within what so many settled vertices can give
    taken_light : length g.vertices ≤ 4096 → k.0 ≤ 4096 * 65536
    taken_light all =
        let light = has.1.light k takes.taken in
        let most = settled_most settled in
        let flags = has.1.flags in
        omega (arith, light, most, flags, all)

    -- the queue goes on, and not for ever
    pub round_works : length g.vertices ≤ 4096 → (waiting'' : Queue) → position waiting'' ≡ position waiting'
        → most_position - position waiting'' < most_position - position waiting
    round_works all waiting'' same =
        let light = taken_light all in
        let place = has.1.places k takes.taken in
        let level = takes.level in
        let next = takes.next in
        let on = takes.on in
        omega (arith, light, place, level, next, on, same, all)

  pub round_ends : (row : List Reach) (settled : List Bool) (waiting : Queue)
      → Searches g delays guide u row settled waiting → ((k : ℕ × ℕ) → Waits waiting k → ⊥)
      → IsRowOf g delays u row
  round_ends row settled waiting has idle =
      search_ends g delays guide guides u has.0 row settled waiting idle has.1
