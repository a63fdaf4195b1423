-- The steps of a search: an edge is relaxed, a vertex is settled, and what holds when nothing waits.
use Rattle.std.proofs.Common.{◌≡◌, ◌⊎◌, ℕ, ◌+◌, ◌*◌, ◌<◌, ◌≤◌, Bool, true, false, List, [], ◌∷◌, ◌++◌, length, set, refl, sym, ap, subst, ◌∙◌, inl, inr, arith}
use Rattle.std.specs.Prelude.{Some, slice_get}
use Rattle.std.proofs.lemmas.Bool.{cases_eq, cases_Bool}
use Rattle.std.proofs.lemmas.List.{get_or-set_same, get_or-set_other, length-set}
use Rattle.std.proofs.lemmas.Option.{same_Some, slice_get_within}
use Rattle.cs_graph.specs.declared.delays.Delays.{Delays}
use Rattle.cs_graph.specs.declared.edge.Edge.{Edge}
use Rattle.cs_graph.specs.declared.graph.Graph.{Graph}
use Rattle.cs_graph.specs.Period.{pin_delay, edge_delay, edges_delay, edge_weight, path_weight, IsPath}
use Rattle.cs_paths.specs.declared.reach.Reach.{Reach}
use Rattle.cs_paths.specs.declared.guide.Guide.{Guide}
use Rattle.cs_paths.specs.Guides.{place_of, IsGuide}
use Rattle.cs_paths.specs.Reaches.{no_reach, reach_of, known_at}
use Rattle.cs_paths.specs.Searches.{IsAsGood, Knows, along, IsRelaxed, HasPathWith, is_settled, settled_count, IsFew, IsUndone, IsSearch, IsSettled, IsRaised, IsLowered, Improves}
use Rattle.cs_paths.specs.Waitings.{Queue, Waits, IsUpTo, CanWait, IsAdded}

-- ---- registers and delays

pub as_good_itself : (a : ℕ × ℕ) → IsAsGood a a
as_good_itself a = inr (refl, omega arith)

pub as_good_then : (a b c : ℕ × ℕ) → IsAsGood a b → IsAsGood b c → IsAsGood a c
as_good_then a b c h k = elim h [
  | inl less ↦ elim k [
    | inl more ↦ inl (omega (arith, less, more))
    | inr (same, few) ↦ inl (omega (arith, less, same))
  ]
  | inr (same, few) ↦ elim k [
    | inl more ↦ inl (omega (arith, same, more))
    | inr (other, fewer) ↦ inr (same ∙ other, omega (arith, few, fewer))
  ]
]

-- as good stays as good where both go on alike
pub as_good_on : (a b : ℕ × ℕ) (w t : ℕ) → IsAsGood a b → IsAsGood (a.0 + w, a.1 + t) (b.0 + w, b.1 + t)
as_good_on a b w t h = elim h [
  | inl less ↦ inl (omega (arith, less))
  | inr (same, few) ↦ inr (omega (arith, same), omega (arith, few))
]

-- ---- the queue's order

-- fewer registers, or as many and an earlier place
abbrev pub IsBefore : ℕ × ℕ → ℕ × ℕ → Type 0
IsBefore a b = (a.0 < b.0) ⊎ ((a.0 ≡ b.0) × (a.1 < b.1))

pub up_to_then : (a b c : ℕ × ℕ) → IsUpTo a b → IsUpTo b c → IsUpTo a c
up_to_then a b c h k = elim h [
  | inl less ↦ elim k [
    | inl more ↦ inl (omega (arith, less, more))
    | inr (same, few) ↦ inl (omega (arith, less, same))
  ]
  | inr (same, few) ↦ elim k [
    | inl more ↦ inl (omega (arith, same, more))
    | inr (other, fewer) ↦ inr (same ∙ other, omega (arith, few, fewer))
  ]
]

pub before_up_to : (a b : ℕ × ℕ) → IsBefore a b → IsUpTo a b
before_up_to a b h = elim h [
  | inl less ↦ inl less
  | inr (same, less) ↦ inr (same, omega (arith, less))
]

-- what is up to something before another at the same place has fewer registers
pub fewer : (n m p : ℕ) (last : ℕ × ℕ) → IsUpTo (n, p) last → IsBefore last (m, p) → n < m
fewer n m p last h k = elim h [
  | inl less ↦ elim k [
    | inl more ↦ omega (arith, less, more)
    | inr (same, few) ↦ omega (arith, less, same)
  ]
  | inr (same, few) ↦ elim k [
    | inl more ↦ omega (arith, same, more)
    | inr (other, less) ↦ absurd (omega (arith, few, less))
  ]
]

-- ---- what a row keeps

pub known_set_same : (row : List Reach) (x : ℕ) (r : Reach) → x < length row
    → known_at (set row x r) x ≡ reach_of r
known_set_same row x r low = ap reach_of (get_or-set_same row x r no_reach low)

pub known_set_other : (row : List Reach) (x v : ℕ) (r : Reach) → (v ≡ x → ⊥)
    → known_at (set row x r) v ≡ known_at row v
known_set_other row x v r away = ap reach_of (get_or-set_other row x v r no_reach away)

-- something known that is replaced by something as good
module _ (row : List Reach) (x : ℕ) (r : Reach) (new : ℕ × ℕ) (low : x < length row) (is : reach_of r ≡ Some new)
    (better : (old : ℕ × ℕ) → known_at row x ≡ Some old → IsAsGood new old) where
  pub knows_new : Knows (set row x r) x new
  knows_new = record { reach = new; known = known_set_same row x r low ∙ is; as_good = as_good_itself new }

  pub knows_stays : (v : ℕ) (b : ℕ × ℕ) → Knows row v b → Knows (set row x r) v b
  knows_stays v b knows = elim (cases_eq v x) [
    | inl same ↦
        let old = subst (λ n. known_at row n ≡ Some knows.reach) same knows.known in
        subst (λ n. Knows (set row x r) n b) (sym same) (record {
          reach = new;
          known = known_set_same row x r low ∙ is;
          as_good = as_good_then new knows.reach b (better knows.reach old) knows.as_good;
        })
    | inr away ↦ record {
      reach = knows.reach;
      known = known_set_other row x v r away ∙ knows.known;
      as_good = knows.as_good;
    }
  ]

-- ---- paths

module _ (g : Graph) (delays : Delays) where
  pub path_push : (u : ℕ) (es : List ℕ) (v e : ℕ) (d : Edge) → IsPath g u es v → slice_get g.edges e ≡ Some d
      → d.from ≡ v → IsPath g u (es ++ e ∷ []) d.to
  path_push u [] v e d same found from = (d, found, from ∙ sym same, refl)
  path_push u (f ∷ es) v e d (c, there, begins, rest) found from =
      (c, there, begins, path_push c.to es v e d rest found from)

  pub weight_push : (es : List ℕ) (e : ℕ) (d : Edge) → slice_get g.edges e ≡ Some d
      → path_weight g (es ++ e ∷ []) ≡ path_weight g es + d.weight
  weight_push [] e d found = let here = ap edge_weight found in omega (arith, here)
  weight_push (f ∷ es) e d found = let rest = weight_push es e d found in omega (arith, rest)

  pub delay_push : (es : List ℕ) (e : ℕ) (d : Edge) → slice_get g.edges e ≡ Some d
      → edges_delay g delays (es ++ e ∷ []) ≡ edges_delay g delays es + pin_delay delays d.to d.pin
  delay_push [] e d found = let here = ap (edge_delay delays) found in omega (arith, here)
  delay_push (f ∷ es) e d found = let rest = delay_push es e d found in omega (arith, rest)

  -- a path that goes on along an edge
  pub path_along : (u v e : ℕ) (d : Edge) (a : ℕ × ℕ) → HasPathWith g delays u v a → slice_get g.edges e ≡ Some d
      → d.from ≡ v → HasPathWith g delays u d.to (along delays d a)
  path_along u v e d a has found from =
      let weight = weight_push has.path e d found in
      let delay = delay_push has.path e d found in
      let weighed = has.weighs in
      let was = has.is in
      record {
        path = has.path ++ e ∷ [];
        leads = path_push u has.path v e d has.leads found from;
        weighs = omega (arith, weight, weighed);
        is = omega (arith, delay, was);
      }

-- ---- an edge is relaxed

-- the queue doesn't go on by what comes to wait
pub improves_position : (x place : ℕ) (new : ℕ × ℕ) (row : List Reach) (waiting : Queue) (row' : List Reach)
    (waiting' : Queue) → Improves x place new row waiting row' waiting'
    → (waiting'.level ≡ waiting.level) × (waiting'.next ≡ waiting.next)
improves_position x place new row waiting row' waiting' improves = elim improves [
  | inl (knows, same_row, same) ↦ (ap (λ (q : Queue). q.level) same, ap (λ (q : Queue). q.next) same)
  | inr rest ↦ elim rest [
    | inl (raised, same) ↦ (ap (λ (q : Queue). q.level) same, ap (λ (q : Queue). q.next) same)
    | inr (lowered, added) ↦ (added.level, added.next)
  ]
]

module _ (g : Graph) (delays : Delays) (guide : Guide) (guides : IsGuide g guide) where
  -- along an edge one comes later in the queue's order
  pub edge_later : (e : ℕ) (d : Edge) (a : ℕ × ℕ) → slice_get g.edges e ≡ Some d
      → IsBefore (a.0, place_of guide d.from) (a.0 + d.weight, place_of guide d.to)
  edge_later e d a found = elim (cases_eq d.weight 0) [
    | inl none ↦ inr (omega (arith, none), guides.below e d found none)
    | inr some ↦ inl (omega (arith, some))
  ]

  pub place_low : (v : ℕ) → v < length g.vertices → place_of guide v < length g.vertices
  place_low v low =
      let within = slice_get_within guide.order (place_of guide v) v (guides.at v low) in
      let count = guides.ordered in
      omega (arith, within, count)

  -- the end of an edge comes no earlier than what has been taken, where its beginning was the last
  pub edge_waits : (q : Queue) (v e : ℕ) (d : Edge) (from : ℕ × ℕ) (w p : ℕ) → slice_get g.edges e ≡ Some d
      → d.from ≡ v → q.level ≡ from.0 → q.next ≡ place_of guide v + 1 → w ≡ from.0 + d.weight
      → p ≡ place_of guide d.to → d.to < length g.vertices → length g.vertices ≤ 4096 → d.weight ≤ 65536
      → from.0 ≤ 4096 * 65536 → CanWait q (w, p)
  edge_waits q v e d from w p found begins level next weight place among most light few =
      let start = ap (place_of guide) begins in
      let low = place_low d.to among in
      record {
        comes = elim (edge_later e d from found) [
          | inl less ↦ inl (omega (arith, less, level, weight))
          | inr (same, less) ↦ inr (omega (arith, same, level, weight), omega (arith, less, next, place, start))
        ];
        place = omega (arith, low, most, place);
        few = omega (arith, few, light, weight);
      }

  -- a vertex that the row keeps something new of
  module _ (u v : ℕ) (from : ℕ × ℕ) (edges : List ℕ) (k e : ℕ) (d : Edge) (row : List Reach)
      (settled : List Bool) (waiting : Queue)
      (is : IsSearch g delays guide u (from.0, place_of guide v) edges k row settled waiting)
      (has : IsSettled v from row settled) (at : slice_get edges k ≡ Some e) (found : slice_get g.edges e ≡ Some d)
      (begins : d.from ≡ v) where
    -- the edge comes later than all settled vertices
    later_than_last : IsBefore (from.0, place_of guide v) ((along delays d from).0, place_of guide d.to)
    later_than_last = subst (λ n. IsBefore (from.0, place_of guide n) (from.0 + d.weight, place_of guide d.to)) begins
        (edge_later e d from found)

    -- a settled end of the edge has fewer registers than come along it
    pub settled_fewer : is_settled settled d.to ≡ true → (old : ℕ × ℕ) → known_at row d.to ≡ Some old
        → old.0 < from.0 + d.weight
    settled_fewer flag old known =
        let ahead = is.ahead d.to flag in
        let same = ap (λ (a : ℕ × ℕ). a.0) (same_Some ahead.reach old (sym ahead.known ∙ known)) in
        let less = fewer ahead.reach.0 (from.0 + d.weight) (place_of guide d.to) (from.0, place_of guide v) ahead.up_to
        later_than_last in
        omega (arith, less, same)

    -- what is yet to be relaxed is this edge, or comes after it
    undone_next : (f : ℕ) → IsUndone edges k f → (f ≡ e) ⊎ IsUndone edges (k + 1) f
    undone_next f (j, low, there) = elim (cases_eq j k) [
      | inl same ↦ inl (same_Some f e (sym there ∙ ap (slice_get edges) same ∙ at))
      | inr away ↦ inr (j, omega (arith, low, away), there)
    ]

    -- the edge is relaxed in a row that knows what comes along it
    relaxed_now : (row' : List Reach) → known_at row' v ≡ Some from → Knows row' d.to (along delays d from)
        → (f : ℕ) (c : Edge) → f ≡ e → slice_get g.edges f ≡ Some c → IsRelaxed delays row' c
    relaxed_now row' known knows f c same there a had =
        let edge = same_Some d c (sym found ∙ ap (slice_get g.edges) (sym same) ∙ there) in
        let source = sym begins ∙ ap (λ (x : Edge). x.from) edge in
        let what = same_Some from a (sym known ∙ ap (known_at row') source ∙ had) in
        subst (λ (x : Edge). Knows row' x.to (along delays x a)) edge
        (subst (λ b. Knows row' d.to (along delays d b)) what knows)

    -- as good was known
    pub kept_goes_on : Knows row d.to (along delays d from)
        → IsSearch g delays guide u (from.0, place_of guide v) edges (k + 1) row settled waiting
    kept_goes_on knows = record {
      reaches = is.reaches;
      flags = is.flags;
      attained = is.attained;
      begins = is.begins;
      waits = is.waits;
      relaxed = λ f c there flag. elim (is.relaxed f c there flag) [
        | inl undone ↦ elim (undone_next f undone) [
          | inl same ↦ inr (relaxed_now row has.known knows f c same there)
          | inr rest ↦ inl rest
        ]
        | inr done ↦ inr done
      ];
      ahead = is.ahead;
      later = is.later;
      places = is.places;
      light = is.light;
      few = is.few;
    }

    -- something better is kept of a vertex that is not settled
    module _ (r : Reach) (waiting' : Queue) (among : d.to < length g.vertices)
        (light : d.weight ≤ 65536) (quick : pin_delay delays d.to d.pin ≤ 1000000)
        (new : reach_of r ≡ Some (along delays d from))
        (better : (old : ℕ × ℕ) → known_at row d.to ≡ Some old → IsAsGood (along delays d from) old)
        (open_end : is_settled settled d.to ≡ false)
        (stays : (q : ℕ × ℕ) → Waits waiting q → Waits waiting' q)
        (waits_now : Waits waiting' (from.0 + d.weight, place_of guide d.to))
        (only : (q : ℕ × ℕ) → Waits waiting' q → (q ≡ (from.0 + d.weight, place_of guide d.to)) ⊎ Waits waiting q)
      where
        low : d.to < length row
        low = let count = is.reaches in omega (arith, among, count)

        abbrev row' : List Reach
        row' = set row d.to r

        now : known_at row' d.to ≡ Some (along delays d from)
        now = known_set_same row d.to r low ∙ new

        other : (w : ℕ) → (w ≡ d.to → ⊥) → known_at row' w ≡ known_at row w
        other w away = known_set_other row d.to w r away

        settled_away : (w : ℕ) → is_settled settled w ≡ true → w ≡ d.to → ⊥
        settled_away w flag same =
            let clash : true ≡ false = sym flag ∙ ap (is_settled settled) same ∙ open_end in absurd (cc)

        settled_stays : (w : ℕ) → is_settled settled w ≡ true → known_at row' w ≡ known_at row w
        settled_stays w flag = other w (settled_away w flag)

        what_now : (w : ℕ) (a : ℕ × ℕ) → w ≡ d.to → known_at row' w ≡ Some a → along delays d from ≡ a
        what_now w a same known = same_Some (along delays d from) a (sym now ∙ ap (known_at row') (sym same) ∙ known)

        few_now : IsFew (settled_count settled) (along delays d from)
        few_now =
            let weight = has.weight in
            let delay = has.delay in
            (omega (arith, weight, light), omega (arith, delay, quick))

        pub settled_goes_on : IsSettled v from (set row d.to r) settled
        settled_goes_on = record {
          known = settled_stays v has.is ∙ has.known;
          is = has.is;
          weight = has.weight;
          delay = has.delay;
        }

        pub better_goes_on : IsSearch g delays guide u (from.0, place_of guide v) edges (k + 1) (set row d.to r) settled
            waiting'
        better_goes_on = record {
          reaches = length-set row d.to r ∙ is.reaches;
          flags = is.flags;
          attained = λ w a known. elim (cases_eq w d.to) [
            | inl same ↦
                subst (HasPathWith g delays u w) (what_now w a same known)
                (subst (λ n. HasPathWith g delays u n (along delays d from)) (sym same)
                (path_along g delays u v e d from (is.attained v from has.known) found begins))
            | inr away ↦ is.attained w a (sym (other w away) ∙ known)
          ];
          begins = knows_stays row d.to r (along delays d from) low new better u _ is.begins;
          waits = λ w a known flag. elim (cases_eq w d.to) [
            | inl same ↦
                subst (λ (b : ℕ × ℕ). Waits waiting' (b.0, place_of guide w)) (what_now w a same known)
                (subst (λ n. Waits waiting' (from.0 + d.weight, place_of guide n)) (sym same) waits_now)
            | inr away ↦ stays _ (is.waits w a (sym (other w away) ∙ known) flag)
          ];
          relaxed = λ f c there flag. elim (is.relaxed f c there flag) [
            | inl undone ↦ elim (undone_next f undone) [
              | inl same ↦
                  inr (relaxed_now row' (settled_stays v has.is ∙ has.known)
                  (knows_new row d.to r (along delays d from) low new better) f c same there)
              | inr rest ↦ inl rest
            ]
            | inr done ↦
                inr (λ a known.
                knows_stays row d.to r (along delays d from) low new better c.to (along delays c a)
                (done a (sym (settled_stays c.from flag) ∙ known)))
          ];
          ahead = λ w flag.
              let old = is.ahead w flag in
              record { reach = old.reach; known = settled_stays w flag ∙ old.known; up_to = old.up_to };
          later = λ q among. elim (only q among) [
            | inl same ↦
                subst (IsUpTo (from.0, place_of guide v)) (sym same)
                (before_up_to (from.0, place_of guide v) (from.0 + d.weight, place_of guide d.to) later_than_last)
            | inr old ↦ is.later q old
          ];
          places = λ q stands. elim (only q stands) [
            | inl same ↦ subst (λ (p : ℕ × ℕ). p.1 < length g.vertices) (sym same) (place_low d.to among)
            | inr old ↦ is.places q old
          ];
          light = λ q stands. elim (only q stands) [
            | inl same ↦ subst (λ (p : ℕ × ℕ). p.0 ≤ settled_count settled * 65536) (sym same) few_now.0
            | inr old ↦ is.light q old
          ];
          few = λ w a known. elim (cases_eq w d.to) [
            | inl same ↦ subst (IsFew (settled_count settled)) (what_now w a same known) few_now
            | inr away ↦ is.few w a (sym (other w away) ∙ known)
          ];
        }

    -- what is new is kept where it is better
    module _ (row' : List Reach) (waiting' : Queue) (among : d.to < length g.vertices)
        (light : d.weight ≤ 65536) (quick : pin_delay delays d.to d.pin ≤ 1000000)
        (improves : Improves d.to (place_of guide d.to) (along delays d from) row waiting row' waiting') where
      -- a vertex that is not settled
      open_unless : ((old : ℕ × ℕ) → known_at row d.to ≡ Some old → from.0 + d.weight ≤ old.0)
          → is_settled settled d.to ≡ false
      open_unless no_more = elim (cases_Bool (is_settled settled d.to)) [
        | inl flag ↦
            let ahead = is.ahead d.to flag in
            let less = settled_fewer flag ahead.reach ahead.known in
            let more = no_more ahead.reach ahead.known in
            absurd (omega (arith, less, more))
        | inr flag ↦ flag
      ]

      raised_goes_on : IsRaised d.to (along delays d from) row row' → waiting' ≡ waiting
          → IsSearch g delays guide u (from.0, place_of guide v) edges (k + 1) row' settled waiting'
          × IsSettled v from row' settled
      raised_goes_on raised same =
          let as_many : (old : ℕ × ℕ) → known_at row d.to ≡ Some old → old.0 ≡ from.0 + d.weight =
          λ old known. ap (λ (a : ℕ × ℕ). a.0) (same_Some old raised.old (sym known ∙ raised.known))
          ∙ raised.as_many in
          let better : (old : ℕ × ℕ) → known_at row d.to ≡ Some old → IsAsGood (along delays d from) old =
          λ old known. inr (
            sym (as_many old known),
            let less = raised.greater in
                let which = ap (λ (a : ℕ × ℕ). a.1) (same_Some old raised.old (sym known ∙ raised.known)) in
                omega (arith, less, which),
          ) in
          let flag = open_unless (λ old known. let same_count = as_many old known in omega (arith, same_count)) in
          let waits = subst (λ n. Waits waiting (n, place_of guide d.to)) raised.as_many
          (is.waits d.to raised.old raised.known flag) in
          subst (λ ws. IsSearch g delays guide u (from.0, place_of guide v) edges (k + 1) row' settled ws
          × IsSettled v from row' settled) (sym same)
          (subst (λ xs. IsSearch g delays guide u (from.0, place_of guide v) edges (k + 1) xs settled waiting
          × IsSettled v from xs settled) (sym raised.kept) (
            better_goes_on raised.reach waiting among light quick raised.is better flag (λ q h. h) waits (λ q h. inr h),
            settled_goes_on raised.reach waiting among light quick raised.is better flag (λ q h. h) waits
                (λ q h. inr h),
          ))

      lowered_goes_on : IsLowered d.to (along delays d from) row row'
          → IsAdded (from.0 + d.weight, place_of guide d.to) waiting waiting'
          → IsSearch g delays guide u (from.0, place_of guide v) edges (k + 1) row' settled waiting'
          × IsSettled v from row' settled
      lowered_goes_on lowered added =
          let better : (old : ℕ × ℕ) → known_at row d.to ≡ Some old → IsAsGood (along delays d from) old =
          λ old known. inl (lowered.fewer old known) in
          let flag = open_unless (λ old known. let less = lowered.fewer old known in omega (arith, less)) in
          subst (λ xs. IsSearch g delays guide u (from.0, place_of guide v) edges (k + 1) xs settled waiting'
          × IsSettled v from xs settled) (sym lowered.kept) (
            better_goes_on lowered.reach waiting' among light quick lowered.is better flag added.stays added.now
                added.only,
            settled_goes_on lowered.reach waiting' among light quick lowered.is better flag added.stays added.now
                added.only,
          )

      pub relaxed_goes_on : IsSearch g delays guide u (from.0, place_of guide v) edges (k + 1) row' settled waiting'
          × IsSettled v from row' settled
      relaxed_goes_on = elim improves [
        | inl (knows, same_row, same_waiting) ↦
            subst (λ ws. IsSearch g delays guide u (from.0, place_of guide v) edges (k + 1) row' settled ws
            × IsSettled v from row' settled) (sym same_waiting)
            (subst (λ xs. IsSearch g delays guide u (from.0, place_of guide v) edges (k + 1) xs settled waiting
            × IsSettled v from xs settled) (sym same_row) (kept_goes_on knows, has))
        | inr rest ↦ elim rest [
          | inl (raised, same) ↦ raised_goes_on raised same
          | inr (lowered, added) ↦ lowered_goes_on lowered added
        ]
      ]
