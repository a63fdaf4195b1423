-- The steps of a depth-first search keep what holds between them.
use Rattle.std.proofs.Common.{◌≡◌, ℕ, zero, suc, ◌+◌, ◌-◌, ◌<◌, ◌≤◌, ◌⊎◌, true, false, cond, List, [], ◌∷◌, ◌++◌, length, Option, Some, None, get_or, set, take, drop, replicate, refl, sym, ap, ◌∙◌, subst, arith, inl, inr}
use Rattle.std.specs.Prelude.{slice_get, Contains, count_by}
use Rattle.std.proofs.lemmas.Bool.{cases_eq, cases_lt}
use Rattle.std.proofs.lemmas.Option.{slice_get_within, slice_get-get_or, get_or_from_slice_get, slice_get_past}
use Rattle.std.proofs.lemmas.List.{get_or-set_same, get_or-set_other, get_or-replicate, get_or_past, length-replicate, length_push, length-take}
use Rattle.std.proofs.Math.ListN.{length-set}
use Rattle.std.proofs.lemmas.List.Sums.{sum_by-set}
use Rattle.cs_order.specs.declared.state.State.{State}
use Rattle.cs_order.specs.declared.state.State.TheVariants.{Unseen, Open, Placed}
use Rattle.cs_order.specs.Graphs.{Graph, DependsOn, HasNoRepeat, IsAfterAll, IsOrder, IsWalk, IsLoop, sources_of}
use Rattle.cs_order.specs.Searches.{IsSearch, AreThose, ArePassed, IsLinked, LeadsTo, IsSeen, StaysSeen, is_pending, pending, is_unseen, left, IsPartFrom}
use Rattle.cs_base.proofs.ListLemmas.{contains_at, at_contains, at_push, at_push_old, at_push_new, at_take, take_at, at_set_same, at_set_other, at_replicate}

-- ---- the vertices of a state, where one vertex changes its state

those_grow : (state old : State) (states : List State) (vs : List ℕ) (w : ℕ)
    → AreThose state states vs → slice_get states w ≡ Some old → (old ≡ state → ⊥)
    → AreThose state (set states w state) (vs ++ w ∷ [])
those_grow state old states vs w h was other = record {
  have = λ i v stands. elim (at_push vs w i v stands) [
    | inl before ↦
        at_set_other states w v state (λ same. apart v (h.have i v before) same)
        ∙ h.have i v before
    | inr (place, same) ↦
        ap (slice_get (set states w state)) same
        ∙ at_set_same states w state (slice_get_within states w old was)
  ];
  stand = λ v is. elim (cases_eq v w) [
    | inl same ↦ (
      length vs,
      at_push_new vs w ∙ ap (λ x. Some x) (sym same),
    )
    | inr differs ↦
        let before = h.stand v (sym (at_set_other states w v state differs) ∙ is) in
        (before.0, at_push_old vs w before.0 v before.1)
  ];
  once = λ i j v first second. elim (at_push vs w i v first) [
    | inl before ↦ elim (at_push vs w j v second) [
      | inl before' ↦ h.once i j v before before'
      | inr (place', same') ↦ absurd (apart v (h.have i v before) same')
    ]
    | inr (place, same) ↦ elim (at_push vs w j v second) [
      | inl before' ↦ absurd (apart v (h.have j v before') same)
      | inr (place', same') ↦ place ∙ sym place'
    ]
  ];
} where
  apart : (v : ℕ) → slice_get states v ≡ Some state → v ≡ w → ⊥
  apart v is same = let both : slice_get states w ≡ Some state = ap (slice_get states) (sym same) ∙ is in
      other (cc)

those_stay : (state old new : State) (states : List State) (vs : List ℕ) (w : ℕ)
    → AreThose state states vs → slice_get states w ≡ Some old → (old ≡ state → ⊥)
    → (new ≡ state → ⊥) → AreThose state (set states w new) vs
those_stay state old new states vs w h was other another = record {
  have = λ i v stands. at_set_other states w v new (λ same. apart v (h.have i v stands) same)
      ∙ h.have i v stands;
  stand = λ v is. elim (cases_eq v w) [
    | inl same ↦ absurd (not_new v is same)
    | inr differs ↦ h.stand v (sym (at_set_other states w v new differs) ∙ is)
  ];
  once = h.once;
} where
  apart : (v : ℕ) → slice_get states v ≡ Some state → v ≡ w → ⊥
  apart v is same = let both : slice_get states w ≡ Some state = ap (slice_get states) (sym same) ∙ is in
      other (cc)

  not_new : (v : ℕ) → slice_get (set states w new) v ≡ Some state → v ≡ w → ⊥
  not_new v is same =
      let here = at_set_same states w new (slice_get_within states w old was) in
      let both : slice_get (set states w new) w ≡ Some state =
      ap (slice_get (set states w new)) (sym same) ∙ is in
      another (cc)

those_shrink : (state new : State) (states : List State) (vs : List ℕ) (w : ℕ)
    → AreThose state states vs → slice_get vs (length vs - 1) ≡ Some w → (new ≡ state → ⊥)
    → AreThose state (set states w new) (take (length vs - 1) vs)
those_shrink state new states vs w h last another = record {
  have = λ i v stands.
      let before = at_take (length vs - 1) vs i v stands in
      at_set_other states w v new (λ same. apart i v before.0 before.1 same)
      ∙ h.have i v before.1;
  stand = λ v is. elim (cases_eq v w) [
    | inl same ↦ absurd (not_new v is same)
    | inr differs ↦
        let before = h.stand v (sym (at_set_other states w v new differs) ∙ is) in
        (before.0, take_at (length vs - 1) vs before.0 v (earlier before.0 v before.1 differs) before.1)
  ];
  once = λ i j v first second. h.once i j v (at_take (length vs - 1) vs i v first).1
      (at_take (length vs - 1) vs j v second).1;
} where
  apart : (i v : ℕ) → i < length vs - 1 → slice_get vs i ≡ Some v → v ≡ w → ⊥
  apart i v below is same =
      let one = h.once i (length vs - 1) v is (last ∙ ap (λ x. Some x) (sym same)) in
      omega arith

  not_new : (v : ℕ) → slice_get (set states w new) v ≡ Some state → v ≡ w → ⊥
  not_new v is same =
      let here = at_set_same states w new (slice_get_within states w state (h.have (length vs - 1) w last)) in
      let both : slice_get (set states w new) w ≡ Some state =
      ap (slice_get (set states w new)) (sym same) ∙ is in
      another (cc)

  earlier : (i v : ℕ) → slice_get vs i ≡ Some v → (v ≡ w → ⊥) → i < length vs - 1
  earlier i v is differs =
      let within = slice_get_within vs i v is in
      elim (cases_eq i (length vs - 1)) [
        | inl end ↦
            let here : slice_get vs (length vs - 1) ≡ Some v = ap (slice_get vs) (sym end) ∙ is in
            absurd (differs (cc))
        | inr other ↦ omega arith
      ]

-- ---- what is passed over stays passed over, where no vertex is pending anew

passed_stay : (states : List State) (w : ℕ) (new : State) (u : ℕ)
    → (is_pending states w ≡ true) ⊎ (new ≡ Placed)
    → is_pending states u ≡ false → is_pending (set states w new) u ≡ false
passed_stay states w new u why is = elim (cases_eq u w) [
  | inr differs ↦ ap pending (at_set_other states w u new differs) ∙ is
  | inl same ↦ elim why [
    | inl was ↦ absurd (not_both was (ap (is_pending states) (sym same) ∙ is))
    | inr placed ↦ placed_here placed same
  ]
] where
  not_both : is_pending states w ≡ true → is_pending states w ≡ false → ⊥
  not_both a b = cc

  placed_here : new ≡ Placed → u ≡ w → is_pending (set states w new) u ≡ false
  placed_here placed same = elim (cases_lt u (length states)) [
    | inl below ↦
        let within : w < length states = omega arith in
        ap pending (ap (slice_get (set states w new)) same ∙ at_set_same states w new within
        ∙ ap (λ x. Some x) placed)
    | inr past ↦
        ap pending (slice_get_past (set states w new) u (omega (arith, length-set {A = State})))
  ]

-- ---- a vertex is entered

pub entered : (g : Graph) (states : List State) (cursors path order : List ℕ) (w : ℕ)
    → IsSearch g states cursors path order → slice_get states w ≡ Some Unseen → LeadsTo g path w
    → IsSearch g (set states w Open) cursors (path ++ w ∷ []) order
entered g states cursors path order w s fresh link = record {
  state_count = length-set states w Open ∙ s.state_count;
  cursor_count = s.cursor_count;
  on_path = those_grow Open Unseen states path w s.on_path fresh (λ is. cc);
  placed = those_stay Placed Unseen Open states order w s.placed fresh (λ is. cc) (λ is. cc);
  linked = linked;
  looked = λ v i u from to stands. passed_stay states w Open u (inl (ap pending fresh))
      (s.looked v i u from to stands);
  after = s.after;
} where
  linked : IsLinked g (path ++ w ∷ [])
  linked i v u first second = elim (at_push path w (suc i) u second) [
    | inl before ↦ elim (at_push path w i v first) [
      | inl before' ↦ s.linked i v u before' before
      | inr (place', same') ↦ absurd (omega (arith, slice_get_within path (suc i) u before))
    ]
    | inr (place, same) ↦ elim (at_push path w i v first) [
      | inl before' ↦ let P : ℕ → Type 0 = DependsOn g v in subst P (sym same) (link i v before' place)
      | inr (place', same') ↦ absurd (omega arith)
    ]
  ]

-- ---- the last vertex of the path is left

pub leaving : (g : Graph) (states : List State) (cursors path order : List ℕ) (w : ℕ)
    → IsSearch g states cursors path order → slice_get path (length path - 1) ≡ Some w
    → ((u : ℕ) → DependsOn g w u → slice_get states u ≡ Some Placed)
    → IsSearch g (set states w Placed) cursors (take (length path - 1) path) (order ++ w ∷ [])
leaving g states cursors path order w s last ready = record {
  state_count = length-set states w Placed ∙ s.state_count;
  cursor_count = s.cursor_count;
  on_path = those_shrink Open Placed states path w s.on_path last (λ is. cc);
  placed = those_grow Placed Open states order w s.placed (s.on_path.have (length path - 1) w last)
      (λ is. cc);
  linked = λ i v u first second. s.linked i v u (at_take (length path - 1) path i v first).1
      (at_take (length path - 1) path (suc i) u second).1;
  looked = λ v i u from to stands. passed_stay states w Placed u (inr refl) (s.looked v i u from to stands);
  after = after;
} where
  after : IsAfterAll g (order ++ w ∷ [])
  after i v u stands depends = elim (at_push order w i v stands) [
    | inl before ↦
        let j = s.after i v u before depends in
        (j.0, j.1, at_push_old order w j.0 u j.2)
    | inr (place, same) ↦
        let P : ℕ → Type 0 = λ x. DependsOn g x u in
        let j = s.placed.stand u (ready u (subst P same depends)) in
        (j.0, omega (arith, slice_get_within order j.0 u j.1), at_push_old order w j.0 u j.1)
  ]

-- ---- the beginning

none_of : (n : ℕ) (state : State) → (state ≡ Unseen → ⊥) → AreThose state (replicate n Unseen) []
none_of n state other = record {
  have = λ i v stands. cc;
  stand = λ v is. absurd (other (at_replicate n v Unseen state is));
  once = λ i j v first second. cc;
}

pub begun : (g : Graph) → IsSearch g (replicate (length g) Unseen) (replicate (length g) 0) [] []
begun g = record {
  state_count = length-replicate (length g) Unseen;
  cursor_count = length-replicate {A = ℕ} (length g) 0;
  on_path = none_of (length g) Open (λ is. cc);
  placed = none_of (length g) Placed (λ is. cc);
  linked = λ i v w first second. cc;
  looked = λ v i w from to stands. absurd (omega (arith, cursor v));
  after = λ i v w stands depends. cc;
} where
  cursor : (v : ℕ) → get_or (replicate {A = ℕ} (length g) 0) v 0 ≡ 0
  cursor v = elim (cases_lt v (length g)) [
    | inl below ↦ get_or-replicate (length g) v 0 0 below
    | inr past ↦ get_or_past (replicate {A = ℕ} (length g) 0) v 0
        (omega (arith, length-replicate {A = ℕ} (length g) 0))
  ]

pub begun_by : (g : Graph) (n : ℕ) (states : List State) (cursors path order : List ℕ) → n ≡ length g
    → states ≡ replicate n Unseen → cursors ≡ replicate n 0 → path ≡ [] → order ≡ []
    → IsSearch g states cursors path order
begun_by g n states cursors path order count fresh zeros none nothing =
    rw (fresh, zeros, none, nothing, count) (begun g)

-- ---- a cursor goes on

pub moved : (g : Graph) (states : List State) (cursors path order : List ℕ) (v at : ℕ)
    → IsSearch g states cursors path order → v < length g
    → ArePassed states (sources_of g v) (get_or cursors v 0) at
    → IsSearch g states (set cursors v at) path order
moved g states cursors path order v at s within passed = record {
  state_count = s.state_count;
  cursor_count = length-set cursors v at ∙ s.cursor_count;
  on_path = s.on_path;
  placed = s.placed;
  linked = s.linked;
  looked = λ u. elim (cases_eq u v) [
    | inl same ↦
        let P : ℕ → Type 0 = λ x. ArePassed states (sources_of g x) 0 (get_or (set cursors v at) x 0) in
        subst P (sym same) here
    | inr differs ↦
        let P : ℕ → Type 0 = λ k. ArePassed states (sources_of g u) 0 k in
        subst P (sym (get_or-set_other cursors v u at 0 differs)) (s.looked u)
  ];
  after = s.after;
} where
  here : ArePassed states (sources_of g v) 0 (get_or (set cursors v at) v 0)
  here i w from to stands =
      let now : get_or (set cursors v at) v 0 ≡ at = get_or-set_same cursors v at 0
      (omega (arith, s.cursor_count)) in
      elim (cases_lt i (get_or cursors v 0)) [
        | inl before ↦ s.looked v i w from before stands
        | inr later ↦ passed i w later (omega arith) stands
      ]

-- what is pending is a vertex, and what is a vertex and not pending is placed
pub pending_within : (states : List State) (w : ℕ) → is_pending states w ≡ true → w < length states
pending_within states w is = elim (cases_lt w (length states)) [
  | inl below ↦ below
  | inr past ↦ let none : is_pending states w ≡ false = ap pending (slice_get_past states w past) in cc
]

pub pending_is : (states : List State) (w : ℕ) → is_pending states w ≡ true
    → (slice_get states w ≡ Some Unseen) ⊎ (slice_get states w ≡ Some Open)
pending_is states w is = by (slice_get states w) refl where
  by : (o : Option State) → slice_get states w ≡ o
      → (slice_get states w ≡ Some Unseen) ⊎ (slice_get states w ≡ Some Open)
  by None here = let no : is_pending states w ≡ false = ap pending here in cc
  by (Some Unseen) here = inl here
  by (Some Open) here = inr here
  by (Some Placed) here = let no : is_pending states w ≡ false = ap pending here in cc

pub passed_is : (states : List State) (w : ℕ) → w < length states → is_pending states w ≡ false
    → slice_get states w ≡ Some Placed
passed_is states w within is = by (slice_get states w) refl where
  by : (o : Option State) → slice_get states w ≡ o → slice_get states w ≡ Some Placed
  by None here = let some = slice_get-get_or states w Placed within in cc
  by (Some Unseen) here = let no : is_pending states w ≡ true = ap pending here in cc
  by (Some Open) here = let no : is_pending states w ≡ true = ap pending here in cc
  by (Some Placed) here = here

-- the cursor is at the end: all that the vertex depends on is placed
pub all_placed : (g : Graph) (states : List State) (cursors path order : List ℕ) (v at : ℕ)
    → IsSearch g states (set cursors v at) path order → v < length g → length cursors ≡ length g
    → slice_get (sources_of g v) at ≡ None
    → (w : ℕ) → DependsOn g v w → slice_get states w ≡ Some Placed
all_placed g states cursors path order v at s within count none w depends =
    let i = contains_at (sources_of g v) w depends.source in
    let now : get_or (set cursors v at) v 0 ≡ at = get_or-set_same cursors v at 0 (omega arith) in
    let below = slice_get_within (sources_of g v) i.0 w i.1 in
    let most : length (sources_of g v) ≤ at = past_of (sources_of g v) at none in
    passed_is states w (omega (arith, s.state_count, depends.vertex))
    (s.looked v i.0 w (omega arith) (omega arith) i.1) where
      past_of : (xs : List ℕ) (k : ℕ) → slice_get xs k ≡ None → length xs ≤ k
      past_of xs k is = elim (cases_lt k (length xs)) [
        | inl below ↦ let some = slice_get-get_or xs k 0 below in cc
        | inr past ↦ past
      ]

-- ---- what is met stays met, and less is left to be done

pub seen_stay : (states : List State) (w : ℕ) (old new : State) → slice_get states w ≡ Some old
    → (new ≡ Unseen → ⊥) → StaysSeen states (set states w new)
seen_stay states w old new was other v (state, is, seen) = elim (cases_eq v w) [
  | inl same ↦ (
    new,
    ap (slice_get (set states w new)) same ∙ at_set_same states w new (slice_get_within states w old was),
    other,
  )
  | inr differs ↦ (state, at_set_other states w v new differs ∙ is, seen)
]

counted : (states : List State) (w : ℕ) (old new : State) → slice_get states w ≡ Some old
    → count_by is_unseen (set states w new) + cond (is_unseen old) 1 0
    ≡ count_by is_unseen states + cond (is_unseen new) 1 0
counted states w old new was =
    let sum = sum_by-set (λ (x : State). cond (is_unseen x) 1 0) states w new old
    (slice_get_within states w old was) in
    let here : get_or states w old ≡ old = get_or_from_slice_get states w old old was in
    rw here at sum

pub less_entered : (states : List State) (path : List ℕ) (w : ℕ) → slice_get states w ≡ Some Unseen
    → left (set states w Open) (path ++ w ∷ []) < left states path
less_entered states path w was = omega (arith, counted states w Unseen Open was, length_push path w)

pub less_left : (states : List State) (path : List ℕ) (w : ℕ) → slice_get states w ≡ Some Open
    → 0 < length path → left (set states w Placed) (take (length path - 1) path) < left states path
less_left states path w was some = omega (
  arith,
  counted states w Open Placed was,
  length-take (length path - 1) path,
)

-- ---- the end

-- all vertices are met and the path is empty: the order is one of the graph
pub ended : (g : Graph) (states : List State) (cursors path order : List ℕ)
    → IsSearch g states cursors path order → path ≡ []
    → ((v : ℕ) → v < length g → IsSeen states v) → IsOrder g order
ended g states cursors path order s none all = record {
  every = λ v below. every v (all v below);
  only = λ v stands.
      let i = contains_at order v stands in
      omega (arith, s.state_count, slice_get_within states v Placed (s.placed.have i.0 v i.1));
  once = s.placed.once;
  after = s.after;
} where
  every : (v : ℕ) → IsSeen states v → Contains order v
  every v (Unseen, is, seen) = absurd (seen refl)
  every v (Open, is, seen) =
      let i = s.on_path.stand v is in
      let empty : slice_get path i.0 ≡ None = ap (λ (xs : List ℕ). slice_get xs i.0) none in
      cc
  every v (Placed, is, seen) = let i = s.placed.stand v is in at_contains order i.0 v i.1

-- ---- loops

walk_of : (g : Graph) (v : ℕ) (vs : List ℕ) (w : ℕ) → IsLinked g (v ∷ vs) → LeadsTo g (v ∷ vs) w
    → IsWalk g v vs w
walk_of g v [] w linked leads = leads 0 v refl refl
walk_of g v (u ∷ vs) w linked leads = (
  linked 0 v u refl refl,
  walk_of g u vs w (λ i. linked (suc i)) (λ i x stands end. leads (suc i) x stands (ap suc end)),
)

-- the path from a vertex of it on is a loop, where its last vertex depends on this one
pub closes : (g : Graph) (path : List ℕ) (i w : ℕ) → slice_get path i ≡ Some w → IsLinked g path
    → LeadsTo g path w → HasNoRepeat path → IsLoop g (drop i path)
closes g [] i w stands linked leads once = cc
closes g (v ∷ vs) zero w stands linked leads once =
    let same : v ≡ w = cc in
    (subst (IsWalk g v vs) (sym same) (walk_of g v vs w linked leads), once)
closes g (v ∷ vs) (suc i) w stands linked leads once = closes g vs i w stands (λ j. linked (suc j))
    (λ j x here end. leads (suc j) x here (ap suc end))
    (λ j k x first second. let one = once (suc j) (suc k) x first second in omega arith)

-- the last vertex of the path leads to what it depends on
pub leads_last : (g : Graph) (path : List ℕ) (v w : ℕ) → slice_get path (length path - 1) ≡ Some v
    → DependsOn g v w → LeadsTo g path w
leads_last g path v w last depends i u stands end =
    let place : i ≡ length path - 1 = omega arith in
    let here : slice_get path (length path - 1) ≡ Some u = ap (slice_get path) (sym place) ∙ stands in
    let P : ℕ → Type 0 = λ x. DependsOn g x w in
    subst P (cc) depends

pub leads_nowhere : (g : Graph) (path : List ℕ) (w : ℕ) → path ≡ [] → LeadsTo g path w
leads_nowhere g path w none i v stands end =
    let empty : slice_get path i ≡ None = ap (λ (xs : List ℕ). slice_get xs i) none in
    cc

pub loop_from : (g : Graph) (states : List State) (cursors path order : List ℕ) (w : ℕ) (part : List ℕ)
    → IsSearch g states cursors path order → LeadsTo g path w → IsPartFrom path w part → IsLoop g part
loop_from g states cursors path order w part s leads is = rw is.rest
    (closes g path is.place w is.found s.linked leads s.on_path.once)
