-- Periods by W and D: the theorem of Leiserson and Saxe ("Retiming synchronous circuitry", Algorithmica 6, 1991).
use Rattle.std.proofs.Common.{◌≡◌, ◌⊎◌, ℕ, zero, suc, ◌+◌, ◌*◌, ◌<◌, ◌≤◌, false, List, [], ◌∷◌, length, get_or, refl, sym, ap, ◌∙◌, inl, inr, arith}
use Rattle.std.specs.Prelude.{ℤ, pos, negsuc, ◌+ℤ◌, ◌-ℤ◌, ◌≤ℤ◌, ◌↔◌, option_map, Option, Some, None, slice_get, unsigned_abs}
use Rattle.std.specs.List.{sum_by}
use Rattle.std.proofs.lemmas.Bool.{cases_lt}
use Rattle.std.proofs.lemmas.Int.{ints}
use Rattle.std.proofs.lemmas.List.Sums.{sum_by-cons}
use Rattle.cs_base.specs.declared.contexts.Mode.{Mode}
use Rattle.cs_graph.specs.declared.edge.Edge.{Edge}
use Rattle.cs_graph.specs.declared.contents.Contents.{Contents}
use Rattle.cs_graph.specs.declared.delays.Delays.{Delays}
use Rattle.cs_graph.specs.declared.graph.Graph.{Graph}
use Rattle.cs_graph.specs.Invariant.{IsWellFormed, HasOrder}
use Rattle.cs_graph.specs.Lags.{lag_at, IsLegal, retimed_edge, retimed}
use Rattle.cs_graph.specs.Period.{vertex_delay, edge_delay, edges_delay, path_delay, IsPath, path_weight, edge_weight_under, path_weight_under, HasNoRegister, IsPeriodWithin, IsPeriod, IsLeastWeight, IsPathDelay, MeetsBound}
use Rattle.cs_graph.proofs.LagLemmas.{reach_of}
use Rattle.cs_graph.proofs.PathWeights.{path_registers}
use Rattle.cs_graph.proofs.Shifted.{edge_of, retimed_whole}
use Rattle.cs_graph.proofs.StartsAndPasts.{contents_of, contents_right}

-- ---- sums that are not below 0

sum_not_below : (x y : ℤ) → pos 0 ≤ℤ x → pos 0 ≤ℤ y → pos 0 ≤ℤ (x +ℤ y)
sum_not_below x y h k = omega (arith, ints)

first_none : (x y : ℤ) → pos 0 ≤ℤ x → pos 0 ≤ℤ y → x +ℤ y ≡ pos 0 → x ≡ pos 0
first_none x y h k none = omega (arith, ints)

second_none : (x y : ℤ) → pos 0 ≤ℤ x → pos 0 ≤ℤ y → x +ℤ y ≡ pos 0 → y ≡ pos 0
second_none x y h k none = omega (arith, ints)

sum_none : (x y : ℤ) → x ≡ pos 0 → y ≡ pos 0 → x +ℤ y ≡ pos 0
sum_none x y h k = omega (arith, ints)

zero_not_below : pos 0 ≤ℤ pos 0
zero_not_below = omega (arith, ints)

none_or_some : (z : ℤ) → pos 0 ≤ℤ z → (z ≡ pos 0) ⊎ (pos 1 ≤ℤ z)
none_or_some (pos zero) h = inl refl
none_or_some (pos (suc n)) h = inr (omega (arith, ints))
none_or_some (negsuc n) h = absurd (omega (arith, ints))

-- weights of two paths with the same ends, of which the first has none under lags
no_less : (w w' : ℕ) (a b x y : ℤ) → x ≡ pos w +ℤ b -ℤ a → x ≡ pos 0 → y ≡ pos w' +ℤ b -ℤ a → pos 0 ≤ℤ y → w ≤ w'
no_less w w' a b x y is none other above = omega (arith, ints)

same_none : (w w' : ℕ) (a b x y : ℤ) → x ≡ pos w +ℤ b -ℤ a → x ≡ pos 0 → y ≡ pos w' +ℤ b -ℤ a → w' ≡ w → y ≡ pos 0
same_none w w' a b x y is none other same = omega (arith, ints)

one_less : (w w' : ℕ) (a b x : ℤ) → x ≡ pos w' +ℤ b -ℤ a → w' ≡ w → pos 1 ≤ℤ x → (a -ℤ b) ≤ℤ (pos w -ℤ pos 1)
one_less w w' a b x is same some = omega (arith, ints)

not_one_less : (w : ℕ) (a b x : ℤ) → x ≡ pos w +ℤ b -ℤ a → x ≡ pos 0 → (a -ℤ b) ≤ℤ (pos w -ℤ pos 1) → ⊥
not_one_less w a b x is none less = omega (arith, ints)

-- ---- delays are bounded

all_of : List ℕ → ℕ
all_of xs = sum_by (λ n. n) xs

get_few : (xs : List ℕ) (i : ℕ) → get_or xs i 0 ≤ all_of xs
unfolding all_of
get_few [] i = omega arith
get_few (x ∷ xs) zero = let all = sum_by-cons (λ n. n) x xs in omega (arith, all)
get_few (x ∷ xs) (suc i) = let rest = get_few xs i in let all = sum_by-cons (λ n. n) x xs in omega (
  arith,
  rest,
  all,
)

list_few : (xss : List (List ℕ)) (v : ℕ) → all_of (get_or xss v []) ≤ sum_by all_of xss
unfolding all_of
list_few [] v = omega arith
list_few (xs ∷ xss) zero = let all = sum_by-cons all_of xs xss in omega (arith, all)
list_few (xs ∷ xss) (suc v) = let rest = list_few xss v in let all = sum_by-cons all_of xs xss in omega (
  arith,
  rest,
  all,
)

-- no pin's delay is above this
total : Delays → ℕ
total delays = sum_by all_of delays.per_pin

edge_few : (delays : Delays) (o : Option Edge) → edge_delay delays o ≤ total delays
unfolding total
edge_few delays None = omega arith
edge_few delays (Some d) =
    let pin = get_few (get_or delays.per_pin d.to []) d.pin in
    let list = list_few delays.per_pin d.to in
    omega (arith, pin, list)

edges_few : (g : Graph) (delays : Delays) (es : List ℕ) → edges_delay g delays es ≤ length es * total delays
edges_few g delays [] = omega arith
edges_few g delays (e ∷ es) =
    let here = edge_few delays (slice_get g.edges e) in
    let rest = edges_few g delays es in
    omega (arith, here, rest)

module _ (g : Graph) (whole : IsWellFormed g) (mode : Mode) (lags : List ℤ) (legal : IsLegal g mode lags) where
  -- ---- a path without a register has just the weight W of its ends

  edge_not_below : (e : ℕ) (o : Option Edge) → slice_get g.edges e ≡ o → pos 0 ≤ℤ (edge_weight_under lags o)
  edge_not_below e None found = zero_not_below
  edge_not_below e (Some d) found = legal.weights e d found

  path_not_below : (es : List ℕ) → pos 0 ≤ℤ (path_weight_under g lags es)
  path_not_below [] = zero_not_below
  path_not_below (e ∷ es) = sum_not_below (edge_weight_under lags (slice_get g.edges e)) (path_weight_under g lags es)
      (edge_not_below e (slice_get g.edges e) refl) (path_not_below es)

  free_of : (es : List ℕ) → path_weight_under g lags es ≡ pos 0 → HasNoRegister g lags es
  free_of [] none = tt
  free_of (e ∷ es) none =
      let x = edge_weight_under lags (slice_get g.edges e) in
      let y = path_weight_under g lags es in
      let here = edge_not_below e (slice_get g.edges e) refl in
      let rest = path_not_below es in (
        λ d found. sym (ap (edge_weight_under lags) found) ∙ first_none x y here rest none,
        free_of es (second_none x y here rest none),
      )

  none_of : (u v : ℕ) (es : List ℕ) → IsPath g u es v → HasNoRegister g lags es → path_weight_under g lags es ≡ pos 0
  none_of u v [] leads free = refl
  none_of u v (e ∷ es) (d, found, from, rest) (first, others) = sum_none (edge_weight_under lags (slice_get g.edges
      e)) (path_weight_under g lags es) (ap (edge_weight_under lags) found ∙ first d found) (none_of d.to v es rest
      others)

  module _ (u v : ℕ) (es : List ℕ) (leads : IsPath g u es v) (free : HasNoRegister g lags es) where
    pub least_weight : IsLeastWeight g u v (path_weight g es)
    least_weight = record {
      path = es;
      leads = leads;
      is = refl;
      least = λ fs there. no_less (path_weight g es) (path_weight g fs) (lag_at lags u) (lag_at lags v)
          (path_weight_under g lags es) (path_weight_under g lags fs) (path_registers g lags u v es leads) (none_of u v
          es leads free) (path_registers g lags u v fs there) (path_not_below fs);
    }

    pub as_free : (fs : List ℕ) → IsPath g u fs v → path_weight g fs ≡ path_weight g es → HasNoRegister g lags fs
    as_free fs there same = free_of fs (same_none (path_weight g es) (path_weight g fs) (lag_at lags u) (lag_at lags
        v) (path_weight_under g lags es) (path_weight_under g lags fs) (path_registers g lags u v es leads) (none_of u
        v es leads free) (path_registers g lags u v fs there) same)

  -- ---- a period is D of some vertices

  pub period_delay : (delays : Delays) (period : ℕ) → 0 < length g.vertices → IsPeriod g delays lags period
      → IsPathDelay g delays period
  period_delay delays period some is = elim is.reached [
    | inl (none, nothing) ↦ absurd (omega (arith, none, some))
    | inr path ↦ record {
      first = path.first;
      last = path.last;
      weight = path_weight g path.edges;
      among = path.among;
      pair = record {
        least_weight = least_weight path.first path.last path.edges path.leads path.no_register;
        greatest_delay = record {
          path = path.edges;
          leads = path.leads;
          weighs = refl;
          is = path.is;
          greatest = λ fs there same. is.within path.first path.last fs path.among there (as_free path.first path.last
              path.edges path.leads path.no_register fs there same);
        };
      };
    }
  ]

  -- ---- within a bound, a slow path has a register more than its lags take

  pub within_meets : (delays : Delays) (bound : ℕ) → IsPeriodWithin g delays lags bound
      → MeetsBound g delays lags bound
  within_meets delays bound within u v weight delay among pair slow =
      let slowest = pair.greatest_delay in
      let registers = path_registers g lags u v slowest.path slowest.leads in
      elim (none_or_some (path_weight_under g lags slowest.path) (path_not_below slowest.path)) [
        | inl none ↦
            let fast = within u v slowest.path among slowest.leads (free_of slowest.path none) in
            let same = slowest.is in
            absurd (omega (arith, fast, same, slow))
        | inr some ↦ one_less weight (path_weight g slowest.path) (lag_at lags u) (lag_at lags v) (path_weight_under
            g lags slowest.path) registers slowest.weighs some
      ]

  -- ---- and where each slow path has one, none is without

  -- contents of the right lengths, whatever they are
  any_contents : Contents
  any_contents = contents_of g whole mode lags legal (record { values = λ v i. false; contents = λ e i. false })

  some_order : HasOrder (retimed lags any_contents g)
  unfolding any_contents
  some_order =
      let reach = reach_of lags in
      let right = contents_right g whole mode lags legal (record { values = λ v i. false; contents = λ e i. false })
      in (retimed_whole g whole mode lags legal reach.0 reach.1 any_contents right.lengths.each).order

  free_rises : (u v : ℕ) (es : List ℕ) → IsPath g u es v → HasNoRegister g lags es
      → some_order.place u + length es ≤ some_order.place v
  free_rises u v [] leads free = let same = ap some_order.place leads in omega (arith, same)
  free_rises u v (e ∷ es) (d, found, from, rest) (first, others) =
      let less = some_order.below e (retimed_edge lags any_contents (e, d)) (edge_of lags any_contents g e ∙ ap
      (option_map (λ x. retimed_edge lags any_contents (e, x))) found) (ap unsigned_abs (first d found)) in
      let more = free_rises d.to v es rest others in
      let here = ap some_order.place from in
      omega (arith, less, more, here)

  short_few : (n m t : ℕ) → n ≤ m → n * t ≤ m * t
  short_few n m t h = grind arith

  free_few : (delays : Delays) (u v : ℕ) (es : List ℕ) → IsPath g u es v → HasNoRegister g lags es
      → path_delay g delays u es ≤ vertex_delay delays u + some_order.span * total delays
  free_few delays u v es leads free =
      let rises = free_rises u v es leads free in
      let inside = some_order.within v in
      let few = edges_few g delays es in
      let short : length es ≤ some_order.span = omega (arith, rises, inside) in
      let most = short_few (length es) some_order.span (total delays) short in
      omega (arith, few, most)

  module _ (delays : Delays) (bound : ℕ) (meets : MeetsBound g delays lags bound) (u v : ℕ) (among : u < length
      g.vertices) (es : List ℕ) (leads : IsPath g u es v) (free : HasNoRegister g lags es) where
    most : ℕ
    most = vertex_delay delays u + some_order.span * total delays

    -- a path of this weight that no other is slower than is not slow
    refuted : (fs : List ℕ) → IsPath g u fs v → path_weight g fs ≡ path_weight g es
        → bound < path_delay g delays u fs → ((hs : List ℕ) → IsPath g u hs v
        → path_weight g hs ≡ path_weight g es → path_delay g delays u hs ≤ path_delay g delays u fs) → ⊥
    refuted fs there same slow greatest = not_one_less (path_weight g es) (lag_at lags u) (lag_at lags v)
        (path_weight_under g lags es) (path_registers g lags u v es leads) (none_of u v es leads free) (meets u v
        (path_weight g es) (path_delay g delays u fs) among (record {
          least_weight = least_weight u v es leads free;
          greatest_delay = record { path = fs; leads = there; weighs = same; is = refl; greatest = greatest };
        }) slow)

    -- and so none is: a slower one would be slower still, up to the most
    none_slow : (k : ℕ) (fs : List ℕ) → IsPath g u fs v → path_weight g fs ≡ path_weight g es
        → bound < path_delay g delays u fs → most ≤ path_delay g delays u fs + k → ⊥
    unfolding most
    none_slow zero fs there same slow near = refuted fs there same slow (λ hs to alike.
        let few = free_few delays u v hs to (as_free u v es leads free hs to alike) in
        omega (arith, few, near))
    none_slow (suc k) fs there same slow near = refuted fs there same slow (λ hs to alike. elim (cases_lt (path_delay
        g delays u fs) (path_delay g delays u hs)) [
          | inl more ↦ absurd (none_slow k hs to alike (omega (arith, slow, more)) (omega (arith, near, more)))
          | inr less ↦ less
        ])

    pub path_fast : path_delay g delays u es ≤ bound
    path_fast = elim (cases_lt bound (path_delay g delays u es)) [
      | inl slow ↦ absurd (none_slow most es leads refl slow (omega arith))
      | inr fast ↦ fast
    ]

  pub meets_within : (delays : Delays) (bound : ℕ) → MeetsBound g delays lags bound
      → IsPeriodWithin g delays lags bound
  meets_within delays bound meets u v es among leads free = path_fast delays bound meets u v among es leads free

  pub within_exactly : (delays : Delays) (bound : ℕ)
      → IsPeriodWithin g delays lags bound ↔ MeetsBound g delays lags bound
  within_exactly delays bound = (within_meets delays bound, meets_within delays bound)

  -- ---- a period within a bound is at most the bound

  period_within : (delays : Delays) (period bound : ℕ) → IsPeriod g delays lags period → period ≤ bound
      → IsPeriodWithin g delays lags bound
  period_within delays period bound is few u v es among leads free =
      let fast = is.within u v es among leads free in omega (arith, fast, few)

  within_period : (delays : Delays) (period bound : ℕ) → IsPeriod g delays lags period
      → IsPeriodWithin g delays lags bound → period ≤ bound
  within_period delays period bound is within = elim is.reached [
    | inl (none, nothing) ↦ omega (arith, nothing)
    | inr path ↦
        let fast = within path.first path.last path.edges path.among path.leads path.no_register in
        let same = path.is in
        omega (arith, fast, same)
  ]

  pub period_exactly : (delays : Delays) (period bound : ℕ) → IsPeriod g delays lags period
      → (period ≤ bound) ↔ MeetsBound g delays lags bound
  period_exactly delays period bound is = (
    λ few. within_meets delays bound (period_within delays period bound is few),
    λ meets. within_period delays period bound is (meets_within delays bound meets),
  )
