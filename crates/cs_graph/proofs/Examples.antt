-- The definitions on small machines: an exclusive or behind a register, a loop of inverters, and two moves back.
use Rattle.std.proofs.Common.{◌≡◌, ℕ, zero, suc, ◌+◌, ◌-◌, ◌*◌, ◌<◌, ◌≤◌, Bool, true, false, List, [], ◌∷◌, length, get_or, map, refl, sym, ap, subst, ◌∙◌, arith}
use Rattle.std.specs.Prelude.{ℤ, pos, Some, slice_get, not}
use Rattle.std.proofs.lemmas.Option.{none-some, same_Some}
use Rattle.cs_cells.specs.declared.gate.Kind.{Kind}
use Rattle.cs_cells.specs.declared.gate.Kind.TheVariants.{Not, And, Xor}
use Rattle.cs_cells.specs.Gates.{gate_value, equation}
use Rattle.cs_graph.specs.declared.vertex.VertexKind.{VertexKind}
use Rattle.cs_graph.specs.declared.vertex.VertexKind.TheVariants.{Host, Input, Output, Constant, Gate, Read, Write}
use Rattle.cs_graph.specs.declared.vertex.Feed.{Feed}
use Rattle.cs_graph.specs.declared.vertex.Feed.TheVariants.{Edge as Along}
use Rattle.cs_graph.specs.declared.vertex.Vertex.{Vertex}
use Rattle.cs_graph.specs.declared.edge.Edge.{Edge}
use Rattle.cs_graph.specs.declared.delays.Delays.{Delays}
use Rattle.cs_graph.specs.declared.graph.Graph.{Graph}
use Rattle.cs_graph.specs.Lags.{lag_at}
use Rattle.cs_graph.specs.DelayBounds.{AreVertexDelays, ArePinDelays}
use Rattle.cs_graph.specs.Past.{Past, lead, past_seen, IsPast, HasPast}
use Rattle.cs_graph.specs.Period.{pin_delay, edge_delay, edges_delay, path_delay, IsPath, edge_weight, path_weight, IsPathPair}
use Rattle.cs_graph.specs.Run.{Row, Outs, row_of, seen, value_at, outputs_at, RunsWith}
use Rattle.cs_graph.specs.Slow.{slow_edge, slow}

-- what holds of each place of a list, place by place
abbrev Each : {A : Type 0} (P : ℕ → A → Type 0) → List A → Type 0
Each P [] = Unit {0}
Each P (x ∷ xs) = P 0 x × Each (λ i y. P (suc i) y) xs

each_place : {A : Type 0} (P : ℕ → A → Type 0) (xs : List A) → Each P xs → (i : ℕ) (x : A) → slice_get xs i ≡ Some x
    → P i x
each_place P [] all i x found = absurd (none-some x found)
each_place P (y ∷ xs) (here, rest) zero x found = subst (P 0) (same_Some y x found) here
each_place P (y ∷ xs) (here, rest) (suc i) x found = each_place (λ i y. P (suc i) y) xs rest i x found

abbrev vertex : VertexKind → List Feed → Vertex
vertex kind pins = record { kind = kind; pins = pins }

-- an edge from output 0 of a vertex to a pin of a vertex
abbrev edge : ℕ → ℕ → ℕ → List Bool → Edge
edge from to pin contents = record {
  from = from;
  output = 0;
  to = to;
  pin = pin;
  weight = length contents;
  contents = contents;
}

-- ---- the first clocks of an exclusive or that reads an input, and itself through a register

-- input 1, output 2, exclusive or 3
abbrev toggle : Graph
toggle = record {
  vertices = vertex Host [] ∷ vertex Input [] ∷ vertex Output (Along 0 ∷ []) ∷ vertex (Gate Xor) (Along 1 ∷ Along 2 ∷ [])
      ∷ [];
  edges = edge 3 2 0 (false ∷ []) ∷ edge 3 3 0 (false ∷ []) ∷ edge 1 3 1 [] ∷ [];
  memories = [];
}

-- 1 at every other clock
is_even : ℕ → Bool
is_even zero = true
is_even (suc n) = not (is_even n)

-- the input is 1, and so the exclusive or is 1 and 0 in turn
toggle_value : ℕ → Outs
toggle_value n zero o = false
toggle_value n (suc zero) o = true
toggle_value n (suc (suc zero)) o = false
toggle_value n (suc (suc (suc zero))) o = is_even n
toggle_value n (suc (suc (suc (suc v)))) o = false

abbrev bit : Bool → Row
bit b = b ∷ []

toggle_settles : (n v o : ℕ) → n < 3 → toggle_value n v o ≡ value_at toggle (bit true) (λ i. []) (seen toggle
    toggle_value n) v o
unfolding toggle_value is_even equation
toggle_settles n zero o h = refl
toggle_settles n (suc zero) o h = refl
toggle_settles n (suc (suc zero)) o h = refl
toggle_settles zero (suc (suc (suc zero))) o h = refl
toggle_settles (suc zero) (suc (suc (suc zero))) o h = refl
toggle_settles (suc (suc zero)) (suc (suc (suc zero))) o h = refl
toggle_settles (suc (suc (suc n))) (suc (suc (suc zero))) o h = absurd (omega (arith, h))
toggle_settles n (suc (suc (suc (suc v)))) o h = refl

abbrev ones : List Row
ones = bit true ∷ bit true ∷ bit true ∷ []

abbrev toggled : List Row
toggled = bit false ∷ bit true ∷ bit false ∷ []

toggle_runs : (n : ℕ) → n < 3 → (v o : ℕ) → toggle_value n v o ≡ value_at toggle (row_of ones n) (λ i. []) (seen toggle
    toggle_value n) v o
toggle_runs zero h v o = toggle_settles 0 v o h
toggle_runs (suc zero) h v o = toggle_settles 1 v o h
toggle_runs (suc (suc zero)) h v o = toggle_settles 2 v o h
toggle_runs (suc (suc (suc n))) h v o = absurd (omega (arith, h))

toggle_shows : (n : ℕ) → n < 3 → row_of toggled n ≡ outputs_at toggle (seen toggle toggle_value n)
unfolding toggle_value is_even
toggle_shows zero h = refl
toggle_shows (suc zero) h = refl
toggle_shows (suc (suc zero)) h = refl
toggle_shows (suc (suc (suc n))) h = absurd (omega (arith, h))

-- three ones are answered by 0, 1, 0
toggle_answers : RunsWith false toggle ones toggled
toggle_answers = record {
  value = toggle_value;
  words = λ n i. [];
  run = record { begins = λ i. refl; settles = toggle_runs; goes_on = λ n h i. refl };
  shows = record { count = refl; each = toggle_shows };
}

-- ---- W and D of a loop of two inverters, 3 and 4, and an exclusive or 5, with delay 2 each

-- input 1, output 2
abbrev inverter_loop : Graph
inverter_loop = record {
  vertices = vertex Host [] ∷ vertex Input [] ∷ vertex Output (Along 0 ∷ []) ∷ vertex (Gate Not) (Along 1 ∷ [])
      ∷ vertex (Gate Not) (Along 2 ∷ []) ∷ vertex (Gate Xor) (Along 3 ∷ Along 4 ∷ []) ∷ [];
  edges = edge 4 2 0 (false ∷ []) ∷ edge 5 3 0 [] ∷ edge 3 4 0 [] ∷ edge 1 5 0 (false ∷ []) ∷ edge 4 5 1 (false ∷ [])
      ∷ [];
  memories = [];
}

pins_at_most : (most : ℕ) (ds : List ℕ) → Each (λ i p. p ≤ most) ds → (i d p : ℕ) → Some most ≡ Some d
    → slice_get ds i ≡ Some p → p ≤ d
pins_at_most most ds all i d p is at = subst (λ n. p ≤ n) (same_Some most d is) (each_place (λ i p. p ≤ most) ds all i p
    at)

abbrev delays_of_vertices : List ℕ
delays_of_vertices = 0 ∷ 0 ∷ 0 ∷ 2 ∷ 2 ∷ 2 ∷ []

abbrev delays_of_pins : List (List ℕ)
delays_of_pins = [] ∷ [] ∷ (0 ∷ []) ∷ (2 ∷ []) ∷ (2 ∷ []) ∷ (2 ∷ 2 ∷ []) ∷ []

small : AreVertexDelays delays_of_vertices
small = each_place (λ v d. d ≤ 1000000) delays_of_vertices (omega arith, (omega arith, (omega arith, (omega arith, (omega arith, (omega arith, tt))))))

small_pins : ArePinDelays delays_of_vertices delays_of_pins
small_pins v i d p ds is there at = each_place (λ v ds. (i d p : ℕ) → slice_get delays_of_vertices v ≡ Some d
    → slice_get ds i ≡ Some p → p ≤ d) delays_of_pins (pins_at_most 0 [] tt, (pins_at_most 0 [] tt, (pins_at_most 0 (0 ∷ []) (omega arith, tt), (pins_at_most 2 (2 ∷ []) (omega arith, tt), (pins_at_most 2 (2 ∷ []) (omega arith, tt), (pins_at_most 2 (2 ∷ 2 ∷ []) (omega arith, (omega arith, tt)), tt)))))) v ds there i d p is at

abbrev two_each : Delays
two_each = record {
  per_vertex = delays_of_vertices;
  per_pin = delays_of_pins;
  lists = refl;
  vertices = small;
  pins = small_pins;
}

module _ (c k : ℕ) (six : c * k ≡ 6) where
  abbrev loop : Graph
  loop = slow c inverter_loop

  -- heights that no edge climbs by more than its registers
  abbrev height : ℕ → ℕ
  height v = get_or (0 ∷ 0 ∷ c ∷ c ∷ 0 ∷ c ∷ []) v 0

  climbs : (e : ℕ) (d : Edge) → slice_get loop.edges e ≡ Some d → height d.to ≤ d.weight + height d.from
  climbs = each_place (λ e d. height d.to ≤ d.weight + height d.from) loop.edges (omega arith, (omega arith, (omega arith, (omega arith, (omega arith, tt)))))

  path_climbs : (u v : ℕ) (es : List ℕ) → IsPath loop u es v → height v ≤ path_weight loop es + height u
  path_climbs u v [] leads = let same = ap height leads in omega (arith, same)
  path_climbs u v (e ∷ es) (d, found, from, rest) =
      let one = climbs e d found in
      let others = path_climbs d.to v es rest in
      let first = ap edge_weight found in
      let here = ap height from in
      omega (arith, one, others, first, here)

  -- times that no edge lasts beyond k for each register
  abbrev time : ℕ → ℕ
  time v = get_or (0 ∷ 0 ∷ 6 ∷ 2 ∷ 0 ∷ 4 ∷ []) v 0

  lasts : (e : ℕ) (d : Edge) → slice_get loop.edges e ≡ Some d
      → pin_delay two_each d.to d.pin + time d.to ≤ d.weight * k + time d.from
  lasts = each_place (λ e d. pin_delay two_each d.to d.pin + time d.to ≤ d.weight * k + time d.from) loop.edges (omega (arith, six), (omega arith, (omega arith, (omega (arith, six), (omega (arith, six), tt)))))

  path_lasts : (u v : ℕ) (es : List ℕ) → IsPath loop u es v
      → edges_delay loop two_each es + time v ≤ path_weight loop es * k + time u
  path_lasts u v [] leads = let same = ap time leads in omega (arith, same)
  path_lasts u v (e ∷ es) (d, found, from, rest) =
      let one = lasts e d found in
      let others = path_lasts d.to v es rest in
      let first = ap edge_weight found in
      let delay = ap (edge_delay two_each) found in
      let here = ap time from in
      let sum : (edge_weight (slice_get loop.edges e) + path_weight loop es) * k ≡ d.weight * k + path_weight loop es *
      k = ap (λ w. (w + path_weight loop es) * k) first ∙ omega arith in
      omega (arith, one, others, delay, here, sum)

  -- a path that needs the registers that it climbs, and lasts as long as it may, is W and D
  pair_of : (u v : ℕ) (es : List ℕ) → IsPath loop u es v → path_weight loop es ≤ height v - height u
      → edges_delay loop two_each es + time v ≡ path_weight loop es * k + time u
      → IsPathPair loop two_each u v (path_weight loop es) (path_delay loop two_each u es)
  pair_of u v es leads high long = record {
    least_weight = record {
      path = es;
      leads = leads;
      is = refl;
      least = λ fs there. let climbs = path_climbs u v fs there in omega (arith, climbs, high);
    };
    greatest_delay = record {
      path = es;
      leads = leads;
      weighs = refl;
      is = refl;
      greatest = λ fs there same.
          let lasts = path_lasts u v fs there in
          let few = ap (λ w. w * k) same in
          omega (arith, lasts, long, few);
    };
  }

from_5_to_4 : IsPathPair inverter_loop two_each 5 4 0 6
from_5_to_4 = pair_of 1 6 refl 5 4 (1 ∷ 2 ∷ []) (edge 5 3 0 [], refl, refl, (edge 3 4 0 [], refl, refl, refl))
    (omega arith) refl

from_5_to_5 : IsPathPair inverter_loop two_each 5 5 0 2
from_5_to_5 = pair_of 1 6 refl 5 5 [] refl (omega arith) refl

from_4_to_3 : IsPathPair inverter_loop two_each 4 3 1 6
from_4_to_3 = pair_of 1 6 refl 4 3 (4 ∷ 1 ∷ []) (
  edge 4 5 1 (false ∷ []),
  refl,
  refl,
  (
    edge 5 3 0 [],
    refl,
    refl,
    refl,
  ),
) (omega arith) refl

from_1_to_5 : IsPathPair inverter_loop two_each 1 5 1 2
from_1_to_5 = pair_of 1 6 refl 1 5 (3 ∷ []) (edge 1 5 0 (false ∷ []), refl, refl, refl) (omega arith) refl

from_2_to_2 : IsPathPair inverter_loop two_each 2 2 0 0
from_2_to_2 = pair_of 1 6 refl 2 2 [] refl (omega arith) refl

-- no edge leaves the output
from_2_to_5 : (es : List ℕ) → IsPath inverter_loop 2 es 5 → ⊥
from_2_to_5 [] same = absurd (omega (arith, same))
from_2_to_5 (e ∷ es) (d, found, from, rest) = each_place (λ e d. d.from ≡ 2 → ⊥) inverter_loop.edges ((λ (h : 4 ≡ 2). absurd (omega (arith, h))), ((λ (h : 5 ≡ 2). absurd (omega (arith, h))), ((λ (h : 3 ≡ 2). absurd (omega (arith, h))), ((λ (h : 1 ≡ 2). absurd (omega (arith, h))), ((λ (h : 4 ≡ 2). absurd (omega (arith, h))), tt))))) e d found from

-- with three registers for each, three times W and the same D
three_from_4_to_3 : IsPathPair (slow 3 inverter_loop) two_each 4 3 3 6
three_from_4_to_3 = pair_of 3 2 refl 4 3 (4 ∷ 1 ∷ []) (
  slow_edge 3 (edge 4 5 1 (false ∷ [])),
  refl,
  refl,
  (
    slow_edge 3
        (edge 5 3 0 []),
    refl,
    refl,
    refl,
  ),
) (omega arith) refl

-- ---- an inverter 5 that an and-gate 4 feeds and a register follows, moved back over its register

-- inputs 1 and 2, output 3
abbrev inverted_and : Graph
inverted_and = record {
  vertices = vertex Host [] ∷ vertex Input [] ∷ vertex Input [] ∷ vertex Output (Along 0 ∷ [])
      ∷ vertex (Gate And) (Along 1 ∷ Along 2 ∷ []) ∷ vertex (Gate Not) (Along 3 ∷ []) ∷ [];
  edges = edge 5 3 0 (false ∷ []) ∷ edge 1 4 0 [] ∷ edge 2 4 1 [] ∷ edge 4 5 0 [] ∷ [];
  memories = [];
}

abbrev inverter_back : List ℤ
inverter_back = pos 0 ∷ pos 0 ∷ pos 0 ∷ pos 0 ∷ pos 0 ∷ pos 1 ∷ []

-- the inverter was 0, as the register starts, and so it saw 1
abbrev saw_one : Past
saw_one = record { values = λ v i. false; contents = λ e i. true }

no_clock : {A : Type 0} (i : ℕ) → i < 0 → A
no_clock i h = absurd (omega (arith, h))

same_gate : (k k' : Kind) → Gate k ≡ Gate k' → k ≡ k'
same_gate k k' h = ap kind_of h
  where
    kind_of : VertexKind → Kind
    kind_of Host = k
    kind_of Input = k
    kind_of Output = k
    kind_of (Constant b) = k
    kind_of (Gate kind) = kind
    kind_of (Read memory port) = k
    kind_of (Write memory port) = k

first_clock : (P : ℕ → Type 0) → P 0 → (i : ℕ) → i < 1 → P i
first_clock P here zero h = here
first_clock P here (suc i) h = absurd (omega (arith, h))

-- what a gate with these pins owes at clock -(i + 1)
abbrev Owes : ℕ → Vertex → Type 0
Owes v x = (i : ℕ) (kind : Kind) → x.kind ≡ Gate kind → i < lead (lag_at inverter_back v)
    → false ≡ gate_value kind (map (past_seen inverted_and inverter_back saw_one i) x.pins)

inverter_sees_one : Owes 5 (vertex (Gate Not) (Along 3 ∷ []))
unfolding equation
inverter_sees_one i kind gate low = first_clock (λ i. false ≡ gate_value kind (map (past_seen inverted_and
    inverter_back saw_one i) (Along 3 ∷ []))) (subst (λ k. false ≡ gate_value k (map (past_seen inverted_and
    inverter_back saw_one 0) (Along 3 ∷ []))) (same_gate Not kind gate) refl) i low

inverter_has_a_past : IsPast inverted_and inverter_back saw_one
inverter_has_a_past = record {
  gates = λ v i x kind is gate low. each_place Owes inverted_and.vertices ((λ i kind gate low. no_clock i low), ((λ i kind gate low. no_clock i low), ((λ i kind gate low. no_clock i low), ((λ i kind gate low. no_clock i low), ((λ i kind gate low. no_clock i low), (inverter_sees_one, tt)))))) v x is i kind gate low;
  starts = λ e i d found low own. each_place (λ e d. (i : ℕ) → i < lead (lag_at inverter_back d.from) → i < d.weight
      → false ≡ get_or d.contents i false) inverted_and.edges ((λ i low own. first_clock (λ i. false ≡ get_or (false ∷ []) i false) refl i own), ((λ i low own. no_clock i low), ((λ i low own. no_clock i low), ((λ i low own. no_clock i low), tt)))) e d found i low own;
  held = λ e i d found ahead high own. each_place (λ e d. (i : ℕ) → 0 < lead (lag_at inverter_back d.to) → i < d.weight
      → true ≡ get_or d.contents i false) inverted_and.edges ((λ i ahead own. no_clock 0 ahead), ((λ i ahead own. no_clock i own), ((λ i ahead own. no_clock i own), ((λ i ahead own. no_clock i own), tt)))) e d found i ahead own;
}

-- ---- the same with a second register behind the inverter, which starts with 1

-- inputs 1 and 2, outputs 3 and 4, and-gate 5, inverter 6
abbrev two_starts : Graph
two_starts = record {
  vertices = vertex Host [] ∷ vertex Input [] ∷ vertex Input [] ∷ vertex Output (Along 0 ∷ []) ∷ vertex Output (Along 1
      ∷ []) ∷ vertex (Gate And) (Along 2 ∷ Along 3 ∷ []) ∷ vertex (Gate Not) (Along 4 ∷ []) ∷ [];
  edges = edge 6 3 0 (false ∷ []) ∷ edge 6 4 0 (true ∷ []) ∷ edge 1 5 0 [] ∷ edge 2 5 1 [] ∷ edge 5 6 0 [] ∷ [];
  memories = [];
}

-- the inverter would have been 0 and 1
two_starts_have_no_past : HasPast two_starts (pos 0 ∷ pos 0 ∷ pos 0 ∷ pos 0 ∷ pos 0 ∷ pos 0 ∷ pos 1 ∷ []) → ⊥
two_starts_have_no_past p =
    let low : 0 < 1 = omega arith in
    let zero_then = p.is.starts 0 0 (edge 6 3 0 (false ∷ [])) refl low low in
    let one_then = p.is.starts 1 0 (edge 6 4 0 (true ∷ [])) refl low low in
    absurd (differ (sym zero_then ∙ one_then))
  where
    differ : false ≡ true → ⊥
    differ h = cc
