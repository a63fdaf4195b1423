-- The graph of some elements: how it is built, and that an order of it is one of the netlist's bits.
use Rattle.std.proofs.Common.{◌≡◌, ℕ, zero, suc, ◌+◌, ◌<◌, ◌≤◌, ◌⊎◌, List, [], ◌∷◌, ◌++◌, append-nil, length, drop, get_or, filter_map, map, Bool, true, false, cond, ◌||◌, Option, Some, None, refl, sym, ap, subst, ◌∙◌, zero-add, arith, inl, inr}
use Rattle.std.specs.Prelude.{Contains, Err, IfOk, Ok, Result, find, option_map, slice_get, unwrap_or}
use Rattle.std.specs.declared.alloc.AllocError.{AllocError}
use Rattle.std.specs.List.{cons_option, position_from}
use Rattle.std.specs.Option.{option_and_then}
use Rattle.std.proofs.lemmas.Bool.{eqb-true}
use Rattle.std.proofs.lemmas.List.{drop_all, length-append, length-map}
use Rattle.std.proofs.lemmas.Option.{get_or_from_slice_get, slice_get_within}
use mathlib.Core.Path.{fun_ext}
use Rattle.cs_base.specs.declared.signal.Signal.{Signal}
use Rattle.cs_base.specs.declared.signal.Signal.TheVariants.{Zero, One, Unknown, HighZ, Bit}
use Rattle.cs_order.specs.declared.topological.Arrangement.{Arrangement}
use Rattle.cs_order.specs.declared.topological.Arrangement.TheVariants.{Loop, Order}
use Rattle.cs_order.specs.Arrangements.{IfOrder}
use Rattle.cs_order.specs.Graphs.{Graph, IsOrder, place_in, sources_of}
use Rattle.cs_order.proofs.CallerLemmas.{place_after_source, place_positive}
use Rattle.cs_base.proofs.ListLemmas.{at_contains}
use Rattle.cs_net.specs.declared.elements.Element.{Element}
use Rattle.cs_modules.specs.Signals.{number_in, holds_bit, is_bit}
use Rattle.cs_net.specs.Elements.{elements_of, graph_of, owner, sources}
use Rattle.cs_net.specs.Invariant.{HasBitOrder}
use Rattle.cs_net.specs.Netlist.{Net}
use Rattle.cs_net.proofs.ElementLemmas.{fanin_of_driver, inputs_for}
use Rattle.cs_modules.proofs.FirstPlaces.{left_at}
use Rattle.cs_modules.proofs.MadeLists.{next_mapped}

-- ---- how it is built

-- the owners of an element's inputs are its sources
owners_are_sources : (es : List Element) (found : ℕ → Option ℕ) (inputs : List Signal) →
    ((b : ℕ) → found b ≡ owner es b) →
    filter_map (λ s. option_and_then found (number_in s)) inputs
    ≡ filter_map (λ s. option_and_then (owner es) (number_in s)) inputs
owners_are_sources es found inputs same =
    ap (λ f. filter_map (λ s. option_and_then f (number_in s)) inputs) (fun_ext same)

-- an element is added with the owners of its inputs
pub next_vertex : (es : List Element) (i : ℕ) (e : Element) (found : ℕ → Option ℕ) (added : List ℕ)
    (old new whole : List (List ℕ)) →
    i < length es → e ≡ get_or es i e → ((b : ℕ) → found b ≡ owner es b) →
    added ≡ filter_map (λ s. option_and_then found (number_in s)) e.inputs →
    old ++ map (sources es) (drop i es) ≡ whole → new ≡ old ++ added ∷ [] →
    new ++ map (sources es) (drop (i + 1) es) ≡ whole
next_vertex es i e found added old new whole below is same made so_far pushed =
    next_mapped (sources es) e (drop i es) (drop (i + 1) es) old new whole (left_at es i e below is) so_far
    (pushed ∙ ap (λ row. old ++ row ∷ []) (made ∙ owners_are_sources es found e.inputs same))

-- one vertex more
pub one_longer : {A : Type 0} (old new : List A) (x : A) (n : ℕ) → length old ≡ n → new ≡ old ++ x ∷ [] →
    length new ≡ n + 1
one_longer old new x n count pushed = ap (λ xs. length xs) pushed ∙ length-append old (x ∷ [])
    ∙ ap (λ m. m + 1) count

-- past the last element each has its vertex
pub all_added : (es : List Element) (i : ℕ) (made : List (List ℕ)) → length es ≤ i →
    made ++ map (sources es) (drop i es) ≡ map (sources es) es → made ≡ graph_of es
unfolding graph_of
all_added es i made past so_far =
    sym (append-nil made) ∙ sym (ap (λ rest. made ++ map (sources es) rest) (drop_all i es past)) ∙ so_far

-- ---- the sources of an element

-- a first one that passes has a place, and none where there is no such one; places begin at k
abbrev IsFirst : {A : Type 0} → ℕ → List A → Option ℕ → Option A → Type 0
IsFirst {A} k xs place found =
    ((place ≡ None) × (found ≡ None))
    ⊎ ((i : ℕ) × (x : A) × (place ≡ Some (k + i)) × (found ≡ Some x) × (slice_get xs i ≡ Some x))

first_of : {A : Type 0} (test : A → Bool) (k : ℕ) (xs : List A) →
    IsFirst k xs (position_from test k xs) (find test xs)
first_of test k [] = inl (refl, refl)
first_of {A = A} test k (x ∷ xs) =
    here (test x) (position_from test (k + 1) xs) (find test xs) (first_of test (k + 1) xs)
  where
    here : (t : Bool) (place : Option ℕ) (found : Option A) → IsFirst (k + 1) xs place found →
        IsFirst k (x ∷ xs) (cond t (Some k) place) (cond t (Some x) found)
    here true place found h = inr (0, x, ap (λ n. Some n) (omega arith), refl, refl)
    here false place found (inl (none, missing)) = inl (none, missing)
    here false place found (inr (i, y, at, is, stands)) =
        inr (suc i, y, at ∙ ap (λ n. Some n) (omega arith), is, stands)

either : (x y : Bool) → x || y ≡ true → (x ≡ true) ⊎ (y ≡ true)
either true y h = inl refl
either false y h = inr h

number_of_bit : (a : ℕ) (s : Signal) → is_bit a s ≡ true → number_in s ≡ Some a
number_of_bit a Zero h = absurd (cc)
number_of_bit a One h = absurd (cc)
number_of_bit a Unknown h = absurd (cc)
number_of_bit a HighZ h = absurd (cc)
number_of_bit a (Bit b) h = ap (λ n. Some n) (eqb-true b a h)

kept_first : (o : Option ℕ) (w : ℕ) (rest : List ℕ) → o ≡ Some w →
    (i : ℕ) × (slice_get (cons_option o rest) i ≡ Some w)
kept_first None w rest h = absurd (cc)
kept_first (Some x) w rest h = (0, h)

kept_later : (o : Option ℕ) (w : ℕ) (rest : List ℕ) → (i : ℕ) × (slice_get rest i ≡ Some w) →
    (i : ℕ) × (slice_get (cons_option o rest) i ≡ Some w)
kept_later None w rest h = h
kept_later (Some x) w rest (i, stands) = (suc i, stands)

-- the owner of a bit among the inputs is one of the sources
pub input_owner : (f : ℕ → Option ℕ) (a w : ℕ) (inputs : List Signal) → holds_bit a inputs ≡ true →
    f a ≡ Some w →
    (i : ℕ) × (slice_get (filter_map (λ s. option_and_then f (number_in s)) inputs) i ≡ Some w)
input_owner f a w [] holds is = absurd (cc)
input_owner f a w (s ∷ inputs) holds is =
    let rest = filter_map (λ s. option_and_then f (number_in s)) inputs in
    elim (either (is_bit a s) (holds_bit a inputs) holds) [
      | inl first ↦ kept_first (option_and_then f (number_in s)) w rest
          (ap (option_and_then f) (number_of_bit a s first) ∙ is)
      | inr later ↦ kept_later (option_and_then f (number_in s)) w rest (input_owner f a w inputs later is)
    ]

at_mapped : {A B : Type 0} (f : A → B) (xs : List A) (i : ℕ) (x : A) → slice_get xs i ≡ Some x →
    slice_get (map f xs) i ≡ Some (f x)
at_mapped f [] i x stands = absurd (cc)
at_mapped f (y ∷ xs) zero x stands = let same : y ≡ x = cc in ap (λ z. Some (f z)) same
at_mapped f (y ∷ xs) (suc i) x stands = at_mapped f xs i x stands

-- the sources of the vertex of an element
pub sources_of_element : (es : List Element) (v : ℕ) (e : Element) → slice_get es v ≡ Some e →
    sources_of (graph_of es) v ≡ sources es e
unfolding graph_of
sources_of_element es v e stands =
    get_or_from_slice_get (map (sources es) es) v (sources es e) [] (at_mapped (sources es) es v e stands)

-- there is a vertex for each element
pub vertex_count : (es : List Element) → length (graph_of es) ≡ length es
unfolding graph_of
vertex_count es = length-map es (sources es)

-- ---- the order

-- the place of a bit: 0 where nothing drives it, else that of its element
abbrev pub place_by : List Element → List ℕ → ℕ → ℕ
place_by es order b = unwrap_or (option_map (place_in order) (owner es b)) 0

-- the bits that an element depends on come before it
input_before : (es : List Element) (order : List ℕ) (v : ℕ) (e : Element) (a : ℕ) →
    IsOrder (graph_of es) order →
    slice_get es v ≡ Some e → holds_bit a e.inputs ≡ true → place_by es order a < place_in order v
input_before es order v e a h stands holds = by_owner (owner es a) refl
  where
    by_owner : (o : Option ℕ) → owner es a ≡ o → place_by es order a < place_in order v
    by_owner None is =
        let place : place_by es order a ≡ 0 = ap (λ o. unwrap_or (option_map (place_in order) o) 0) is in
        let below : v < length (graph_of es) =
        omega (arith, slice_get_within es v e stands, vertex_count es) in
        omega (arith, place_positive (graph_of es) order v h below)
    by_owner (Some w) is =
        let place : place_by es order a ≡ place_in order w =
        ap (λ o. unwrap_or (option_map (place_in order) o) 0) is in
        let at = input_owner (owner es) a w e.inputs holds is in
        let P : List ℕ → Type 0 = λ ws. Contains ws w in
        let source = subst P (sym (sources_of_element es v e stands))
        (at_contains (sources es e) at.0 w at.1) in
        omega (arith, place_after_source (graph_of es) order v w h source)

bit_before : (es : List Element) (order : List ℕ) (b a : ℕ) → IsOrder (graph_of es) order →
    holds_bit a (inputs_for b es) ≡ true → place_by es order a < place_by es order b
bit_before es order b a h holds = elim (first_of (λ (e : Element). holds_bit b e.outputs) 0 es) [
  | inl (none, missing) ↦
      let nothing : holds_bit a (inputs_for b es) ≡ false
      = ap (λ found. holds_bit a (unwrap_or (option_map (λ (e : Element). e.inputs) found) [])) missing in
      absurd (cc)
  | inr (v, e, at, found, stands) ↦
      let input : holds_bit a (inputs_for b es) ≡ holds_bit a e.inputs
      = ap (λ found. holds_bit a (unwrap_or (option_map (λ (e : Element). e.inputs) found) [])) found in
      let place : place_by es order b ≡ place_in order v
      = ap (λ o. unwrap_or (option_map (place_in order) o) 0) (at ∙ ap (λ n. Some n) (zero-add v)) in
      omega (arith, input_before es order v e a h stands (sym input ∙ holds))
]

-- an order of the elements is one of the netlist's bits
pub order_of_elements : (net : Net) (order : List ℕ) → IsOrder (graph_of (elements_of net)) order →
    HasBitOrder net
order_of_elements net order h = record {
  place = place_by (elements_of net) order;
  order = λ b a depends.
      bit_before (elements_of net) order b a h (sym (ap (holds_bit a) (fanin_of_driver net b)) ∙ depends);
}

-- what is arranged is the graph of a netlist's elements, so an order is one of the netlist's bits
pub bits_arranged : (es : List Element) (g : Graph) (arranged : Result Arrangement AllocError) →
    g ≡ graph_of es →
    IfOk arranged (λ a. IfOrder a (IsOrder g)) →
    IfOk arranged (λ a. IfOrder a (λ _. (net : Net) → es ≡ elements_of net → HasBitOrder net))
bits_arranged es g (Ok (Order order)) is h = λ net same.
    let P : Graph → Type 0 = λ g. IsOrder g order.items in
    order_of_elements net order.items (subst P (is ∙ ap graph_of same) h)
bits_arranged es g (Ok (Loop vs)) is h = tt
bits_arranged es g (Err e) is h = tt
