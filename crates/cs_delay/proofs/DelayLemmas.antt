-- The delays that a table gives: each within the bound, a pin's at most its vertex's, and one for each pin.
use Rattle.std.proofs.Common.{◌≡◌, ℕ, zero, suc, ◌≤◌, max, List, [], ◌∷◌, length, map, replicate, Bool, true, false, ◌||◌, cond, bytes_eq, Option, Some, None, option_map, option_and_then, unwrap_or, refl, sym, ap, ◌∙◌, subst, arith, codes}
use Rattle.std.specs.Prelude.{slice_get, find}
use Rattle.std.specs.List.{fold, list_any, AllByRecursion}
use Rattle.std.specs.Option.{option_or}
use Rattle.std.proofs.lemmas.List.FromFn.{length-map-range_with_len}
use Rattle.cs_cells.specs.Gates.{pin_count, pin_name}
use Rattle.cs_graph.specs.declared.graph.Graph.{Graph}
use Rattle.cs_graph.specs.declared.vertex.Vertex.{Vertex}
use Rattle.cs_graph.specs.declared.vertex.VertexKind.{VertexKind}
use Rattle.cs_graph.specs.declared.vertex.VertexKind.TheVariants.{Host, Input, Output, Constant, Gate, Read, Write as WritePort}
use Rattle.cs_graph.specs.DelayBounds.{AreVertexDelays, ArePinDelays}
use Rattle.cs_graph.specs.Invariant.{IsMachine}
use Rattle.cs_graph.specs.Kinds as kinds
use Rattle.cs_graph.specs.Period.{ArePinsOf}
use Rattle.cs_delay.specs.Assigned.{delay_of, is_gate, listed_delay, needed_delays, needed_pins, own_delay, pin_delays, type_of, vertex_delay}
use Rattle.cs_delay.specs.declared.entry.DelayEntry.{DelayEntry}
use Rattle.cs_delay.specs.declared.entry.PinDelay.{PinDelay}
use Rattle.cs_delay.specs.declared.entry.PinDelays.{PinDelays}
use Rattle.cs_delay.specs.declared.entry.PinDelays.TheVariants.{One, Pins}
use Rattle.cs_delay.specs.declared.table.DelayTable.{DelayTable}
use Rattle.cs_delay.specs.Tables.{has_too_large, is_too_large, too_large}

-- ---- what a table says is within the bound

-- a delay is within the bound, if there is one
abbrev pub IsWithin : Option ℕ → Type 0
IsWithin None = Unit {0}
IsWithin (Some delay) = delay ≤ 1000000

small : (delay : ℕ) → is_too_large delay ≡ false → delay ≤ 1000000
small delay h = grind arith

-- what is found fails a test that nothing passes
found_at : {A : Type 0} (test : A → Bool) (xs : List A) (y x : A) (later : Option A) (b c : Bool) → test y ≡ b
    → (b || list_any test xs) ≡ false → (list_any test xs ≡ false → later ≡ Some x → test x ≡ false)
    → cond c (Some y) later ≡ Some x → test x ≡ false
found_at test xs y x later true c here none rest is = absurd (cc)
found_at test xs y x later false true here none rest is =
    let same : y ≡ x = cc in ap test (sym same) ∙ here
found_at test xs y x later false false here none rest is = rest none is

found_fails : {A : Type 0} (test among : A → Bool) (xs : List A) (x : A) → list_any test xs ≡ false
    → find among xs ≡ Some x → test x ≡ false
found_fails test among [] x none is = absurd (cc)
found_fails test among (y ∷ ys) x none is =
    found_at test ys y x (find among ys) (test y) (among y) refl none (found_fails test among ys x) is

-- a test that finds nothing passes nowhere
none_at : {A : Type 0} (b rest : Bool) (x : A) (later : Option A) → (later ≡ None → rest ≡ false)
    → cond b (Some x) later ≡ None → (b || rest) ≡ false
none_at true rest x later h none = absurd (cc)
none_at false rest x later h none = h none

none_found : {A : Type 0} (test : A → Bool) (xs : List A) → find test xs ≡ None → list_any test xs ≡ false
none_found test [] none = refl
none_found test (x ∷ xs) none = none_at (test x) (list_any test xs) x (find test xs) (none_found test xs) none

own_within : (pin : List ℕ) (delays : PinDelays) → has_too_large delays ≡ false → IsWithin (own_delay pin delays)
own_within pin (One delay) h = small delay h
own_within pin (Pins pins) h = at (find (λ p. bytes_eq p.pin pin) pins) refl
  where
    at : (o : Option PinDelay) → find (λ p. bytes_eq p.pin pin) pins ≡ o
        → IsWithin (option_map (λ (p : PinDelay). p.delay) o)
    at None is = tt
    at (Some p) is = small p.delay (found_fails (λ p. is_too_large p.delay) (λ p. bytes_eq p.pin pin) pins p h is)

listed_within : (entries : List DelayEntry) (kind pin : List ℕ)
    → list_any (λ (e : DelayEntry). has_too_large e.delay) entries ≡ false → IsWithin (listed_delay entries kind pin)
listed_within entries kind pin h = at (find (λ e. bytes_eq e.kind kind) entries) refl
  where
    at : (o : Option DelayEntry) → find (λ e. bytes_eq e.kind kind) entries ≡ o
        → IsWithin (option_and_then (λ (e : DelayEntry). own_delay pin e.delay) o)
    at None is = tt
    at (Some e) is =
        own_within pin e.delay (found_fails (λ e. has_too_large e.delay) (λ e. bytes_eq e.kind kind) entries e h is)

either_within : (a b : Option ℕ) → IsWithin a → IsWithin b → IsWithin (option_or a b)
either_within None b ha hb = hb
either_within (Some n) b ha hb = ha

fallback_within : (o : Option ℕ) (entries : List DelayEntry) → too_large o entries ≡ None → IsWithin o
fallback_within None entries h = tt
fallback_within (Some n) entries h = at (is_too_large n) refl h
  where
    at : (b : Bool) → is_too_large n ≡ b
        → cond b (Some (codes "default")) (option_map (λ (e : DelayEntry). e.kind) (find (λ e. has_too_large e.delay) entries)) ≡ None
        → n ≤ 1000000
    at true is h = absurd (cc)
    at false is h = small n is

no_kind : (o : Option DelayEntry) → option_map (λ (e : DelayEntry). e.kind) o ≡ None → o ≡ None
no_kind None h = refl
no_kind (Some e) h = absurd (cc)

entries_within : (o : Option ℕ) (entries : List DelayEntry) → too_large o entries ≡ None
    → list_any (λ (e : DelayEntry). has_too_large e.delay) entries ≡ false
entries_within o entries h = at (unwrap_or (option_map is_too_large o) false) h
  where
    at : (b : Bool)
        → cond b (Some (codes "default")) (option_map (λ (e : DelayEntry). e.kind) (find (λ e. has_too_large e.delay) entries)) ≡ None
        → list_any (λ (e : DelayEntry). has_too_large e.delay) entries ≡ false
    at true h = absurd (cc)
    at false h = none_found (λ e. has_too_large e.delay) entries (no_kind _ h)

-- a table's delay of a pin
table_within : (table : DelayTable) (kind pin : List ℕ) → IsWithin (delay_of table kind pin)
table_within table kind pin =
    either_within (listed_delay table.entries kind pin) table.fallback
    (listed_within table.entries kind pin (entries_within table.fallback table.entries table.within))
    (fallback_within table.fallback table.entries table.within)

or_zero : (o : Option ℕ) → IsWithin o → unwrap_or o 0 ≤ 1000000
or_zero None h = omega arith
or_zero (Some n) h = h

-- ---- the greatest of a vertex's pins

fold_within : (most so_far : ℕ) (ns : List ℕ) → so_far ≤ most → AllByRecursion (λ n. n ≤ most) ns
    → fold max so_far ns ≤ most
fold_within most so_far [] h all = h
fold_within most so_far (n ∷ ns) h all = fold_within most (max so_far n) ns (omega (arith, h, all.0)) all.1

fold_above : (so_far : ℕ) (ns : List ℕ) → so_far ≤ fold max so_far ns
fold_above so_far [] = omega arith
fold_above so_far (n ∷ ns) = omega (arith, fold_above (max so_far n) ns)

fold_each : (so_far : ℕ) (ns : List ℕ) (i n : ℕ) → slice_get ns i ≡ Some n → n ≤ fold max so_far ns
fold_each so_far [] i n is = absurd (cc)
fold_each so_far (m ∷ ns) zero n is =
    let same : m ≡ n = cc in omega (arith, same, fold_above (max so_far m) ns)
fold_each so_far (m ∷ ns) (suc i) n is = fold_each (max so_far m) ns i n is

needed_within : (table : DelayTable) (kind : List ℕ) (pins : List (List ℕ))
    → AllByRecursion (λ n. n ≤ 1000000) (map (λ pin. unwrap_or (delay_of table kind pin) 0) pins)
needed_within table kind [] = tt
needed_within table kind (pin ∷ pins) =
    (or_zero (delay_of table kind pin) (table_within table kind pin), needed_within table kind pins)

pub vertex_within : (table : DelayTable) (kind : VertexKind) → vertex_delay table kind ≤ 1000000
vertex_within table kind =
    fold_within 1000000 0 (needed_delays table kind) (omega arith)
    (needed_within table (type_of kind) (needed_pins kind))

-- ---- over all vertices

-- an item of a list that is made is made of an item
made_of : {A B : Type 0} (f : A → B) (xs : List A) (i : ℕ) (y : B) → slice_get (map f xs) i ≡ Some y
    → (x : A) × (slice_get xs i ≡ Some x) × (f x ≡ y)
made_of f [] i y is = absurd (cc)
made_of f (x ∷ xs) zero y is = (x, refl, cc)
made_of f (x ∷ xs) (suc i) y is = made_of f xs i y is

pub same_length : {A B C : Type 0} (f : A → B) (g : A → C) (xs : List A) → length (map f xs) ≡ length (map g xs)
same_length f g [] = refl
same_length f g (x ∷ xs) = ap suc (same_length f g xs)

pub length-map : {A B : Type 0} (f : A → B) (xs : List A) → length (map f xs) ≡ length xs
length-map f [] = refl
length-map f (x ∷ xs) = ap suc (length-map f xs)

pub vertices_within : (table : DelayTable) (xs : List Vertex)
    → AreVertexDelays (map (λ x. vertex_delay table x.kind) xs)
vertices_within table xs v d is =
    let x = made_of (λ (x : Vertex). vertex_delay table x.kind) xs v d is in
    let P : ℕ → Type 0 = λ n. n ≤ 1000000 in subst P x.2 (vertex_within table x.0.kind)

replicate_each : (count n i m : ℕ) → slice_get (replicate count n) i ≡ Some m → m ≤ n
replicate_each zero n i m is = absurd (cc)
replicate_each (suc count) n zero m is = let same : n ≡ m = cc in omega (arith, same)
replicate_each (suc count) n (suc i) m is = replicate_each count n i m is

-- a pin's delay is at most its vertex's
pins_of_one : (table : DelayTable) (x : Vertex) (i p : ℕ) → slice_get (pin_delays table x) i ≡ Some p
    → p ≤ vertex_delay table x.kind
pins_of_one table x i p is = at (is_gate x.kind) is
  where
    at : (b : Bool)
        → slice_get (cond b (needed_delays table x.kind) (replicate (length x.pins) (vertex_delay table x.kind))) i ≡ Some p
        → p ≤ vertex_delay table x.kind
    at true is = fold_each 0 (needed_delays table x.kind) i p is
    at false is = replicate_each (length x.pins) (vertex_delay table x.kind) i p is

same_item : {A : Type 0} (o : Option A) (x y : A) → o ≡ Some x → o ≡ Some y → x ≡ y
same_item o x y a b = cc

pub pins_within : (table : DelayTable) (xs : List Vertex)
    → ArePinDelays (map (λ x. vertex_delay table x.kind) xs) (map (pin_delays table) xs)
pins_within table xs v i d p ds vertex pins pin =
    let x = made_of (λ (x : Vertex). vertex_delay table x.kind) xs v d vertex in
    let y = made_of (pin_delays table) xs v ds pins in
    let same : y.0 ≡ x.0 = same_item (slice_get xs v) y.0 x.0 y.1 x.1 in
    let of_y : slice_get (pin_delays table y.0) i ≡ Some p = ap (λ l. slice_get l i) y.2 ∙ pin in
    let is_most : vertex_delay table y.0.kind ≡ d = ap (λ (z : Vertex). vertex_delay table z.kind) same ∙ x.2 in
    let P : ℕ → Type 0 = λ n. p ≤ n in subst P is_most (pins_of_one table y.0 i p of_y)

-- what is kept of the delays of all vertices
pub record AreKept (per_vertex : List ℕ) (per_pin : List (List ℕ)) : Type 0 where
  pub lists : length per_pin ≡ length per_vertex
  pub vertices : AreVertexDelays per_vertex
  pub pins : ArePinDelays per_vertex per_pin

pub delays_kept : (table : DelayTable) (xs : List Vertex) (per_vertex : List ℕ) (per_pin : List (List ℕ))
    → per_vertex ≡ map (λ x. vertex_delay table x.kind) xs → per_pin ≡ map (pin_delays table) xs
    → AreKept per_vertex per_pin
delays_kept table xs per_vertex per_pin vertices pins =
    let made : AreKept (map (λ x. vertex_delay table x.kind) xs) (map (pin_delays table) xs) = record {
      lists = same_length (pin_delays table) (λ x. vertex_delay table x.kind) xs;
      vertices = vertices_within table xs;
      pins = pins_within table xs;
    } in
    let P : List ℕ → Type 0 = λ a. AreKept a per_pin in
    let Q : List (List ℕ) → Type 0 = λ b. AreKept (map (λ x. vertex_delay table x.kind) xs) b in
    subst P (sym vertices) (subst Q (sym pins) made)

-- ---- one delay for each pin

length-replicate : (count n : ℕ) → length (replicate count n) ≡ count
length-replicate zero n = refl
length-replicate (suc count) n = ap suc (length-replicate count n)

-- each vertex has as many delays of pins as pins
pin_count_of : (table : DelayTable) (x : Vertex)
    → ((gate : _) → x.kind ≡ Gate gate → length x.pins ≡ pin_count gate) → length (pin_delays table x) ≡ length x.pins
pin_count_of table x h = at x.kind refl
  where
    at : (kind : VertexKind) → x.kind ≡ kind
        → length (cond (is_gate kind) (needed_delays table kind) (replicate (length x.pins) (vertex_delay table kind)))
        ≡ length x.pins
    at Host is = length-replicate _ _
    at Input is = length-replicate _ _
    at Output is = length-replicate _ _
    at (Constant b) is = length-replicate _ _
    at (Gate gate) is =
        length-map _ (needed_pins (Gate gate)) ∙ length-map-range_with_len (pin_name gate) 0 (pin_count gate) ∙ sym (h gate is)
    at (Read memory port) is = length-replicate _ _
    at (WritePort memory port) is = length-replicate _ _

gate_pins : (g : Graph) → IsMachine g → (v : ℕ) (x : Vertex) → slice_get g.vertices v ≡ Some x
    → (gate : _) → x.kind ≡ Gate gate → length x.pins ≡ pin_count gate
gate_pins g machine v x is gate kind =
    machine.pins v x is ∙ ap (kinds.pin_count g.memories) kind

pub pins_fit : (table : DelayTable) (g : Graph) → IsMachine g → ArePinsOf g.vertices (map (pin_delays table) g.vertices)
pins_fit table g machine v x ds vertex pins =
    let y = made_of (pin_delays table) g.vertices v ds pins in
    let same : y.0 ≡ x = same_item (slice_get g.vertices v) y.0 x y.1 vertex in
    sym (ap length y.2)
    ∙ pin_count_of table y.0 (gate_pins g machine v y.0 y.1)
    ∙ ap (λ (z : Vertex). length z.pins) same
