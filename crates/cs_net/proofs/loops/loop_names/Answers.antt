use Rattle.std.proofs.Common.{◌≡◌, ◌<◌, ◌+◌, ℕ, List, ◌++◌, length, Some, map, drop, take, reverse, sym, ap, subst, ◌∙◌, arith}
use Rattle.std.specs.Prelude.{slice_get}
use Rattle.std.proofs.lemmas.Result.{IfOk-weaker}
use Rattle.cs_json.specs.Readable.{AreInOrder}
use Rattle.cs_order.specs.Graphs.{IsLoop}
use Rattle.cs_net.specs.declared.elements.Element.{Element}
use Rattle.cs_net.specs.declared.netlist.Cell.{Cell}
use Rattle.cs_net.specs.Accept.{IsLoopOfCells}
use Rattle.cs_net.specs.Elements.{elements_of, graph_of}
use Rattle.cs_net.specs.Loops.{AreOf, IsLeastAt, IsShortcut, name_at, place_of_cell}
use Rattle.cs_net.specs.Netlist.{Net}
use Rattle.cs_net.proofs.LoopNames.{loop_named, short_places}
use Rattle.cs_net.proofs.loops.loop_names.Goals as goal

-- the premises of the lemmas, for the lists that the function has
named : (net : Net) (elements : List Element) (cells : List Cell)
    (vertices places walk short : List ℕ) (k : ℕ)
    → AreOf net elements cells → AreInOrder (λ (c : Cell). c.name) cells → IsLoop (graph_of elements) vertices
    → places ≡ map (place_of_cell elements) vertices → IsLeastAt places k
    → walk ≡ drop (k + 1) places ++ take (k + 1) places → IsShortcut walk short
    → IsLoopOfCells net (reverse (map (name_at cells) short))
named net elements cells vertices places walk short k are order closed places_are least walk_is cut =
    let P : List (List ℕ) → Type 0 = IsLoopOfCells net in
    let Q : List Cell → Type 0 = AreInOrder (λ (c : Cell). c.name) in
    let R : List Element → Type 0 = λ elements. IsLoop (graph_of elements) vertices in
    let same_places : places ≡ map (place_of_cell (elements_of net)) vertices =
    places_are ∙ ap (λ (es : List Element). map (place_of_cell es) vertices) are.elements_are in
    let S : List ℕ → Type 0 = λ ps. IsLeastAt ps k in
    let T : List ℕ → Type 0 = λ walk. IsShortcut walk short in
    let same_walk : walk
    ≡ drop (k + 1) (map (place_of_cell (elements_of net)) vertices)
    ++ take (k + 1) (map (place_of_cell (elements_of net)) vertices) =
    walk_is ∙ ap (λ (ps : List ℕ). drop (k + 1) ps ++ take (k + 1) ps) same_places in
    subst P (ap (λ (cells : List Cell). reverse (map (name_at cells) short)) (sym are.cells_are))
    (loop_named net vertices k short (subst Q are.cells_are order) (subst R are.elements_are closed)
    (subst S same_places least) (subst T same_walk cut))

within : (net : Net) (elements : List Element) (cells : List Cell)
    (vertices places walk short : List ℕ) (n : ℕ)
    → AreOf net elements cells → AreInOrder (λ (c : Cell). c.name) cells → IsLoop (graph_of elements) vertices
    → places ≡ map (place_of_cell elements) vertices → walk ≡ drop n places ++ take n places
    → IsShortcut walk short
    → (i x : ℕ) → slice_get short i ≡ Some x → x < length cells
within net elements cells vertices places walk short n are order closed places_are walk_is cut i x stands =
    let Q : List Cell → Type 0 = AreInOrder (λ (c : Cell). c.name) in
    let R : List Element → Type 0 = λ elements. IsLoop (graph_of elements) vertices in
    let T : List ℕ → Type 0 = λ walk. IsShortcut walk short in
    let same_walk : walk
    ≡ drop n (map (place_of_cell (elements_of net)) vertices)
    ++ take n (map (place_of_cell (elements_of net)) vertices) =
    walk_is
    ∙ ap (λ (ps : List ℕ). drop n ps ++ take n ps)
    (places_are ∙ ap (λ (es : List Element). map (place_of_cell es) vertices) are.elements_are) in
    let inside =
    short_places net vertices n short (subst Q are.cells_are order) (subst R are.elements_are closed)
    (subst T same_walk cut) i x stands in
    omega (arith, inside, ap (λ (cells : List Cell). length cells) are.cells_are)

pub names_from_last-requires : goal.names_from_last-requires
names_from_last-requires c i x stands =
    let places : c.as_slice.result.now ≡ map (place_of_cell c.args.elements.now) c.args.vertices.now =
    c.as_slice.ensures.value ∙ c.in_ok-places.ensures in
    let walk : c.as_slice-3.result.now ≡ _ = c.as_slice-3.ensures.value ∙ c.in_ok-walk.ensures in
    let short : slice_get c.in_ok-short.short.items i ≡ Some x =
    ap (λ (xs : List ℕ). slice_get xs i) (sym c.as_slice-4.ensures.value) ∙ stands in
    within c.requires.netlist.0 c.args.elements.now c.args.cells.now c.args.vertices.now c.as_slice.result.now
    c.as_slice-3.result.now c.in_ok-short.short.items
    (c.place_of_least.result + 1) c.requires.netlist.1 c.requires.order
    c.requires.closed places walk c.in_ok-short.ensures i x short

pub returns : goal.returns
returns c = IfOk-weaker c.names_from_last.result
    (λ (names : List (List ℕ)). names ≡ reverse (map (name_at c.args.cells.now) c.as_slice-4.result.now))
    (λ names. (net : Net) → AreOf net c.args.elements.now c.args.cells.now → IsLoopOfCells net names)
    (λ names is net are.
    let places : c.as_slice.result.now ≡ map (place_of_cell c.args.elements.now) c.args.vertices.now =
    c.as_slice.ensures.value ∙ c.in_ok-places.ensures in
    let L : List ℕ → Type 0 = λ ps. IsLeastAt ps c.place_of_least.result in
    let least =
    subst L (c.as_slice-2.ensures.value ∙ sym c.as_slice.ensures.value) c.place_of_least.ensures in
    let walk : c.as_slice-3.result.now ≡ _ = c.as_slice-3.ensures.value ∙ c.in_ok-walk.ensures in
    let P : List (List ℕ) → Type 0 = IsLoopOfCells net in
    subst P
    (sym (is ∙ ap (λ (ps : List ℕ). reverse (map (name_at c.args.cells.now) ps))
    c.as_slice-4.ensures.value))
    (named net c.args.elements.now c.args.cells.now c.args.vertices.now c.as_slice.result.now
    c.as_slice-3.result.now
    c.in_ok-short.short.items c.place_of_least.result are c.requires.order c.requires.closed places least
    walk
    c.in_ok-short.ensures))
    c.names_from_last.ensures
