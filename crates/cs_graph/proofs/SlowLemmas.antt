-- A slowed machine is the machine with each of its contents several times.
use Rattle.std.proofs.Common.{◌≡◌, ℕ, zero, suc, ◌+◌, ◌*◌, ◌<◌, Bool, List, [], ◌∷◌, length, map, replicate, refl, sym, ap, ap₂, ◌∙◌, arith, length-append}
use Rattle.std.specs.Prelude.{slice_get, option_map, Some}
use Rattle.std.specs.List.{sum_by}
use Rattle.std.proofs.lemmas.List.{length-map, length-replicate}
use Rattle.std.proofs.lemmas.List.Sums.{sum_by-cons}
use Rattle.std.proofs.lemmas.Option.{slice_get-map, get_or_from_slice_get}
use Rattle.cs_graph.specs.declared.edge.Edge.{Edge}
use Rattle.cs_graph.specs.declared.graph.Graph.{Graph}
use Rattle.cs_graph.specs.Invariant.{IsWellFormed}
use Rattle.cs_graph.specs.Lags.{of_edge}
use Rattle.cs_graph.specs.OtherContents.{edges_with, with_contents, IsWireKept, FitsEdges, register_count}
use Rattle.cs_graph.specs.Slow.{repeated, slow_edge, slow, slow_contents}

no_times : (c : ℕ) → 0 ≡ 0 * c
no_times c = omega arith

cons_times : (c n : ℕ) → c + n * c ≡ suc n * c
cons_times c n = omega arith

pub length-repeated : (c : ℕ) (contents : List Bool) → length (repeated c contents) ≡ length contents * c
length-repeated c [] = no_times c
length-repeated c (b ∷ contents) =
    length-append (replicate c b) (repeated c contents)
    ∙ ap₂ (λ m n. m + n) (length-replicate c b) (length-repeated c contents)
    ∙ cons_times c (length contents)

-- each edge's contents are as many as its registers
abbrev AreHeld : List Edge → Type 0
AreHeld ds = (e : ℕ) (d : Edge) → slice_get ds e ≡ Some d → length d.contents ≡ d.weight

edges_slow : (c : ℕ) (ds : List Edge) → AreHeld ds
    → edges_with ds (map (λ d. repeated c d.contents) ds) ≡ map (slow_edge c) ds
edges_slow c [] held = refl
edges_slow c (d ∷ ds) held =
    let count = length-repeated c d.contents ∙ ap (λ n. n * c) (held 0 d refl) in
    ap₂ (λ w es. record d { weight = w; contents = repeated c d.contents } ∷ es) count (edges_slow c ds (λ e x found.
    held (suc e) x found))

-- so it is made by the call for other contents
pub slow_is : (c : ℕ) (g : Graph) → IsWellFormed g → with_contents (slow_contents c g) g ≡ slow c g
slow_is c g whole = ap (λ es. record g { edges = es }) (edges_slow c g.edges whole.held)

at_edge : (c : ℕ) (g : Graph) (e : ℕ) (d : Edge) → slice_get g.edges e ≡ Some d
    → of_edge (slow_contents c g) e ≡ repeated c d.contents
at_edge c g e d found = get_or_from_slice_get (map (λ d. repeated c d.contents) g.edges) e (repeated c d.contents) []
    (slice_get-map (λ (d : Edge). repeated c d.contents) g.edges e ∙ ap (option_map (λ (d : Edge). repeated c
    d.contents)) found)

none_times : (n w c many : ℕ) → 0 < c → n ≡ w → many ≡ n * c → w ≡ 0 → many ≡ 0
none_times n w c many some is times none = let empty : n ≡ 0 = omega (arith, is, none) in times ∙ ap (λ m. m * c) empty ∙ sym (no_times c)

times_none : (n w c many : ℕ) → 0 < c → n ≡ w → many ≡ n * c → many ≡ 0 → w ≡ 0
times_none zero w c many some is times none = sym is
times_none (suc n) w c many some is times none = absurd (omega (arith, some, times, none))

wires_slow : (c : ℕ) (g : Graph) → 0 < c → IsWellFormed g → (e : ℕ) (d : Edge) → slice_get g.edges e ≡ Some d
    → IsWireKept d (of_edge (slow_contents c g) e)
wires_slow c g some whole e d found =
    let held = whole.held e d found in
    let many = ap length (at_edge c g e d found) ∙ length-repeated c d.contents in (
      none_times (length d.contents) d.weight c (length (of_edge (slow_contents c g) e)) some held many,
      times_none (length d.contents) d.weight c (length (of_edge (slow_contents c g) e)) some held many,
    )

pub slow_fits : (c : ℕ) (g : Graph) → 0 < c → IsWellFormed g → FitsEdges g (slow_contents c g)
slow_fits c g some whole = record {
  lists = length-map g.edges (λ d. repeated c d.contents);
  wires = wires_slow c g some whole;
}

count_slow : (c : ℕ) (ds : List Edge) → AreHeld ds
    → sum_by length (map (λ d. repeated c d.contents) ds) ≡ sum_by (λ (d : Edge). d.weight) ds * c
count_slow c [] held = no_times c
count_slow c (d ∷ ds) held =
    let first = length-repeated c d.contents ∙ ap (λ n. n * c) (held 0 d refl) in
    let rest = count_slow c ds (λ e x found. held (suc e) x found) in
    let more = sum_by-cons (λ (x : Edge). x.weight) d ds in
    sum_by-cons length (repeated c d.contents) (map (λ d. repeated c d.contents) ds)
    ∙ ap₂ (λ m n. m + n) first rest
    ∙ (let sum : d.weight * c + sum_by (λ (x : Edge). x.weight) ds * c ≡ (d.weight + sum_by (λ (x : Edge). x.weight)
    ds) * c = omega arith in sum)
    ∙ ap (λ n. n * c) (sym more)

-- and the count that is told against the limit is c times the machine's
pub slow_count : (c : ℕ) (g : Graph) → IsWellFormed g
    → register_count (slow_contents c g) ≡ sum_by (λ (d : Edge). d.weight) g.edges * c
slow_count c g whole = count_slow c g.edges whole.held
