-- The retimed graph of a machine is a machine, where its registers are within the limit.
use Rattle.std.proofs.Common.{◌≡◌, ℕ, suc, ◌+◌, ◌≤◌, Bool, List, [], ◌∷◌, length, get_or, map, refl, sym, ap, ap₂, subst, ◌∙◌, arith}
use Rattle.std.specs.Prelude.{ℤ, slice_get, option_map, Option, Some, None, unsigned_abs}
use Rattle.std.specs.List.{enumerate_from, sum_by}
use Rattle.std.proofs.lemmas.List.{length-map}
use Rattle.std.proofs.lemmas.List.FromFn.{length-enumerate_from}
use Rattle.std.proofs.lemmas.List.Sums.{sum_by-cons}
use Rattle.cs_base.specs.declared.contexts.Mode.{Mode}
use Rattle.cs_graph.specs.declared.contents.Contents.{Contents}
use Rattle.cs_graph.specs.declared.edge.Edge.{Edge}
use Rattle.cs_graph.specs.declared.graph.Graph.{Graph}
use Rattle.cs_graph.specs.Invariant.{HasOutput, IsMachine, LeadsBefore, kinds}
use Rattle.cs_graph.specs.Lags.{HasLengths, IsLegal, retimed, retimed_edge, weight_under}
use Rattle.cs_graph.specs.OtherContents.{register_count}
use Rattle.cs_graph.proofs.LagLemmas.{reach_of}
use Rattle.cs_graph.proofs.Shifted.{edge_of, retimed_whole}

-- ---- edges

was_edge : (lags : List ℤ) (k : Contents) (e : ℕ) (o : Option Edge) (d' : Edge)
    → option_map (λ d. retimed_edge lags k (e, d)) o ≡ Some d'
    → (d : Edge) × (o ≡ Some d) × (d' ≡ retimed_edge lags k (e, d))
was_edge lags k e None d' h = absurd (cc)
was_edge lags k e (Some d) d' h = (d, refl, cc)

-- the edge that a retimed one was
pub edge_was : (lags : List ℤ) (k : Contents) (g : Graph) (e : ℕ) (d' : Edge)
    → slice_get (retimed lags k g).edges e ≡ Some d'
    → (d : Edge) × (slice_get g.edges e ≡ Some d) × (d' ≡ retimed_edge lags k (e, d))
edge_was lags k g e d' found = was_edge lags k e (slice_get g.edges e) d' (sym (edge_of lags k g e) ∙ found)

pub retimed_count : (lags : List ℤ) (k : Contents) (g : Graph) → length (retimed lags k g).edges ≡ length g.edges
retimed_count lags k g = length-map (enumerate_from 0 g.edges) (retimed_edge lags k) ∙ length-enumerate_from 0 g.edges

-- ---- weights

-- their weights are those of the lags
weights_under : (lags : List ℤ) (k : Contents) (n : ℕ) (ds : List Edge)
    → sum_by (λ (d : Edge). d.weight) (map (retimed_edge lags k) (enumerate_from n ds))
    ≡ sum_by (λ d. unsigned_abs (weight_under lags d)) ds
weights_under lags k n [] = refl
weights_under lags k n (d ∷ ds) =
    sum_by-cons (λ (d : Edge). d.weight) (retimed_edge lags k (n, d)) (map (retimed_edge lags k) (enumerate_from (n + 1) ds))
    ∙ ap (λ m. unsigned_abs (weight_under lags d) + m) (weights_under lags k (n + 1) ds)
    ∙ sym (sum_by-cons (λ d. unsigned_abs (weight_under lags d)) d ds)

-- lists that are as long as their places say have that many in all
sums_same : (weight : Edge → ℕ) (ds : List Edge) (ks : List (List Bool)) → length ks ≡ length ds
    → ((e : ℕ) (d : Edge) → slice_get ds e ≡ Some d → length (get_or ks e []) ≡ weight d)
    → sum_by weight ds ≡ sum_by length ks
sums_same weight [] [] count each = refl
sums_same weight [] (k ∷ ks) count each = absurd (omega (arith, count))
sums_same weight (d ∷ ds) [] count each = absurd (omega (arith, count))
sums_same weight (d ∷ ds) (k ∷ ks) count each =
    sum_by-cons weight d ds
    ∙ ap₂ (λ m n. m + n) (sym (each 0 d refl)) (sums_same weight ds ks (omega (arith, count)) (λ e x found. each (suc e) x found))
    ∙ sym (sum_by-cons length k ks)

retimed_weight : (lags : List ℤ) (k : Contents) (g : Graph) → HasLengths g lags k
    → sum_by (λ (d : Edge). d.weight) (retimed lags k g).edges ≡ register_count k
retimed_weight lags k g lengths =
    weights_under lags k 0 g.edges
    ∙ sums_same (λ d. unsigned_abs (weight_under lags d)) g.edges k.of lengths.lists lengths.each

-- ---- the machine

pub retimed_machine : (g : Graph) (mode : Mode) (lags : List ℤ) (k : Contents) → IsMachine g → IsLegal g mode lags
    → HasLengths g lags k → register_count k ≤ 65536 → IsMachine (retimed lags k g)
retimed_machine g mode lags k machine legal lengths few = record {
  well_formed = let reach = reach_of lags in
      retimed_whole g machine.well_formed mode lags legal reach.0 reach.1 k lengths.each;
  host = machine.host;
  pins = machine.pins;
  outputs = λ e d' found.
      let old = edge_was lags k g e d' found in
      subst (λ (y : Edge). HasOutput g.memories (kinds g.vertices) y.from y.output) (sym old.2)
      (machine.outputs e old.0 old.1);
  memories = machine.memories;
  numbered = λ e f d d' less found found'.
      let one = edge_was lags k g e d found in
      let other = edge_was lags k g f d' found' in
      subst (λ (y : Edge). LeadsBefore y d') (sym one.2) (subst (λ (y : Edge). LeadsBefore one.0 y) (sym other.2)
      (machine.numbered e f one.0 other.0 less one.1 other.1));
  limits = record {
    vertices = machine.limits.vertices;
    edges =
        let same = retimed_count lags k g in
        let most = machine.limits.edges in
        omega (arith, same, most);
    weight = let same = retimed_weight lags k g lengths in omega (arith, same, few);
  };
}
