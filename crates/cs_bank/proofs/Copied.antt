-- A machine with its own contents is the machine.
use Rattle.std.proofs.Common.{◌≡◌, ℕ, suc, ◌+◌, List, [], ◌∷◌, length, map, refl, sym, ap, ap₂, ◌∙◌, arith}
use Rattle.std.specs.Prelude.{min, slice_get, Some, None, if◌then◌else◌, ◌-◌, ◌^◌}
use Rattle.std.specs.List.{sum_by}
use Rattle.std.proofs.lemmas.Bool.{le-ltb}
use Rattle.std.proofs.lemmas.List.Sums.{sum_by-cons}
use Rattle.cs_base.specs.declared.limit.Counted.TheVariants.{Weight}
use Rattle.cs_graph.specs.declared.contents.Contents.{Contents}
use Rattle.cs_graph.specs.declared.edge.Edge.{Edge}
use Rattle.cs_graph.specs.declared.graph.Graph.{Graph}
use Rattle.cs_graph.specs.Invariant.{IsMachine}
use Rattle.cs_graph.specs.OtherContents.{edges_with, register_count, weight_fault, with_contents}

-- what the edges hold
abbrev pub own_contents : Graph → Contents
own_contents g = record { of = map (λ (d : Edge). d.contents) g.edges }

same_edges : (es : List Edge) → ((e : ℕ) (d : Edge) → slice_get es e ≡ Some d → length d.contents ≡ d.weight)
    → edges_with es (map (λ (d : Edge). d.contents) es) ≡ es
same_edges [] held = refl
same_edges (d ∷ ds) held =
    ap₂ (λ w rest. record d { weight = w } ∷ rest) (held 0 d refl) (same_edges ds (λ e. held (suc e)))

same_count : (es : List Edge) → ((e : ℕ) (d : Edge) → slice_get es e ≡ Some d → length d.contents ≡ d.weight)
    → sum_by length (map (λ (d : Edge). d.contents) es) ≡ sum_by (λ (d : Edge). d.weight) es
same_count [] held = refl
same_count (d ∷ ds) held =
    sum_by-cons length d.contents (map (λ (x : Edge). x.contents) ds)
    ∙ ap₂ (λ a b. a + b) (held 0 d refl) (same_count ds (λ e. held (suc e)))
    ∙ sym (sum_by-cons (λ (x : Edge). x.weight) d ds)

module _ (g : Graph) (is : IsMachine g) where
  pub own_contents_same : with_contents (own_contents g) g ≡ g
  own_contents_same = ap (λ es. record g { edges = es }) (same_edges g.edges is.well_formed.held)

  pub own_contents_few : weight_fault (own_contents g) ≡ None
  own_contents_few =
      let few = is.limits.weight in
      let same = same_count g.edges is.well_formed.held in
      ap
      (λ b. if b then Some (record {
        what = Weight;
        found = min (register_count (own_contents g)) (2 ^ 64 - 1);
        most = 65536;
      }) else None)
      (le-ltb 65536 (register_count (own_contents g)) (omega (arith, few, same)))
