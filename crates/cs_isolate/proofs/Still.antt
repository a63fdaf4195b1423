-- Where no register moves, the retimed machine is the machine.
use Rattle.std.proofs.Common.{◌≡◌, ◌∙◌, ℕ, zero, suc, ◌+◌, ◌<◌, ◌≤◌, List, [], ◌∷◌, Option, Some, None, length, map, refl, sym, ap, ap₂, subst, arith, get_or}
use Rattle.std.specs.Prelude.{ℤ, pos, ◌+ℤ◌, ◌-ℤ◌, ◌≤ℤ◌, slice_get, option_map, replicate, unsigned_abs, ◌-◌, ◌^◌, min, if◌then◌else◌}
use Rattle.std.specs.List.{enumerate_from, sum_by}
use Rattle.std.proofs.lemmas.Bool.{le-ltb}
use Rattle.std.proofs.lemmas.Int.{ints}
use Rattle.std.proofs.lemmas.List.{length-map, length-replicate}
use Rattle.std.proofs.lemmas.List.Sums.{sum_by-cons}
use Rattle.std.proofs.lemmas.Option.{get_or_from_slice_get, slice_get-map}
use Rattle.cs_base.specs.declared.contexts.Mode.{Mode}
use Rattle.cs_base.specs.declared.contexts.Mode.TheVariants.{Any}
use Rattle.cs_base.specs.declared.limit.Counted.TheVariants.{Weight}
use Rattle.cs_graph.specs.declared.contents.Contents.{Contents}
use Rattle.cs_graph.specs.declared.edge.Edge.{Edge}
use Rattle.cs_graph.specs.declared.graph.Graph.{Graph}
use Rattle.cs_graph.specs.Invariant.{IsMachine}
use Rattle.cs_graph.specs.Lags.{HasLengths, IsLegal, lag_at, of_edge, retimed, retimed_edge, weight_under}
use Rattle.cs_graph.specs.OtherContents.{register_count, weight_fault}
use Rattle.cs_isolate.specs.Still.{own_contents, still_lags}

still_lag : (n v : ℕ) → lag_at (replicate n (pos 0)) v ≡ pos 0
still_lag zero v = refl
still_lag (suc n) zero = refl
still_lag (suc n) (suc v) = still_lag n v

still_weight : (n : ℕ) (d : Edge) → weight_under (replicate n (pos 0)) d ≡ pos d.weight
still_weight n d =
    ap₂ (λ a b. pos d.weight +ℤ a -ℤ b) (still_lag n d.to) (still_lag n d.from) ∙ alone d.weight
  where
    alone : (w : ℕ) → (pos w +ℤ pos 0 -ℤ pos 0) ≡ pos w
    alone w = omega (arith, ints)

own_at : (ds : List Edge) (e : ℕ) (d : Edge) → slice_get ds e ≡ Some d → get_or (map (λ (x : Edge). x.contents) ds) e [] ≡ d.contents
own_at ds e d at =
    get_or_from_slice_get (map (λ (x : Edge). x.contents) ds) e d.contents []
    (slice_get-map (λ (x : Edge). x.contents) ds e ∙ ap (option_map (λ (x : Edge). x.contents)) at)

still_edges : (n : ℕ) (k : Contents) (i : ℕ) (ds : List Edge)
    → ((j : ℕ) (d : Edge) → slice_get ds j ≡ Some d → of_edge k (i + j) ≡ d.contents)
    → map (retimed_edge (replicate n (pos 0)) k) (enumerate_from i ds) ≡ ds
still_edges n k i [] own = refl
still_edges n k i (d ∷ ds) own =
    let here : of_edge k i ≡ d.contents = subst (λ e. of_edge k e ≡ d.contents) (omega arith) (own 0 d refl) in
    ap₂ (λ a b. a ∷ b)
    (ap₂ (λ w c. record d { weight = w; contents = c }) (ap unsigned_abs (still_weight n d)) here)
    (still_edges n k (i + 1) ds
    (λ j x at. subst (λ e. of_edge k e ≡ x.contents) (omega arith) (own (suc j) x at)))

pub retimed_still : (g : Graph) → retimed (still_lags g) (own_contents g) g ≡ g
retimed_still g =
    ap (λ es. record g { edges = es })
    (still_edges (length g.vertices) (own_contents g) 0 g.edges (λ j d at. subst (λ e. of_edge (own_contents g) e ≡ d.contents) (omega arith) (own_at g.edges j d at)))

pub still_legal : (g : Graph) → IsLegal g Any (still_lags g)
still_legal g = record {
  count = length-replicate (length g.vertices) (pos 0);
  pinned = λ v x at is. still_lag (length g.vertices) v;
  weights = λ e d at. subst (λ w. pos 0 ≤ℤ w) (sym (still_weight (length g.vertices) d)) (low d.weight);
  ahead = λ other v. absurd (cc);
}
  where
    low : (w : ℕ) → pos 0 ≤ℤ pos w
    low w = omega (arith, ints)

pub still_lengths : (g : Graph) → IsMachine g → HasLengths g (still_lags g) (own_contents g)
still_lengths g machine = record {
  lists = length-map g.edges (λ (x : Edge). x.contents);
  each = λ e d at.
      ap length (own_at g.edges e d at) ∙ machine.well_formed.held e d at
      ∙ sym (ap unsigned_abs (still_weight (length g.vertices) d));
}

-- as many registers as the machine has
own_registers : (ds : List Edge) → ((e : ℕ) (d : Edge) → slice_get ds e ≡ Some d → length d.contents ≡ d.weight)
    → sum_by length (map (λ (x : Edge). x.contents) ds) ≡ sum_by (λ (d : Edge). d.weight) ds
own_registers [] held = refl
own_registers (d ∷ ds) held =
    sum_by-cons length d.contents (map (λ (x : Edge). x.contents) ds)
    ∙ ap₂ (λ a b. a + b) (held 0 d refl) (own_registers ds (λ e x at. held (suc e) x at))
    ∙ sym (sum_by-cons (λ (x : Edge). x.weight) d ds)

-- so they are within the limit
pub own_within : (g : Graph) → IsMachine g → weight_fault (own_contents g) ≡ None
own_within g machine =
    let count = own_registers g.edges machine.well_formed.held in
    let limit = machine.limits.weight in
    let found = register_count (own_contents g) in
    ap (λ b. if b then Some (record { what = Weight; found = min found (2 ^ 64 - 1); most = 65536 }) else None)
    (le-ltb 65536 found (omega (arith, count, limit)))
