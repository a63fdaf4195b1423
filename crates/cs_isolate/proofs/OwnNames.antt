-- The names of a netlist fit its graph for several contexts.
use Rattle.std.proofs.Common.{◌≡◌, ◌∙◌, ◌||◌, ℕ, ◌<◌, Bool, true, cond, List, [], ◌∷◌, Some, None, Option, is_some, map, refl, sym, ap, arith}
use Rattle.std.specs.List.{count_by, list_any}
use Rattle.std.proofs.lemmas.List.Sums.{sum_by-cons}
use Rattle.cs_graph.specs.declared.vertex.Vertex.{Vertex}
use Rattle.cs_graph.specs.declared.vertex.VertexKind.{VertexKind}
use Rattle.cs_graph.specs.Invariant.{kinds}
use Rattle.cs_graph.specs.Kinds.{is_input}
use Rattle.cs_interleave.specs.Interleaved.{interleaved}
use Rattle.cs_modules.specs.declared.clocks.Clock.{Clock}
use Rattle.cs_net.specs.declared.images.Images.{Images}
use Rattle.cs_net.specs.Invariant.{IsWellFormed}
use Rattle.cs_net.specs.Netlist.{Net}
use Rattle.cs_share.specs.Names.{AreNamesFor, is_output}
use Rattle.cs_share.specs.Shared.{has_write, is_write}
use Rattle.cs_isolate.specs.Isolating.{own_names}
use Rattle.cs_isolate.proofs.KindCounts.{counted_interleaved, some_counted}
use Rattle.cs_isolate.proofs.LoweredKinds.{inputs_counted, no_writes_counted, outputs_counted}

by_kinds : (p : VertexKind → Bool) (xs : List Vertex) → count_by (λ (x : Vertex). p x.kind) xs ≡ count_by p (kinds xs)
by_kinds p [] = refl
by_kinds p (x ∷ xs) =
    let left = sum_by-cons (λ (y : Vertex). cond (p y.kind) 1 0) x xs in
    let right = sum_by-cons (λ kind. cond (p kind) 1 0) x.kind (kinds xs) in
    let rest = by_kinds p xs in
    omega (arith, left, right, rest)

any_kind : (p : VertexKind → Bool) (xs : List Vertex) → list_any (λ (x : Vertex). p x.kind) xs ≡ list_any p (kinds xs)
any_kind p [] = refl
any_kind p (x ∷ xs) = ap (λ b. p x.kind || b) (any_kind p xs)

pub own_names_fit : (net : Net) → IsWellFormed net → (images : Images) (c : ℕ)
    → AreNamesFor (interleaved net images c) (own_names net)
own_names_fit net w images c = record {
  net = net;
  well_formed = w;
  of_net = refl;
  inputs = sym (by_kinds is_input (interleaved net images c).vertices ∙ counted_interleaved is_input (λ kind. refl) net images c ∙ inputs_counted net);
  outputs = sym (by_kinds is_output (interleaved net images c).vertices ∙ counted_interleaved is_output (λ kind. refl) net images c ∙ outputs_counted net);
  clock = λ writes. by net.clock refl writes;
}
  where
    by : (clock : Option Clock) → net.clock ≡ clock → has_write (interleaved net images c) ≡ true → is_some net.clock ≡ true
    by (Some clock) is writes = ap is_some is
    by None is writes =
        let some = some_counted is_write (kinds (interleaved net images c).vertices) (sym (any_kind is_write (interleaved net images c).vertices) ∙ writes) in
        let none = counted_interleaved is_write (λ kind. refl) net images c ∙ no_writes_counted net w is in
        absurd (omega (arith, some, none))
