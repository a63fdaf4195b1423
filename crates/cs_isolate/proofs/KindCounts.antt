-- The graph of a netlist for several contexts has as many vertices of a kind that is no gate as the netlist's own graph.
use Rattle.std.proofs.Common.{◌≡◌, ◌∙◌, ℕ, suc, ◌+◌, ◌<◌, Bool, true, false, cond, List, [], ◌∷◌, ◌++◌, Option, length, map, refl, sym, ap, ap₂, arith}
use Rattle.std.specs.List.{count_by, list_any}
use Rattle.std.proofs.lemmas.List.Sums.{sum_by-append, sum_by-cons}
use Rattle.cs_bank.specs.Bank.{bank, bank_by, banked, banked_vertex, first_guard, new_vertices}
use Rattle.cs_bank.specs.ContextBits.{context_pins}
use Rattle.cs_bank.specs.Wired.{wired}
use Rattle.cs_bank.proofs.Answered.{kinds_wired}
use Rattle.cs_bank.proofs.NewGates.{AreGates, new_gates}
use Rattle.cs_cells.specs.declared.gate.Kind.{Kind}
use Rattle.cs_graph.specs.declared.graph.Graph.{Graph}
use Rattle.cs_graph.specs.declared.memory.Memory.{Memory}
use Rattle.cs_graph.specs.declared.source.OpenVertex.{OpenVertex}
use Rattle.cs_graph.specs.declared.source.Source.{Source}
use Rattle.cs_graph.specs.declared.vertex.VertexKind.{VertexKind}
use Rattle.cs_graph.specs.declared.vertex.VertexKind.TheVariants.{Gate}
use Rattle.cs_graph.specs.Draft.{Draft, open_kinds}
use Rattle.cs_graph.specs.Invariant.{kinds}
use Rattle.cs_graph.specs.Slow.{slow}
use Rattle.cs_graph.proofs.BuiltLemmas.{kinds_from}
use Rattle.cs_interleave.specs.Interleaved.{interleaved}
use Rattle.cs_lower.specs.Lowered.{lowered}
use Rattle.cs_net.specs.Contexts.{Image}
use Rattle.cs_net.specs.declared.images.Images.{Images}
use Rattle.cs_net.specs.Netlist.{Net}

-- where one of them is so, their count is above 0
pub some_counted : {A : Type 0} (p : A → Bool) (xs : List A) → list_any p xs ≡ true → 0 < count_by p xs
some_counted p [] some = absurd (let both : false ≡ true = some in cc)
some_counted p (x ∷ xs) some = by (p x) refl (some_counted p xs)
  where
    by : (here : Bool) → p x ≡ here → (list_any p xs ≡ true → 0 < count_by p xs) → 0 < count_by p (x ∷ xs)
    by true is more =
        let count = sum_by-cons (λ y. cond (p y) 1 0) x xs in
        let one : cond (p x) 1 0 ≡ 1 = ap {B = ℕ} (λ b. cond b 1 0) is in
        omega (arith, count, one)
    by false is more =
        let rest : list_any p xs ≡ true = let test : list_any p (x ∷ xs) ≡ true = some in rw is at test in
        let count = sum_by-cons (λ y. cond (p y) 1 0) x xs in
        let rest_counted = more rest in
        omega (arith, count, rest_counted)

module _ (p : VertexKind → Bool) (no_gate : (kind : Kind) → p (Gate kind) ≡ false) where
  none_new : (xs : List OpenVertex) → AreGates xs → count_by p (open_kinds xs) ≡ 0
  none_new [] gates = refl
  none_new (x ∷ xs) gates =
      let first = gates 0 x refl in
      sum_by-cons (λ kind. cond (p kind) 1 0) x.kind (open_kinds xs)
      ∙ ap₂ (λ b n. cond b 1 0 + n) (ap p first.kind ∙ no_gate first.gate) (none_new xs (λ j y at. gates (suc j) y at))

  kinds_stay : (context : List (Option Source)) (v : ℕ) (d : Draft) (xs : List OpenVertex) (new : List OpenVertex)
      → open_kinds (map (banked_vertex context v d) xs ++ new) ≡ open_kinds xs ++ open_kinds new
  kinds_stay context v d [] new = refl
  kinds_stay context v d (x ∷ xs) new = ap (λ ks. x.kind ∷ ks) (kinds_stay context v d xs new)

  counted_banked : (c : ℕ) (entries : List (Option (List Image))) (d : Draft)
      → count_by p (open_kinds (banked c entries d).vertices) ≡ count_by p (open_kinds d.vertices)
  counted_banked c entries d =
      ap (count_by p) (kinds_stay (context_pins c (length d.vertices)) (first_guard c d) d d.vertices (new_vertices c d))
      ∙ sum_by-append (λ kind. cond (p kind) 1 0) (open_kinds d.vertices) (open_kinds (new_vertices c d))
      ∙ (let none = none_new (new_vertices c d) (new_gates c d) in omega (arith, none))

  counted_in_bank : (c : ℕ) (entries : List (Option (List Image))) (g : Graph)
      → count_by p (kinds (bank c entries g).vertices) ≡ count_by p (kinds g.vertices)
  counted_in_bank c entries g = by g.memories
    where
      by : (ms : List Memory) → count_by p (kinds (bank_by ms c entries g).vertices) ≡ count_by p (kinds g.vertices)
      by [] = refl
      by (m ∷ ms) =
          ap (count_by p) (kinds_from 0 (banked c entries (wired g)).vertices)
          ∙ counted_banked c entries (wired g)
          ∙ ap (count_by p) (kinds_wired g.edges g.vertices)

  pub counted_interleaved : (net : Net) (images : Images) (c : ℕ)
      → count_by p (kinds (interleaved net images c).vertices) ≡ count_by p (kinds (lowered net).vertices)
  counted_interleaved net images c = counted_in_bank c images.of (slow c (lowered net))
