-- What checks find item by item.
use Rattle.std.proofs.Common.{◌≡◌, ℕ, zero, suc, ◌+◌, ◌*◌, ◌/◌, ◌%◌, ◌<◌, ◌≤◌, ◌⊎◌, Bool, true, false, List, [], ◌∷◌, length, get_or, drop, refl, sym, ap, subst, ◌∙◌, inl, inr, arith}
use Rattle.std.specs.Prelude.{slice_get, Option, Some, None}
use Rattle.std.specs.List.{AllByRecursion}
use Rattle.std.proofs.lemmas.Bool.{cases_lt}
use Rattle.std.proofs.lemmas.Option.{none-some, slice_get_within}
use Rattle.std.proofs.lemmas.Nat.{div-add-mod'}
use Rattle.cs_graph.specs.declared.edge.Edge.{Edge}
use Rattle.cs_graph.specs.declared.graph.Graph.{Graph}
use Rattle.cs_graph.specs.Past.{IsSlowedBy}
use Rattle.cs_bank.proofs.Counted.{drop_past}
use Rattle.cs_bank.proofs.Lists.{drop_at}

-- the weights of the edges below i are multiples of c
abbrev pub AreMultiples : ℕ → List Edge → ℕ → Type 0
AreMultiples c es i = (e : ℕ) (d : Edge) → e < i → slice_get es e ≡ Some d → d.weight % c ≡ 0

weight_of : Option Edge → ℕ
weight_of None = 0
weight_of (Some d) = d.weight

pub slowed_by : (c : ℕ) (g : Graph) (i : ℕ) → length g.edges ≤ i → AreMultiples c g.edges i → IsSlowedBy c g
unfolding weight_of
slowed_by c g i all are = record {
  turns = λ e. weight_of (slice_get g.edges e) / c;
  are = λ e d found.
      let within = slice_get_within g.edges e d found in
      let none = are e d (omega (arith, within, all)) found in
      let whole = div-add-mod' d.weight c in
      let same : d.weight ≡ d.weight / c * c = omega (arith, none, whole) in
      same ∙ sym (ap (λ o. weight_of o / c * c) found);
}

pub zero_past : (bits : List Bool) (i : ℕ) → length bits ≤ i → get_or bits i false ≡ false
zero_past [] zero low = refl
zero_past [] (suc i) low = refl
zero_past (b ∷ bits) zero low = absurd (omega (arith, low))
zero_past (b ∷ bits) (suc i) low = zero_past bits i (omega (arith, low))

pub all_more : {A : Type 0} (P : A → Type 0) (xs : List A) (i : ℕ) (x : A) → slice_get xs i ≡ Some x → P x
    → (AllByRecursion P (drop i xs) → AllByRecursion P xs) → AllByRecursion P (drop (i + 1) xs) → AllByRecursion P xs
all_more P xs i x found is so_far rest =
    so_far (subst (AllByRecursion P) (sym (drop_at xs i x found)) (is, rest))

pub all_ends : {A : Type 0} (P : A → Type 0) (xs : List A) (i : ℕ) → length xs ≤ i
    → (AllByRecursion P (drop i xs) → AllByRecursion P xs) → AllByRecursion P xs
all_ends P xs i all so_far = so_far (subst (AllByRecursion P) (sym (drop_past xs i all)) tt)
