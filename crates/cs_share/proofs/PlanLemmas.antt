-- The parts of a circuit by equal tables.
use Rattle.std.proofs.Common.{◌≡◌, ◌∙◌, ℕ, suc, zero, ◌+◌, List, [], ◌∷◌, drop, Option, Some, None, option_map, find, refl, sym, ap, subst, arith}
use Rattle.std.specs.Prelude.{option_and_then, slice_get}
use Rattle.std.proofs.lemmas.Option.{none-some, same_Some}
use Rattle.cs_base.specs.declared.signal.Signal.{Signal}
use Rattle.cs_graph.specs.declared.edge.Edge.{Edge}
use Rattle.cs_graph.specs.declared.vertex.Vertex.{Vertex}
use Rattle.cs_modules.specs.declared.clocks.Clock.{Clock}
use Rattle.cs_modules.specs.Signals.{is_bit}
use Rattle.cs_prefix.specs.declared.plan.Planned.{Planned}
use Rattle.cs_share.specs.declared.types.Names.{Names}
use Rattle.cs_share.specs.Inputs.{written_among}
use Rattle.cs_share.specs.Planned.{HaveEnds, HaveSources}
use Rattle.cs_share.specs.Ports.{input_signals, numbered_inputs, written_clock}

-- what is left begins with the item at its place
pub dropped_at : {A : Type 0} (xs : List A) (i : ℕ) (x : A) → slice_get xs i ≡ Some x → drop i xs ≡ x ∷ drop (i + 1) xs
dropped_at [] i x at = absurd (none-some x at)
dropped_at {A = A} (y ∷ xs) zero x at =
    let next : 1 ≡ 0 + 1 = omega arith in
    ap (λ (z : A). z ∷ xs) (same_Some y x at) ∙ ap (λ (ys : List A). x ∷ ys) (dropped_none xs ∙ ap (λ k. drop k (y ∷ xs)) next)
  where
    dropped_none : (ys : List A) → ys ≡ drop 0 ys
    dropped_none [] = refl
    dropped_none (z ∷ ys) = refl
dropped_at {A = A} (y ∷ xs) (suc i) x at =
    let next : suc (i + 1) ≡ suc i + 1 = omega arith in
    dropped_at xs i x at ∙ ap (λ k. x ∷ drop k (y ∷ xs)) next

module _ {A : Type 0} (number : A → ℕ) (rising : Clock) where
  both_maps : (o : Option A) → option_map (λ (n : ℕ). let k : Clock = record { bit = n; rising = rising.rising } in k) (option_map number o)
      ≡ option_map (λ (a : A). let k : Clock = record { bit = number a; rising = rising.rising } in k) o
  both_maps None = refl
  both_maps (Some a) = refl

-- the clock among the input bits
pub clock_written : (names : Names) → written_among names.clock (input_signals names.ports) ≡ written_clock names
clock_written names = by names.clock refl
  where
    by : (clock : Option Clock) → names.clock ≡ clock
        → written_among names.clock (input_signals names.ports) ≡ written_clock names
    by None is =
        ap (λ (k : Option Clock). written_among k (input_signals names.ports)) is
        ∙ sym (ap (λ (k : Option Clock). option_and_then
        (λ (clock : Clock). option_map (λ (e : ℕ × Signal). let c : Clock = record { bit = e.0; rising = clock.rising } in c)
        (find (λ (e : ℕ × Signal). is_bit clock.bit e.1) (numbered_inputs names))) k) is)
    by (Some clock) is =
        ap (λ (k : Option Clock). written_among k (input_signals names.ports)) is
        ∙ both_maps (λ (e : ℕ × Signal). e.0) clock (find (λ (e : ℕ × Signal). is_bit clock.bit e.1) (numbered_inputs names))
        ∙ sym (ap (λ (k : Option Clock). option_and_then
        (λ (clock : Clock). option_map (λ (e : ℕ × Signal). let c : Clock = record { bit = e.0; rising = clock.rising } in c)
        (find (λ (e : ℕ × Signal). is_bit clock.bit e.1) (numbered_inputs names))) k) is)

-- the same, of equal numbers
pub have_ends : (vertices : List Vertex) (edges : List Edge) (n n' : List ℕ) (f f' : ℕ) (e e' : List (Option ℕ)) → n' ≡ n → f' ≡ f
    → e' ≡ e → HaveEnds vertices n f e edges → HaveEnds vertices n' f' e' edges
have_ends vertices edges n n' f f' e e' numbers first ends have =
    subst (λ (m : List ℕ). HaveEnds vertices m f' e' edges) (sym numbers)
    (subst (λ (k : ℕ). HaveEnds vertices n k e' edges) (sym first)
    (subst (λ (es : List (Option ℕ)). HaveEnds vertices n f es edges) (sym ends) have))

pub have_sources : (vertices : List Vertex) (n n' : List ℕ) (f f' : ℕ) (r r' : List Planned) → n' ≡ n → f' ≡ f → r' ≡ r
    → HaveSources vertices n f r → HaveSources vertices n' f' r'
have_sources vertices n n' f f' r r' numbers first registers have =
    subst (λ (m : List ℕ). HaveSources vertices m f' r') (sym numbers)
    (subst (λ (k : ℕ). HaveSources vertices n k r') (sym first)
    (subst (λ (rs : List Planned). HaveSources vertices n f rs) (sym registers) have))
