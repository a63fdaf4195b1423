-- The nets of a circuit's document give no bit two initial values.
use Rattle.std.proofs.Common.{◌≡◌, ℕ, zero, suc, ◌+◌, List, [], ◌∷◌, Bool, true, false, not, ◌&&◌, Some, refl, sym, ap, subst, ◌∙◌, arith, codes, eqb-true}
use Rattle.std.specs.Prelude.{flat_map, slice_get, ◌==◌}
use Rattle.std.specs.List.{enumerate_from, list_any}
use Rattle.std.specs.List.Sorted.{IsPermutation}
use Rattle.std.proofs.lemmas.List.Sorted.{IsPermutation-sym}
use Rattle.cs_json.specs.declared.document.NetDecl.{NetDecl}
use Rattle.cs_modules.specs.Digits.{digits_at, init_digit}
use Rattle.cs_modules.specs.Modules.{init_values_in}
use Rattle.cs_net.proofs.Members.{Has, has_of_chain, has_of_map, numbered}
use Rattle.cs_circuit.specs.declared.circuit.Circuit.{Circuit}
use Rattle.cs_circuit.specs.declared.circuit.RegisterPart.{RegisterPart}
use Rattle.cs_circuit.specs.Cells.{digit, register_bit, register_net, text_entry}
use Rattle.cs_circuit.specs.Documents.{circuit_nets}
use Rattle.cs_circuit.proofs.Lists.{any_has}
use Rattle.cs_circuit.proofs.Orders.{has_permuted}

-- the digit of a start gives it
digit_given : (v : Bool) → init_digit
    (digits_at (codes "init") (text_entry (codes "init") (digit v ∷ []) ∷ [])) 0 ≡ Some v
digit_given true = refl
digit_given false = refl

only : (v w : Bool) → Has (v ∷ []) w → v ≡ w
only v w (zero, stands) = cc
only v w (suc i, stands) = absurd (cc)

module _ (k : Circuit) where
  -- what the net of register n gives to a bit: its start, where the bit is its own
  net_gives : (b n : ℕ) (r : RegisterPart) (v : Bool) → Has (init_values_in b (register_net k n r)) v
      → (register_bit k n ≡ b) × (r.start ≡ v)
  net_gives b n r v has = by_test (register_bit k n == b) refl
    where
      by_test : (t : Bool) → (register_bit k n == b) ≡ t → (register_bit k n ≡ b) × (r.start ≡ v)
      by_test true is =
          let values : init_values_in b (register_net k n r) ≡ r.start ∷ [] = rw is
          (rw (digit_given r.start) refl) in
          (eqb-true (register_bit k n) b is, only r.start v (subst (λ vs. Has vs v) values has))
      by_test false is =
          let values : init_values_in b (register_net k n r) ≡ [] = rw is refl in
          let none = subst (λ vs. Has vs v) values has in
          let stands = none.1 in absurd (cc)

  module _ (nets : List NetDecl) (same : IsPermutation (circuit_nets k) nets) where
    -- a value that a net gives is the start of the register that drives the bit
    pub given : (b : ℕ) (v : Bool) → Has (flat_map (init_values_in b) nets) v
        → (n : ℕ) × (r : RegisterPart) × (slice_get k.registers n ≡ Some r) × (register_bit k n ≡ b) ×
        (r.start ≡ v)
    given b v has =
        let from = has_of_chain (init_values_in b) nets v has in
        let back = has_permuted nets (circuit_nets k) from.0
        (IsPermutation-sym (circuit_nets k) nets same) from.1 in
        let of = has_of_map (λ (e : ℕ × RegisterPart). register_net k e.0 e.1)
        (enumerate_from 0 k.registers) from.0 back in
        let place = numbered 0 k.registers of.0 of.1 in
        let gives = net_gives b of.0.0 of.0.1 v (subst (λ net. Has (init_values_in b net) v) of.2 from.2) in
        let n : of.0.0 ≡ place.0 = place.1 ∙ omega arith in
        (place.0, of.0.1, place.2, ap (register_bit k) (sym n) ∙ gives.0, gives.1)

    -- all values that nets give to a bit are one
    one_value : (b : ℕ) (v w : Bool) → Has (flat_map (init_values_in b) nets) v → Has
        (flat_map (init_values_in b) nets) w → v ≡ w
    one_value b v w has_v has_w =
        let (n, r, at_n, is_n, v_is) = given b v has_v in
        let (m, q, at_m, is_m, w_is) = given b w has_w in
        let sums : k.first_register + n ≡ k.first_register + m = is_n ∙ sym is_m in
        let equal : n ≡ m = omega (arith, sums) in
        let one : r ≡ q = same_thing (sym at_n ∙ ap (slice_get k.registers) equal ∙ at_m) in
        sym v_is ∙ ap (λ (p : RegisterPart). p.start) one ∙ w_is
      where
        same_thing : {r q : RegisterPart} → Some r ≡ Some q → r ≡ q
        same_thing is = cc

    not_both : (b : ℕ) (s t : Bool) → list_any (λ v. v) (flat_map (init_values_in b) nets) ≡ s
        → list_any not (flat_map (init_values_in b) nets) ≡ t → (s && t) ≡ false
    not_both b false t some_one some_zero = refl
    not_both b true false some_one some_zero = refl
    not_both b true true some_one some_zero =
        let one = any_has (λ v. v) (flat_map (init_values_in b) nets) some_one in
        let zero = any_has not (flat_map (init_values_in b) nets) some_zero in
        let same = one_value b one.0 zero.0 one.1 zero.1 in
        let never : not true ≡ true = ap not (sym one.2 ∙ same) ∙ zero.2 in absurd (cc)

    pub never_two : (b : ℕ)
        → (list_any (λ v. v) (flat_map (init_values_in b) nets) && list_any not
        (flat_map (init_values_in b) nets)) ≡ false
    never_two b =
        not_both b (list_any (λ v. v) (flat_map (init_values_in b) nets))
        (list_any not (flat_map (init_values_in b) nets)) refl refl
