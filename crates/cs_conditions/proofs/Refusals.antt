-- The groups of the early refusals are the conditions in order.
use Rattle.std.proofs.Common.{◌≡◌, Option, Some, None, refl, ap, ◌∙◌, sym}
use Rattle.cs_json.specs.declared.document.Module.{Module}
use Rattle.cs_conditions.specs.declared.error.NetError.{NetError}
use Rattle.cs_conditions.specs.Conditions.{asynchronous, bad_pins, clock_as_data, clock_not_input, const_z, early_refusal, inout, memory_form, mixed_edges, not_fine, of_clock, or_else, two_clocks, two_drivers, two_starts, unknown_cell}
use Rattle.cs_conditions.specs.Refusal.{class_refusal, wiring_refusal}

in_order : {A : Type 0} (u f a p i z t n b c d s r : Option A) →
    or_else (or_else u (or_else f a)) (or_else p (or_else i (or_else (or_else z t) (or_else (or_else n (or_else b (or_else c d))) (or_else s r)))))
    ≡ or_else u (or_else f (or_else a (or_else p (or_else i (or_else z (or_else t (or_else n (or_else b (or_else c (or_else d (or_else s (or_else r None))))))))))))
in_order (Some u) f a p i z t n b c d s r = refl
in_order None (Some f) a p i z t n b c d s r = refl
in_order None None (Some a) p i z t n b c d s r = refl
in_order None None None (Some p) i z t n b c d s r = refl
in_order None None None None (Some i) z t n b c d s r = refl
in_order None None None None None (Some z) t n b c d s r = refl
in_order None None None None None None (Some t) n b c d s r = refl
in_order None None None None None None None (Some n) b c d s r = refl
in_order None None None None None None None None (Some b) c d s r = refl
in_order None None None None None None None None None (Some c) d s r = refl
in_order None None None None None None None None None None (Some d) s r = refl
in_order None None None None None None None None None None None (Some s) r = refl
in_order None None None None None None None None None None None None (Some r) = refl
in_order None None None None None None None None None None None None None = refl

grouped : (m : Module) → or_else (class_refusal m) (wiring_refusal m) ≡ early_refusal m
unfolding early_refusal
grouped m =
    in_order (unknown_cell m) (not_fine m) (asynchronous m) (bad_pins m) (inout m) (const_z m) (two_drivers m) (clock_not_input m)
    (of_clock two_clocks m) (of_clock mixed_edges m) (of_clock clock_as_data m) (two_starts m) (memory_form m)

pub class_first : (m : Module) (e : NetError) → class_refusal m ≡ Some e → Some e ≡ early_refusal m
class_first m e first = sym (ap (λ o. or_else o (wiring_refusal m)) first) ∙ grouped m

pub wiring_next : (m : Module) → class_refusal m ≡ None → wiring_refusal m ≡ early_refusal m
wiring_next m none = sym (ap (λ o. or_else o (wiring_refusal m)) none) ∙ grouped m

-- where none of them holds, pins are right
pub no_bad_pins : (m : Module) → early_refusal m ≡ None → bad_pins m ≡ None
no_bad_pins m none = by (class_refusal m) (bad_pins m) _ (grouped m ∙ none)
  where
    by : (a b rest : Option NetError) → or_else a (or_else b rest) ≡ None → b ≡ None
    by (Some e) b rest h = absurd (cc)
    by None (Some e) rest h = absurd (cc)
    by None None rest h = refl

-- and no bit is driven twice
pub no_two_drivers : (m : Module) → early_refusal m ≡ None → two_drivers m ≡ None
unfolding early_refusal
no_two_drivers m none =
    by (unknown_cell m) (not_fine m) (asynchronous m) (bad_pins m) (inout m) (const_z m) (two_drivers m) _ none
  where
    by : {A : Type 0} (u f a p i z t rest : Option A) → or_else u (or_else f (or_else a (or_else p (or_else i (or_else z (or_else t rest)))))) ≡ None → t ≡ None
    by (Some u) f a p i z t rest h = absurd (cc)
    by None (Some f) a p i z t rest h = absurd (cc)
    by None None (Some a) p i z t rest h = absurd (cc)
    by None None None (Some p) i z t rest h = absurd (cc)
    by None None None None (Some i) z t rest h = absurd (cc)
    by None None None None None (Some z) t rest h = absurd (cc)
    by None None None None None None (Some t) rest h = absurd (cc)
    by None None None None None None None rest h = refl
