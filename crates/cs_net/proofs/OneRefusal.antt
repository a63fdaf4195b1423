-- A document has at most one refusal, but for which loop is named.
use Rattle.std.proofs.Common.{◌≡◌, ◌∙◌, ◌⊎◌, inl, inr, List, [], ◌∷◌, None, Option, Some, ap, ap₂, option_map, refl, sym, true, ℕ}
use Rattle.std.specs.Prelude.{MatchOption}
use Rattle.cs_conditions.specs.declared.error.NetError.{NetError}
use Rattle.cs_conditions.specs.declared.error.NetError.TheVariants.{Asynchronous, BadPins, ClockAsData, ClockNotInput, ConstZ, GateLoop, Inout, Limit, MemoryForm, MixedEdges, NoMemory, NoTop, NotFine, Reserved, TwoClocks, TwoDrivers, TwoStarts, UnknownCell}
use Rattle.cs_conditions.specs.Conditions.{early_refusal, or_else, reserved}
use Rattle.cs_json.specs.declared.document.Document.{Document}
use Rattle.cs_json.specs.declared.document.Module.{Module}
use Rattle.cs_modules.specs.Modules.{top_of}
use Rattle.cs_net.specs.Accept.{HasNoLoop, Refuses, RefusesLate, RefusesModule, is_loop, limit_fault}
use Rattle.cs_net.specs.Build.{net_of}

-- two refusals are one, or both name a loop
abbrev pub AreOne : NetError → NetError → Type 0
AreOne e f = (e ≡ f) ⊎ ((is_loop e ≡ true) × (is_loop f ≡ true))

-- the refusal by the conditions 16 and 17
without_loop : Module → Option NetError
without_loop m = or_else (reserved m) (option_map Limit (limit_fault (net_of m)))

-- a loop, or without one the first of the conditions 16 and 17
ByLoop : Module → NetError → Type 0
ByLoop m e =
    ((is_loop e ≡ true) × (HasNoLoop (net_of m) → ⊥)) ⊎ (HasNoLoop (net_of m) × (without_loop m ≡ Some e))

by_loop : (m : Module) (e : NetError) → RefusesLate m e → ByLoop m e
unfolding ByLoop without_loop
by_loop m (GateLoop []) h = absurd h
by_loop m (GateLoop (first ∷ rest)) h = inl (refl, λ no_loop. no_loop h.0 h.1.loop)
by_loop m (Reserved port) h = inr (h.0, ap (λ o. or_else o (option_map Limit (limit_fault (net_of m)))) h.1)
by_loop m (Limit fault) h = inr (h.0, ap₂ (λ o l. or_else o (option_map Limit l)) h.1 h.2)
by_loop m NoTop h = absurd h
by_loop m (UnknownCell name kind) h = absurd h
by_loop m (NotFine name kind) h = absurd h
by_loop m (Asynchronous name kind) h = absurd h
by_loop m (BadPins name) h = absurd h
by_loop m (Inout port) h = absurd h
by_loop m (ConstZ name) h = absurd h
by_loop m (TwoDrivers bit) h = absurd h
by_loop m (ClockNotInput signal) h = absurd h
by_loop m (TwoClocks first second) h = absurd h
by_loop m (MixedEdges name) h = absurd h
by_loop m (ClockAsData bit) h = absurd h
by_loop m (TwoStarts bit) h = absurd h
by_loop m (MemoryForm name parameter) h = absurd h
by_loop m NoMemory h = absurd h

late_one : (m : Module) (e f : NetError) → ByLoop m e → ByLoop m f → AreOne e f
unfolding ByLoop
late_one m e f (inl a) (inl b) = inr (a.0, b.0)
late_one m e f (inl a) (inr b) = absurd (a.1 b.0)
late_one m e f (inr a) (inl b) = absurd (b.1 a.0)
late_one m e f (inr a) (inr b) = let both : Some e ≡ Some f = sym a.1 ∙ b.1 in let same : e ≡ f = cc in inl same

pub one_refusal : (doc : Document) (top : Option (List ℕ)) (e f : NetError) → Refuses doc top e → Refuses doc top f
    → AreOne e f
one_refusal doc top e f a b = by (top_of doc top) a b
  where
    of_module : (m : Module) (early : Option NetError) → MatchOption early (RefusesLate m e) (λ first. e ≡ first)
        → MatchOption early (RefusesLate m f) (λ first. f ≡ first) → AreOne e f
    of_module m None h k = late_one m e f (by_loop m e h) (by_loop m f k)
    of_module m (Some first) h k = inl (h ∙ sym k)

    by : (found : Option Module) → MatchOption found (e ≡ NoTop) (λ m. RefusesModule m e)
        → MatchOption found (f ≡ NoTop) (λ m. RefusesModule m f) → AreOne e f
    by None h k = inl (h ∙ sym k)
    by (Some m) h k = of_module m (early_refusal m) h k
