-- Two lists of signals, with what drives each in the netlist and among the vertices, agree place by place.
use Rattle.std.proofs.Common.{◌≡◌, ℕ, ◌+◌, Bool, true, false, cond, List, [], ◌∷◌, ◌++◌, length, Option, Some, find, option_map, unwrap_or, refl, sym, ap, subst, ◌∙◌}
use Rattle.std.specs.List.{AllByRecursion, flat_map}
use Rattle.std.proofs.lemmas.Bool.{eqb-true}
use Rattle.cs_base.specs.declared.signal.Signal.{Signal}
use Rattle.cs_base.specs.declared.signal.Signal.TheVariants.{Zero, One, Unknown, HighZ, Bit}
use Rattle.cs_modules.specs.Signals.{is_bit}
use Rattle.cs_net.specs.Drivers.{DrivenSignal, Driver, undriven as driven_by_none}
use Rattle.cs_net.specs.Netlist.{Net}
use Rattle.cs_lower.specs.Matching.{Matches}
use Rattle.cs_lower.specs.declared.taps.Wire.{Wire}
use Rattle.cs_lower.specs.declared.taps.Wire.TheVariants.{Undriven as undriven}
use Rattle.cs_lower.specs.declared.taps.Piece.{Piece}
use Rattle.cs_lower.specs.declared.taps.Parts.{Parts}
use Rattle.cs_lower.specs.Taps.{in_turn}
use Rattle.cs_lower.specs.Wires.{parts_of}
use Rattle.cs_lower.proofs.StandLemmas.{IsPart, part_left, part_right}

-- the same signals in the same order, and what drives each is the same
abbrev pub AreMatched : Net → List DrivenSignal → List (Signal × Wire) → Type 0
AreMatched net [] [] = Unit {0}
AreMatched net [] (w ∷ wires) = ⊥
AreMatched net (d ∷ drivers) [] = ⊥
AreMatched net (d ∷ drivers) (w ∷ wires) = (d.0 ≡ w.0) × Matches net d.0 d.1 w.1 × AreMatched net drivers wires

-- these pieces stand among the netlist's from a number on
abbrev pub StandsIn : Net → ℕ → List Piece → Type 0
StandsIn net n pieces = IsPart (parts_of net).pieces n pieces

pub matched_append : (net : Net) (ds es : List DrivenSignal) (ws vs : List (Signal × Wire)) → AreMatched net ds ws
    → AreMatched net es vs → AreMatched net (ds ++ es) (ws ++ vs)
matched_append net [] es [] vs first rest = rest
matched_append net [] es (w ∷ ws) vs first rest = absurd first
matched_append net (d ∷ ds) es [] vs first rest = absurd first
matched_append net (d ∷ ds) es (w ∷ ws) vs first rest =
    (first.0, first.1, matched_append net ds es ws vs first.2 rest)

-- parts that follow one another, each of which is matched where it stands
pub matched_in_turn : {A : Type 0} (net : Net) (drives : A → List DrivenSignal) (parts : ℕ → A → Parts) (n : ℕ) (xs : List A)
    → AllByRecursion (λ x. (k : ℕ) → StandsIn net k (parts k x).pieces → AreMatched net (drives x) (parts k x).wires) xs
    → StandsIn net n (in_turn parts n xs).pieces → AreMatched net (flat_map drives xs) (in_turn parts n xs).wires
matched_in_turn net drives parts n [] each stands = tt
matched_in_turn net drives parts n (x ∷ xs) each stands =
    let rest : List Piece = (in_turn parts (n + length (parts n x).pieces) xs).pieces in
    matched_append net (drives x) (flat_map drives xs) (parts n x).wires
    (in_turn parts (n + length (parts n x).pieces) xs).wires
    (each.0 n (part_left (parts_of net).pieces n (parts n x).pieces rest stands))
    (matched_in_turn net drives parts (n + length (parts n x).pieces) xs each.1
    (part_right (parts_of net).pieces n (parts n x).pieces rest stands))

-- ---- what drives a bit is the first that holds it

abbrev found_driver : Option DrivenSignal → Driver
found_driver found = unwrap_or (option_map (λ d. d.1) found) driven_by_none

abbrev found_wire : Option (Signal × Wire) → Wire
found_wire found = unwrap_or (option_map (λ w. w.1) found) undriven

holds : (b : ℕ) (s : Signal) → is_bit b s ≡ true → s ≡ Bit b
holds b Zero is = cc
holds b One is = cc
holds b Unknown is = cc
holds b HighZ is = cc
holds b (Bit a) is = ap Bit (eqb-true a b is)

pub found_match : (net : Net) (ds : List DrivenSignal) (ws : List (Signal × Wire)) (b : ℕ) → AreMatched net ds ws
    → Matches net (Bit b) (found_driver (find (λ d. is_bit b d.0) ds)) (found_wire (find (λ w. is_bit b w.0) ws))
found_match net [] [] b matched = tt
found_match net [] (w ∷ ws) b matched = absurd matched
found_match net (d ∷ ds) [] b matched = absurd matched
found_match net (d ∷ ds) (w ∷ ws) b matched =
    by (is_bit b d.0) refl (is_bit b w.0) (ap (is_bit b) (sym matched.0)) (found_match net ds ws b matched.2)
  where
    by : (here : Bool) → is_bit b d.0 ≡ here → (there : Bool) → there ≡ is_bit b d.0
        → Matches net (Bit b) (found_driver (find (λ d. is_bit b d.0) ds)) (found_wire (find (λ w. is_bit b w.0) ws))
        → Matches net (Bit b) (found_driver (cond here (Some d) (find (λ d. is_bit b d.0) ds)))
        (found_wire (cond there (Some w) (find (λ w. is_bit b w.0) ws)))
    by true is true same rest = subst (λ q. Matches net q d.1 w.1) (holds b d.0 is) matched.1
    by true is false same rest = let clash : false ≡ true = same ∙ is in cc
    by false is true same rest = let clash : true ≡ false = same ∙ is in cc
    by false is false same rest = rest
