use Rattle.std.proofs.Common.{◌≡◌, ℕ, drop, nat_eq}
use Rattle.std.specs.Option.{option_or}
use Rattle.std.specs.List.{position_from}
use Rattle.std.specs.HashMap.{get}
use Rattle.cs_modules.specs.Signals.{is_bit}
use Rattle.cs_modules.specs.Places.{place_of}
use Rattle.cs_modules.proofs.places.firsts_among.Given as goal

-- a bit that is not found yet is looked for in what is left
abbrev pub invariant-loop-place : goal.invariant-loop-place
invariant-loop-place l = (b : ℕ) →
    option_or (get nat_eq l.firsts b) (position_from (is_bit b) l.place (drop l.place l.signals)) ≡ place_of b l.signals
