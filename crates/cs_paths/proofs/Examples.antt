-- Worked rows of what is kept of a pair.
use Rattle.std.proofs.Common.{◌≡◌, ◌∷◌, [], refl, inl, inr, arith}
use Rattle.std.specs.Prelude.{Some, None}
use Rattle.cs_paths.specs.Reaches.{no_reach, reach_of, known_at}
use Rattle.cs_paths.specs.Searches.{IsAsGood}
use Rattle.cs_paths.specs.Waitings.{IsUpTo}

-- a pair without a path, and one with W 1 and D 6
nothing_kept : reach_of no_reach ≡ None
nothing_kept = refl

something_kept : known_at (no_reach ∷ record { weight = 1; delay = 6 } ∷ []) 1 ≡ Some (1, 6)
something_kept = refl

-- fewer registers are better whatever the delays, and as many with a greater delay
fewer_registers : IsAsGood (0, 2) (1, 9)
fewer_registers = inl (omega arith)

greater_delay : IsAsGood (1, 9) (1, 2)
greater_delay = inr (refl, omega arith)

-- among those with as many registers the earlier place comes first
earlier_place : IsUpTo (1, 3) (1, 5)
earlier_place = inr (refl, omega arith)
