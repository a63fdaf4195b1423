-- Walks by hand: cells 4, 7, 4, 2, each fed by the next, and the last by the first.
use Rattle.std.proofs.Common.{◌≡◌, ℕ, List, [], ◌∷◌, Some, None, refl}
use Rattle.cs_net.specs.Loops.{AreNext, IsAtEnd, last_place}

abbrev walk : List ℕ
walk = 4 ∷ 7 ∷ 4 ∷ 2 ∷ []

-- the walk comes to 4 twice, and a shortcut goes on from the second time
stands_twice : last_place 4 walk ≡ Some 2
stands_twice = refl

stands_once : last_place 7 walk ≡ Some 1
stands_once = refl

stands_nowhere : last_place 3 walk ≡ None
stands_nowhere = refl

-- so 4, 2 is a step of it, and 2 its end
goes_on : AreNext walk 4 2
goes_on = (2, refl, refl)

ends : IsAtEnd walk 2
ends = (3, refl, refl)
