-- Lists in the byte order of names.
use Rattle.std.specs.Prelude.{◌≡◌, ℕ, List, [], ◌∷◌}
use Rattle.std.specs.List.{AllByRecursion}
use Rattle.std.specs.List.Sorted.{IsPermutation}
use Rattle.cs_json.specs.Readable.{AreInOrder}

-- just these things, in byte order of their names, no name twice
pub record IsInNameOrder {A : Type 0} (name : A → List ℕ) (things made : List A) : Type 0 where
  pub order : AreInOrder name made
  pub same : IsPermutation things made

-- no two things have one name
abbrev pub AreDistinct : {A : Type 0} → (A → List ℕ) → List A → Type 0
AreDistinct name [] = Unit {0}
AreDistinct name (x ∷ xs) = AllByRecursion (λ y. name x ≡ name y → ⊥) xs × AreDistinct name xs
