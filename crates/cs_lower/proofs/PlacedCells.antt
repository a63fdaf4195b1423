-- Cells by the number of their memory: it is the place of its shape among the memories' shapes, and no other's.
use Rattle.std.proofs.Common.{◌≡◌, ℕ, zero, suc, ◌+◌, ◌<◌, ◌≤◌, List, [], ◌∷◌, ◌++◌, map, Option, Some, None, flat_map, refl, ap, ap₂, ◌∙◌, arith}
use Rattle.std.specs.Prelude.{get_or, slice_get}
use Rattle.std.specs.List.{zip}
use Rattle.std.proofs.lemmas.List.{append-nil}
use Rattle.std.proofs.lemmas.Option.{none-some, same_Some}
use Rattle.cs_cells.specs.declared.memory.MemShape.{MemShape}
use Rattle.cs_modules.specs.Memories.{shapes_in}
use Rattle.cs_net.specs.declared.netlist.Cell.{Cell}
use Rattle.cs_net.specs.Build.{places_from}
use Rattle.cs_lower.specs.Cells.{Placed}

-- these cells where j memories stand before them
abbrev pub placed_from : ℕ → List Cell → List (Option MemShape) → List Placed
placed_from j cells shapes =
    map (λ c. record { cell = c.0; shape = c.1.0; memory = c.1.1 }) (zip cells (zip shapes (places_from j shapes)))

abbrev pub placed : Cell → Option MemShape → ℕ → Placed
placed cell shape memory = record {
  cell = cell;
  shape = shape;
  memory = memory;
}

-- each cell stands at its place, with its shape and the number of memories before it
pub placed_at : (j : ℕ) (cells : List Cell) (shapes : List (Option MemShape)) (k : ℕ) (cell : Cell)
    (shape : Option MemShape) → slice_get cells k ≡ Some cell → slice_get shapes k ≡ Some shape
    → slice_get (placed_from j cells shapes) k ≡ Some (placed cell shape (get_or (places_from j shapes) k 0))
placed_at j [] shapes k cell shape at at' = absurd (none-some cell at)
placed_at j (x ∷ cells) [] k cell shape at at' = absurd (none-some shape at')
placed_at j (x ∷ cells) (None ∷ shapes) zero cell shape at at' =
    ap₂ (λ c s. Some (placed c s j)) (same_Some x cell at) (same_Some None shape at')
placed_at j (x ∷ cells) (Some s ∷ shapes) zero cell shape at at' =
    ap₂ (λ c s. Some (placed c s j)) (same_Some x cell at) (same_Some (Some s) shape at')
placed_at j (x ∷ cells) (None ∷ shapes) (suc k) cell shape at at' = placed_at j cells shapes k cell shape at at'
placed_at j (x ∷ cells) (Some s ∷ shapes) (suc k) cell shape at at' =
    placed_at (j + 1) cells shapes k cell shape at at'

-- no cell has a number of one of the memories before
pub not_before : (j : ℕ) (cells : List Cell) (shapes : List (Option MemShape)) (k : ℕ) (c : Placed)
    → slice_get (placed_from j cells shapes) k ≡ Some c → j ≤ c.memory
not_before j [] shapes k c at = absurd (none-some c at)
not_before j (x ∷ cells) [] k c at = absurd (none-some c at)
not_before j (x ∷ cells) (None ∷ shapes) zero c at =
    let same = ap (λ p. p.memory) (same_Some (placed x None j) c at) in omega (arith, same)
not_before j (x ∷ cells) (None ∷ shapes) (suc k) c at = not_before j cells shapes k c at
not_before j (x ∷ cells) (Some s ∷ shapes) zero c at =
    let same = ap (λ p. p.memory) (same_Some (placed x (Some s) j) c at) in omega (arith, same)
not_before j (x ∷ cells) (Some s ∷ shapes) (suc k) c at =
    let rest = not_before (j + 1) cells shapes k c at in omega (arith, rest)

-- a memory's shape stands at its place
pub shape_at : (j : ℕ) (cells : List Cell) (shapes : List (Option MemShape)) (k q : ℕ) (c : Placed) (shape : MemShape)
    → slice_get (placed_from j cells shapes) k ≡ Some c → c.shape ≡ Some shape → c.memory ≡ j + q
    → slice_get (shapes_in shapes) q ≡ Some shape
shape_at j [] shapes k q c shape at is number = absurd (none-some c at)
shape_at j (x ∷ cells) [] k q c shape at is number = absurd (none-some c at)
shape_at j (x ∷ cells) (None ∷ shapes) zero q c shape at is number =
    absurd (none-some shape (ap (λ p. p.shape) (same_Some (placed x None j) c at) ∙ is))
shape_at j (x ∷ cells) (None ∷ shapes) (suc k) q c shape at is number = shape_at j cells shapes k q c shape at is number
shape_at j (x ∷ cells) (Some s ∷ shapes) zero zero c shape at is number =
    ap (λ p. p.shape) (same_Some (placed x (Some s) j) c at) ∙ is
shape_at j (x ∷ cells) (Some s ∷ shapes) zero (suc q) c shape at is number =
    let same = ap (λ p. p.memory) (same_Some (placed x (Some s) j) c at) in absurd (omega (arith, same, number))
shape_at j (x ∷ cells) (Some s ∷ shapes) (suc k) zero c shape at is number =
    let later = not_before (j + 1) cells shapes k c at in absurd (omega (arith, later, number))
shape_at j (x ∷ cells) (Some s ∷ shapes) (suc k) (suc q) c shape at is number =
    shape_at (j + 1) cells shapes k q c shape at is (omega (arith, number))

-- ---- what is made of the memory of a number alone

pub record IsOfMemory {B : Type 0} (i : ℕ) (made : Placed → List B) : Type 0 where
  pub none : (cell : Cell) (memory : ℕ) → made (placed cell None memory) ≡ []
  pub others : (cell : Cell) (shape : MemShape) (memory : ℕ) → (memory ≡ i → ⊥)
      → made (placed cell (Some shape) memory) ≡ []

module _ {B : Type 0} (i : ℕ) (made : Placed → List B) (of_memory : IsOfMemory i made) where
  none_later : (j : ℕ) (cells : List Cell) (shapes : List (Option MemShape)) → i < j
      → flat_map made (placed_from j cells shapes) ≡ []
  none_later j [] shapes later = refl
  none_later j (x ∷ cells) [] later = refl
  none_later j (x ∷ cells) (None ∷ shapes) later =
      ap₂ (λ a b. a ++ b) (of_memory.none x j) (none_later j cells shapes later)
  none_later j (x ∷ cells) (Some s ∷ shapes) later =
      ap₂ (λ a b. a ++ b) (of_memory.others x s j (λ same. absurd (omega (arith, same, later))))
      (none_later (j + 1) cells shapes (omega (arith, later)))

  -- all of it is made of the cell whose memory it is
  pub made_of_one : (j : ℕ) (cells : List Cell) (shapes : List (Option MemShape)) (k : ℕ) (c : Placed) (shape : MemShape)
      → slice_get (placed_from j cells shapes) k ≡ Some c → c.shape ≡ Some shape → c.memory ≡ i
      → flat_map made (placed_from j cells shapes) ≡ made c
  made_of_one j [] shapes k c shape at is number = absurd (none-some c at)
  made_of_one j (x ∷ cells) [] k c shape at is number = absurd (none-some c at)
  made_of_one j (x ∷ cells) (None ∷ shapes) zero c shape at is number =
      absurd (none-some shape (ap (λ p. p.shape) (same_Some (placed x None j) c at) ∙ is))
  made_of_one j (x ∷ cells) (None ∷ shapes) (suc k) c shape at is number =
      ap₂ (λ a b. a ++ b) (of_memory.none x j) (made_of_one j cells shapes k c shape at is number)
  made_of_one j (x ∷ cells) (Some s ∷ shapes) zero c shape at is number =
      let here : placed x (Some s) j ≡ c = same_Some (placed x (Some s) j) c at in
      let same : j ≡ i = ap (λ p. p.memory) here ∙ number in
      ap₂ (λ a b. a ++ b) (ap made here) (none_later (j + 1) cells shapes (omega (arith, same))) ∙ append-nil (made c)
  made_of_one j (x ∷ cells) (Some s ∷ shapes) (suc k) c shape at is number =
      let later = not_before (j + 1) cells shapes k c at in
      ap₂ (λ a b. a ++ b) (of_memory.others x s j (λ same. absurd (omega (arith, same, later, number))))
      (made_of_one (j + 1) cells shapes k c shape at is number)
