-- Memories of words and shapes, one after the other.
use Rattle.std.proofs.Common.{◌≡◌, ◌∙◌, ◌+◌, ◌<◌, ◌≤◌, ◌++◌, ◌∷◌, ℕ, zero, suc, [], List, Some, None, Option, ap, append_assoc, drop, get_or, length, length-append, map, refl, subst, sym}
use Rattle.std.specs.Prelude.{slice_get}
use Rattle.std.specs.List.{AllByRecursion, zip}
use Rattle.std.proofs.lemmas.List.{append-nil, drop_all, drop_more}
use Rattle.std.proofs.lemmas.Option.{get_or_from_slice_get, none-some, slice_get_within}
use Rattle.cs_cells.specs.declared.memory.MemShape.{MemShape}
use Rattle.cs_graph.specs.Invariant.{IsMemory}
use Rattle.cs_modules.specs.Memories.{shapes_in}
use Rattle.cs_net.specs.declared.state.MemoryWords.{MemoryWords}
use Rattle.cs_graph.specs.declared.memory.Memory.{Memory}
use Rattle.cs_lower.specs.Lowered.{memory_of, next_memory}

rest_at : {A : Type 0} (xs : List A) (n : ℕ) (x : A) → slice_get xs n ≡ Some x → drop n xs ≡ x ∷ drop (n + 1) xs
rest_at xs n x at =
    drop_more xs n x (slice_get_within xs n x at) ∙ ap (λ y. y ∷ drop (n + 1) xs) (get_or_from_slice_get xs n x x at)

none_at : {A : Type 0} (xs : List A) (n : ℕ) → slice_get xs n ≡ None → drop n xs ≡ []
none_at [] zero at = refl
none_at [] (suc n) at = refl
none_at (y ∷ ys) zero at = absurd (none-some y (sym at))
none_at (y ∷ ys) (suc n) at = none_at ys n at

-- the memories so far, with those that are left
abbrev pub with_rest : List Memory → List MemoryWords → List MemShape → List Memory
with_rest made words shapes = made ++ map memory_of (zip (drop (length made) words) shapes)

abbrev pub AreMemories : List MemoryWords → List MemShape → Type 0
AreMemories words shapes = AllByRecursion (λ m. IsMemory (memory_of m)) (zip words shapes)

module _ (words : List MemoryWords) (made : List Memory) (shape : MemShape) (shapes : List MemShape) where
  more_made : (w : MemoryWords) → length (made ++ memory_of (w, shape) ∷ []) ≡ length made + 1
  more_made w = length-append made (memory_of (w, shape) ∷ [])

  pub next_made : with_rest made words (shape ∷ shapes)
      ≡ with_rest (made ++ next_memory shape (slice_get words (length made))) words shapes
  next_made = by (slice_get words (length made)) refl
    where
      by : (o : Option MemoryWords) → slice_get words (length made) ≡ o
          → with_rest made words (shape ∷ shapes) ≡ with_rest (made ++ next_memory shape o) words shapes
      by None at =
          ap (λ ws. made ++ map memory_of (zip ws (shape ∷ shapes))) (none_at words (length made) at)
          ∙ sym (ap (λ ms. ms ++ map memory_of (zip (drop (length ms) words) shapes)) (append-nil made)
          ∙ ap (λ ws. made ++ map memory_of (zip ws shapes)) (none_at words (length made) at))
      by (Some w) at =
          ap (λ ws. made ++ map memory_of (zip ws (shape ∷ shapes))) (rest_at words (length made) w at)
          ∙ sym (append_assoc made (memory_of (w, shape) ∷ []) (map memory_of (zip (drop (length made + 1) words) shapes)))
          ∙ sym (ap (λ n. (made ++ memory_of (w, shape) ∷ []) ++ map memory_of (zip (drop n words) shapes)) (more_made w))

  pub next_is : AreMemories (drop (length made) words) (shape ∷ shapes) → (w : MemoryWords)
      → slice_get words (length made) ≡ Some w → IsMemory (memory_of (w, shape))
  next_is all w at =
      (subst (λ ws. AreMemories ws (shape ∷ shapes)) (rest_at words (length made) w at) all).0

  pub rest_are : AreMemories (drop (length made) words) (shape ∷ shapes)
      → AreMemories (drop (length (made ++ next_memory shape (slice_get words (length made)))) words) shapes
  rest_are all = by (slice_get words (length made)) refl
    where
      by : (o : Option MemoryWords) → slice_get words (length made) ≡ o
          → AreMemories (drop (length (made ++ next_memory shape o)) words) shapes
      by None at =
          subst (λ ms. AreMemories (drop (length ms) words) shapes) (sym (append-nil made))
          (subst (λ ws. AreMemories ws shapes) (sym (none_at words (length made) at)) tt)
      by (Some w) at =
          subst (λ n. AreMemories (drop n words) shapes) (sym (more_made w))
          (subst (λ ws. AreMemories ws (shape ∷ shapes)) (rest_at words (length made) w at) all).1

-- the shape at a place, or none, and those from the next place on
pub shapes_at : (shapes : List (Option MemShape)) (i : ℕ) (item : Option MemShape) → i < length shapes
    → item ≡ get_or shapes i item → drop i shapes ≡ item ∷ drop (i + 1) shapes
shapes_at shapes i item below is =
    drop_more shapes i item below ∙ ap (λ s. s ∷ drop (i + 1) shapes) (sym is)

-- ---- the shapes so far

-- the memories so far and those of the shapes from place i on are all, and those that are left fit
abbrev pub SoFar : List MemoryWords → List (Option MemShape) → ℕ → List Memory → Type 0
SoFar words shapes i made =
    (with_rest made words (shapes_in (drop i shapes)) ≡ map memory_of (zip words (shapes_in shapes)))
    × AreMemories (drop (length made) words) (shapes_in (drop i shapes))

module _ (words : List MemoryWords) (shapes : List (Option MemShape)) (i : ℕ) (made : List Memory)
    (so_far : SoFar words shapes i made)
  where
    pub all_made : length shapes ≤ i → made ≡ map memory_of (zip words (shapes_in shapes))
    all_made past =
        let left = drop (length made) words in
        sym (append-nil made)
        ∙ ap (λ ms. made ++ map memory_of ms) (sym (zip_none left))
        ∙ ap (λ ss. with_rest made words (shapes_in ss)) (sym (drop_all i shapes past))
        ∙ so_far.0
      where
        zip_none : (xs : List MemoryWords) → zip xs (shapes_in []) ≡ []
        zip_none [] = refl
        zip_none (x ∷ xs) = refl

    module _ (item : Option MemShape) (below : i < length shapes) (is : item ≡ get_or shapes i item) where
      pub no_shape : item ≡ None → (new : List Memory) → new ≡ made → SoFar words shapes (i + 1) new
      no_shape none new same =
          let here = shapes_at shapes i item below is ∙ ap (λ s. s ∷ drop (i + 1) shapes) none in (
            ap (λ ms. with_rest ms words (shapes_in (drop (i + 1) shapes))) same
                ∙ ap (λ ss. with_rest made words (shapes_in ss)) (sym here)
                ∙ so_far.0,
            subst (λ ms. AreMemories (drop (length ms) words) (shapes_in (drop (i + 1) shapes))) (sym same)
                (subst (λ ss. AreMemories (drop (length made) words) (shapes_in ss)) here so_far.1),
          )

      module _ (shape : MemShape) (some : item ≡ Some shape) where
        here : drop i shapes ≡ Some shape ∷ drop (i + 1) shapes
        here = shapes_at shapes i item below is ∙ ap (λ s. s ∷ drop (i + 1) shapes) some

        these : AreMemories (drop (length made) words) (shape ∷ shapes_in (drop (i + 1) shapes))
        these = subst (λ ss. AreMemories (drop (length made) words) (shapes_in ss)) here so_far.1

        pub this_is : (w : MemoryWords) → slice_get words (length made) ≡ Some w → IsMemory (memory_of (w, shape))
        this_is = next_is words made shape (shapes_in (drop (i + 1) shapes)) these

        pub shape_made : (new : List Memory) → new ≡ made ++ next_memory shape (slice_get words (length made))
            → SoFar words shapes (i + 1) new
        shape_made new is_next =
            let rest = shapes_in (drop (i + 1) shapes) in (
              ap (λ ms. with_rest ms words rest) is_next
                  ∙ sym (next_made words made shape rest)
                  ∙ ap (λ ss. with_rest made words (shapes_in ss)) (sym here)
                  ∙ so_far.0,
              subst (λ ms. AreMemories (drop (length ms) words) rest) (sym is_next)
                  (rest_are words made shape rest these),
            )
