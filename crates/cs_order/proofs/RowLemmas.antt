-- Compressed rows that grow.
use Rattle.std.proofs.Common.{◌≡◌, ℕ, zero, suc, ◌+◌, ◌-◌, ◌<◌, ◌≤◌, ◌⊎◌, ◌↔◌, inl, inr, List, [], ◌∷◌, ◌++◌, length, get_or, take, drop, refl, sym, ap, ◌∙◌, arith, add-one, length-drop}
use Rattle.std.specs.Prelude.{slice_range}
use Rattle.std.proofs.lemmas.List.{take-append-le, drop-append-le, take_all}
use Rattle.cs_order.specs.Graphs.{push_source}
use Rattle.cs_order.specs.Rows.{rows_of, AreRows}

pub count_of_rows : (starts items : List ℕ) → length (rows_of starts items) ≡ length starts
count_of_rows [] items = refl
count_of_rows (start ∷ starts) items = ap suc (count_of_rows starts items)

-- the row of a place
pub row_at : (starts items : List ℕ) (i : ℕ) → i < length starts
    → get_or (rows_of starts items) i []
    ≡ slice_range items (get_or starts i (length items)) (get_or starts (suc i) (length items))
row_at [] items i below = absurd (omega arith)
row_at (start ∷ starts) items zero below = refl
row_at (start ∷ starts) items (suc i) below = row_at starts items i (omega arith)

-- ---- a row more

empty_range : (items : List ℕ) (n : ℕ) → slice_range items n n ≡ []
empty_range items n = rw (self n) refl where
  self : (n : ℕ) → n - n ≡ 0
  self n = omega arith

pub rows_push_row : (starts items : List ℕ)
    → rows_of (starts ++ length items ∷ []) items ≡ rows_of starts items ++ [] ∷ []
rows_push_row [] items = ap (λ row. row ∷ []) (empty_range items (length items))
rows_push_row (start ∷ []) items = ap (λ row. slice_range items start (length items) ∷ row ∷ [])
    (empty_range items (length items))
rows_push_row (start ∷ next ∷ starts) items = ap (λ rows. slice_range items start next ∷ rows)
    (rows_push_row (next ∷ starts) items)

start_push : (starts : List ℕ) (total i : ℕ)
    → get_or (starts ++ total ∷ []) i total ≡ get_or starts i total
start_push [] total zero = refl
start_push [] total (suc i) = refl
start_push (start ∷ starts) total zero = refl
start_push (start ∷ starts) total (suc i) = start_push starts total i

pub are_rows_push_row : (starts : List ℕ) (total : ℕ) → AreRows starts total
    → AreRows (starts ++ total ∷ []) total
are_rows_push_row starts total h = record {
  rising = λ i. rw (start_push starts total i, start_push starts total (i + 1)) (h.rising i);
  within = λ i. rw (start_push starts total i) (h.within i);
}

-- ---- an item more

start_more : (starts : List ℕ) (total i : ℕ)
    → ((get_or starts i (total + 1) ≡ get_or starts i total) × (i < length starts))
    ⊎ ((get_or starts i (total + 1) ≡ total + 1) × (length starts ≤ i))
start_more [] total i = inr (refl, omega arith)
start_more (start ∷ starts) total zero = inl (refl, omega arith)
start_more (start ∷ starts) total (suc i) = elim (start_more starts total i) [
  | inl (same, below) ↦ inl (same, omega arith)
  | inr (past, most) ↦ inr (past, omega arith)
]

pub are_rows_push_item : (starts : List ℕ) (total : ℕ) → AreRows starts total
    → AreRows starts (total + 1)
are_rows_push_item starts total h = record {
  rising = λ i.
      let up = h.rising i in
      let most = h.within i in
      elim (start_more starts total i) [
        | inl (same, below) ↦ elim (start_more starts total (i + 1)) [
          | inl (same', below') ↦ omega arith
          | inr (past', most') ↦ omega arith
        ]
        | inr (past, beyond) ↦ elim (start_more starts total (i + 1)) [
          | inl (same', below') ↦ omega arith
          | inr (past', most') ↦ omega arith
        ]
      ];
  within = λ i.
      let most = h.within i in
      elim (start_more starts total i) [
        | inl (same, below) ↦ omega arith
        | inr (past, beyond) ↦ omega arith
      ];
}

-- a part before the end stays
range_before : (items : List ℕ) (x a b : ℕ) → a ≤ b → b ≤ length items
    → slice_range (items ++ x ∷ []) a b ≡ slice_range items a b
range_before items x a b low high =
    let most : b - a ≤ length (drop a items) = simp length-drop (omega arith) in
    ap (take (b - a)) (drop-append-le a items (x ∷ []) (omega arith))
    ∙ take-append-le (b - a) (drop a items) (x ∷ []) most

-- a part up to the end is the rest of the list
range_of_rest : (items : List ℕ) (a : ℕ) → slice_range items a (length items) ≡ drop a items
range_of_rest items a = take_all (length items - a) (drop a items) (omega (arith, length-drop a items))

-- a part up to the end has one item more
range_to_end : (items : List ℕ) (x a : ℕ) → a ≤ length items
    → slice_range (items ++ x ∷ []) a (length (items ++ x ∷ []))
    ≡ slice_range items a (length items) ++ x ∷ []
range_to_end items x a most = range_of_rest (items ++ x ∷ []) a
    ∙ drop-append-le a items (x ∷ []) most
    ∙ ap (λ row. row ++ x ∷ []) (sym (range_of_rest items a))

are_rows_tail : (start : ℕ) (starts : List ℕ) (total : ℕ) → AreRows (start ∷ starts) total
    → AreRows starts total
are_rows_tail start starts total h = record {
  rising = λ i. rw (add-one i) (rw (add-one (suc i)) at (h.rising (suc i)));
  within = λ i. h.within (suc i);
}

pub rows_push_item : (starts items : List ℕ) (x : ℕ) → 0 < length starts
    → AreRows starts (length items)
    → rows_of starts (items ++ x ∷ []) ≡ push_source x (rows_of starts items)
rows_push_item [] items x some h = absurd (omega arith)
rows_push_item (start ∷ []) items x some h = ap (λ row. row ∷ []) (range_to_end items x start (h.within 0))
rows_push_item (start ∷ next ∷ starts) items x some h =
    ap (λ row. row ∷ rows_of (next ∷ starts) (items ++ x ∷ []))
    (range_before items x start next (h.rising 0) (h.within 1))
    ∙ ap (λ rows. slice_range items start next ∷ rows)
    (rows_push_item (next ∷ starts) items x (omega arith)
    (are_rows_tail start (next ∷ starts) (length items) h))

-- there are no rows where there are no starts
pub no_rows : (starts items : List ℕ) → (rows_of starts items ≡ []) ↔ (length starts ≡ 0)
no_rows [] items = (λ is. refl, λ is. refl)
no_rows (start ∷ starts) items = (λ is. cc, λ is. absurd (omega arith))

-- within the list the default does not matter
pub start_within : (starts : List ℕ) (i total : ℕ) → i < length starts
    → get_or starts i 0 ≡ get_or starts i total
start_within [] i total below = absurd (omega arith)
start_within (start ∷ starts) zero total below = refl
start_within (start ∷ starts) (suc i) total below = start_within starts i total (omega arith)
