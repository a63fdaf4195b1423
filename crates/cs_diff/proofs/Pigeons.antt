-- More numbers than places: one comes twice.
use Rattle.std.proofs.Common.{◌≡◌, ℕ, zero, suc, ◌<◌, ◌≤◌, ◌⊎◌, sym, ◌∙◌, arith, inl, inr}
use Rattle.std.specs.Prelude.{◌==◌, if◌then◌else◌}
use Rattle.std.proofs.lemmas.Bool.{cases_eq}
use Rattle.std.proofs.lemmas.Bool.Decides.{nat_tests}

-- a number comes twice
pub record Repeats (n : ℕ) (f : ℕ → ℕ) : Type 0 where
  pub first : ℕ
  pub second : ℕ
  pub order : first < second
  pub within : second ≤ n
  pub same : f first ≡ f second

-- the value comes among the first n, or not
comes : (f : ℕ → ℕ) (x n : ℕ) → ((k : ℕ) × (k < n) × (f k ≡ x)) ⊎ ((k : ℕ) → k < n → f k ≡ x → ⊥)
comes f x zero = inr (λ k h. absurd (omega arith))
comes f x (suc n) = elim (cases_eq (f n) x) [
  | inl is ↦ inl (n, omega arith, is)
  | inr other ↦ elim (comes f x n) [
    | inl (k, below, is) ↦ inl (k, omega arith, is)
    | inr none ↦ inr (λ k h is. elim (cases_eq k n) [
      | inl same ↦ other (rw (← same) is)
      | inr
          apart ↦ none k (omega arith) is
    ])
  ]
]

-- the last value takes the place of n
without : (ℕ → ℕ) → ℕ → ℕ → ℕ
without f n k = if f k == n then f (suc n) else f k

without_here : (f : ℕ → ℕ) (n k : ℕ) → f k ≡ n → without f n k ≡ f (suc n)
unfolding without
without_here f n k is = grind (arith, nat_tests)

without_there : (f : ℕ → ℕ) (n k : ℕ) → (f k ≡ n → ⊥) → without f n k ≡ f k
unfolding without
without_there f n k is = grind (arith, nat_tests)

same_before : (n : ℕ) (f : ℕ → ℕ) → ((k : ℕ) → k < suc n → f k ≡ f (suc n) → ⊥) → (i j : ℕ) → i ≤ n
    → j ≤ n → without f n i ≡ without f n j → f i ≡ f j
same_before n f none i j below_i below_j same = elim (cases_eq (f i) n) [
  | inl is ↦ elim (cases_eq (f j) n) [
    | inl too ↦ is ∙ sym too
    | inr apart ↦ absurd (none j (omega arith) (sym (without_there f n j apart) ∙ sym same ∙
        without_here f n i is))
  ]
  | inr apart ↦ elim (cases_eq (f j) n) [
    | inl is ↦ absurd (none i (omega arith) (sym (without_there f n i apart) ∙ same ∙ without_here f
        n j is))
    | inr too ↦ sym (without_there f n i apart) ∙ same ∙ without_there f n j too
  ]
]

smaller_at : (n : ℕ) (f : ℕ → ℕ) → ((k : ℕ) → k < suc n → f k ≡ f (suc n) → ⊥)
    → ((k : ℕ) → k ≤ suc n → f k < suc n) → (k : ℕ) → k ≤ n → without f n k < n
smaller_at n f none h k most = elim (cases_eq (f k) n) [
  | inl is ↦
      let top = h (suc n) (omega arith) in
      rw (without_here f n k is)
      (elim (cases_eq (f (suc n)) n) [
        | inl bad ↦ absurd (none k (omega arith) (is ∙ sym bad))
        | inr
            apart ↦ omega arith
      ])
  | inr apart ↦ rw (without_there f n k apart) (let top = h k (omega arith) in omega arith)
]

-- n + 1 numbers below n have a repeated one
pub pigeons : (n : ℕ) (f : ℕ → ℕ) → ((k : ℕ) → k ≤ n → f k < n) → Repeats n f
pigeons zero f h = absurd (omega (arith, h 0 (omega arith)))
pigeons (suc n) f h = elim (comes f (f (suc n)) (suc n)) [
  | inl (k, below, is) ↦ record {
    first = k;
    second = suc n;
    order = below;
    within = omega arith;
    same = is;
  }
  | inr none ↦
      let r = pigeons n (without f n) (smaller_at n f none h) in
      record {
        first = r.first;
        second = r.second;
        order = r.order;
        within = omega (arith, r.within);
        same = same_before n f none r.first r.second (omega (arith, r.order, r.within)) r.within
            r.same;
      }
]
