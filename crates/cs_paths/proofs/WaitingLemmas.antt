-- The queue: one more waits, those with a register more come first, and the first is taken.
use Rattle.std.proofs.Common.{◌≡◌, ◌≢◌, ◌⊎◌, ℕ, zero, suc, ◌+◌, ◌<◌, ◌≤◌, ◌^◌, List, [], ◌∷◌, ◌++◌, length, set, get_or, refl, sym, ap, ap₂, subst, ◌∙◌, inl, inr, arith}
use Rattle.std.specs.Prelude.{Contains}
use Rattle.std.proofs.lemmas.Bool.{cases_eq}
use Rattle.std.proofs.lemmas.List.{get_or-set_same, get_or-set_other, length-set}
use Rattle.std.proofs.lemmas.List.Elements.{Contains-push, Contains-push_cases, Contains-append_left}
use Rattle.cs_paths.specs.Marks.{IsMarked, AddsMark, TakesMark}
use Rattle.cs_paths.specs.Waitings.{Queue, queue, bucket_of, Waits, IsQueue, position, CanWait, IsAdded, Takes, AreLow, Gathers, Advances}

-- ---- lists

pub none_contained : (p : ℕ) → Contains [] p → ⊥
none_contained p (k, low, is) = omega (arith, low)

past_end : (xs : List (List ℕ)) (w : ℕ) → length xs ≤ w → get_or xs w [] ≡ []
past_end [] w past = refl
past_end (x ∷ xs) zero past = absurd (omega (arith, past))
past_end (x ∷ xs) (suc w) past = past_end xs w (omega (arith, past))

-- an empty list behind the others
pub empty_behind : (xs : List (List ℕ)) (w : ℕ) → get_or (xs ++ [] ∷ []) w [] ≡ get_or xs w []
empty_behind [] zero = refl
empty_behind [] (suc w) = refl
empty_behind (x ∷ xs) zero = refl
empty_behind (x ∷ xs) (suc w) = empty_behind xs w

same_pair : (k : ℕ × ℕ) (w p : ℕ) → k.0 ≡ w → k.1 ≡ p → k ≡ (w, p)
same_pair k w p first second = ap₂ (λ (a b : ℕ). (a, b)) first second

-- ---- a bucket is marked

-- the places of a bucket that aren't marked yet are left
pub record IsGathering (places left before after : List ℕ) : Type 0 where
  pub low : AreLow left
  pub done : (p : ℕ) → Contains places p → Contains left p ⊎ IsMarked after p
  pub still : (p : ℕ) → Contains left p → Contains places p
  pub stays : (p : ℕ) → IsMarked before p → IsMarked after p
  pub only : (p : ℕ) → IsMarked after p → Contains places p ⊎ IsMarked before p

pub gathering_begins : (places marks : List ℕ) → AreLow places → IsGathering places places marks marks
gathering_begins places marks low = record {
  low = low;
  done = λ p h. inl h;
  still = λ p h. h;
  stays = λ p h. h;
  only = λ p h. inr h;
}

pub gathering_low : (left left' : List ℕ) (p : ℕ) → AreLow left → left ≡ left' ++ p ∷ [] → p < 4096
gathering_low left left' p low is = low p (subst (λ xs. Contains xs p) (sym is) (Contains-push left' p))

pub gathering_on : (places left left' before marks marks' : List ℕ) (p : ℕ) → IsGathering places left before marks
    → left ≡ left' ++ p ∷ [] → AddsMark p marks marks' → IsGathering places left' before marks'
gathering_on places left left' before marks marks' p is split adds = record {
  low = λ q h. is.low q (kept q h);
  done = λ q h. elim (is.done q h) [
    | inl more ↦ elim (Contains-push_cases left' p q (subst (λ xs. Contains xs q) split more)) [
      | inl old ↦ inl old
      | inr same ↦ inr (subst (IsMarked marks') same adds.marked)
    ]
    | inr marked ↦ inr (adds.stays q marked)
  ];
  still = λ q h. is.still q (kept q h);
  stays = λ q h. adds.stays q (is.stays q h);
  only = λ q h. elim (adds.only q h) [
    | inl same ↦ inl (subst (Contains places) (sym same)
        (is.still p (subst (λ xs. Contains xs p) (sym split) (Contains-push left' p))))
    | inr old ↦ is.only q old
  ];
}
  where
    kept : (q : ℕ) → Contains left' q → Contains left q
    kept q h = subst (λ xs. Contains xs q) (sym split) (Contains-append_left left' (p ∷ []) q h)

pub gathering_ends : (places left before after : List ℕ) → IsGathering places left before after → left ≡ []
    → Gathers places before after
gathering_ends places left before after is none = record {
  marked = λ p h. elim (is.done p h) [
    | inl more ↦ absurd (none_contained p (subst (λ xs. Contains xs p) none more))
    | inr marked ↦ marked
  ];
  stays = is.stays;
  only = is.only;
}

-- ---- nothing waits

abbrev pub IsIdle : Queue → Type 0
IsIdle q = (k : ℕ × ℕ) → Waits q k → ⊥

pub new_queue : (marks : List ℕ) → ((p : ℕ) → IsMarked marks p → ⊥) → IsQueue (queue 0 0 marks [])
new_queue marks none = record {
  from = λ p marked. absurd (none p marked);
  ahead = λ w p h. absurd (none_contained p h);
  next = omega arith;
  levels = omega arith;
}

pub new_idle : (marks : List ℕ) → ((p : ℕ) → IsMarked marks p → ⊥) → IsIdle (queue 0 0 marks [])
new_idle marks none k waits = elim waits [
  | inl (level, marked) ↦ none k.1 marked
  | inr later ↦ none_contained k.1 later
]

module _ (q : Queue) (idle : IsIdle q) where
  pub idle_queue : IsQueue q → IsQueue (queue 0 0 q.marks q.later)
  idle_queue is = record {
    from = λ p marked. omega arith;
    ahead = λ w p h. absurd (idle (w, p) (inr h));
    next = omega arith;
    levels = is.levels;
  }

  pub idle_stays : IsIdle (queue 0 0 q.marks q.later)
  idle_stays k waits = elim waits [
    | inl (level, marked) ↦ idle (q.level, k.1) (inl (refl, marked))
    | inr later ↦ idle k (inr later)
  ]

-- ---- one more waits

module _ (q : Queue) (is : IsQueue q) (w p : ℕ) (can : CanWait q (w, p)) where
  module _ (same : w ≡ q.level) (marks : List ℕ) (adds : AddsMark p q.marks marks) where
    next_up_to : q.next ≤ p
    next_up_to = elim can.comes [
      | inl less ↦ absurd (omega (arith, less, same))
      | inr (level, up_to) ↦ up_to
    ]

    pub marked_queue : IsQueue (queue q.level q.next marks q.later)
    marked_queue = record {
      from = λ r marked. elim (adds.only r marked) [
        | inl here ↦ let up_to = next_up_to in omega (arith, up_to, here)
        | inr old ↦ is.from r old
      ];
      ahead = is.ahead;
      next = is.next;
      levels = is.levels;
    }

    pub marked_added : IsAdded (w, p) q (queue q.level q.next marks q.later)
    marked_added = record {
      now = inl (same, adds.marked);
      stays = λ k waits. elim waits [
        | inl (level, marked) ↦ inl (level, adds.stays k.1 marked)
        | inr later ↦ inr later
      ];
      only = λ k waits. elim waits [
        | inl (level, marked) ↦ elim (adds.only k.1 marked) [
          | inl here ↦ inl (same_pair k w p (level ∙ sym same) here)
          | inr old ↦ inr (inl (level, old))
        ]
        | inr later ↦ inr (inr later)
      ];
      level = refl;
      next = refl;
    }

  module _ (later : List (List ℕ)) (levels : length later < 2 ^ 32)
      (buckets : (v : ℕ) → get_or later v [] ≡ get_or q.later v []) where
    pub longer_queue : IsQueue (queue q.level q.next q.marks later)
    longer_queue = record {
      from = is.from;
      ahead = λ v r h. is.ahead v r (subst (λ xs. Contains xs r) (buckets v) h);
      next = is.next;
      levels = levels;
    }

    module _ (away : w ≢ q.level) (long : w < length later) (bucket : List ℕ) where
      here : get_or (set later w bucket) w [] ≡ bucket
      here = get_or-set_same later w bucket [] long

      other : (v : ℕ) → v ≢ w → get_or (set later w bucket) v [] ≡ get_or q.later v []
      other v apart = get_or-set_other later w v bucket [] apart ∙ buckets v

      level_below : q.level < w
      level_below = elim can.comes [
        | inl less ↦ less
        | inr (level, up_to) ↦ absurd (away (sym level))
      ]

      pub refused_queue : bucket ≡ get_or later w [] → IsQueue (queue q.level q.next q.marks (set later w bucket))
      refused_queue kept = record {
        from = is.from;
        ahead = λ v r h. elim (cases_eq v w) [
          | inl same ↦ is.ahead v r (subst (λ xs. Contains xs r)
              (ap (λ n. get_or (set later w bucket) n []) same ∙ here ∙ kept ∙ buckets w
              ∙ ap (λ n. get_or q.later n []) (sym same)) h)
          | inr apart ↦ is.ahead v r (subst (λ xs. Contains xs r) (other v apart) h)
        ];
        next = is.next;
        levels = let count = length-set later w bucket in omega (arith, levels, count);
      }

      module _ (pushed : bucket ≡ get_or later w [] ++ p ∷ []) where
        behind : bucket ≡ get_or q.later w [] ++ p ∷ []
        behind = pushed ∙ ap (λ (xs : List ℕ). xs ++ p ∷ []) (buckets w)

        at : (v : ℕ) → v ≡ w → get_or (set later w bucket) v [] ≡ get_or q.later w [] ++ p ∷ []
        at v same = ap (λ n. get_or (set later w bucket) n []) same ∙ here ∙ behind

        pub pushed_queue : IsQueue (queue q.level q.next q.marks (set later w bucket))
        pushed_queue = record {
          from = is.from;
          ahead = λ v r h. elim (cases_eq v w) [
            | inl same ↦ (
              let below = level_below in omega (arith, below, same),
              elim (Contains-push_cases (get_or q.later w []) p r
                  (subst (λ xs. Contains xs r) (at v same) h)) [
                    | inl old ↦ (is.ahead w r old).1
                    | inr new ↦ subst (λ n. n < 4096) new can.place
                  ],
            )
            | inr apart ↦ is.ahead v r (subst (λ xs. Contains xs r) (other v apart) h)
          ];
          next = is.next;
          levels = let count = length-set later w bucket in omega (arith, levels, count);
        }

        pub pushed_added : IsAdded (w, p) q (queue q.level q.next q.marks (set later w bucket))
        pushed_added = record {
          now = inr (subst (λ xs. Contains xs p) (sym (at w refl)) (Contains-push (get_or q.later w []) p));
          stays = λ k waits. elim waits [
            | inl now ↦ inl now
            | inr later_on ↦ inr (elim (cases_eq k.0 w) [
              | inl same ↦ subst (λ xs. Contains xs k.1) (sym (at k.0 same))
                  (Contains-append_left (get_or q.later w []) (p ∷ []) k.1
                  (subst (λ n. Contains (get_or q.later n []) k.1) same later_on))
              | inr apart ↦ subst (λ xs. Contains xs k.1) (sym (other k.0 apart)) later_on
            ])
          ];
          only = λ k waits. elim waits [
            | inl now ↦ inr (inl now)
            | inr later_on ↦ elim (cases_eq k.0 w) [
              | inl same ↦ elim (Contains-push_cases (get_or q.later w []) p k.1
                  (subst (λ xs. Contains xs k.1) (at k.0 same) later_on)) [
                    | inl old ↦ inr (inr (subst (λ n. Contains (get_or q.later n []) k.1) (sym same) old))
                    | inr new ↦ inl (same_pair k w p same (sym new))
                  ]
              | inr apart ↦ inr (inr (subst (λ xs. Contains xs k.1) (other k.0 apart) later_on))
            ]
          ];
          level = refl;
          next = refl;
        }

-- ---- those with a register more

module _ (q : Queue) (is : IsQueue q) (none : (p : ℕ) → IsMarked q.marks p → ⊥) where
  pub nothing_later : length q.later ≤ q.level + 1 → IsIdle q
  nothing_later past k waits = elim waits [
    | inl (level, marked) ↦ none k.1 marked
    | inr later ↦
        let ahead = (is.ahead k.0 k.1 later).0 in
        none_contained k.1 (subst (λ xs. Contains xs k.1) (past_end q.later k.0 (omega (arith, past, ahead))) later)
  ]

  pub next_low : AreLow (bucket_of q (q.level + 1))
  next_low p h = (is.ahead (q.level + 1) p h).1

  module _ (marks : List ℕ) (within : q.level + 1 < length q.later)
      (gathers : Gathers (bucket_of q (q.level + 1)) q.marks marks) where
    abbrev advanced : Queue
    advanced = queue (q.level + 1) 0 marks (set q.later (q.level + 1) [])

    emptied : (v : ℕ) → v ≡ q.level + 1 → bucket_of advanced v ≡ []
    emptied v same = ap (λ n. get_or (set q.later (q.level + 1) []) n []) same
        ∙ get_or-set_same q.later (q.level + 1) [] [] within

    others : (v : ℕ) → v ≢ q.level + 1 → bucket_of advanced v ≡ bucket_of q v
    others v apart = get_or-set_other q.later (q.level + 1) v [] [] apart

    pub advanced_queue : IsQueue (queue (q.level + 1) 0 marks (set q.later (q.level + 1) []))
    advanced_queue = record {
      from = λ p marked. omega arith;
      ahead = λ v p h. elim (cases_eq v (q.level + 1)) [
        | inl same ↦ absurd (none_contained p (subst (λ xs. Contains xs p) (emptied v same) h))
        | inr apart ↦
            let old = is.ahead v p (subst (λ xs. Contains xs p) (others v apart) h) in
            let less = old.0 in
            (omega (arith, less, apart), old.1)
      ];
      next = omega arith;
      levels = let count = length-set q.later (q.level + 1) [] in let levels = is.levels in omega (arith, count, levels);
    }

    pub advances : Advances q (queue (q.level + 1) 0 marks (set q.later (q.level + 1) []))
    advances = record {
      stays = λ k waits. elim waits [
        | inl (level, marked) ↦ absurd (none k.1 marked)
        | inr later ↦ elim (cases_eq k.0 (q.level + 1)) [
          | inl same ↦ inl (same, gathers.marked k.1 (subst (λ n. Contains (bucket_of q n) k.1) same later))
          | inr apart ↦ inr (subst (λ xs. Contains xs k.1) (sym (others k.0 apart)) later)
        ]
      ];
      still = λ k waits. elim waits [
        | inl (level, marked) ↦ elim (gathers.only k.1 marked) [
          | inl here ↦ inr (subst (λ n. Contains (bucket_of q n) k.1) (sym level) here)
          | inr old ↦ absurd (none k.1 old)
        ]
        | inr later ↦ elim (cases_eq k.0 (q.level + 1)) [
          | inl same ↦ absurd (none_contained k.1 (subst (λ xs. Contains xs k.1) (emptied k.0 same) later))
          | inr apart ↦ inr (subst (λ xs. Contains xs k.1) (others k.0 apart) later)
        ]
      ];
      level = refl;
      next = refl;
      levels = length-set q.later (q.level + 1) [];
      within = let count = length-set q.later (q.level + 1) [] in omega (arith, count, within);
    }

    -- the bucket is emptied as it is gathered
    module _ (bucket' : List ℕ) (empty : bucket' ≡ []) where
      pub gathered_queue : IsQueue (queue (q.level + 1) 0 marks (set q.later (q.level + 1) bucket'))
      gathered_queue = subst (λ (xs : List ℕ). IsQueue (queue (q.level + 1) 0 marks (set q.later (q.level + 1) xs)))
          (sym empty) advanced_queue

      pub gathered_advances : Advances q (queue (q.level + 1) 0 marks (set q.later (q.level + 1) bucket'))
      gathered_advances = subst (λ (xs : List ℕ). Advances q (queue (q.level + 1) 0 marks (set q.later (q.level + 1) xs)))
          (sym empty) advances

-- ---- the first

-- the queue has gone on, and the same wait
pub record GoesOn (before after : Queue) : Type 0 where
  pub stays : (k : ℕ × ℕ) → Waits before k → Waits after k
  pub still : (k : ℕ × ℕ) → Waits after k → Waits before k
  pub on : position before ≤ position after

pub goes_nowhere : (q : Queue) → GoesOn q q
goes_nowhere q = record { stays = λ k h. h; still = λ k h. h; on = omega arith }

pub goes_further : (q r s : Queue) → IsQueue r → GoesOn q r → Advances r s → GoesOn q s
goes_further q r s is goes advances = record {
  stays = λ k h. advances.stays k (goes.stays k h);
  still = λ k h. goes.still k (advances.still k h);
  on =
      let on = goes.on in
      let next = is.next in
      let level = advances.level in
      let first = advances.next in
      omega (arith, on, next, level, first);
}

pub idle_before : (q r : Queue) → GoesOn q r → IsIdle r → IsIdle q
idle_before q r goes idle k waits = idle k (goes.stays k waits)

module _ (q : Queue) (is : IsQueue q) (p : ℕ) (marks : List ℕ) (takes : TakesMark p q.marks marks) where
  pub taken_queue : IsQueue (queue q.level (p + 1) marks q.later)
  taken_queue = record {
    from = λ r marked. elim (cases_eq r p) [
      | inl same ↦ absurd (takes.gone (subst (IsMarked marks) same marked))
      | inr away ↦ let first = takes.first r (takes.left r marked) in omega (arith, first, away)
    ];
    ahead = is.ahead;
    next = let low = takes.low in omega (arith, low);
    levels = is.levels;
  }

  pub takes_first : (before : Queue) → GoesOn before q
      → Takes (q.level, p) before (queue q.level (p + 1) marks q.later)
  takes_first before goes = record {
    taken = goes.still (q.level, p) (inl (refl, takes.marked));
    rest = λ k waits. elim (goes.stays k waits) [
      | inl (level, marked) ↦ elim (takes.rest k.1 marked) [
        | inl here ↦ inl (same_pair k q.level p level here)
        | inr left ↦ inr (inl (level, left))
      ]
      | inr later ↦ inr (inr later)
    ];
    still = λ k waits. goes.still k (elim waits [
      | inl (level, marked) ↦ inl (level, takes.left k.1 marked)
      | inr later ↦ inr later
    ]);
    first = λ k waits. elim waits [
      | inl (level, marked) ↦ inr (sym level, takes.first k.1 (takes.left k.1 marked))
      | inr later ↦ inl (is.ahead k.0 k.1 later).0
    ];
    level = refl;
    next = refl;
    on = let on = goes.on in let from = is.from p takes.marked in omega (arith, on, from);
  }
