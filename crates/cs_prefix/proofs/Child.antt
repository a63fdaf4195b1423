-- Edges of a group that go on alike get a register, where there are any.
use Rattle.std.proofs.Common.{◌≡◌, ℕ, suc, ◌<◌, inl, inr, List, [], ◌∷◌, ◌++◌, length, take, get_or, map, filter, Bool, true, false, Option, None, refl, sym, subst, ap, ◌∙◌}
use Rattle.std.specs.List.{AllByRecursion}
use Rattle.cs_prefix.specs.declared.plan.DriverId.{DriverId}
use Rattle.cs_prefix.specs.declared.plan.Planned.{Planned}
use Rattle.cs_prefix.specs.Layers.{Progress, add_child}
use Rattle.cs_prefix.proofs.Beginnings.{In, begins, in_filter}
use Rattle.cs_prefix.proofs.Partly.{Comes, IsBehind, IsDone, IsKnown, IsWaiting, HasStatus, Known, Stands, behind_more, in_more}
use Rattle.cs_prefix.proofs.OneMore.{append_more, done_now, known_more, map_more, more, more_all, others_stay, stands_more}

abbrev pub starts_of : List Known → List (List Bool)
starts_of knowns = map (λ (k : Known). k.starts) knowns

module _ (contents : List (List Bool)) (es : List ℕ) (driver : DriverId) (registers : List Planned)
    (ends : List (Option ℕ))
    (below : (e : ℕ) → In e es → e < length ends) where
  abbrev pub first : ℕ
  first = length registers

  -- what stands behind a child with starts q, against what stood
  pub record Grown (l : ℕ) (ks : List (List Bool)) (fresh : List Known) (t : Progress) (q : List Bool)
      (t' : Progress) : Type 1 where
    pub keys : List (List Bool)
    pub made : List Planned
    pub knowns : List Known
    pub stands : Stands contents es driver first registers ends l keys made knowns t'
    pub grows : (P : List Bool → Type 0) → AllByRecursion P ks → P q → AllByRecursion P keys
    pub tail : (before : List (List Bool)) → ks ≡ before ++ starts_of fresh
        → keys ≡ before ++ starts_of knowns
    pub known : (m : ℕ) (k : Known) → IsKnown contents es driver first m ks k
        → IsKnown contents es driver first m keys k
    pub done : (e : ℕ) → In e es → IsDone contents es driver first registers ends l ks fresh t e
        → IsDone contents es driver first registers ends l keys knowns t' e
    pub waiting : (rest : List Known) (e : ℕ) → In e es
        → IsWaiting contents es driver first registers ends l ks rest t e
        → HasStatus contents es driver first registers ends l keys knowns rest t' e
    pub now : (e : ℕ) → In e es → begins contents q e ≡ true
        → IsDone contents es driver first registers ends l keys knowns t' e

  module _ (l : ℕ) (ks : List (List Bool)) (made : List Planned) (fresh : List Known) (t : Progress)
      (stands : Stands contents es driver first registers ends l ks made fresh t)
      (g : Known) (known : IsKnown contents es driver first l ks g) (b : Bool)
      (ready : AllByRecursion (λ p. Comes p (g.starts ++ b ∷ [])) ks) where
    abbrev q : List Bool
    q = g.starts ++ b ∷ []

    none_grown : filter (begins contents q) es ≡ [] → Grown l ks fresh t q t
    none_grown empty = record {
      keys = ks;
      made = made;
      knowns = fresh;
      stands = stands;
      grows = λ P all one. all;
      tail = λ before is. is;
      known = λ m k h. h;
      done = λ e among h. h;
      waiting = λ rest e among h. inr h;
      now = λ e among begin. absurd (subst (In e) empty (in_filter (begins contents q) e es among begin));
    }

    module _ (e0 : ℕ) (there : In e0 (filter (begins contents q) es)) where
      abbrev after : Progress
      after = more contents es driver registers ends below g b (filter (begins contents q) es) t

      abbrev new : Known
      new =
          known_more contents es driver registers ends below l ks made fresh t stands g known b e0 there ready

      known_later : (m : ℕ) (k : Known) → IsKnown contents es driver first m ks k
          → IsKnown contents es driver first m (ks ++ q ∷ []) k
      known_later m k h = record {
        long = h.long;
        edges = h.edges;
        behind = behind_more contents es driver first ks q k.starts k.group.behind h.behind;
      }

      -- by whether the edge goes on so
      by_edge : (P : ℕ → Type 0) (e : ℕ) → In e es
          → (IsDone contents es driver first registers ends l (ks ++ q ∷ []) (fresh ++ new ∷ []) after e → P e)
          → (begins contents q e ≡ false → P e) → P e
      by_edge P e among goes stays = by_test (begins contents q e) refl
        where
          by_test : (c : Bool) → begins contents q e ≡ c → P e
          by_test true is =
              goes (done_now contents es driver registers ends below l ks made fresh t stands g known b e0 there ready e among is)
          by_test false is = stays is

      same_end : (e : ℕ) → begins contents q e ≡ false → get_or after.ends e None ≡ get_or t.ends e None
      same_end e other =
          others_stay contents es driver registers ends below l ks made fresh t stands g known b e0 there ready e other

      still_behind : (p : List Bool) (e : ℕ) → begins contents q e ≡ false
          → IsBehind contents es driver first ks p (get_or t.ends e None)
          → IsBehind contents es driver first (ks ++ q ∷ []) p (get_or after.ends e None)
      still_behind p e other h =
          rw (same_end e other) (behind_more contents es driver first ks q p (get_or t.ends e None) h)

      some_grown : Grown l ks fresh t q after
      some_grown = record {
        keys = ks ++ q ∷ [];
        made = made ++ record { driver = driver; behind = g.group.behind; start = b } ∷ [];
        knowns = fresh ++ new ∷ [];
        stands =
            stands_more contents es driver registers ends below l ks made fresh t stands g known b e0 there ready;
        grows = λ P all one. more_all P P ks q (λ p h. h) all one;
        tail = λ before is.
            ap (λ xs. xs ++ q ∷ []) is ∙ append_more before (starts_of fresh) q
            ∙ ap (λ xs. before ++ xs) (sym (map_more (λ (k : Known). k.starts) fresh new));
        known = known_later;
        done = λ e among h. by_edge
            (λ e. IsDone contents es driver first registers ends l (ks ++ q ∷ [])
            (fresh ++ new ∷ []) after e) e among
            (λ goes. goes)
            (λ stays. (
              still_behind (take (suc l) (get_or contents e [])) e stays h.0,
              λ longer. in_more contents es driver first e fresh new (h.1 longer),
            ));
        waiting = λ rest e among h. by_edge
            (λ e. HasStatus contents es driver first registers ends l (ks ++ q ∷ [])
            (fresh ++ new ∷ []) rest after e) e among
            (λ goes. inl goes)
            (λ stays. inr (still_behind (take l (get_or contents e [])) e stays h.0, h.1));
        now =
            λ e among begin. done_now contents es driver registers ends below l ks made fresh t stands g known b e0 there ready e among begin;
      }

    -- a child is made where there are such edges
    pub child_grown : (edges : List ℕ) → edges ≡ filter (begins contents q) es
        → Grown l ks fresh t q (add_child driver g.group.behind b edges t)
    child_grown [] is = none_grown (sym is)
    child_grown (e ∷ edges) is =
        subst (λ (xs : List ℕ). Grown l ks fresh t q (more contents es driver registers ends below g b xs t))
        (sym is)
        (some_grown e (subst (In e) is (inl refl)))
