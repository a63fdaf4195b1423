-- Level after level: which starts are reached, and where each edge stands.
use Rattle.std.proofs.Common.{◌≡◌, ℕ, zero, suc, ◌<◌, ◌≤◌, ◌⊎◌, inl, inr, List, [], ◌∷◌, ◌++◌, length, take, get_or, map, filter, Bool, true, false, ◌&&◌, Option, Some, refl, sym, subst, ap, ap₂, ◌∙◌, ⊎_elim, length-append, arith}
use Rattle.std.specs.Prelude.{slice_get}
use Rattle.std.specs.List.{AllByRecursion}
use Rattle.std.proofs.lemmas.Bool.{cases_lt}
use Rattle.cs_prefix.specs.declared.plan.DriverId.{DriverId}
use Rattle.cs_prefix.specs.declared.plan.Planned.{Planned}
use Rattle.cs_prefix.specs.declared.layers.Group.{Group}
use Rattle.cs_prefix.specs.Layers.{Progress, add_child, goes_on, is_start, split, split_all}
use Rattle.cs_prefix.proofs.Beginnings.{In, begins, going_on_begin, is_less, of_filter, prefix_more, zero_before_one}
use Rattle.cs_prefix.proofs.Partly.{Comes, IsDone, IsIn, IsKnown, IsWaiting, HasStatus, Known, StandsUnder, Stands}
use Rattle.cs_prefix.proofs.Child.{Grown, child_grown, starts_of}

-- ---- order

-- starts of one length, each below those behind it
abbrev pub AreLess : List (List Bool) → Type 0
AreLess [] = Unit {0}
AreLess (p ∷ ps) = AllByRecursion (λ q. is_less p q ≡ true) ps × AreLess ps

pub all_step : {A : Type 0} (P Q : A → Type 0) → ((x : A) → P x → Q x) → (xs : List A) → AllByRecursion P xs
    → AllByRecursion Q xs
all_step P Q step [] h = tt
all_step P Q step (x ∷ xs) h = (step x h.0, all_step P Q step xs h.1)

pub all_at : {A : Type 0} (P : A → Type 0) (xs : List A) → ((n : ℕ) (x : A) → slice_get xs n ≡ Some x → P x)
    → AllByRecursion P xs
all_at P [] each = tt
all_at P (x ∷ xs) each = (each 0 x refl, all_at P xs (λ n y h. each (suc n) y h))

taken_off_end : (l : ℕ) (s : List Bool) (b : Bool) → length s ≡ l → take l (s ++ b ∷ []) ≡ s
taken_off_end zero [] b is = refl
taken_off_end zero (a ∷ s) b is = absurd (cc)
taken_off_end (suc l) [] b is = absurd (cc)
taken_off_end (suc l) (a ∷ s) b is = ap (λ rest. a ∷ rest) (taken_off_end l s b (omega arith))

-- a first digit decides where it differs
by_head : (x y : Bool) (p q p' q' : List Bool) → (is_less p q ≡ true → is_less p' q' ≡ true)
    → is_less (x ∷ p) (y ∷ q) ≡ true → is_less (x ∷ p') (y ∷ q') ≡ true
by_head true true p q p' q' rest h = rest h
by_head true false p q p' q' rest h = absurd (cc)
by_head false true p q p' q' rest h = refl
by_head false false p q p' q' rest h = rest h

less_longer : (l : ℕ) (p s : List Bool) (b : Bool) → length p ≡ suc l → length s ≡ l
    → is_less (take l p) s ≡ true
    → is_less p (s ++ b ∷ []) ≡ true
less_longer zero p s b full long less = absurd (cc)
less_longer (suc l) [] s b full long less = absurd (cc)
less_longer (suc l) (x ∷ p) [] b full long less = absurd (cc)
less_longer (suc l) (x ∷ p) (y ∷ s) b full long less =
    by_head x y (take l p) s p (s ++ b ∷ []) (λ rest. less_longer l p s b (omega arith) (omega arith) rest) less

-- what stands under starts comes before them with one digit more
comes_under : (l : ℕ) (s : List Bool) (b : Bool) (p : List Bool) → length s ≡ l → StandsUnder l s p
    → Comes p (s ++ b ∷ [])
comes_under l s b p long (inl short) = inl (let one = length-append s (b ∷ []) in omega (arith, one))
comes_under l s b p long (inr (full, less)) =
    inr (let one = length-append s (b ∷ []) in omega (arith, one), less_longer l p s b full long less)

sibling : (s : List Bool) → Comes (s ++ false ∷ []) (s ++ true ∷ [])
sibling s = inr (length-append s (false ∷ []) ∙ sym (length-append s (true ∷ [])), zero_before_one s)

-- ---- a level

module _ (contents : List (List Bool)) (es : List ℕ) (driver : DriverId) (registers : List Planned)
    (ends : List (Option ℕ))
    (below : (e : ℕ) → In e es → e < length ends) where
  abbrev first : ℕ
  first = length registers

  abbrev of_edge : ℕ → List Bool
  of_edge e = get_or contents e []

  -- these groups of level l are left, and those of `fresh` are made
  pub record Level (l : ℕ) (rest : List Known) (t : Progress) : Type 0 where
    pub keys : List (List Bool)
    pub made : List Planned
    pub fresh : List Known
    pub before : List (List Bool)
    pub stands : Stands contents es driver first registers ends l keys made fresh t
    pub tail : keys ≡ before ++ starts_of fresh
    pub rest_known : AllByRecursion (IsKnown contents es driver first l keys) rest
    pub under : AllByRecursion (λ (k : Known). AllByRecursion (StandsUnder l k.starts) keys) rest
    pub less : AreLess (starts_of rest)
    pub status : (e : ℕ) → In e es → HasStatus contents es driver first registers ends l keys fresh rest t e

  -- the digit of an edge that goes on
  digit_of : (xs : List Bool) (l : ℕ) → l < length xs → (b : Bool) × (slice_get xs l ≡ Some b)
  digit_of [] l more = absurd (omega arith)
  digit_of (x ∷ xs) zero more = (x, refl)
  digit_of (x ∷ xs) (suc l) more = digit_of xs l (omega arith)

  start_self : (b : Bool) → is_start b (Some b) ≡ true
  start_self true = refl
  start_self false = refl

  -- an edge of a group goes on with one of both digits
  goes_either : (l : ℕ) (g : Known) (keys : List (List Bool)) → IsKnown contents es driver first l keys g
      → (e : ℕ)
      → In e g.group.edges → l < length (of_edge e)
      → (b : Bool) × (begins contents (g.starts ++ b ∷ []) e ≡ true)
  goes_either l g keys known e among more =
      let found = of_filter (begins contents g.starts) e es (subst (In e) known.edges among) in
      let digit = digit_of (of_edge e) l more in (
        digit.0,
        prefix_more g.starts digit.0 (of_edge e)
            ∙ ap₂ (λ a b. a && b) found.1
            (ap (λ n. is_start digit.0 (slice_get (of_edge e) n)) known.long ∙ ap (is_start digit.0) digit.1
            ∙ start_self digit.0),
      )

  -- one group is split
  module _ (l : ℕ) (g : Known) (rest : List Known) (t : Progress) (level : Level l (g ∷ rest) t) where
    abbrev zero_starts : List Bool
    zero_starts = g.starts ++ false ∷ []

    abbrev one_starts : List Bool
    one_starts = g.starts ++ true ∷ []

    abbrev child_edges : Bool → List ℕ
    child_edges b = filter (goes_on contents l b) g.group.edges

    edges_are : (b : Bool) → child_edges b ≡ filter (begins contents (g.starts ++ b ∷ [])) es
    edges_are b =
        ap (λ xs. filter (goes_on contents l b) xs) level.rest_known.0.edges
        ∙ ap (λ n. filter (goes_on contents n b) (filter (begins contents g.starts) es))
        (sym level.rest_known.0.long)
        ∙ going_on_begin contents g.starts b es

    abbrev middle : Progress
    middle = add_child driver g.group.behind false (child_edges false) t

    abbrev end : Progress
    end = split contents driver l g.group t

    comes_zero : AllByRecursion (λ p. Comes p zero_starts) level.keys
    comes_zero = all_step (StandsUnder l g.starts) (λ p. Comes p zero_starts)
        (λ p h. comes_under l g.starts false p level.rest_known.0.long h) level.keys level.under.0

    zeros : Grown contents es driver registers ends below l level.keys level.fresh t zero_starts middle
    zeros =
        child_grown contents es driver registers ends below l level.keys level.made level.fresh t level.stands g level.rest_known.0
        false comes_zero (child_edges false) (edges_are false)

    comes_one : AllByRecursion (λ p. Comes p one_starts) zeros.keys
    comes_one = zeros.grows (λ p. Comes p one_starts)
        (all_step (StandsUnder l g.starts) (λ p. Comes p one_starts)
        (λ p h. comes_under l g.starts true p level.rest_known.0.long h) level.keys level.under.0)
        (sibling g.starts)

    ones : Grown contents es driver registers ends below l zeros.keys zeros.knowns middle one_starts end
    ones =
        child_grown contents es driver registers ends below l zeros.keys zeros.made zeros.knowns middle zeros.stands g
        (zeros.known l g level.rest_known.0) true comes_one (child_edges true) (edges_are true)

    -- starts of the group with a digit more stand under those of the groups behind
    under_later : (k : Known) → is_less g.starts k.starts ≡ true → (b : Bool)
        → StandsUnder l k.starts (g.starts ++ b ∷ [])
    under_later k less b = inr (
      length-append g.starts (b ∷ []) ∙ (let long = level.rest_known.0.long in omega (arith, long)),
      ap (λ p. is_less p k.starts) (taken_off_end l g.starts b level.rest_known.0.long) ∙ less,
    )

    under_rest : (ks : List Known) → AllByRecursion (λ q. is_less g.starts q ≡ true) (starts_of ks)
        → AllByRecursion (λ (k : Known). AllByRecursion (StandsUnder l k.starts) level.keys) ks
        → AllByRecursion (λ (k : Known). AllByRecursion (StandsUnder l k.starts) ones.keys) ks
    under_rest [] less under = tt
    under_rest (k ∷ ks) less under = (
      ones.grows (StandsUnder l k.starts)
          (zeros.grows (StandsUnder l k.starts) under.0 (under_later k less.0 false)) (under_later k less.0 true),
      under_rest ks less.1 under.1,
    )

    -- where an edge stands behind both
    done_by : (e : ℕ) → In e es → (b : Bool) → begins contents (g.starts ++ b ∷ []) e ≡ true
        → IsDone contents es driver first registers ends l ones.keys ones.knowns end e
    done_by e among false begin = ones.done e among (zeros.now e among begin)
    done_by e among true begin = ones.now e among begin

    waits : (e : ℕ) → In e es → IsWaiting contents es driver first registers ends l ones.keys (g ∷ rest) end e
        → HasStatus contents es driver first registers ends l ones.keys ones.knowns rest end e
    waits e among h = by_length (cases_lt l (length (of_edge e)))
      where
        by_place : l < length (of_edge e) → (In e g.group.edges ⊎ IsIn contents es driver first e rest)
            → HasStatus contents es driver first registers ends l ones.keys ones.knowns rest end e
        by_place more (inl here) =
            let digit = goes_either l g level.keys level.rest_known.0 e here more in
            inl (done_by e among digit.0 digit.1)
        by_place more (inr later) = inr (h.0, λ more. later)

        by_length : (l < length (of_edge e)) ⊎ (length (of_edge e) ≤ l)
            → HasStatus contents es driver first registers ends l ones.keys ones.knowns rest end e
        by_length (inl more) = by_place more (h.1 more)
        by_length (inr short) = inr (h.0, λ more. absurd (omega (arith, more, short)))

    status_of : (e : ℕ) → In e es
        → HasStatus contents es driver first registers ends l ones.keys ones.knowns rest end e
    status_of e among = ⊎_elim (λ done. inl (ones.done e among (zeros.done e among done)))
        (λ waiting. ⊎_elim (λ done. inl (ones.done e among done))
        (λ still. ⊎_elim inl (waits e among) (ones.waiting (g ∷ rest) e among still))
        (zeros.waiting (g ∷ rest) e among waiting))
        (level.status e among)

    pub group_split : Level l rest end
    group_split = record {
      keys = ones.keys;
      made = ones.made;
      fresh = ones.knowns;
      before = level.before;
      stands = ones.stands;
      tail = ones.tail level.before (zeros.tail level.before level.tail);
      rest_known =
          all_step (IsKnown contents es driver first l level.keys) (IsKnown contents es driver first l ones.keys)
          (λ k h. ones.known l k (zeros.known l k h)) rest level.rest_known.1;
      under = under_rest rest level.less.0 level.under.1;
      less = level.less.1;
      status = status_of;
    }

  groups_of : List Known → List Group
  groups_of knowns = map (λ (k : Known). k.group) knowns

  -- all groups of a level are split
  pub level_split : (l : ℕ) (rest : List Known) (t : Progress) → Level l rest t
      → Level l [] (split_all contents driver l (map (λ (k : Known). k.group) rest) t)
  level_split l [] t level = level
  level_split l (g ∷ rest) t level =
      level_split l rest (split contents driver l g.group t) (group_split l g rest t level)
