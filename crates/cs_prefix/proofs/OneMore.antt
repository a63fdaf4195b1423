-- One register more: what stands while a level is made stands behind it.
use Rattle.std.proofs.Common.{◌≡◌, ℕ, suc, ◌+◌, ◌-◌, ◌<◌, List, [], ◌∷◌, ◌++◌, length, take, get_or, map, filter, Bool, true, false, Option, Some, None, refl, sym, subst, ap, ◌∙◌, ⊎_elim, length-append, arith}
use Rattle.std.specs.Prelude.{slice_get}
use Rattle.std.specs.List.{AllByRecursion}
use Rattle.std.proofs.lemmas.Option.{slice_get_within}
use Rattle.cs_prefix.specs.declared.plan.DriverId.{DriverId}
use Rattle.cs_prefix.specs.declared.plan.Planned.{Planned}
use Rattle.cs_prefix.specs.Layers.{Progress, set_all}
use Rattle.cs_prefix.proofs.Beginnings.{In, begins, of_filter, in_filter, prefix_is_taken}
use Rattle.cs_prefix.proofs.Splitting.{get_either, set_others, set_these, set_within}
use Rattle.cs_prefix.proofs.Partly.{Comes, IsBehind, IsDone, IsKnown, IsMade, IsOn, Known, Stands, behind_more, behind_new, in_last, ordered_more}

-- ---- lists with one element more

pub more_all : {A : Type 0} (P Q : A → Type 0) (xs : List A) (x : A) → ((y : A) → P y → Q y)
    → AllByRecursion P xs → Q x → AllByRecursion Q (xs ++ x ∷ [])
more_all P Q [] x step h one = (one, tt)
more_all P Q (y ∷ xs) x step h one = (step y h.0, more_all P Q xs x step h.1 one)

pub append_more : {A : Type 0} (xs ys : List A) (z : A) → (xs ++ ys) ++ z ∷ [] ≡ xs ++ (ys ++ z ∷ [])
append_more [] ys z = refl
append_more (x ∷ xs) ys z = ap (λ rest. x ∷ rest) (append_more xs ys z)

pub map_more : {A B : Type 0} (f : A → B) (xs : List A) (x : A) → map f (xs ++ x ∷ []) ≡ map f xs ++ f x ∷ []
map_more f [] x = refl
map_more f (y ∷ xs) x = ap (λ rest. f y ∷ rest) (map_more f xs x)

taken_off : (s : List Bool) (b : Bool) → take (length (s ++ b ∷ []) - 1) (s ++ b ∷ []) ≡ s
taken_off [] b = refl
taken_off (a ∷ s) b = let one = length-append (a ∷ s) (b ∷ []) in
    ap (λ n. take n (a ∷ s ++ b ∷ [])) (let h : length (a ∷ s ++ b ∷ []) - 1
    ≡ suc (length s) = omega (arith, one) in h)
    ∙ ap (λ rest. a ∷ rest) (taken_length s b)
  where
    taken_length : (s : List Bool) (b : Bool) → take (length s) (s ++ b ∷ []) ≡ s
    taken_length [] b = refl
    taken_length (a ∷ s) b = ap (λ rest. a ∷ rest) (taken_length s b)

last_of : (s : List Bool) (b : Bool) → get_or (s ++ b ∷ []) (length (s ++ b ∷ []) - 1) false ≡ b
last_of [] b = refl
last_of (a ∷ s) b = let one = length-append (a ∷ s) (b ∷ []) in
    ap (λ n. get_or (a ∷ s ++ b ∷ []) n false) (let h : length (a ∷ s ++ b ∷ []) - 1
    ≡ suc (length s) = omega (arith, one) in h)
    ∙ at_end s b
  where
    at_end : (s : List Bool) (b : Bool) → get_or (s ++ b ∷ []) (length s) false ≡ b
    at_end [] b = refl
    at_end (a ∷ s) b = at_end s b

-- ---- one register

module _ (contents : List (List Bool)) (es : List ℕ) (driver : DriverId) (registers : List Planned)
    (ends : List (Option ℕ))
    (below : (e : ℕ) → In e es → e < length ends) where
  abbrev first : ℕ
  first = length registers

  -- the state with a register for the edges of a group that go on with b
  abbrev pub more : Known → Bool → List ℕ → Progress → Progress
  more g b edges t = record {
    registers = t.registers ++ record { driver = driver; behind = g.group.behind; start = b } ∷ [];
    ends = set_all t.ends edges (length t.registers);
    groups = t.groups ++ record { behind = Some (length t.registers); edges = edges } ∷ [];
  }

  module _ (l : ℕ) (ks : List (List Bool)) (made : List Planned) (fresh : List Known) (t : Progress)
      (stands : Stands contents es driver first registers ends l ks made fresh t)
      (g : Known) (known : IsKnown contents es driver first l ks g) (b : Bool) (e0 : ℕ)
      (there : In e0 (filter (begins contents (g.starts ++ b ∷ [])) es))
      (ready : AllByRecursion (λ p. Comes p (g.starts ++ b ∷ [])) ks) where
    abbrev pub q : List Bool
    q = g.starts ++ b ∷ []

    abbrev edges : List ℕ
    edges = filter (begins contents q) es

    abbrev place : ℕ
    place = length t.registers

    abbrev register : Planned
    register = record { driver = driver; behind = g.group.behind; start = b }

    abbrev pub known_more : Known
    known_more = record { starts = q; group = record { behind = Some place; edges = edges } }

    q_long : length q ≡ suc l
    q_long = let one = length-append g.starts (b ∷ []) in let long = known.long in omega (arith, one, long)

    place_is : place ≡ first + length ks
    place_is =
        let all = ap length stands.registers_are ∙ length-append registers made in
        let same = stands.count in omega (arith, all, same)

    new_behind : IsBehind contents es driver first (ks ++ q ∷ []) q (Some place)
    new_behind = subst (λ n. IsBehind contents es driver first (ks ++ q ∷ []) q (Some n)) (sym place_is)
        (behind_new contents es driver first ks g.starts b)

    weaker_known : (k : Known) → IsKnown contents es driver first (suc l) ks k
        → IsKnown contents es driver first (suc l) (ks ++ q ∷ []) k
    weaker_known k h =
        record { long = h.long; edges = h.edges; behind = behind_more contents es driver first ks q k.starts k.group.behind h.behind }

    each_more : (n : ℕ) (p : List Bool) (r : Planned) → slice_get (ks ++ q ∷ []) n ≡ Some p
        → slice_get (made ++ register ∷ []) n ≡ Some r → IsMade contents es driver first (ks ++ q ∷ []) p r
    each_more n p r at_key at_register = ⊎_elim old new (get_either ks q n p at_key)
      where
        old : slice_get ks n ≡ Some p → IsMade contents es driver first (ks ++ q ∷ []) p r
        old h = ⊎_elim (λ here.
            let was = stands.each n p r h here in
            record { driver_is = was.driver_is; start = was.start; behind = behind_more contents es driver first ks q (take (length p - 1) p) r.behind was.behind })
            (λ other. absurd (let low = slice_get_within ks n p h in let same = stands.count in
            omega (arith, low, same, other.0)))
            (get_either made register n r at_register)

        new : (n ≡ length ks) × (p ≡ q) → IsMade contents es driver first (ks ++ q ∷ []) p r
        new h =
            ⊎_elim (λ here. absurd (let low = slice_get_within made n r here in let same = stands.count in
            omega (arith, low, same, h.0)))
            (λ other. rw (h.1, other.1) (record {
              driver_is = refl;
              start = sym (last_of g.starts b);
              behind =
                  subst (λ s. IsBehind contents es driver first (ks ++ q ∷ []) s g.group.behind)
                  (sym (taken_off g.starts b))
                  (behind_more contents es driver first ks q g.starts g.group.behind known.behind);
            }))
            (get_either made register n r at_register)

    on_more : (n : ℕ) (p : List Bool) → slice_get (ks ++ q ∷ []) n ≡ Some p
        → IsOn contents es driver first (suc l) p
    on_more n p at_key =
        ⊎_elim (λ old. stands.on n p old) (λ new. subst (IsOn contents es driver first (suc l))
        (sym new.1) here) (get_either ks q n p at_key)
      where
        here : IsOn contents es driver first (suc l) q
        here = let found = of_filter (begins contents q) e0 es there in
            record { e = e0; among = found.0; begin = found.1; some = omega (arith, q_long); few = omega (arith, q_long) }

    pub stands_more : Stands contents es driver first registers ends l (ks ++ q ∷ []) (made ++ register ∷ [])
        (fresh ++ known_more ∷ []) (more g b edges t)
    stands_more = record {
      registers_are =
          ap (λ rs. rs ++ register ∷ []) stands.registers_are ∙ append_more registers made register;
      groups_are =
          ap (λ gs. gs ++ known_more.group ∷ []) stands.groups_are
          ∙ sym (map_more (λ (k : Known). k.group) fresh known_more);
      count =
          length-append made (register ∷ []) ∙ ap (λ n. n + 1) stands.count ∙ sym (length-append ks (q ∷ []));
      each = each_more;
      on = on_more;
      known =
          more_all (IsKnown contents es driver first (suc l) ks)
          (IsKnown contents es driver first (suc l) (ks ++ q ∷ [])) fresh known_more
          weaker_known stands.known (record { long = q_long; edges = refl; behind = new_behind });
      ordered = ordered_more ks q stands.ordered ready;
      ends_count = set_within t.ends edges place ∙ stands.ends_count;
      others =
          λ e none. set_others t.ends edges place e (λ here. none (of_filter (begins contents q) e es here).0)
          ∙ stands.others e none;
    }

    -- an edge that goes on so is done
    pub done_now : (e : ℕ) → In e es → begins contents q e ≡ true
        → IsDone contents es driver first registers ends l (ks ++ q ∷ []) (fresh ++ known_more ∷ [])
        (more g b edges t) e
    done_now e among begin =
        let inside = in_filter (begins contents q) e es among begin in
        let at_end : get_or (set_all t.ends edges place) e None ≡ Some place =
        set_these t.ends edges place e inside (let low = below e among in let same = stands.ends_count in
        omega (arith, low, same)) in
        let taken : q ≡ take (suc l) (get_or contents e []) =
        prefix_is_taken q (get_or contents e []) begin ∙ ap (λ n. take n (get_or contents e [])) q_long in (
          rw (sym taken, at_end) new_behind,
          λ more. in_last contents es driver first e fresh known_more inside,
        )

    -- the others stay as they are
    pub others_stay : (e : ℕ) → begins contents q e ≡ false
        → get_or (set_all t.ends edges place) e None ≡ get_or t.ends e None
    others_stay e other =
        set_others t.ends edges place e (λ here. let found = of_filter (begins contents q) e es here in
        let never = sym other ∙ found.1 in absurd (cc))
