-- A search begins, takes what waits, and ends with the row of its vertex.
use Rattle.std.proofs.Common.{◌≡◌, ◌⊎◌, ℕ, zero, suc, ◌+◌, ◌<◌, ◌≤◌, Bool, true, false, List, [], ◌∷◌, length, set, replicate, refl, sym, ap, subst, ◌∙◌, inl, inr, arith}
use Rattle.std.specs.Prelude.{Option, Some, None, slice_get, Contains}
use Rattle.std.proofs.lemmas.Bool.{cases_lt, cases_eq, cases_Bool}
use Rattle.std.proofs.lemmas.List.{get_or-set_same, get_or-set_other, length-set, length-replicate}
use Rattle.std.proofs.lemmas.Option.{none-some, same_Some, slice_get_within}
use Rattle.cs_base.proofs.ListLemmas.{contains_at}
use Rattle.cs_graph.specs.declared.delays.Delays.{Delays}
use Rattle.cs_graph.specs.declared.edge.Edge.{Edge}
use Rattle.cs_graph.specs.declared.graph.Graph.{Graph}
use Rattle.cs_graph.specs.Period.{vertex_delay, edge_weight, edge_delay, edges_delay, path_delay, path_weight, IsPath}
use Rattle.cs_paths.specs.declared.reach.Reach.{Reach}
use Rattle.cs_paths.specs.declared.guide.Guide.{Guide}
use Rattle.cs_paths.specs.Guides.{leaving_of, place_of, IsGuide}
use Rattle.cs_paths.specs.Reaches.{reach_of, known_at}
use Rattle.cs_paths.specs.Rows.{IsPairAt, IsRowOf}
use Rattle.cs_paths.specs.Searches.{IsAsGood, Knows, along, IsRelaxed, HasPathWith, is_settled, settled_count, IsFew, IsAhead, IsUndone, IsSearch, IsSettled, IsFresh}
use Rattle.cs_paths.specs.Waitings.{Queue, Waits, IsUpTo, IsAdded, Takes}
use Rattle.cs_paths.proofs.SearchLemmas.{as_good_itself, as_good_then, as_good_on, up_to_then, known_set_same, known_set_other}

-- ---- how many are settled

pub settled_most : (settled : List Bool) → settled_count settled ≤ length settled
settled_most [] = omega arith
settled_most (true ∷ settled) = let rest = settled_most settled in omega (arith, rest)
settled_most (false ∷ settled) = let rest = settled_most settled in omega (arith, rest)

pub settled_more : (settled : List Bool) (v : ℕ) → v < length settled → is_settled settled v ≡ false
    → settled_count (set settled v true) ≡ 1 + settled_count settled
settled_more [] v low flag = absurd (omega (arith, low))
settled_more (true ∷ settled) zero low flag = absurd (cc)
settled_more (false ∷ settled) zero low flag = refl
settled_more (true ∷ settled) (suc v) low flag =
    let rest = settled_more settled v (omega (arith, low)) flag in omega (arith, rest)
settled_more (false ∷ settled) (suc v) low flag = settled_more settled v (omega (arith, low)) flag

none_settled : (n v : ℕ) → is_settled (replicate n false) v ≡ false
none_settled zero v = refl
none_settled (suc n) zero = refl
none_settled (suc n) (suc v) = none_settled n v

none_counted : (n : ℕ) → settled_count (replicate n false) ≡ 0
none_counted zero = refl
none_counted (suc n) = none_counted n

-- ---- lists

known_within : (row : List Reach) (v : ℕ) (a : ℕ × ℕ) → known_at row v ≡ Some a → v < length row
known_within [] v a known = absurd (none-some a known)
known_within (r ∷ row) zero a known = omega arith
known_within (r ∷ row) (suc v) a known = let rest = known_within row v a known in omega (arith, rest)

nothing_undone : (f : ℕ) → IsUndone [] 0 f → ⊥
nothing_undone f (j, low, there) = none-some f there

up_to_from_none : (k : ℕ × ℕ) → IsUpTo (0, 0) k
up_to_from_none k = elim (cases_lt 0 k.0) [
  | inl more ↦ inl more
  | inr none ↦ inr (omega (arith, none), omega arith)
]

-- all edges of the list are relaxed
pub all_done : (g : Graph) (delays : Delays) (guide : Guide) (u : ℕ) (last : ℕ × ℕ) (edges : List ℕ) (k : ℕ)
    (row : List Reach) (settled : List Bool) (waiting : Queue) → length edges ≤ k
    → IsSearch g delays guide u last edges k row settled waiting
    → IsSearch g delays guide u last [] 0 row settled waiting
all_done g delays guide u last edges k row settled waiting all is = record {
  reaches = is.reaches;
  flags = is.flags;
  attained = is.attained;
  begins = is.begins;
  waits = is.waits;
  relaxed = λ e d found flag. elim (is.relaxed e d found flag) [
    | inl (j, low, there) ↦
        let within = slice_get_within edges j e there in absurd (omega (arith, all, low, within))
    | inr done ↦ inr done
  ];
  ahead = is.ahead;
  later = is.later;
  places = is.places;
  light = is.light;
  few = is.few;
}

module _ (g : Graph) (delays : Delays) (guide : Guide) (guides : IsGuide g guide) (u : ℕ) where
  -- ---- a search begins

  module _ (blank : List Reach) (r : Reach) (empty waiting : Queue) (low : u < length g.vertices)
      (count : length blank ≡ length g.vertices) (none : (v : ℕ) → known_at blank v ≡ None)
      (is : reach_of r ≡ Some (0, vertex_delay delays u)) (quick : vertex_delay delays u ≤ 1000000)
      (idle : (k : ℕ × ℕ) → Waits empty k → ⊥) (added : IsAdded (0, place_of guide u) empty waiting) where
    first_known : known_at (set blank u r) u ≡ Some (0, vertex_delay delays u)
    first_known = known_set_same blank u r (omega (arith, low, count)) ∙ is

    only_first : (v : ℕ) (a : ℕ × ℕ) → known_at (set blank u r) v ≡ Some a
        → (v ≡ u) × ((0, vertex_delay delays u) ≡ a)
    only_first v a known = elim (cases_eq v u) [
      | inl same ↦ (
        same,
        same_Some (0, vertex_delay delays u) a
            (sym first_known ∙ ap (known_at (set blank u r)) (sym same) ∙ known),
      )
      | inr away ↦ absurd (none-some a (sym (none v) ∙ sym (known_set_other blank u v r away) ∙ known))
    ]

    only_waits : (q : ℕ × ℕ) → Waits waiting q → q ≡ (0, place_of guide u)
    only_waits q h = elim (added.only q h) [ inl same ↦ same | inr never ↦ absurd (idle q never) ]

    not_settled : (v : ℕ) → is_settled (replicate (length g.vertices) false) v ≡ true → ⊥
    not_settled v flag =
        let clash : false ≡ true = sym (none_settled (length g.vertices) v) ∙ flag in absurd (cc)

    first_path : HasPathWith g delays u u (0, vertex_delay delays u)
    first_path = record { path = []; leads = refl; weighs = refl; is = omega arith }

    pub search_begins : IsSearch g delays guide u (0, 0) [] 0 (set blank u r)
        (replicate (length g.vertices) false) waiting
    search_begins = record {
      reaches = length-set blank u r ∙ count;
      flags = length-replicate (length g.vertices) false;
      attained = λ v a known.
          let which = only_first v a known in
          subst (HasPathWith g delays u v) which.1
          (subst (λ n. HasPathWith g delays u n (0, vertex_delay delays u)) (sym which.0) first_path);
      begins = record {
        reach = (0, vertex_delay delays u);
        known = first_known;
        as_good = as_good_itself (0, vertex_delay delays u);
      };
      waits = λ v a known flag.
          let which = only_first v a known in
          subst (λ (b : ℕ × ℕ). Waits waiting (b.0, place_of guide v)) which.1
          (subst (λ n. Waits waiting (0, place_of guide n)) (sym which.0)
          added.now);
      relaxed = λ e d found flag. absurd (not_settled d.from flag);
      ahead = λ v flag. absurd (not_settled v flag);
      later = λ q h. up_to_from_none q;
      places = λ q h.
          let same = only_waits q h in
          let within = slice_get_within guide.order (place_of guide u) u (guides.at u low) in
          let ordered = guides.ordered in
          let place = ap (λ (p : ℕ × ℕ). p.1) same in
          omega (arith, within, ordered, place);
      light = λ q h.
          let none = ap (λ (p : ℕ × ℕ). p.0) (only_waits q h) in omega (arith, none);
      few = λ v a known.
          let which = only_first v a known in
          subst (IsFew (settled_count (replicate (length g.vertices) false))) which.1
          (omega arith, omega (arith, quick));
    }

  -- ---- the first that waits is taken

  module _ (last : ℕ × ℕ) (row : List Reach) (settled : List Bool) (waiting waiting' : Queue) (k : ℕ × ℕ)
      (v : ℕ) (is : IsSearch g delays guide u last [] 0 row settled waiting)
      (takes : Takes k waiting waiting') (at : slice_get guide.order k.1 ≡ Some v) where
    -- what waits is taken, and then it is v, or waits still
    taken_or_waits : (w : ℕ) (a : ℕ × ℕ) → known_at row w ≡ Some a → is_settled settled w ≡ false
        → ((w ≡ v) × (a.0 ≡ k.0)) ⊎ Waits waiting' (a.0, place_of guide w)
    taken_or_waits w a known flag = elim (takes.rest (a.0, place_of guide w) (is.waits w a known flag)) [
      | inl same ↦
          let within = known_within row w a known in
          let count = is.reaches in
          let here = guides.at w (omega (arith, within, count)) in
          let place = ap (λ (p : ℕ × ℕ). p.1) same in
          inl (same_Some w v (sym here ∙ ap (slice_get guide.order) place ∙ at), ap (λ (p : ℕ × ℕ). p.0) same)
      | inr rest ↦ inr rest
    ]

    -- it was settled before, or waits with more registers than are known
    pub passed_over : ((delay : ℕ) → IsFresh row settled v (k.0, delay) → ⊥)
        → IsSearch g delays guide u last [] 0 row settled waiting'
    passed_over stale = record {
      reaches = is.reaches;
      flags = is.flags;
      attained = is.attained;
      begins = is.begins;
      waits = λ w a known flag. elim (taken_or_waits w a known flag) [
        | inl (same, count) ↦ absurd (stale a.1 (record {
          known = subst (λ n. known_at row v ≡ Some (n, a.1)) count
              (subst (λ n. known_at row n ≡ Some a) same known);
          waits = subst (λ n. is_settled settled n ≡ false) same flag;
        }))
        | inr rest ↦ rest
      ];
      relaxed = is.relaxed;
      ahead = is.ahead;
      later = λ q h. is.later q (takes.still q h);
      places = λ q h. is.places q (takes.still q h);
      light = λ q h. is.light q (takes.still q h);
      few = is.few;
    }

    -- it is settled
    module _ (delay : ℕ) (fresh : IsFresh row settled v (k.0, delay)) where
      v_low : v < length g.vertices
      v_low = (guides.once k.1 v at).0

      place_is : place_of guide v ≡ k.1
      place_is = (guides.once k.1 v at).1

      flag_low : v < length settled
      flag_low = let low = v_low in let count = is.flags in omega (arith, low, count)

      flag_now : is_settled (set settled v true) v ≡ true
      flag_now = get_or-set_same settled v true false flag_low

      flag_other : (w : ℕ) → (w ≡ v → ⊥) → is_settled (set settled v true) w ≡ is_settled settled w
      flag_other w away = get_or-set_other settled v w true false away

      still_open : (w : ℕ) → is_settled (set settled v true) w ≡ false → w ≡ v → ⊥
      still_open w flag same =
          let clash : true ≡ false = sym flag_now ∙ ap (is_settled (set settled v true)) (sym same) ∙ flag in
          absurd (cc)

      last_then : IsUpTo last (k.0, place_of guide v)
      last_then = subst (λ n. IsUpTo last (k.0, n)) (sym place_is)
          (is.later k takes.taken)

      count_now : settled_count (set settled v true) ≡ 1 + settled_count settled
      count_now = settled_more settled v flag_low fresh.waits

      pub now_settled : IsSettled v (k.0, delay) row (set settled v true)
      now_settled =
          let few = is.few v (k.0, delay) fresh.known in
          let count = count_now in
          record {
            known = fresh.known;
            is = flag_now;
            weight = let one = few.0 in omega (arith, one, count);
            delay = let one = few.1 in omega (arith, one, count);
          }

      pub settles_first : IsSearch g delays guide u (k.0, place_of guide v) (leaving_of guide.leaving v) 0 row
          (set settled v true) waiting'
      settles_first = record {
        reaches = is.reaches;
        flags = length-set settled v true ∙ is.flags;
        attained = is.attained;
        begins = is.begins;
        waits = λ w a known flag. elim (taken_or_waits w a known
            (sym (flag_other w (still_open w flag)) ∙ flag)) [
              | inl (same, count) ↦ absurd (still_open w flag same)
              | inr rest ↦ rest
            ];
        relaxed = λ e d found flag. elim (cases_eq d.from v) [
          | inl same ↦
              let stands = contains_at (leaving_of guide.leaving v) e
              (subst (λ n. Contains (leaving_of guide.leaving n) e) same (guides.leaving.every e d found)) in
              inl (stands.0, omega arith, stands.1)
          | inr away ↦ elim (is.relaxed e d found (sym (flag_other d.from away) ∙ flag)) [
            | inl never ↦ absurd (nothing_undone e never)
            | inr done ↦ inr done
          ]
        ];
        ahead = λ w flag. elim (cases_eq w v) [
          | inl same ↦ subst (IsAhead guide (k.0, place_of guide v) row) (sym same)
              (record { reach = (k.0, delay); known = fresh.known; up_to = inr (refl, omega arith) })
          | inr away ↦
              let old = is.ahead w (sym (flag_other w away) ∙ flag) in
              record {
                reach = old.reach;
                known = old.known;
                up_to = up_to_then (old.reach.0, place_of guide w) last (k.0, place_of guide v) old.up_to last_then;
              }
        ];
        later = λ q h. subst (λ n. IsUpTo (k.0, n) q) (sym place_is) (takes.first q h);
        places = λ q h. is.places q (takes.still q h);
        light = λ q h.
            let one = is.light q (takes.still q h) in let count = count_now in omega (arith, one, count);
        few = λ w a known.
            let few = is.few w a known in
            let count = count_now in
            (let one = few.0 in omega (arith, one, count), let one = few.1 in omega (arith, one, count));
      }

  -- ---- nothing waits

  module _ (last : ℕ × ℕ) (row : List Reach) (settled : List Bool) (waiting : Queue)
      (idle : (k : ℕ × ℕ) → Waits waiting k → ⊥) (is : IsSearch g delays guide u last [] 0 row settled waiting) where
    -- every vertex of which something is known is settled
    all_settled : (v : ℕ) (a : ℕ × ℕ) → known_at row v ≡ Some a → is_settled settled v ≡ true
    all_settled v a known = elim (cases_Bool (is_settled settled v)) [
      | inl flag ↦ flag
      | inr flag ↦ absurd (idle _ (is.waits v a known flag))
    ]

    all_relaxed : (e : ℕ) (d : Edge) → slice_get g.edges e ≡ Some d → IsRelaxed delays row d
    all_relaxed e d found a known = elim (is.relaxed e d found (all_settled d.from a known)) [
      | inl never ↦ absurd (nothing_undone e never)
      | inr done ↦ done a known
    ]

    as_good_sum : (a : ℕ × ℕ) (m n m' n' : ℕ) → m ≡ m' → n ≡ n' → IsAsGood a (m, n) → IsAsGood a (m', n')
    as_good_sum a m n m' n' h k good = subst (λ i. IsAsGood a (i, n')) h (subst (λ j. IsAsGood a (m, j)) k good)

    -- along any path from where something is known, something as good is known
    known_along : (x : ℕ) (es : List ℕ) (v : ℕ) (a : ℕ × ℕ) → known_at row x ≡ Some a → IsPath g x es v
        → Knows row v (a.0 + path_weight g es, a.1 + edges_delay g delays es)
    known_along x [] v a known same = record {
      reach = a;
      known = subst (λ n. known_at row n ≡ Some a) same known;
      as_good = as_good_sum a a.0 a.1 (a.0 + 0) (a.1 + 0) (omega arith) (omega arith) (as_good_itself a);
    }
    known_along x (e ∷ es) v a known (d, found, from, rest) =
        let next = all_relaxed e d found a (subst (λ n. known_at row n ≡ Some a) (sym from) known) in
        let b = next.reach in
        let others = known_along d.to es v b next.known rest in
        let weight = path_weight g es in
        let delay = edges_delay g delays es in
        let first_weight = ap edge_weight found in
        let first_delay = ap (edge_delay delays) found in
        record {
          reach = others.reach;
          known = others.known;
          as_good = as_good_sum others.reach ((along delays d a).0 + weight) ((along delays d a).1 + delay)
              (a.0 + (edge_weight (slice_get g.edges e) + weight))
              (a.1 + (edge_delay delays (slice_get g.edges e) + delay))
              (omega (arith, first_weight)) (omega (arith, first_delay))
              (as_good_then others.reach (b.0 + weight, b.1 + delay)
              ((along delays d a).0 + weight, (along delays d a).1 + delay) others.as_good
              (as_good_on b (along delays d a) weight delay next.as_good));
        }

    known_from_first : (es : List ℕ) (v : ℕ) → IsPath g u es v
        → Knows row v (path_weight g es, path_delay g delays u es)
    known_from_first es v leads =
        let first = is.begins in
        let b = first.reach in
        let others = known_along u es v b first.known leads in
        let weight = path_weight g es in
        let delay = edges_delay g delays es in
        record {
          reach = others.reach;
          known = others.known;
          as_good = as_good_sum others.reach (0 + weight) (vertex_delay delays u + delay) weight
              (path_delay g delays u es) (omega arith) refl
              (as_good_then others.reach (b.0 + weight, b.1 + delay) (0 + weight, vertex_delay delays u + delay)
              others.as_good (as_good_on b (0, vertex_delay delays u) weight delay first.as_good));
        }

    best_known : (v : ℕ) (a : ℕ × ℕ) → known_at row v ≡ Some a → (es : List ℕ) → IsPath g u es v
        → IsAsGood a (path_weight g es, path_delay g delays u es)
    best_known v a known es leads =
        let best = known_from_first es v leads in
        subst (λ b. IsAsGood b (path_weight g es, path_delay g delays u es))
        (same_Some best.reach a (sym best.known ∙ known)) best.as_good

    no_fewer : (a b : ℕ × ℕ) → IsAsGood a b → a.0 ≤ b.0
    no_fewer a b h = elim h [ inl less ↦ omega (arith, less) | inr (same, few) ↦ omega (arith, same) ]

    no_later : (a b : ℕ × ℕ) → IsAsGood a b → b.0 ≡ a.0 → b.1 ≤ a.1
    no_later a b h same = elim h [
      | inl less ↦ absurd (omega (arith, less, same))
      | inr (also, few) ↦ few
    ]

    pair_from : (v : ℕ) (o : Option (ℕ × ℕ)) → known_at row v ≡ o → IsPairAt g delays u v o
    pair_from v None unknown = λ es leads.
        let best = known_from_first es v leads in none-some best.reach (sym unknown ∙ best.known)
    pair_from v (Some a) known =
        let has = is.attained v a known in
        record {
          least_weight = record {
            path = has.path;
            leads = has.leads;
            is = has.weighs;
            least = λ es leads. no_fewer a _ (best_known v a known es leads);
          };
          greatest_delay = record {
            path = has.path;
            leads = has.leads;
            weighs = has.weighs;
            is = has.is;
            greatest = λ es leads weighs. no_later a _ (best_known v a known es leads) weighs;
          };
        }

    pub search_ends : IsRowOf g delays u row
    search_ends = record { count = is.reaches; pairs = λ v low. pair_from v (known_at row v) refl }
