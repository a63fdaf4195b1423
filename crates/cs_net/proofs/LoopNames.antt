-- The names of a loop of cells: those of a shortcut of a walk that ends with a least cell, last first.
use Rattle.std.proofs.Common.{◌≡◌, ℕ, zero, suc, ◌+◌, ◌<◌, ◌≤◌, List, [], ◌∷◌, ◌++◌, length, map, reverse, take, drop, get_or, Bool, true, ◌&&◌, Some, None, refl, sym, ap, ap₂, subst, ◌∙◌, arith, inl, inr}
use Rattle.std.specs.Prelude.{IsTrue, bytes_eq, slice_get}
use Rattle.std.specs.List.{IsDistinct, list_all}
use Rattle.std.proofs.lemmas.Bool.{cases_eq}
use Rattle.std.proofs.lemmas.List.{append_assoc, drop-map, length-append, map-append, reverse-append, take-append-drop}
use Rattle.std.proofs.lemmas.List.Sorted.{IsPermutation-reverse}
use Rattle.std.proofs.lemmas.Map.Keys.{IsDistinct-IsPermutation, IsDistinct-tail}
use Rattle.std.proofs.lemmas.Option.{slice_get-get_or, slice_get_within}
use Rattle.std.proofs.Math.Seq.{take-suc}
use Rattle.cs_order.specs.Graphs.{IsLoop as IsLoopOfVertices}
use Rattle.cs_order.proofs.CallerLemmas.{loop_turned}
use Rattle.cs_base.proofs.ListLemmas.{at_push, at_push_new, at_push_old}
use Rattle.cs_net.specs.Accept.{FeedOn, IsLoopOfCells, drives_one_of, feeds, is_below}
use Rattle.cs_net.specs.Elements.{elements_of, graph_of}
use Rattle.cs_net.specs.Loops.{AreNext, IsAtEnd, IsLeastAt, IsShortcut, name_at}
use Rattle.cs_net.specs.Netlist.{Net}
use Rattle.cs_net.proofs.CellNames.{bytes_eq_flips, distinct_names, name_below}
use Rattle.cs_net.proofs.LoopBits.{LoopBits, loop_bits}
use Rattle.cs_net.proofs.LoopLemmas.{HasNamesInOrder, IsFedWalk, cell_of, fed_walk, name_of}
use Rattle.cs_net.proofs.Members.{Has, has_either, has_left, has_of_map, has_right}

-- ---- lists

reverse_pushed : {A : Type 0} (x : A) (xs : List A) → reverse (x ∷ xs) ≡ reverse xs ++ x ∷ []
reverse_pushed x xs = reverse-append (x ∷ []) xs

has_of_reverse : {A : Type 0} (xs : List A) (x : A) → Has (reverse xs) x → Has xs x
has_of_reverse [] x has = has
has_of_reverse {A = A} (y ∷ xs) x has =
    let P : List A → Type 0 = λ ys. Has ys x in
    elim (has_either (reverse xs) (y ∷ []) x (subst P (reverse_pushed y xs) has)) [
      | inl earlier ↦ let found = has_of_reverse xs x earlier in (suc found.0, found.1)
      | inr last ↦ alone last
    ]
  where
    alone : Has (y ∷ []) x → Has (y ∷ xs) x
    alone (zero, stands) = (zero, stands)
    alone (suc i, stands) = cc

all_of : {A : Type 0} (test : A → Bool) (xs : List A) → ((x : A) → Has xs x → test x ≡ true)
    → list_all test xs ≡ true
all_of test [] each = refl
all_of test (x ∷ xs) each =
    ap₂ (λ t u. t && u) (each x (zero, refl)) (all_of test xs (λ y has. each y (suc has.0, has.1)))

-- a list that is not empty, as its beginning and its last
record IsPushed (xs : List ℕ) : Type 0 where
  front : List ℕ
  last : ℕ
  is : xs ≡ front ++ last ∷ []

pushed : (x : ℕ) (xs : List ℕ) → IsPushed (x ∷ xs)
pushed x [] = record { front = []; last = x; is = refl }
pushed x (y ∷ xs) =
    let rest = pushed y xs in
    record { front = x ∷ rest.front; last = rest.last; is = ap (λ ys. x ∷ ys) rest.is }

long_pushed : (xs : List ℕ) (y : ℕ) → length (xs ++ y ∷ []) ≡ suc (length xs)
long_pushed xs y = length-append xs (y ∷ []) ∙ omega arith

pushed_end : (xs : List ℕ) (y : ℕ) → IsAtEnd (xs ++ y ∷ []) y
pushed_end xs y = (length xs, at_push_new xs y, long_pushed xs y)

end_of_pushed : (xs : List ℕ) (y z : ℕ) → IsAtEnd (xs ++ y ∷ []) z → z ≡ y
end_of_pushed xs y z (i, stands, long) = elim (at_push xs y i z stands) [
  | inl old ↦ absurd (omega (arith, slice_get_within xs i z old, long_pushed xs y))
  | inr (place, new) ↦ new
]

-- ---- names, last first

feed_pushed : (net : Net) (names : List (List ℕ)) (a last : List ℕ) → FeedOn net names a
    → IsTrue (feeds net a last)
    → FeedOn net (names ++ a ∷ []) last
feed_pushed net [] a last on h = absurd on
feed_pushed net (n ∷ []) a last on h = (on, h)
feed_pushed net (n ∷ m ∷ names) a last on h = (on.0, feed_pushed net (m ∷ names) a last on.1 h)

-- where each cell is fed by the next, each feeds the one before
feed_back : (net : Net) (p : ℕ) (ps : List ℕ) (last : List ℕ)
    → ((x y : ℕ) → AreNext (p ∷ ps) x y → feeds net (name_of net y) (name_of net x) ≡ true)
    → feeds net (name_of net p) last ≡ true → FeedOn net (reverse (map (name_at net.cells) (p ∷ ps))) last
feed_back net p [] last next h = h
feed_back net p (q ∷ ps) last next h =
    let later =
    feed_back net q ps (name_of net p) (λ x y there. next x y (suc there.0, there.1, there.2))
    (next p q (zero, refl, refl)) in
    let P : List (List ℕ) → Type 0 = λ names. FeedOn net names last in
    subst P (sym (reverse_pushed (name_of net p) (map (name_at net.cells) (q ∷ ps))))
    (feed_pushed net (reverse (map (name_at net.cells) (q ∷ ps))) (name_of net p) last later h)

-- what a shortcut comes to, the walk does
pub short_within : (walk short : List ℕ) → IsShortcut walk short → (x : ℕ) → Has short x → Has walk x
short_within walk short h x (zero, stands) = (zero, sym h.start ∙ stands)
short_within walk short h x (suc i, stands) = second short h x i stands
  where
    earlier : (short : List ℕ) (i x : ℕ) → slice_get short (suc i) ≡ Some x
        → (y : ℕ) × (slice_get short i ≡ Some y)
    earlier [] i x stands = cc
    earlier (y ∷ short) zero x stands = (y, refl)
    earlier (y ∷ short) (suc i) x stands = earlier short i x stands

    second : (short : List ℕ) → IsShortcut walk short → (x i : ℕ) → slice_get short (suc i) ≡ Some x
        → Has walk x
    second short h x i stands =
        let before = earlier short i x stands in
        let there = h.next before.0 x (i, before.1, stands) in
        (suc there.0, there.2)

-- the names of a shortcut of a fed walk, last first, where the walk ends with a least cell
names_of_walk : (net : Net) (walk short : List ℕ) → HasNamesInOrder net → (vs : List ℕ)
    → (h : LoopBits net vs)
    → IsFedWalk net h.bits walk → IsShortcut walk short → ((y z : ℕ) → IsAtEnd walk y → Has walk z → y ≤ z)
    → (p : ℕ) (ps : List ℕ) → short ≡ p ∷ ps → IsLoopOfCells net (reverse (map (name_at net.cells) short))
names_of_walk net walk short order vs h fed cut least p ps is =
    let P : List (List ℕ) → Type 0 = IsLoopOfCells net in
    subst P (sym turned) (
      h.bits,
      record {
        loop = h.loop;
        of_it = all_of (drives_one_of net h.bits) (first ∷ rest) (λ n has. drives n has);
        feed_on = subst (λ names. FeedOn net names first) turned feed_on;
        least = all_of (is_below first) rest (λ n has. below n has);
        distinct = IsDistinct-tail bytes_eq first rest distinct;
      },
    )
  where
    parts : IsPushed (p ∷ ps)
    parts = pushed p ps

    short_is : short ≡ parts.front ++ parts.last ∷ []
    short_is = is ∙ parts.is

    first : List ℕ
    first = name_of net parts.last

    rest : List (List ℕ)
    rest = reverse (map (name_at net.cells) parts.front)

    turned : reverse (map (name_at net.cells) short) ≡ first ∷ rest
    turned =
        ap (λ ps. reverse (map (name_at net.cells) ps)) short_is
        ∙ ap (λ names. reverse names) (map-append (name_at net.cells) parts.front (parts.last ∷ []))
        ∙ reverse-append (map (name_at net.cells) parts.front) (first ∷ [])

    last_of_walk : IsAtEnd walk parts.last
    last_of_walk =
        let P : List ℕ → Type 0 = λ ps. IsAtEnd ps parts.last in
        cut.end parts.last (subst P (sym short_is) (pushed_end parts.front parts.last))

    named : (n : List ℕ) → Has (reverse (map (name_at net.cells) short)) n
        → (q : ℕ) × Has short q × (n ≡ name_of net q)
    named n has =
        has_of_map (name_at net.cells) short n (has_of_reverse (map (name_at net.cells) short) n has)

    drives : (n : List ℕ) → Has (first ∷ rest) n → drives_one_of net h.bits n ≡ true
    drives n has =
        let P : List (List ℕ) → Type 0 = λ names. Has names n in
        let q = named n (subst P (sym turned) has) in
        ap (drives_one_of net h.bits) q.2 ∙ fed.drives q.0 (short_within walk short cut q.0 q.1)

    feed_on : FeedOn net (reverse (map (name_at net.cells) short)) first
    feed_on =
        let P : List ℕ → Type 0 = λ ps. FeedOn net (reverse (map (name_at net.cells) ps)) first in
        let start : slice_get walk 0 ≡ Some p = sym cut.start ∙ ap (λ (ps : List ℕ). slice_get ps 0) is in
        let Q : List ℕ → Type 0 =
        λ ps. (x y : ℕ) → AreNext ps x y → feeds net (name_of net y) (name_of net x) ≡ true in
        let next : Q short = λ x y there. fed.next x y (cut.next x y there) in
        subst P (sym is)
        (feed_back net p ps first (subst Q is next) (fed.closed p parts.last start last_of_walk))

    below : (n : List ℕ) → Has rest n → IsTrue (is_below first n)
    below n has =
        let q =
        has_of_map (name_at net.cells) parts.front n
        (has_of_reverse (map (name_at net.cells) parts.front) n has) in
        let in_short : slice_get short q.1.0 ≡ Some q.0 =
        ap (λ (ps : List ℕ). slice_get ps q.1.0) short_is
        ∙ at_push_old parts.front parts.last q.1.0 q.0 q.1.1 in
        let in_walk = short_within walk short cut q.0 (q.1.0, in_short) in
        let at_most = least parts.last q.0 last_of_walk in_walk in
        let at_end : slice_get short (length parts.front) ≡ Some parts.last =
        ap (λ (ps : List ℕ). slice_get ps (length parts.front)) short_is
        ∙ at_push_new parts.front parts.last in
        let less : parts.last < q.0 = elim (cases_eq parts.last q.0) [
          | inl same ↦
              let one = cut.once q.1.0 (length parts.front) q.0 in_short (at_end ∙ ap (λ z. Some z) same) in
              absurd (omega (arith, one, slice_get_within parts.front q.1.0 q.0 q.1.1))
          | inr apart ↦ omega (arith, at_most, apart)
        ] in
        let P : List ℕ → Type 0 = λ n. IsTrue (is_below first n) in
        subst P (sym q.2) (name_below net.cells parts.last q.0 order less (fed.within q.0 in_walk))

    distinct : IsDistinct bytes_eq (first ∷ rest)
    distinct =
        let P : List (List ℕ) → Type 0 = IsDistinct bytes_eq in
        let within =
        λ (i x : ℕ) (stands : slice_get short i ≡ Some x).
        fed.within x (short_within walk short cut x (i, stands)) in
        subst P turned
        (IsDistinct-IsPermutation bytes_eq bytes_eq_flips (map (name_at net.cells) short)
        (reverse (map (name_at net.cells) short)) (IsPermutation-reverse (map (name_at net.cells) short))
        (distinct_names net.cells short order cut.once within))

-- ---- the walk that ends with a least cell

take_mapped : (f : ℕ → ℕ) (n : ℕ) (xs : List ℕ) → take n (map f xs) ≡ map f (take n xs)
take_mapped f zero xs = refl
take_mapped f (suc n) [] = refl
take_mapped f (suc n) (x ∷ xs) = ap (λ ys. f x ∷ ys) (take_mapped f n xs)

turned_mapped : (f : ℕ → ℕ) (n : ℕ) (xs : List ℕ)
    → map f (drop n xs ++ take n xs) ≡ drop n (map f xs) ++ take n (map f xs)
turned_mapped f n xs =
    map-append f (drop n xs) (take n xs)
    ∙ ap₂ (λ ys zs. ys ++ zs) (sym (drop-map f n xs)) (sym (take_mapped f n xs))

-- a loop of elements, from any place on
pub record TurnedLoop (net : Net) (walk : List ℕ) : Type 0 where
  pub vertices : List ℕ
  pub bits : LoopBits net vertices
  pub fed : IsFedWalk net bits.bits walk

pub turned_loop : (net : Net) (vs : List ℕ) (n : ℕ) → HasNamesInOrder net
    → IsLoopOfVertices (graph_of (elements_of net)) vs
    → TurnedLoop net (drop n (map (cell_of net) vs) ++ take n (map (cell_of net) vs))
turned_loop net vs n order closed =
    let P : List ℕ → Type 0 = IsLoopOfVertices (graph_of (elements_of net)) in
    let parts : P (take n vs ++ drop n vs) = subst P (sym (take-append-drop n vs)) closed in
    let from_there = loop_turned (graph_of (elements_of net)) (take n vs) (drop n vs) parts in
    let bits = loop_bits net (drop n vs ++ take n vs) from_there in
    let Q : List ℕ → Type 0 = IsFedWalk net bits.bits in
    record {
      vertices = drop n vs ++ take n vs;
      bits = bits;
      fed =
          subst Q (turned_mapped (cell_of net) n vs)
          (fed_walk net (drop n vs ++ take n vs) order from_there bits);
    }

-- the walk ends where it was turned
turned_end : (ps : List ℕ) (k y : ℕ) → k < length ps → IsAtEnd (drop (k + 1) ps ++ take (k + 1) ps) y
    → slice_get ps k ≡ Some y
turned_end ps k y within at_end =
    let one_more : k + 1 ≡ suc k = omega arith in
    let last : take (k + 1) ps ≡ take k ps ++ get_or ps k 0 ∷ [] =
    ap (λ n. take n ps) one_more ∙ take-suc ps k 0 within in
    let whole : drop (k + 1) ps ++ take (k + 1) ps ≡ (drop (k + 1) ps ++ take k ps) ++ get_or ps k 0 ∷ [] =
    ap (λ zs. drop (k + 1) ps ++ zs) last
    ∙ sym (append_assoc (drop (k + 1) ps) (take k ps) (get_or ps k 0 ∷ [])) in
    let P : List ℕ → Type 0 = λ walk. IsAtEnd walk y in
    let is = end_of_pushed (drop (k + 1) ps ++ take k ps) (get_or ps k 0) y (subst P whole at_end) in
    slice_get-get_or ps k 0 within ∙ ap (λ z. Some z) (sym is)

-- and has the same numbers
turned_has : (ps : List ℕ) (n z : ℕ) → Has (drop n ps ++ take n ps) z → Has ps z
turned_has ps n z has =
    let P : List ℕ → Type 0 = λ walk. Has walk z in
    subst P (take-append-drop n ps) (elim (has_either (drop n ps) (take n ps) z has) [
      | inl later ↦ has_right (take n ps) (drop n ps) z later
      | inr earlier ↦ has_left (take n ps) (drop n ps) z earlier
    ])

-- a walk that is not empty has shortcuts that are not
pub short_begins : (walk short : List ℕ) → IsShortcut walk short → 0 < length walk
    → (p : ℕ) × (ps : List ℕ) × (short ≡ p ∷ ps)
short_begins [] short h some = absurd (omega arith)
short_begins (q ∷ walk) [] h some = let clash : None ≡ Some q = h.start in cc
short_begins (q ∷ walk) (p ∷ short) h some = (p, short, refl)

turned_long : (ps : List ℕ) (n : ℕ) → length (drop n ps ++ take n ps) ≡ length ps
turned_long ps n =
    length-append (drop n ps) (take n ps)
    ∙ sym (ap (λ (xs : List ℕ). length xs) (sym (take-append-drop n ps))
    ∙ length-append (take n ps) (drop n ps) ∙ omega arith)

-- what a loop of elements is named by
pub loop_named : (net : Net) (vs : List ℕ) (k : ℕ) (short : List ℕ) → HasNamesInOrder net
    → IsLoopOfVertices (graph_of (elements_of net)) vs → IsLeastAt (map (cell_of net) vs) k
    → IsShortcut (drop (k + 1) (map (cell_of net) vs) ++ take (k + 1) (map (cell_of net) vs)) short
    → IsLoopOfCells net (reverse (map (name_at net.cells) short))
loop_named net vs k short order closed at_least cut =
    let walk = turned_loop net vs (k + 1) order closed in
    let long = turned_long (map (cell_of net) vs) (k + 1) in
    let begins = short_begins _ short cut (omega (arith, long, at_least.within)) in
    names_of_walk net _ short order walk.vertices walk.bits walk.fed cut
    (λ y z at_end has.
    let there = turned_has (map (cell_of net) vs) (k + 1) z has in
    at_least.least there.0 y z (turned_end (map (cell_of net) vs) k y at_least.within at_end) there.1)
    begins.0 begins.1 begins.2

-- and its cells are the netlist's
pub short_places : (net : Net) (vs : List ℕ) (n : ℕ) (short : List ℕ) → HasNamesInOrder net
    → IsLoopOfVertices (graph_of (elements_of net)) vs
    → IsShortcut (drop n (map (cell_of net) vs) ++ take n (map (cell_of net) vs)) short → (i x : ℕ)
    → slice_get short i ≡ Some x → x < length net.cells
short_places net vs n short order closed cut i x stands =
    (turned_loop net vs n order closed).fed.within x (short_within _ short cut x (i, stands))
