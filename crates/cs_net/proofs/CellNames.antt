-- Names in byte order: places tell which name is below which, and a cell is found by its name.
use Rattle.std.proofs.Common.{Ordering, Less, Equal, Greater, ◌≡◌, ℕ, zero, suc, ◌<◌, List, [], ◌∷◌, length, map, true, false, cond, Option, Some, refl, sym, ap, subst, ◌∙◌, arith, inl, inr}
use Rattle.std.specs.Prelude.{IsTrue, bytes_eq, find, option_map, slice_get, unwrap_or}
use Rattle.std.specs.List.{AllByRecursion, IsDistinct, zip}
use Rattle.std.specs.Ordering.{is_eq, is_lt, nat_cmp}
use Rattle.std.specs.Cmp.Lexicographic.{slice_cmp}
use Rattle.std.proofs.lemmas.Bool.{cases_Bool, cases_order}
use Rattle.std.proofs.lemmas.Map.Text.{is_eq-slice_cmp}
use Rattle.std.proofs.lemmas.Slice.Eq.{bytes_eq-Decides}
use Rattle.cs_cells.specs.declared.memory.MemShape.{MemShape}
use Rattle.cs_json.specs.Readable.{AreInOrder}
use Rattle.cs_order.specs.Graphs.{HasNoRepeat}
use Rattle.cs_net.specs.declared.netlist.Cell.{Cell}
use Rattle.cs_net.specs.Accept.{is_below}
use Rattle.cs_net.specs.Loops.{name_at}
use Rattle.cs_net.proofs.Members.{of_all, within_has}

-- ---- bytes

pub below_differs : (a b : List ℕ) → IsTrue (is_below a b) → bytes_eq a b ≡ false
below_differs a b h = sym (is_eq-slice_cmp a b) ∙ less (slice_cmp nat_cmp a b) h
  where
    less : (o : Ordering) → IsTrue (is_lt o) → is_eq o ≡ false
    less Less is = refl
    less Equal is = cc
    less Greater is = refl

pub same_itself : (a : List ℕ) → bytes_eq a a ≡ true
same_itself a = (bytes_eq-Decides a a).1 refl

pub bytes_eq_flips : (a b : List ℕ) → bytes_eq a b ≡ bytes_eq b a
bytes_eq_flips a b = elim (cases_Bool (bytes_eq a b)) [
  | inl same ↦ same ∙ sym ((bytes_eq-Decides b a).1 (sym ((bytes_eq-Decides a b).0 same)))
  | inr other ↦ elim (cases_Bool (bytes_eq b a)) [
    | inl same ↦
        let clash : false ≡ true =
        sym other ∙ (bytes_eq-Decides a b).1 (sym ((bytes_eq-Decides b a).0 same)) in
        cc
    | inr other' ↦ other ∙ sym other'
  ]
]

-- ---- places

pub name_stands : (cells : List Cell) (i : ℕ) (c : Cell) → slice_get cells i ≡ Some c
    → name_at cells i ≡ c.name
name_stands cells i c stands = ap (λ found. unwrap_or (option_map (λ (c : Cell). c.name) found) []) stands

pub name_below : (cells : List Cell) (i j : ℕ) → AreInOrder (λ (c : Cell). c.name) cells → i < j
    → j < length cells
    → IsTrue (is_below (name_at cells i) (name_at cells j))
name_below [] i j order ahead within = absurd (omega arith)
name_below (c ∷ cells) i zero order ahead within = absurd (omega arith)
name_below (c ∷ cells) zero (suc j) (first, rest) ahead within =
    let there = within_has cells j (omega arith) in
    let below = of_all (λ (d : Cell). IsTrue (is_below c.name d.name)) cells j there.0 first there.1 in
    let P : List ℕ → Type 0 = λ name. IsTrue (is_below c.name name) in
    subst P (sym (name_stands cells j there.0 there.1)) below
name_below (c ∷ cells) (suc i) (suc j) (first, rest) ahead within =
    name_below cells i j rest (omega arith) (omega arith)

-- names at two places differ
pub names_differ : (cells : List Cell) (i j : ℕ) → AreInOrder (λ (c : Cell). c.name) cells → (i ≡ j → ⊥)
    → i < length cells → j < length cells → bytes_eq (name_at cells i) (name_at cells j) ≡ false
names_differ cells i j order other left right = elim (cases_order i j) [
  | inl same ↦ absurd (other same)
  | inr apart ↦ elim apart [
    | inl less ↦ below_differs (name_at cells i) (name_at cells j) (name_below cells i j order less right)
    | inr more ↦
        bytes_eq_flips (name_at cells i) (name_at cells j)
        ∙ below_differs (name_at cells j) (name_at cells i) (name_below cells j i order more left)
  ]
]

-- ---- the cell of a name

-- a cell with its shape stands where the cell does
pub zip_first : (cells : List Cell) (shapes : List (Option MemShape)) (i : ℕ) (c : Cell × Option MemShape)
    → slice_get (zip cells shapes) i ≡ Some c → slice_get cells i ≡ Some c.0
zip_first [] shapes i c stands = cc
zip_first (d ∷ cells) [] i c stands = cc
zip_first (d ∷ cells) (shape ∷ shapes) zero c stands =
    let same : (d, shape) ≡ c = cc in ap (λ (e : Cell × Option MemShape). Some e.0) same
zip_first (d ∷ cells) (shape ∷ shapes) (suc i) c stands = zip_first cells shapes i c stands

-- a cell with its shape is found by its name
pub found_by_name : (cells : List Cell) (shapes : List (Option MemShape)) (i : ℕ) (c : Cell × Option MemShape)
    → AreInOrder (λ (c : Cell). c.name) cells → slice_get (zip cells shapes) i ≡ Some c
    → find (λ (d : Cell × Option MemShape). bytes_eq d.0.name (name_at cells i)) (zip cells shapes) ≡ Some c
found_by_name [] shapes i c order stands = cc
found_by_name (d ∷ cells) [] i c order stands = cc
found_by_name (d ∷ cells) (shape ∷ shapes) zero c order stands =
    ap
    (λ t. cond t (Some (d, shape))
    (find (λ (e : Cell × Option MemShape). bytes_eq e.0.name d.name) (zip cells shapes)))
    (same_itself d.name)
    ∙ stands
found_by_name (d ∷ cells) (shape ∷ shapes) (suc i) c (first, rest) stands =
    let there = zip_first cells shapes i c stands in
    let below = of_all (λ (e : Cell). IsTrue (is_below d.name e.name)) cells i c.0 first there in
    let differs : bytes_eq d.name (name_at cells i) ≡ false =
    ap (bytes_eq d.name) (name_stands cells i c.0 there) ∙ below_differs d.name c.0.name below in
    ap
    (λ t. cond t (Some (d, shape))
    (find (λ (e : Cell × Option MemShape). bytes_eq e.0.name (name_at cells i)) (zip cells shapes)))
    differs
    ∙ found_by_name cells shapes i c rest stands

-- ---- some cells

-- cells at different places have different names
pub distinct_names : (cells : List Cell) (places : List ℕ) → AreInOrder (λ (c : Cell). c.name) cells
    → HasNoRepeat places → ((i x : ℕ) → slice_get places i ≡ Some x → x < length cells)
    → IsDistinct bytes_eq (map (name_at cells) places)
unfolding IsDistinct
distinct_names cells [] order once within = tt
distinct_names cells (x ∷ places) order once within = (
  others places (λ i y stands. differs i y stands),
  distinct_names cells places order
      (λ i j v first second. let same = once (suc i) (suc j) v first second in omega arith)
      (λ i y stands. within (suc i) y stands),
)
  where
    differs : (i y : ℕ) → slice_get places i ≡ Some y → bytes_eq (name_at cells x) (name_at cells y) ≡ false
    differs i y stands =
        names_differ cells x y order
        (λ same. let twice = once zero (suc i) y (ap (λ z. Some z) same) stands in omega arith)
        (within zero x refl) (within (suc i) y stands)

    others : (rest : List ℕ)
        → ((i y : ℕ) → slice_get rest i ≡ Some y → bytes_eq (name_at cells x) (name_at cells y) ≡ false)
        → AllByRecursion (λ (name : List ℕ). bytes_eq (name_at cells x) name ≡ false)
        (map (name_at cells) rest)
    others [] h = tt
    others (y ∷ rest) h = (h zero y refl, others rest (λ i z stands. h (suc i) z stands))
