-- The gates that test an address say whether it is below the size.
use Rattle.std.proofs.Common.{◌≡◌, ℕ, zero, suc, ◌+◌, ◌-◌, ◌*◌, ◌/◌, ◌%◌, ◌^◌, ◌<◌, Bool, true, false, not, ◌&&◌, ◌||◌, List, [], ◌∷◌, length, map, refl, sym, ap, ap₂, ◌∙◌, arith}
use Rattle.std.specs.Prelude.{nat_lt, if◌then◌else◌, slice_get, Option, Some, ◌==◌}
use Rattle.std.proofs.lemmas.Bool.Decides.{nat_tests}
use Rattle.std.proofs.lemmas.List.{length-map}
use Rattle.cs_cells.specs.declared.gate.Kind.{Kind}
use Rattle.cs_cells.specs.declared.gate.Kind.TheVariants.{AndNot, Not, OrNot}
use Rattle.cs_cells.specs.Gates.{equation, gate_value}
use Rattle.cs_cells.specs.Memories.{Words, number_of}
use Rattle.cs_graph.specs.declared.source.OpenVertex.{OpenVertex}
use Rattle.cs_graph.specs.declared.source.Source.{Source}
use Rattle.cs_graph.specs.Draft.{Draft}
use Rattle.cs_graph.specs.Run.{Outs, Row}
use Rattle.cs_bank.specs.ContextBits.{digits, gate, wire}
use Rattle.cs_bank.specs.Guards.{below_size, comparison, test_count}
use Rattle.cs_bank.proofs.Counters.{at_now}
use Rattle.cs_bank.proofs.DraftRuns.{DraftRuns, carried_from, open_inputs_before, open_output, sees}

-- ---- numbers

low_bit : (n : ℕ) → (if (n % 2 == 1) then 1 else 0) + 2 * (n / 2) ≡ n
low_bit n = grind (arith, nat_tests)

pub number_of-digits : (b n : ℕ) → n < 2 ^ b → number_of (digits b n) ≡ n
number_of-digits zero n h = omega (arith, h)
number_of-digits (suc b) n h =
    let power : 2 ^ suc b ≡ 2 * 2 ^ b = omega arith in
    let half : n / 2 < 2 ^ b = omega (arith, h, power) in
    rw (number_of-digits b (n / 2) half) (low_bit n)

pub length-digits : (b n : ℕ) → length (digits b n) ≡ b
length-digits zero n = refl
length-digits (suc b) n = ap suc (length-digits b (n / 2))

-- ---- the comparison, of bits

-- what the gates say after the lower digits
pub compares : Bool → List Bool → List Bool → Bool
compares below [] ds = below
compares below (a ∷ bs) [] = below
compares below (a ∷ bs) (true ∷ ds) = compares (below || not a) bs ds
compares below (a ∷ bs) (false ∷ ds) = compares (below && not a) bs ds

pub is_below : List Bool → List Bool → Bool
is_below [] ds = false
is_below (a ∷ bs) [] = false
is_below (a ∷ bs) (false ∷ ds) = is_below bs ds
is_below (a ∷ bs) (true ∷ ds) = compares (not a) bs ds

digit_one : (x y p : ℕ) (a : Bool) → x < p → y < p
    → (nat_lt x y || not a) ≡ nat_lt (x + p * (if a then 1 else 0)) (y + p * 1)
digit_one x y p true h g = grind (arith, nat_tests)
digit_one x y p false h g = grind (arith, nat_tests)

digit_zero : (x y p : ℕ) (a : Bool) → x < p → y < p
    → (nat_lt x y && not a) ≡ nat_lt (x + p * (if a then 1 else 0)) (y + p * 0)
digit_zero x y p true h g = grind (arith, nat_tests)
digit_zero x y p false h g = grind (arith, nat_tests)

bit_small : (x p : ℕ) (a : Bool) → x < p → x + p * (if a then 1 else 0) < 2 * p
bit_small x p true h = omega arith
bit_small x p false h = omega arith

regroup : (x p a n : ℕ) → (x + p * a) + (2 * p) * n ≡ x + p * (a + 2 * n)
regroup x p a n = omega arith

-- x and y are what the digits so far make, p is the next one's weight
compares_is : (bs ds : List Bool) (x y p : ℕ) → length bs ≡ length ds → x < p → y < p
    → compares (nat_lt x y) bs ds ≡ nat_lt (x + p * number_of bs) (y + p * number_of ds)
unfolding compares
compares_is [] [] x y p same h g = ap₂ (λ m n. nat_lt m n) (omega arith) (omega arith)
compares_is [] (d ∷ ds) x y p same h g = absurd (omega arith)
compares_is (a ∷ bs) [] x y p same h g = absurd (omega arith)
compares_is (a ∷ bs) (true ∷ ds) x y p same h g =
    ap (λ t. compares t bs ds) (digit_one x y p a h g)
    ∙ compares_is bs ds (x + p * (if a then 1 else 0)) (y + p * 1) (2 * p) (omega arith) (bit_small x p a h)
    (omega arith)
    ∙ ap₂ (λ m n. nat_lt m n) (regroup x p (if a then 1 else 0) (number_of bs)) (regroup y p 1 (number_of ds))
compares_is (a ∷ bs) (false ∷ ds) x y p same h g =
    ap (λ t. compares t bs ds) (digit_zero x y p a h g)
    ∙ compares_is bs ds (x + p * (if a then 1 else 0)) (y + p * 0) (2 * p) (omega arith) (bit_small x p a h)
    (omega arith)
    ∙ ap₂ (λ m n. nat_lt m n) (regroup x p (if a then 1 else 0) (number_of bs)) (regroup y p 0 (number_of ds))

first_one : (x p : ℕ) (a : Bool) → x < p → not a ≡ nat_lt (x + p * (if a then 1 else 0)) (p * 1)
first_one x p true h = grind (arith, nat_tests)
first_one x p false h = grind (arith, nat_tests)

below_from : (bs ds : List Bool) (x p : ℕ) → length bs ≡ length ds → x < p → 0 < number_of ds
    → is_below bs ds ≡ nat_lt (x + p * number_of bs) (p * number_of ds)
unfolding is_below
below_from [] [] x p same h some = absurd (omega arith)
below_from [] (d ∷ ds) x p same h some = absurd (omega arith)
below_from (a ∷ bs) [] x p same h some = absurd (omega arith)
below_from (a ∷ bs) (false ∷ ds) x p same h some =
    below_from bs ds (x + p * (if a then 1 else 0)) (2 * p) (omega arith) (bit_small x p a h) (omega arith)
    ∙ ap₂ (λ m n. nat_lt m n) (regroup x p (if a then 1 else 0) (number_of bs)) (omega arith)
below_from (a ∷ bs) (true ∷ ds) x p same h some =
    ap (λ t. compares t bs ds) (first_one x p a h)
    ∙ compares_is bs ds (x + p * (if a then 1 else 0)) (p * 1) (2 * p) (omega arith) (bit_small x p a h) (omega arith)
    ∙ ap₂ (λ m n. nat_lt m n) (regroup x p (if a then 1 else 0) (number_of bs)) (omega arith)

pub below_is : (bs ds : List Bool) → length bs ≡ length ds → 0 < number_of ds
    → is_below bs ds ≡ nat_lt (number_of bs) (number_of ds)
below_is bs ds same some =
    below_from bs ds 0 1 same (omega arith) some ∙ ap₂ (λ m n. nat_lt m n) (omega arith) (omega arith)

pub some_tests : (ds : List Bool) → 0 < number_of ds → 0 < test_count ds
some_tests [] h = absurd (omega (arith, h))
some_tests (true ∷ ds) h = omega arith
some_tests (false ∷ ds) h = some_tests ds (omega (arith, h))

-- ---- how many gates

length-comparison : (v : ℕ) (address : List (Option Source)) (ds : List Bool) → length address ≡ length ds
    → length (comparison v address ds) ≡ length ds
length-comparison v [] [] same = refl
length-comparison v [] (d ∷ ds) same = absurd (omega (arith, same))
length-comparison v (a ∷ address) [] same = absurd (omega (arith, same))
length-comparison v (a ∷ address) (d ∷ ds) same = ap suc (length-comparison (v + 1) address ds (omega (arith, same)))

pub length-below_size : (v : ℕ) (address : List (Option Source)) (ds : List Bool) → length address ≡ length ds
    → length (below_size v address ds) ≡ test_count ds
length-below_size v [] [] same = refl
length-below_size v [] (d ∷ ds) same = absurd (omega (arith, same))
length-below_size v (a ∷ address) [] same = absurd (omega (arith, same))
length-below_size v (a ∷ address) (true ∷ ds) same = ap suc (length-comparison v address ds (omega (arith, same)))
length-below_size v (a ∷ address) (false ∷ ds) same = length-below_size v address ds (omega (arith, same))

-- ---- what they say

-- these vertices stand in a draft from vertex v on
abbrev pub StandAt : Draft → ℕ → List OpenVertex → Type 0
StandAt d v xs = (j : ℕ) → j < length xs → slice_get d.vertices (v + j) ≡ slice_get xs j

pub stand_rest : (d : Draft) (v : ℕ) (x : OpenVertex) (xs : List OpenVertex) → StandAt d v (x ∷ xs)
    → StandAt d (v + 1) xs
stand_rest d v x xs h j low =
    let place : (v + 1) + j ≡ v + suc j = omega arith in
    ap (slice_get d.vertices) place ∙ h (suc j) (omega (arith, low))

pub stand_first : (d : Draft) (v : ℕ) (x : OpenVertex) (xs : List OpenVertex) → StandAt d v (x ∷ xs)
    → slice_get d.vertices v ≡ Some x
stand_first d v x xs h = let place : v ≡ v + 0 = omega arith in ap (slice_get d.vertices) place ∙ h 0 (omega arith)

module _ (bounded : Bool) (d : Draft) (clocks : ℕ) (row : ℕ → Row) (value : ℕ → Outs) (words : ℕ → ℕ → Words)
    (run : DraftRuns bounded d clocks row value words) (t : ℕ) (h : t < clocks) where
  pub gate_is : (v : ℕ) (kind : Kind) (pins : List (Option Source)) → slice_get d.vertices v ≡ Some (gate kind pins)
      → value t v 0 ≡ gate_value kind (map (sees value t) pins)
  gate_is v kind pins found =
      run.settles t h v 0
      ∙ ap (λ x. open_output x (open_inputs_before d.vertices v) (row t) (words t) (sees value t) 0) found

  pub wire_is : (v : ℕ) → sees value t (wire v) ≡ value t v 0
  wire_is v = ap (carried_from (record { from = v; output = 0; contents = [] }) value) (at_now t 0 t (omega arith))

  comparison_is : (v : ℕ) (address : List (Option Source)) (ds : List Bool) → length address ≡ length ds
      → StandAt d (v + 1) (comparison v address ds)
      → value t (v + length ds) 0 ≡ compares (value t v 0) (map (sees value t) address) ds
  unfolding compares equation
  comparison_is v [] [] same stand = let place : v + 0 ≡ v = omega arith in ap (λ u. value t u 0) place
  comparison_is v [] (x ∷ ds) same stand = absurd (omega (arith, same))
  comparison_is v (a ∷ address) [] same stand = absurd (omega (arith, same))
  comparison_is v (a ∷ address) (true ∷ ds) same stand =
      let place : v + suc (length ds) ≡ (v + 1) + length ds = omega arith in
      let pins = wire v ∷ a ∷ [] in
      let here = gate_is (v + 1) OrNot pins
      (stand_first d (v + 1) (gate OrNot pins) (comparison (v + 1) address ds) stand) in
      ap (λ u. value t u 0) place
      ∙ comparison_is (v + 1) address ds (omega (arith, same))
      (stand_rest d (v + 1) (gate OrNot pins) (comparison (v + 1) address ds) stand)
      ∙ ap (λ x. compares x (map (sees value t) address) ds) (here ∙ ap (λ x. x || not (sees value t a)) (wire_is v))
  comparison_is v (a ∷ address) (false ∷ ds) same stand =
      let place : v + suc (length ds) ≡ (v + 1) + length ds = omega arith in
      let pins = wire v ∷ a ∷ [] in
      let here = gate_is (v + 1) AndNot pins
      (stand_first d (v + 1) (gate AndNot pins) (comparison (v + 1) address ds) stand) in
      ap (λ u. value t u 0) place
      ∙ comparison_is (v + 1) address ds (omega (arith, same))
      (stand_rest d (v + 1) (gate AndNot pins) (comparison (v + 1) address ds) stand)
      ∙ ap (λ x. compares x (map (sees value t) address) ds) (here ∙ ap (λ x. x && not (sees value t a)) (wire_is v))

  tests_say : (v : ℕ) (address : List (Option Source)) (ds : List Bool) → length address ≡ length ds
      → 0 < number_of ds → StandAt d v (below_size v address ds)
      → value t (v + test_count ds - 1) 0 ≡ is_below (map (sees value t) address) ds
  unfolding is_below equation
  tests_say v [] [] same some stand = absurd (omega (arith, some))
  tests_say v [] (x ∷ ds) same some stand = absurd (omega (arith, same))
  tests_say v (a ∷ address) [] same some stand = absurd (omega (arith, same))
  tests_say v (a ∷ address) (true ∷ ds) same some stand =
      let place : v + suc (length ds) - 1 ≡ v + length ds = omega arith in
      let here = gate_is v Not (a ∷ []) (stand_first d v (gate Not (a ∷ [])) (comparison v address ds) stand) in
      ap (λ u. value t u 0) place
      ∙ comparison_is v address ds (omega (arith, same))
      (stand_rest d v (gate Not (a ∷ [])) (comparison v address ds) stand)
      ∙ ap (λ x. compares x (map (sees value t) address) ds) here
  tests_say v (a ∷ address) (false ∷ ds) same some stand = tests_say v address ds (omega (arith, same))
      (omega (arith, some)) stand

  -- the last gate is 1 exactly where the address is below the size
  pub tests_are : (v size : ℕ) (address : List (Option Source)) → 0 < size → size < 2 ^ length address
      → StandAt d v (below_size v address (digits (length address) size))
      → value t (v + test_count (digits (length address) size) - 1) 0
      ≡ nat_lt (number_of (map (sees value t) address)) size
  tests_are v size address some few stand =
      let ds = digits (length address) size in
      let many = sym (length-digits (length address) size) in
      let is = number_of-digits (length address) size few in
      let more : 0 < number_of ds = omega (arith, some, is) in
      tests_say v address ds many more stand
      ∙ below_is (map (sees value t) address) ds (length-map address (sees value t) ∙ many) more
      ∙ ap (nat_lt (number_of (map (sees value t) address))) is
