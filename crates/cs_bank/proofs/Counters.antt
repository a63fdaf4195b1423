-- The context bits count the clocks.
use Rattle.std.proofs.Common.{◌≡◌, ℕ, zero, suc, ◌+◌, ◌-◌, ◌*◌, ◌/◌, ◌%◌, ◌^◌, ◌<◌, ◌≤◌, Bool, false, [], ◌∷◌, map, refl, sym, ap, ap₂, ◌∙◌, arith, inl, inr, div-add-mod'}
use Rattle.std.specs.Prelude.{pos, negsuc, ◌-ℤ◌, slice_get, option_map, Some, ◌==◌}
use Rattle.std.specs.List.{range_with_len}
use Rattle.std.proofs.lemmas.Bool.{cases_lt, le-ltb, lt-ltb}
use Rattle.std.proofs.lemmas.Int.{ints}
use Rattle.std.proofs.lemmas.List.FromFn.{get_or-map-range_with_len, length-map-range_with_len}
use Rattle.std.proofs.lemmas.Nat.{mod-mul-add, mod_below}
use Rattle.std.proofs.lemmas.Option.{slice_get-map}
use Rattle.cs_cells.specs.Gates.{equation}
use Rattle.cs_cells.specs.Memories.{Words}
use Rattle.cs_graph.specs.Draft.{Draft}
use Rattle.cs_graph.specs.Past.{context_of}
use Rattle.cs_graph.specs.Run.{Outs, Row}
use Rattle.cs_bank.specs.ContextBits.{bits_within, context_bit, context_bits, context_pins, context_vertices, counter_contents, digit, digits, wire}
use Rattle.cs_bank.proofs.DraftRuns.{DraftRuns, carried_from, open_inputs_before, open_output, sees}

-- ---- how many bits

bits_enough : (most contexts : ℕ) → contexts ≤ 2 ^ most → contexts ≤ 2 ^ bits_within most contexts
bits_enough zero contexts h = h
bits_enough (suc most) contexts h = elim (cases_lt (2 ^ most) contexts) [
  | inl less ↦ rw (lt-ltb (2 ^ most) contexts less) h
  | inr least ↦ rw (le-ltb (2 ^ most) contexts least) (bits_enough most contexts least)
]

below_power : (n : ℕ) → n < 2 ^ n
below_power zero = omega arith
below_power (suc n) = let rest = below_power n in let double : 2 ^ suc n ≡ 2 * 2 ^ n = omega arith in omega
    (arith, rest, double)

-- the context bits are enough
pub enough_bits : (contexts : ℕ) → contexts ≤ 2 ^ context_bits contexts
enough_bits contexts = let more = below_power contexts in bits_enough contexts contexts (omega (arith, more))

power_grows : (m n : ℕ) → m ≤ n → 2 ^ m ≤ 2 ^ n
power_grows zero n h = let some = below_power n in omega (arith, some)
power_grows (suc m) zero h = absurd (omega (arith, h))
power_grows (suc m) (suc n) h =
    let rest = power_grows m n (omega (arith, h)) in
    let one : 2 ^ suc m ≡ 2 * 2 ^ m = omega arith in
    let two : 2 ^ suc n ≡ 2 * 2 ^ n = omega arith in
    omega (arith, rest, one, two)

bits_least : (most contexts b : ℕ) → contexts ≤ 2 ^ b → bits_within most contexts ≤ b
bits_least zero contexts b h = omega arith
bits_least (suc most) contexts b h = elim (cases_lt (2 ^ most) contexts) [
  | inl less ↦ rw (lt-ltb (2 ^ most) contexts less) (elim (cases_lt most b) [
    | inl low ↦ omega (arith, low)
    | inr high ↦ let grows = power_grows b most high in absurd (omega (arith, grows, less, h))
  ])
  | inr least ↦ rw (le-ltb (2 ^ most) contexts least) (bits_least most contexts b h)
]

-- and no fewer are
pub least_bits : (contexts b : ℕ) → contexts ≤ 2 ^ b → context_bits contexts ≤ b
least_bits contexts b h = bits_least contexts contexts b h

-- ---- digits

halved : ℕ → ℕ → ℕ
halved zero n = n
halved (suc s) n = halved s (n / 2)

halved_more : (s n : ℕ) → halved (suc s) n ≡ halved s n / 2
unfolding halved
halved_more zero n = refl
halved_more (suc s) n = halved_more s (n / 2)

digit_halved : (s n : ℕ) → digit s n ≡ (halved s n % 2 == 1)
unfolding halved
digit_halved zero n = refl
digit_halved (suc s) n = digit_halved s (n / 2)

-- ---- clocks

pub at_now : (n w m : ℕ) → m + w ≡ n → pos n -ℤ pos w ≡ pos m
at_now n w m h = omega (arith, ints, h)

pub at_past : (n w j : ℕ) → n + suc j ≡ w → pos n -ℤ pos w ≡ negsuc j
at_past n w j h = omega (arith, ints, h)

-- ---- the context bits of a draft

pub get_range : (a n i : ℕ) → i < n → slice_get (range_with_len a n) i ≡ Some (a + i)
get_range a zero i h = absurd (omega (arith, h))
get_range a (suc n) zero h = let place : a ≡ a + 0 = omega arith in ap Some place
get_range a (suc n) (suc i) h = let place : (a + 1) + i ≡ a + suc i = omega arith in get_range (a + 1) n i
    (omega (arith, h)) ∙ ap Some place

pub get_context_bit : (c n j : ℕ) → j < context_bits c
    → slice_get (context_vertices c n) j ≡ Some (context_bit c (n + j) j)
get_context_bit c n j h =
    let place : 0 + j ≡ j = omega arith in
    slice_get-map (λ i. context_bit c (n + i) i) (range_with_len 0 (context_bits c)) j
    ∙ ap (option_map (λ i. context_bit c (n + i) i)) (get_range 0 (context_bits c) j h ∙ ap Some place)

module _ (bounded : Bool) (d : Draft) (c first clocks : ℕ) (row : ℕ → Row) (value : ℕ → Outs) (words : ℕ → ℕ
    → Words) (some : 0 < c) (run : DraftRuns bounded d clocks row value words)
    (found : (j : ℕ) → j < context_bits c → slice_get d.vertices (first + j) ≡ Some (context_bit c (first + j) j)) where
  bit_is : (t j : ℕ) → t < clocks → j < context_bits c → value t (first + j) 0
      ≡ carried_from (record { from = first + j; output = 0; contents = counter_contents c j }) value (pos t -ℤ pos c)
  unfolding equation
  bit_is t j h low =
      let long = length-map-range_with_len (λ i. digit j (context_of c i)) 0 c in
      run.settles t h (first + j) 0
      ∙ ap (λ x. open_output x (open_inputs_before d.vertices (first + j)) (row t) (words t) (sees value t) 0)
      (found j low)
      ∙ ap (λ w. carried_from (record { from = first + j; output = 0; contents = counter_contents c j }) value
      (pos t -ℤ pos w)) long

  back : (r : ℕ) → r < c → context_of c (c - r - 1) ≡ r
  back r small =
      let i = c - r - 1 in
      let within : i < c = omega (arith, small) in
      let none : 0 * c + i ≡ i = omega arith in
      let low : i % c ≡ i = ap (λ m. m % c) (sym none) ∙ mod-mul-add 0 c i within in
      omega (arith, small, low)

  counts : (q r j : ℕ) → r < c → q * c + r < clocks → j < context_bits c → value (q * c + r) (first + j) 0 ≡ digit j r
  counts zero r j small h low =
      let i = c - r - 1 in
      let sum : (0 * c + r) + suc i ≡ c = omega (arith, small) in
      bit_is (0 * c + r) j h low
      ∙ ap (carried_from (record { from = first + j; output = 0; contents = counter_contents c j }) value)
      (at_past (0 * c + r) c i sum)
      ∙ get_or-map-range_with_len (λ i. digit j (context_of c i)) 0 c i i false (omega (arith, small)) (omega arith)
      ∙ ap (digit j) (back r small)
  counts (suc q) r j small h low =
      let sum : (q * c + r) + c ≡ suc q * c + r = omega arith in
      bit_is (suc q * c + r) j h low
      ∙ ap (carried_from (record { from = first + j; output = 0; contents = counter_contents c j }) value)
      (at_now (suc q * c + r) c (q * c + r) sum)
      ∙ counts q r j small (omega (arith, h, sum)) low

  -- bit j at a clock is digit j of the number of the clock's context
  pub counted : (t j : ℕ) → t < clocks → j < context_bits c → value t (first + j) 0 ≡ digit j (t % c)
  counted t j h low =
      let is : t / c * c + t % c ≡ t = div-add-mod' t c in
      ap (λ n. value n (first + j) 0) (sym is)
      ∙ counts (t / c) (t % c) j (mod_below t c some) (omega (arith, h, is)) low

  see_digits : (t : ℕ) → t < clocks → (left s : ℕ) → s + left ≡ context_bits c
      → map (sees value t) (map wire (range_with_len (first + s) left)) ≡ digits left (halved s (t % c))
  see_digits t h zero s sum = refl
  see_digits t h (suc left) s sum =
      let next : (first + s) + 1 ≡ first + suc s = omega arith in
      ap₂ (λ x xs. x ∷ xs)
      (ap (carried_from (record { from = first + s; output = 0; contents = [] }) value) (at_now t 0 t (omega arith))
      ∙ counted t s h (omega (arith, sum)) ∙ digit_halved s (t % c))
      (ap (λ a. map (sees value t) (map wire (range_with_len a left))) next
      ∙ see_digits t h left (suc s) (omega (arith, sum)) ∙ ap (digits left) (halved_more s (t % c)))

  -- at each clock the context pins see the number of its context
  pub see_context : (t : ℕ) → t < clocks → map (sees value t) (context_pins c first) ≡ digits (context_bits c) (t % c)
  unfolding halved
  see_context t h =
      let place : first ≡ first + 0 = omega arith in
      ap (λ a. map (sees value t) (map wire (range_with_len a (context_bits c)))) place
      ∙ see_digits t h (context_bits c) 0 (omega arith)
