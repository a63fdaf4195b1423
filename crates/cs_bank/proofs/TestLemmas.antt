-- The test of an address goes on bit by bit.
use Rattle.std.proofs.Common.{◌≡◌, ℕ, zero, suc, ◌+◌, ◌-◌, ◌<◌, ◌≤◌, Bool, true, false, ◌||◌, List, [], ◌∷◌, ◌++◌, length, map, drop, refl, sym, ap, ap₂, ◌∙◌, arith, length-append, append_assoc}
use Rattle.std.specs.Prelude.{slice_get, Option, Some, if◌then◌else◌, ◌%◌, ◌/◌, ◌==◌}
use Rattle.cs_cells.specs.declared.gate.Kind.TheVariants.{AndNot, Not, OrNot}
use Rattle.cs_graph.specs.declared.edge.Edge.{Edge}
use Rattle.cs_graph.specs.declared.source.OpenVertex.{OpenVertex}
use Rattle.cs_graph.specs.declared.source.Source.{Source}
use Rattle.cs_graph.specs.declared.vertex.Feed.{Feed}
use Rattle.cs_bank.specs.ContextBits.{digits, gate, wire}
use Rattle.cs_bank.specs.Guards.{below_size, comparison, test_count}
use Rattle.cs_bank.specs.TestSteps.{test_gates, test_left}
use Rattle.cs_bank.specs.Wired.{feed_source}
use Rattle.cs_bank.proofs.Lists.{append_none, drop_at}
use Rattle.cs_bank.proofs.SizeTests.{length-below_size, length-digits}

-- the gates of one bit, then those of the rest
pub test_goes_on : (begun : Bool) (v : ℕ) (a : Option Source) (address : List (Option Source)) (d : Bool)
    (ds : List Bool) → (begun ≡ true → 0 < v)
    → test_left begun v (a ∷ address) (d ∷ ds)
    ≡ test_gates begun v a d ++ test_left (begun || d) (v + length (test_gates begun v a d)) address ds
test_goes_on false v a address false ds some =
    let same : v ≡ v + 0 = omega arith in ap (λ u. below_size u address ds) same
test_goes_on false v a address true ds some =
    let same : v ≡ v + 1 - 1 = omega arith in ap (λ u. gate Not (a ∷ []) ∷ comparison u address ds) same
test_goes_on true v a address d ds some =
    let low = some refl in
    let same : v - 1 + 1 ≡ v + 1 - 1 = omega (arith, low) in
    ap (λ u. gate (if d then OrNot else AndNot) (wire (v - 1) ∷ a ∷ []) ∷ comparison u address ds) same

no_test_left : (begun : Bool) (v : ℕ) (ds : List Bool) → test_left begun v [] ds ≡ []
no_test_left false v ds = refl
no_test_left true v ds = refl

-- the gates of the first i address bits are there
pub record TestSoFar (edges : List Edge) (address : List Feed) (size : ℕ) (old : List OpenVertex) (i : ℕ)
    (begun : Bool) (rest : ℕ) (items : List OpenVertex) : Type 0 where
  pub some : begun ≡ true → 0 < length items
  pub few : length items ≤ length old + i
  pub so_far : items ++ test_left begun (length items) (map (feed_source edges) (drop i address))
      (digits (length address - i) rest)
      ≡ old ++ below_size (length old) (map (feed_source edges) address) (digits (length address) size)

pub test_begins : (edges : List Edge) (address : List Feed) (size : ℕ) (old : List OpenVertex)
    → TestSoFar edges address size old 0 false size old
test_begins edges address size old = record {
  some = λ no. absurd (not_true no);
  few = omega arith;
  so_far =
      ap₂ (λ fs n. old ++ below_size (length old) (map (feed_source edges) fs) (digits n size)) (drop_none address)
      (let same : length address - 0 ≡ length address = omega arith in same);
}
  where
    not_true : false ≡ true → ⊥
    not_true same = let bad : ◌≡◌ {A = ℕ} 0 1 = ap (λ b. if b then 1 else 0) same in absurd (omega (arith, bad))

    drop_none : (zs : List Feed) → drop 0 zs ≡ zs
    drop_none [] = refl
    drop_none (z ∷ zs) = refl

few_gates : (begun : Bool) (v : ℕ) (a : Option Source) (d : Bool) → length (test_gates begun v a d) ≤ 1
few_gates false v a false = omega arith
few_gates false v a true = omega arith
few_gates true v a d = omega arith

begun_some : (begun : Bool) (v : ℕ) (a : Option Source) (d : Bool) (n : ℕ) → (begun ≡ true → 0 < n)
    → (begun || d) ≡ true → 0 < n + length (test_gates begun v a d)
begun_some false v a false n some on = let low = some on in omega (arith, low)
begun_some false v a true n some on = omega arith
begun_some true v a d n some on = omega arith

pub test_more : (edges : List Edge) (address : List Feed) (size : ℕ) (old : List OpenVertex) (i : ℕ) (f : Feed)
    (begun : Bool) (rest : ℕ) (items items' : List OpenVertex) → TestSoFar edges address size old i begun rest items
    → slice_get address i ≡ Some f → i < length address
    → items' ≡ items ++ test_gates begun (length items) (feed_source edges f) (rest % 2 == 1)
    → TestSoFar edges address size old (i + 1) (begun || (rest % 2 == 1)) (rest / 2) items'
test_more edges address size old i f begun rest items items' so found low pushed =
    let digit = rest % 2 == 1 in
    let gates = test_gates begun (length items) (feed_source edges f) digit in
    let count : length items' ≡ length items + length gates = ap length pushed ∙ length-append items gates in
    let left : length address - i ≡ suc (length address - (i + 1)) = omega (arith, low) in
    let sources = ap (map (feed_source edges)) (drop_at address i f found) in
    let ds = digits (length address - (i + 1)) (rest / 2) in
    let address' = map (feed_source edges) (drop (i + 1) address) in
    let step = test_goes_on begun (length items) (feed_source edges f) address' digit ds so.some in
    let few = so.few in
    let most = few_gates begun (length items) (feed_source edges f) digit in
    let enough = begun_some begun (length items) (feed_source edges f) digit (length items) so.some in
    record {
      some = λ on. let low = enough on in omega (arith, low, count);
      few = omega (arith, few, most, count);
      so_far =
          ap₂ (λ xs n. xs ++ test_left (begun || digit) n address' ds) pushed count
          ∙ append_assoc items gates (test_left (begun || digit) (length items + length gates) address' ds)
          ∙ ap (λ xs. items ++ xs) (sym step)
          ∙ ap₂ (λ fs n. items ++ test_left begun (length items) fs (digits n rest)) (sym sources) (sym left)
          ∙ so.so_far;
    }

pub test_ends : (edges : List Edge) (address : List Feed) (size : ℕ) (old : List OpenVertex) (i : ℕ) (begun : Bool)
    (rest : ℕ) (items : List OpenVertex) → TestSoFar edges address size old i begun rest items
    → length address ≤ i
    → items ≡ old ++ below_size (length old) (map (feed_source edges) address) (digits (length address) size)
test_ends edges address size old i begun rest items so all =
    sym (append_none items)
    ∙ ap (λ xs. items ++ xs) (sym (no_test_left begun (length items) (digits (length address - i) rest)))
    ∙ ap (λ fs. items ++ test_left begun (length items) (map (feed_source edges) fs) (digits (length address - i) rest))
    (sym (drop_past address i all))
    ∙ so.so_far
  where
    drop_past : (xs : List Feed) (n : ℕ) → length xs ≤ n → drop n xs ≡ []
    drop_past [] zero low = refl
    drop_past [] (suc n) low = refl
    drop_past (x ∷ xs) zero low = absurd (omega (arith, low))
    drop_past (x ∷ xs) (suc n) low = drop_past xs n (omega (arith, low))

-- a test has at most a gate for each address bit
pub test_within : (n : ℕ) (address : List (Option Source)) (v size : ℕ) → length address ≡ n
    → length (below_size v address (digits n size)) ≤ n
test_within n address v size long =
    let same = length-below_size v address (digits n size) (long ∙ sym (length-digits n size)) in
    let few = few_tests (digits n size) in
    let count = length-digits n size in
    omega (arith, same, few, count)
  where
    few_tests : (ds : List Bool) → test_count ds ≤ length ds
    few_tests [] = omega arith
    few_tests (true ∷ ds) = omega arith
    few_tests (false ∷ ds) = let rest = few_tests ds in omega (arith, rest)
