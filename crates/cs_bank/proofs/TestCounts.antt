-- What the test of an address counts, bit by bit.
use Rattle.std.proofs.Common.{◌≡◌, ℕ, suc, ◌+◌, ◌-◌, ◌<◌, ◌≤◌, Bool, true, false, ◌||◌, List, [], ◌∷◌, length, map, drop, refl, sym, ap, ap₂, ◌∙◌, arith}
use Rattle.std.specs.Prelude.{min, slice_get, Option, Some, if◌then◌else◌, ◌%◌, ◌/◌, ◌==◌}
use Rattle.cs_cells.specs.declared.gate.Kind.TheVariants.{AndNot, Not, OrNot}
use Rattle.cs_graph.specs.declared.edge.Edge.{Edge}
use Rattle.cs_graph.specs.declared.source.Source.{Source}
use Rattle.cs_graph.specs.declared.vertex.Feed.{Feed}
use Rattle.cs_bank.specs.declared.measures.Measure.{Measure}
use Rattle.cs_bank.specs.ContextBits.{digits, gate, wire}
use Rattle.cs_bank.specs.Guards.{below_size, comparison}
use Rattle.cs_bank.specs.Measures.{extent}
use Rattle.cs_bank.specs.TestSteps.{test_gates, test_left}
use Rattle.cs_bank.specs.Wired.{feed_source}
use Rattle.cs_bank.proofs.Counted.{capped, drop_none, drop_past, most}
use Rattle.cs_bank.proofs.Lists.{drop_at}
use Rattle.cs_bank.proofs.MeasureLemmas.{below_same, comparison_same, extent_cons, extent_one}

-- the gates of one bit count, then those of the rest
test_extent : (measure : Measure) (begun : Bool) (a : Option Source) (address : List (Option Source)) (d : Bool)
    (ds : List Bool) → extent measure (test_left begun 0 (a ∷ address) (d ∷ ds))
    ≡ extent measure (test_gates begun 0 a d) + extent measure (test_left (begun || d) 0 address ds)
test_extent measure false a address false ds =
    let none : extent measure [] ≡ 0 = refl in omega (arith, none)
test_extent measure false a address true ds =
    let all = extent_cons measure (gate Not (a ∷ [])) (comparison 0 address ds) in
    let one = extent_one measure (gate Not (a ∷ [])) in
    omega (arith, all, one)
test_extent measure true a address d ds =
    let x = gate (if d then OrNot else AndNot) (wire 0 ∷ a ∷ []) in
    let all = extent_cons measure x (comparison 1 address ds) in
    let one = extent_one measure x in
    let rest = comparison_same measure 1 0 address ds in
    omega (arith, all, one, rest)

-- the count of the gates of the first i address bits and the rest make the whole
pub record TestCount (measure : Measure) (edges : List Edge) (address : List Feed) (size i : ℕ) (begun : Bool)
    (rest total : ℕ) : Type 0 where
  pub whole : min (total + extent measure
      (test_left begun 0 (map (feed_source edges) (drop i address)) (digits (length address - i) rest))) most
      ≡ min (extent measure (below_size 0 (map (feed_source edges) address) (digits (length address) size))) most
  pub few : total ≤ most

pub test_count_begins : (measure : Measure) (edges : List Edge) (address : List Feed) (size : ℕ)
    → TestCount measure edges address size 0 false size 0
test_count_begins measure edges address size = record {
  whole =
      let same : length address - 0 ≡ length address = omega arith in
      ap₂ (λ fs n. min (0 + extent measure (below_size 0 (map (feed_source edges) fs) (digits n size))) most)
      (drop_none address) same
      ∙ plain (extent measure (below_size 0 (map (feed_source edges) address) (digits (length address) size)));
  few = omega arith;
}
  where
    plain : (n : ℕ) → min (0 + n) most ≡ min n most
    plain n = omega arith

pub test_count_more : (measure : Measure) (edges : List Edge) (address : List Feed) (size i : ℕ) (begun : Bool)
    (rest total : ℕ) (f : Feed) (y total' : ℕ) → TestCount measure edges address size i begun rest total
    → slice_get address i ≡ Some f → i < length address
    → y ≡ min (extent measure (test_gates begun 0 (feed_source edges f) (rest % 2 == 1))) most
    → total' ≡ min (total + y) most
    → TestCount measure edges address size (i + 1) (begun || (rest % 2 == 1)) (rest / 2) total'
test_count_more measure edges address size i begun rest total f y total' so found low each sum =
    let digit = rest % 2 == 1 in
    let a = feed_source edges f in
    let address' = map (feed_source edges) (drop (i + 1) address) in
    let ds = digits (length address - (i + 1)) (rest / 2) in
    let left : length address - i ≡ suc (length address - (i + 1)) = omega (arith, low) in
    record {
      whole =
          capped total y (extent measure (test_gates begun 0 a digit))
          (extent measure (test_left (begun || digit) 0 address' ds)) total' each sum
          ∙ ap (λ n. min (total + n) most) (sym (test_extent measure begun a address' digit ds))
          ∙ ap₂ (λ fs n. min (total + extent measure (test_left begun 0 fs (digits n rest))) most)
          (sym (ap (map (feed_source edges)) (drop_at address i f found))) (sym left)
          ∙ so.whole;
      few = omega (arith, sum);
    }

pub test_count_ends : (measure : Measure) (edges : List Edge) (address : List Feed) (size i : ℕ) (begun : Bool)
    (rest total v : ℕ) → TestCount measure edges address size i begun rest total → length address ≤ i
    → total ≡ min (extent measure (below_size v (map (feed_source edges) address) (digits (length address) size))) most
test_count_ends measure edges address size i begun rest total v so all =
    let ds = digits (length address - i) rest in
    let none = ap (λ fs. extent measure (test_left begun 0 (map (feed_source edges) fs) ds)) (drop_past address i all)
    ∙ no_extent begun ds in
    let same = below_same measure 0 v (map (feed_source edges) address) (digits (length address) size) in
    let whole = so.whole in
    let few = so.few in
    omega (arith, none, whole, few, same)
  where
    no_extent : (b : Bool) (ds : List Bool) → extent measure (test_left b 0 [] ds) ≡ 0
    no_extent false ds = refl
    no_extent true ds = refl
