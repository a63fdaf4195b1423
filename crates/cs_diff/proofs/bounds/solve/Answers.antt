-- Caps are labels to begin with, and settled labels are the greatest solution.
use Rattle.std.proofs.Common.{◌≡◌, List, length, Some, ap, ◌∙◌, map, rules, Result, Ok, Err, Vec, Global}
use Rattle.std.specs.Prelude.{ℤ, pos, OnOk, IfOk}
use Rattle.std.specs.Option.{unwrap_or}
use Rattle.std.proofs.lemmas.List.{length-map}
use Rattle.cs_diff.specs.declared.system.System.{System}
use Rattle.cs_diff.specs.Systems.{IsGreatest, HasSolution, value_of}
use Rattle.cs_diff.specs.Labels.{Labels, AreSettled}
use Rattle.cs_diff.specs.declared.reading.Reading.TheVariants.{Upper}
use Rattle.cs_diff.proofs.SolveLemmas.{starts_by_caps, greatest}
use Rattle.cs_diff.proofs.bounds.solve.Goals as goal

module _ (s : System) (caps : List ℤ) (old labels : Labels) (count : length caps ≡ s.vertices)
    (starts : old ≡ map (λ cap. Some cap) caps) (same : length labels ≡ length old) where
  len : length labels ≡ s.vertices
  len = same ∙ ap length starts ∙ length-map caps (λ (cap : ℤ). Some cap) ∙ count

  greatest_of : {E : Type 0} (r : Result (Vec ℤ Global) E)
      → OnOk r (AreSettled Upper s.constraints old labels)
      → IfOk r (λ values. values.items ≡ map (λ label. unwrap_or label (pos 0)) labels)
      → IfOk r (λ values. IsGreatest s (value_of caps) (value_of values.items))
  greatest_of (Ok values) settled is = greatest s caps labels values.items count
      (rw (← starts) settled) len is
  greatest_of (Err e) settled is = search rules

  solvable_of : {E : Type 0} (r : Result (Vec ℤ Global) E)
      → IfOk r (λ values. IsGreatest s (value_of caps) (value_of values.items))
      → OnOk r (HasSolution s)
  solvable_of (Ok values) g = record { values = value_of values.items; solves = g.solves }
  solvable_of (Err e) g = search rules

pub solve_from-requires-clause-starts : goal.solve_from-requires-clause-starts
solve_from-requires-clause-starts c =
    rw (c.as_mut_slice.ensures.value, c.in_ok-labels.ensures)
    (starts_by_caps c.args.sys.now.vertices c.args.caps.now c.requires.count c.requires.range)

pub returns-clause-greatest : goal.returns-clause-greatest
returns-clause-greatest c =
    greatest_of c.args.sys.now c.args.caps.now c.as_mut_slice.result.now c.solve_from.new.labels
    c.requires.count (c.as_mut_slice.ensures.value ∙ c.in_ok-labels.ensures)
    c.solve_from.auto.labels
    c.solve_from.result c.solve_from.ensures.settled c.solve_from.ensures.values

pub returns-clause-solvable : goal.returns-clause-solvable
returns-clause-solvable c =
    solvable_of c.args.sys.now c.args.caps.now c.as_mut_slice.result.now c.solve_from.new.labels
    c.requires.count (c.as_mut_slice.ensures.value ∙ c.in_ok-labels.ensures)
    c.solve_from.auto.labels
    c.solve_from.result (returns-clause-greatest c)
