-- The literal became false at a marked place, or at level 0.
use Rattle.std.proofs.Common.{inl, inr, sym, arith, ◌∙◌}
use Rattle.cs_sat.proofs.Analyses.{false_step, false_within, false_read}
use Rattle.cs_sat.proofs.Shortening.{covered_one}
use Rattle.cs_sat.proofs.shorten.is_false_covered.Goals as goal

pub returns-then-is_marked : goal.returns-then-is_marked
returns-then-is_marked c _ skip =
    covered_one c.args.trail.now c.args.marks.now c.args.lit skip (λ _. inl (record {
      place = c.in-Some.setting.place;
      step = false_step c.args.trail.now c.args.lit c.in-Some.setting c.requires.trail c.requires.falsified c.in-Some.ensures;
      marked = sym c.is_marked.ensures ∙ c.if-is_marked.true;
    }))

pub index-requires : goal.index-requires
index-requires c =
    let within = false_within c.args.trail.now c.args.lit c.in-Some.setting c.requires.trail c.requires.falsified c.in-Some.ensures in
    omega arith

pub returns-then-index-eq0 : goal.returns-then-index-eq0
returns-then-index-eq0 c _ skip =
    let read = false_read c.args.trail.now c.args.lit c.in-Some.setting c.index.result.now c.requires.trail c.requires.falsified
    c.in-Some.ensures c.index.ensures in
    covered_one c.args.trail.now c.args.marks.now c.args.lit skip (λ _. inr (record {
      place = c.in-Some.setting.place;
      step = record { step = c.index.result.now; found = read.0; is = read.1 };
      low = c.if-index-eq0.true;
    }))
