-- The place is marked, and may be the lowest one.
use Rattle.std.proofs.Common.{inl, inr, refl, arith}
use Rattle.cs_sat.proofs.Analyses.{false_within, false_read, marked_false, marked_none}
use Rattle.cs_sat.proofs.analyse.mark_false.Goals as goal

pub index-step-requires : goal.index-step-requires
index-step-requires c =
    let within = false_within c.args.trail.now c.args.lit c.in-Some.setting c.requires.trail c.requires.falsified c.in-Some.ensures in
    omega arith

pub returns-then-step-eq0 : goal.returns-then-step-eq0
returns-then-step-eq0 c =
    let trail = c.args.trail.now in
    let read = false_read trail c.args.lit c.in-Some.setting c.index-step.result.now c.requires.trail c.requires.falsified
    c.in-Some.ensures c.index-step.ensures in
    marked_none trail c.args.level c.args.lowest c.args.lit c.args.skip c.args.marks.now (λ _. record {
      place = c.in-Some.setting.place;
      step = record { step = c.index-step.result.now; found = read.0; is = read.1 };
      low = c.if-step-eq0.true;
    })

pub mark-requires : goal.mark-requires
mark-requires c =
    let within = false_within c.args.trail.now c.args.lit c.in-Some.setting c.requires.trail c.requires.falsified c.in-Some.ensures in
    let room = c.requires.trail.room in
    let size = c.requires.size in
    omega arith

pub returns-then-step-level : goal.returns-then-step-level
returns-then-step-level c =
    let trail = c.args.trail.now in
    let read = false_read trail c.args.lit c.in-Some.setting c.index-step.result.now c.requires.trail c.requires.falsified
    c.in-Some.ensures c.index-step.ensures in
    let room = c.requires.trail.room in
    let within = false_within trail c.args.lit c.in-Some.setting c.requires.trail c.requires.falsified c.in-Some.ensures in
    let size = c.requires.size in
    marked_false trail c.args.level c.args.lowest c.args.lowest c.args.lit c.args.skip c.args.marks.now c.mark.new.self
    c.in-Some.setting.place c.index-step.result.now c.requires.trail size (omega arith) read.0 read.1 (omega arith)
    c.in_ok-mark.ensures (inl (refl, inl c.if-step-level.true)) c.requires.other

pub returns-then-lowest-setting : goal.returns-then-lowest-setting
returns-then-lowest-setting c =
    let trail = c.args.trail.now in
    let read = false_read trail c.args.lit c.in-Some.setting c.index-step.result.now c.requires.trail c.requires.falsified
    c.in-Some.ensures c.index-step.ensures in
    let room = c.requires.trail.room in
    let within = false_within trail c.args.lit c.in-Some.setting c.requires.trail c.requires.falsified c.in-Some.ensures in
    let size = c.requires.size in
    marked_false trail c.args.level c.args.lowest c.args.lowest c.args.lit c.args.skip c.args.marks.now c.mark.new.self
    c.in-Some.setting.place c.index-step.result.now c.requires.trail size (omega arith) read.0 read.1 (omega arith)
    c.in_ok-mark.ensures (inl (refl, inr c.if-lowest-setting.true)) c.requires.other

pub returns : goal.returns
returns c =
    let trail = c.args.trail.now in
    let read = false_read trail c.args.lit c.in-Some.setting c.index-step.result.now c.requires.trail c.requires.falsified
    c.in-Some.ensures c.index-step.ensures in
    let room = c.requires.trail.room in
    let within = false_within trail c.args.lit c.in-Some.setting c.requires.trail c.requires.falsified c.in-Some.ensures in
    let size = c.requires.size in
    marked_false trail c.args.level c.args.lowest c.in-Some.setting.place c.args.lit c.args.skip c.args.marks.now c.mark.new.self
    c.in-Some.setting.place c.index-step.result.now c.requires.trail size (omega arith) read.0 read.1 (omega arith)
    c.in_ok-mark.ensures (inr (refl, omega arith, c.if-step-level.false)) c.requires.other
