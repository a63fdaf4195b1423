use Rattle.std.proofs.Common.{◌∙◌, sym}
use Rattle.cs_prefix.specs.Layers.{progress}
use Rattle.cs_prefix.proofs.PlanMade.{begun_by, codes_small, edges_below, plan_of, small_at, written_over}
use Rattle.cs_prefix.proofs.planning.plan_registers.Goals as goal

pub add_runs-requires-clause-small : goal.add_runs-requires-clause-small
add_runs-requires-clause-small c =
    rw c.as_slice.ensures.value
    (codes_small c.args.drivers.now c.args.contents.now c.requires.count c.requires.few
    (small_at c.args.drivers.now c.requires.small) c.in_ok-codes.codes.items c.in_ok-codes.ensures.sorted
    c.in_ok-codes.ensures.same)

pub add_runs-requires-clause-edges : goal.add_runs-requires-clause-edges
add_runs-requires-clause-edges c =
    rw c.as_slice.ensures.value
    (edges_below c.args.drivers.now c.args.contents.now c.requires.count c.requires.few
    (small_at c.args.drivers.now c.requires.small) c.in_ok-codes.codes.items c.in_ok-codes.ensures.sorted
    c.in_ok-codes.ensures.same)

pub returns : goal.returns
returns c =
    let drivers = c.args.drivers.now in
    let contents = c.args.contents.now in
    let codes = c.in_ok-codes.codes.items in
    let ends = c.in_ok-ends.ends in
    let small = small_at drivers c.requires.small in
    let begun = begun_by drivers contents c.requires.count c.requires.few small codes c.in_ok-codes.ensures.sorted
    c.in_ok-codes.ensures.same c.new.result c.new-2.result c.as_mut_slice.result.now c.new.ensures c.new-2.ensures
    (c.as_mut_slice.ensures.value ∙ c.in_ok-ends.ensures) in
    plan_of drivers contents c.requires.count c.requires.few small codes c.in_ok-codes.ensures.sorted
    c.in_ok-codes.ensures.same (progress (record { registers = c.new.result; groups = c.new-2.result }) c.as_mut_slice.result.now)
    (progress c.add_runs.new.layer c.add_runs.new.ends) c.as_slice.result.now begun c.as_slice.ensures.value
    c.in_ok-add_runs.ensures.made c.from_vec.result
    (c.from_vec.ensures
    ∙ written_over ends.len c.add_runs.new.ends ends.items (c.add_runs.ensures.ends
    ∙ c.as_mut_slice.ensures.len) (sym ends.ok.0))
