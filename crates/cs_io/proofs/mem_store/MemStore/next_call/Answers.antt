use Rattle.std.proofs.Common.{◌≡◌, None, rules, subst, sym}
use Rattle.std.specs.Bool.{OnFalse}
use Rattle.cs_io.specs.Memory.{is_planned}
use Rattle.cs_io.specs.MemStores.{next_plan, one_more}
use Rattle.cs_io.proofs.Plans.{unplanned}
use Rattle.cs_io.proofs.mem_store.MemStore.next_call.Goals as goal

pub returns-clause-unplanned : goal.returns-clause-unplanned
returns-clause-unplanned c =
    let plan = c.args.self.now.plan in
    let calls = c.args.self.now.calls in
    let found : c.plan_at.result ≡ next_plan plan calls = search rules in
    subst (λ kept. OnFalse (is_planned plan) (kept ≡ None)) (sym found) (unplanned plan (one_more calls))
