use Rattle.std.proofs.Common.{◌∙◌, ap, inr, length, sym}
use Rattle.cs_net.specs.Build.{net_of}
use Rattle.cs_net.proofs.AcceptLemmas.{limit_late, reserved_late}
use Rattle.cs_net.proofs.Orders.{no_loop_of_order}
use Rattle.cs_net.proofs.acceptance.check_late.Goals as goal

pub returns-in-Some-clause-refuses : goal.returns-in-Some-clause-refuses
returns-in-Some-clause-refuses c =
    inr (reserved_late c.args.top.now c.in-Some.error c.in_ok-order.ensures.bits (sym c.in_ok-error.ensures ∙ c.in-Some.is))

pub returns-in-Some-limit_fault-clause-refuses : goal.returns-in-Some-limit_fault-clause-refuses
returns-in-Some-limit_fault-clause-refuses c =
    let m = c.args.top.now in
    inr (
      no_loop_of_order (net_of m) c.in_ok-order.ensures.bits,
      sym c.in_ok-error.ensures ∙ c.in_default.is,
      limit_late m c.len.result c.as_slice.result.now c.limit_fault.result (c.len.ensures ∙ ap length c.requires.draft.cells)
          (c.as_slice.ensures ∙ c.requires.draft.shapes) c.limit_fault.ensures ∙ c.in-Some-limit_fault.is,
    )

pub returns-in-None-clause-sound : goal.returns-in-None-clause-sound
returns-in-None-clause-sound c =
    let m = c.args.top.now in
    record {
      order = c.in_ok-order.ensures.bits;
      not_reserved = sym c.in_ok-error.ensures ∙ c.in_default.is;
      within = limit_late m c.len.result c.as_slice.result.now c.limit_fault.result (c.len.ensures ∙ ap length c.requires.draft.cells)
          (c.as_slice.ensures ∙ c.requires.draft.shapes) c.limit_fault.ensures ∙ c.in-None.is;
    }
