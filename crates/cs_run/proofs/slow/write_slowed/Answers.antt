use Rattle.std.proofs.Common.{◌∙◌, ap, subst}
use Rattle.cs_run.specs.Reasons.{StopsAt}
use Rattle.cs_run.specs.Replies.{writing}
use Rattle.cs_run.proofs.StopLemmas.{machine_stop}
use Rattle.cs_run.proofs.slow.write_slowed.Goals as goal

pub returns-in-Err : goal.returns-in-Err
returns-in-Err c =
    machine_stop c.args.words.now.contexts c.args.net.now c.args.starts.now c.in-Err.error c.stop_at.result c.in-Err.ensures.cause
    (subst (λ f. StopsAt f c.stop_at.result) c.machine_fault.ensures c.stop_at.ensures)

pub returns-in_ok-writing-in-Ok : goal.returns-in_ok-writing-in-Ok
returns-in_ok-writing-in-Ok c = record {
  netlist = c.in_ok-text-in-Ok.text.items;
  built = record {
    within = c.in-Ok.ensures.within;
    doc = c.in-Ok.document;
    slowed = c.in-Ok.ensures.document;
    is = c.in_ok-text-in-Ok.ensures.text;
  };
  isolates = c.in-Ok.ensures.isolates;
  read_again = c.in_ok-text-in-Ok.ensures.reads_back;
  is = c.in_ok-writing-in-Ok.ensures ∙ ap (λ line. writing c.args.words.now.output c.in_ok-text-in-Ok.text.items line) c.new.ensures.items;
}
