use Rattle.std.proofs.Common.{◌≡◌, List, refl, subst}
use Rattle.cs_net.specs.Drivers.{own_start}
use Rattle.cs_net.specs.Netlist.{state_of}
use Rattle.cs_net.specs.Trace.{Answers, Row}
use Rattle.cs_stream.specs.Rows.{rows_of}
use Rattle.cs_run.specs.Replies.{putting}
use Rattle.cs_run.specs.Sim.{PutsAnswer}
use Rattle.cs_run.proofs.StopLemmas.{if_reply}
use Rattle.cs_run.proofs.simulation.put_response.Goals as goal

pub returns : goal.returns
returns c =
    let net = c.args.net.now in
    let from = state_of (own_start net) in
    let rows = rows_of c.in_ok-answer.answer in
    let OneAnswer : List Row → Type 0 = λ asked. (other : List Row) → Answers net from asked other → other ≡ rows in
    if_reply (PutsAnswer net c.args.stim.now) c.putting.result (putting c.in_ok-text.text.items)
    (record {
      text = c.in_ok-text.text.items;
      answered = record {
        faultless = c.requires.faultless;
        rows = rows;
        answers = subst (λ asked. Answers net from asked rows) c.requires.are c.in_ok-answer.ensures.answers;
        only = subst OneAnswer c.requires.are c.in_ok-answer.ensures.only;
        is = c.in_ok-text.ensures.text;
      };
      is = refl;
    }) c.putting.ensures
