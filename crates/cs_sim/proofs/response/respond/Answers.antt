use Rattle.std.proofs.Common.{IfOk, subst}
use Rattle.cs_net.specs.Drivers.{own_start}
use Rattle.cs_net.specs.Netlist.{Net, state_of}
use Rattle.cs_net.specs.Trace.{Answers}
use Rattle.cs_stream.specs.Rows.{rows_of}
use Rattle.cs_sim.proofs.RunLemmas.{only_response}
use Rattle.cs_sim.proofs.response.respond.Goals as goal

pub returns-clause-answers : goal.returns-clause-answers
returns-clause-answers c =
    subst (λ (n : Net). IfOk c.answer_rows.result
    (λ response. Answers n (state_of (own_start n)) (rows_of c.args.stimulus.now) (rows_of response)))
    c.in_ok-sim.ensures.net c.answer_rows.ensures.answers

pub returns-clause-only : goal.returns-clause-only
returns-clause-only c =
    only_response c.args.net.now c.keeps.ensures (rows_of c.args.stimulus.now) c.answer_rows.result
    (returns-clause-answers c)
