use Rattle.cs_net.proofs.ClockFacts.{all_clocked, all_rise, clocked_by_none, is_an_input, is_no_output, is_not_read, without_clock}
use Rattle.cs_net.proofs.laws.one_clock.Goals as goal

pub returns-clause-exactly : goal.returns-clause-exactly
returns-clause-exactly c = (without_clock c.args.net.now c.keeps.ensures, clocked_by_none c.args.net.now c.keeps.ensures)

pub returns-clause-all : goal.returns-clause-all
returns-clause-all c = all_clocked c.args.net.now c.keeps.ensures

pub returns-clause-edges : goal.returns-clause-edges
returns-clause-edges c = all_rise c.args.net.now c.keeps.ensures

pub returns-clause-input : goal.returns-clause-input
returns-clause-input c = is_an_input c.args.net.now c.keeps.ensures

pub returns-clause-not_read : goal.returns-clause-not_read
returns-clause-not_read c = is_not_read c.args.net.now c.keeps.ensures

pub returns-clause-not_output : goal.returns-clause-not_output
returns-clause-not_output c = is_no_output c.args.net.now c.keeps.ensures
