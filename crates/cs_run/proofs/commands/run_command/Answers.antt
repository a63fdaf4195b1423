use Rattle.cs_run.specs.Worlds.{world}
use Rattle.cs_run.proofs.RunLemmas.{replied, stopped}
use Rattle.cs_run.proofs.commands.run_command.Goals as goal

pub returns-in-Ok : goal.returns-in-Ok
returns-in-Ok g c =
    replied c.args.command.now (world (g.S.Store.state c.args.store.now) (g.O.Sink.state c.args.out.now))
    (world (g.S.Store.state c.carry_out.new.store) (g.O.Sink.state c.carry_out.new.out)) _ _ _ c.in-Ok.ensures c.carry_out.ensures

pub returns-in-Err : goal.returns-in-Err
returns-in-Err g c =
    stopped c.args.command.now (world (g.S.Store.state c.args.store.now) (g.O.Sink.state c.args.out.now))
    (world (g.S.Store.state c.answer_command.new.store) (g.O.Sink.state c.put_stop.new.out)) c.in-Err.stop c.put_stop.result c.in-Err.ensures
    c.put_stop.ensures
