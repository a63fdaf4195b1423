use Rattle.std.proofs.Common.{refl}
use Rattle.cs_words.specs.Commands.{texts}
use Rattle.cs_run.specs.Runs.{run_of}
use Rattle.cs_run.specs.Worlds.{world}
use Rattle.cs_run.proofs.PromiseLemmas.{misused, said}
use Rattle.cs_run.proofs.program.perform.Goals as goal

pub returns-in-Ok : goal.returns-in-Ok
returns-in-Ok g c =
    said
    (run_of (texts c.args.words.now) (world (g.S.Store.state c.args.store.now) (g.O.Sink.state c.args.out.now))
    (world (g.S.Store.state c.run_command.new.store) (g.O.Sink.state c.run_command.new.out)))
    c.run_command.result c.in-Ok.command c.in-Ok.ensures.said c.run_command.ensures

pub returns-in-Err : goal.returns-in-Err
returns-in-Err g c =
    misused
    (run_of (texts c.args.words.now) (world (g.S.Store.state c.args.store.now) (g.O.Sink.state c.args.out.now))
    (world (g.S.Store.state c.args.store.now) (g.O.Sink.state c.put_stop.new.out)))
    c.put_stop.result c.in-Err.error c.misused.result c.in-Err.ensures.said refl c.misused.ensures c.put_stop.ensures
