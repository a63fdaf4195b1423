use Rattle.cs_words.specs.Commands.{texts}
use Rattle.cs_run.specs.Runs.{run_of}
use Rattle.cs_run.specs.Worlds.{world}
use Rattle.cs_run.proofs.Contract.{promises}
use Rattle.cs_run.proofs.program.run.Goals as goal

pub returns : goal.returns
returns g c =
    promises
    (run_of (texts c.args.words.now) (world (g.S.Store.state c.args.store.now) (g.O.Sink.state c.args.out.now))
    (world (g.S.Store.state c.perform-status.new.store) (g.O.Sink.state c.perform-status.new.out)))
    c.perform-status.result c.code.result c.code.ensures c.perform-status.ensures
