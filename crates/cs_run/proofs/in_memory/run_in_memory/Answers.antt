use Rattle.cs_io.specs.MemSinks.{sink_state}
use Rattle.cs_io.specs.MemStores.{store_state}
use Rattle.cs_run.specs.Worlds.{world}
use Rattle.cs_run.proofs.MemoryLemmas.{dry_write_fault, no_read_fault}
use Rattle.cs_run.proofs.in_memory.run_in_memory.Goals as goal

pub returns-clause-read : goal.returns-clause-read
returns-clause-read c = λ unplanned all to.
    no_read_fault c.args.command.now c.args.store.now (sink_state c.args.out.now)
    (world (store_state c.run_command.new.store) (sink_state c.run_command.new.out)) c.run_command.result unplanned all
    c.run_command.ensures to

pub returns-clause-written : goal.returns-clause-written
returns-clause-written c = λ store_unplanned sink_unplanned to.
    dry_write_fault c.args.command.now (world (store_state c.args.store.now) (sink_state c.args.out.now))
    (world (store_state c.run_command.new.store) (sink_state c.run_command.new.out)) c.run_command.result store_unplanned sink_unplanned
    c.run_command.ensures to
