-- How a command ends that has made a reply.
use Rattle.std.proofs.Common.{◌≡◌}
use Rattle.cs_words.specs.declared.command.Command.{Command}
use Rattle.cs_run.specs.declared.reply.Reply.{Reply}
use Rattle.cs_run.specs.Runs.{HasAnswer}
use Rattle.cs_run.specs.Worlds.{World, after_puts, after_writes}
use Rattle.cs_run.proofs.WorldLemmas.{Stops}

-- its files are written, and its texts are put
pub record Finished (command : Command) (old new : World) : Type 0 where
  pub reply : Reply
  pub answer : HasAnswer command old.store reply
  pub store : new.store ≡ after_writes old.store reply.writes
  pub sink : new.sink ≡ after_puts old.sink reply.texts

-- or a write or a put failed
pub record Unfinished (command : Command) (old new : World) : Type 0 where
  pub reply : Reply
  pub answer : HasAnswer command old.store reply
  pub stops : Stops reply old new
