-- `help` and `version`: what stands afterwards.
use Rattle.std.proofs.Common.{◌≡◌, ℕ, List, [], subst, sym}
use Rattle.cs_words.specs.declared.command.Command.{Command}
use Rattle.cs_run.specs.declared.inputs.Input.{Input}
use Rattle.cs_run.specs.declared.reply.Reply.{Reply}
use Rattle.cs_run.specs.Commands.{Makes}
use Rattle.cs_run.specs.Replies.{putting}
use Rattle.cs_run.specs.Worlds.{FailsPutting, PutsOnly, World}
use Rattle.cs_run.proofs.Ends.{Finished, Unfinished}
use Rattle.cs_run.proofs.WorldLemmas.{AreNamed, put_only, unput_only}

pub own_names : (text : List ℕ) (reply : Reply) → reply ≡ putting text → AreNamed [] reply.writes
own_names text reply makes = subst (λ (r : Reply). AreNamed [] r.writes) (sym makes) tt

-- a command that puts this text, whatever its inputs
abbrev pub PutsText : Command → List ℕ → Type 0
PutsText command text = (inputs : List Input) (reply : Reply) → Makes command inputs reply → reply ≡ putting text

pub own_put : (command : Command) (text : List ℕ) (old new : World) → PutsText command text → Finished command old new → PutsOnly old new text
own_put command text old new puts f =
    let left = put_only old new f.reply text (puts f.answer.inputs f.reply f.answer.holds.0) f.store f.sink in
    record { store = left.0; sink = left.1 }

pub own_unput : (command : Command) (text : List ℕ) (old new : World) → PutsText command text → Unfinished command old new → FailsPutting old new text
own_unput command text old new puts f =
    let left = unput_only old new f.reply text (puts f.answer.inputs f.reply f.answer.holds.0) f.stops in
    record { store = left.0; sink = left.1 }
