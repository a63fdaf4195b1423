-- Refusals, and the forms of replies.
use Rattle.std.specs.Prelude.{ℕ, List, [], ◌∷◌}
use Rattle.cs_report.specs.declared.fault.Fault.{Fault}
use Rattle.cs_report.specs.FaultLines.{fault_line}
use Rattle.cs_run.specs.declared.status.Status.TheVariants.{Done}
use Rattle.cs_run.specs.declared.reply.Refusal.{Refusal}
use Rattle.cs_run.specs.declared.reply.Reply.{Reply}
use Rattle.cs_run.specs.Statuses.{status_of}

-- the status and the line of a fault
abbrev pub refusal_for : Fault → Refusal
refusal_for fault = record { status = status_of fault; line = fault_line fault }

-- one text is put
abbrev pub putting : List ℕ → Reply
putting text = record { status = Done; writes = []; texts = text ∷ [] }

-- a file is written and nothing is put; where the write fails, this line is put
abbrev pub writing : List ℕ → List ℕ → List ℕ → Reply
writing name bytes fault_line = record {
  status = Done;
  writes = record { name = name; bytes = bytes; fault_line = fault_line } ∷ [];
  texts = [];
}
