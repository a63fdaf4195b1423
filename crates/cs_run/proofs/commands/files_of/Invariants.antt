use Rattle.std.proofs.Common.{◌≡◌, ◌++◌, drop}
use Rattle.cs_run.specs.Inputs.{files_of}
use Rattle.cs_run.proofs.commands.files_of.Given as goal

-- the files so far, and those of the later names, are all
abbrev pub invariant-loop-name : goal.invariant-loop-name
invariant-loop-name l = l.reads ++ files_of l.role (drop l.name-index l.names) ≡ files_of l.role l.names
