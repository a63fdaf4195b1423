-- Keeping the attributes or parameters among some members.
use Rattle.std.proofs.Common.{◌≡◌}
use Rattle.cs_json.proofs.EntryLemmas.{kept_of}
use Rattle.cs_json.proofs.entries.entries.Given as goal

abbrev pub invariant-loop-name : goal.invariant-loop-name
invariant-loop-name l = l.found ≡ kept_of l.yielded
