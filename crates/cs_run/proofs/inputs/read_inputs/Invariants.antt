use Rattle.std.proofs.Common.{◌≡◌, ◌++◌, List, drop, ℕ}
use Rattle.cs_run.specs.declared.inputs.Input.{Input}
use Rattle.cs_run.specs.Inputs.{FilesHave, FirstTooLong, ReadUpTo}
use Rattle.cs_run.proofs.inputs.read_inputs.Given as goal

-- the store is as before; what is read, with what the later files have, is what all have; the first of the later files
-- that is too long is the first of all; and where those before a file of the later ones are read, so are all before it
abbrev pub invariant-loop-read : goal.invariant-loop-read
invariant-loop-read g l = record {
  stays : g.S.Store.state l.store ≡ g.S.Store.state l.fn.store;
  later : (rest : List Input) → FilesHave (g.S.Store.state l.fn.store).files (drop l.read-index l.reads) rest
      → FilesHave (g.S.Store.state l.fn.store).files l.reads (l.inputs ++ rest);
  long : (name : List ℕ) → FirstTooLong (g.S.Store.state l.fn.store).files (drop l.read-index l.reads) name
      → FirstTooLong (g.S.Store.state l.fn.store).files l.reads name;
  reached : (name : List ℕ) → ReadUpTo (g.S.Store.state l.fn.store).files (drop l.read-index l.reads) name
      → ReadUpTo (g.S.Store.state l.fn.store).files l.reads name;
}
