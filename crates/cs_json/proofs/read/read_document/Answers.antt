-- What is read is readable.
use Rattle.std.proofs.Common.{Result, Ok, Err}
use Rattle.std.specs.Prelude.{IfOk, List, ℕ}
use Rattle.cs_json.specs.declared.document.Document.{Document}
use Rattle.cs_json.specs.declared.error.DocError.{DocError}
use Rattle.cs_json.specs.Gives.{Answers}
use Rattle.cs_json.specs.Readable.{IsReadable}
use Rattle.cs_json.specs.Shape.{document}
use Rattle.cs_json.proofs.ReadableLemmas.{document_readable}
use Rattle.cs_json.proofs.read.read_document.Goals as goal

readable : (bytes : List ℕ) (result : Result Document DocError) → Answers result (document bytes)
    → IfOk result IsReadable
readable bytes (Ok doc) h = document_readable bytes doc h
readable bytes (Err e) h = tt

pub returns-clause-readable : goal.returns-clause-readable
returns-clause-readable c = readable c.args.bytes.now c.answer.result c.answer.ensures
