-- What is read is in range.
use Rattle.std.proofs.Common.{Result, Ok, Err, List, ℕ}
use Rattle.std.specs.Prelude.{IfOk}
use Rattle.cs_cert.specs.declared.error.CertError.{CertError}
use Rattle.cs_cert.specs.declared.paper.Paper.{Paper}
use Rattle.cs_cert.specs.Gives.{Answers}
use Rattle.cs_cert.specs.PaperShape.{paper_of}
use Rattle.cs_cert.specs.Papers.{IsInRange}
use Rattle.cs_cert.proofs.RangeLemmas.{paper_in_range}
use Rattle.cs_cert.proofs.read.read_certificate.Goals as goal

in_range : (bytes : List ℕ) (result : Result Paper CertError) → Answers result (paper_of bytes)
    → IfOk result IsInRange
in_range bytes (Ok p) h = paper_in_range bytes p h
in_range bytes (Err e) h = tt

pub returns-clause-range : goal.returns-clause-range
returns-clause-range c = in_range c.args.bytes.now c.answer.result c.answer.ensures
