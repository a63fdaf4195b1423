-- A walk's answer as that of the reader.
use Rattle.std.proofs.Common.{ap}
use Rattle.serde_json.specs.View.{view}
use Rattle.cs_json.specs.Shape.{doc_of, reading_of, place_of, root}
use Rattle.cs_json.proofs.Giving.{refused_in}
use Rattle.cs_json.proofs.read.shaped.Goals as goal

pub returns-in-Ok : goal.returns-in-Ok
unfolding doc_of
returns-in-Ok c = ap (λ read. reading_of (place_of read)) c.in-Ok.ensures

pub returns-in-Err-Refused : goal.returns-in-Err-Refused
unfolding doc_of
returns-in-Err-Refused c =
    ap (λ read. reading_of (place_of read))
    (refused_in c.in-Err-Refused.field-0 c.in-Err-Refused.path (root (view c.args.value.now))
    c.in-Err-Refused.field-0-is c.in-Err-Refused.ensures)
