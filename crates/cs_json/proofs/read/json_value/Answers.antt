-- What `serde_json` reads of bytes.
use Rattle.std.proofs.Common.{sym}
use Rattle.std.proofs.lemmas.Bool.{false≢true}
use Rattle.serde_json.specs.View.{view}
use Rattle.cs_json.proofs.Parsing.{json_of-some, json_of-none}
use Rattle.cs_json.proofs.read.json_value.Goals as goal

pub returns-in-Ok : goal.returns-in-Ok
returns-in-Ok c =
    sym (json_of-some c.args.bytes.now (view c.in-Ok.value) c.in-Ok.ensures.ok.0 c.in-Ok.ensures.ok.1)

pub returns-else-is_memory : goal.returns-else-is_memory
returns-else-is_memory c =
    sym (json_of-none c.args.bytes.now (c.in-Err.ensures.err (λ h. false≢true (c.if-is_memory.ensures.1 h))))
