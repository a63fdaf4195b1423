-- The last line decides.
use Rattle.std.proofs.Common.{sym}
use Rattle.cs_rup.proofs.Derivations.{ends_at, ends_none}
use Rattle.cs_rup.proofs.derivation.ends_with_empty.Goals as goal

pub returns-in-None : goal.returns-in-None
returns-in-None c = (λ is. cc, λ ends. absurd (ends_none c.args.lines.now (sym c.in-None.ensures.value) ends))

pub returns-in-Some : goal.returns-in-Some
returns-in-Some c =
    let end = ends_at c.args.lines.now c.in-Some.line.now (sym c.in-Some.ensures.value) in
    (λ is. end.1 (c.is_empty.ensures.0 is), λ ends. c.is_empty.ensures.1 (end.0 ends))
