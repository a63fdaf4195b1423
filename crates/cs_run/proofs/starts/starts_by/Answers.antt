use Rattle.std.proofs.Common.{IfErr, subst, sym}
use Rattle.std.specs.Option.{option_copied}
use Rattle.cs_run.specs.Reasons.{StopsFor}
use Rattle.cs_run.specs.Starts.{HasNoImages}
use Rattle.cs_run.proofs.starts.starts_by.Goals as goal

pub returns-in-Some-clause-err : goal.returns-in-Some-clause-err
returns-in-Some-clause-err c =
    subst (λ images. IfErr c.read_starts.result (StopsFor (HasNoImages c.args.contexts c.args.net.now (option_copied images)))) (sym c.in-Some.is)
    c.read_starts.ensures.err

pub returns-in_ok-none-in-None-clause-fits : goal.returns-in_ok-none-in-None-clause-fits
returns-in_ok-none-in-None-clause-fits c = c.in_ok-none-in-None.ensures.fit c.args.contexts
