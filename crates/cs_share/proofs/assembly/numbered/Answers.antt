-- The clock by its number.
use Rattle.std.proofs.Common.{◌∙◌, List, ap}
use Rattle.cs_base.specs.declared.signal.Signal.{Signal}
use Rattle.cs_share.specs.Inputs.{written_among}
use Rattle.cs_share.specs.Ports.{input_signals}
use Rattle.cs_share.proofs.PlanLemmas.{clock_written}
use Rattle.cs_share.proofs.assembly.numbered.Goals as goal

pub returns-clause-clock : goal.returns-clause-clock
returns-clause-clock c =
    let names = c.args.names.now in
    c.written_clock.ensures
    ∙ ap (λ (inputs : List Signal). written_among names.clock inputs)
    (c.as_slice-3.ensures.value ∙ c.in_ok-inputs.ensures ∙ ap input_signals c.as_slice.ensures)
    ∙ clock_written names
