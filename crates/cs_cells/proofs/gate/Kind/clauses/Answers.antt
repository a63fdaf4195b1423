-- The clauses mean the gate, whether they are put or not, and stay within the formula's variables.
use Rattle.std.proofs.Common.{ap, ◌∙◌, ◌++◌}
use Rattle.cs_cells.specs.Clauses.{gate_clauses}
use Rattle.cs_cells.proofs.MeaningLemmas.{gate_means, gate_within, range_more, range_same}
use Rattle.cs_cells.proofs.gate.Kind.clauses.Goals as goal

pub returns-in_err-more-clause-meaning : goal.returns-in_err-more-clause-meaning
returns-in_err-more-clause-meaning c = gate_means c.args.self c.args.out c.args.pins.now c.requires

pub returns-in_err-append-clause-meaning : goal.returns-in_err-append-clause-meaning
returns-in_err-append-clause-meaning c = gate_means c.args.self c.args.out c.args.pins.now c.requires

pub returns-in_err-append-clause-in_range : goal.returns-in_err-append-clause-in_range
returns-in_err-append-clause-in_range c pins out =
    range_same c.args.to.now c.append.new.to c.append.ensures.vars c.in_err-append.ensures.err

pub returns-clause-in_range : goal.returns-clause-in_range
returns-clause-in_range c pins out =
    range_more c.args.to.now c.append.new.to (gate_clauses c.args.self c.args.out c.args.pins.now) c.append.ensures.vars
    (c.in_ok-append.ensures.ok ∙ ap (λ more. c.args.to.now.clauses ++ more) c.in_ok-more.ensures)
    (gate_within c.args.to.now.vars c.args.self c.args.out c.args.pins.now pins out)

pub returns-clause-meaning : goal.returns-clause-meaning
returns-clause-meaning c = gate_means c.args.self c.args.out c.args.pins.now c.requires
