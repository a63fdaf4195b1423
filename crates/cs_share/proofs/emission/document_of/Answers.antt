use Rattle.std.proofs.Common.{subst, sym}
use Rattle.cs_share.specs.Assembled.{FitsPlan}
use Rattle.cs_share.proofs.EmitLemmas.{clocked_by_plan, fits_plan, made_emission, made_memories, made_registers, made_rising}
use Rattle.cs_share.proofs.emission.document_of.Goals as goal

pub planned_circuit-requires : goal.planned_circuit-requires
planned_circuit-requires c =
    let clocked = clocked_by_plan c.args.plan.now c.args.names.now c.in_ok-clocked.clocked c.is_empty.result c.is_empty.ensures
    c.in_ok-clocked.ensures in
    subst (λ names. FitsPlan c.args.machine.now names c.args.plan.now) (sym clocked)
    (fits_plan c.args.machine.now c.keeps.ensures c.args.lags.now c.args.contents.now c.requires.legal c.requires.lengths c.requires.few
    c.args.names.now c.requires.names c.args.plan.now c.requires.plan)

pub circuit_document-requires-clause-numbers : goal.circuit_document-requires-clause-numbers
circuit_document-requires-clause-numbers c =
    let clocked = clocked_by_plan c.args.plan.now c.args.names.now c.in_ok-clocked.clocked c.is_empty.result c.is_empty.ensures
    c.in_ok-clocked.ensures in
    made_rising c.args.machine.now c.keeps.ensures c.args.lags.now c.args.contents.now c.requires.legal c.requires.lengths c.requires.few
    c.args.names.now c.requires.names c.args.plan.now c.requires.plan c.in_ok-clocked.clocked clocked
    c.in_ok-circuit.circuit c.in_ok-circuit.ensures

pub circuit_document-requires-clause-registers : goal.circuit_document-requires-clause-registers
circuit_document-requires-clause-registers c =
    let clocked = clocked_by_plan c.args.plan.now c.args.names.now c.in_ok-clocked.clocked c.is_empty.result c.is_empty.ensures
    c.in_ok-clocked.ensures in
    made_registers c.args.machine.now c.keeps.ensures c.args.lags.now c.args.contents.now c.requires.legal c.requires.lengths c.requires.few
    c.args.names.now c.requires.names c.args.plan.now c.requires.plan c.in_ok-clocked.clocked clocked
    c.in_ok-circuit.circuit c.in_ok-circuit.ensures

pub circuit_document-requires-clause-memories : goal.circuit_document-requires-clause-memories
circuit_document-requires-clause-memories c =
    let clocked = clocked_by_plan c.args.plan.now c.args.names.now c.in_ok-clocked.clocked c.is_empty.result c.is_empty.ensures
    c.in_ok-clocked.ensures in
    made_memories c.args.machine.now c.keeps.ensures c.args.lags.now c.args.contents.now c.requires.legal c.requires.lengths c.requires.few
    c.args.names.now c.requires.names c.args.plan.now c.requires.plan c.in_ok-clocked.clocked clocked
    c.in_ok-circuit.circuit c.in_ok-circuit.ensures

pub returns : goal.returns
returns c =
    let clocked = clocked_by_plan c.args.plan.now c.args.names.now c.in_ok-clocked.clocked c.is_empty.result c.is_empty.ensures
    c.in_ok-clocked.ensures in
    made_emission c.args.machine.now c.keeps.ensures c.args.lags.now c.args.contents.now c.requires.legal c.requires.lengths c.requires.few
    c.args.names.now c.requires.names c.args.plan.now c.requires.plan c.in_ok-clocked.clocked clocked
    c.in_ok-circuit.circuit c.in_ok-circuit.ensures c.circuit_document.result c.circuit_document.ensures
