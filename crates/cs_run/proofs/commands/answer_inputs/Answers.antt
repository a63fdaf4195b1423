use Rattle.std.proofs.Common.{subst}
use Rattle.std.specs.Option.{option_copied}
use Rattle.cs_words.specs.Commands.{IsWithin}
use Rattle.cs_run.proofs.AnswerLemmas.{help_answers, mix_answers, mix_counts, part_answers, sim_answers, sim_context_answers, slow_answers, upgrade_answers, version_answers}
use Rattle.cs_run.proofs.commands.answer_inputs.Goals as goal

pub answer_mix-requires-clause-some : goal.answer_mix-requires-clause-some
answer_mix-requires-clause-some c =
    (mix_counts c.args.command.now c.in-Mix.words c.args.inputs.now c.in-Mix.is c.requires.within c.requires.all).0

pub answer_mix-requires-clause-most : goal.answer_mix-requires-clause-most
answer_mix-requires-clause-most c =
    (mix_counts c.args.command.now c.in-Mix.words c.args.inputs.now c.in-Mix.is c.requires.within c.requires.all).1

pub returns-in-Slow : goal.returns-in-Slow
returns-in-Slow c =
    slow_answers c.args.command.now c.in-Slow.words c.args.inputs.now c.bytes_of.result.now (option_copied c.found_bytes.result)
    c.answer_slow.result c.in-Slow.is c.bytes_of.ensures c.found_bytes.ensures
    c.answer_slow.ensures

pub returns-in-Sim : goal.returns-in-Sim
returns-in-Sim c =
    sim_answers c.args.command.now c.in-Sim.field-0 c.args.inputs.now c.bytes_of-in-Sim.result.now c.bytes_of-in-Sim-2.result.now c.answer_sim.result
    c.in-Sim.is c.bytes_of-in-Sim.ensures c.bytes_of-in-Sim-2.ensures c.answer_sim.ensures

pub returns-in-Mix : goal.returns-in-Mix
returns-in-Mix c = mix_answers c.args.command.now c.in-Mix.words c.args.inputs.now c.answer_mix.result c.in-Mix.is c.answer_mix.ensures

pub returns-in-Part : goal.returns-in-Part
returns-in-Part c =
    part_answers c.args.command.now c.in-Part.words c.args.inputs.now c.bytes_of-in-Part.result.now c.answer_part.result c.in-Part.is
    c.bytes_of-in-Part.ensures c.answer_part.ensures

pub returns-in-Upgrade : goal.returns-in-Upgrade
returns-in-Upgrade c =
    upgrade_answers c.args.command.now c.in-Upgrade.words c.args.inputs.now c.bytes_of-in-Upgrade.result.now c.answer_upgrade.result c.in-Upgrade.is
    c.bytes_of-in-Upgrade.ensures c.answer_upgrade.ensures

pub answer_sim_context-requires : goal.answer_sim_context-requires
answer_sim_context-requires c = subst IsWithin c.in-SimContext.is c.requires.within

pub returns-in-SimContext : goal.returns-in-SimContext
returns-in-SimContext c =
    sim_context_answers c.args.command.now c.in-SimContext.words c.args.inputs.now c.bytes_of-in-SimContext.result.now
    c.bytes_of-in-SimContext-2.result.now c.bytes_of-in-SimContext-3.result.now c.answer_sim_context.result c.in-SimContext.is
    c.bytes_of-in-SimContext.ensures c.bytes_of-in-SimContext-2.ensures c.bytes_of-in-SimContext-3.ensures c.answer_sim_context.ensures

pub returns-in-Help : goal.returns-in-Help
returns-in-Help c =
    help_answers c.args.command.now c.args.inputs.now c.help_text.result.now c.answer_own.result c.in-Help.is c.help_text.ensures c.answer_own.ensures

pub returns-in-Version : goal.returns-in-Version
returns-in-Version c =
    version_answers c.args.command.now c.args.inputs.now c.version_text.result.now c.answer_own-in-Version.result c.in-Version.is c.version_text.ensures
    c.answer_own-in-Version.ensures
