use Rattle.cs_net.proofs.MemoryFacts.{memory_count, memory_name, memory_names_distinct, shape_count, shape_fits}
use Rattle.cs_net.proofs.laws.memories_in_order.Goals as goal

pub returns-clause-one_for_each : goal.returns-clause-one_for_each
returns-clause-one_for_each c = shape_count c.args.net.now c.keeps.ensures

pub returns-clause-of_memories : goal.returns-clause-of_memories
returns-clause-of_memories c = shape_fits c.args.net.now c.keeps.ensures

pub returns-clause-count : goal.returns-clause-count
returns-clause-count c = memory_count c.args.net.now c.keeps.ensures

pub returns-clause-distinct : goal.returns-clause-distinct
returns-clause-distinct c = memory_names_distinct c.args.net.now c.keeps.ensures

pub returns-clause-named : goal.returns-clause-named
returns-clause-named c = memory_name c.args.net.now c.keeps.ensures
