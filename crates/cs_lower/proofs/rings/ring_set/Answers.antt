use Rattle.std.proofs.Common.{nat_eq, take, get_or, sym, ◌∙◌}
use Rattle.indexmap.specs.IndexSet.{contains}
use Rattle.cs_lower.proofs.SearchLemmas.{any_step, found_on, rings_found}
use Rattle.cs_lower.proofs.rings.ring_set.Goals as goal

pub loop-bit-preserved : goal.loop-bit-preserved
loop-bit-preserved c = record {
  searched = c.in_ok-search_from.ensures.searched;
  found = λ b is.
      found_on c.args.wires.now (contains nat_eq c.loop-bit.least) (contains nat_eq c.search_from.new.least)
      (take c.loop-bit.bit-index c.args.numbers.now) (get_or c.args.numbers.now c.loop-bit.bit-index 0) b
      c.in_ok-search_from.ensures.keeps c.loop-bit.invariant.found c.in_ok-search_from.ensures.found
      (sym (any_step c.loop-bit.bit-index c.args.numbers.now b c.loop-bit-test.true) ∙ is);
}

pub returns : goal.returns
returns c =
    rings_found c.args.wires.now c.loop-bit.passed (contains nat_eq c.loop-bit.least) c.args.numbers.now
    c.loop-bit.bit-index c.loop-bit.invariant c.loop-bit-test.false
