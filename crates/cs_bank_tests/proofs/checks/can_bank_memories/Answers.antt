-- A memory more.
use Rattle.std.proofs.Common.{◌≡◌, ℕ, ◌<◌, ◌≤◌, ◌∙◌, List, Some, length, refl, sym, ap, subst, arith}
use Rattle.std.specs.Prelude.{slice_get, Option}
use Rattle.std.proofs.lemmas.Option.{same_Some, slice_get_read}
use Rattle.cs_graph.specs.declared.memory.Memory.{Memory}
use Rattle.cs_graph.proofs.Lists.{each_all, each_next}
use Rattle.cs_net.specs.Contexts.{Image}
use Rattle.cs_bank.specs.Bank.{FitsMemory, IsWhole}
use Rattle.cs_bank_tests.proofs.checks.can_bank_memories.Goals as goal

pub loop-i-preserved : goal.loop-i-preserved
loop-i-preserved c =
    let memories = c.args.machine.now.memories in
    let entries = c.as_slice-entries.result.now in
    let m = c.memory-memory.result.now in
    let low = c.loop-i-test.true in
    let count = c.memory_count-i-end.ensures in
    let many = ap length c.as_slice-entries.ensures in
    let same = c.requires in
    let entry = slice_get_read entries (length entries) c.loop-i.i c.index-entries-i.result refl
    (omega (arith, low, count, many, same)) c.index-entries-i.is in
    let found = subst (λ n. slice_get memories n ≡ Some m) c.new.ensures c.memory-memory.ensures in
    record {
      whole = each_next memories (λ k o. IsWhole o) c.loop-i.i m c.loop-i.invariant.whole found
          c.if-not-can_bank_memory.ensures.whole;
      fit = each_next memories (λ j o. (e : Option (List Image)) → slice_get c.args.images.now.of j ≡ Some e
          → FitsMemory c.args.contexts o e) c.loop-i.i m c.loop-i.invariant.fit found
          (λ e at. subst (FitsMemory c.args.contexts m)
          (same_Some c.index-entries-i.result e (sym entry
          ∙ ap (λ es. slice_get es c.loop-i.i) c.as_slice-entries.ensures ∙ at))
          c.if-not-can_bank_memory.ensures.fits);
    }

pub returns-clause-whole : goal.returns-clause-whole
returns-clause-whole c =
    let all = c.loop-i-test.false in
    let count = c.memory_count-i-end.ensures in
    each_all c.args.machine.now.memories (λ k m. IsWhole m) c.loop-i.i (omega (arith, all, count))
    c.loop-i.invariant.whole

pub returns-clause-fit : goal.returns-clause-fit
returns-clause-fit c = λ k m entry at found.
    let all = c.loop-i-test.false in
    let count = c.memory_count-i-end.ensures in
    each_all c.args.machine.now.memories (λ j o. (e : Option (List Image)) → slice_get c.args.images.now.of j ≡ Some e
    → FitsMemory c.args.contexts o e) c.loop-i.i (omega (arith, all, count)) c.loop-i.invariant.fit k m at entry found
