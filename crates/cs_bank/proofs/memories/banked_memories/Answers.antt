-- A memory more.
use Rattle.std.proofs.Common.{◌≡◌, [], ◌∷◌, ◌++◌, ◌∙◌, Some, length, refl, sym, ap, subst}
use Rattle.std.specs.Prelude.{slice_get}
use Rattle.std.proofs.lemmas.Option.{slice_get_read}
use Rattle.cs_bank.specs.Bank.{banked_memory}
use Rattle.cs_bank.specs.Starts.{with_entries}
use Rattle.cs_bank.proofs.CodeLemmas.{entries_more}
use Rattle.cs_bank.proofs.memories.banked_memories.Goals as goal

pub banked_memory-requires-clause-whole : goal.banked_memory-requires-clause-whole
banked_memory-requires-clause-whole c =
    c.requires.whole c.new.result c.memory-memory.result.now c.memory-memory.ensures

pub banked_memory-requires-clause-memory : goal.banked_memory-requires-clause-memory
banked_memory-requires-clause-memory c =
    c.keeps.ensures.memories.each c.new.result c.memory-memory.result.now c.memory-memory.ensures

pub banked_memory-requires-clause-fits : goal.banked_memory-requires-clause-fits
banked_memory-requires-clause-fits c =
    let entries = c.as_slice-entry-items.result.now in
    let entry = slice_get_read entries (length entries) c.loop-i.i c.entry-item.result refl c.loop-i-test.true
    c.entry-item.is in
    c.requires.fit c.new.result c.memory-memory.result.now c.entry-item.result c.memory-memory.ensures
    (ap (λ es. slice_get es c.new.result) (sym c.as_slice-entry-items.ensures)
    ∙ ap (slice_get entries) c.new.ensures ∙ entry)

pub loop-i-preserved : goal.loop-i-preserved
loop-i-preserved c =
    let entries = c.as_slice-entry-items.result.now in
    let entry = slice_get_read entries (length entries) c.loop-i.i c.entry-item.result refl c.loop-i-test.true
    c.entry-item.is in
    let memories = c.args.machine.now.memories in
    let found = subst (λ n. slice_get memories n ≡ Some c.memory-memory.result.now) c.new.ensures
    c.memory-memory.ensures in
    entries_more (banked_memory c.args.contexts) memories c.args.images.now.of c.loop-i.i c.memory-memory.result.now
    c.entry-item.result c.loop-i.memories c.push.new.self
    (with_entries (banked_memory c.args.contexts) memories c.args.images.now.of) found
    (ap (λ es. slice_get es c.loop-i.i) (sym c.as_slice-entry-items.ensures) ∙ entry) c.loop-i.invariant
    (c.in_ok-push.ensures.ok ∙ ap (λ m. c.loop-i.memories ++ m ∷ []) c.in_ok-banked_memory.ensures)
