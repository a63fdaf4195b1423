use Rattle.std.proofs.Common.{◌≡◌, map, take}
use Rattle.cs_words.proofs.said.copied.Given as goal

-- the words so far
abbrev pub invariant-loop-word : goal.invariant-loop-word
invariant-loop-word l = l.texts ≡ map (λ word. word.now) (take l.word-index l.words)
