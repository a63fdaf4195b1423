-- The first edges that leave the vertex are relaxed.
use Rattle.std.proofs.Common.{◌≡◌, ℕ, Bool, List, length}
use Rattle.cs_paths.specs.Guides.{leaving_of, place_of}
use Rattle.cs_paths.specs.Searches.{IsSearch, IsSettled}
use Rattle.cs_paths.proofs.row.relax_from.Given as goal

abbrev pub invariant-loop-turn : goal.invariant-loop-turn
invariant-loop-turn l = record {
  count : length l.row ≡ length l.initial.row;
  goes : (u : ℕ) (settled : List Bool) → IsSettled l.fn.v l.from l.initial.row settled
      → IsSearch l.machine l.delays l.guide u (l.from.0, place_of l.guide l.fn.v) (leaving_of l.guide.leaving l.fn.v) 0
      l.initial.row settled l.initial.waiting
      → IsSearch l.machine l.delays l.guide u (l.from.0, place_of l.guide l.fn.v) (leaving_of l.guide.leaving l.fn.v) l.turn
      l.row settled l.waiting × IsSettled l.fn.v l.from l.row settled;
  level : l.waiting.level ≡ l.initial.waiting.level;
  next : l.waiting.next ≡ l.initial.waiting.next;
}
