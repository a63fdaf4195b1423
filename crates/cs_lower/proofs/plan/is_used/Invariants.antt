-- No pin of the vertices so far needs the constant.
use Rattle.std.proofs.Common.{◌≡◌, drop}
use Rattle.std.specs.List.{list_any}
use Rattle.cs_lower.specs.declared.taps.Piece.{Piece}
use Rattle.cs_lower.specs.Lowered.{needs_constant, trail_of}
use Rattle.cs_lower.proofs.plan.is_used.Given as goal

abbrev pub invariant-loop-piece : goal.invariant-loop-piece
invariant-loop-piece l =
    list_any (λ (p : Piece). list_any (λ t. needs_constant l.value (trail_of l.trails t)) p.pins)
    (drop l.piece-index l.pieces)
    ≡ list_any (λ (p : Piece). list_any (λ t. needs_constant l.value (trail_of l.trails t)) p.pins) l.pieces
