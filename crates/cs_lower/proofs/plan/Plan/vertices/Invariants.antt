-- The vertices that are left come behind those so far, and so do their origins.
use Rattle.std.proofs.Common.{◌≡◌, ◌++◌, map}
use Rattle.std.specs.List.{AllByRecursion}
use Rattle.std.specs.Vec.Iter.{into_iter_items}
use Rattle.cs_lower.specs.declared.taps.Piece.{Piece}
use Rattle.cs_lower.specs.Lowered.{source_of, vertex_of}
use Rattle.cs_lower.specs.Sizes.{HasIds}
use Rattle.cs_lower.proofs.plan.Plan.vertices.Given as goal

abbrev pub invariant-loop-piece : goal.invariant-loop-piece
invariant-loop-piece l =
    (l.made.vertices ++ map (vertex_of l.self) (into_iter_items l.piece-iterator) ≡ map (vertex_of l.self) l.fn.pieces)
    × (l.made.origins ++ map (λ (p : Piece). p.origin) (into_iter_items l.piece-iterator)
    ≡ map (λ (p : Piece). p.origin) l.fn.pieces)
    × AllByRecursion (λ (p : Piece). AllByRecursion (λ t. HasIds (source_of l.self t)) p.pins) (into_iter_items l.piece-iterator)
