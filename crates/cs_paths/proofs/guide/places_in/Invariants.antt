-- The first vertices of the order have their places.
use Rattle.cs_paths.proofs.GuideLemmas.{ArePlacesSoFar}
use Rattle.cs_paths.proofs.guide.places_in.Given as goal

abbrev pub invariant-loop-place : goal.invariant-loop-place
invariant-loop-place l = ArePlacesSoFar l.order l.place l.places.items
