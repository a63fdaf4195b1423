-- The first places of names.
use Rattle.std.proofs.Common.{◌≡◌, ℕ, List, bytes_eq, drop, map}
use Rattle.std.specs.HashMap.{get_by}
use Rattle.std.specs.List.{position_from}
use Rattle.std.specs.Option.{option_or}
use Rattle.cs_images.specs.Names.{place_of}
use Rattle.cs_images.proofs.names.first_places.Given as goal

-- a name that has no place yet is looked for in what is left
abbrev pub invariant-loop-place : goal.invariant-loop-place
invariant-loop-place l = (name : List ℕ)
    → option_or (get_by (λ k. bytes_eq name k.now) l.places)
    (position_from (λ n. bytes_eq n name) l.place (map (λ n. n.now) (drop l.place l.names)))
    ≡ place_of name (map (λ n. n.now) l.names)
