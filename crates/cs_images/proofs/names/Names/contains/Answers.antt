-- A name is among the names where it has a place.
use Rattle.std.proofs.Common.{bytes_eq, ap, ◌∙◌}
use Rattle.std.specs.Prelude.{is_some}
use Rattle.cs_images.proofs.NameLemmas.{placed_if_among}
use Rattle.cs_images.proofs.names.Names.contains.Goals as goal

pub returns : goal.returns
returns c =
    c.is_some.ensures ∙ ap is_some c.place.ensures
    ∙ placed_if_among (λ n. bytes_eq n c.args.name.now) 0 c.args.self.now
