-- What stands at the place of a name is found by the name.
use Rattle.std.proofs.Common.{sym, ap, ◌∙◌}
use Rattle.cs_images.specs.Names.{place_of}
use Rattle.cs_images.proofs.NameLemmas.{found_at_place, found_nowhere, got_at}
use Rattle.cs_images.proofs.entries.named_as.Goals as goal

pub returns-in-Some : goal.returns-in-Some
returns-in-Some c =
    got_at c.args.named.now c.in-Some.place c.get.result c.get.ensures.lookup.0 c.get.ensures.lookup.1
    ∙ found_at_place (λ n. n.name) c.args.name.now c.args.named.now c.in-Some.place
    (ap (place_of c.args.name.now) (sym c.requires) ∙ sym c.place.ensures ∙ c.in-Some.is)

pub returns-in-None : goal.returns-in-None
returns-in-None c =
    sym (found_nowhere (λ n. n.name) c.args.name.now 0 c.args.named.now
    (ap (place_of c.args.name.now) (sym c.requires) ∙ sym c.place.ensures ∙ c.in-None.is))
