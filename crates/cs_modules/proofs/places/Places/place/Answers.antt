use Rattle.std.proofs.Common.{rules, ◌≡◌, ◌<◌, length, subst, sym}
use Rattle.std.specs.Prelude.{IfSome}
use Rattle.cs_modules.specs.Places.{place_of}
use Rattle.cs_modules.proofs.FirstPlaces.{place_below}
use Rattle.cs_modules.proofs.places.Places.place.Goals as goal

pub returns-clause-within : goal.returns-clause-within
returns-clause-within c =
    let found : c.copied.result ≡ place_of c.args.bit c.args.self.now = search rules in
    subst (λ o. IfSome o (λ place. place < length c.args.self.now)) (sym found) (place_below c.args.bit c.args.self.now)
