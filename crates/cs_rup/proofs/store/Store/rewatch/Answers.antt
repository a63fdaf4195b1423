-- Both literals' lists have the place.
use Rattle.std.proofs.Common.{◌<◌, length, refl, arith, ap}
use Rattle.std.proofs.lemmas.Option.{slice_get_within}
use Rattle.cs_rup.proofs.Stores.{has_grown, listed_set}
use Rattle.cs_rup.proofs.store.Store.rewatch.Goals as goal

pub returns-clause-listed : goal.returns-clause-listed
returns-clause-listed c =
    let within : c.args.place < length c.put_new-2.new.self.watches.items =
    let enough = c.requires.listed.enough in
    let there = slice_get_within c.args.self.now.clauses c.args.place c.requires.among.0 c.requires.among.1 in
    omega (arith, ap length c.put_new-2.ensures.same.watches, ap length c.put_new.ensures.same.watches) in
    listed_set c.put_new-2.new.self _ c.args.place c.args.watch c.put_new-2.ensures.listed within refl refl refl (
      has_grown c.put_new.new.self.lists.items c.put_new-2.new.self.lists.items c.args.watch.one.lit c.args.place
          c.put_new-2.ensures.grow c.in_ok-put_new.ensures.ok,
      c.in_ok-put_new-2.ensures.ok,
    )
