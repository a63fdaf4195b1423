-- The literal is one of the clause that it stands beside.
use Rattle.std.proofs.Common.{refl, sym, ap, ◌∙◌}
use Rattle.std.specs.Prelude.{slice_set}
use Rattle.cs_rup.specs.declared.watch.Watched.{Watched}
use Rattle.cs_rup.proofs.Stores.{read_list, listed_beside}
use Rattle.cs_rup.proofs.store.Store.block.Goals as goal

pub returns-clause-listed : goal.returns-clause-listed
returns-clause-listed c =
    let lists = c.args.self.now.lists.items in
    let list = read_list lists c.args.index c.index_mut.result.now c.requires.within c.index_mut.ensures.value in
    let found = c.in-Some.ensures.some in
    let was = c.requires.listed.blocked c.args.index c.args.at c.in-Some.watched found in
    let beside : Watched = record { place = c.in-Some.watched.place; other = c.args.lit } in
    listed_beside c.args.self.now _ c.args.index c.args.at c.in-Some.watched beside c.set.new.self c.requires.listed
    c.requires.within (record { clauses = refl; watches = refl }) refl
    (c.set.ensures ∙ ap (λ l. slice_set l c.args.at beside) (sym list)) found refl
    (record {
      clause = was.clause;
      found = was.found;
      among = c.requires.among c.in-Some.watched was.clause found was.found;
    })
