-- A literal that watches the clause has it in its list.
use Rattle.std.proofs.Common.{◌≡◌, Some, length, refl, sym, subst, ap, ◌∙◌}
use Rattle.std.specs.List.{slice_get}
use Rattle.std.proofs.lemmas.Option.{slice_get_read}
use Rattle.cs_rup.specs.Watchers.{HasPlace}
use Rattle.cs_rup.specs.Stores.{list_of}
use Rattle.cs_rup.proofs.Settings.{same_is}
use Rattle.cs_rup.proofs.store.Store.put_new.Goals as goal

pub returns-then-is_same-clause-ok : goal.returns-then-is_same-clause-ok
returns-then-is_same-clause-ok c =
    let watches = c.args.self.now.watches.items in
    let place = c.args.watched.place in
    let found : slice_get watches place ≡ Some (Some c.in-Some.watch) =
    slice_get_read watches (length watches) place c.index.result.now refl c.requires.within c.index.ensures
    ∙ ap Some c.in-Some.is in
    subst (λ l. HasPlace (list_of c.args.self.now.lists.items l) place)
    (same_is c.in-Some.watch.one.lit c.args.lit (sym c.is_same.ensures ∙ c.if-is_same.true))
    (c.requires.listed.each place c.in-Some.watch found).0

pub returns-then-is_same-2-clause-ok : goal.returns-then-is_same-2-clause-ok
returns-then-is_same-2-clause-ok c =
    let watches = c.args.self.now.watches.items in
    let place = c.args.watched.place in
    let found : slice_get watches place ≡ Some (Some c.in-Some.watch) =
    slice_get_read watches (length watches) place c.index.result.now refl c.requires.within c.index.ensures
    ∙ ap Some c.in-Some.is in
    subst (λ l. HasPlace (list_of c.args.self.now.lists.items l) place)
    (same_is c.in-Some.watch.other.lit c.args.lit (sym c.is_same-in-Some.ensures ∙ c.if-is_same-2.true))
    (c.requires.listed.each place c.in-Some.watch found).1
