-- A clause more, which nothing watches.
use Rattle.std.proofs.Common.{◌≡◌, Some, None, refl, sym, subst}
use Rattle.std.specs.List.{slice_get}
use Rattle.cs_base.proofs.ListLemmas.{at_push_old}
use Rattle.cs_rup.proofs.Stores.{listed_next}
use Rattle.cs_rup.proofs.store.Store.add.Goals as goal

pub returns-clause-listed : goal.returns-clause-listed
returns-clause-listed c =
    listed_next c.args.self.now _ c.args.clause c.requires c.in_ok-push-2.ensures.ok c.in_ok-push.ensures.items refl

pub returns-clause-kept : goal.returns-clause-kept
returns-clause-kept c place watch found =
    subst (λ ws. slice_get ws place ≡ Some (Some watch)) (sym c.in_ok-push.ensures.items)
    (at_push_old c.args.self.now.watches.items None place (Some watch) found)
