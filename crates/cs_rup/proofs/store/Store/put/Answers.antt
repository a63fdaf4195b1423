-- The literal's list has the clause behind the others.
use Rattle.std.proofs.Common.{◌≡◌, ◌<◌, length, rules, refl, sym, subst, ap, ◌∙◌}
use Rattle.cs_rup.specs.Stores.{place_of, ListsGrow}
use Rattle.cs_rup.proofs.Stores.{put_grows, put_has, put_same, put_blocked, listed_grown, listed_same, grow_same}
use Rattle.cs_rup.proofs.store.Store.put.Goals as goal

pub returns-in_err-push-clause-listed : goal.returns-in_err-push-clause-listed
returns-in_err-push-clause-listed c =
    let count : c.len.result ≡ length c.args.self.now.lists.items = search rules in
    listed_same c.args.self.now _ c.requires.listed (record { clauses = refl; watches = refl })
    (put_same c.args.self.now.lists.items c.place_of-index.result c.index_mut.result.now c.push.new.self
    (subst (λ n. c.place_of-index.result < n) count c.place_of-index.ensures.within) c.index_mut.ensures.value
    c.in_err-push.ensures.err)

pub returns-in_err-push-clause-grow : goal.returns-in_err-push-clause-grow
returns-in_err-push-clause-grow c =
    let count : c.len.result ≡ length c.args.self.now.lists.items = search rules in
    let lists = c.args.self.now.lists.items in
    subst (λ l. ListsGrow lists l) (sym (put_same lists c.place_of-index.result c.index_mut.result.now c.push.new.self
    (subst (λ n. c.place_of-index.result < n) count c.place_of-index.ensures.within) c.index_mut.ensures.value
    c.in_err-push.ensures.err)) (grow_same lists)

pub returns-clause-listed : goal.returns-clause-listed
returns-clause-listed c =
    let count : c.len.result ≡ length c.args.self.now.lists.items = search rules in
    let lists = c.args.self.now.lists.items in
    let within = subst (λ n. c.place_of-index.result < n) count c.place_of-index.ensures.within in
    listed_grown c.args.self.now _ c.requires.listed (record { clauses = refl; watches = refl })
    (put_grows lists c.place_of-index.result c.args.watched c.index_mut.result.now c.push.new.self within
    c.index_mut.ensures.value c.in_ok-push.ensures.ok)
    (put_blocked lists c.place_of-index.result c.args.watched c.index_mut.result.now c.push.new.self within
    c.index_mut.ensures.value c.in_ok-push.ensures.ok c.args.self.now.clauses c.requires.listed.blocked
    c.requires.blocked)

pub returns-clause-grow : goal.returns-clause-grow
returns-clause-grow c =
    let count : c.len.result ≡ length c.args.self.now.lists.items = search rules in
    put_grows c.args.self.now.lists.items c.place_of-index.result c.args.watched c.index_mut.result.now c.push.new.self
    (subst (λ n. c.place_of-index.result < n) count c.place_of-index.ensures.within) c.index_mut.ensures.value
    c.in_ok-push.ensures.ok

pub returns-clause-ok : goal.returns-clause-ok
returns-clause-ok c =
    let count : c.len.result ≡ length c.args.self.now.lists.items = search rules in
    put_has c.args.self.now.lists.items c.place_of-index.result c.args.watched c.index_mut.result.now c.push.new.self
    (subst (λ n. c.place_of-index.result < n) count c.place_of-index.ensures.within) c.index_mut.ensures.value
    c.in_ok-push.ensures.ok c.args.lit
    (sym (c.place_of-index.ensures.place ∙ ap (λ n. place_of n c.args.lit) count))
