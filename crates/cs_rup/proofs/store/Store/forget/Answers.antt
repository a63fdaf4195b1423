-- No literal of the list watches the clause that is taken out of it.
use Rattle.std.proofs.Common.{refl, sym, subst}
use Rattle.cs_rup.specs.Watchers.{IsWithout}
use Rattle.cs_rup.proofs.Stores.{read_list, listed_without}
use Rattle.cs_rup.proofs.store.Store.forget.Goals as goal

pub returns-clause-listed : goal.returns-clause-listed
returns-clause-listed c =
    let lists = c.args.self.now.lists.items in
    let list = read_list lists c.args.index c.index_mut.result.now c.requires.within c.index_mut.ensures.value in
    listed_without c.args.self.now _ c.args.index c.args.at c.in-Some.watched c.take_out.new.self c.requires.listed
    c.requires.within (record { clauses = refl; watches = refl }) refl
    (subst (λ l. IsWithout l c.take_out.new.self c.args.at) (sym list) c.take_out.ensures) c.in-Some.ensures.some
    (λ watch is has. let yes = c.has_list.ensures watch is has in let no = c.if-has_list.false in cc)
