use Rattle.std.proofs.Common.{nat_eq}
use Rattle.indexmap.specs.IndexSet.{contains}
use Rattle.cs_lower.proofs.SearchLemmas.{HasSearched, none_closed, one_closed}
use Rattle.cs_lower.proofs.rings.search_from.Goals as goal

closed : (c : goal.In_ok-insert)
    → HasSearched c.args.wires.now c.walk.new.passed (contains nat_eq c.insert.new.self) c.args.from
closed c =
    one_closed c.args.wires.now c.args.passed.now c.walk.new.passed (contains nat_eq c.args.least.now)
    (contains nat_eq c.insert.new.self) c.args.from c.in_ok-stop.stop c.len-start.result c.in-Some.bit c.requires
    c.in_ok-stop.ensures.walk c.in_ok-stop.ensures.down c.len-start.ensures c.in-Some.ensures.some
    c.in_ok-insert.ensures.updates.0

not_closed : (c : goal.In_default)
    → HasSearched c.args.wires.now c.walk.new.passed (contains nat_eq c.args.least.now) c.args.from
not_closed c =
    none_closed c.args.wires.now c.args.passed.now c.walk.new.passed (contains nat_eq c.args.least.now)
    c.args.from c.in_ok-stop.stop c.len-start.result c.requires c.in_ok-stop.ensures.walk c.in_ok-stop.ensures.down
    c.in_ok-stop.ensures.stopped c.len-start.ensures c.in_default.ensures.none

pub returns-in_ok-insert-clause-searched : goal.returns-in_ok-insert-clause-searched
returns-in_ok-insert-clause-searched c = (closed c).searched

pub returns-in_ok-insert-clause-found : goal.returns-in_ok-insert-clause-found
returns-in_ok-insert-clause-found c = (closed c).found

pub returns-in_default-clause-searched : goal.returns-in_default-clause-searched
returns-in_default-clause-searched c = (not_closed c).searched

pub returns-in_default-clause-found : goal.returns-in_default-clause-found
returns-in_default-clause-found c = (not_closed c).found
