-- The port's memory is changed.
use Rattle.std.proofs.Common.{◌∙◌, ◌<◌, ap, arith, length, subst, sym}
use Rattle.std.specs.Prelude.{slice_set}
use Rattle.std.proofs.lemmas.Result.{on_ok_weaker}
use Rattle.cs_share.specs.Planned.{HasPort, add_port, changed_at, with_read, with_write}
use Rattle.cs_share.proofs.PortLemmas.{changed_set}
use Rattle.cs_share.proofs.memories.push_port.Goals as goal

pub returns-in-Read : goal.returns-in-Read
returns-in-Read c =
    let parts = c.args.parts.now.items in
    let numbers = c.args.numbers.now in
    let signals = c.args.signals.now in
    let x = c.args.vertex.now in
    let f = with_read numbers signals c.args.v x in
    let among : c.in-Read.memory < length parts = subst (HasPort (length parts)) c.in-Read.is c.requires in
    let place = c.get.ensures in
    on_ok_weaker c.push_read.result (λ pushed. ap (slice_set parts c.get.result) pushed
    ∙ changed_set f parts c.get.result c.index_mut.result.now (omega (arith, among, place)) c.index_mut.ensures.value
    ∙ ap (changed_at f parts) place
    ∙ ap (λ kind. add_port numbers signals c.args.v x kind parts) (sym c.in-Read.is))
    c.push_read.ensures

pub returns-in-Write : goal.returns-in-Write
returns-in-Write c =
    let parts = c.args.parts.now.items in
    let numbers = c.args.numbers.now in
    let signals = c.args.signals.now in
    let x = c.args.vertex.now in
    let f = with_write signals x in
    let among : c.in-Write.memory < length parts = subst (HasPort (length parts)) c.in-Write.is c.requires in
    let place = c.get-in-Write.ensures in
    on_ok_weaker c.push_write.result (λ pushed. ap (slice_set parts c.get-in-Write.result) pushed
    ∙ changed_set f parts c.get-in-Write.result c.index_mut-in-Write.result.now (omega (arith, among, place))
    c.index_mut-in-Write.ensures.value
    ∙ ap (changed_at f parts) place
    ∙ ap (λ kind. add_port numbers signals c.args.v x kind parts) (sym c.in-Write.is))
    c.push_write.ensures
