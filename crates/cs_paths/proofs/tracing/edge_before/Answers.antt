-- Where v isn't u, an edge attains.
use Rattle.std.proofs.Common.{◌≡◌, ◌∙◌, sym, arith}
use Rattle.std.specs.Prelude.{Some}
use Rattle.cs_paths.specs.Reaches.{known_at}
use Rattle.cs_paths.proofs.TraceLemmas.{known_read, last_exists, if_none_then}
use Rattle.cs_paths.proofs.tracing.edge_before.Goals as goal

pub returns-clause-none : goal.returns-clause-none
returns-clause-none c =
    let row = c.args.row.now in
    let known : known_at row c.args.v ≡ Some c.in_ok-at.at =
    known_read row c.get-3.result c.args.v _ (Some c.in_ok-at.at) c.get-3.ensures
    (omega (arith, c.requires.vertex, c.requires.row.count)) (sym c.in_ok-at.was ∙ c.get-4.ensures) in
    let found = last_exists c.args.machine.now c.args.delays.now c.keeps.ensures.well_formed c.args.u row
    c.requires.row c.args.v c.in_ok-at.at c.requires.vertex known
    (λ same. c.if-get.false (c.get.ensures ∙ same ∙ sym c.get-2.ensures)) in
    if_none_then c.last_edge.result _ _ (λ none. absurd (none found.0 found.1)) c.last_edge.ensures.none
