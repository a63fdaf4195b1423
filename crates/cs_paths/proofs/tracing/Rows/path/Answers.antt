-- The row of u is that of the rows, and keeps something of v.
use Rattle.std.proofs.Common.{subst, arith}
use Rattle.cs_paths.specs.Rows.{IsRowOf}
use Rattle.cs_paths.proofs.RowLemmas.{row_kept, row_read_in}
use Rattle.cs_paths.proofs.TraceLemmas.{known_read, some_reach}
use Rattle.cs_paths.proofs.tracing.Rows.path.Goals as goal

pub edges_back-requires-clause-row : goal.edges_back-requires-clause-row
edges_back-requires-clause-row c =
    let low = c.requires.from in
    let count = c.requires.rows.counted in
    let here = row_read_in c.self.inside.rows.items c.args.self.now c.as_slice-row.result.now c.index.result.now
    c.get.result c.args.u c.self.view_is c.get.ensures (omega (arith, low, count)) c.index.ensures
    c.as_slice-row.ensures in
    subst (IsRowOf c.args.machine.now c.args.delays.now c.args.u) here
    (row_kept c.args.machine.now c.args.delays.now c.args.self.now c.args.u c.requires.rows low)

pub edges_back-requires-clause-reached : goal.edges_back-requires-clause-reached
edges_back-requires-clause-reached c =
    let low = c.requires.from in
    let count = c.requires.rows.counted in
    let here = row_read_in c.self.inside.rows.items c.args.self.now c.as_slice-row.result.now c.index.result.now
    c.get.result c.args.u c.self.view_is c.get.ensures (omega (arith, low, count)) c.index.ensures
    c.as_slice-row.ensures in
    let row = subst (IsRowOf c.args.machine.now c.args.delays.now c.args.u) here
    (row_kept c.args.machine.now c.args.delays.now c.args.self.now c.args.u c.requires.rows low) in
    let width = row.count in
    some_reach c.as_slice-row.result.now c.args.v c.get-3.result
    (known_read c.as_slice-row.result.now c.get-2.result c.args.v _ c.get-3.result c.get-2.ensures
    (omega (arith, c.requires.to, width)) c.get-3.ensures)
    c.if-is_none.ensures
