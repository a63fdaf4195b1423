use Rattle.std.proofs.Common.{◌∙◌}
use Rattle.cs_cells.specs.Gates.{row_of}
use Rattle.cs_cells.proofs.Tables.{kind_of_row}
use Rattle.cs_cells.proofs.gate.gate_named.Goals as goal

pub returns : goal.returns
returns c =
    c.row_named.ensures
    ∙ kind_of_row (λ row. row.0) (λ row. row.1.now) (λ kind. (row_of kind).name) c.args.name.now c.args.rows.now c.requires
