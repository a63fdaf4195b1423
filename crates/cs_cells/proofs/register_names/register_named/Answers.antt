use Rattle.std.proofs.Common.{◌∙◌}
use Rattle.cs_cells.specs.declared.register.FfKind.{FfKind}
use Rattle.cs_cells.specs.declared.register_names.Row.{Row}
use Rattle.cs_cells.specs.Registers.{register_name}
use Rattle.cs_cells.proofs.Tables.{kind_of_row}
use Rattle.cs_cells.proofs.register_names.register_named.Goals as goal

abbrev kind_of : Row → FfKind
kind_of row = record { rising = row.1; reset = row.2; enable = row.3; enable_over_reset = row.4 }

pub returns : goal.returns
returns c =
    c.row_named.ensures
    ∙ kind_of_row kind_of (λ row. row.0.now) register_name c.args.name.now c.args.rows.now c.requires
