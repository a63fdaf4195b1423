-- A constraint of the system is among its vertices.
use Rattle.std.proofs.Common.{◌<◌, List, length, sym, ap, ◌∙◌, arith}
use Rattle.std.specs.Prelude.{slice_get}
use Rattle.std.proofs.lemmas.Option.{slice_get-get_or}
use Rattle.cs_diff.specs.declared.system.Constraint.{Constraint}
use Rattle.cs_diff.proofs.system.System.at.Goals as goal

pub returns-clause-among : goal.returns-clause-among
returns-clause-among c =
    let items = c.as_slice.result.now in
    let within : c.args.place < length items = omega
    (arith, c.requires, ap length c.as_slice.ensures) in
    c.args.self.now.in_range c.args.place _
    (ap (λ (xs : List Constraint). slice_get xs c.args.place) (sym c.as_slice.ensures) ∙
    slice_get-get_or items c.args.place _ within)
