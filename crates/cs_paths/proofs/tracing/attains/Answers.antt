-- The delays are compared.
use Rattle.std.proofs.Common.{◌≡◌, ℕ, sym, ap, ◌∙◌, arith}
use Rattle.std.specs.Prelude.{Some}
use Rattle.cs_paths.specs.Reaches.{known_at}
use Rattle.cs_paths.specs.Traces.{Attains}
use Rattle.cs_paths.proofs.StepLemmas.{edge_from}
use Rattle.cs_paths.proofs.TraceLemmas.{known_read, pin_delay_is, on_equal, on_apart, attains_also, attains_when}
use Rattle.cs_paths.proofs.tracing.attains.Goals as goal

pub returns-then-from-clause-yes : goal.returns-then-from-clause-yes
returns-then-from-clause-yes c =
    let g = c.args.machine.now in
    let delays = c.args.delays.now in
    let row = c.args.row.now in
    let d = c.edge-edge.result.now in
    let low = edge_from g delays c.keeps.ensures c.requires.delays c.args.e d c.edge-edge.ensures in
    let known : known_at row d.from ≡ Some (c.in-Some.weight, c.in-Some.delay) =
    known_read row c.get.result d.from _ (Some (c.in-Some.weight, c.in-Some.delay)) c.get.ensures
    (omega (arith, low, c.requires.row)) (sym c.in-Some.is ∙ c.get-2.ensures) in
    let pin = pin_delay_is delays d.to d.pin c.of_pins.result.now c.of_pins.ensures in
    on_equal _ _ (Attains g delays row c.args.at c.args.e) (λ same.
    attains_when g delays row c.args.at c.args.e d (c.in-Some.weight, c.in-Some.delay) c.edge-edge.ensures known
    (omega (arith, c.from.ensures, c.from-2.ensures, c.from-3.ensures, c.if-from.true))
    (omega (arith, c.from-then-from.ensures, c.from-then-from-2.ensures, c.from-then-from-3.ensures, same, pin)))

pub returns-then-from-clause-no : goal.returns-then-from-clause-no
returns-then-from-clause-no c =
    let g = c.args.machine.now in
    let delays = c.args.delays.now in
    let row = c.args.row.now in
    let d = c.edge-edge.result.now in
    let low = edge_from g delays c.keeps.ensures c.requires.delays c.args.e d c.edge-edge.ensures in
    let known : known_at row d.from ≡ Some (c.in-Some.weight, c.in-Some.delay) =
    known_read row c.get.result d.from _ (Some (c.in-Some.weight, c.in-Some.delay)) c.get.ensures
    (omega (arith, low, c.requires.row)) (sym c.in-Some.is ∙ c.get-2.ensures) in
    let pin = pin_delay_is delays d.to d.pin c.of_pins.result.now c.of_pins.ensures in
    on_apart _ _ (Attains g delays row c.args.at c.args.e → ⊥) (λ away has.
    let is = ap (λ (a : ℕ × ℕ). a.1)
    (attains_also g delays row c.args.at c.args.e d (c.in-Some.weight, c.in-Some.delay) c.edge-edge.ensures known has) in
    away (omega (arith, c.from-then-from.ensures, c.from-then-from-2.ensures, c.from-then-from-3.ensures, is, pin)))
