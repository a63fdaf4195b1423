-- The vertices of cells, as they are pushed.
use Rattle.std.proofs.Common.{◌≡◌, ℕ, Bool, Option, Some, None, codes, refl, ap, ◌∙◌, false}
use Rattle.cs_base.specs.declared.signal.Signal.{Signal}
use Rattle.cs_cells.specs.declared.memory.MemShape.{MemShape}
use Rattle.cs_cells.specs.declared.memory.ReadShape.{ReadShape}
use Rattle.cs_cells.specs.declared.register.FfKind.{FfKind}
use Rattle.cs_cells.specs.declared.register.ResetKind.{ResetKind}
use Rattle.cs_net.specs.declared.netlist.Cell.{Cell}
use Rattle.cs_net.specs.Drivers.{Source, StateElement, from_signal, from_word, read_word_bit, signal_of}
use Rattle.cs_net.specs.Netlist.{Net}
use Rattle.cs_lower.specs.declared.registers.RegisterPins.{RegisterPins}
use Rattle.cs_lower.specs.declared.taps.Parts.{Parts}
use Rattle.cs_lower.specs.declared.taps.Tap.{Tap}
use Rattle.cs_lower.specs.declared.taps.Tap.TheVariants.{Signal as of_signal, Vertex as of_vertex}
use Rattle.cs_lower.specs.Cells.{Datum, held_parts, read_pins, register_cell_parts}
use Rattle.cs_lower.specs.Registers.{element_of, register_parts, signal_for}

-- a register of this kind, with these signals at E and at R
abbrev element : FfKind → Source → Signal → Signal → StateElement
element kind source e r = record { kind = kind; source = source; enable = e; reset = r }

-- what stands at E where there is no enable, or at R where there is no reset, changes nothing
unread : (net : Net) (n : ℕ) (q : Signal × Bool) (kind : FfKind) (source : Source) (e r : Signal) (d : Tap)
    → register_parts net n q (element kind source (signal_for kind.enable e) (signal_for kind.reset r)) d
    ≡ register_parts net n q (element kind source e r) d
unread net n q kind source e r d = by kind.enable kind.reset
  where
    by : (enable : Option Bool) (reset : Option ResetKind)
        → (let k : FfKind = record kind { enable = enable; reset = reset } in
        register_parts net n q (element k source (signal_for enable e) (signal_for reset r)) d
        ≡ register_parts net n q (element k source e r) d)
    by None None = refl
    by None (Some reset) = refl
    by (Some high) None = refl
    by (Some high) (Some reset) = refl

-- a cell that is a register, by the signals of its pins
pub register_cell_is : (net : Net) (n : ℕ) (cell : Cell) (kind : FfKind) (q e r d : Signal)
    → q ≡ signal_of cell (codes "Q") → e ≡ signal_for kind.enable (signal_of cell (codes "E"))
    → r ≡ signal_for kind.reset (signal_of cell (codes "R")) → d ≡ signal_of cell (codes "D")
    → (let pins : RegisterPins = record { kind = kind; q = q; start = false; enable = e; reset = r } in
    register_parts net n (q, false) (element_of (from_signal (signal_of cell (codes "D"))) pins) (of_signal d))
    ≡ register_cell_parts net n cell kind
register_cell_is net n cell kind q e r d qs es rs ds =
    let parts : Signal → Signal → Signal → Signal → Parts = λ a b c f.
    let pins : RegisterPins = record { kind = kind; q = a; start = false; enable = b; reset = c } in
    register_parts net n (a, false) (element_of (from_signal (signal_of cell (codes "D"))) pins) (of_signal f) in
    let at_e = signal_of cell (codes "E") in let at_r = signal_of cell (codes "R") in
    ap (λ x. parts x e r d) qs ∙ ap (λ x. parts (signal_of cell (codes "Q")) x r d) es
    ∙ ap (λ x. parts (signal_of cell (codes "Q")) (signal_for kind.enable at_e) x d) rs
    ∙ ap (λ x. parts (signal_of cell (codes "Q")) (signal_for kind.enable at_e) (signal_for kind.reset at_r) x) ds
    ∙ unread net n (signal_of cell (codes "Q"), false) kind (from_signal (signal_of cell (codes "D"))) at_e at_r
    (of_signal (signal_of cell (codes "D")))

-- the register of a data bit, by its pins
pub held_is : (net : Net) (n : ℕ) (cell : Cell) (shape : MemShape) (read : ℕ × ReadShape) (v : ℕ) (e : Datum) (pins : RegisterPins)
    → pins ≡ read_pins cell read e
    → register_parts net n (pins.q, pins.start) (element_of (from_word (read_word_bit cell shape read.0 e.0)) pins) (of_vertex v e.0)
    ≡ held_parts net cell shape read v n e
held_is net n cell shape read v e pins is =
    ap (λ (p : RegisterPins). register_parts net n (p.q, p.start) (element_of (from_word (read_word_bit cell shape read.0 e.0)) p) (of_vertex v e.0)) is
