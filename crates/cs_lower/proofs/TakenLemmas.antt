-- What a register of a netlist takes is its next value, where each gate among the vertices shows what its pins give.
use Rattle.std.specs.Prelude.{if◌then◌else◌}
use Rattle.std.proofs.Common.{◌≡◌, ℕ, ◌+◌, Bool, true, false, List, [], ◌∷◌, map, Option, Some, None, refl, ap, ◌∙◌}
use Rattle.std.specs.List.{AllByRecursion}
use Rattle.cs_base.specs.declared.signal.Signal.{Signal}
use Rattle.cs_cells.specs.declared.gate.Kind.{Kind}
use Rattle.cs_cells.specs.declared.gate.Kind.TheVariants.{Mux}
use Rattle.cs_cells.specs.declared.register.ResetKind.{ResetKind}
use Rattle.cs_cells.specs.Gates.{gate_value}
use Rattle.cs_cells.specs.Registers.{next_value}
use Rattle.cs_graph.specs.declared.vertex.VertexKind.TheVariants.{Gate}
use Rattle.cs_net.specs.Drivers.{StateElement}
use Rattle.cs_net.specs.Netlist.{Net}
use Rattle.cs_net.proofs.Members.{append_all, of_all}
use Rattle.cs_lower.specs.Matching.{IsVertex, TakesFrom}
use Rattle.cs_lower.specs.Registers.{Chain, always, held_tap, mux, never, register_chain, still, with_enable, with_piece, with_reset}
use Rattle.cs_lower.specs.declared.taps.Tap.{Tap}
use Rattle.cs_lower.specs.declared.taps.Tap.TheVariants.{Constant as of_bit, Signal as of_signal, Vertex as of_vertex}
use Rattle.cs_lower.specs.Wires.{parts_of}
use Rattle.cs_lower.proofs.ChainLemmas.{ShowsChain, ShowsConstants, chain_value}
use Rattle.cs_lower.proofs.StandLemmas.{stand_at}

-- each gate among the vertices shows what its pins give
abbrev pub ShowsGates : Net → (Tap → Bool) → Type 0
ShowsGates net tap =
    (v : ℕ) (kind : Kind) (pins : List Tap) → IsVertex net v (Gate kind) pins
    → tap (of_vertex v 0) ≡ gate_value kind (map tap pins)

-- ---- a chain is of multiplexers, from its first number on

pub record IsOfMuxes (n : ℕ) (c : Chain) : Type 0 where
  pub first : c.first ≡ n
  pub muxes : AllByRecursion (λ p. p.kind ≡ Gate Mux) c.pieces

one_more : (n : ℕ) (c : Chain) (high : Bool) (off on : Tap) (select : Signal) → IsOfMuxes n c
    → IsOfMuxes n (with_piece c (mux high off on select))
one_more n c high off on select is = record {
  first = is.first;
  muxes = append_all (λ p. p.kind ≡ Gate Mux) c.pieces (mux high off on select ∷ []) is.muxes (refl, tt);
}

enable_muxes : (net : Net) (n : ℕ) (held : Tap) (enable : Option Bool) (e : Signal) (c : Chain) → IsOfMuxes n c
    → IsOfMuxes n (with_enable net held enable e c)
enable_muxes net n held None e c is = is
enable_muxes net n held (Some high) e c is = by (always high (still net e))
  where
    by : (out : Bool) → IsOfMuxes n (if out then c else with_piece c (mux high held c.last e))
    by true = is
    by false = one_more n c high held c.last e is

reset_muxes : (net : Net) (n : ℕ) (reset : Option ResetKind) (r : Signal) (c : Chain) → IsOfMuxes n c
    → IsOfMuxes n (with_reset net reset r c)
reset_muxes net n None r c is = is
reset_muxes net n (Some reset) r c is = by (never reset.high (still net r))
  where
    by : (out : Bool) → IsOfMuxes n (if out then c else with_piece c (mux reset.high c.last (of_bit reset.value) r))
    by true = is
    by false = one_more n c reset.high c.last (of_bit reset.value) r is

pub chain_muxes : (net : Net) (n : ℕ) (q : Signal × Bool) (r : StateElement) (d : Tap)
    → IsOfMuxes n (register_chain net n q r d)
chain_muxes net n q r d = by r.kind.enable_over_reset
  where
    at_d : Chain
    at_d = record {
      first = n;
      pieces = [];
      last = d;
    }

    none : IsOfMuxes n at_d
    none = record { first = refl; muxes = tt }

    by : (over : Bool) → IsOfMuxes n (if over
        then with_enable net (held_tap net n q r) r.kind.enable r.enable (with_reset net r.kind.reset r.reset at_d)
        else with_reset net r.kind.reset r.reset (with_enable net (held_tap net n q r) r.kind.enable r.enable at_d))
    by true = enable_muxes net n (held_tap net n q r) r.kind.enable r.enable (with_reset net r.kind.reset r.reset at_d)
        (reset_muxes net n r.kind.reset r.reset at_d none)
    by false = reset_muxes net n r.kind.reset r.reset (with_enable net (held_tap net n q r) r.kind.enable r.enable at_d)
        (enable_muxes net n (held_tap net n q r) r.kind.enable r.enable at_d none)

-- ---- where the chain stands

chain_shows : (net : Net) (tap : Tap → Bool) → ShowsGates net tap → (q : Signal × Bool) (r : StateElement) (taken : Tap)
    → (from : TakesFrom net q r taken) → ShowsChain tap (register_chain net from.first q r from.d)
chain_shows net tap gates q r taken from i p stands =
    let c : Chain = register_chain net from.first q r from.d in
    let is : IsOfMuxes from.first c = chain_muxes net from.first q r from.d in
    let vertex : IsVertex net (from.first + i) (Gate Mux) p.pins = record {
      vertex = p;
      stands = stand_at (parts_of net).pieces from.first c.pieces from.stand i p stands;
      kind_is = of_all (λ p. p.kind ≡ Gate Mux) c.pieces i p is.muxes stands;
      pins_are = refl;
    } in
    ap (λ first. tap (of_vertex (first + i) 0)) is.first ∙ gates (from.first + i) Mux p.pins vertex

-- what a register takes is what it holds next
pub taken_value : (net : Net) (tap : Tap → Bool) → ShowsConstants net tap → ShowsGates net tap → (q : Signal × Bool)
    (r : StateElement) (taken : Tap) → (from : TakesFrom net q r taken)
    → tap taken
    ≡ next_value r.kind (tap from.d) (tap (held_tap net from.first q r)) (tap (of_signal r.enable)) (tap (of_signal r.reset))
taken_value net tap constants gates q r taken from =
    ap tap from.last
    ∙ chain_value net tap constants from.first q r from.d (chain_shows net tap gates q r taken from)
