-- The ports and the cells of a netlist, as they are pushed.
use Rattle.std.proofs.Common.{◌≡◌, ◌⊎◌, inl, inr, ℕ, ◌+◌, List, [], ◌∷◌, ◌++◌, length, map, Option, append-nil, refl, sym, ap, ap₂, ◌∙◌, arith}
use Rattle.std.specs.List.{enumerate_from}
use Rattle.cs_base.specs.declared.signal.Signal.{Signal}
use Rattle.cs_cells.specs.declared.memory.MemShape.{MemShape}
use Rattle.cs_graph.specs.declared.vertex.VertexKind.TheVariants.{Host, Input, Output}
use Rattle.cs_net.specs.declared.netlist.Cell.{Cell}
use Rattle.cs_net.specs.Drivers.{data_inputs, data_outputs}
use Rattle.cs_net.specs.Netlist.{Net}
use Rattle.cs_lower.specs.declared.taps.Parts.{Parts}
use Rattle.cs_lower.specs.declared.taps.Piece.{Piece}
use Rattle.cs_lower.specs.declared.taps.Tap.TheVariants.{Signal as of_signal}
use Rattle.cs_lower.specs.declared.taps.Wire.TheVariants.{Vertex as from_vertex}
use Rattle.cs_lower.specs.Taps.{both, in_turn, no_parts, piece, with_pieces}
use Rattle.cs_lower.specs.Wires.{input_part, input_parts, output_parts, port_parts}
use Rattle.cs_lower.proofs.PlacedCells.{placed_from}
use Rattle.cs_lower.proofs.PushedParts.{both_none}

-- ---- ports

inputs_in_turn : (n : ℕ) (signals : List Signal) → in_turn input_part n signals
    ≡ record { pieces = map (λ s. piece Input []) signals; wires = map (λ e. (e.1, from_vertex e.0 0)) (enumerate_from n signals) }
inputs_in_turn n [] = refl
inputs_in_turn n (s ∷ signals) = ap (both (input_part n s)) (inputs_in_turn (n + 1) signals)

-- the host and these inputs
abbrev inputs_of : List Signal → Parts
inputs_of signals = record {
  pieces = piece Host [] ∷ map (λ s. piece Input []) signals;
  wires = map (λ e. (e.1, from_vertex e.0 0)) (enumerate_from 1 signals);
}

abbrev outputs_of : List Signal → List Piece
outputs_of signals = map (λ s. piece Output (of_signal s ∷ [])) signals

-- the host, the inputs and the outputs, pushed one after another
pub ports_are : (net : Net) (inputs outputs : List Signal) (none host all whole : Parts) → inputs ≡ data_inputs net
    → outputs ≡ data_outputs net → none ≡ no_parts → host ≡ with_pieces none (piece Host [] ∷ [])
    → all ≡ both host (in_turn input_part (length host.pieces) inputs) → whole ≡ with_pieces all (outputs_of outputs)
    → whole ≡ port_parts net
ports_are net inputs outputs none host all whole is_in is_out is_none is_host is_all is_whole =
    let start : Parts = record { pieces = piece Host [] ∷ []; wires = [] } in
    let first : host ≡ start = is_host ∙ ap (λ p. with_pieces p (piece Host [] ∷ [])) is_none in
    let driven : all ≡ inputs_of inputs =
    is_all ∙ ap (λ (p : Parts). both p (in_turn input_part (length p.pieces) inputs)) first
    ∙ ap (both start) (inputs_in_turn 1 inputs) in
    is_whole
    ∙ ap₂ (λ p signals. with_pieces p (outputs_of signals)) (driven ∙ ap inputs_of is_in) is_out
    ∙ ap (λ wires. let p : Parts = record { pieces = (input_parts net).pieces ++ (output_parts net).pieces; wires = wires } in p)
    (sym (append-nil (input_parts net).wires))

-- ---- cells

-- no cell is left where either list has ended
pub none_placed : (k : ℕ) (cells : List Cell) (shapes : List (Option MemShape)) → (length cells ≡ 0) ⊎ (length shapes ≡ 0)
    → placed_from k cells shapes ≡ []
none_placed k [] shapes ended = refl
none_placed k (c ∷ cells) [] ended = refl
none_placed k (c ∷ cells) (s ∷ shapes) (inl ended) = absurd (omega (arith, ended))
none_placed k (c ∷ cells) (s ∷ shapes) (inr ended) = absurd (omega (arith, ended))

-- past the last all parts are pushed
pub all_pushed : {A : Type 0} (f : ℕ → A → Parts) (left : List A) (parts whole : Parts) → left ≡ []
    → both parts (in_turn f (length parts.pieces) left) ≡ whole → parts ≡ whole
all_pushed f left parts whole none so_far =
    sym (both_none parts) ∙ ap (λ xs. both parts (in_turn f (length parts.pieces) xs)) (sym none) ∙ so_far
