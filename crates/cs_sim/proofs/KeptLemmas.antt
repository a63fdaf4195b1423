-- The bits that registers and clocked reads drive, and how often each stands among them.
use Rattle.std.proofs.Common.{◌≡◌, ◌∙◌, ℕ, zero, suc, ◌+◌, ◌≤◌, List, [], ◌∷◌, ◌++◌, append-nil, map, Bool, true, false, ◌&&◌, cond, Some, None, refl, sym, ap, ap₂, arith, codes}
use Rattle.std.specs.Prelude.{find, flat_map, if◌then◌else◌, slice_get}
use Rattle.std.specs.List.{enumerate_from}
use Rattle.std.proofs.Math.Bool.{and-false}
use Rattle.std.proofs.lemmas.Grind.{flat_map-append}
use Rattle.std.proofs.lemmas.List.{map-append}
use Rattle.cs_base.specs.declared.signal.Signal.{Signal}
use Rattle.cs_cells.specs.declared.memory.MemShape.{MemShape}
use Rattle.cs_cells.specs.declared.memory.ReadShape.{ReadShape}
use Rattle.cs_net.specs.declared.netlist.Cell.{Cell}
use Rattle.cs_modules.specs.Signals.{is_bit}
use Rattle.cs_net.specs.Drivers.{DrivenSignal, Driver, undriven, input, gate, word_bit, register, data_inputs, drivers, read_data, read_element, read_word_bit, signal_of}
use Rattle.cs_net.specs.Invariant.{IsWellFormed}
use Rattle.cs_net.specs.Netlist.{Net}
use Rattle.cs_net.proofs.DrivenOnce.{driven_once}
use Rattle.cs_net.proofs.Occurrences.{count_of, count_of-append, count_of-map, one_if}
use Rattle.cs_sim.specs.declared.layout.Layout.{Layout}
use Rattle.cs_sim.specs.declared.layout.ReadPortSlots.{ReadPortSlots}
use Rattle.cs_sim.specs.declared.layout.RegisterSlots.{RegisterSlots}
use Rattle.cs_sim.specs.Layout.{driven_signals, layout_of, read_bit_of, read_port_slots}
use Rattle.cs_sim.proofs.LayoutLemmas.{laid_out}
use Rattle.cs_sim.proofs.PieceLemmas.{drivers_by_pieces}
use Rattle.cs_sim.proofs.Pieces.{Piece, drives, gate_piece, inputs_piece, pieces, ports_of, read_piece, register_piece, registers_of}

-- ---- counts

none_pass : {A : Type 0} (test : A → Bool) (xs : List A) → ((i : ℕ) (x : A) → slice_get xs i ≡ Some x → test x ≡ true → ⊥) → count_of test xs ≡ 0
none_pass test [] none = refl
none_pass test (x ∷ xs) none = by (test x) refl (none_pass test xs (λ i. none (suc i)))
  where
    by : (t : Bool) → test x ≡ t → count_of test xs ≡ 0 → one_if (test x) + count_of test xs ≡ 0
    by true is rest = absurd (none 0 x refl is)
    by false is rest = omega (arith, rest, ap one_if is)

-- where all that pass stand at one place, at most one does
at_most_one : {A : Type 0} (test : A → Bool) (xs : List A)
    → ((i j : ℕ) (x y : A) → slice_get xs i ≡ Some x → slice_get xs j ≡ Some y → test x ≡ true → test y ≡ true → i ≡ j) → count_of test xs ≤ 1
at_most_one test [] once = omega arith
at_most_one test (x ∷ xs) once = by (test x) refl (at_most_one test xs (λ i j y z at_i at_j first second. fewer i j (once (suc i) (suc j) y z at_i at_j first second)))
  where
    fewer : (i j : ℕ) → suc i ≡ suc j → i ≡ j
    fewer i j same = omega (arith, same)

    apart : (i : ℕ) → 0 ≡ suc i → ⊥
    apart i same = absurd (omega (arith, same))

    by : (t : Bool) → test x ≡ t → count_of test xs ≤ 1 → one_if (test x) + count_of test xs ≤ 1
    by true is rest =
        let none = none_pass test xs (λ i y at passes. apart i (once 0 (suc i) x y refl at is passes)) in
        omega (arith, none, ap one_if is)
    by false is rest = omega (arith, rest, ap one_if is)

one_of_both : (p q : Bool) → one_if (p && q) ≤ one_if p
one_of_both true true = omega arith
one_of_both true false = omega arith
one_of_both false q = omega arith

-- two tests pass no more often than one
pub both_within : {A : Type 0} (p q : A → Bool) (xs : List A) → count_of (λ x. p x && q x) xs ≤ count_of p xs
both_within p q [] = omega arith
both_within p q (x ∷ xs) = omega (arith, one_of_both (p x) (q x), both_within p q xs)

-- and less often where an element passes the first alone
pub both_fewer : {A : Type 0} (p q : A → Bool) (xs : List A) (i : ℕ) (x : A) → slice_get xs i ≡ Some x → p x ≡ true → q x ≡ false
    → count_of (λ x. p x && q x) xs + 1 ≤ count_of p xs
both_fewer p q [] i x at first second = absurd (cc)
both_fewer p q (y ∷ xs) zero x at first second =
    let same : y ≡ x = cc in
    let one : one_if (p y) ≡ 1 = ap (λ z. one_if (p z)) same ∙ ap one_if first in
    let none : one_if (p y && q y) ≡ 0 = ap₂ (λ s t. one_if (s && t)) (ap p same ∙ first) (ap q same ∙ second) in
    omega (arith, one, none, both_within p q xs)
both_fewer p q (y ∷ xs) (suc i) x at first second =
    omega (arith, one_of_both (p y) (q y), both_fewer p q xs i x at first second)

pub none_found : {A : Type 0} (test : A → Bool) (xs : List A) → find test xs ≡ None → count_of test xs ≡ 0
none_found test [] h = refl
none_found test (x ∷ xs) h =
    elim (test x) as (λ t. cond t (Some x) (find test xs) ≡ None → one_if t + count_of test xs ≡ 0) [
      | true ↦ λ is. absurd (cc)
      | false ↦ λ is. let rest = none_found test xs is in omega (arith, rest)
    ] h

none_at_all : {A : Type 0} (test : A → Bool) (xs : List A) → count_of (λ x. test x && false) xs ≡ 0
none_at_all test [] = refl
none_at_all test (x ∷ xs) = omega (arith, ap one_if (and-false (test x)), none_at_all test xs)

-- ---- what holds a value

abbrev pub is_register : Driver → Bool
is_register undriven = false
is_register (input i) = false
is_register (gate kind pins) = false
is_register (word_bit w) = false
is_register (register r) = true

-- a register or a clocked read drives the bit
abbrev pub is_kept : ℕ → DrivenSignal → Bool
is_kept b d = is_bit b d.0 && is_register d.1

abbrev pub register_outputs : List RegisterSlots → List Signal
register_outputs rs = map (λ r. r.output) rs

abbrev pub port_outputs : ReadPortSlots → List Signal
port_outputs p = map (λ b. b.output) p.bits

-- the signals whose values are held, in order
abbrev pub held_signals : Layout → List Signal
held_signals l = register_outputs l.registers ++ flat_map port_outputs l.read_ports

count_of-same : {A : Type 0} (test other : A → Bool) (xs : List A) → ((x : A) → test x ≡ other x) → count_of test xs ≡ count_of other xs
count_of-same test other [] same = refl
count_of-same test other (x ∷ xs) same =
    let here : one_if (test x) ≡ one_if (other x) = ap one_if (same x) in
    let rest = count_of-same test other xs same in
    omega arith

and_true : (t : Bool) → t ≡ t && true
and_true true = refl
and_true false = refl

module _ (net : Net) (b : ℕ) where
  abbrev kept_in : List RegisterSlots → List ReadPortSlots → ℕ
  kept_in rs ps = count_of (is_bit b) (register_outputs rs) + count_of (is_bit b) (flat_map port_outputs ps)

  kept_in_inputs : (k : ℕ) (signals : List Signal) → 0 + 0 ≡ count_of (is_kept b) (map (λ e. (e.1, input e.0)) (enumerate_from k signals))
  kept_in_inputs k [] = omega arith
  kept_in_inputs k (s ∷ signals) = let rest = kept_in_inputs (k + 1) signals in omega (arith, rest, ap one_if (and-false (is_bit b s)))

  kept_in_read : (m : ℕ) (cell : Cell) (shape : MemShape) (port : ℕ) (read : ReadShape)
      → kept_in [] (ports_of net (read_piece m cell shape port read)) ≡ count_of (is_kept b) (drives net (read_piece m cell shape port read))
  kept_in_read m cell shape port read =
      elim (read.clocked) as (λ t. kept_in [] (if t then slots ∷ [] else []) ≡ count_of (is_kept b) (map (driven t) wires)) [
        | true ↦
            let here : count_of (is_bit b) (flat_map port_outputs (slots ∷ [])) ≡ count_of (λ (e : ℕ × Signal). is_bit b e.1) wires =
            ap (count_of (is_bit b)) (append-nil (port_outputs slots))
            ∙ count_of-map (is_bit b) (λ r. r.output) (map (read_bit_of read) wires)
            ∙ count_of-map (λ r. is_bit b r.output) (read_bit_of read) wires in
            let there : count_of (λ (e : ℕ × Signal). is_bit b e.1) wires ≡ count_of (is_kept b) (map (driven true) wires) =
            count_of-same (λ (e : ℕ × Signal). is_bit b e.1) (λ e. is_bit b e.1 && true) wires (λ e. and_true (is_bit b e.1))
            ∙ sym (count_of-map (is_kept b) (driven true) wires) in
            omega (arith, here, there)
        | false ↦
            let there : count_of (is_kept b) (map (driven false) wires) ≡ 0 =
            count_of-map (is_kept b) (driven false) wires ∙ none_at_all (λ (e : ℕ × Signal). is_bit b e.1) wires in
            omega (arith, there)
      ]
    where
      wires : List (ℕ × Signal)
      wires = read_data cell shape port

      slots : ReadPortSlots
      slots = read_port_slots (driven_signals net) m cell shape (port, read)

      driven : Bool → ℕ × Signal → DrivenSignal
      driven t e = (e.1, if t then register (read_element cell shape read port e.0) else word_bit (read_word_bit cell shape port e.0))

  kept_in_piece : (p : Piece) → kept_in (registers_of net p) (ports_of net p) ≡ count_of (is_kept b) (drives net p)
  kept_in_piece inputs_piece = kept_in_inputs 0 (data_inputs net)
  kept_in_piece (gate_piece cell kind) = omega (arith, ap one_if (and-false (is_bit b (signal_of cell (codes "Y")))))
  kept_in_piece (register_piece cell kind) = omega (arith, ap one_if (and_true (is_bit b (signal_of cell (codes "Q")))))
  kept_in_piece (read_piece m cell shape port read) = kept_in_read m cell shape port read

  kept_in_pieces : (ps : List Piece)
      → kept_in (flat_map (registers_of net) ps) (flat_map (ports_of net) ps) ≡ count_of (is_kept b) (flat_map (drives net) ps)
  kept_in_pieces [] = omega arith
  kept_in_pieces (p ∷ ps) =
      let rs = flat_map (registers_of net) ps in
      let qs = flat_map (ports_of net) ps in
      let registers : count_of (is_bit b) (register_outputs (registers_of net p ++ rs)) ≡ count_of (is_bit b) (register_outputs (registers_of net p)) + count_of (is_bit b) (register_outputs rs) =
      ap (count_of (is_bit b)) (map-append (λ r. r.output) (registers_of net p) rs) ∙ count_of-append (is_bit b) (register_outputs (registers_of net p)) (register_outputs rs) in
      let ports : count_of (is_bit b) (flat_map port_outputs (ports_of net p ++ qs)) ≡ count_of (is_bit b) (flat_map port_outputs (ports_of net p)) + count_of (is_bit b) (flat_map port_outputs qs) =
      ap (count_of (is_bit b)) (flat_map-append port_outputs (ports_of net p) qs) ∙ count_of-append (is_bit b) (flat_map port_outputs (ports_of net p)) (flat_map port_outputs qs) in
      let all = count_of-append (is_kept b) (drives net p) (flat_map (drives net) ps) in
      let here = kept_in_piece p in
      let rest = kept_in_pieces ps in
      omega (arith, registers, ports, all, here, rest)

-- ---- of a netlist

-- a bit stands among the held signals as often as a register or a clocked read drives it
pub kept_count : (net : Net) (b : ℕ) → count_of (is_bit b) (held_signals (layout_of net)) ≡ count_of (is_kept b) (flat_map (drives net) (pieces net))
kept_count net b =
    ap₂ (λ rs ps. count_of (is_bit b) (register_outputs rs ++ flat_map port_outputs ps)) (laid_out net).registers (laid_out net).ports
    ∙ count_of-append (is_bit b) (register_outputs (flat_map (registers_of net) (pieces net))) (flat_map port_outputs (flat_map (ports_of net) (pieces net)))
    ∙ kept_in_pieces net b (pieces net)

-- nothing drives a bit twice
pub once : (net : Net) → IsWellFormed net → (b : ℕ) → count_of (λ (d : DrivenSignal). is_bit b d.0) (flat_map (drives net) (pieces net)) ≤ 1
once net w b =
    let all = at_most_one (λ (d : DrivenSignal). is_bit b d.0) (drivers net) (λ i j d e at_i at_j first second. driven_once net w b i j d e at_i at_j first second) in
    let same = ap (count_of (λ (d : DrivenSignal). is_bit b d.0)) (drivers_by_pieces net) in
    omega (arith, all, same)

pub kept_once : (net : Net) → IsWellFormed net → (b : ℕ) → count_of (is_bit b) (held_signals (layout_of net)) ≤ 1
kept_once net w b =
    omega (arith, kept_count net b, once net w b, both_within (λ (d : DrivenSignal). is_bit b d.0) (λ d. is_register d.1) (flat_map (drives net) (pieces net)))
