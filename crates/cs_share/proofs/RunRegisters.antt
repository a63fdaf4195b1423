-- In a trace of the written netlist the registers of an edge have what its driver had so many clocks before,
-- and their starts before that; so each pin sees what its edge brings.
use Rattle.std.proofs.Common.{◌≡◌, ◌∙◌, ℕ, zero, suc, ◌+◌, ◌-◌, ◌<◌, ◌≤◌, List, [], ◌∷◌, length, get_or, take, Bool, true, false, Option, Some, None, refl, sym, ap, arith}
use Rattle.std.specs.Prelude.{pos, negsuc, ◌-ℤ◌, option_map, slice_get, unwrap_or}
use Rattle.std.proofs.lemmas.Int.{ints}
use Rattle.std.proofs.lemmas.List.{get_or-take, length-take-le, take_all, take-take}
use Rattle.cs_base.specs.declared.signal.Signal.{Signal}
use Rattle.cs_base.specs.declared.signal.Signal.TheVariants.{Zero, Bit}
use Rattle.cs_cells.specs.declared.register.FfKind.{FfKind}
use Rattle.cs_cells.specs.declared.register.ResetKind.{ResetKind}
use Rattle.cs_cells.specs.Registers.{next_value}
use Rattle.cs_circuit.specs.declared.circuit.RegisterPart.{RegisterPart}
use Rattle.cs_circuit.specs.ReadBack.{IsPlainRegister, start_of}
use Rattle.cs_graph.specs.declared.edge.Edge.{Edge}
use Rattle.cs_graph.specs.declared.graph.Graph.{Graph}
use Rattle.cs_graph.specs.declared.vertex.Feed.{Feed}
use Rattle.cs_graph.specs.declared.vertex.Feed.TheVariants.{Tied, Edge as Along}
use Rattle.cs_graph.specs.declared.vertex.Vertex.{Vertex}
use Rattle.cs_graph.specs.Run.{Outs, carried, row_of, seen, seen_edge}
use Rattle.cs_net.specs.Netlist.{Net, NetState}
use Rattle.cs_net.specs.Trace.{IsTrace, Row, Valuation, next_bit, next_state, signal_value, source_value, value_by}
use Rattle.cs_net.proofs.Members.{within_has}
use Rattle.cs_net.proofs.MemoryPlaces.{at_map}
use Rattle.cs_prefix.specs.Prefixes.{IsOnEdge, RegisterKey, key_before, key_start, place_of_key}
use Rattle.cs_share.specs.declared.types.Names.{Names}
use Rattle.cs_share.specs.Registers.{AreRegisters, driver_of_edge, edge_contents, edge_drivers}
use Rattle.cs_share.specs.Shared.{circuit_with, edge_signal, first_register, key_signal, register_part, signal_behind}
use Rattle.cs_share.proofs.RunDrivers.{IsWritten, constant_value, driver_has, sees_by, value_in}
use Rattle.cs_share.proofs.RunLists.{key_at}

-- ---- plain registers

abbrev ff : Bool → Bool → Option ResetKind → Option Bool → FfKind
ff rising over reset enable = record {
  rising = rising;
  reset = reset;
  enable = enable;
  enable_over_reset = over;
}

-- a register without reset and enable holds next what it has at D
plain_next : (over rising : Bool) (reset : Option ResetKind) (enable : Option Bool) (d q e r : Bool)
    → reset ≡ None → enable ≡ None
    → next_value (ff rising over reset enable) d q e r ≡ d
unfolding next_value
plain_next over rising reset enable d q e r no_reset no_enable =
    rw (no_reset, no_enable) (elim over as (λ o. next_value (ff rising o None None) d q e r ≡ d) [
      | true ↦ refl
      | false ↦ refl
    ])

next_at : (net : Net) (b : ℕ) (d : Signal) (plain : IsPlainRegister net b d) (now : NetState) (v : Valuation)
    → (next_state net now v).bit b ≡ signal_value v d
next_at net b d plain now v =
    let k = plain.element.kind in
    ap (λ driver. next_bit driver (now.bit b) now.words v) plain.drives
    ∙ plain_next k.enable_over_reset k.rising k.reset k.enable (source_value plain.element.source now.words v)
    (now.bit b) _ _ plain.reset plain.enable
    ∙ ap (λ source. source_value source now.words v) plain.source_is

-- ---- the registers of an edge

-- the register of so many of an edge's starts
abbrev key_of : Edge → ℕ → RegisterKey
key_of d l = record { vertex = d.from; output = d.output; starts = take l d.contents }

with_starts : Edge → List Bool → RegisterKey
with_starts d bs = record { vertex = d.from; output = d.output; starts = bs }

-- where there are starts, the signal behind them is a register's
signal_of_register : (g : Graph) (names : Names) (keys : List RegisterKey) (starts : List Bool)
    (key : RegisterKey) → 0 < length starts
    → signal_behind g names keys starts key
    ≡ Bit (first_register g names + unwrap_or (place_of_key keys key) 0)
signal_of_register g names keys [] key some = absurd (omega (arith, some))
signal_of_register g names keys (b ∷ bs) key some = refl

-- it is needed
key_needed : (g : Graph) (e l : ℕ) (d : Edge) → slice_get g.edges e ≡ Some d → suc l ≤ length d.contents
    → IsOnEdge (edge_drivers g) (edge_contents g) (key_of d (suc l))
unfolding with_starts
key_needed g e l d found within =
    let count : length (take (suc l) d.contents) ≡ suc l = length-take-le (suc l) d.contents within in
    record {
      e = e;
      driver = driver_of_edge d;
      all = d.contents;
      driver_is = at_map driver_of_edge g.edges e d found;
      contents_are = at_map (λ (x : Edge). x.contents) g.edges e d found;
      some = omega (arith, count);
      within = omega (arith, count, within);
      is = ap (with_starts d) (ap (λ n. take n d.contents) (sym count));
    }

-- before it stands that of one start less
before_is : (d : Edge) (l : ℕ) → suc l ≤ length d.contents → key_before (key_of d (suc l)) ≡ key_of d l
unfolding with_starts
before_is d l within =
    let count : length (take (suc l) d.contents) ≡ suc l = length-take-le (suc l) d.contents within in
    let less : length (take (suc l) d.contents) - 1 ≡ l = omega (arith, count) in
    ap (with_starts d)
    (ap (λ n. take n (take (suc l) d.contents)) less ∙ take-take l (suc l) d.contents (omega arith))

-- and its start is the last
start_is : (d : Edge) (l : ℕ) → suc l ≤ length d.contents
    → key_start (key_of d (suc l)) ≡ get_or d.contents l false
start_is d l within =
    let count : length (take (suc l) d.contents) ≡ suc l = length-take-le (suc l) d.contents within in
    let less : length (take (suc l) d.contents) - 1 ≡ l = omega (arith, count) in
    ap (λ n. get_or (take (suc l) d.contents) n false) less
    ∙ get_or-take (suc l) d.contents l false (omega arith)

at_clock : (n : ℕ) → pos n -ℤ pos 0 ≡ pos n
at_clock n = omega (arith, ints)

clock_before : (l : ℕ) → pos 0 -ℤ pos (suc l) ≡ negsuc l
clock_before l = omega (arith, ints)

clock_after : (n l : ℕ) → pos (suc n) -ℤ pos (suc l) ≡ pos n -ℤ pos l
clock_after n l = omega (arith, ints)

module _ (g : Graph) (keys : List RegisterKey) (are : AreRegisters g keys) (names : Names) (net : Net)
    (w : IsWritten g keys names net)
    (rows : List Row) (bits : ℕ → Valuation) (state : ℕ → NetState)
    (t : IsTrace net (start_of net) rows bits state)
  where
    -- what the vertices give in clock n
    abbrev pub value : ℕ → Outs
    value n = value_in g keys names (row_of rows n) (state n) (bits n)

    -- a register has in each clock what it holds
    held : (n b : ℕ) (d : Signal) → IsPlainRegister net b d → n < length rows → bits n b ≡ (state n).bit b
    held n b d plain below = t.settles n below b
        ∙ ap (λ driver. value_by driver b (get_or rows n []) (state n) (bits n)) plain.drives

    -- and one clock later what it had at D
    shifted : (n b : ℕ) (d : Signal) → IsPlainRegister net b d → suc n < length rows
        → bits (suc n) b ≡ signal_value (bits n) d
    shifted n b d plain below =
        held (suc n) b d plain below
        ∙ ap (λ (s : NetState). s.bit b) (t.goes_on n (omega (arith, below)))
        ∙ next_at net b d plain (state n) (bits n)

    module _ (e : ℕ) (d : Edge) (found : slice_get g.edges e ≡ Some d) where
      module _ (l : ℕ) (within : suc l ≤ length d.contents) where
        place : (p : ℕ) × (place_of_key keys (key_of d (suc l)) ≡ Some p)
            × (slice_get keys p ≡ Some (key_of d (suc l)))
        place = key_at g keys are (key_of d (suc l)) (key_needed g e l d found within)

        part : RegisterPart
        part = register_part g names keys (key_of d (suc l))

        bit : ℕ
        bit = first_register g names + place.0

        -- what it has at D
        source : Signal
        source = key_signal g names keys (key_before (key_of d (suc l)))

        signal_is : key_signal g names keys (key_of d (suc l)) ≡ Bit bit
        unfolding bit
        signal_is =
            let count : length (take (suc l) d.contents) ≡ suc l = length-take-le (suc l) d.contents within in
            signal_of_register g names keys (take (suc l) d.contents) (key_of d (suc l))
            (omega (arith, count))
            ∙ ap (λ o. Bit (first_register g names + unwrap_or o 0)) place.1

        there : slice_get (circuit_with g keys names).registers place.0 ≡ Some part
        unfolding part
        there = at_map (register_part g names keys) keys place.0 (key_of d (suc l)) place.2

        plain : IsPlainRegister net bit source
        unfolding bit part source
        plain = w.is.registers place.0 part there

        starts : (start_of net).bit bit ≡ key_start (key_of d (suc l))
        unfolding bit part
        starts = w.is.starts place.0 part there

        -- one register more, one clock later
        register_has : ((n : ℕ) → n < length rows
            → signal_value (bits n) (key_signal g names keys (key_of d l)) ≡ carried d value (pos n -ℤ pos l))
            → (n : ℕ) → n < length rows
            → signal_value (bits n) (key_signal g names keys (key_of d (suc l)))
            ≡ carried d value (pos n -ℤ pos (suc l))
        unfolding source
        register_has before zero below =
            ap (signal_value (bits 0)) signal_is
            ∙ held 0 bit source plain below
            ∙ ap (λ (s : NetState). s.bit bit) t.begins ∙ starts ∙ start_is d l within
            ∙ ap (carried d value) (sym (clock_before l))
        register_has before (suc n) below =
            ap (signal_value (bits (suc n))) signal_is
            ∙ shifted n bit source plain below
            ∙ ap (λ key. signal_value (bits n) (key_signal g names keys key)) (before_is d l within)
            ∙ before n (omega (arith, below))
            ∙ ap (carried d value) (sym (clock_after n l))

      -- the signal behind l registers has what the driver had l clocks before
      behind : (l : ℕ) → l ≤ length d.contents → (n : ℕ) → n < length rows
          → signal_value (bits n) (key_signal g names keys (key_of d l)) ≡ carried d value (pos n -ℤ pos l)
      behind zero within n below =
          driver_has g keys names net w rows bits state t n d.from d.output below
          (w.machine.outputs e d found)
          ∙ ap (carried d value) (sym (at_clock n))
      behind (suc l) within n below = register_has l within (behind l (omega (arith, within))) n below

      -- an edge's end has what the edge brings
      edge_has : (n : ℕ) → n < length rows
          → signal_value (bits n) (edge_signal g names keys d) ≡ carried d value (pos n -ℤ pos d.weight)
      unfolding with_starts
      edge_has n below =
          ap (λ bs. signal_value (bits n) (key_signal g names keys (with_starts d bs)))
          (sym (take_all (length d.contents) d.contents (omega arith)))
          ∙ behind (length d.contents) (omega arith) n below
          ∙ ap (λ l. carried d value (pos n -ℤ pos l)) (w.machine.well_formed.held e d found)

    -- each pin of a vertex sees what the machine's pin does
    pub pin_sees : (n v i : ℕ) (x : Vertex) (f : Feed) → n < length rows → slice_get g.vertices v ≡ Some x
        → slice_get x.pins i ≡ Some f
        → sees_by g keys names (bits n) f ≡ seen g value n f
    pin_sees n v i x (Tied b) below at pin = constant_value (bits n) b
    pin_sees n v i x (Along e) below at pin =
        let low = w.machine.well_formed.fed.named v i e x at pin in
        let has = within_has g.edges e low in
        ap (λ o. signal_value (bits n) (unwrap_or (option_map (edge_signal g names keys) o) Zero)) has.1
        ∙ edge_has e has.0 has.1 n below
        ∙ ap (λ o. seen_edge o value n) (sym has.1)
