-- A netlist whose bits have an order has exactly one trace.
use Rattle.std.proofs.Common.{◌≡◌, ℕ, zero, suc, ◌<◌, ◌≤◌, List, [], ◌∷◌, length, get_or, map, ◌||◌, refl, sym, ap, ◌∙◌, arith, eq-eqb}
use mathlib.Core.Path.{fun_ext}
use Rattle.std.specs.Prelude.{IsTrue}
use Rattle.std.proofs.Math.Bool.{or-true}
use Rattle.cs_base.specs.declared.signal.Signal.{Signal}
use Rattle.cs_base.specs.declared.signal.Signal.TheVariants.{Zero, One, Unknown, HighZ, Bit}
use Rattle.cs_cells.specs.Gates.{gate_value}
use Rattle.cs_cells.specs.Memories.{read_bit}
use Rattle.cs_net.specs.Netlist.{Net, NetState}
use Rattle.cs_modules.specs.Signals.{holds_bit, is_bit}
use Rattle.cs_net.specs.Drivers.{Driver, undriven, input, gate, word_bit, register, driver_of, fanin, IsBitOrder}
use Rattle.cs_net.specs.Trace.{Row, Valuation, signal_value, value_by, value_within, next_state, Settles, IsTrace, AgreeOver, HasOneTrace}

-- two settings agree on the bits of a list of signals
abbrev Agree : Valuation → Valuation → List Signal → Type 0
Agree v w signals = (a : ℕ) → IsTrue (holds_bit a signals) → v a ≡ w a

seen_same : (v w : Valuation) (s : Signal) → ((a : ℕ) → IsTrue (is_bit a s) → v a ≡ w a) → signal_value v s ≡ signal_value w s
seen_same v w Zero h = refl
seen_same v w One h = refl
seen_same v w Unknown h = refl
seen_same v w HighZ h = refl
seen_same v w (Bit b) h = h b (eq-eqb b b refl)

all_seen_same : (v w : Valuation) (signals : List Signal) → Agree v w signals → map (signal_value v) signals ≡ map (signal_value w) signals
all_seen_same v w [] h = refl
all_seen_same v w (s ∷ ss) h =
    let first = seen_same v w s (λ a is. h a (ap (λ b. b || holds_bit a ss) is)) in
    let rest = all_seen_same v w ss (λ a is. h a (ap (λ b. is_bit a s || b) is ∙ or-true (is_bit a s))) in
    cc

-- a bit's value depends on what its driver depends alone
value_same : (d : Driver) (b : ℕ) (row : Row) (now : NetState) (v w : Valuation) → Agree v w (fanin d) → value_by d b row now v ≡ value_by d b row now w
value_same undriven b row now v w h = refl
value_same (input i) b row now v w h = refl
value_same (gate kind pins) b row now v w h = ap (gate_value kind) (all_seen_same v w pins h)
value_same (word_bit r) b row now v w h = ap (λ address. read_bit (now.words r.memory) address r.place) (all_seen_same v w r.address h)
value_same (register r) b row now v w h = refl

module _ (net : Net) (row : Row) (now : NetState) (place : ℕ → ℕ) (order : IsBitOrder net place) where
  -- ---- one setting at most

  same_below : (v w : Valuation) → Settles net row now v → Settles net row now w → (k b : ℕ) → place b < k → v b ≡ w b
  same_below v w sv sw zero b h = absurd (omega arith)
  same_below v w sv sw (suc k) b h =
      sv b ∙ value_same (driver_of net b) b row now v w (λ a depends. same_below v w sv sw k a (let before = order b a depends in omega arith)) ∙ sym (sw b)

  pub same_settled : (v w : Valuation) → Settles net row now v → Settles net row now w → v ≡ w
  same_settled v w sv sw = fun_ext (λ b. same_below v w sv sw (suc (place b)) b (omega arith))

  -- ---- and there is one

  enough : (j k b : ℕ) → place b < j → place b < k → value_within net row now j b ≡ value_within net row now k b
  unfolding value_within
  enough zero k b h g = absurd (omega arith)
  enough (suc j) zero b h g = absurd (omega arith)
  enough (suc j) (suc k) b h g =
      value_same (driver_of net b) b row now (value_within net row now j) (value_within net row now k) (λ a depends. let before = order b a depends in enough j k a (omega arith) (omega arith))

  pub settled : Valuation
  settled b = value_within net row now (suc (place b)) b

  pub settled_settles : Settles net row now settled
  unfolding value_within settled
  settled_settles b =
      value_same (driver_of net b) b row now (value_within net row now (place b)) settled (λ a depends. let before = order b a depends in enough (place b) (suc (place a)) a before (omega arith))

-- ---- runs

module _ (net : Net) (place : ℕ → ℕ) (order : IsBitOrder net place) (from : NetState) (rows : List Row) where
  state_at : ℕ → NetState
  state_at zero = from
  state_at (suc n) = next_state net (state_at n) (settled net (get_or rows n []) (state_at n) place order)

  bits_at : ℕ → Valuation
  bits_at n = settled net (get_or rows n []) (state_at n) place order

  the_trace : IsTrace net from rows bits_at state_at
  unfolding state_at bits_at
  the_trace = record {
    begins = refl;
    settles = λ n h. settled_settles net (get_or rows n []) (state_at n) place order;
    goes_on = λ n h. refl;
  }

  module _ (bits bits' : ℕ → Valuation) (state state' : ℕ → NetState) (t : IsTrace net from rows bits state) (t' : IsTrace net from rows bits' state') where
    states_agree : (n : ℕ) → n ≤ length rows → state n ≡ state' n
    states_agree zero h = t.begins ∙ sym t'.begins
    states_agree (suc n) h =
        let below : n < length rows = omega arith in
        let same = states_agree n (omega arith) in
        let settled' : Settles net (get_or rows n []) (state n) (bits' n) = λ b. t'.settles n below b ∙ ap (λ now. value_by (driver_of net b) b (get_or rows n []) now (bits' n)) (sym same) in
        let bits_same = same_settled net (get_or rows n []) (state n) place order (bits n) (bits' n) (t.settles n below) settled' in
        t.goes_on n below ∙ ap (λ now. next_state net now (bits n)) same ∙ ap (next_state net (state' n)) bits_same ∙ sym (t'.goes_on n below)

    pub traces_agree : AgreeOver rows bits bits' state state'
    traces_agree = record {
      same_state = states_agree;
      same_bits = λ n below.
          let same = states_agree n (omega arith) in
          same_settled net (get_or rows n []) (state n) place order (bits n) (bits' n) (t.settles n below)
          (λ b. t'.settles n below b ∙ ap (λ now. value_by (driver_of net b) b (get_or rows n []) now (bits' n)) (sym same));
    }

  pub one_trace : HasOneTrace net from rows
  one_trace = record { bits = bits_at; state = state_at; trace = the_trace; only = λ bits' state' t. traces_agree bits_at bits' state_at state' the_trace t }
