-- The starts of a netlist stand cell by cell, one for each register's bit Q.
use Rattle.std.proofs.Common.{◌≡◌, ◌∙◌, ℕ, List, [], ◌∷◌, ◌++◌, Bool, true, false, ◌&&◌, ◌||◌, cond, Some, ap, ap₂, arith, codes, eq-eqb, eqb-true, find, filter_map, get_or, length, map, option_map, refl, subst, sym}
use Rattle.std.specs.Prelude.{◌==◌, flat_map, unwrap_or}
use Rattle.std.specs.List.{AllByRecursion, list_all, list_any}
use Rattle.std.specs.Option.{option_to_list}
use Rattle.std.proofs.lemmas.List.Folds.{list_any-append}
use Rattle.std.proofs.Math.Bool.{or-true}
use Rattle.cs_base.specs.declared.signal.Signal.{Signal}
use Rattle.cs_base.specs.declared.signal.Signal.TheVariants.{Zero, One, Unknown as UnknownSignal, HighZ, Bit}
use Rattle.cs_cells.specs.declared.class.Class.{Class}
use Rattle.cs_cells.specs.declared.class.Class.TheVariants.{Gate, Register, Memory, Scope, Asynchronous, NotFine, Unknown}
use Rattle.cs_cells.specs.declared.register.FfKind.{FfKind}
use Rattle.cs_json.specs.declared.document.CellDecl.{CellDecl}
use Rattle.cs_json.specs.declared.document.Module.{Module}
use Rattle.cs_net.specs.declared.netlist.Cell.{Cell}
use Rattle.cs_net.specs.declared.state.BitValue.{BitValue}
use Rattle.cs_net.specs.Build.{cell_of, net_of, starts_by}
use Rattle.cs_modules.specs.Modules.{cells_of, initial_value}
use Rattle.cs_modules.specs.Pins.{has_right_pins, class_at, has_pin, has_pins, has_sizes, is_pin_of, pin_bits, register_widths, widths_of}
use Rattle.cs_modules.specs.Signals.{number_in}
use Rattle.cs_net.specs.Drivers.{signal_of}
use Rattle.cs_net.specs.Invariant.{IsWellFormed}
use Rattle.cs_net.specs.Netlist.{Net, bit_at}
use Rattle.cs_net.specs.Starts.{start_by, start_of_class, starts_of_cell}
use Rattle.cs_modules.proofs.GatePins.{all_pass, both}
use Rattle.cs_net.proofs.Members.{append_all}
use Rattle.cs_net.proofs.PinLemmas.{pin_width, right_pins, same_bits}

-- a list of one signal
one_signal : (signals : List Signal) → length signals ≡ 1 → signals ≡ get_or signals 0 Zero ∷ []
one_signal [] h = absurd (cc)
one_signal (s ∷ []) h = refl
one_signal (s ∷ t ∷ signals) h = absurd (omega (arith, h))

-- ---- the starts of a module

-- a register's pin Q has one bit
register_pin : (kind : FfKind) (d : CellDecl) → has_pins (register_widths kind) d.pins ≡ true → pin_bits d.pins (codes "Q") ≡ signal_of (cell_of d) (codes "Q") ∷ []
register_pin kind d has =
    let parts = both (list_all (is_pin_of (register_widths kind)) d.pins) (list_all (λ w. has_pin d.pins w.0) (register_widths kind)) has in
    let there = all_pass (λ (w : List ℕ × ℕ). has_pin d.pins w.0) (register_widths kind) parts.1 in
    let wide : length (pin_bits d.pins (codes "Q")) ≡ 1 =
    pin_width (register_widths kind) d.pins (codes "Q") 1 (all_pass (is_pin_of (register_widths kind)) d.pins parts.0) refl there.1.1.0 in
    one_signal (pin_bits d.pins (codes "Q")) wide ∙ ap (λ signals. get_or signals 0 Zero ∷ []) (sym (same_bits d (codes "Q")))

one_start : (value : ℕ → Bool) (s : Signal) → filter_map (λ t. option_map (λ b. let e : BitValue = record { bit = b; value = value b } in e) (number_in t)) (s ∷ []) ≡ option_to_list (start_by value s)
one_start value Zero = refl
one_start value One = refl
one_start value UnknownSignal = refl
one_start value HighZ = refl
one_start value (Bit b) = refl

start_of_decl : (m : Module) (d : CellDecl) (k : Class) → has_sizes k d && has_pins (widths_of k d) d.pins ≡ true → starts_by k m d ≡ start_of_class (initial_value m) k (cell_of d)
start_of_decl m d (Gate kind) right = refl
start_of_decl m d (Register kind) right =
    ap (filter_map (λ s. option_map (λ b. let e : BitValue = record { bit = b; value = initial_value m b } in e) (number_in s))) (register_pin kind d right)
    ∙ one_start (initial_value m) (signal_of (cell_of d) (codes "Q"))
start_of_decl m d Memory right = refl
start_of_decl m d Scope right = refl
start_of_decl m d Asynchronous right = refl
start_of_decl m d NotFine right = refl
start_of_decl m d Unknown right = refl

-- the starts of some cells, each with a value of its own
starts_with : (ℕ → Bool) → List Cell → List BitValue
starts_with value cells = flat_map (λ (c : Cell). start_of_class value c.class c) cells

starts_of_decls : (m : Module) (ds : List CellDecl) → AllByRecursion (λ d. has_right_pins d ≡ true) ds →
    flat_map (λ d. starts_by (class_at d) m d) ds ≡ starts_with (initial_value m) (map cell_of ds)
unfolding starts_with
starts_of_decls m [] right = refl
starts_of_decls m (d ∷ ds) right = ap₂ (λ first rest. first ++ rest) (start_of_decl m d (class_at d) right.0) (starts_of_decls m ds right.1)

-- ---- values by their own list

-- an entry of a bit is there
has_start : ℕ → List BitValue → Bool
has_start b starts = list_any (λ e. e.bit == b) starts

given : (value : ℕ → Bool) (starts : List BitValue) (b : ℕ) → AllByRecursion (λ e. e.value ≡ value e.bit) starts → has_start b starts ≡ true → bit_at starts b ≡ value b
unfolding has_start
given value [] b all there = absurd (cc)
given value (e ∷ starts) b all there =
    elim (e.bit == b) as (λ t. (e.bit == b) ≡ t → (t || list_any (λ e. e.bit == b) starts) ≡ true →
    unwrap_or (option_map (λ (e : BitValue). e.value) (cond t (Some e) (find (λ e. e.bit == b) starts))) false ≡ value b) [
      | true ↦ λ same h. all.0 ∙ ap value (eqb-true e.bit b same)
      | false ↦ λ other h. given value starts b all.1 h
    ] refl there

module _ (value : ℕ → Bool) where
  given_by_signal : (s : Signal) → AllByRecursion (λ (e : BitValue). e.value ≡ value e.bit) (option_to_list (start_by value s))
  given_by_signal Zero = tt
  given_by_signal One = tt
  given_by_signal UnknownSignal = tt
  given_by_signal HighZ = tt
  given_by_signal (Bit b) = (refl, tt)

  given_by_class : (k : Class) (c : Cell) → AllByRecursion (λ (e : BitValue). e.value ≡ value e.bit) (start_of_class value k c)
  given_by_class (Gate kind) c = tt
  given_by_class (Register kind) c = given_by_signal (signal_of c (codes "Q"))
  given_by_class Memory c = tt
  given_by_class Scope c = tt
  given_by_class Asynchronous c = tt
  given_by_class NotFine c = tt
  given_by_class Unknown c = tt

  all_given : (cells : List Cell) → AllByRecursion (λ (e : BitValue). e.value ≡ value e.bit) (starts_with value cells)
  unfolding starts_with
  all_given [] = tt
  all_given (c ∷ cells) =
      append_all (λ (e : BitValue). e.value ≡ value e.bit) (start_of_class value c.class c) (starts_with value cells) (given_by_class c.class c) (all_given cells)

  same_by_signal : (other : ℕ → Bool) (s : Signal) → ((b : ℕ) → has_start b (option_to_list (start_by value s)) ≡ true → other b ≡ value b) →
      option_to_list (start_by value s) ≡ option_to_list (start_by other s)
  unfolding has_start
  same_by_signal other Zero same = refl
  same_by_signal other One same = refl
  same_by_signal other UnknownSignal same = refl
  same_by_signal other HighZ same = refl
  same_by_signal other (Bit b) same =
      let here : ((b == b) || false) ≡ true = ap (λ t. t || false) (itself b) in
      ap (λ v. let e : BitValue = record { bit = b; value = v } in e ∷ []) (sym (same b here))
    where
      itself : (n : ℕ) → (n == n) ≡ true
      itself n = eq-eqb n n refl

  same_by_class : (other : ℕ → Bool) (k : Class) (c : Cell) → ((b : ℕ) → has_start b (start_of_class value k c) ≡ true → other b ≡ value b) →
      start_of_class value k c ≡ start_of_class other k c
  same_by_class other (Gate kind) c same = refl
  same_by_class other (Register kind) c same = same_by_signal other (signal_of c (codes "Q")) same
  same_by_class other Memory c same = refl
  same_by_class other Scope c same = refl
  same_by_class other Asynchronous c same = refl
  same_by_class other NotFine c same = refl
  same_by_class other Unknown c same = refl

  -- values that agree on the bits that are there
  same_starts : (other : ℕ → Bool) (cells : List Cell) → ((b : ℕ) → has_start b (starts_with value cells) ≡ true → other b ≡ value b) →
      starts_with value cells ≡ starts_with other cells
  unfolding starts_with has_start
  same_starts other [] same = refl
  same_starts other (c ∷ cells) same =
      ap₂ (λ first rest. first ++ rest)
      (same_by_class other c.class c (λ b there. same b (in_first b (start_of_class value c.class c) (starts_with value cells) there)))
      (same_starts other cells (λ b there. same b (in_rest b (start_of_class value c.class c) (starts_with value cells) there)))
    where
      in_first : (b : ℕ) (xs ys : List BitValue) → has_start b xs ≡ true → has_start b (xs ++ ys) ≡ true
      in_first b xs ys there = list_any-append (λ (e : BitValue). e.bit == b) xs ys ∙ ap (λ t. t || list_any (λ (e : BitValue). e.bit == b) ys) there

      in_rest : (b : ℕ) (xs ys : List BitValue) → has_start b ys ≡ true → has_start b (xs ++ ys) ≡ true
      in_rest b xs ys there =
          list_any-append (λ (e : BitValue). e.bit == b) xs ys ∙ ap (λ t. list_any (λ (e : BitValue). e.bit == b) xs || t) there
          ∙ or-true (list_any (λ (e : BitValue). e.bit == b) xs)

  -- the starts of some cells give each bit its value
  by_themselves : (starts : List BitValue) (cells : List Cell) → starts ≡ starts_with value cells → starts ≡ flat_map (starts_of_cell starts) cells
  unfolding starts_with
  by_themselves starts cells is =
      is ∙ same_starts (bit_at starts) cells
      (λ b there. ap (λ xs. bit_at xs b) is ∙ given value (starts_with value cells) b (all_given cells) there)

-- ---- of a netlist

-- the starts stand cell by cell
pub starts_in_order : (net : Net) → IsWellFormed net → net.starts ≡ flat_map (starts_of_cell net.starts) net.cells
unfolding net_of
starts_in_order net w =
    subst (λ (n : Net). n.starts ≡ flat_map (starts_of_cell n.starts) n.cells) (sym w.is)
    (by_themselves (initial_value w.«module») (net_of w.«module»).starts (map cell_of (cells_of w.«module»))
    (starts_of_decls w.«module» (cells_of w.«module») (right_pins w.«module» w.early)))
