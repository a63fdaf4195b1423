-- Names that get a clock of their own: it fits into their ports, and changes nothing of the other ones.
use Rattle.std.proofs.Common.{◌≡◌, ◌∙◌, ℕ, List, [], ◌∷◌, ◌++◌, Bool, true, false, ◌&&◌, ◌||◌, cond, Some, None, Ordering, Less, Equal, Greater, ap, ap₂, arith, bytes_eq, codes, filter, not, refl, subst, sym}
use Rattle.std.specs.Prelude.{IsTrue, flat_map, nat_eq}
use Rattle.std.specs.List.{AllByRecursion, starts_with}
use Rattle.std.specs.Ordering.{is_eq, is_lt, nat_cmp, ordering_reverse}
use Rattle.std.specs.Cmp.Lexicographic.{slice_cmp}
use Rattle.std.proofs.lemmas.Cmp.{nat_list_cmp_total}
use Rattle.std.proofs.lemmas.Grind.{flat_map-append}
use Rattle.std.proofs.lemmas.List.Elements.{filter-append}
use Rattle.std.proofs.lemmas.Map.Text.{is_eq-slice_cmp}
use Rattle.cs_base.specs.declared.signal.Signal.TheVariants.{Bit}
use Rattle.cs_conditions.specs.Conditions.{holds_clock, is_inout, is_reserved}
use Rattle.cs_json.specs.declared.document.Direction.{Direction}
use Rattle.cs_json.specs.Readable.{AreInOrder, is_below}
use Rattle.cs_json.proofs.Ordered.{less_of}
use Rattle.cs_modules.specs.Signals.{is_bit, is_input, is_output}
use Rattle.cs_net.specs.declared.netlist.Port.{Port}
use Rattle.cs_net.proofs.Members.{append_all}
use Rattle.cs_net.proofs.Occurrences.{count_of, count_of-append, one_if}
use Rattle.cs_share.specs.declared.types.Names.{Names}
use Rattle.cs_share.specs.Ports.{clock_port, input_signals, with_clock, with_clock_port}
use Rattle.cs_share.proofs.CircuitNames.{HasFitPorts, HasNoBitZero, decl_of, output_signals}

-- ---- lists

pub count_none : {A : Type 0} (test : A → Bool) (xs : List A) → AllByRecursion (λ x. test x ≡ false) xs → count_of test xs ≡ 0
count_none test [] h = refl
count_none test (x ∷ xs) h =
    let rest = count_none test xs h.1 in
    let here : one_if (test x) ≡ 0 = ap one_if h.0 in
    omega (arith, rest, here)

pub kept_none : {A : Type 0} (test : A → Bool) (xs : List A) → AllByRecursion (λ x. test x ≡ false) xs → filter test xs ≡ []
kept_none test [] h = refl
kept_none test (x ∷ xs) h = ap (λ t. cond t (x ∷ filter test xs) (filter test xs)) h.0 ∙ kept_none test xs h.1

pub kept_all : {A : Type 0} (test : A → Bool) (xs : List A) → AllByRecursion (λ x. test x ≡ false) xs
    → filter (λ x. not (test x)) xs ≡ xs
kept_all test [] h = refl
kept_all test (x ∷ xs) h =
    ap (λ t. cond (not t) (x ∷ filter (λ y. not (test y)) xs) (filter (λ y. not (test y)) xs)) h.0
    ∙ ap (λ ys. x ∷ ys) (kept_all test xs h.1)

pub all_kept : {A : Type 0} (P : A → Type 0) (test : A → Bool) (xs : List A) → AllByRecursion P xs → AllByRecursion P (filter test xs)
all_kept P test [] h = tt
all_kept P test (x ∷ xs) h = elim (test x) as (λ t. AllByRecursion P (cond t (x ∷ filter test xs) (filter test xs))) [
  | true ↦ (h.0, all_kept P test xs h.1)
  | false ↦ all_kept P test xs h.1
]

pub all_in_chain : {A B : Type 0} (P : B → Type 0) (f : A → List B) (xs : List A) → AllByRecursion (λ x. AllByRecursion P (f x)) xs
    → AllByRecursion P (flat_map f xs)
all_in_chain P f [] h = tt
all_in_chain P f (x ∷ xs) h = append_all P (f x) (flat_map f xs) h.0 (all_in_chain P f xs h.1)

pub all_mapped : {A : Type 0} (P Q : A → Type 0) → ((x : A) → P x → Q x) → (xs : List A) → AllByRecursion P xs → AllByRecursion Q xs
all_mapped P Q f [] h = tt
all_mapped P Q f (x ∷ xs) h = (f x h.0, all_mapped P Q f xs h.1)

all_both : {A : Type 0} (P Q R : A → Type 0) → ((x : A) → P x → Q x → R x) → (xs : List A) → AllByRecursion P xs
    → AllByRecursion Q xs → AllByRecursion R xs
all_both P Q R f [] h k = tt
all_both P Q R f (x ∷ xs) h k = (f x h.0 k.0, all_both P Q R f xs h.1 k.1)

all_passed : {A : Type 0} (test : A → Bool) (xs : List A) → AllByRecursion (λ x. test x ≡ true) (filter test xs)
all_passed test [] = tt
all_passed test (x ∷ xs) = by (test x) refl (all_passed test xs)
  where
    by : (t : Bool) → test x ≡ t → AllByRecursion (λ y. test y ≡ true) (filter test xs)
        → AllByRecursion (λ y. test y ≡ true) (cond t (x ∷ filter test xs) (filter test xs))
    by true is rest = (is, rest)
    by false is rest = rest

-- ---- names in order

below_trans : (a b c : List ℕ) → IsTrue (is_below a b) → IsTrue (is_below b c) → IsTrue (is_below a c)
below_trans a b c ab bc = ap is_lt (nat_list_cmp_total.trans a b c (less_of _ ab) (less_of _ bc))

-- of two names the one or the other is below, where they differ
below_or_above : (a b : List ℕ) → is_below a b ≡ false → bytes_eq a b ≡ false → IsTrue (is_below b a)
below_or_above a b not_below differ =
    by (slice_cmp nat_cmp a b) not_below (is_eq-slice_cmp a b ∙ differ) (nat_list_cmp_total.antisymm b a)
  where
    by : (o : Ordering) → is_lt o ≡ false → is_eq o ≡ false → slice_cmp nat_cmp b a ≡ ordering_reverse o → IsTrue (is_below b a)
    by Less least same flip = absurd (cc)
    by Equal least same flip = absurd (cc)
    by Greater least same flip = ap is_lt flip

abbrev Before : List ℕ → Port → Bool
Before name p = is_below p.name name

none_before : (name : List ℕ) (p : Port) (ports : List Port) → Before name p ≡ false
    → AllByRecursion (λ (q : Port). IsTrue (is_below p.name q.name)) ports → AllByRecursion (λ q. Before name q ≡ false) ports
none_before name p [] not_below above = tt
none_before name p (q ∷ ports) not_below above = (by (Before name q) refl, none_before name p ports not_below above.1)
  where
    by : (t : Bool) → Before name q ≡ t → t ≡ false
    by false is = refl
    by true is = let less = below_trans p.name q.name name above.0 is in sym less ∙ not_below

-- a list in order is cut at a name
cut : (name : List ℕ) (ports : List Port) → AreInOrder (λ (p : Port). p.name) ports
    → ports ≡ filter (Before name) ports ++ filter (λ p. not (Before name p)) ports
cut name [] order = refl
cut name (p ∷ ports) order = by (Before name p) refl (cut name ports order.1)
  where
    by : (t : Bool) → Before name p ≡ t → ports ≡ filter (Before name) ports ++ filter (λ q. not (Before name q)) ports
        → p ∷ ports ≡ cond t (p ∷ filter (Before name) ports) (filter (Before name) ports)
        ++ cond (not t) (p ∷ filter (λ q. not (Before name q)) ports) (filter (λ q. not (Before name q)) ports)
    by true is rest = ap (λ qs. p ∷ qs) rest
    by false is rest =
        let none = none_before name p ports is order.0 in
        sym (ap₂ (λ xs ys. xs ++ p ∷ ys) (kept_none (Before name) ports none) (kept_all (Before name) ports none))

order_kept : (test : Port → Bool) (ports : List Port) → AreInOrder (λ (p : Port). p.name) ports
    → AreInOrder (λ (p : Port). p.name) (filter test ports)
order_kept test [] order = tt
order_kept test (p ∷ ports) order = elim (test p) as (λ t. AreInOrder (λ (q : Port). q.name) (cond t (p ∷ filter test ports) (filter test ports))) [
  | true ↦ (all_kept (λ (q : Port). IsTrue (is_below p.name q.name)) test ports order.0, order_kept test ports order.1)
  | false ↦ order_kept test ports order.1
]

-- ports below another one, that one, and ports above it are in order
joined : (ports : List Port) (c : Port) (rest : List Port) → AreInOrder (λ (p : Port). p.name) ports
    → AllByRecursion (λ p. IsTrue (Before c.name p)) ports → AreInOrder (λ (p : Port). p.name) (c ∷ rest)
    → AreInOrder (λ (p : Port). p.name) (ports ++ c ∷ rest)
joined [] c rest order below above = above
joined (p ∷ ports) c rest order below above = (
  append_all (λ (q : Port). IsTrue (is_below p.name q.name)) ports (c ∷ rest) order.0 (
    below.0,
    all_mapped (λ (q : Port). IsTrue (is_below c.name q.name)) (λ (q : Port). IsTrue (is_below p.name q.name))
        (λ q less. below_trans p.name c.name q.name below.0 less) rest above.0,
  ),
  joined ports c rest order.1 below.1 above,
)

-- ---- bits of ports

pub inputs_append : (ports rest : List Port) → input_signals (ports ++ rest) ≡ input_signals ports ++ input_signals rest
inputs_append ports rest =
    ap (flat_map (λ (p : Port). p.bits)) (filter-append (λ (p : Port). is_input p.direction) ports rest)
    ∙ flat_map-append (λ (p : Port). p.bits) (filter (λ (p : Port). is_input p.direction) ports) (filter (λ (p : Port). is_input p.direction) rest)

pub outputs_append : (ports rest : List Port) → output_signals (ports ++ rest) ≡ output_signals ports ++ output_signals rest
outputs_append ports rest =
    ap (flat_map (λ (p : Port). p.bits)) (filter-append (λ (p : Port). is_output p.direction) ports rest)
    ∙ flat_map-append (λ (p : Port). p.bits) (filter (λ (p : Port). is_output p.direction) ports) (filter (λ (p : Port). is_output p.direction) rest)

pub none_zero_in : (keep : Direction → Bool) (ports : List Port) → HasNoBitZero ports
    → AllByRecursion (λ s. is_bit 0 s ≡ false) (flat_map (λ (p : Port). p.bits) (filter (λ (p : Port). keep p.direction) ports))
none_zero_in keep ports none =
    all_in_chain (λ s. is_bit 0 s ≡ false) (λ (p : Port). p.bits) (filter (λ (p : Port). keep p.direction) ports)
    (all_kept (λ (p : Port). AllByRecursion (λ s. is_bit 0 s ≡ false) p.bits) (λ (p : Port). keep p.direction) ports none)

-- ---- reserved names

no_clock_name : (a b : Bool) → (a && not false || b) ≡ false → a ≡ false
no_clock_name true b h = absurd (cc)
no_clock_name false b h = refl

free_still : (a b h : Bool) → (a && not false || b) ≡ false → (a && not h || b) ≡ false
free_still true b h is = absurd (cc)
free_still false b h is = is

-- ---- the names with a clock

module _ (names : Names) (fit : HasFitPorts names) (none : names.clock ≡ None) (above : HasNoBitZero names.ports) where
  abbrev before : List Port
  before = filter (λ p. is_below p.name (codes "cslow_clk")) names.ports

  abbrev after : List Port
  after = filter (λ p. not (is_below p.name (codes "cslow_clk"))) names.ports

  abbrev IsFree : Port → Type 0
  IsFree p = is_reserved None (decl_of p) ≡ false

  free : AllByRecursion IsFree names.ports
  free = subst (λ c. AllByRecursion (λ p. is_reserved c (decl_of p) ≡ false) names.ports) none fit.free

  pub ports_whole : names.ports ≡ before ++ after
  ports_whole = cut (codes "cslow_clk") names.ports fit.order

  not_before : (t : Bool) → not t ≡ true → t ≡ false
  not_before true h = absurd (cc)
  not_before false h = refl

  all_after : AllByRecursion (λ (p : Port). IsTrue (is_below (codes "cslow_clk") p.name)) after
  all_after =
      all_both (λ (p : Port). not (is_below p.name (codes "cslow_clk")) ≡ true) IsFree
      (λ (p : Port). IsTrue (is_below (codes "cslow_clk") p.name))
      (λ p kept is_free. below_or_above p.name (codes "cslow_clk") (not_before (is_below p.name (codes "cslow_clk")) kept)
      (no_clock_name (bytes_eq p.name (codes "cslow_clk")) (starts_with nat_eq p.name (codes "$cs$")) is_free))
      after (all_passed (λ p. not (is_below p.name (codes "cslow_clk"))) names.ports)
      (all_kept IsFree (λ p. not (is_below p.name (codes "cslow_clk"))) names.ports free)

  in_order : AreInOrder (λ (p : Port). p.name) (with_clock_port names.ports)
  in_order =
      joined before clock_port after (order_kept (λ p. is_below p.name (codes "cslow_clk")) names.ports fit.order)
      (all_passed (λ p. is_below p.name (codes "cslow_clk")) names.ports)
      (all_after, order_kept (λ p. not (is_below p.name (codes "cslow_clk"))) names.ports fit.order)

  -- what holds of all ports and of the added one holds of all with it
  among : (P : Port → Type 0) → AllByRecursion P names.ports → P clock_port → AllByRecursion P (with_clock_port names.ports)
  among P all one =
      append_all P before (clock_port ∷ after) (all_kept P (λ p. is_below p.name (codes "cslow_clk")) names.ports all)
      (one, all_kept P (λ p. not (is_below p.name (codes "cslow_clk"))) names.ports all)

  inputs_are : input_signals (with_clock_port names.ports) ≡ input_signals before ++ Bit 0 ∷ input_signals after
  inputs_are = inputs_append before (clock_port ∷ after)

  before_none : AllByRecursion (λ s. is_bit 0 s ≡ false) (input_signals before)
  before_none = none_zero_in is_input before (all_kept (λ (p : Port). AllByRecursion (λ s. is_bit 0 s ≡ false) p.bits) _ names.ports above)

  after_none : AllByRecursion (λ s. is_bit 0 s ≡ false) (input_signals after)
  after_none = none_zero_in is_input after (all_kept (λ (p : Port). AllByRecursion (λ s. is_bit 0 s ≡ false) p.bits) _ names.ports above)

  -- the outputs stay
  pub outputs_with : output_signals (with_clock_port names.ports) ≡ output_signals names.ports
  outputs_with =
      outputs_append before (clock_port ∷ after) ∙ sym (outputs_append before after)
      ∙ ap output_signals (sym ports_whole)

  -- the inputs without the clock stay
  pub inputs_with : filter (λ s. not (is_bit 0 s)) (input_signals (with_clock_port names.ports)) ≡ input_signals names.ports
  inputs_with =
      ap (filter (λ s. not (is_bit 0 s))) inputs_are
      ∙ filter-append (λ s. not (is_bit 0 s)) (input_signals before) (Bit 0 ∷ input_signals after)
      ∙ ap₂ (λ xs ys. xs ++ ys) (kept_all (is_bit 0) (input_signals before) before_none)
      (kept_all (is_bit 0) (input_signals after) after_none)
      ∙ sym (inputs_append before after) ∙ ap input_signals (sym ports_whole)

  clock_once : count_of (is_bit 0) (input_signals (with_clock_port names.ports)) ≡ 1
  clock_once =
      let first = count_none (is_bit 0) (input_signals before) before_none in
      let last = count_none (is_bit 0) (input_signals after) after_none in
      let parts = count_of-append (is_bit 0) (input_signals before) (Bit 0 ∷ input_signals after) in
      let all = ap (count_of (is_bit 0)) inputs_are in
      omega (arith, first, last, parts, all)

  pub fit_with : HasFitPorts (with_clock names)
  fit_with = record {
    order = in_order;
    one_way = among (λ (p : Port). is_inout p.direction ≡ false) fit.one_way refl;
    free = among (λ (p : Port). is_reserved (Some (record { bit = 0; rising = true })) (decl_of p) ≡ false)
        (all_mapped IsFree (λ (p : Port). is_reserved (Some (record { bit = 0; rising = true })) (decl_of p) ≡ false)
        (λ p is_free. free_still (bytes_eq p.name (codes "cslow_clk")) (starts_with nat_eq p.name (codes "$cs$"))
        (holds_clock (Some (record { bit = 0; rising = true })) p.bits) is_free) names.ports free) refl;
    clock = clock_once;
    shown = subst (AllByRecursion (λ s. is_bit 0 s ≡ false)) (sym outputs_with) (none_zero_in is_output names.ports above);
  }
