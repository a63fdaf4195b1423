-- The netlist of a module that no condition refuses.
use Rattle.std.proofs.Common.{◌≡◌, ◌∙◌, List, None, Option, ap, ap₂, filter_map, map, refl, subst, sym, ℕ}
use Rattle.std.proofs.Common.{◌⊎◌, inl, inr, [], ◌∷◌, Some, true, false, cond, find, filter, length, option_map}
use Rattle.std.specs.Prelude.{Err, IfOk, MatchOption, Ok, Result, bytes_eq, nat_lt}
use Rattle.std.specs.List.{AllByRecursion}
use Rattle.cs_base.specs.declared.limit.LimitFault.{LimitFault}
use Rattle.cs_json.specs.declared.document.Document.{Document}
use Rattle.cs_json.specs.declared.document.PortDecl.{PortDecl}
use Rattle.cs_conditions.specs.declared.error.NetError.{NetError}
use Rattle.cs_conditions.specs.declared.error.NetError.TheVariants.{Asynchronous, BadPins, ClockAsData, ClockNotInput, ConstZ, GateLoop, Inout, Limit, MemoryForm, MixedEdges, NoMemory, NoTop, NotFine, Reserved, TwoClocks, TwoDrivers, TwoStarts, UnknownCell}
use Rattle.cs_cells.specs.declared.memory.MemShape.{MemShape}
use Rattle.cs_json.specs.declared.document.Module.{Module}
use Rattle.cs_json.specs.Readable.{IsModule, IsReadable}
use Rattle.cs_net.specs.declared.netlist.Cell.{Cell}
use Rattle.cs_modules.specs.declared.clocks.Clock.{Clock}
use Rattle.cs_net.specs.declared.netlist.Port.{Port}
use Rattle.cs_net.specs.declared.state.BitValue.{BitValue}
use Rattle.cs_net.specs.declared.state.MemoryWords.{MemoryWords}
use Rattle.cs_modules.specs.Memories.{shapes_in, shape_of}
use Rattle.cs_net.specs.Accept.{HasNoLoop, IsAccepted, Refuses, RefusesLate, RefusesModule, is_limit, limit_fault, limit_fault_of}
use Rattle.cs_net.specs.Build.{cell_of, net_of, port_of, words_by}
use Rattle.cs_conditions.specs.Conditions.{early_refusal, is_reserved, reserved}
use Rattle.cs_modules.specs.Modules.{cells_of, clock_of, is_marked, only_marked, only_one, top_of}
use Rattle.cs_net.specs.Invariant.{HasBitOrder, IsSound, IsWellFormed, size_of}
use Rattle.cs_net.specs.Netlist.{Net}
use Rattle.cs_modules.specs.Pins.{class_at}
use Rattle.cs_net.proofs.LimitLemmas.{all_narrow}
use Rattle.cs_net.proofs.Orders.{no_loop_of_order}

abbrev pub net_with : List ℕ → List Port → List Cell → List (Option MemShape) → Option Clock → List BitValue → List MemoryWords → Net
net_with name ports cells shapes clock starts memories =
    record { name = name; ports = ports; cells = cells; shapes = shapes; clock = clock; starts = starts; memories = memories }

pub net_by_parts : (m : Module) (net : Net) → net.name ≡ m.name → net.ports ≡ map port_of m.ports →
    net.cells ≡ map cell_of (cells_of m) → net.shapes ≡ map shape_of (cells_of m) → net.clock ≡ clock_of m →
    net.starts ≡ (net_of m).starts → net.memories ≡ filter_map (λ cell. words_by (class_at cell) cell) (cells_of m) → net ≡ net_of m
unfolding net_of
net_by_parts m net name ports cells shapes clock starts memories =
    ap (λ x. net_with x net.ports net.cells net.shapes net.clock net.starts net.memories) name
    ∙ ap (λ x. net_with m.name x net.cells net.shapes net.clock net.starts net.memories) ports
    ∙ ap (λ x. net_with m.name (map port_of m.ports) x net.shapes net.clock net.starts net.memories) cells
    ∙ ap (λ x. net_with m.name (map port_of m.ports) (map cell_of (cells_of m)) x net.clock net.starts net.memories) shapes
    ∙ ap (λ x. net_with m.name (map port_of m.ports) (map cell_of (cells_of m)) (map shape_of (cells_of m)) x net.starts net.memories) clock
    ∙ ap₂ (λ x y. net_with m.name (map port_of m.ports) (map cell_of (cells_of m)) (map shape_of (cells_of m)) (clock_of m) x y) starts memories

pub narrow_memories : (m : Module) → IsSound m → find (λ shape. nat_lt 20 shape.abits) (shapes_in (map shape_of (cells_of m))) ≡ None
unfolding net_of limit_fault
narrow_memories m sound = all_narrow _ (map shape_of (cells_of m)) sound.within

pub is_well_formed : (m : Module) → IsModule m → early_refusal m ≡ None → IsSound m → (net : Net) → net ≡ net_of m → IsWellFormed net
unfolding net_of
is_well_formed m readable early sound net is = record {
  «module» = m;
  readable = readable;
  early = early;
  not_reserved = sound.not_reserved;
  is = subst (λ (n : Net). n ≡ record (net_of m) { memories = n.memories }) (sym is) refl;
  memories = sym (ap (λ (n : Net). map size_of n.memories) is);
  order = subst HasBitOrder (sym is) sound.order;
  within = subst (λ n. limit_fault n ≡ None) (sym is) sound.within;
}

-- ---- late refusals

pub reserved_late : (m : Module) (e : NetError) → HasBitOrder (net_of m) → reserved m ≡ Some e → RefusesLate m e
unfolding reserved
reserved_late m e order is = by (find (λ p. is_reserved (clock_of m) p) m.ports) is
  where
    by : (found : Option PortDecl) → option_map (λ p. Reserved p.name) found ≡ Some e →
        RefusesLate m e
    by None h = absurd (cc)
    by (Some p) h =
        let same : Reserved p.name ≡ e = cc in
        subst (RefusesLate m) same (no_loop_of_order (net_of m) order, is ∙ ap Some (sym same))

pub limit_late : (m : Module) (cells : ℕ) (shapes : List (Option MemShape)) (found : Option LimitFault) →
    cells ≡ length (map cell_of (cells_of m)) → shapes ≡ map shape_of (cells_of m) → found ≡ limit_fault_of cells shapes →
    limit_fault (net_of m) ≡ found
unfolding net_of limit_fault
limit_late m cells shapes found count is given = sym (given ∙ ap₂ limit_fault_of count is)

-- none of the late conditions holds
record IsClear (m : Module) : Type 0 where
  no_loop : HasNoLoop (net_of m)
  not_reserved : reserved m ≡ None
  within : limit_fault (net_of m) ≡ None

never : (m : Module) (e : NetError) → IsClear m → RefusesLate m e → ⊥
never m (GateLoop []) clear h = h
never m (GateLoop (first ∷ rest)) clear h = clear.no_loop h.0 h.1.loop
never m (Reserved port) clear h = let differ = sym clear.not_reserved ∙ h.1 in absurd (cc)
never m (Limit fault) clear h = let differ = sym clear.within ∙ h.2 in absurd (cc)
never m NoTop clear h = h
never m (UnknownCell name kind) clear h = h
never m (NotFine name kind) clear h = h
never m (Asynchronous name kind) clear h = h
never m (BadPins name) clear h = h
never m (Inout port) clear h = h
never m (ConstZ name) clear h = h
never m (TwoDrivers bit) clear h = h
never m (ClockNotInput signal) clear h = h
never m (TwoClocks first second) clear h = h
never m (MixedEdges name) clear h = h
never m (ClockAsData bit) clear h = h
never m (TwoStarts bit) clear h = h
never m (MemoryForm name parameter) clear h = h
never m NoMemory clear h = h

-- a count is above its limit exactly where there is no loop and no reserved port
Kind : Module → NetError → Type 0
Kind m e =
    ((is_limit e ≡ true) × HasNoLoop (net_of m) × (reserved m ≡ None))
    ⊎ ((is_limit e ≡ false) × (HasNoLoop (net_of m) → reserved m ≡ None → ⊥))

late_kind : (m : Module) (e : NetError) → RefusesLate m e → Kind m e
unfolding Kind
late_kind m (GateLoop []) h = absurd h
late_kind m (GateLoop (first ∷ rest)) h = inr (refl, λ no_loop free. no_loop h.0 h.1.loop)
late_kind m (Reserved port) h = inr (refl, λ no_loop free. let differ = sym free ∙ h.1 in absurd (cc))
late_kind m (Limit fault) h = inl (refl, h.0, h.1)
late_kind m NoTop h = absurd h
late_kind m (UnknownCell name kind) h = absurd h
late_kind m (NotFine name kind) h = absurd h
late_kind m (Asynchronous name kind) h = absurd h
late_kind m (BadPins name) h = absurd h
late_kind m (Inout port) h = absurd h
late_kind m (ConstZ name) h = absurd h
late_kind m (TwoDrivers bit) h = absurd h
late_kind m (ClockNotInput signal) h = absurd h
late_kind m (TwoClocks first second) h = absurd h
late_kind m (MixedEdges name) h = absurd h
late_kind m (ClockAsData bit) h = absurd h
late_kind m (TwoStarts bit) h = absurd h
late_kind m (MemoryForm name parameter) h = absurd h
late_kind m NoMemory h = absurd h

one_kind : (m : Module) (e f : NetError) → Kind m e → Kind m f → is_limit e ≡ is_limit f
unfolding Kind
one_kind m e f (inl a) (inl b) = a.0 ∙ sym b.0
one_kind m e f (inl a) (inr b) = absurd (b.1 a.1 a.2)
one_kind m e f (inr a) (inl b) = absurd (a.1 b.1 b.2)
one_kind m e f (inr a) (inr b) = a.0 ∙ sym b.0

-- ---- the document

pub top_readable : (doc : Document) (top : Option (List ℕ)) (m : Module) → IsReadable doc → top_of doc top ≡ Some m → IsModule m
top_readable doc None m readable is = among_marked
  where
    one : (ms : List Module) → AllByRecursion IsModule ms → only_one ms ≡ Some m → IsModule m
    one [] all h = absurd (cc)
    one (x ∷ []) all h = let same : x ≡ m = cc in subst IsModule same all.0
    one (x ∷ y ∷ ms) all h = absurd (cc)

    kept : (ms : List Module) → AllByRecursion IsModule ms → AllByRecursion IsModule (filter is_marked ms)
    kept [] all = tt
    kept (x ∷ ms) all =
        elim (is_marked x) as (λ t. AllByRecursion IsModule (cond t (x ∷ filter is_marked ms) (filter is_marked ms))) [
          | true ↦ (all.0, kept ms all.1)
          | false ↦ kept ms all.1
        ]

    marked : (ms : List Module) → AllByRecursion IsModule ms → only_marked ms doc.modules ≡ Some m → IsModule m
    marked [] all h = one doc.modules readable.modules h
    marked (x ∷ ms) all h = one (x ∷ ms) all h

    among_marked : IsModule m
    among_marked = marked (filter is_marked doc.modules) (kept doc.modules readable.modules) is
top_readable doc (Some name) m readable is = named doc.modules readable.modules is
  where
    named : (ms : List Module) → AllByRecursion IsModule ms → find (λ n. bytes_eq n.name name) ms ≡ Some m → IsModule m
    named [] all h = absurd (cc)
    named (x ∷ ms) all h =
        elim (bytes_eq x.name name) as (λ t. cond t (Some x) (find (λ n. bytes_eq n.name name) ms) ≡ Some m → IsModule m) [
          | true ↦ λ is. let same : x ≡ m = cc in subst IsModule same all.0
          | false ↦ λ is. named ms all.1 is
        ] h

-- what accepting a module gives
abbrev Accepts : Module → Net → Type 0
Accepts m net = (early_refusal m ≡ None) × IsSound m × (net ≡ net_of m)

module _ {E : Type 0} (doc : Document) (top : Option (List ℕ)) (m : Module) (is_top : top_of doc top ≡ Some m) (answer : Result Net E)
    (accepts : IfOk answer (λ net. (early_refusal m ≡ None) × IsSound m × (net ≡ net_of m))) where
  pub accepted : IfOk answer (IsAccepted doc top)
  accepted = by answer accepts
    where
      by : (r : Result Net E) → IfOk r (Accepts m) → IfOk r (IsAccepted doc top)
      by (Err e) h = tt
      by (Ok net) h = record {
        is_net = record {
          «module» = m;
          is_top = is_top;
          early = h.0;
          no_loop = no_loop_of_order (net_of m) h.1.order;
          not_reserved = h.1.not_reserved;
          is = h.2;
        };
        within = subst (λ n. limit_fault n ≡ None) (sym h.2) h.1.within;
      }

  pub never_refused : IfOk answer (λ _. (e : NetError) → Refuses doc top e → ⊥)
  never_refused = by answer accepts
    where
      refused : (e : NetError) → early_refusal m ≡ None → Refuses doc top e → RefusesLate m e
      refused e early h =
          subst (λ o. MatchOption o (RefusesLate m e) (λ first. e ≡ first)) early
          (subst (λ o. MatchOption o (e ≡ NoTop) (λ n. RefusesModule n e)) is_top h)

      by : (r : Result Net E) → IfOk r (Accepts m) → IfOk r (λ _. (e : NetError) → Refuses doc top e → ⊥)
      by (Err x) h = tt
      by (Ok net) h = λ e r. never m e (record { no_loop = no_loop_of_order (net_of m) h.1.order; not_reserved = h.1.not_reserved; within = h.1.within }) (refused e h.0 r)

  pub refused_by : (e : NetError) → RefusesModule m e → Refuses doc top e
  refused_by e h = subst (λ o. MatchOption o (e ≡ NoTop) (λ n. RefusesModule n e)) (sym is_top) h

-- ---- one answer

module _ (doc : Document) (top : Option (List ℕ)) where
  of_top : (m : Module) (e : NetError) → top_of doc top ≡ Some m → Refuses doc top e → RefusesModule m e
  of_top m e is_top h = subst (λ o. MatchOption o (e ≡ NoTop) (λ n. RefusesModule n e)) is_top h

  -- an accepted document is not refused
  pub accepted_not_refused : (net : Net) (e : NetError) → IsAccepted doc top net → Refuses doc top e → ⊥
  accepted_not_refused net e a h =
      let n = a.is_net in
      never n.«module» e
      (record { no_loop = n.no_loop; not_reserved = n.not_reserved; within = subst (λ x. limit_fault x ≡ None) n.is a.within })
      (subst (λ o. MatchOption o (RefusesLate n.«module» e) (λ first. e ≡ first)) n.early (of_top n.«module» e n.is_top h))

  -- a document has one netlist
  pub one_netlist : (net other : Net) → IsAccepted doc top net → IsAccepted doc top other → net ≡ other
  one_netlist net other a b =
      let both : Some a.is_net.«module» ≡ Some b.is_net.«module» = sym a.is_net.is_top ∙ b.is_net.is_top in
      let same : a.is_net.«module» ≡ b.is_net.«module» = cc in
      a.is_net.is ∙ ap net_of same ∙ sym b.is_net.is

  -- two refusals of a document are both of a count above its limit, or neither is
  pub one_refusal : (e f : NetError) → Refuses doc top e → Refuses doc top f → is_limit e ≡ is_limit f
  one_refusal e f a b = by (top_of doc top) a b
    where
      of_module : (m : Module) (early : Option NetError) → MatchOption early (RefusesLate m e) (λ first. e ≡ first) →
          MatchOption early (RefusesLate m f) (λ first. f ≡ first) → is_limit e ≡ is_limit f
      of_module m None h k = one_kind m e f (late_kind m e h) (late_kind m f k)
      of_module m (Some first) h k = ap is_limit (h ∙ sym k)

      by : (found : Option Module) → MatchOption found (e ≡ NoTop) (λ m. RefusesModule m e) →
          MatchOption found (f ≡ NoTop) (λ m. RefusesModule m f) → is_limit e ≡ is_limit f
      by None h k = ap is_limit (h ∙ sym k)
      by (Some m) h k = of_module m (early_refusal m) h k
