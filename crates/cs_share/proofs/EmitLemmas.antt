-- What the calls of an emission need, and what it is.
use Rattle.std.proofs.Common.{◌≡◌, ◌∙◌, ℕ, zero, suc, ◌+◌, ◌-◌, ◌*◌, ◌^◌, ◌<◌, ◌≤◌, Bool, List, [], ◌∷◌, ◌++◌, length, map, take, Option, Some, None, ap, arith, get_or, refl, subst, sym}
use Rattle.std.specs.Prelude.{ℤ, All, slice_get, ◌↔◌, IsTrue, true, false, not, ◌&&◌, is_none, if◌then◌else◌, Result, Ok, Err, IfOk}
use Rattle.std.specs.declared.alloc.AllocError.{AllocError}
use Rattle.std.specs.List.{AllByRecursion}
use Rattle.std.proofs.Math.Seq.{take-suc}
use Rattle.std.proofs.lemmas.List.{map-append}
use Rattle.std.proofs.lemmas.List.Elements.{All-from_get_or, All-nil}
use Rattle.std.proofs.lemmas.Option.{get_or_from_slice_get, none-some, same_Some, slice_get-get_or}
use Rattle.cs_base.specs.declared.contexts.Mode.TheVariants.{Any}
use Rattle.cs_circuit.specs.declared.circuit.Circuit.{Circuit}
use Rattle.cs_circuit.specs.declared.circuit.MemoryPart.{MemoryPart}
use Rattle.cs_circuit.specs.declared.circuit.ReadPart.{ReadPart}
use Rattle.cs_circuit.specs.Documents.{IsCircuitDocument}
use Rattle.cs_circuit.specs.Sizes.{AreNumbersRising, HasSmallMemories, HasSmallRegisters, IsSmallMemory}
use Rattle.cs_circuit.specs.WellFormed.{IsCircuit, IsMemoryPart}
use Rattle.cs_graph.specs.declared.contents.Contents.{Contents}
use Rattle.cs_graph.specs.declared.graph.Graph.{Graph}
use Rattle.cs_graph.specs.Invariant.{IsMachine}
use Rattle.cs_graph.specs.Lags.{HasLengths, IsLegal, retimed}
use Rattle.cs_graph.specs.OtherContents.{register_count}
use Rattle.cs_json.specs.declared.document.Document.{Document}
use Rattle.cs_prefix.specs.declared.plan.Plan.{Plan}
use Rattle.cs_prefix.specs.Prefixes.{IsPlan}
use Rattle.cs_share.specs.declared.types.Names.{Names}
use Rattle.cs_share.specs.Assembled.{FitsPlan, planned_circuit}
use Rattle.cs_share.specs.Emission.{IsEmission, clocked_names, shared_circuit}
use Rattle.cs_share.specs.Names.{AreNamesFor}
use Rattle.cs_share.specs.Ports.{with_clock}
use Rattle.cs_share.specs.Shared.{has_some}
use Rattle.cs_share.specs.Registers.{edge_contents, edge_drivers}
use Rattle.cs_share.proofs.CircuitMachines.{retimed_count, retimed_machine}
use Rattle.cs_share.proofs.CircuitShared.{names_fit}
use Rattle.cs_share.proofs.CircuitSignals.{AreCircuitNames, all_small, inputs_few}
use Rattle.cs_share.proofs.CircuitWhole.{shared_is_circuit}
use Rattle.cs_share.proofs.PlannedCircuit.{clocked_by, clocked_is, retimed_by_plan}
use Rattle.cs_share.proofs.PlannedNeeds.{have_ends, have_sources, retimed_have_ends}
use Rattle.cs_share.proofs.PlannedRegisters.{end_count}
use Rattle.cs_share.proofs.PlannedRetimed.{retimed_plan}

all_at : {A : Type 0} (P : A → Type 0) (xs : List A) → ((i : ℕ) (x : A) → slice_get xs i ≡ Some x → P x) → All P xs
all_at P [] each = All-nil P
all_at P (x ∷ xs) each =
    All-from_get_or P (x ∷ xs) x (λ i low. each i (get_or (x ∷ xs) i x) (slice_get-get_or (x ∷ xs) i x low))

at_all : {A : Type 0} (P : A → Type 0) (xs : List A) → AllByRecursion P xs → (i : ℕ) (x : A) → slice_get xs i ≡ Some x → P x
at_all P [] all i x at = absurd (none-some x at)
at_all P (y ∷ xs) all zero x at = subst P (same_Some y x at) all.0
at_all P (y ∷ xs) all (suc i) x at = at_all P xs all.1 i x at

-- one more is made of its place
pub map_on : {A B : Type 0} (f : A → B) (xs : List A) (i : ℕ) (ys : List B) (x : A) → i < length xs
    → slice_get xs i ≡ Some x → ys ≡ map f (take i xs) → ys ++ f x ∷ [] ≡ map f (take (i + 1) xs)
map_on f xs i ys x below found so_far =
    let next : i + 1 ≡ suc i = omega arith in
    ap (λ zs. zs ++ f x ∷ []) so_far
    ∙ sym (map-append f (take i xs) (x ∷ []))
    ∙ ap (λ y. map f (take i xs ++ y ∷ [])) (sym (get_or_from_slice_get xs i x x found))
    ∙ ap (map f) (sym (take-suc xs i x below))
    ∙ ap (λ n. map f (take n xs)) (sym next)

-- ---- circuits

module _ (k : Circuit) (is : IsCircuit k) where
  pub numbers_rising : AreNumbersRising k.gates
  numbers_rising = is.apart.numbers

  pub small_registers : HasSmallRegisters k
  small_registers = let small = is.apart.small in omega (arith, small)

  read_fits : (i j : ℕ) (memory : MemoryPart) (read : ReadPart) → slice_get k.memories i ≡ Some memory
      → slice_get memory.reads j ≡ Some read → 0 < memory.width → read.first + memory.width ≤ 2 ^ 32
  read_fits i j memory read at there some =
      let last = is.apart.reads_among i j (memory.width - 1) (read.first + (memory.width - 1)) (record {
        memory = memory;
        read = read;
        memory_is = at;
        read_is = there;
        among = omega (arith, some);
        is = refl;
      }) in
      let low = last.1 in
      let small = is.apart.small in
      omega (arith, some, low, small)

  pub small_memories : HasSmallMemories k
  small_memories =
      all_at IsSmallMemory k.memories (λ i memory at.
      let fits = at_all (IsMemoryPart k.clock) k.memories is.memories i memory at in record {
        few_reads = fits.few_reads;
        few_writes = fits.few_writes;
        bits = all_at (λ (read : ReadPart). read.first + memory.width ≤ 2 ^ 32) memory.reads
            (λ j read there. read_fits i j memory read at there fits.some_bits);
      })

-- ---- the plan of a machine's registers

module _ (m : Graph) (machine : IsMachine m) (lags : List ℤ) (k : Contents) (legal : IsLegal m Any lags)
    (lengths : HasLengths m lags k) (few : register_count k ≤ 65536) (names : Names) (fit : AreNamesFor m names)
    (plan : Plan) (is : IsPlan (edge_drivers m) k.of plan) where
  abbrev g : Graph
  g = retimed lags k m

  made : IsMachine g
  made = retimed_machine m Any lags k machine legal lengths few

  abbrev fits_graph : AreNamesFor g names
  fits_graph = record {
    net = fit.net;
    well_formed = fit.well_formed;
    of_net = fit.of_net;
    inputs = fit.inputs;
    outputs = fit.outputs;
    clock = fit.clock;
  }

  abbrev whole : IsPlan (edge_drivers g) (edge_contents g) plan
  whole = retimed_plan lags k m lengths plan is

  own : AreCircuitNames g whole.keys (clocked_names whole.keys names)
  own = names_fit g whole.keys names fits_graph

  fits_keys : FitsPlan m (clocked_names whole.keys names) plan
  fits_keys =
      let small = all_small g made whole.keys whole.are (clocked_names whole.keys names) own in
      let inputs = inputs_few g made whole.keys whole.are (clocked_names whole.keys names) own in
      let ends = end_count g whole.keys plan whole.is in
      let edges = retimed_count lags k m in record {
        inputs = omega (arith, inputs);
        bits = omega (arith, small);
        count = ends ∙ edges;
        ends = retimed_have_ends lags k m _ _ _ plan.ends
            (have_ends g made whole.keys whole.are (clocked_names whole.keys names) own plan whole.is);
        sources = have_sources g made whole.keys whole.are (clocked_names whole.keys names) own plan whole.is;
      }

  -- what the circuit by the plan needs
  pub fits_plan : FitsPlan m (clocked_by plan names) plan
  fits_plan = subst (λ n. FitsPlan m n plan) (sym (clocked_is g names whole.keys plan whole.is)) fits_keys

  abbrev circuit : Circuit
  circuit = planned_circuit m (clocked_by plan names) plan

  circuit_fits : IsCircuit circuit
  circuit_fits =
      let r = retimed_by_plan lags k m lengths names plan is in
      subst IsCircuit (sym r.2) (shared_is_circuit g r.0 names made r.1 fits_graph)

  -- what its document needs
  pub rising : AreNumbersRising circuit.gates
  rising = numbers_rising circuit circuit_fits

  pub registers_small : HasSmallRegisters circuit
  registers_small = small_registers circuit circuit_fits

  pub memories_small : HasSmallMemories circuit
  memories_small = small_memories circuit circuit_fits

  -- and that this is the emission
  pub emitted : (doc : Document) → IsCircuitDocument circuit doc → IsEmission g names doc
  emitted doc d =
      let r = retimed_by_plan lags k m lengths names plan is in
      record { keys = r.0; registers = r.1; of_circuit = subst (λ c. IsCircuitDocument c doc) r.2 d }

-- ---- what the code has in hand

some_of : {A : Type 0} (xs : List A) (empty : Bool) → (IsTrue empty ↔ (xs ≡ [])) → not empty ≡ has_some xs
some_of [] true is = refl
some_of [] false is = let none : false ≡ true = is.1 refl in absurd (cc)
some_of (x ∷ xs) true is = let none : x ∷ xs ≡ [] = is.0 refl in absurd (cc)
some_of (x ∷ xs) false is = refl

pub clocked_by_plan : (plan : Plan) (names made : Names) (empty : Bool) → (IsTrue empty ↔ (plan.registers ≡ []))
    → made ≡ (if is_none names.clock && not empty then with_clock names else names) → made ≡ clocked_by plan names
clocked_by_plan plan names made empty none is =
    is ∙ ap (λ some. if is_none names.clock && some then with_clock names else names) (some_of plan.registers empty none)

module _ (m : Graph) (machine : IsMachine m) (lags : List ℤ) (k : Contents) (legal : IsLegal m Any lags)
    (lengths : HasLengths m lags k) (few : register_count k ≤ 65536) (names : Names) (fit : AreNamesFor m names)
    (plan : Plan) (is : IsPlan (edge_drivers m) k.of plan) (clocked : Names) (same : clocked ≡ clocked_by plan names)
    (made : Circuit) (of : made ≡ planned_circuit m clocked plan) where
  made_is : made ≡ planned_circuit m (clocked_by plan names) plan
  made_is = of ∙ ap (λ n. planned_circuit m n plan) same

  pub made_rising : AreNumbersRising made.gates
  made_rising = subst (λ (c : Circuit). AreNumbersRising c.gates) (sym made_is) (rising m machine lags k legal lengths few names fit plan is)

  pub made_registers : HasSmallRegisters made
  made_registers = subst HasSmallRegisters (sym made_is) (registers_small m machine lags k legal lengths few names fit plan is)

  pub made_memories : HasSmallMemories made
  made_memories = subst HasSmallMemories (sym made_is) (memories_small m machine lags k legal lengths few names fit plan is)

  pub made_emission : (result : Result Document AllocError) → IfOk result (IsCircuitDocument made)
      → IfOk result (IsEmission (retimed lags k m) names)
  made_emission (Ok doc) d =
      emitted m machine lags k legal lengths few names fit plan is doc (subst (λ c. IsCircuitDocument c doc) made_is d)
  made_emission (Err error) d = d
