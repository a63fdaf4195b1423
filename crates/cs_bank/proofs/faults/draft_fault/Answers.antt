-- The first count that is above its limit.
use Rattle.std.proofs.Common.{◌≡◌, ◌∙◌, ℕ, length, sym, ap, None, Some}
use Rattle.std.specs.Prelude.{min, Option}
use Rattle.std.specs.Option.{option_or}
use Rattle.cs_base.specs.declared.limit.Counted.TheVariants.{Edges, Vertices, Weight}
use Rattle.cs_graph.specs.Draft.{edge_count, weight}
use Rattle.cs_net.specs.Accept.{above_limit}
use Rattle.cs_bank.specs.Bank.{banked, banked_vertices}
use Rattle.cs_bank.specs.BankFaults.{memory_bits}
use Rattle.cs_bank.specs.Wired.{wired}
use Rattle.cs_bank.proofs.Counted.{most}
use Rattle.cs_bank.proofs.MeasureLemmas.{extent_edges, extent_registers, extent_vertices}
use Rattle.cs_bank.proofs.faults.draft_fault.Goals as goal

first_is : {A : Type 0} (a b : Option A) (x : A) → a ≡ Some x → Some x ≡ option_or a b
first_is a b x is = sym (ap (λ o. option_or o b) is)

none_first : {A : Type 0} (a b : Option A) → a ≡ None → option_or a b ≡ b
none_first a b none = ap (λ o. option_or o b) none

counted : (count count' found : ℕ) → found ≡ min count most → count ≡ count' → found ≡ min count' most
counted count count' found is same = is ∙ ap (λ n. min n most) same

pub returns-in-Some : goal.returns-in-Some
returns-in-Some c entries count =
    let vs = banked_vertices c.args.contexts (wired c.args.machine.now) in
    let vertices = c.above_limit.ensures (length vs)
    (counted _ (length vs) _ c.banked_count-vertices.ensures (extent_vertices vs)) in
    first_is (above_limit Vertices (length vs) 4096) _ c.in-Some.fault (sym vertices ∙ c.in-Some.is)

pub returns-in-Some-above_limit : goal.returns-in-Some-above_limit
returns-in-Some-above_limit c entries count =
    let vs = banked_vertices c.args.contexts (wired c.args.machine.now) in
    let vertices = c.above_limit.ensures (length vs)
    (counted _ (length vs) _ c.banked_count-vertices.ensures (extent_vertices vs)) in
    let edges = c.above_limit-2.ensures (edge_count vs)
    (counted _ (edge_count vs) _ c.banked_count-edges.ensures (extent_edges vs)) in
    first_is (above_limit Edges (edge_count vs) 32768) _ c.in-Some-above_limit.fault
    (ap (above_limit Edges (edge_count vs)) (sym c.from.ensures) ∙ sym edges ∙ c.in-Some-above_limit.is)
    ∙ sym (none_first (above_limit Vertices (length vs) 4096) _ (sym vertices ∙ c.in_default.is))

pub returns-in-Some-above_limit-2 : goal.returns-in-Some-above_limit-2
returns-in-Some-above_limit-2 c entries count =
    let vs = banked_vertices c.args.contexts (wired c.args.machine.now) in
    let vertices = c.above_limit.ensures (length vs)
    (counted _ (length vs) _ c.banked_count-vertices.ensures (extent_vertices vs)) in
    let edges = c.above_limit-2.ensures (edge_count vs)
    (counted _ (edge_count vs) _ c.banked_count-edges.ensures (extent_edges vs)) in
    let registers = c.above_limit-3.ensures (weight vs)
    (counted _ (weight vs) _ c.banked_count-registers.ensures (extent_registers vs)) in
    first_is (above_limit Weight (weight vs) 65536) _ c.in-Some-above_limit-2.fault
    (sym registers ∙ c.in-Some-above_limit-2.is)
    ∙ sym (none_first (above_limit Edges (edge_count vs) 32768) _
    (ap (above_limit Edges (edge_count vs)) (sym c.from.ensures) ∙ sym edges ∙ c.in_default-above_limit.is))
    ∙ sym (none_first (above_limit Vertices (length vs) 4096) _ (sym vertices ∙ c.in_default.is))

pub returns : goal.returns
returns c entries count =
    let d = banked c.args.contexts entries (wired c.args.machine.now) in
    let vs = banked_vertices c.args.contexts (wired c.args.machine.now) in
    let vertices = c.above_limit.ensures (length vs)
    (counted _ (length vs) _ c.banked_count-vertices.ensures (extent_vertices vs)) in
    let edges = c.above_limit-2.ensures (edge_count vs)
    (counted _ (edge_count vs) _ c.banked_count-edges.ensures (extent_edges vs)) in
    let registers = c.above_limit-3.ensures (weight vs)
    (counted _ (weight vs) _ c.banked_count-registers.ensures (extent_registers vs)) in
    c.above_limit-4.ensures (memory_bits d.memories) (c.memory_bits-bits.ensures entries count)
    ∙ sym (none_first (above_limit Weight (weight vs) 65536) _ (sym registers ∙ c.in_default-above_limit-2.is))
    ∙ sym (none_first (above_limit Edges (edge_count vs) 32768) _
    (ap (above_limit Edges (edge_count vs)) (sym c.from.ensures) ∙ sym edges ∙ c.in_default-above_limit.is))
    ∙ sym (none_first (above_limit Vertices (length vs) 4096) _ (sym vertices ∙ c.in_default.is))
