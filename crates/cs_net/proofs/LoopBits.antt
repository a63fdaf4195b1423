-- A loop of elements as a loop of bits: each element reads a bit that the next one is the first to drive.
use Rattle.std.proofs.Common.{◌≡◌, ℕ, zero, suc, ◌+◌, List, [], ◌∷◌, ◌++◌, length, map, Bool, true, cond, Some, refl, sym, ap, subst, ◌∙◌, arith, inl, inr}
use Rattle.std.specs.Prelude.{IsTrue, Contains, find, option_map, slice_get, unwrap_or}
use Rattle.std.specs.Option.{option_and_then}
use Rattle.std.specs.List.{position_from}
use Rattle.std.proofs.lemmas.Bool.{cases_Bool, eq-eqb}
use Rattle.std.proofs.lemmas.List.{length-map}
use Rattle.std.proofs.lemmas.Option.{get_or_from_slice_get, slice_get-map}
use Rattle.cs_base.specs.declared.signal.Signal.{Signal}
use Rattle.cs_base.specs.declared.signal.Signal.TheVariants.{Zero, One, Unknown, HighZ, Bit}
use Rattle.cs_order.specs.Graphs.{DependsOn, IsLoop as IsLoopOfVertices, IsWalk, sources_of}
use Rattle.cs_order.proofs.CallerLemmas.{depends_within}
use Rattle.cs_base.proofs.ListLemmas.{contains_at, same_element}
use Rattle.cs_net.specs.declared.elements.Element.{Element}
use Rattle.cs_modules.specs.Signals.{number_in, holds_bit, is_bit}
use Rattle.cs_net.specs.Drivers.{IsBitChain, IsBitLoop, depends_on}
use Rattle.cs_net.specs.Elements.{elements_of, graph_of, owner, sources}
use Rattle.cs_net.specs.Netlist.{Net}
use Rattle.cs_net.proofs.ElementLemmas.{element_that_drives, fanin_of_driver}
use Rattle.cs_net.proofs.Members.{Has, any_of, has_left, has_of_choice, has_right, within_has}

-- the element of this number reads the bit
pub record ReadsBit (elements : List Element) (v b : ℕ) : Type 0 where
  pub element : Element
  pub stands : slice_get elements v ≡ Some element
  pub reads : holds_bit b element.inputs ≡ true

-- the element of this number is the first to drive the bit
pub record DrivesBit (elements : List Element) (w b : ℕ) : Type 0 where
  pub element : Element
  pub stands : slice_get elements w ≡ Some element
  pub drives : holds_bit b element.outputs ≡ true
  pub first : element_that_drives b elements ≡ Some element

-- ---- one dependency

first_from : (test : Element → Bool) (i : ℕ) (elements : List Element) (w : ℕ)
    → position_from test i elements ≡ Some w
    → (k : ℕ) × (w ≡ i + k)
    × ((e : Element) × (slice_get elements k ≡ Some e) × (test e ≡ true) × (find test elements ≡ Some e))
first_from test i [] w is = cc
first_from test i (x ∷ elements) w is = elim (cases_Bool (test x)) [
  | inl passes ↦
      let here : Some i ≡ Some w =
      ap (λ t. cond t (Some i) (position_from test (i + 1) elements)) (sym passes) ∙ is in
      let same : i ≡ w = cc in
      (zero, omega arith, (x, refl, passes, ap (λ t. cond t (Some x) (find test elements)) passes))
  | inr fails ↦
      let later : position_from test (i + 1) elements ≡ Some w =
      ap (λ t. cond t (Some i) (position_from test (i + 1) elements)) (sym fails) ∙ is in
      let rest = first_from test (i + 1) elements w later in (
        suc rest.0,
        omega (arith, rest.1),
        (rest.2.0, rest.2.1, rest.2.2, ap (λ t. cond t (Some x) (find test elements)) fails ∙ rest.2.3),
      )
]

owner_drives : (elements : List Element) (b w : ℕ) → owner elements b ≡ Some w → DrivesBit elements w b
owner_drives elements b w is =
    let found = first_from (λ (e : Element). holds_bit b e.outputs) 0 elements w is in
    let same : w ≡ found.0 = omega (arith, found.1) in
    record {
      element = found.2.0;
      stands = ap (slice_get elements) same ∙ found.2.1;
      drives = found.2.2;
      first = found.2.3;
    }

owned_bit : (elements : List Element) (s : Signal) (w : ℕ)
    → option_and_then (owner elements) (number_in s) ≡ Some w
    → (b : ℕ) × (s ≡ Bit b) × (owner elements b ≡ Some w)
owned_bit elements Zero w is = cc
owned_bit elements One w is = cc
owned_bit elements Unknown w is = cc
owned_bit elements HighZ w is = cc
owned_bit elements (Bit b) w is = (b, refl, is)

-- a source drives a bit that the element reads
pub depends_by_bit : (elements : List Element) (v w : ℕ) → DependsOn (graph_of elements) v w
    → (b : ℕ) × ReadsBit elements v b × DrivesBit elements w b
unfolding graph_of
depends_by_bit elements v w h =
    let long : length (map (sources elements) elements) ≡ length elements =
    length-map elements (sources elements) in
    let e = within_has elements v (omega (arith, depends_within (graph_of elements) v w h, long)) in
    let row : sources_of (graph_of elements) v ≡ sources elements e.0 =
    get_or_from_slice_get (map (sources elements) elements) v (sources elements e.0) []
    (slice_get-map (sources elements) elements v ∙ ap (option_map (sources elements)) e.1) in
    let P : List ℕ → Type 0 = λ row. Contains row w in
    let has = contains_at (sources elements e.0) w (subst P row h.source) in
    let from = has_of_choice (λ s. option_and_then (owner elements) (number_in s)) e.0.inputs w has in
    let bit = owned_bit elements from.0 w from.2 in
    let Q : Signal → Type 0 = Has e.0.inputs in (
      bit.0,
      record {
        element = e.0;
        stands = e.1;
        reads = any_of (is_bit bit.0) e.0.inputs (Bit bit.0) (subst Q bit.1 from.1) (eq-eqb bit.0 bit.0 refl);
      },
      owner_drives elements bit.0 w bit.2,
    )

-- a bit depends on what its first driver reads
bit_depends : (net : Net) (b w a : ℕ) → DrivesBit (elements_of net) w b → ReadsBit (elements_of net) w a
    → IsTrue (depends_on net b a)
bit_depends net b w a drives reads =
    let same = same_element (elements_of net) w drives.element reads.element drives.stands reads.stands in
    ap (holds_bit a)
    (fanin_of_driver net b
    ∙ ap (λ found. unwrap_or (option_map (λ (e : Element). e.inputs) found) []) drives.first
    ∙ ap (λ (e : Element). e.inputs) same)
    ∙ reads.reads

-- ---- a walk

-- the bits of a walk, one for each dependency
pub record WalkBits (net : Net) (v : ℕ) (vs : List ℕ) (w : ℕ) : Type 0 where
  pub first : ℕ
  pub rest : List ℕ
  pub read : ReadsBit (elements_of net) v first
  pub chain : (a : ℕ) → ReadsBit (elements_of net) w a → IsBitChain net (first ∷ rest) a
  pub driven : (u : ℕ) → Has (vs ++ w ∷ []) u
      → (b : ℕ) × Has (first ∷ rest) b × DrivesBit (elements_of net) u b

pub walk_bits : (net : Net) (v : ℕ) (vs : List ℕ) (w : ℕ) → IsWalk (graph_of (elements_of net)) v vs w
    → WalkBits net v vs w
walk_bits net v [] w walk =
    let bit = depends_by_bit (elements_of net) v w walk in
    record {
      first = bit.0;
      rest = [];
      read = bit.1;
      chain = λ a reads. bit_depends net bit.0 w a bit.2 reads;
      driven = λ u has. (bit.0, (zero, refl), alone u bit.0 bit.2 has);
    }
  where
    alone : (u b : ℕ) → DrivesBit (elements_of net) w b → Has (w ∷ []) u → DrivesBit (elements_of net) u b
    alone u b drives (zero, stands) =
        let same : w ≡ u = cc in
        let P : ℕ → Type 0 = λ u. DrivesBit (elements_of net) u b in
        subst P same drives
    alone u b drives (suc i, stands) = cc
walk_bits net v (u ∷ vs) w walk =
    let bit = depends_by_bit (elements_of net) v u walk.0 in
    let more = walk_bits net u vs w walk.1 in
    record {
      first = bit.0;
      rest = more.first ∷ more.rest;
      read = bit.1;
      chain = λ a reads. (bit_depends net bit.0 u more.first bit.2 more.read, more.chain a reads);
      driven = λ x has. either x bit.0 (more.first ∷ more.rest) bit.2 (λ later. more.driven x later) has;
    }
  where
    either : (x b : ℕ) (bits : List ℕ) → DrivesBit (elements_of net) u b
        → (Has (vs ++ w ∷ []) x → (c : ℕ) × Has bits c × DrivesBit (elements_of net) x c)
        → Has (u ∷ vs ++ w ∷ []) x → (c : ℕ) × Has (b ∷ bits) c × DrivesBit (elements_of net) x c
    either x b bits drives more (zero, stands) =
        let same : u ≡ x = cc in
        let P : ℕ → Type 0 = λ x. DrivesBit (elements_of net) x b in
        (b, (zero, refl), subst P same drives)
    either x b bits drives more (suc i, stands) =
        let later = more (i, stands) in (later.0, (suc later.1.0, later.1.1), later.2)

-- each vertex of a walk reads a bit
walk_reads : (net : Net) (v : ℕ) (vs : List ℕ) (w : ℕ) → IsWalk (graph_of (elements_of net)) v vs w → (x : ℕ)
    → Has (v ∷ vs) x → (a : ℕ) × ReadsBit (elements_of net) x a
walk_reads net v [] w walk x (zero, stands) =
    let bit = depends_by_bit (elements_of net) v w walk in
    let same : v ≡ x = cc in
    let P : ℕ → Type 0 = λ x. ReadsBit (elements_of net) x bit.0 in
    (bit.0, subst P same bit.1)
walk_reads net v [] w walk x (suc i, stands) = cc
walk_reads net v (u ∷ vs) w walk x (zero, stands) =
    let bit = depends_by_bit (elements_of net) v u walk.0 in
    let same : v ≡ x = cc in
    let P : ℕ → Type 0 = λ x. ReadsBit (elements_of net) x bit.0 in
    (bit.0, subst P same bit.1)
walk_reads net v (u ∷ vs) w walk x (suc i, stands) = walk_reads net u vs w walk.1 x (i, stands)

-- ---- a loop

-- a vertex of a loop of these bits: it drives one of them, and depends on one
pub record IsLinked (net : Net) (bits : List ℕ) (x : ℕ) : Type 0 where
  pub element : Element
  pub stands : slice_get (elements_of net) x ≡ Some element
  pub read_bit : ℕ
  pub reads : holds_bit read_bit element.inputs ≡ true
  pub driven_bit : ℕ
  pub has : Has bits driven_bit
  pub drives : holds_bit driven_bit element.outputs ≡ true

-- the bits of a loop, with all its vertices
pub record LoopBits (net : Net) (vs : List ℕ) : Type 0 where
  pub bits : List ℕ
  pub loop : IsBitLoop net bits
  pub linked : (x : ℕ) → Has vs x → IsLinked net bits x

pub loop_bits : (net : Net) (vs : List ℕ) → IsLoopOfVertices (graph_of (elements_of net)) vs → LoopBits net vs
loop_bits net [] closed = absurd closed
loop_bits net (v ∷ vs) closed =
    let walk = walk_bits net v vs v closed.0 in
    record {
      bits = walk.first ∷ walk.rest;
      loop = walk.chain walk.first walk.read;
      linked = λ x has.
          let read = walk_reads net v vs v closed.0 x has in
          let driven = walk.driven x (turned x has) in
          let same =
          same_element (elements_of net) x driven.2.element read.1.element driven.2.stands
          read.1.stands in
          record {
            element = read.1.element;
            stands = read.1.stands;
            read_bit = read.0;
            reads = read.1.reads;
            driven_bit = driven.0;
            has = driven.1;
            drives = ap (λ (e : Element). holds_bit driven.0 e.outputs) (sym same) ∙ driven.2.drives;
          };
    }
  where
    turned : (x : ℕ) → Has (v ∷ vs) x → Has (vs ++ v ∷ []) x
    turned x (zero, stands) = has_right vs (v ∷ []) x (zero, stands)
    turned x (suc i, stands) = has_left vs (v ∷ []) x (i, stands)
