-- The registers of a machine: each has its place, and there are no more of them than the machine has.
use Rattle.std.proofs.Common.{◌≡◌, ◌∙◌, ℕ, zero, suc, ◌+◌, ◌-◌, ◌<◌, ◌≤◌, ◌⊎◌, List, [], ◌∷◌, length, take, Bool, true, false, ◌||◌, cond, Some, ap, ap₂, arith, bytes_eq, inl, inr, map, refl, subst, sym}
use Rattle.std.specs.Prelude.{flat_map, slice_get}
use Rattle.std.specs.Cmp.Lexicographic.{slice_cmp}
use Rattle.std.specs.List.{list_any, position_from, sum_by}
use Rattle.std.specs.Ordering.{eq_by_cmp, nat_cmp}
use Rattle.std.specs.Set.{is_member}
use Rattle.std.proofs.lemmas.Cmp.{eq_by_cmp_equiv, nat_list_cmp_total}
use Rattle.std.proofs.lemmas.List.{length-map, length-take-le, take_all, take-take}
use Rattle.std.proofs.lemmas.List.Sums.{sum_by-cons}
use Rattle.std.proofs.lemmas.List.Concat.{length-flat_map}
use Rattle.std.proofs.lemmas.Map.Keys.{IsDistinct-from_sorted}
use Rattle.std.proofs.lemmas.Map.Made.{length-le_from_is_member}
use Rattle.std.proofs.lemmas.Option.{none-some}
use Rattle.cs_graph.specs.declared.edge.Edge.{Edge}
use Rattle.cs_graph.specs.declared.graph.Graph.{Graph}
use Rattle.cs_graph.specs.Invariant.{IsMachine}
use Rattle.cs_modules.specs.Pins.{count_from}
use Rattle.cs_net.proofs.CellNames.{same_itself}
use Rattle.cs_net.proofs.ClockPins.{counts}
use Rattle.cs_net.proofs.Members.{Has, any_of, has_in_chain, has_in_map}
use Rattle.cs_net.proofs.MemoryPlaces.{at_map, map_at}
use Rattle.cs_prefix.specs.declared.plan.DriverId.{DriverId}
use Rattle.cs_prefix.specs.Prefixes.{IsOnEdge, RegisterKey, edge_key, key_before, key_code, place_of_key}
use Rattle.cs_share.specs.Registers.{AreRegisters, driver_of_edge, edge_contents, edge_drivers}
use Rattle.cs_share.proofs.CircuitPorts.{length_count}

-- ---- places

position_there : {A : Type 0} (test : A → Bool) (k : ℕ) (xs : List A) (i : ℕ) (x : A) → slice_get xs i ≡ Some x → test x ≡ true
    → (p : ℕ) × (position_from test k xs ≡ Some p) × (p < k + length xs)
position_there test k [] i x at passes = absurd (none-some x at)
position_there {A = A} test k (y ∷ xs) i x at passes = by (test y) refl i at (position_there test (k + 1) xs)
  where
    by : (t : Bool) → test y ≡ t → (i : ℕ) → slice_get (y ∷ xs) i ≡ Some x
        → ((j : ℕ) (z : A) → slice_get xs j ≡ Some z → test z ≡ true
        → (p : ℕ) × (position_from test (k + 1) xs ≡ Some p) × (p < k + 1 + length xs))
        → (p : ℕ) × (cond t (Some k) (position_from test (k + 1) xs) ≡ Some p) × (p < k + length (y ∷ xs))
    by true is i at later = (k, refl, omega arith)
    by false is zero at later = let same : y ≡ x = cc in let never = sym is ∙ ap test same ∙ passes in absurd (cc)
    by false is (suc i) at later =
        let rest = later i x at passes in
        let low = rest.2 in
        (rest.0, rest.1, omega (arith, low))

-- a register of the machine has a place
pub key_placed : (g : Graph) (keys : List RegisterKey) → AreRegisters g keys → (key : RegisterKey)
    → IsOnEdge (edge_drivers g) (edge_contents g) key → (p : ℕ) × (place_of_key keys key ≡ Some p) × (p < length keys)
key_placed g keys are key needed =
    let at = are.there key needed in
    let found = position_there (λ other. bytes_eq (key_code other) (key_code key)) 0 keys at.0 key at.1 (same_itself (key_code key)) in
    let low = found.2 in
    (found.0, found.1, omega (arith, low))

-- ---- the registers of an edge

-- what all of an edge's contents say is the key of its last register
pub last_on_edge : (g : Graph) (e : ℕ) (d : Edge) → slice_get g.edges e ≡ Some d → 0 < length d.contents
    → IsOnEdge (edge_drivers g) (edge_contents g) (record { vertex = d.from; output = d.output; starts = d.contents })
last_on_edge g e d found some = record {
  e = e;
  driver = driver_of_edge d;
  all = d.contents;
  driver_is = at_map driver_of_edge g.edges e d found;
  contents_are = at_map (λ (x : Edge). x.contents) g.edges e d found;
  some = some;
  within = omega arith;
  is =
      ap (λ bs. let k : RegisterKey = record { vertex = d.from; output = d.output; starts = bs } in k)
      (sym (take_all (length d.contents) d.contents (omega arith)));
}

-- the edge of a register
pub edge_of_key : (g : Graph) (key : RegisterKey) (on : IsOnEdge (edge_drivers g) (edge_contents g) key)
    → (d : Edge) × (slice_get g.edges on.e ≡ Some d) × (d.from ≡ key.vertex) × (d.output ≡ key.output)
    × (key.starts ≡ take (length key.starts) d.contents) × (length key.starts ≤ length d.contents)
edge_of_key g key on =
    let one = map_at driver_of_edge g.edges on.e on.driver on.driver_is in
    let same : Some (one.0.contents) ≡ Some on.all = sym (at_map (λ (x : Edge). x.contents) g.edges on.e one.0 one.1) ∙ on.contents_are in
    let all : one.0.contents ≡ on.all = cc in
    let within = on.within in
    let lengths = ap length all in (
      one.0,
      one.1,
      ap (λ (x : DriverId). x.vertex) one.2 ∙ sym (ap (λ (k : RegisterKey). k.vertex) on.is),
      ap (λ (x : DriverId). x.output) one.2 ∙ sym (ap (λ (k : RegisterKey). k.output) on.is),
      ap (λ (k : RegisterKey). k.starts) on.is ∙ ap (take (length key.starts)) (sym all),
      omega (arith, within, lengths),
    )

-- before a register there is none, or the one before it
pub key_before_is : (g : Graph) (key : RegisterKey) → IsOnEdge (edge_drivers g) (edge_contents g) key
    → ((key_before key).starts ≡ []) ⊎ IsOnEdge (edge_drivers g) (edge_contents g) (key_before key)
key_before_is g key on = by (length key.starts) refl
  where
    by : (n : ℕ) → length key.starts ≡ n
        → ((key_before key).starts ≡ []) ⊎ IsOnEdge (edge_drivers g) (edge_contents g) (key_before key)
    by zero is = let some = on.some in absurd (omega (arith, some, is))
    by (suc zero) is = let none : length key.starts - 1 ≡ 0 = omega (arith, is) in inl (ap (λ k. take k key.starts) none)
    by (suc (suc n)) is =
        let within = on.within in
        let fewer : length key.starts - 1 ≤ length key.starts = omega (arith, is) in
        let count : length (take (length key.starts - 1) key.starts) ≡ length key.starts - 1 =
        length-take-le (length key.starts - 1) key.starts fewer in
        inr (record {
          e = on.e;
          driver = on.driver;
          all = on.all;
          driver_is = on.driver_is;
          contents_are = on.contents_are;
          some = omega (arith, count, is);
          within = omega (arith, count, within);
          is =
              let starts : take (length key.starts - 1) key.starts ≡ take (length (take (length key.starts - 1) key.starts)) on.all =
              ap (take (length key.starts - 1)) (ap (λ (k : RegisterKey). k.starts) on.is)
              ∙ take-take (length key.starts - 1) (length key.starts) on.all fewer
              ∙ ap (λ k. take k on.all) (sym count) in
              let vertex = ap (λ (k : RegisterKey). k.vertex) on.is in
              let output = ap (λ (k : RegisterKey). k.output) on.is in
              ap (λ v. let k : RegisterKey = record { vertex = v; output = key.output; starts = take (length key.starts - 1) key.starts } in k) vertex
              ∙ ap₂ (λ o bs. let k : RegisterKey = record { vertex = on.driver.vertex; output = o; starts = bs } in k) output starts;
        })

-- ---- how many there are

abbrev codes_of_edge : Edge → List (List ℕ)
codes_of_edge d = map (λ n. key_code (edge_key (driver_of_edge d) (take n d.contents))) (count_from 1 (length d.contents))

-- by their codes
abbrev same_code : List ℕ → List ℕ → Bool
same_code = eq_by_cmp (slice_cmp nat_cmp)

pub has_any : {A : Type 0} (test : A → Bool) (xs : List A) → list_any test xs ≡ true → (x : A) × Has xs x × (test x ≡ true)
has_any test [] h = absurd (cc)
has_any {A = A} test (y ∷ xs) h = by (test y) refl h (has_any test xs)
  where
    by : (t : Bool) → test y ≡ t → (t || list_any test xs) ≡ true → (list_any test xs ≡ true → (x : A) × Has xs x × (test x ≡ true))
        → (x : A) × Has (y ∷ xs) x × (test x ≡ true)
    by true is h later = (y, (0, refl), is)
    by false is h later = let rest = later h in (rest.0, (suc rest.1.0, rest.1.1), rest.2)

code_among : (g : Graph) (key : RegisterKey) → IsOnEdge (edge_drivers g) (edge_contents g) key
    → Has (flat_map codes_of_edge g.edges) (key_code key)
code_among g key on =
    let at = edge_of_key g key on in
    let d = at.0 in
    let some = on.some in
    let within = at.5 in
    let place : 1 + (length key.starts - 1) ≡ length key.starts = omega (arith, some) in
    let counted = counts 1 (length d.contents) (length key.starts - 1) (omega (arith, some, within)) in
    let made = has_in_map (λ n. key_code (edge_key (driver_of_edge d) (take n d.contents))) (count_from 1 (length d.contents))
    (1 + (length key.starts - 1)) (length key.starts - 1, counted) in
    let same : edge_key (driver_of_edge d) (take (1 + (length key.starts - 1)) d.contents) ≡ key =
    ap (λ n. edge_key (driver_of_edge d) (take n d.contents)) place
    ∙ ap₂ (λ v o. let k : RegisterKey = record { vertex = v; output = o; starts = take (length key.starts) d.contents } in k) at.2 at.3
    ∙ ap (λ bs. let k : RegisterKey = record { vertex = key.vertex; output = key.output; starts = bs } in k) (sym at.4) in
    has_in_chain codes_of_edge g.edges d (key_code key) (on.e, at.1) (subst (Has (codes_of_edge d)) (ap key_code same) made)

codes_are_few : (ds : List Edge) → ((e : ℕ) (d : Edge) → slice_get ds e ≡ Some d → length d.contents ≡ d.weight)
    → sum_by (λ d. length (codes_of_edge d)) ds ≡ sum_by (λ (d : Edge). d.weight) ds
codes_are_few [] held = refl
codes_are_few (d ∷ ds) held =
    sum_by-cons (λ d. length (codes_of_edge d)) d ds
    ∙ ap₂ (λ m n. m + n)
    (length-map (count_from 1 (length d.contents)) (λ n. key_code (edge_key (driver_of_edge d) (take n d.contents)))
    ∙ length_count 1 (length d.contents) ∙ held 0 d refl)
    (codes_are_few ds (λ e x found. held (suc e) x found))
    ∙ sym (sum_by-cons (λ (d : Edge). d.weight) d ds)

-- no more than the machine's registers
pub keys_few : (g : Graph) → IsMachine g → (keys : List RegisterKey) → AreRegisters g keys → length keys ≤ 65536
keys_few g machine keys are =
    let codes = map key_code keys in
    let all = flat_map codes_of_edge g.edges in
    let fewer : length (map key_code keys) ≤ length (flat_map codes_of_edge g.edges) =
    length-le_from_is_member (eq_by_cmp_equiv nat_list_cmp_total) (map key_code keys) (flat_map codes_of_edge g.edges)
    (IsDistinct-from_sorted (slice_cmp nat_cmp) (map key_code keys) are.order) (λ q there. member q there) in
    let same = length-map keys key_code in
    let count = length-flat_map codes_of_edge g.edges ∙ codes_are_few g.edges machine.well_formed.held in
    let most = machine.limits.weight in
    omega (arith, fewer, same, count, most)
  where
    member : (q : List ℕ) → is_member same_code (map key_code keys) q ≡ true → is_member same_code (flat_map codes_of_edge g.edges) q ≡ true
    member q there =
        let one = has_any (same_code q) (map key_code keys) there in
        let key = map_at key_code keys one.1.0 one.0 one.1.1 in
        let among = code_among g key.0 (are.needed one.1.0 key.0 key.1) in
        any_of (same_code q) (flat_map codes_of_edge g.edges) (key_code key.0) among (ap (same_code q) key.2 ∙ one.2)
