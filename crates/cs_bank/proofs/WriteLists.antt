-- The Writes of a memory, by number and as wired vertices; and where their guards stand.
use Rattle.std.proofs.Common.{◌≡◌, ℕ, zero, suc, ◌+◌, ◌*◌, ◌<◌, ◌≤◌, Bool, true, false, List, [], ◌∷◌, ◌++◌, length, map, take, drop, refl, sym, ap, ap₂, ◌∙◌, arith, length-append, append_assoc, mul-le-mul_right}
use Rattle.std.specs.Prelude.{slice_get, slice_set, get_or, Some, if◌then◌else◌}
use Rattle.std.specs.List.{count_by, range_with_len}
use Rattle.std.proofs.lemmas.Option.{none-some, same_Some, slice_get_within}
use Rattle.cs_graph.specs.declared.memory.Memory.{Memory}
use Rattle.cs_graph.specs.declared.source.OpenVertex.{OpenVertex}
use Rattle.cs_graph.specs.declared.vertex.Vertex.{Vertex}
use Rattle.cs_graph.specs.Draft.{open_kinds}
use Rattle.cs_graph.specs.Kinds.{is_write_of}
use Rattle.cs_bank.specs.Guards.{guard, guard_count, guards, guards_place, port_guard_count, port_guards, write_ports}
use Rattle.cs_bank.specs.WritePlaces.{writes_from}
use Rattle.cs_bank.proofs.GuardLemmas.{AreWritePins, HaveWritePins, get_write_port, length-guard, length-port_guards}
use Rattle.cs_bank.proofs.Lists.{drop_at}

-- ---- the same Writes

-- each number of a Write of memory i is that of a vertex, which stands at the same place among the wired ones
pub record IsWriteAt (w : Vertex → OpenVertex) (i v : ℕ) (xs : List Vertex) (k u : ℕ) : Type 0 where
  pub j : ℕ
  pub is : u ≡ v + j
  pub x : Vertex
  pub found : slice_get xs j ≡ Some x
  pub write : is_write_of i x.kind ≡ true
  pub at : slice_get (write_ports i (map w xs)) k ≡ Some (w x)

module _ (w : Vertex → OpenVertex) (same : (x : Vertex) → (w x).kind ≡ x.kind) where
  pub length-writes : (i v : ℕ) (xs : List Vertex) → length (writes_from i v xs) ≡ length (write_ports i (map w xs))
  length-writes i v [] = refl
  length-writes i v (x ∷ xs) =
      by (is_write_of i x.kind) (length-writes i (v + 1) xs)
      ∙ ap (λ kind. length (if is_write_of i kind then w x ∷ write_ports i (map w xs) else write_ports i (map w xs)))
      (sym (same x))
    where
      by : (b : Bool) → length (writes_from i (v + 1) xs) ≡ length (write_ports i (map w xs))
          → length (if b then v ∷ writes_from i (v + 1) xs else writes_from i (v + 1) xs)
          ≡ length (if b then w x ∷ write_ports i (map w xs) else write_ports i (map w xs))
      by true rest = ap suc rest
      by false rest = rest

  pub write_at : (i v : ℕ) (xs : List Vertex) (k u : ℕ) → slice_get (writes_from i v xs) k ≡ Some u
      → IsWriteAt w i v xs k u
  write_at i v [] k u found = absurd (none-some u found)
  write_at i v (x ∷ xs) k u found = by (is_write_of i x.kind) refl k found (λ j at. write_at i (v + 1) xs j u at)
    where
      kept : (b : Bool) → is_write_of i x.kind ≡ b → write_ports i (map w (x ∷ xs))
          ≡ (if b then w x ∷ write_ports i (map w xs) else write_ports i (map w xs))
      kept b on =
          ap (λ c. if c then w x ∷ write_ports i (map w xs) else write_ports i (map w xs))
          (ap (is_write_of i) (same x) ∙ on)

      by : (b : Bool) → is_write_of i x.kind ≡ b → (k : ℕ)
          → slice_get (if is_write_of i x.kind then v ∷ writes_from i (v + 1) xs else writes_from i (v + 1) xs) k
          ≡ Some u → ((j : ℕ) → slice_get (writes_from i (v + 1) xs) j ≡ Some u → IsWriteAt w i (v + 1) xs j u)
          → IsWriteAt w i v (x ∷ xs) k u
      by true on zero at rest = record {
        j = 0;
        is = let here = same_Some v u (sym (ap (λ c. slice_get
            (if c then v ∷ writes_from i (v + 1) xs else writes_from i (v + 1) xs) 0) on) ∙ at) in
            omega (arith, here);
        x = x;
        found = refl;
        write = on;
        at = ap (λ ys. slice_get ys 0) (kept true on);
      }
      by true on (suc k) at rest =
          let more = rest k (sym (ap (λ c. slice_get
          (if c then v ∷ writes_from i (v + 1) xs else writes_from i (v + 1) xs) (suc k)) on) ∙ at) in
          record {
            j = suc more.j;
            is = let was = more.is in omega (arith, was);
            x = more.x;
            found = more.found;
            write = more.write;
            at = ap (λ ys. slice_get ys (suc k)) (kept true on) ∙ more.at;
          }
      by false off k at rest =
          let more = rest k (sym (ap (λ c. slice_get
          (if c then v ∷ writes_from i (v + 1) xs else writes_from i (v + 1) xs) k) off) ∙ at) in
          record {
            j = suc more.j;
            is = let was = more.is in omega (arith, was);
            x = more.x;
            found = more.found;
            write = more.write;
            at = ap (λ ys. slice_get ys k) (kept false off) ∙ more.at;
          }

-- ---- noting one vertex more

pub no_write : (i v : ℕ) (xs : List Vertex) (x : Vertex) → is_write_of i x.kind ≡ false
    → writes_from i v (xs ++ x ∷ []) ≡ writes_from i v xs
no_write i v [] x off = ap (λ c. if c then v ∷ [] else []) off
no_write i v (y ∷ xs) x off =
    ap (λ rest. if is_write_of i y.kind then v ∷ rest else rest) (no_write i (v + 1) xs x off)

pub one_write : (i v : ℕ) (xs : List Vertex) (x : Vertex) → is_write_of i x.kind ≡ true
    → writes_from i v (xs ++ x ∷ []) ≡ writes_from i v xs ++ (v + length xs) ∷ []
one_write i v [] x on =
    let place : v ≡ v + 0 = omega arith in ap (λ c. if c then v ∷ [] else []) on ∙ ap (λ u. u ∷ []) place
one_write i v (y ∷ xs) x on = by (is_write_of i y.kind) (one_write i (v + 1) xs x on)
  where
    place : (v + 1) + length xs ≡ v + suc (length xs)
    place = omega arith

    by : (b : Bool) → writes_from i (v + 1) (xs ++ x ∷ []) ≡ writes_from i (v + 1) xs ++ ((v + 1) + length xs) ∷ []
        → (if b then v ∷ writes_from i (v + 1) (xs ++ x ∷ []) else writes_from i (v + 1) (xs ++ x ∷ []))
        ≡ (if b then v ∷ writes_from i (v + 1) xs else writes_from i (v + 1) xs) ++ (v + suc (length xs)) ∷ []
    by true rest = ap (λ ys. v ∷ ys) rest ∙ ap (λ n. v ∷ (writes_from i (v + 1) xs ++ n ∷ [])) place
    by false rest = rest ∙ ap (λ n. writes_from i (v + 1) xs ++ n ∷ []) place

-- a list of lists in which one is changed
pub set_in_range : (f g : ℕ → List ℕ) (a n memory : ℕ) → memory < n → ((i : ℕ) → (i ≡ a + memory → ⊥) → f i ≡ g i)
    → slice_set (map f (range_with_len a n)) memory (g (a + memory)) ≡ map g (range_with_len a n)
set_in_range f g a zero memory low others = absurd (omega (arith, low))
set_in_range f g a (suc n) zero low others =
    let here : a + 0 ≡ a = omega arith in
    ap₂ (λ j rest. g j ∷ rest) here (rest_same (a + 1) n (omega arith))
  where
    rest_same : (b m : ℕ) → a < b → map f (range_with_len b m) ≡ map g (range_with_len b m)
    rest_same b zero later = refl
    rest_same b (suc m) later =
        ap₂ (λ y ys. y ∷ ys) (others b (λ same. omega (arith, same, later))) (rest_same (b + 1) m (omega (arith, later)))
set_in_range f g a (suc n) (suc memory) low others =
    let next : a + suc memory ≡ (a + 1) + memory = omega arith in
    ap₂ (λ y j. y ∷ slice_set (map f (range_with_len (a + 1) n)) memory (g j))
    (others a (λ same. omega (arith, same))) next
    ∙ ap (λ ys. g a ∷ ys) (set_in_range f g (a + 1) n memory (omega (arith, low))
    (λ i other. others i (λ same. other (omega (arith, same)))))

pub get_in_range : (f : ℕ → List ℕ) (a n memory : ℕ) → memory < n
    → get_or (map f (range_with_len a n)) memory [] ≡ f (a + memory)
get_in_range f a zero memory low = absurd (omega (arith, low))
get_in_range f a (suc n) zero low = let here : a ≡ a + 0 = omega arith in ap f here
get_in_range f a (suc n) (suc memory) low =
    let next : (a + 1) + memory ≡ a + suc memory = omega arith in
    get_in_range f (a + 1) n memory (omega (arith, low)) ∙ ap f next

-- ---- where guards stand

pub first_place : (v i : ℕ) (ms : List Memory) (xs : List OpenVertex) → guards_place v i ms xs 0 ≡ v
first_place v i [] xs = refl
first_place v i (m ∷ ms) xs = refl

pub place_next : (v i : ℕ) (ms : List Memory) (xs : List OpenVertex) (k : ℕ) (m : Memory) → slice_get ms k ≡ Some m
    → guards_place v i ms xs (suc k) ≡ guards_place v i ms xs k + port_guard_count (i + k) m xs
place_next v i [] xs k m found = absurd (none-some m found)
place_next v i (n ∷ ms) xs zero m found =
    let here : i ≡ i + 0 = omega arith in
    first_place (v + port_guard_count i n xs) (i + 1) ms xs
    ∙ ap₂ (λ j o. v + port_guard_count j o xs) here (same_Some n m found)
place_next v i (n ∷ ms) xs (suc k) m found =
    let next : (i + 1) + k ≡ i + suc k = omega arith in
    place_next (v + port_guard_count i n xs) (i + 1) ms xs k m found
    ∙ ap (λ j. guards_place (v + port_guard_count i n xs) (i + 1) ms xs k + port_guard_count j m xs) next

pub place_within : (v i : ℕ) (ms : List Memory) (xs : List OpenVertex) (k : ℕ) → HaveWritePins i ms xs
    → guards_place v i ms xs k ≤ v + length (guards v i ms xs)
place_within v i [] xs k are = omega arith
place_within v i (m ∷ ms) xs zero are = omega arith
place_within v i (m ∷ ms) xs (suc k) are =
    let here : i + 0 ≡ i = omega arith in
    let v' = v + port_guard_count i m xs in
    let mine = port_guards v m (write_ports i xs) in
    let long = length-port_guards v m (write_ports i xs)
    (λ p x at. are 0 p m x refl (ap (λ j. slice_get (write_ports j xs) p) here ∙ at)) in
    let sum = length-append mine (guards v' (i + 1) ms xs) in
    let rest = place_within v' (i + 1) ms xs k
    (λ j p o x at on. are (suc j) p o x at
    (ap (λ a. slice_get (write_ports a xs) p) (let more : i + suc j ≡ (i + 1) + j = omega arith in more) ∙ on)) in
    omega (arith, long, sum, rest)

-- the guard of port p of a memory ends within the guards
pub guard_within : (v : ℕ) (ms : List Memory) (xs : List OpenVertex) (k p u : ℕ) (m : Memory) (x : OpenVertex)
    → HaveWritePins 0 ms xs → slice_get ms k ≡ Some m → slice_get xs u ≡ Some x → is_write_of k x.kind ≡ true
    → p ≡ count_by (is_write_of k) (take u (open_kinds xs))
    → (guards_place v 0 ms xs k + p * guard_count m) + guard_count m ≤ v + length (guards v 0 ms xs)
guard_within v ms xs k p u m x are found at on port =
    let none : 0 + k ≡ k = omega arith in
    let inside = slice_get_within (write_ports k xs) p x (ap (slice_get (write_ports k xs)) port
    ∙ get_write_port k xs u x at on) in
    let next = place_next v 0 ms xs k m found in
    let same = ap (λ j. port_guard_count j m xs) none in
    let last = place_within v 0 ms xs (suc k) are in
    let most : suc p * guard_count m ≤ length (write_ports k xs) * guard_count m = mul-le-mul_right (guard_count m) inside in
    let split : suc p * guard_count m ≡ p * guard_count m + guard_count m = omega arith in
    omega (arith, next, same, last, most, split)

-- ---- guards that are pushed

-- the guards of the ports from k on come behind the vertices
pub port_step : (m : Memory) (ports : List OpenVertex) (k : ℕ) (x : OpenVertex) (old items items' : List OpenVertex)
    → slice_get ports k ≡ Some x → AreWritePins m x.pins
    → items ++ port_guards (length items) m (drop k ports) ≡ old ++ port_guards (length old) m ports
    → items' ≡ items ++ guard (length items) m x.pins
    → items' ++ port_guards (length items') m (drop (k + 1) ports) ≡ old ++ port_guards (length old) m ports
port_step m ports k x old items items' found are so_far pushed =
    let mine = guard (length items) m x.pins in
    let count : length items' ≡ length items + guard_count m =
    ap length pushed ∙ length-append items mine ∙ ap (λ n. length items + n) (length-guard (length items) m x.pins are) in
    ap₂ (λ ys n. ys ++ port_guards n m (drop (k + 1) ports)) pushed count
    ∙ append_assoc items mine (port_guards (length items + guard_count m) m (drop (k + 1) ports))
    ∙ ap (λ ps. items ++ port_guards (length items) m ps) (sym (drop_at ports k x found))
    ∙ so_far

pub memory_step : (ms : List Memory) (xs : List OpenVertex) (i : ℕ) (m : Memory) (old items items' : List OpenVertex)
    → slice_get ms i ≡ Some m
    → ((p : ℕ) (x : OpenVertex) → slice_get (write_ports i xs) p ≡ Some x → AreWritePins m x.pins)
    → items ++ guards (length items) i (drop i ms) xs ≡ old ++ guards (length old) 0 ms xs
    → items' ≡ items ++ port_guards (length items) m (write_ports i xs)
    → items' ++ guards (length items') (i + 1) (drop (i + 1) ms) xs ≡ old ++ guards (length old) 0 ms xs
memory_step ms xs i m old items items' found are so_far pushed =
    let mine = port_guards (length items) m (write_ports i xs) in
    let count : length items' ≡ length items + port_guard_count i m xs =
    ap length pushed ∙ length-append items mine
    ∙ ap (λ n. length items + n) (length-port_guards (length items) m (write_ports i xs) are) in
    ap₂ (λ ys n. ys ++ guards n (i + 1) (drop (i + 1) ms) xs) pushed count
    ∙ append_assoc items mine (guards (length items + port_guard_count i m xs) (i + 1) (drop (i + 1) ms) xs)
    ∙ ap (λ rest. items ++ guards (length items) i rest xs) (sym (drop_at ms i m found))
    ∙ so_far

-- what comes behind fits where the whole does
pub within_whole : {A : Type 0} (items rest whole : List A) (n : ℕ) → items ++ rest ≡ whole → length whole ≤ n
    → length items + length rest ≤ n
within_whole items rest whole n is few =
    let sum = length-append items rest in let same = ap length is in omega (arith, sum, same, few)

-- the guards of one memory more fit where the whole does
pub memory_room : (ms : List Memory) (xs : List OpenVertex) (i : ℕ) (m : Memory) (items whole : List OpenVertex) (n : ℕ)
    → slice_get ms i ≡ Some m → items ++ guards (length items) i (drop i ms) xs ≡ whole → length whole ≤ n
    → length items + length (port_guards (length items) m (write_ports i xs)) ≤ n
memory_room ms xs i m items whole n found is few =
    let mine = port_guards (length items) m (write_ports i xs) in
    let rest = guards (length items + port_guard_count i m xs) (i + 1) (drop (i + 1) ms) xs in
    let all = ap (λ ys. items ++ guards (length items) i ys xs) (sym (drop_at ms i m found)) ∙ is in
    let within = within_whole items (mine ++ rest) whole n all few in
    let sum = length-append mine rest in
    omega (arith, within, sum)

-- there are no more Writes than vertices
pub few_writes : (i v : ℕ) (xs : List Vertex) → length (writes_from i v xs) ≤ length xs
few_writes i v [] = omega arith
few_writes i v (x ∷ xs) = by (is_write_of i x.kind) (few_writes i (v + 1) xs)
  where
    by : (b : Bool) → length (writes_from i (v + 1) xs) ≤ length xs
        → length (if b then v ∷ writes_from i (v + 1) xs else writes_from i (v + 1) xs) ≤ suc (length xs)
    by true few = omega (arith, few)
    by false few = omega (arith, few)
