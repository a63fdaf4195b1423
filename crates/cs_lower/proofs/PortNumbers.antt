-- Ports among kinds of vertices are numbered in order: each by how many of its memory stand before.
use Rattle.std.specs.Prelude.{slice_get}
use Rattle.std.proofs.Common.{◌≡◌, ℕ, zero, suc, ◌+◌, ◌<◌, ◌≤◌, Bool, false, cond, List, [], ◌∷◌, ◌++◌, map, take, Some, refl, sym, ap, subst, arith}
use Rattle.std.specs.List.{AllByRecursion, count_by}
use Rattle.std.proofs.lemmas.Bool.{eq-eqb, ne_eqb}
use Rattle.std.proofs.lemmas.List.{append-nil, append_assoc}
use Rattle.std.proofs.lemmas.List.Sums.{sum_by-append, sum_by-cons}
use Rattle.std.proofs.lemmas.Option.{none-some, same_Some}
use Rattle.cs_graph.specs.declared.vertex.VertexKind.{VertexKind}
use Rattle.cs_graph.specs.declared.vertex.VertexKind.TheVariants.{Constant, Gate, Host, Input, Output, Read, Write}
use Rattle.cs_graph.specs.Invariant.{IsNextPort}
use Rattle.cs_graph.specs.Kinds.{is_read_of, is_write_of}
use Rattle.cs_lower.specs.declared.taps.Piece.{Piece}

-- the kinds of vertices
abbrev pub kinds_of : List Piece → List VertexKind
kinds_of pieces = map (λ p. p.kind) pieces

-- each port among these is numbered by those before it
abbrev pub AreNext : List VertexKind → List VertexKind → Type 0
AreNext before [] = Unit {0}
AreNext before (kind ∷ kinds) = IsNextPort before kind × AreNext (before ++ kind ∷ []) kinds

pub next_append : (before xs ys : List VertexKind) → AreNext before xs → AreNext (before ++ xs) ys
    → AreNext before (xs ++ ys)
next_append before [] ys first rest = subst (λ b. AreNext b ys) (append-nil before) rest
next_append before (x ∷ xs) ys first rest =
    let same : before ++ x ∷ xs ≡ (before ++ x ∷ []) ++ xs = sym (append_assoc before (x ∷ []) xs) in
    (first.0, next_append (before ++ x ∷ []) xs ys first.1 (subst (λ b. AreNext b ys) same rest))

-- each by its place
pub next_at : (before kinds : List VertexKind) → AreNext before kinds → (v : ℕ) (kind : VertexKind)
    → slice_get kinds v ≡ Some kind → IsNextPort (before ++ take v kinds) kind
next_at before [] next v kind at = absurd (none-some kind at)
next_at before (x ∷ kinds) next zero kind at =
    subst (λ b. IsNextPort b kind) (sym (append-nil before)) (subst (IsNextPort before) (same_Some x kind at) next.0)
next_at before (x ∷ kinds) next (suc v) kind at =
    subst (λ b. IsNextPort b kind) (append_assoc before (x ∷ []) (take v kinds))
    (next_at (before ++ x ∷ []) kinds next.1 v kind at)

-- ---- counts

abbrev one_if : Bool → ℕ
one_if is = cond is 1 0

-- how many read and write ports of a memory there are
abbrev pub reads_in : ℕ → List VertexKind → ℕ
reads_in m kinds = count_by (is_read_of m) kinds

abbrev pub writes_in : ℕ → List VertexKind → ℕ
writes_in m kinds = count_by (is_write_of m) kinds

pub reads_append : (m : ℕ) (xs ys : List VertexKind) → reads_in m (xs ++ ys) ≡ reads_in m xs + reads_in m ys
reads_append m xs ys = sum_by-append (λ x. cond (is_read_of m x) 1 0) xs ys

pub writes_append : (m : ℕ) (xs ys : List VertexKind) → writes_in m (xs ++ ys) ≡ writes_in m xs + writes_in m ys
writes_append m xs ys = sum_by-append (λ x. cond (is_write_of m x) 1 0) xs ys

-- none of the memories from j on has a port
pub record IsBelow (j : ℕ) (kinds : List VertexKind) : Type 0 where
  pub reads : (m : ℕ) → j ≤ m → reads_in m kinds ≡ 0
  pub writes : (m : ℕ) → j ≤ m → writes_in m kinds ≡ 0

pub below_append : (j : ℕ) (xs ys : List VertexKind) → IsBelow j xs → IsBelow j ys → IsBelow j (xs ++ ys)
below_append j xs ys first rest = record {
  reads = λ m later.
      let both = reads_append m xs ys in
      let left = first.reads m later in
      let right = rest.reads m later in
      omega (arith, both, left, right);
  writes = λ m later.
      let both = writes_append m xs ys in
      let left = first.writes m later in
      let right = rest.writes m later in
      omega (arith, both, left, right);
}

pub below_more : (j k : ℕ) (kinds : List VertexKind) → j ≤ k → IsBelow j kinds → IsBelow k kinds
below_more j k kinds most below = record {
  reads = λ m later. below.reads m (omega (arith, most, later));
  writes = λ m later. below.writes m (omega (arith, most, later));
}

-- ---- kinds without ports, and ports of one memory

abbrev pub HasNoPort : VertexKind → Type 0
HasNoPort Host = Unit {0}
HasNoPort Input = Unit {0}
HasNoPort Output = Unit {0}
HasNoPort (Constant b) = Unit {0}
HasNoPort (Gate kind) = Unit {0}
HasNoPort (Read m port) = ⊥
HasNoPort (Write m port) = ⊥

-- a port at most of this memory
abbrev pub IsOfMemory : ℕ → VertexKind → Type 0
IsOfMemory j Host = Unit {0}
IsOfMemory j Input = Unit {0}
IsOfMemory j Output = Unit {0}
IsOfMemory j (Constant b) = Unit {0}
IsOfMemory j (Gate kind) = Unit {0}
IsOfMemory j (Read m port) = m ≡ j
IsOfMemory j (Write m port) = m ≡ j

no_read : (m : ℕ) (kind : VertexKind) → HasNoPort kind → is_read_of m kind ≡ false
no_read m Host none = refl
no_read m Input none = refl
no_read m Output none = refl
no_read m (Constant b) none = refl
no_read m (Gate kind) none = refl
no_read m (Read i port) none = absurd none
no_read m (Write i port) none = absurd none

no_write : (m : ℕ) (kind : VertexKind) → HasNoPort kind → is_write_of m kind ≡ false
no_write m Host none = refl
no_write m Input none = refl
no_write m Output none = refl
no_write m (Constant b) none = refl
no_write m (Gate kind) none = refl
no_write m (Read i port) none = absurd none
no_write m (Write i port) none = absurd none

next_alone : (before : List VertexKind) (kind : VertexKind) → HasNoPort kind → IsNextPort before kind
next_alone before Host none = tt
next_alone before Input none = tt
next_alone before Output none = tt
next_alone before (Constant b) none = tt
next_alone before (Gate kind) none = tt
next_alone before (Read i port) none = absurd none
next_alone before (Write i port) none = absurd none

-- these have no ports
abbrev pub HaveNoPorts : List Piece → Type 0
HaveNoPorts pieces = AllByRecursion (λ p. HasNoPort p.kind) pieces

pub plain_next : (before : List VertexKind) (pieces : List Piece) → HaveNoPorts pieces
    → AreNext before (kinds_of pieces)
plain_next before [] none = tt
plain_next before (p ∷ pieces) none =
    (next_alone before p.kind none.0, plain_next (before ++ p.kind ∷ []) pieces none.1)

pub plain_reads : (m : ℕ) (pieces : List Piece) → HaveNoPorts pieces → reads_in m (kinds_of pieces) ≡ 0
plain_reads m [] none = refl
plain_reads m (p ∷ pieces) none =
    let all = sum_by-cons (λ x. cond (is_read_of m x) 1 0) p.kind (kinds_of pieces) in
    let first = ap one_if (no_read m p.kind none.0) in
    let rest = plain_reads m pieces none.1 in
    omega (arith, all, first, rest)

pub plain_writes : (m : ℕ) (pieces : List Piece) → HaveNoPorts pieces → writes_in m (kinds_of pieces) ≡ 0
plain_writes m [] none = refl
plain_writes m (p ∷ pieces) none =
    let all = sum_by-cons (λ x. cond (is_write_of m x) 1 0) p.kind (kinds_of pieces) in
    let first = ap one_if (no_write m p.kind none.0) in
    let rest = plain_writes m pieces none.1 in
    omega (arith, all, first, rest)

pub plain_below : (j : ℕ) (pieces : List Piece) → HaveNoPorts pieces → IsBelow j (kinds_of pieces)
plain_below j pieces none = record {
  reads = λ m later. plain_reads m pieces none;
  writes = λ m later. plain_writes m pieces none;
}

pub plain_of_memory : (j : ℕ) (pieces : List Piece) → HaveNoPorts pieces
    → AllByRecursion (λ p. IsOfMemory j p.kind) pieces
plain_of_memory j [] none = tt
plain_of_memory j (p ∷ pieces) none = (by p.kind none.0, plain_of_memory j pieces none.1)
  where
    by : (kind : VertexKind) → HasNoPort kind → IsOfMemory j kind
    by Host none = tt
    by Input none = tt
    by Output none = tt
    by (Constant b) none = tt
    by (Gate kind) none = tt
    by (Read m port) none = absurd none
    by (Write m port) none = absurd none

-- ---- of one memory

other_read : (j m : ℕ) (kind : VertexKind) → IsOfMemory j kind → j < m → is_read_of m kind ≡ false
other_read j m Host of less = refl
other_read j m Input of less = refl
other_read j m Output of less = refl
other_read j m (Constant b) of less = refl
other_read j m (Gate kind) of less = refl
other_read j m (Read i port) of less = ne_eqb i m (λ same. absurd (omega (arith, same, of, less)))
other_read j m (Write i port) of less = refl

other_write : (j m : ℕ) (kind : VertexKind) → IsOfMemory j kind → j < m → is_write_of m kind ≡ false
other_write j m Host of less = refl
other_write j m Input of less = refl
other_write j m Output of less = refl
other_write j m (Constant b) of less = refl
other_write j m (Gate kind) of less = refl
other_write j m (Read i port) of less = refl
other_write j m (Write i port) of less = ne_eqb i m (λ same. absurd (omega (arith, same, of, less)))

-- ports of memory j alone are below the next
pub one_below : (j : ℕ) (pieces : List Piece) → AllByRecursion (λ p. IsOfMemory j p.kind) pieces
    → IsBelow (j + 1) (kinds_of pieces)
one_below j [] of = record { reads = λ m later. refl; writes = λ m later. refl }
one_below j (p ∷ pieces) of =
    let rest = one_below j pieces of.1 in
    record {
      reads = λ m later.
          let all = sum_by-cons (λ x. cond (is_read_of m x) 1 0) p.kind (kinds_of pieces) in
          let first = ap one_if (other_read j m p.kind of.0 (omega (arith, later))) in
          let others = rest.reads m later in
          omega (arith, all, first, others);
      writes = λ m later.
          let all = sum_by-cons (λ x. cond (is_write_of m x) 1 0) p.kind (kinds_of pieces) in
          let first = ap one_if (other_write j m p.kind of.0 (omega (arith, later))) in
          let others = rest.writes m later in
          omega (arith, all, first, others);
    }

-- one more port
pub one_read : (m port : ℕ) → reads_in m (Read m port ∷ []) ≡ 1
one_read m port =
    let all = sum_by-cons (λ x. cond (is_read_of m x) 1 0) (Read m port) [] in
    let first = ap one_if (eq-eqb m m refl) in
    omega (arith, all, first)

pub one_write : (m port : ℕ) → writes_in m (Write m port ∷ []) ≡ 1
one_write m port =
    let all = sum_by-cons (λ x. cond (is_write_of m x) 1 0) (Write m port) [] in
    let first = ap one_if (eq-eqb m m refl) in
    omega (arith, all, first)
