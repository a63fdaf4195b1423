-- A vertex more in the lists of Writes.
use Rattle.std.proofs.Common.{◌≡◌, ℕ, zero, suc, ◌+◌, ◌<◌, true, false, List, [], ◌∷◌, ◌++◌, length, map, take, refl, sym, ap, ap₂, ◌∙◌, arith, length-take}
use Rattle.std.specs.Prelude.{get_or, slice_get, slice_set, Some, replicate, ◌==◌}
use Rattle.std.specs.List.{range_with_len}
use Rattle.std.proofs.Math.Seq.{take-suc}
use Rattle.std.proofs.lemmas.Bool.Decides.{nat_tests}
use Rattle.std.proofs.lemmas.Option.{get_or_from_slice_get}
use Rattle.cs_graph.specs.declared.vertex.Vertex.{Vertex}
use Rattle.cs_graph.specs.declared.vertex.VertexKind.{VertexKind}
use Rattle.cs_graph.specs.declared.vertex.VertexKind.TheVariants.{Constant, Gate, Host, Input, Output, Read, Write}
use Rattle.cs_graph.specs.Kinds.{is_write_of}
use Rattle.cs_bank.specs.WritePlaces.{noted_in, writes_from}
use Rattle.cs_bank.proofs.WriteLists.{get_in_range, no_write, one_write, set_in_range}

-- the lists of n memories among the first vertices
abbrev pub noted : List Vertex → ℕ → List (List ℕ)
noted xs n = map (λ i. writes_from i 0 xs) (range_with_len 0 n)

next_of : (xs : List Vertex) (v : ℕ) (x : Vertex) → v < length xs → slice_get xs v ≡ Some x
    → take (v + 1) xs ≡ take v xs ++ x ∷ []
next_of xs v x low found =
    let next : v + 1 ≡ suc v = omega arith in
    ap (λ n. take n xs) next
    ∙ take-suc xs v x low
    ∙ ap (λ y. take v xs ++ y ∷ []) (get_or_from_slice_get xs v x x found)

equal_number : (a b : ℕ) → a ≡ b → (a == b) ≡ true
equal_number a b h = grind (arith, nat_tests)

other_number : (a b : ℕ) → (a ≡ b → ⊥) → (a == b) ≡ false
other_number a b h = grind (arith, nat_tests)

same_lists : (f g : ℕ → List ℕ) → ((i : ℕ) → f i ≡ g i) → (a n : ℕ)
    → map f (range_with_len a n) ≡ map g (range_with_len a n)
same_lists f g same a zero = refl
same_lists f g same a (suc n) = ap₂ (λ y ys. y ∷ ys) (same a) (same_lists f g same (a + 1) n)

pub nothing_noted : (n : ℕ) → replicate n [] ≡ noted [] n
nothing_noted n = by 0 n
  where
    by : (a n : ℕ) → replicate n [] ≡ map (λ i. writes_from i 0 []) (range_with_len a n)
    by a zero = refl
    by a (suc n) = ap (λ ys. [] ∷ ys) (by (a + 1) n)

-- a vertex that is no Write
pub noted_other : (xs : List Vertex) (n v : ℕ) (x : Vertex) → v < length xs → slice_get xs v ≡ Some x
    → ((i : ℕ) → is_write_of i x.kind ≡ false) → noted (take v xs) n ≡ noted (take (v + 1) xs) n
noted_other xs n v x low found none =
    same_lists (λ i. writes_from i 0 (take v xs)) (λ i. writes_from i 0 (take (v + 1) xs))
    (λ i. sym (ap (writes_from i 0) (next_of xs v x low found) ∙ no_write i 0 (take v xs) x (none i))) 0 n

-- a Write
pub noted_write : (xs : List Vertex) (n v memory port : ℕ) (x : Vertex) → v < length xs → slice_get xs v ≡ Some x
    → x.kind ≡ Write memory port → memory < n
    → slice_set (noted (take v xs) n) memory (get_or (noted (take v xs) n) memory [] ++ v ∷ [])
    ≡ noted (take (v + 1) xs) n
noted_write xs n v memory port x low found kind inside =
    let f : ℕ → List ℕ = λ i. writes_from i 0 (take v xs) in
    let g : ℕ → List ℕ = λ i. writes_from i 0 (take (v + 1) xs) in
    let here : 0 + memory ≡ memory = omega arith in
    let long = length-take v xs in
    let count : 0 + length (take v xs) ≡ v = omega (arith, long, low) in
    let on = ap (is_write_of memory) kind ∙ equal_number memory memory refl in
    let new = ap (writes_from memory 0) (next_of xs v x low found) ∙ one_write memory 0 (take v xs) x on
    ∙ ap (λ u. f memory ++ u ∷ []) count in
    ap (λ ys. slice_set (noted (take v xs) n) memory (ys ++ v ∷ [])) (get_in_range f 0 n memory inside ∙ ap f here)
    ∙ ap (slice_set (noted (take v xs) n) memory) (sym new ∙ sym (ap g here))
    ∙ set_in_range f g 0 n memory inside (λ i other. sym (ap (writes_from i 0) (next_of xs v x low found)
    ∙ no_write i 0 (take v xs) x (ap (is_write_of i) kind ∙ other_number memory i
    (λ same. other (omega (arith, same))))))

-- any vertex
pub noted_next : (xs : List Vertex) (n v : ℕ) (x : Vertex) → v < length xs → slice_get xs v ≡ Some x
    → ((memory port : ℕ) → x.kind ≡ Write memory port → memory < n)
    → noted_in (noted (take v xs) n) v x.kind ≡ noted (take (v + 1) xs) n
noted_next xs n v x low found inside = by x.kind refl
  where
    other : (kind : VertexKind) → x.kind ≡ kind → ((i : ℕ) → is_write_of i kind ≡ false)
        → noted (take v xs) n ≡ noted (take (v + 1) xs) n
    other kind is none = noted_other xs n v x low found (λ i. ap (is_write_of i) is ∙ none i)

    by : (kind : VertexKind) → x.kind ≡ kind → noted_in (noted (take v xs) n) v kind ≡ noted (take (v + 1) xs) n
    by Host is = other Host is (λ i. refl)
    by Input is = other Input is (λ i. refl)
    by Output is = other Output is (λ i. refl)
    by (Constant b) is = other (Constant b) is (λ i. refl)
    by (Gate kind) is = other (Gate kind) is (λ i. refl)
    by (Read memory port) is = other (Read memory port) is (λ i. refl)
    by (Write memory port) is = noted_write xs n v memory port x low found is (inside memory port is)
