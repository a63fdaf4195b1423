-- What holds of the edges so far, and of contents within the limit.
use Rattle.std.proofs.Common.{◌≡◌, ℕ, suc, ◌+◌, ◌-◌, ◌*◌, ◌<◌, ◌≤◌, ◌^◌, Bool, List, [], ◌∷◌, ◌++◌, length, map, take, sym, ap, ◌∙◌, arith, min, inl, inr, nat_lt}
use Rattle.std.specs.Prelude.{slice_get, if◌then◌else◌, Some, None}
use Rattle.std.specs.List.{sum_by}
use Rattle.std.proofs.Math.Seq.{take-suc}
use Rattle.std.proofs.lemmas.Bool.{cases_lt, le-ltb, lt-ltb}
use Rattle.std.proofs.lemmas.List.{map-append}
use Rattle.std.proofs.lemmas.List.Sums.{sum_by_more}
use Rattle.std.proofs.lemmas.Option.{get_or_from_slice_get, none-some}
use Rattle.cs_base.specs.declared.limit.LimitFault.{LimitFault}
use Rattle.cs_base.specs.declared.limit.Counted.TheVariants.{Weight}
use Rattle.cs_graph.specs.declared.contents.Contents.{Contents}
use Rattle.cs_graph.specs.declared.graph.Graph.{Graph}
use Rattle.cs_graph.specs.Invariant.{IsWellFormed}
use Rattle.cs_graph.specs.OtherContents.{register_count as contents_count, weight_fault}
use Rattle.cs_graph.specs.Slow.{slow_contents}
use Rattle.cs_graph.proofs.SlowLemmas.{slow_count}
use Rattle.cs_slow.specs.SlowFaults.{register_count, slow_fault}

-- the sum goes on by the item at the next place
pub sum_on : {A : Type 0} (f : A → ℕ) (xs : List A) (i n : ℕ) (x : A) → i < length xs → slice_get xs i ≡ Some x
    → n ≡ sum_by f (take i xs) → n + f x ≡ sum_by f (take (i + 1) xs)
sum_on f xs i n x below found so_far =
    ap (λ m. m + f x) so_far
    ∙ ap (λ y. sum_by f (take i xs) + f y) (sym (get_or_from_slice_get xs i x x found))
    ∙ sym (sum_by_more f xs i x below)

-- and so does the list of what is made of each
pub map_on : {A B : Type 0} (f : A → B) (xs : List A) (i : ℕ) (ys : List B) (x : A) → i < length xs
    → slice_get xs i ≡ Some x → ys ≡ map f (take i xs) → ys ++ f x ∷ [] ≡ map f (take (i + 1) xs)
map_on f xs i ys x below found so_far =
    let next : i + 1 ≡ suc i = omega arith in
    ap (λ zs. zs ++ f x ∷ []) so_far
    ∙ sym (map-append f (take i xs) (x ∷ []))
    ∙ ap (λ y. map f (take i xs ++ y ∷ [])) (sym (get_or_from_slice_get xs i x x found))
    ∙ ap (map f) (sym (take-suc xs i x below))
    ∙ ap (λ n. map f (take n xs)) (sym next)

few_of : (n : ℕ) (f : LimitFault) → (if nat_lt 65536 n then Some f else None) ≡ None → n ≤ 65536
few_of n f none = elim (cases_lt 65536 n) [
  | inl over ↦ absurd (none-some f (sym none ∙ ap (λ (b : Bool). if b then Some f else None) (lt-ltb 65536 n over)))
  | inr few ↦ few
]

-- where the slowed machine's registers aren't too many, neither are the contents
pub no_weight_fault : (c : ℕ) (g : Graph) (k : Contents) → IsWellFormed g → k ≡ slow_contents c g
    → slow_fault c g ≡ None → weight_fault k ≡ None
no_weight_fault c g k whole is none =
    let n = register_count g * c in
    let few = few_of n (record { what = Weight; found = n; most = 65536 }) none in
    let count = ap contents_count is ∙ slow_count c g whole in
    ap
    (λ (b : Bool). if b then Some (record {
      what = Weight;
      found = min (contents_count k) (2 ^ 64 - 1);
      most = 65536;
    }) else None)
    (le-ltb 65536 (contents_count k) (omega (arith, count, few)))
