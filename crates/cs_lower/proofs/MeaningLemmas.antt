-- What a trail shows: a register more shows its start first, and then what was shown a clock before.
use Rattle.std.specs.Prelude.{slice_get}
use Rattle.std.proofs.Common.{◌≡◌, ℕ, zero, suc, ◌+◌, ◌<◌, ℤ, pos, negsuc, ◌-ℤ◌, Bool, false, List, [], ◌∷◌, ◌++◌, length, get_or, refl, ap, ◌∙◌, arith, Some}
use Rattle.std.proofs.lemmas.Int.{ints}
use Rattle.std.proofs.lemmas.List.{length-append}
use Rattle.cs_graph.specs.declared.edge.Edge.{Edge}
use Rattle.cs_graph.specs.declared.graph.Graph.{Graph}
use Rattle.cs_graph.specs.declared.vertex.Feed.TheVariants.{Edge as Along}
use Rattle.cs_graph.specs.Run.{Outs, carried, seen, seen_edge}
use Rattle.cs_lower.specs.Followed.{Trail, ends, past}
use Rattle.cs_lower.specs.declared.taps.End.{End}
use Rattle.cs_lower.specs.declared.taps.End.TheVariants.{Vertex as at_vertex}
use Rattle.cs_lower.specs.Meaning.{at_end, carried_by, shown}

-- ---- clocks

now : (n : ℕ) → pos n -ℤ pos 0 ≡ pos n
now n = omega (arith, ints)

first_clock : (k w : ℕ) → k ≡ w + 1 → pos 0 -ℤ pos k ≡ negsuc w
first_clock k w sum = omega (arith, ints, sum)

next_clock : (n k w : ℕ) → k ≡ w + 1 → pos (suc n) -ℤ pos k ≡ pos n -ℤ pos w
next_clock n k w sum = omega (arith, ints, sum)

before_first : (n w j : ℕ) → pos n -ℤ pos w ≡ negsuc j → j < w
before_first n w j is = omega (arith, ints, is)

-- ---- contents

last_content : (contents : List Bool) (start : Bool)
    → get_or (contents ++ start ∷ []) (length contents) false ≡ start
last_content [] start = refl
last_content (c ∷ contents) start = last_content contents start

earlier_content : (contents : List Bool) (start : Bool) (j : ℕ) → j < length contents
    → get_or (contents ++ start ∷ []) j false ≡ get_or contents j false
earlier_content [] start j below = absurd (omega (arith, below))
earlier_content (c ∷ contents) start zero below = refl
earlier_content (c ∷ contents) start (suc j) below = earlier_content contents start j (omega (arith, below))

one_longer : (contents : List Bool) (start : Bool) → length (contents ++ start ∷ []) ≡ length contents + 1
one_longer contents start = length-append contents (start ∷ []) ∙ omega arith

-- ---- trails

-- an end alone shows what it is
pub shown_ends : (value : ℕ → Outs) (e : End) (n : ℕ) → shown value (ends e) n ≡ at_end value n e
shown_ends value e n = ap (carried_by (ends e) value) (now n)

-- a register shows its start first
pub shown_past_first : (value : ℕ → Outs) (start : Bool) (t : Trail) → shown value (past start t) 0 ≡ start
shown_past_first value start t =
    ap (carried_by (past start t) value)
    (first_clock (length (t.contents ++ start ∷ [])) (length t.contents) (one_longer t.contents start))
    ∙ last_content t.contents start

-- and then what the trail before it showed
pub shown_past_next : (value : ℕ → Outs) (start : Bool) (t : Trail) (n : ℕ)
    → shown value (past start t) (suc n) ≡ shown value t n
shown_past_next value start t n =
    ap (carried_by (past start t) value)
    (next_clock n (length (t.contents ++ start ∷ [])) (length t.contents) (one_longer t.contents start))
    ∙ by (pos n -ℤ pos (length t.contents)) refl
  where
    by : (clock : ℤ) → pos n -ℤ pos (length t.contents) ≡ clock
        → carried_by (past start t) value clock ≡ carried_by t value clock
    by (pos m) is = refl
    by (negsuc j) is = earlier_content t.contents start j (before_first n (length t.contents) j is)

-- ---- edges

-- an edge is what a trail says: its end, its contents, and as many registers
pub record IsAlong (e : Edge) (t : Trail) : Type 0 where
  pub end : at_vertex e.from e.output ≡ t.end
  pub contents : e.contents ≡ t.contents
  pub weight : e.weight ≡ length t.contents

pub seen_along : (e : Edge) (t : Trail) (value : ℕ → Outs) (n : ℕ) → IsAlong e t
    → seen_edge (Some e) value n ≡ shown value t n
seen_along e t value n h =
    ap (λ w. carried e value (pos n -ℤ pos w)) h.weight ∙ by (pos n -ℤ pos (length t.contents))
  where
    by : (clock : ℤ) → carried e value clock ≡ carried_by t value clock
    by (pos m) = ap (at_end value m) h.end
    by (negsuc j) = ap (λ c. get_or c j false) h.contents

-- what a pin sees along such an edge
pub seen_is_shown : (g : Graph) (k : ℕ) (e : Edge) (t : Trail) (value : ℕ → Outs) (n : ℕ)
    → slice_get g.edges k ≡ Some e → IsAlong e t → seen g value n (Along k) ≡ shown value t n
seen_is_shown g k e t value n at h = ap (λ o. seen_edge o value n) at ∙ seen_along e t value n h
