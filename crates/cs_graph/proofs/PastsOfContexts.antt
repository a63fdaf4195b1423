-- There is a past exactly where each context has one.
use Rattle.std.proofs.Common.{◌≡◌, ℕ, ◌+◌, ◌-◌, ◌*◌, ◌/◌, ◌%◌, ◌<◌, ◌≤◌, ◌⊎◌, false, List, refl, sym, ap, ◌∙◌, arith, inl, inr, div-add-mod'}
use Rattle.std.specs.Prelude.{ℤ, slice_get, Option, Some, None, if◌then◌else◌, nat_lt}
use Rattle.std.proofs.lemmas.Bool.{cases_lt}
use Rattle.std.proofs.lemmas.Nat.{mod-mul-add, mod_below}
use Rattle.cs_cells.specs.Gates.{gate_value}
use Rattle.cs_graph.specs.declared.vertex.Feed.{Feed}
use Rattle.cs_graph.specs.declared.vertex.Feed.TheVariants.{Tied, Edge as Along}
use Rattle.cs_graph.specs.declared.edge.Edge.{Edge}
use Rattle.cs_graph.specs.declared.graph.Graph.{Graph}
use Rattle.cs_graph.specs.Lags.{lag_at}
use Rattle.cs_graph.specs.Past.{Past, lead, past_edge, past_seen, IsPast, HasPast, context_of, IsPastOf, HasPastOf, joined, IsSlowedBy}
use Rattle.cs_graph.proofs.Lists.{map_same}

context_below : (c i : ℕ) → 0 < c → context_of c i < c
context_below c i some = omega arith

-- ---- one past, at the clocks of each context

pub at_context : (g : Graph) (lags : List ℤ) (c k : ℕ) (past : Past) → IsPast g lags past → IsPastOf g lags c k past
at_context g lags c k past is = record {
  gates = λ v i x kind turn there gate low. is.gates v i x kind there gate low;
  starts = λ e i d turn found low own. is.starts e i d found low own;
  held = λ e i d turn found ahead high own. is.held e i d found ahead high own;
}

pub at_contexts : (g : Graph) (lags : List ℤ) (c : ℕ) (past : Past) → 0 < c
    → ((k : ℕ) → k < c → IsPastOf g lags c k past) → IsPast g lags past
at_contexts g lags c past some each = record {
  gates = λ v i x kind is gate low. (each (context_of c i) (context_below c i some)).gates v i x kind refl is gate
      low;
  starts = λ e i d found low own. (each (context_of c i) (context_below c i some)).starts e i d refl found low own;
  held = λ e i d found ahead high own. (each (context_of c i) (context_below c i some)).held e i d refl found ahead
      high own;
}

-- ---- a past for each context

turned : (i q c : ℕ) → 0 < c → (i + q * c) % c ≡ i % c
turned i q c some =
    let is : i / c * c + i % c ≡ i = div-add-mod' i c in
    let sum : i + q * c ≡ (i / c + q) * c + i % c = omega arith in
    ap (λ n. n % c) sum ∙ mod-mul-add (i / c + q) c (i % c) (mod_below i c some)

module _ (g : Graph) (lags : List ℤ) (c : ℕ) (some : 0 < c) (slowed : IsSlowedBy c g) (pasts : ℕ → Past) where
  edge_joined : (e i : ℕ) (o : Option Edge) → slice_get g.edges e ≡ o
      → past_edge lags (joined c pasts) e o i ≡ past_edge lags (pasts (context_of c i)) e o i
  edge_joined e i None is = refl
  edge_joined e i (Some d) is =
      let same : context_of c (i + d.weight) ≡ context_of c i = ap (λ w. c - 1 - (i + w) % c) (slowed.are e
      d is) ∙ ap (λ r. c - 1 - r) (turned i (slowed.turns e) c some) in
      ap (λ k. if nat_lt (i + d.weight) (lead (lag_at lags d.from)) then (pasts k).values d.from (i + d.weight) else
      (pasts k).contents e (i + d.weight)) same

  -- a pin sees what it sees in its context
  seen_joined : (i : ℕ) (f : Feed) → past_seen g lags (joined c pasts) i f ≡ past_seen g lags (pasts (context_of c
      i)) i f
  seen_joined i (Tied b) = refl
  seen_joined i (Along e) = edge_joined e i (slice_get g.edges e) refl

  pub join : ((k : ℕ) → k < c → IsPastOf g lags c k (pasts k)) → IsPast g lags (joined c pasts)
  join each = record {
    gates = λ v i x kind is gate low. (of i).gates v i x kind refl is gate low ∙ ap (gate_value kind) (map_same
        (past_seen g lags (pasts (context_of c i)) i) (past_seen g lags (joined c pasts) i) x.pins (λ j f at. sym
        (seen_joined i f)));
    starts = λ e i d found low own. (of i).starts e i d refl found low own;
    held = λ e i d found ahead high own. (of i).held e i d refl found ahead high own;
  }
    where
      of : (i : ℕ) → IsPastOf g lags c (context_of c i) (pasts (context_of c i))
      of i = each (context_of c i) (context_below c i some)

  pub part_of_joined : IsPast g lags (joined c pasts) → (k : ℕ) → k < c → IsPastOf g lags c k (pasts k)
  part_of_joined is k low = record {
    gates = λ v i x kind turn there gate early.
        ap (λ n. (pasts n).values v i) (sym turn)
        ∙ is.gates v i x kind there gate early
        ∙ ap (gate_value kind) (map_same (past_seen g lags (joined c pasts) i) (past_seen g lags (pasts k) i) x.pins
        (λ j f at. seen_joined i f ∙ ap (λ n. past_seen g lags (pasts n) i f) turn));
    starts = λ e i d turn found early own. ap (λ n. (pasts n).values d.from i) (sym turn) ∙ is.starts e i d found early
        own;
    held = λ e i d turn found ahead high own. ap (λ n. (pasts n).contents e i) (sym turn) ∙ is.held e i d found ahead
        high own;
  }

-- ---- some past, and some past of each context

module _ (g : Graph) (lags : List ℤ) (c : ℕ) (each : (k : ℕ) → k < c → HasPastOf g lags c k) where
  chosen : (k : ℕ) → (k < c) ⊎ (c ≤ k) → Past
  chosen k (inl low) = (each k low).past
  chosen k (inr high) = record { values = λ v i. false; contents = λ e i. false }

  chosen_is : (k : ℕ) → k < c → (s : (k < c) ⊎ (c ≤ k)) → IsPastOf g lags c k (chosen k s)
  unfolding chosen
  chosen_is k h (inl low) = (each k low).is
  chosen_is k h (inr high) = absurd (omega arith)

pub past_of_contexts : (g : Graph) (lags : List ℤ) (c : ℕ) → 0 < c → IsSlowedBy c g → ((k : ℕ) → k < c
    → HasPastOf g lags c k) → HasPast g lags
past_of_contexts g lags c some slowed each = record {
  past = joined c (λ k. chosen g lags c each k (cases_lt k c));
  is = join g lags c some slowed (λ k. chosen g lags c each k (cases_lt k c)) (λ k low. chosen_is g lags c each k low
      (cases_lt k c));
}

pub contexts_of_past : (g : Graph) (lags : List ℤ) (c k : ℕ) → HasPast g lags → HasPastOf g lags c k
contexts_of_past g lags c k p = record { past = p.past; is = at_context g lags c k p.past p.is }
