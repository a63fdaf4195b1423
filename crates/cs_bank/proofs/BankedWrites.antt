-- The writes of a banked graph are those of the running context, in its bank.
use Rattle.std.proofs.Common.{◌≡◌, ℕ, zero, suc, ◌+◌, ◌*◌, ◌^◌, ◌<◌, Bool, true, false, ◌&&◌, List, [], ◌∷◌, ◌++◌, length, map, take, drop, refl, sym, ap, ap₂, subst, ◌∙◌, arith, length-take, length-drop, length-append}
use Rattle.std.specs.Prelude.{slice_get, flat_map, Option, Some, ◌==◌, if◌then◌else◌, nat_lt}
use Rattle.std.proofs.lemmas.Bool.Decides.{nat_tests}
use Rattle.std.proofs.lemmas.List.{length-map, map-append}
use Rattle.std.proofs.lemmas.Option.{same_Some}
use Rattle.cs_cells.specs.Memories.{Words, Write, number_of}
use Rattle.cs_graph.specs.declared.memory.Memory.{Memory}
use Rattle.cs_graph.specs.declared.source.OpenVertex.{OpenVertex}
use Rattle.cs_graph.specs.declared.source.Source.{Source}
use Rattle.cs_graph.specs.declared.vertex.VertexKind.{VertexKind}
use Rattle.cs_graph.specs.declared.vertex.VertexKind.TheVariants.{Constant, Gate, Host, Input, Output, Read, Write as WritePort}
use Rattle.cs_graph.specs.Draft.{Draft}
use Rattle.cs_graph.specs.Run.{Outs, Row, write_of, writes_by}
use Rattle.cs_net.specs.Contexts.{Image}
use Rattle.cs_bank.specs.Bank.{banked, banked_memory, banked_pins, first_guard, guard_place, write_pins}
use Rattle.cs_bank.specs.ContextBits.{context_bits, context_pins, digits}
use Rattle.cs_bank.specs.Guards.{enable_pins}
use Rattle.cs_bank.proofs.BankedPlaces.{HasPorts, guard_stands, of_old}
use Rattle.cs_bank.proofs.BankWords.{AllBanked, Banked, more, none, number_of-append}
use Rattle.cs_bank.proofs.DraftRuns.{DraftRuns, open_writes, sees}
use Rattle.cs_bank.proofs.GuardLemmas.{AreWritePins, enables_are, number_below}
use Rattle.cs_bank.proofs.Lists.{append_assoc}
use Rattle.cs_bank.proofs.SizeTests.{length-digits, number_of-digits}
use Rattle.cs_bank.proofs.StartLemmas.{drop_front, take_front}

-- ---- pins

map_take : {A B : Type 0} (f : A → B) (n : ℕ) (xs : List A) → map f (take n xs) ≡ take n (map f xs)
map_take f zero [] = refl
map_take f zero (x ∷ xs) = refl
map_take f (suc n) [] = refl
map_take f (suc n) (x ∷ xs) = ap (λ zs. f x ∷ zs) (map_take f n xs)

map_drop : {A B : Type 0} (f : A → B) (n : ℕ) (xs : List A) → map f (drop n xs) ≡ drop n (map f xs)
map_drop f zero [] = refl
map_drop f zero (x ∷ xs) = refl
map_drop f (suc n) [] = refl
map_drop f (suc n) (x ∷ xs) = map_drop f n xs

-- ---- one write

-- seen address, word and enable bits, with the context's number above the address and those enable bits
abbrev seen_pins : Memory → List Bool → List Bool → List Bool → List Bool
seen_pins m seen context enables = take m.abits seen ++ context ++ take m.width (drop m.abits seen) ++ enables

write_banked : (m : Memory) (c q : ℕ) (entry : Option (List Image)) (seen enables : List Bool)
    → length seen ≡ m.abits + 2 * m.width → q < 2 ^ context_bits c
    → enables ≡ map (λ e. e && nat_lt (number_of (take m.abits seen)) m.size) (drop m.width (drop m.abits seen))
    → Banked (2 ^ m.abits) m.size q (write_of m seen)
    (write_of (banked_memory c m entry) (seen_pins m seen (digits (context_bits c) q) enables))
write_banked m c q entry seen enables long small are =
    let a = m.abits in
    let b = context_bits c in
    let bits = digits b q in
    let front = take a seen ++ bits in
    let word = take m.width (drop a seen) in
    let short : length (take a seen) ≡ a = omega (arith, long, length-take a seen) in
    let wide : m.width ≡ length word = omega (arith, long, length-drop a seen, length-take m.width (drop a seen)) in
    let many : a + b ≡ length front = omega (arith, short, length-append (take a seen) bits, length-digits b q) in
    let apart = append_assoc front word enables in
    let taken = ap (take (a + b)) apart ∙ take_front front (word ++ enables) (a + b) many in
    let dropped = ap (drop (a + b)) apart ∙ drop_front front (word ++ enables) (a + b) many in
    record {
      address = ap number_of taken
          ∙ number_of-append (take a seen) bits
          ∙ ap₂ (λ n i. number_of (take a seen) + 2 ^ n * i) short (number_of-digits b q small)
          ∙ omega arith;
      inside = rw (← ap (λ n. 2 ^ n) short) (number_below (take a seen));
      word = ap (take m.width) dropped ∙ take_front word enables m.width wide;
      enable = ap (drop m.width) dropped ∙ drop_front word enables m.width wide ∙ are;
    }

-- ---- lists of writes

all_append : (size limit q : ℕ) (xs xs' ys ys' : List Write) → AllBanked size limit q xs xs'
    → AllBanked size limit q ys ys'
    → AllBanked size limit q (xs ++ ys) (xs' ++ ys')
all_append size limit q [] [] ys ys' none h = h
all_append size limit q [] (w' ∷ rest') ys ys' x h = elim x [ ]
all_append size limit q (w ∷ rest) [] ys ys' x h = elim x [ ]
all_append size limit q (w ∷ rest) (w' ∷ rest') ys ys' (more b bs) h = more b
    (all_append size limit q rest rest' ys ys' bs h)

one_write : (size limit q : ℕ) (t : Bool) (x x' : Write) → (t ≡ true → Banked size limit q x x')
    → AllBanked size limit q (if t then (x ∷ []) else []) (if t then (x' ∷ []) else [])
one_write size limit q true x x' h = more (h refl) none
one_write size limit q false x x' h = none

all_flat : {A : Type 0} (size limit q : ℕ) (f f' : A → List Write) (xs : List A)
    → ((v : ℕ) (x : A) → slice_get xs v ≡ Some x → AllBanked size limit q (f x) (f' x))
    → AllBanked size limit q (flat_map f xs) (flat_map f' xs)
all_flat size limit q f f' [] h = none
all_flat size limit q f f' (x ∷ xs) h =
    all_append size limit q (f x) (f' x) (flat_map f xs) (flat_map f' xs) (h 0 x refl)
    (all_flat size limit q f f' xs (λ v y is. h (suc v) y is))

-- ---- those of a banked graph

module _ (bounded : Bool) (c : ℕ) (entries : List (Option (List Image))) (d : Draft) (clocks : ℕ) (row : ℕ
    → Row) (value : ℕ → Outs) (words : ℕ → ℕ → Words)
    (run : DraftRuns bounded (banked c entries d) clocks row value words)
    (ports : HasPorts d) (t : ℕ) (h : t < clocks) (q : ℕ) (small : q < 2 ^ context_bits c)
    (context_is : map (sees value t) (context_pins c (length d.vertices)) ≡ digits (context_bits c) q)
    (i : ℕ) (m : Memory) (entry : Option (List Image)) (at : slice_get d.memories i ≡ Some m) (some : 0 < m.size) where
  see : Option Source → Bool
  see = sees value t

  abbrev context : List (Option Source)
  context = context_pins c (length d.vertices)

  -- what the pins of a Write see
  write_sees : (v p : ℕ) (x : OpenVertex) → slice_get d.vertices v ≡ Some x → x.kind ≡ WritePort i p
      → AreWritePins m x.pins
      → map see (write_pins context (guard_place (first_guard c d) d i p) (Some m) x.pins)
      ≡ seen_pins m (map see x.pins) (digits (context_bits c) q)
      (map (λ e. e && nat_lt (number_of (take m.abits (map see x.pins))) m.size)
      (drop m.width (drop m.abits (map see x.pins))))
  unfolding see
  write_sees v p x found kind are =
      let place = guard_place (first_guard c d) d i p in
      let pins = x.pins in
      let a = take m.abits pins in
      let word = take m.width (drop m.abits pins) in
      let enables = drop m.width (drop m.abits pins) in
      let stands = guard_stands c entries d ports v i p x m found kind at in
      let on = enables_are bounded (banked c entries d) clocks row value words run t h place m pins are some stands in
      let rest = map_drop see m.width (drop m.abits pins) ∙ ap (drop m.width) (map_drop see m.abits pins) in
      map-append see (a ++ context ++ word) (enable_pins place m enables)
      ∙ ap₂ (λ y z. y ++ z)
      (map-append see (a ++ context) word
      ∙ ap₂ (λ y z. y ++ z)
      (map-append see a context ∙ ap₂ (λ y z. y ++ z) (map_take see m.abits pins) context_is)
      (map_take see m.width (drop m.abits pins) ∙ ap (take m.width) (map_drop see m.abits pins)))
      (on ∙ ap₂ (λ y z. map (λ e. e && nat_lt (number_of y) m.size) z) (map_take see m.abits pins) rest)

  -- what one vertex writes
  vertex_writes : (v : ℕ) (x : OpenVertex) → slice_get d.vertices v ≡ Some x → (kind : VertexKind) → x.kind ≡ kind
      → AllBanked (2 ^ m.abits) m.size q (writes_by i m kind (map see x.pins))
      (writes_by i (banked_memory c m entry) kind (map see (banked_pins context (first_guard c d) d kind x.pins)))
  vertex_writes v x found Host kind = none
  vertex_writes v x found Input kind = none
  vertex_writes v x found Output kind = none
  vertex_writes v x found (Constant bit) kind = none
  vertex_writes v x found (Gate gate) kind = none
  vertex_writes v x found (Read memory p) kind = none
  vertex_writes v x found (WritePort memory p) kind =
      let place = guard_place (first_guard c d) d memory p in
      one_write (2 ^ m.abits) m.size q (memory == i) (write_of m (map see x.pins))
      (write_of (banked_memory c m entry) (map see (write_pins context place (slice_get d.memories memory) x.pins)))
      (λ same.
      let here : memory ≡ i = grind (arith, nat_tests) in
      let own = ports.writes v memory p x found kind in
      let is = same_Some own.0 m (sym own.1 ∙ ap (slice_get d.memories) here ∙ at) in
      let are = subst (λ n. AreWritePins n x.pins) is own.2 in
      let seen = map see x.pins in
      let enables = map (λ e. e && nat_lt (number_of (take m.abits seen)) m.size) (drop m.width (drop m.abits seen)) in
      let all = ap
      (λ j. map see (write_pins context (guard_place (first_guard c d) d j p) (slice_get d.memories j) x.pins)) here
      ∙ ap (λ o. map see (write_pins context (guard_place (first_guard c d) d i p) o x.pins)) at
      ∙ write_sees v p x found (kind ∙ ap (λ j. WritePort j p) here) are in
      subst (λ s. Banked (2 ^ m.abits) m.size q (write_of m seen) (write_of (banked_memory c m entry) s)) (sym all)
      (write_banked m c q entry seen enables (length-map x.pins see ∙ are) small refl))

  -- and all of them
  pub all_writes : AllBanked (2 ^ m.abits) m.size q (open_writes d i m (sees value t))
      (open_writes (banked c entries d) i (banked_memory c m entry) (sees value t))
  unfolding see
  all_writes = subst (AllBanked (2 ^ m.abits) m.size q (open_writes d i m (sees value t)))
      (sym (of_old (λ x. writes_by i (banked_memory c m entry) x.kind (map see x.pins)) (λ kind pins. refl) c entries
      d))
      (all_flat (2 ^ m.abits) m.size q (λ x. writes_by i m x.kind (map see x.pins))
      (λ x. writes_by i (banked_memory c m entry) x.kind
      (map see (banked_pins context (first_guard c d) d x.kind x.pins)))
      d.vertices (λ v x found. vertex_writes v x found x.kind refl))
