-- Where the words of a memory stand.
use Rattle.std.proofs.Common.{◌≡◌, ◌∙◌, ◌+◌, List, [], ◌∷◌, Option, Some, None, true, false, ap, arith, cond, find, filter_map, get_or, map, option_map, refl, sym, subst, ℕ, zero, suc}
use Rattle.std.specs.Prelude.{IsTrue, bytes_eq, slice_get, unwrap_or}
use Rattle.std.specs.List.{AllByRecursion}
use Rattle.cs_cells.specs.declared.class.Class.{Class}
use Rattle.cs_cells.specs.declared.class.Class.TheVariants.{Gate, Register, Memory, Scope, Asynchronous, NotFine, Unknown}
use Rattle.cs_cells.specs.declared.memory.MemShape.{MemShape}
use Rattle.cs_json.specs.declared.document.CellDecl.{CellDecl}
use Rattle.cs_json.specs.declared.document.Module.{Module}
use Rattle.cs_json.specs.Readable.{AreInOrder, IsModule, is_below}
use Rattle.cs_net.specs.declared.netlist.Cell.{Cell}
use Rattle.cs_net.specs.declared.state.MemoryWords.{MemoryWords}
use Rattle.cs_modules.specs.Memories.{memory_shape, first_words, shape_by, shape_of}
use Rattle.cs_net.specs.Build.{cell_of, net_of, places_from, words_by}
use Rattle.cs_modules.specs.Modules.{cells_of}
use Rattle.cs_net.specs.Invariant.{AreMemoryPlaces}
use Rattle.cs_net.specs.Netlist.{words_at}
use Rattle.cs_modules.specs.Pins.{class_at}
use Rattle.cs_net.proofs.CellNames.{below_differs, same_itself}
use Rattle.cs_net.proofs.CellOrder.{cells_in_order}

words_of : CellDecl → Option MemoryWords
words_of d = words_by (class_at d) d

-- a cell has words where it has a shape, and under its own name
data HasWords (d : CellDecl) : Type 0 where
  neither : shape_of d ≡ None → words_of d ≡ None → HasWords d
  both : (shape : MemShape) (m : MemoryWords) → shape_of d ≡ Some shape → words_of d ≡ Some m → m.name ≡ d.name → HasWords d

has_words : (d : CellDecl) → HasWords d
unfolding words_of
has_words d = by (class_at d) refl
  where
    by : (k : Class) → class_at d ≡ k → HasWords d
    by (Gate kind) is = neither (ap (λ c. shape_by c d) is) (ap (λ c. words_by c d) is)
    by (Register kind) is = neither (ap (λ c. shape_by c d) is) (ap (λ c. words_by c d) is)
    by Memory is = both (memory_shape d) (record { name = d.name; words = first_words d (memory_shape d) }) (ap (λ c. shape_by c d) is) (ap (λ c. words_by c d) is) refl
    by Scope is = neither (ap (λ c. shape_by c d) is) (ap (λ c. words_by c d) is)
    by Asynchronous is = neither (ap (λ c. shape_by c d) is) (ap (λ c. words_by c d) is)
    by NotFine is = neither (ap (λ c. shape_by c d) is) (ap (λ c. words_by c d) is)
    by Unknown is = neither (ap (λ c. shape_by c d) is) (ap (λ c. words_by c d) is)

-- the memory of cell d stands j places behind k
record StandsAt (xs : List CellDecl) (k i : ℕ) (d : CellDecl) : Type 0 where
  j : ℕ
  m : MemoryWords
  place : get_or (places_from k (map shape_of xs)) i 0 ≡ k + j
  stands : slice_get (filter_map words_of xs) j ≡ Some m
  named : find (λ n. bytes_eq n.name d.name) (filter_map words_of xs) ≡ Some m

all_at : (P : Cell → Type 0) (xs : List CellDecl) (i : ℕ) (d : CellDecl) → AllByRecursion P (map cell_of xs) → slice_get xs i ≡ Some d → P (cell_of d)
all_at P [] i d all at = absurd (cc)
all_at P (x ∷ xs) zero d all at = let same : x ≡ d = cc in subst (λ y. P (cell_of y)) same all.0
all_at P (x ∷ xs) (suc i) d all at = all_at P xs i d all.1 at

-- more words before these
made : Option MemoryWords → List MemoryWords → List MemoryWords
made None ms = ms
made (Some m) ms = m ∷ ms

made_of : (d : CellDecl) (ds : List CellDecl) (o : Option MemoryWords) → words_of d ≡ o → filter_map words_of (d ∷ ds) ≡ made o (filter_map words_of ds)
unfolding made
made_of d ds None is = rw is refl
made_of d ds (Some m) is = rw is refl

named_first : (name : List ℕ) (m : MemoryWords) (ms : List MemoryWords) → bytes_eq m.name name ≡ true → find (λ n. bytes_eq n.name name) (m ∷ ms) ≡ Some m
named_first name m ms is = ap (λ t. cond t (Some m) (find (λ n. bytes_eq n.name name) ms)) is

named_later : (name : List ℕ) (m : MemoryWords) (ms : List MemoryWords) → bytes_eq m.name name ≡ false →
    find (λ n. bytes_eq n.name name) (m ∷ ms) ≡ find (λ n. bytes_eq n.name name) ms
named_later name m ms is = ap (λ t. cond t (Some m) (find (λ n. bytes_eq n.name name) ms)) is

here : (xs : List CellDecl) (k : ℕ) (d : CellDecl) (shape : MemShape) → shape_of d ≡ Some shape → HasWords d → StandsAt (d ∷ xs) k zero d
unfolding made
here xs k d shape is (neither no_shape no_words) = let differ = sym no_shape ∙ is in absurd (cc)
here xs k d shape is (both s m has words name) =
    let ms = made_of d xs (Some m) words in
    let none : k ≡ k + 0 = omega arith in
    record {
      j = 0;
      m = m;
      place = ap (λ o. get_or (places_from k (o ∷ map shape_of xs)) 0 0) has ∙ none;
      stands = ap (λ l. slice_get l 0) ms;
      named = ap (find (λ n. bytes_eq n.name d.name)) ms
          ∙ named_first d.name m (filter_map words_of xs) (ap (λ n. bytes_eq n d.name) name ∙ same_itself d.name);
    }

further : (x : CellDecl) (xs : List CellDecl) (k i : ℕ) (d : CellDecl) → bytes_eq x.name d.name ≡ false → HasWords x →
    ((k : ℕ) → StandsAt xs k i d) → StandsAt (x ∷ xs) k (suc i) d
unfolding made
further x xs k i d apart (neither no_shape no_words) later =
    let at = later k in
    let ms = made_of x xs None no_words in
    record {
      j = at.j;
      m = at.m;
      place = ap (λ o. get_or (places_from k (o ∷ map shape_of xs)) (suc i) 0) no_shape ∙ at.place;
      stands = ap (λ l. slice_get l at.j) ms ∙ at.stands;
      named = ap (find (λ n. bytes_eq n.name d.name)) ms ∙ at.named;
    }
further x xs k i d apart (both s m has words name) later =
    let at = later (k + 1) in
    let ms = made_of x xs (Some m) words in
    let next : k + 1 + at.j ≡ k + suc at.j = omega arith in
    record {
      j = suc at.j;
      m = at.m;
      place = ap (λ o. get_or (places_from k (o ∷ map shape_of xs)) (suc i) 0) has ∙ at.place ∙ next;
      stands = ap (λ l. slice_get l (suc at.j)) ms ∙ at.stands;
      named = ap (find (λ n. bytes_eq n.name d.name)) ms
          ∙ named_later d.name m (filter_map words_of xs) (ap (λ n. bytes_eq n d.name) name ∙ apart) ∙ at.named;
    }

stands_at : (xs : List CellDecl) (k i : ℕ) (d : CellDecl) (shape : MemShape) → AreInOrder (λ (c : Cell). c.name) (map cell_of xs) →
    slice_get xs i ≡ Some d → shape_of d ≡ Some shape → StandsAt xs k i d
stands_at [] k i d shape order at is = absurd (cc)
stands_at (x ∷ xs) k zero d shape order at is =
    let same : x ≡ d = cc in
    subst (λ y. StandsAt (y ∷ xs) k zero d) (sym same) (here xs k d shape is (has_words d))
stands_at (x ∷ xs) k (suc i) d shape order at is =
    further x xs k i d
    (below_differs x.name d.name (all_at (λ c. IsTrue (is_below x.name c.name)) xs i d order.0 at)) (has_words x)
    (λ n. stands_at xs n i d shape order.1 at is)

pub map_at : {A B : Type 0} (f : A → B) (xs : List A) (i : ℕ) (y : B) → slice_get (map f xs) i ≡ Some y → (x : A) × (slice_get xs i ≡ Some x) × (f x ≡ y)
map_at f [] i y at = absurd (cc)
map_at f (x ∷ xs) zero y at = let same : f x ≡ y = cc in (x, refl, same)
map_at f (x ∷ xs) (suc i) y at = map_at f xs i y at

pub at_map : {A B : Type 0} (f : A → B) (xs : List A) (i : ℕ) (x : A) → slice_get xs i ≡ Some x → slice_get (map f xs) i ≡ Some (f x)
at_map f [] i x at = absurd (cc)
at_map f (z ∷ xs) zero x at = let same : z ≡ x = cc in ap (λ y. Some (f y)) same
at_map f (z ∷ xs) (suc i) x at = at_map f xs i x at

-- the places that are counted are those of the memories
pub are_memory_places : (m : Module) → IsModule m → AreMemoryPlaces (net_of m) (places_from 0 (map shape_of (cells_of m)))
unfolding net_of words_of
are_memory_places m readable i cell shape at_cell at_shape =
    let xs = cells_of m in
    let found = map_at cell_of xs i cell at_cell in
    let d = found.0 in
    let here_is : Some (shape_of d) ≡ Some (Some shape) = sym (at_map shape_of xs i d found.1) ∙ at_shape in
    let is : shape_of d ≡ Some shape = cc in
    let at = stands_at xs 0 i d shape (cells_in_order m readable.cells_order) found.1 is in
    let place : get_or (places_from 0 (map shape_of xs)) i 0 ≡ at.j = at.place ∙ zero_plus at.j in
    let name : d.name ≡ cell.name = ap (λ (c : Cell). c.name) found.2 in
    ap (λ p. option_map (λ w. w.words) (slice_get (filter_map words_of xs) p)) place
    ∙ ap (option_map (λ w. w.words)) at.stands
    ∙ sym (ap (λ n. Some (words_at (filter_map words_of xs) n)) (sym name)
    ∙ ap (λ o. Some (unwrap_or (option_map (λ w. w.words) o) [])) at.named)
  where
    zero_plus : (n : ℕ) → 0 + n ≡ n
    zero_plus n = omega arith
