-- Rows one after the other, and what they keep of a pair.
use Rattle.std.proofs.Common.{◌≡◌, ℕ, ◌+◌, ◌<◌, List, [], length, get_or, sym, ap, subst, ◌∙◌, arith}
use Rattle.std.specs.Prelude.{Option, None}
use Rattle.cs_graph.specs.declared.delays.Delays.{Delays}
use Rattle.cs_graph.specs.declared.graph.Graph.{Graph}
use Rattle.cs_graph.specs.Period.{IsPath}
use Rattle.cs_paths.specs.declared.reach.Reach.{Reach}
use Rattle.cs_paths.specs.Reaches.{reach_of, known_at}
use Rattle.cs_paths.specs.Rows.{IsPairAt, IsRowOf, AreRowsOf, IsSquare, pair_at}
use Rattle.cs_paths.proofs.TraceLemmas.{known_read, row_read}

module _ (g : Graph) (delays : Delays) where
  pub row_kept : (rows : List (List Reach)) (u : ℕ) → AreRowsOf g delays rows → u < length g.vertices
      → IsRowOf g delays u (get_or rows u [])
  row_kept rows u are low =
      let same : 0 + u ≡ u = omega arith in
      subst (λ n. IsRowOf g delays n (get_or rows u [])) same (are.each u low)

  pub rows_square : (rows : List (List Reach)) → AreRowsOf g delays rows → IsSquare rows
  rows_square rows are u low =
      let count = are.counted in
      let row = (row_kept rows u are (omega (arith, low, count))).count in
      omega (arith, count, row)

  pub pair_kept : (rows : List (List Reach)) (u v : ℕ) → AreRowsOf g delays rows → u < length rows
      → v < length rows → IsPairAt g delays u v (pair_at rows u v)
  pair_kept rows u v are low low' =
      let count = are.counted in
      (row_kept rows u are (omega (arith, low, count))).pairs v (omega (arith, low', count))

  -- nothing is kept where no path leads
  pub none_leads : (row : List Reach) (u v : ℕ) → IsRowOf g delays u row → v < length g.vertices
      → known_at row v ≡ None → (es : List ℕ) → IsPath g u es v → ⊥
  none_leads row u v is low unknown = subst (IsPairAt g delays u v) unknown (is.pairs v low)

-- ---- what is read of rows

-- the row that is read is that of the rows
pub row_read_in : (inside rows : List (List Reach)) (row row' : List Reach) (i u : ℕ) → inside ≡ rows → i ≡ u
    → u < length rows → row' ≡ get_or inside i row' → row ≡ row' → get_or rows u [] ≡ row
row_read_in inside rows row row' i u view same low read slice =
    ap (λ (xs : List (List Reach)). get_or xs u []) (sym view)
    ∙ row_read inside row' i u same (subst (λ (xs : List (List Reach)). u < length xs) (sym view) low) read
    ∙ sym slice

-- what is read of a pair is what the rows keep
pub pair_read : (inside rows : List (List Reach)) (row row' : List Reach) (i j u v : ℕ) (d : Reach)
    (o : Option (ℕ × ℕ)) → inside ≡ rows → IsSquare inside → i ≡ u → j ≡ v → u < length rows → v < length rows
    → row' ≡ get_or inside i row' → row ≡ row' → o ≡ reach_of (get_or row j d) → pair_at rows u v ≡ o
pair_read inside rows row row' i j u v d o view square same other low low' read slice is =
    let count = ap (λ (xs : List (List Reach)). length xs) view in
    let here = row_read_in inside rows row row' i u view same low read slice in
    let places = square u (omega (arith, low, count)) in
    let width : length row ≡ length inside =
    ap (λ (xs : List Reach). length xs) (sym here ∙ ap (λ (xs : List (List Reach)). get_or xs u []) (sym view))
    ∙ places in
    ap (λ (xs : List Reach). known_at xs v) here
    ∙ known_read row j v d o other (omega (arith, low', width, count)) is
