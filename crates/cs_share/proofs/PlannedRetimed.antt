-- What a plan needs of a retimed machine, by the machine and its new contents.
use Rattle.std.proofs.Common.{◌≡◌, ◌∙◌, ℕ, suc, ◌+◌, List, [], ◌∷◌, length, map, Bool, Option, ap, ap₂, arith, get_or, refl, subst, sym}
use Rattle.std.specs.Prelude.{ℤ}
use Rattle.std.specs.List.{enumerate_from}
use Rattle.cs_graph.specs.declared.contents.Contents.{Contents}
use Rattle.cs_graph.specs.declared.edge.Edge.{Edge}
use Rattle.cs_graph.specs.declared.graph.Graph.{Graph}
use Rattle.cs_graph.specs.declared.vertex.Vertex.{Vertex}
use Rattle.cs_graph.specs.Lags.{HasLengths, retimed, retimed_edge}
use Rattle.cs_prefix.specs.declared.plan.Plan.{Plan}
use Rattle.cs_prefix.specs.Prefixes.{IsPlan}
use Rattle.cs_share.specs.declared.types.Names.{Names}
use Rattle.cs_share.specs.Planned.{end_signal, end_signals, vertex_numbers}
use Rattle.cs_share.specs.Registers.{driver_of_edge, edge_contents, edge_drivers}
use Rattle.cs_share.specs.Shared.{driver_signal, first_register, has_write}

module _ (lags : List ℤ) (k : Contents) where
  -- ---- edges

  drivers_from : (n : ℕ) (edges : List Edge)
      → map driver_of_edge (map (retimed_edge lags k) (enumerate_from n edges)) ≡ map driver_of_edge edges
  drivers_from n [] = refl
  drivers_from n (d ∷ edges) = ap (λ drivers. driver_of_edge d ∷ drivers) (drivers_from (n + 1) edges)

  -- the drivers of its edges
  pub retimed_drivers : (m : Graph) → edge_drivers (retimed lags k m) ≡ edge_drivers m
  retimed_drivers m = drivers_from 0 m.edges

  contents_from : (n : ℕ) (edges : List Edge) (rest : List (List Bool)) → length rest ≡ length edges
      → ((i : ℕ) → get_or k.of (n + i) [] ≡ get_or rest i [])
      → map (λ (e : Edge). e.contents) (map (retimed_edge lags k) (enumerate_from n edges)) ≡ rest
  contents_from n [] [] count same = refl
  contents_from n [] (bits ∷ rest) count same = absurd (omega (arith, count))
  contents_from n (d ∷ edges) [] count same = absurd (omega (arith, count))
  contents_from n (d ∷ edges) (bits ∷ rest) count same =
      ap₂ (λ first others. first ∷ others)
      ((let place : n ≡ n + 0 = omega arith in ap (λ e. get_or k.of e []) place) ∙ same 0)
      (contents_from (n + 1) edges rest (omega (arith, count)) (λ i.
      (let place : n + 1 + i ≡ n + suc i = omega arith in ap (λ e. get_or k.of e []) place) ∙ same (suc i)))

  -- the contents of its edges
  pub retimed_contents : (m : Graph) → HasLengths m lags k → edge_contents (retimed lags k m) ≡ k.of
  retimed_contents m lengths =
      contents_from 0 m.edges k.of lengths.lists
      (λ i. let place : 0 + i ≡ i = omega arith in ap (λ e. get_or k.of e []) place)

  -- a plan for the machine's drivers with these contents is one for it
  pub retimed_plan : (m : Graph) → HasLengths m lags k → (plan : Plan) → IsPlan (edge_drivers m) k.of plan
      → IsPlan (edge_drivers (retimed lags k m)) (edge_contents (retimed lags k m)) plan
  retimed_plan m lengths plan is =
      subst (λ drivers. IsPlan drivers (edge_contents (retimed lags k m)) plan) (sym (retimed_drivers m))
      (subst (λ contents. IsPlan (edge_drivers m) contents plan) (sym (retimed_contents m lengths)) is)

  ends_from : (vertices : List Vertex) (numbers : List ℕ) (first n : ℕ) (ends : List (Option ℕ))
      (edges : List Edge)
      → end_signals vertices numbers first ends (map (retimed_edge lags k) (enumerate_from n edges))
      ≡ end_signals vertices numbers first ends edges
  ends_from vertices numbers first n [] edges = refl
  ends_from vertices numbers first n (end ∷ ends) [] = refl
  ends_from vertices numbers first n (end ∷ ends) (d ∷ edges) =
      ap (λ signals. end_signal vertices numbers first (end, d) ∷ signals)
      (ends_from vertices numbers first (n + 1) ends edges)

  -- what the ends of its edges read
  pub retimed_ends : (m : Graph) (vertices : List Vertex) (numbers : List ℕ) (first : ℕ)
      (ends : List (Option ℕ))
      → end_signals vertices numbers first ends (retimed lags k m).edges
      ≡ end_signals vertices numbers first ends m.edges
  retimed_ends m vertices numbers first ends = ends_from vertices numbers first 0 ends m.edges

  -- ---- vertices

  -- the numbers of its vertices
  pub retimed_numbers : (m : Graph) (names : Names)
      → vertex_numbers (retimed lags k m) names ≡ vertex_numbers m names
  retimed_numbers m names = refl

  pub retimed_first : (m : Graph) (names : Names)
      → first_register (retimed lags k m) names ≡ first_register m names
  retimed_first m names = refl

  -- its drivers' signals
  pub retimed_driver : (m : Graph) (names : Names) (v o : ℕ)
      → driver_signal (retimed lags k m) names v o ≡ driver_signal m names v o
  retimed_driver m names v o = refl

  pub retimed_writes : (m : Graph) → has_write (retimed lags k m) ≡ has_write m
  retimed_writes m = refl
