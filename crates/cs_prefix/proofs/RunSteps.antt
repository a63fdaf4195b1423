-- A turn takes the codes of one driver, and at least one.
use Rattle.std.proofs.Common.{◌≡◌, ℕ, zero, suc, ◌+◌, ◌-◌, ◌/◌, ◌<◌, ◌≤◌, List, [], ◌∷◌, length, map, take, drop, get_or, length-drop, Bool, All, refl, sym, ap, ap₂, ◌∙◌, arith}
use Rattle.std.proofs.lemmas.List.{drop-drop, drop_all, take_all}
use Rattle.std.proofs.lemmas.List.Elements.{All-drop, All-map, All-take}
use Rattle.cs_prefix.specs.declared.plan.DriverId.{DriverId}
use Rattle.cs_prefix.specs.Layers.{Progress, add_driver}
use Rattle.cs_prefix.specs.Runs.{add_runs, driver_of, edge_of, leading}
use Rattle.cs_prefix.proofs.TurnLemmas.{leading_some, leading_within}

-- the codes from one on
abbrev pub codes_from : List ℕ → ℕ → List ℕ
codes_from codes done = take (length codes - done) (drop done codes)

from_is : (codes : List ℕ) (done : ℕ) → codes_from codes done ≡ drop done codes
from_is codes done =
    take_all (length codes - done) (drop done codes) (let long = length-drop done codes in omega (arith, long))

one_turn : (contents : List (List Bool)) (turns : ℕ) (rest : List ℕ) (s : Progress) → 0 < length rest
    → length rest ≤ turns
    → (0 < leading (get_or rest 0 0 / 65536) rest)
    × (add_runs contents (turns - 1) (drop (leading (get_or rest 0 0 / 65536) rest) rest)
    (add_driver contents (driver_of (get_or rest 0 0)) (map edge_of (take (leading (get_or rest 0 0 / 65536) rest) rest)) s)
    ≡ add_runs contents turns rest s)
one_turn contents turns [] s some enough = absurd (omega (arith, some))
one_turn contents zero (code ∷ codes) s some enough = absurd (omega (arith, enough))
one_turn contents (suc turns) (code ∷ codes) s some enough = (
  (let one = leading_some code codes in omega (arith, one)),
  ap (λ k. add_runs contents k (drop (leading (code / 65536) (code ∷ codes)) (code ∷ codes))
      (add_driver contents (driver_of code) (map edge_of (take (leading (code / 65536) (code ∷ codes))
      (code ∷ codes))) s))
      (let e : suc turns - 1 ≡ turns = omega arith in e),
)

-- the edges of a turn are among the edges
pub run_below : (n count done : ℕ) (codes : List ℕ) → All (λ code. edge_of code < n) codes
    → All (λ e. e < n) (map edge_of (take count (codes_from codes done)))
run_below n count done codes all =
    All-map (λ e. e < n) edge_of (take count (codes_from codes done))
    (All-take (λ code. edge_of code < n) count (codes_from codes done)
    (All-take (λ code. edge_of code < n) (length codes - done) (drop done codes)
    (All-drop (λ code. edge_of code < n) done codes all)))

-- what is left behind a turn
pub record TurnMade (contents : List (List Bool)) (codes : List ℕ) (done turns : ℕ) (s : Progress) (behind : ℕ)
    (t : Progress) : Type 0 where
  pub more : done < behind
  pub within : behind ≤ length codes
  pub left : ℕ
  pub enough : length codes - behind ≤ left
  pub made : add_runs contents left (drop behind codes) t ≡ add_runs contents turns (drop done codes) s

module _ (contents : List (List Bool)) (codes : List ℕ) (done turns count number : ℕ) (driver : DriverId)
    (es : List ℕ)
    (s t : Progress) (some : done < length codes) (enough : length codes - done ≤ turns) where
  abbrev rest : List ℕ
  rest = codes_from codes done

  abbrev first : ℕ
  first = get_or rest 0 0

  abbrev run : ℕ
  run = leading (first / 65536) rest

  long : length rest ≡ length codes - done
  long = ap length (from_is codes done) ∙ length-drop done codes

  turn : (0 < run)
      × (add_runs contents (turns - 1) (drop run rest) (add_driver contents (driver_of first)
      (map edge_of (take run rest)) s)
      ≡ add_runs contents turns rest s)
  turn = one_turn contents turns rest s (omega (arith, long, some)) (omega (arith, long, enough))

  pub turn_made : number ≡ first / 65536 → count ≡ leading number rest → driver ≡ driver_of first
      → es ≡ map edge_of (take count rest) → t ≡ add_driver contents driver es s
      → TurnMade contents codes done turns s (done + count) t
  turn_made number_is count_is driver_is es_are t_is =
      let count_by : count ≡ run = count_is ∙ ap (λ n. leading n rest) number_is in
      let one = turn.0 in
      let most = leading_within (first / 65536) rest in
      let more : done < done + count = omega (arith, one, count_by) in
      record {
        more = more;
        within = omega (arith, most, count_by, long, some);
        left = turns - 1;
        enough = omega (arith, more, enough);
        made =
            ap₂ (add_runs contents (turns - 1))
            (sym (drop-drop count done codes) ∙ ap₂ (λ n xs. drop n xs) count_by (sym (from_is codes done)))
            (t_is ∙ ap₂ (λ d xs. add_driver contents d xs s) driver_is (es_are
            ∙ ap (λ n. map edge_of (take n rest)) count_by))
            ∙ turn.1 ∙ ap (λ cs. add_runs contents turns cs s) (from_is codes done);
      }

-- no codes are left
pub turns_end : (contents : List (List Bool)) (turns done : ℕ) (codes : List ℕ) (s : Progress)
    → length codes ≤ done
    → s ≡ add_runs contents turns (drop done codes) s
turns_end contents turns done codes s all =
    sym (ap (λ cs. add_runs contents turns cs s) (drop_all done codes all) ∙ ended turns)
  where
    ended : (k : ℕ) → add_runs contents k [] s ≡ s
    ended zero = refl
    ended (suc k) = refl
