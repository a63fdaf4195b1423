use Rattle.std.proofs.Common.{◌≡◌, ℕ, Option, Some, None, true, false, is_some, nat_eq, take, sym, ap, ◌∙◌}
use Rattle.std.specs.List.{list_any}
use Rattle.std.specs.Option.{IfNone}
use Rattle.cs_lower.proofs.BitLists.{found_stands, stands_before, stands_in_rest}
use Rattle.cs_lower.proofs.LeastLemmas.{closes_at}
use Rattle.cs_lower.proofs.PlaceLemmas.{stands}
use Rattle.cs_lower.proofs.rings.closed_ring.Goals as goal

-- a fact where there is nothing
none_there : (o : Option ℕ) (P : Type 0) → P → IfNone o P
none_there None P fact = fact
none_there (Some x) P fact = tt

pub returns-in_err-place-clause-none : goal.returns-in_err-place-clause-none
returns-in_err-place-clause-none c =
    none_there c.from_residual.result
    (list_any (nat_eq c.args.stop) c.args.passed.now ≡ true
    → list_any (nat_eq c.args.stop) (take c.args.start c.args.passed.now) ≡ true)
    (λ is.
    let lacks : list_any (nat_eq c.args.stop) c.args.passed.now ≡ false =
    sym (stands c.args.stop c.args.passed.now) ∙ ap is_some (sym c.in_err-place.ensures.place) in
    absurd (cc))

pub returns-then-place-start-clause-none : goal.returns-then-place-start-clause-none
returns-then-place-start-clause-none c = λ is.
    stands_before c.args.stop c.in_ok-place.place c.args.start c.args.passed.now
    (found_stands c.args.stop c.in_ok-place.place c.args.passed.now (sym c.in_ok-place.ensures.place))
    c.if-place-start.true

pub least_of-requires : goal.least_of-requires
least_of-requires c =
    stands_in_rest c.args.stop c.in_ok-place.place c.args.passed.now c.as_slice.result.now c.as_slice.ensures
    (found_stands c.args.stop c.in_ok-place.place c.args.passed.now (sym c.in_ok-place.ensures.place))

pub returns-clause-some : goal.returns-clause-some
returns-clause-some c =
    closes_at c.args.start c.args.stop c.in_ok-place.place c.least_of.result c.args.passed.now
    c.as_slice.result.now c.as_slice.ensures c.if-place-start.false
    (found_stands c.args.stop c.in_ok-place.place c.args.passed.now (sym c.in_ok-place.ensures.place))
    c.least_of.ensures
