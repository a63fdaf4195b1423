-- One literal more is set false.
use Rattle.std.proofs.Common.{◌≡◌, ℕ, ◌<◌, true, List, map, length, arith, rules}
use Rattle.std.specs.List.{Contains}
use Rattle.cs_base.specs.declared.formula.Lit.{Lit as Literal}
use Rattle.cs_base.specs.Derivations.{negated}
use Rattle.cs_rup.specs.Settings.{is_false}
use Rattle.cs_rup.specs.Trails.{set_by}
use Rattle.cs_rup.proofs.Lists.{contains_at, at_contains, contains_map, places_more}
use Rattle.cs_rup.proofs.Trails.{grows_more}
use Rattle.std.proofs.Common.{refl, get_or}
use Rattle.std.proofs.lemmas.Option.{slice_get_within, slice_get_read}
use Rattle.std.proofs.lemmas.Result.{err_from_is_err_and}
use Rattle.cs_rup.proofs.trail.Trail.refute.Goals as goal

-- a literal of the line
among : (line : List Literal) (i : ℕ) (lit : Literal) → lit ≡ get_or line i lit → i < length line → Contains (map negated line) (negated lit)
among line i lit is within =
    contains_map negated line lit (contains_at line i lit (slice_get_read line (length line) i lit refl within is))

pub returns-in_err-set_false-clause-grows : goal.returns-in_err-set_false-clause-grows
returns-in_err-set_false-clause-grows c =
    grows_more c.args.self.now c.loop-lit.self c.set_false.new.self c.loop-lit.invariant.grows c.set_false.ensures.grows

pub returns-in_err-set_false-clause-err : goal.returns-in_err-set_false-clause-err
returns-in_err-set_false-clause-err c =
    let p = err_from_is_err_and c.from_residual.result c.from_residual.ensures.1 in
    rw (p.1, p.2) (λ clauses sound. c.in_err-set_false.ensures.err clauses (map negated c.args.line.now)
    (among c.args.line.now c.loop-lit.lit-index _ (search rules) c.loop-lit-test.true)
    (c.loop-lit.invariant.sound clauses sound))

pub loop-lit-preserved : goal.loop-lit-preserved
loop-lit-preserved c =
    let before = c.args.self.now in
    let old = c.loop-lit.self in
    let new = c.set_false.new.self in
    let more = c.set_false.ensures.grows in
    let i = c.loop-lit.invariant in
    let P : ℕ → Literal → Type 0 = λ k lit. is_false (set_by new) lit ≡ true in
    record {
      grows = grows_more before old new i.grows more;
      given = places_more P c.args.line.now c.loop-lit.lit-index _ (search rules) c.loop-lit-test.true
          (λ k lit below found. more.stays (negated lit) (i.given k lit below found))
          c.in_ok-set_false.ensures.is_false;
      sound = λ clauses sound. c.in_ok-set_false.ensures.sound clauses (map negated c.args.line.now)
          (among c.args.line.now c.loop-lit.lit-index _ (search rules) c.loop-lit-test.true) (i.sound clauses sound);
    }

pub returns-clause-given : goal.returns-clause-given
returns-clause-given c lit among =
    let at = at_contains c.args.line.now lit among in
    let within = slice_get_within c.args.line.now at.0 lit at.1 in
    c.loop-lit.invariant.given at.0 lit (omega arith) at.1
