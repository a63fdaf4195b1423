-- The learned clause is written, and its first literal set.
use Rattle.std.proofs.Common.{◌≡◌, ◌+◌, ◌++◌, [], ◌∷◌, length, refl, ap, ◌∙◌, arith}
use Rattle.cs_sat.proofs.Literals.{on_ok}
use Rattle.cs_sat.proofs.Searches.{first_unset, first_within, learned_goes_on}
use Rattle.cs_sat.proofs.search.Search.assert_learned.Goals as goal

pub imply-requires-clause-within : goal.imply-requires-clause-within
imply-requires-clause-within c =
    let within = first_within (c.args.f.now.clauses ++ c.args.self.now.store.lines) c.args.learned c.args.self.now.trail
    c.requires.learned c.requires.search.over.sound in
    let size = c.cut.ensures.size in
    omega arith

pub imply-requires-clause-open : goal.imply-requires-clause-open
imply-requires-clause-open c =
    first_unset (c.args.f.now.clauses ++ c.args.self.now.store.lines) c.args.learned c.args.self.now.trail c.cut.new.self
    c.requires.learned c.requires.search.over.sound c.cut.ensures.trail c.cut.ensures.cut

pub returns : goal.returns
returns c =
    let count : length c.as_slice.result.now + length c.as_slice-2.result.now ≡ length c.args.f.now.clauses + length c.args.self.now.store.lines =
    omega (arith, ap length c.as_slice.ensures, ap length c.as_slice-2.ensures) in
    on_ok c.imply.result _ _
    (λ implied. learned_goes_on c.args.f.now c.args.self.now _ c.cut.new.self c.args.learned c.line_of.result (length c.as_slice.result.now + length c.as_slice-2.result.now)
    c.requires.search c.requires.learned c.line_of.ensures c.cut.ensures.trail c.cut.ensures.size c.cut.ensures.cut
    (c.in_ok-add.ensures.ok ∙ ap (λ ls. ls ++ c.line_of.result ∷ []) c.in_ok-watch.ensures)
    count c.imply.ensures.trail c.imply.ensures.size
    implied refl)
    c.imply.ensures.ok
