-- A paper whose numbers fit their types prints as whole numbers and members in order, three deep.
use Rattle.std.proofs.Common.{◌≡◌, ℕ, zero, suc, ◌^◌, ◌<◌, ◌≤◌, List, [], ◌∷◌, Bool, true, false, ℤ, pos, negsuc, refl, arith}
use Rattle.std.specs.Prelude.{⊤}
use Rattle.std.specs.List.{AllByRecursion}
use Rattle.serde_json.specs.Data.{Data, null, boolean, number, unsigned, negative, float, string, array, object, Items, no_items, item, Members, no_members, member, depth}
use Rattle.serde_json.specs.Find.{of_integer}
use Rattle.serde_json.specs.Written.{has_float, items_have_float, members_have_float}
use Rattle.cs_base.specs.declared.formula.Lit.{Lit}
use Rattle.cs_base.specs.declared.formula.Clause.{Clause}
use Rattle.cs_json.proofs.Depth.{items_within}
use Rattle.cs_json.proofs.NoFloats.{neither}
use Rattle.cs_json.proofs.PlainData.{IsPlain, ArePlain, HasPlain, IsWhole}
use Rattle.cs_json.proofs.PlainDocument.{items_plain}
use Rattle.cs_cert.specs.declared.step.Step.{Step}
use Rattle.cs_cert.specs.declared.step.Step.TheVariants.{EdgeStep, PathStep, PinStep}
use Rattle.cs_cert.specs.declared.paper.Certificate.{Certificate}
use Rattle.cs_cert.specs.declared.paper.Refusal.{Refusal}
use Rattle.cs_cert.specs.declared.paper.FallbackPaper.{FallbackPaper}
use Rattle.cs_cert.specs.declared.paper.Paper.{Paper}
use Rattle.cs_cert.specs.declared.paper.Paper.TheVariants.{Certificate as certificate_paper, Refusal as refusal_paper, Fallback as fallback_paper}
use Rattle.cs_cert.specs.Fits.{AreSteps, FitsCertificate, FitsFallback, FitsPaper, FitsRefusal, IsId, IsSigned, IsSmall, IsSmallLine, IsStep}
use Rattle.cs_cert.specs.Papers.{bits_data, certificate_data, data_of, fallback_data, items_data, lag_data, line_data, literal_data, refusal_data, signed, step_data, whole_data}

-- ---- numbers

signed_plain : (z : ℤ) → IsSigned z → IsWhole (of_integer z)
signed_plain (pos n) h = omega arith
signed_plain (negsuc n) h = h

id_plain : (n : ℕ) → IsId n → IsWhole (of_integer (pos n))
id_plain n h = omega arith

literal_fits : (positive : Bool) (n : ℕ) → n < 2 ^ 32 → IsSigned (signed positive n)
literal_fits true n h = omega arith
literal_fits false zero h = omega arith
literal_fits false (suc n) h = omega arith

literal_plain : (lit : Lit) → IsSmall lit → IsPlain (literal_data lit)
literal_plain lit h = signed_plain (signed lit.positive lit.var) (literal_fits lit.positive lit.var h)

-- ---- lists

lags_plain : (lags : List ℤ) → AllByRecursion IsSigned lags → IsPlain (items_data lag_data lags)
lags_plain lags h = items_plain lag_data IsSigned signed_plain lags h

pub any_all : {A : Type 0} (xs : List A) → AllByRecursion (λ _. ⊤) xs
any_all [] = tt
any_all (x ∷ xs) = (tt, any_all xs)

contents_plain : (contents : List (List Bool)) → IsPlain (items_data bits_data contents)
contents_plain contents = items_plain bits_data (λ _. ⊤) (λ bits h. tt) contents (any_all contents)

line_plain : (line : Clause) → IsSmallLine line → IsPlain (line_data line)
line_plain line h = items_plain literal_data IsSmall literal_plain line.lits h

lines_plain : (lines : List Clause) → AllByRecursion IsSmallLine lines → IsPlain (items_data line_data lines)
lines_plain lines h = items_plain line_data IsSmallLine line_plain lines h

step_plain : (step : Step) → IsStep step → IsPlain (step_data step)
step_plain (EdgeStep edge) h = ((refl, tt), id_plain edge h, (tt, tt, tt))
step_plain (PathStep from edges) h = (
  (refl, (refl, tt)),
  items_plain whole_data IsId id_plain edges h.1,
  ((refl, tt), id_plain from h.0, (tt, tt, tt)),
)
step_plain (PinStep from to) h = ((refl, (refl, tt)), id_plain from h.0, ((refl, tt), tt, (tt, id_plain to h.1, tt)))

steps_plain : (steps : List Step) → AreSteps steps → IsPlain (items_data step_data steps)
steps_plain steps h = items_plain step_data IsStep step_plain steps h

-- ---- papers

two_whole : 2 < 2 ^ 64
two_whole = omega arith

certificate_plain : (c : Certificate) → FitsCertificate c → IsPlain (certificate_data c)
certificate_plain c h = (
  (refl, (refl, (refl, (refl, (refl, (refl, (refl, (refl, tt)))))))),
  contents_plain c.contents,
  (
    (refl, (refl, (refl, (refl, (refl, (refl, (refl, tt))))))),
    h.contexts,
    (
      (refl, (refl, (refl, (refl, (refl, (refl, tt)))))),
      steps_plain c.cycle h.cycle,
      (
        (refl, (refl, (refl, (refl, (refl, tt))))),
        tt,
        (
          (refl, (refl, (refl, (refl, tt)))),
          lags_plain c.lags h.rest.lags,
          (
            (refl, (refl, (refl, tt))),
            tt,
            (
              (refl, (refl, tt)),
              h.rest.period,
              (
                (refl, tt),
                h.rest.table,
                (tt, two_whole, tt),
              ),
            ),
          ),
        ),
      ),
    ),
  ),
)

refusal_plain : (r : Refusal) → FitsRefusal r → IsPlain (refusal_data r)
refusal_plain r h = (
  (refl, (refl, (refl, (refl, (refl, (refl, (refl, (refl, (refl, (refl, tt)))))))))),
  steps_plain r.chains h.chains,
  (
    (refl, (refl, (refl, (refl, (refl, (refl, (refl, (refl, (refl, tt))))))))),
    h.context,
    (
      (refl, (refl, (refl, (refl, (refl, (refl, (refl, (refl, tt)))))))),
      h.contexts,
      (
        (refl, (refl, (refl, (refl, (refl, (refl, (refl, tt))))))),
        steps_plain r.cycle h.cycle,
        (
          (refl, (refl, (refl, (refl, (refl, (refl, tt)))))),
          lines_plain r.derivation.lines h.derivation,
          (
            (refl, (refl, (refl, (refl, (refl, tt))))),
            tt,
            (
              (refl, (refl, (refl, (refl, tt)))),
              lags_plain r.lags h.rest.lags,
              (
                (refl, (refl, (refl, tt))),
                tt,
                (
                  (refl, (refl, tt)),
                  h.rest.period,
                  (
                    (refl, tt),
                    h.rest.table,
                    (tt, two_whole, tt),
                  ),
                ),
              ),
            ),
          ),
        ),
      ),
    ),
  ),
)

fallback_plain : (f : FallbackPaper) → FitsFallback f → IsPlain (fallback_data f)
fallback_plain f h = (
  (refl, (refl, (refl, (refl, (refl, (refl, (refl, (refl, (refl, (refl, (refl, tt))))))))))),
  lags_plain f.below.lags h.below,
  (
    (refl, (refl, (refl, (refl, (refl, (refl, (refl, (refl, (refl, (refl, tt)))))))))),
    steps_plain f.below.chains h.chains,
    (
      (refl, (refl, (refl, (refl, (refl, (refl, (refl, (refl, (refl, tt))))))))),
      contents_plain f.contents,
      (
        (refl, (refl, (refl, (refl, (refl, (refl, (refl, (refl, tt)))))))),
        h.context,
        (
          (refl, (refl, (refl, (refl, (refl, (refl, (refl, tt))))))),
          h.contexts,
          (
            (refl, (refl, (refl, (refl, (refl, (refl, tt)))))),
            lines_plain f.below.derivation.lines h.derivation,
            (
              (refl, (refl, (refl, (refl, (refl, tt))))),
              tt,
              (
                (refl, (refl, (refl, (refl, tt)))),
                lags_plain f.lags h.rest.lags,
                (
                  (refl, (refl, (refl, tt))),
                  tt,
                  (
                    (refl, (refl, tt)),
                    h.rest.period,
                    (
                      (refl, tt),
                      h.rest.table,
                      (tt, two_whole, tt),
                    ),
                  ),
                ),
              ),
            ),
          ),
        ),
      ),
    ),
  ),
)

pub paper_plain : (p : Paper) → FitsPaper p → IsPlain (data_of p)
unfolding data_of
paper_plain (certificate_paper c) h = certificate_plain c h
paper_plain (refusal_paper r) h = refusal_plain r h
paper_plain (fallback_paper f) h = fallback_plain f h

-- ---- how deep a paper nests

flat : {A : Type 0} (f : A → Data) → ((a : A) → depth (f a) ≤ 0) → (xs : List A) → depth (items_data f xs) ≤ 1
flat f each xs = let inner = items_within f 0 each xs in omega (arith, inner)

step_depth : (step : Step) → depth (step_data step) ≤ 2
step_depth (EdgeStep edge) = omega arith
step_depth (PathStep from edges) = let inner = flat whole_data (λ n. omega arith) edges in omega (arith, inner)
step_depth (PinStep from to) = omega arith

steps_depth : (steps : List Step) → depth (items_data step_data steps) ≤ 3
steps_depth steps = let inner = items_within step_data 2 step_depth steps in omega (arith, inner)

lines_depth : (lines : List Clause) → depth (items_data line_data lines) ≤ 2
lines_depth lines =
    let inner = items_within line_data 1 (λ line. flat literal_data (λ lit. omega arith) line.lits) lines in
    omega (arith, inner)

lags_depth : (lags : List ℤ) → depth (items_data lag_data lags) ≤ 1
lags_depth lags = flat lag_data (λ z. omega arith) lags

contents_depth : (contents : List (List Bool)) → depth (items_data bits_data contents) ≤ 1
contents_depth contents = flat bits_data (λ bits. omega arith) contents

pub paper_depth : (p : Paper) → depth (data_of p) ≤ 4
unfolding data_of
paper_depth (certificate_paper c) =
    let contents = contents_depth c.contents in
    let cycle = steps_depth c.cycle in
    let lags = lags_depth c.lags in omega (arith, contents, cycle, lags)
paper_depth (refusal_paper r) =
    let chains = steps_depth r.chains in
    let cycle = steps_depth r.cycle in
    let lines = lines_depth r.derivation.lines in
    let lags = lags_depth r.lags in omega (arith, chains, cycle, lines, lags)
paper_depth (fallback_paper f) =
    let below = lags_depth f.below.lags in
    let chains = steps_depth f.below.chains in
    let contents = contents_depth f.contents in
    let lines = lines_depth f.below.derivation.lines in
    let lags = lags_depth f.lags in omega (arith, below, chains, contents, lines, lags)

-- ---- no number is a float

mutual
  no_float : (d : Data) → IsPlain d → has_float d ≡ false
  no_float null h = refl
  no_float (boolean b) h = refl
  no_float (number (unsigned n)) h = refl
  no_float (number (negative z)) h = refl
  no_float (number (float x)) h = absurd h
  no_float (string s) h = refl
  no_float (array ds) h = items_no_float ds h
  no_float (object ms) h = members_no_float ms h

  items_no_float : (ds : Items) → ArePlain ds → items_have_float ds ≡ false
  items_no_float no_items h = refl
  items_no_float (item d ds) h =
      neither (has_float d) (items_have_float ds) (no_float d h.0) (items_no_float ds h.1)

  members_no_float : (ms : Members) → HasPlain ms → members_have_float ms ≡ false
  members_no_float no_members h = refl
  members_no_float (member k d ms) h =
      neither (has_float d) (members_have_float ms) (no_float d h.1) (members_no_float ms h.2)

pub paper_no_float : (p : Paper) → FitsPaper p → has_float (data_of p) ≡ false
paper_no_float p h = no_float (data_of p) (paper_plain p h)
