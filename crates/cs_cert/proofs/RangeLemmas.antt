-- A paper that is read is in range.
use Rattle.std.proofs.Common.{◌≡◌, ℕ, zero, suc, ◌+◌, ◌^◌, ℤ, pos, negsuc, List, [], ◌∷◌, Bool, true, false, cond, Option, Some, None, Ok, Err, option_and_then, codes, refl, subst, arith, ◌==◌, nat_lt}
use Rattle.std.specs.Prelude.{⊤, IfOk, IsTrue}
use Rattle.std.specs.List.{AllByRecursion}
use Rattle.serde_json.specs.Data.{Data, Members}
use Rattle.serde_json.specs.Find.{get_member}
use Rattle.cs_base.specs.declared.formula.Clause.{Clause}
use Rattle.cs_base.specs.declared.formula.Derivation.{Derivation}
use Rattle.cs_json.specs.Walk.{Read, Path, ◌>>=◌, found, each_item, list, members, required, to_item, to_key, under, whole_number}
use Rattle.cs_json.specs.Shape.{json_of}
use Rattle.cs_json.proofs.Ordered.{Holds}
use Rattle.cs_json.proofs.PlainDocument.{below_by_test}
use Rattle.cs_cert.specs.declared.retiming.Retiming.{Retiming}
use Rattle.cs_cert.specs.declared.paper.Certificate.{Certificate}
use Rattle.cs_cert.specs.declared.paper.Refusal.{Refusal}
use Rattle.cs_cert.specs.declared.paper.FallbackPaper.{FallbackPaper}
use Rattle.cs_cert.specs.declared.paper.Paper.{Paper}
use Rattle.cs_cert.specs.declared.paper.Paper.TheVariants.{Certificate as certificate_paper, Refusal as refusal_paper, Fallback as fallback_paper}
use Rattle.cs_cert.specs.declared.kind.PaperKind.{PaperKind}
use Rattle.cs_cert.specs.declared.kind.PaperKind.TheVariants.{OfCertificate, OfRefusal, OfFallback}
use Rattle.cs_cert.specs.PaperShape as shape
use Rattle.cs_cert.specs.PaperShape.{Says, is_lag, is_version, lag_of, literal_of, version_of, integer}
use Rattle.cs_cert.specs.Papers.{AreLags, AreLiterals, IsInRange, IsLiteral}

-- ---- what holds of what a walk reads

keeps : {A B : Type 0} (P : A → Type 0) (Q : B → Type 0) (a : Read A) (f : A → Read B) → IfOk a P
    → ((x : A) → P x → IfOk (f x) Q) → IfOk (a >>= f) Q
keeps P Q (Ok x) f h step = step x h
keeps P Q (Err at) f h step = tt

keeps_under : {A : Type 0} (P : A → Type 0) (path : Path) (a : Read A) → IfOk a P → IfOk (under path a) P
keeps_under P path (Ok x) h = h
keeps_under P path (Err at) h = tt

any_read : {A : Type 0} (a : Read A) → IfOk a (λ _. ⊤)
any_read (Ok x) = tt
any_read (Err at) = tt

keeps_required : {A : Type 0} (P : A → Type 0) (f : Data → Read A) → ((d : Data) → IfOk (f d) P)
    → (key : List ℕ) (ms : Members) → IfOk (required f key ms) P
keeps_required P f each key ms =
    keeps_under P (to_key key) (found (get_member key ms) >>= f)
    (keeps (λ _. ⊤) P (found (get_member key ms)) f (any_read (found (get_member key ms))) (λ d h. each d))

each_kept : {A : Type 0} (P : A → Type 0) (f : Data → Read A) → ((d : Data) → IfOk (f d) P)
    → (i : ℕ) (ds : List Data) → IfOk (each_item f i ds) (AllByRecursion P)
each_kept P f each i [] = tt
each_kept P f each i (d ∷ ds) =
    keeps P (AllByRecursion P) (under (to_item i) (f d)) (λ a. each_item f (i + 1) ds >>= λ rest. Ok (a ∷ rest))
    (keeps_under P (to_item i) (f d) (each d))
    (λ a here. keeps (AllByRecursion P) (AllByRecursion P) (each_item f (i + 1) ds) (λ rest. Ok (a ∷ rest))
    (each_kept P f each (i + 1) ds) (λ rest all. (here, all)))

items_kept : {A : Type 0} (P : A → Type 0) (f : Data → Read A) → ((d : Data) → IfOk (f d) P)
    → (d : Data) → IfOk (shape.items f d) (AllByRecursion P)
items_kept P f each d =
    keeps (λ _. ⊤) (AllByRecursion P) (list d) (each_item f 0) (any_read (list d)) (λ ds h. each_kept P f each 0 ds)

found_kept : {A B : Type 0} (P : A → Type 0) (g : B → Option A) → ((b : B) → Holds P (g b)) → (o : Option B)
    → IfOk (found (option_and_then g o)) P
found_kept {A = A} P g each None = tt
found_kept {A = A} P g each (Some b) = at (g b) (each b)
  where
    at : (o : Option A) → Holds P o → IfOk (found o) P
    at None h = tt
    at (Some a) h = h

chosen : {A : Type 0} (P : A → Type 0) (b : Bool) (x : A) → (b ≡ true → P x) → Holds P (cond b (Some x) None)
chosen P true x h = h refl
chosen P false x h = tt

-- ---- numbers

IsLag : ℤ → Type 0
IsLag z = IsTrue (is_lag z)

lag_kept : (d : Data) → IfOk (shape.lag d) IsLag
unfolding IsLag
lag_kept d = found_kept IsLag lag_of (λ z. chosen IsLag (is_lag z) z (λ is. is)) (integer d)

IsVersion : ℕ → Type 0
IsVersion n = IsTrue (is_version n)

version_kept : (d : Data) → IfOk (shape.version d) IsVersion
unfolding IsVersion
version_kept d = found_kept IsVersion version_of (λ n. chosen IsVersion (is_version n) n (λ is. is)) (whole_number d)

table_by_kept : (b : Bool) (ms : Members)
    → IfOk (cond b (Ok 1) (required shape.version (codes "table") ms)) IsVersion
unfolding IsVersion
table_by_kept true ms = refl
table_by_kept false ms = keeps_required IsVersion shape.version version_kept (codes "table") ms

table_kept : (ms : Members) → IfOk (shape.table ms) IsVersion
table_kept ms =
    keeps IsVersion IsVersion (required shape.version (codes "version") ms) (λ n. shape.table_by n ms)
    (keeps_required IsVersion shape.version version_kept (codes "version") ms) (λ n h. table_by_kept (n == 1) ms)

literal_in_range : (z : ℤ) → Holds IsLiteral (literal_of z)
literal_in_range (pos zero) = tt
literal_in_range (pos (suc n)) =
    chosen IsLiteral (nat_lt n (2 ^ 31)) (record { var = suc n; positive = true })
    (λ is. let few = below_by_test n (2 ^ 31) is in (omega arith, omega arith))
literal_in_range (negsuc n) =
    chosen IsLiteral (nat_lt n (2 ^ 31)) (record { var = suc n; positive = false })
    (λ is. let few = below_by_test n (2 ^ 31) is in (omega arith, omega arith))

IsLine : Clause → Type 0
IsLine line = AllByRecursion IsLiteral line.lits

line_kept : (d : Data) → IfOk (shape.line d) IsLine
unfolding IsLine
line_kept d =
    keeps (AllByRecursion IsLiteral) IsLine (shape.items shape.literal d) (λ lits. Ok (record { lits = lits }))
    (items_kept IsLiteral shape.literal (λ e. found_kept IsLiteral literal_of literal_in_range (integer e)) d)
    (λ lits all. all)

HasLiterals : Derivation → Type 0
HasLiterals d = AreLiterals d.lines

derivation_kept : (d : Data) → IfOk (shape.derivation d) HasLiterals
unfolding HasLiterals IsLine
derivation_kept d =
    keeps (AllByRecursion IsLine) HasLiterals (shape.items shape.line d) (λ lines. Ok (record { lines = lines }))
    (items_kept IsLine shape.line line_kept d) (λ lines all. all)

-- ---- papers

IsRetiming : Retiming → Type 0
IsRetiming rest = IsTrue (is_version rest.table) × AreLags rest.lags

-- what comes next, where nothing is asked of what was read
past : {A B : Type 0} (Q : B → Type 0) (a : Read A) (f : A → Read B) → ((x : A) → IfOk (f x) Q) → IfOk (a >>= f) Q
past Q a f step = keeps (λ _. ⊤) Q a f (any_read a) (λ x h. step x)

lags_kept : (key : List ℕ) (ms : Members) → IfOk (required (shape.items shape.lag) key ms) AreLags
unfolding IsLag
lags_kept key ms =
    keeps_required AreLags (shape.items shape.lag) (items_kept IsLag shape.lag lag_kept) key ms

retiming_kept : (ms : Members) → IfOk (shape.retiming ms) IsRetiming
unfolding IsRetiming IsVersion
retiming_kept ms =
    keeps AreLags IsRetiming (required (shape.items shape.lag) (codes "lags") ms) _ (lags_kept (codes "lags") ms)
    (λ lags are. past IsRetiming (required shape.mode (codes "mode") ms) _
    (λ mode. past IsRetiming (required shape.whole (codes "period") ms) _
    (λ period. keeps IsVersion IsRetiming (shape.table ms) _ (table_kept ms) (λ table is. (is, are)))))

IsCertificate : Certificate → Type 0
IsCertificate c = IsInRange (certificate_paper c)

certificate_kept : (ms : Members) → IfOk (shape.certificate ms) IsCertificate
unfolding shape.certificate IsCertificate IsRetiming
certificate_kept ms =
    past IsCertificate (required (shape.items shape.bits) (codes "contents") ms) _
    (λ contents. past IsCertificate (required shape.whole (codes "contexts") ms) _
    (λ contexts. past IsCertificate (required (shape.items shape.step) (codes "cycle") ms) _
    (λ cycle. keeps IsRetiming IsCertificate (shape.retiming ms) _ (retiming_kept ms) (λ rest is. is))))

IsRefusal : Refusal → Type 0
IsRefusal r = IsInRange (refusal_paper r)

refusal_kept : (ms : Members) → IfOk (shape.refusal ms) IsRefusal
unfolding shape.refusal IsRefusal IsRetiming HasLiterals
refusal_kept ms =
    past IsRefusal (required (shape.items shape.step) (codes "chains") ms) _
    (λ chains. past IsRefusal (required shape.whole (codes "context") ms) _
    (λ context. past IsRefusal (required shape.whole (codes "contexts") ms) _
    (λ contexts. past IsRefusal (required (shape.items shape.step) (codes "cycle") ms) _
    (λ cycle. keeps HasLiterals IsRefusal (required shape.derivation (codes "derivation") ms) _
    (keeps_required HasLiterals shape.derivation derivation_kept (codes "derivation") ms)
    (λ lines are. keeps IsRetiming IsRefusal (shape.retiming ms) _ (retiming_kept ms)
    (λ rest is. (is.0, is.1, are)))))))

IsFallback : FallbackPaper → Type 0
IsFallback f = IsInRange (fallback_paper f)

fallback_kept : (ms : Members) → IfOk (shape.fallback ms) IsFallback
unfolding shape.fallback IsFallback IsRetiming HasLiterals
fallback_kept ms =
    keeps AreLags IsFallback (required (shape.items shape.lag) (codes "below") ms) _ (lags_kept (codes "below") ms)
    (λ below low. past IsFallback (required (shape.items shape.step) (codes "chains") ms) _
    (λ chains. past IsFallback (required (shape.items shape.bits) (codes "contents") ms) _
    (λ contents. past IsFallback (required shape.whole (codes "context") ms) _
    (λ context. past IsFallback (required shape.whole (codes "contexts") ms) _
    (λ contexts. keeps HasLiterals IsFallback (required shape.derivation (codes "derivation") ms) _
    (keeps_required HasLiterals shape.derivation derivation_kept (codes "derivation") ms)
    (λ lines are. keeps IsRetiming IsFallback (shape.retiming ms) _ (retiming_kept ms)
    (λ rest is. (is.0, is.1, low, are))))))))

paper_by_kept : (kind : PaperKind) (ms : Members) → IfOk (shape.paper_by kind ms) IsInRange
unfolding IsCertificate IsRefusal IsFallback
paper_by_kept OfCertificate ms =
    keeps IsCertificate IsInRange (shape.certificate ms) (λ c. Ok (certificate_paper c)) (certificate_kept ms) (λ c is. is)
paper_by_kept OfRefusal ms =
    keeps IsRefusal IsInRange (shape.refusal ms) (λ r. Ok (refusal_paper r)) (refusal_kept ms) (λ r is. is)
paper_by_kept OfFallback ms =
    keeps IsFallback IsInRange (shape.fallback ms) (λ f. Ok (fallback_paper f)) (fallback_kept ms) (λ f is. is)

paper_kept : (d : Data) → IfOk (shape.paper d) IsInRange
paper_kept d =
    past IsInRange (members d) _
    (λ ms. past IsInRange (required shape.paper_kind (codes "kind") ms) _ (λ kind. paper_by_kept kind ms))

-- what bytes say is in range
pub paper_in_range : (bytes : List ℕ) (p : Paper) → shape.paper_of bytes ≡ Says p → IsInRange p
paper_in_range bytes p said = by_json (json_of bytes) said
  where
    by_read : (read : Read Paper) → IfOk read IsInRange → shape.reading_of read ≡ Says p → IsInRange p
    by_read (Ok q) is same = let is_it : q ≡ p = cc in subst IsInRange is_it is
    by_read (Err at) is same = absurd (cc)

    by_json : (o : Option Data) → shape.reading o ≡ Says p → IsInRange p
    by_json None same = absurd (cc)
    by_json (Some d) same = by_read (shape.paper d) (paper_kept d) same
