-- What is told of files and sinks, and what writes and puts change.
use Rattle.std.proofs.Common.{◌≡◌, ◌⊎◌, ℕ, List, [], ◌∷◌, Option, Some, None, true, false, cond, Contains, sym, subst, ap, ◌∙◌, inl, inr, refl}
use Rattle.std.proofs.lemmas.List.{append-nil}
use Rattle.std.specs.Prelude.{IsSome, IsSomeAnd, ⊤}
use Rattle.std.specs.Ordering.{nat_cmp, eq_by_cmp}
use Rattle.std.specs.Cmp.Lexicographic.{slice_cmp, texts_ties, nat_list_cmp_total}
use Rattle.std.proofs.lemmas.Slice.Eq.{bytes_eq-Decides}
use Rattle.std.proofs.lemmas.Bool.{false_from_ne_true}
use Rattle.std.specs.FinMap.{get, get-insert}
use Rattle.cs_io.specs.Sinks.{SinkState, appended}
use Rattle.cs_io.specs.Stores.{StoreState, Files, FileHas, with_file, FailsToWrite}
use Rattle.cs_run.specs.declared.reply.NewFile.{NewFile}
use Rattle.cs_run.specs.declared.reply.Reply.{Reply}
use Rattle.cs_run.specs.Promises.{OthersStay}
use Rattle.cs_run.specs.Replies.{putting, writing}
use Rattle.cs_run.specs.Worlds.{PutsSome, StopsAtPut, StopsAtWrite, StopsPutting, StopsWriting, World, after_put, after_puts, after_write, after_writes, file_in}

-- ---- what a file has

found_has : (P : List ℕ → Type 0) (found : Option (List ℕ)) (bytes : List ℕ) → Some found ≡ Some (Some bytes) → IsSomeAnd found P → P bytes
found_has P None bytes is h = absurd h
found_has P (Some other) bytes is h = let same : other ≡ bytes = cc in subst P same h

-- where the store tells the bytes, they have what the file has
pub has_at : (files : Option Files) (name bytes : List ℕ) (P : List ℕ → Type 0) → file_in files name ≡ Some (Some bytes) → FileHas files name P → P bytes
has_at None name bytes P is h = absurd (cc)
has_at (Some told) name bytes P is h = found_has P (get told name) bytes is h

-- a file that is written is told
tied_itself : (name : List ℕ) → eq_by_cmp (slice_cmp nat_cmp) name name ≡ true
tied_itself name = sym (texts_ties name name) ∙ (bytes_eq-Decides name name).1 refl

pub told_here : (files : Option Files) (name bytes : List ℕ) → IsSome files → file_in (with_file files name bytes) name ≡ Some (Some bytes)
told_here None name bytes told = absurd (cc)
told_here (Some files) name bytes told =
    ap Some (get-insert nat_list_cmp_total files name bytes name
    ∙ ap (λ b. cond b (Some bytes) (get files name)) (tied_itself name))

pub told_file : (files : Option Files) (name other bytes netlist : List ℕ) → file_in files other ≡ Some (Some bytes) →
    file_in (with_file files name netlist) name ≡ Some (Some netlist)
told_file None name other bytes netlist told = absurd (cc)
told_file (Some files) name other bytes netlist told = told_here (Some files) name netlist refl

-- ---- other files

tested : (name other : List ℕ) → (name ≡ other → ⊥) → eq_by_cmp (slice_cmp nat_cmp) name other ≡ false
tested name other differ = sym (texts_ties name other) ∙ false_from_ne_true _ (λ e. differ ((bytes_eq-Decides name other).0 e))

-- a write changes no file of another name
other_file : (files : Option Files) (name bytes other : List ℕ) → (other ≡ name → ⊥) → file_in (with_file files name bytes) other ≡ file_in files other
other_file None name bytes other differ = refl
other_file (Some told) name bytes other differ =
    ap Some (get-insert nat_list_cmp_total told name bytes other ∙ ap (λ b. cond b (Some bytes) (get told other)) (tested other name differ))

differ : (names : List (List ℕ)) (name other : List ℕ) → Contains names name → (Contains names other → ⊥) → other ≡ name → ⊥
differ names name other among outside e = outside (subst (λ x. Contains names x) (sym e) among)

after_failure : (names : List (List ℕ)) (old new : StoreState) (name bytes : List ℕ) → Contains names name → FailsToWrite old new name bytes →
    OthersStay names old.files new.files
after_failure names old new name bytes among fails = λ other outside.
    elim fails.files [
      | inl same ↦ ap (λ files. file_in files other) same
      | inr (count, written) ↦ ap (λ files. file_in files other) written ∙ other_file old.files name _ other (differ names name other among outside)
    ]

-- the names of the files are among these
abbrev pub AreNamed : List (List ℕ) → List NewFile → Type 0
AreNamed names [] = ⊤
AreNamed names (file ∷ files) = Contains names file.name × AreNamed names files

-- writes change no file of a name that isn't among these
pub others_after : (names : List (List ℕ)) (store : StoreState) (writes : List NewFile) → AreNamed names writes →
    OthersStay names store.files (after_writes store writes).files
others_after names store [] named = λ other outside. refl
others_after names store (file ∷ files) named = λ other outside.
    others_after names (after_write store file) files named.1 other outside
    ∙ other_file store.files file.name file.bytes other (differ names file.name other named.0 outside)

pub others_after_stop : (names : List (List ℕ)) (writes : List NewFile) (old new : StoreState) (failed : NewFile) → AreNamed names writes →
    StopsWriting writes old new failed → OthersStay names old.files new.files
others_after_stop names [] old new failed named stops = absurd stops
others_after_stop names (file ∷ files) old new failed named (inl (fails, is)) = after_failure names old new file.name file.bytes named.0 fails
others_after_stop names (file ∷ files) old new failed named (inr later) = λ other outside.
    others_after_stop names files (after_write old file) new failed named.1 later other outside
    ∙ other_file old.files file.name file.bytes other (differ names file.name other named.0 outside)

-- ---- nothing to put

appended_nothing : (written : Option (List ℕ)) → appended written [] ≡ written
appended_nothing None = refl
appended_nothing (Some told) = ap Some (append-nil told)

pub puts_nothing : (old new : SinkState) → PutsSome old new [] → new ≡ old
puts_nothing old new (inl puts) = puts ∙ ap (λ (written : Option (List ℕ)). let s : SinkState = record old { written = written } in s) (appended_nothing old.written)
puts_nothing old new (inr stops) = absurd (stops.0 refl)

-- ---- replies of one write or one put

-- where a reply ends: at a write, or at a put behind the writes
abbrev pub Stops : Reply → World → World → Type 0
Stops reply old new =
    StopsAtWrite reply.writes old new
    ⊎ ((new.store ≡ after_writes old.store reply.writes) × StopsAtPut reply.texts old.sink new.sink)

-- a reply that writes one file has written it, and put nothing
pub wrote_one : (old new : World) (reply : Reply) (name bytes line : List ℕ) → reply ≡ writing name bytes line →
    new.store ≡ after_writes old.store reply.writes → new.sink ≡ after_puts old.sink reply.texts →
    (new.store ≡ record old.store { files = with_file old.store.files name bytes }) × (new.sink ≡ old.sink)
wrote_one old new reply name bytes line is store sink =
    (store ∙ ap (λ (r : Reply). after_writes old.store r.writes) is, sink ∙ ap (λ (r : Reply). after_puts old.sink r.texts) is)

-- or the write failed
failed_one : (old new : World) (name bytes line : List ℕ) → Stops (writing name bytes line) old new →
    FailsToWrite old.store new.store name bytes × PutsSome old.sink new.sink line
failed_one old new name bytes line (inl (failed, inl (fails, is), puts)) = (fails, subst (λ (file : NewFile). PutsSome old.sink new.sink file.fault_line) is puts)
failed_one old new name bytes line (inl (failed, inr none, puts)) = absurd none
failed_one old new name bytes line (inr (store, none)) = absurd none

pub unwritten_one : (old new : World) (reply : Reply) (name bytes line : List ℕ) → reply ≡ writing name bytes line → Stops reply old new →
    FailsToWrite old.store new.store name bytes × PutsSome old.sink new.sink line
unwritten_one old new reply name bytes line is stops = failed_one old new name bytes line (subst (λ (r : Reply). Stops r old new) is stops)

-- a reply that puts bytes has put them, and the store stays
pub put_only : (old new : World) (reply : Reply) (text : List ℕ) → reply ≡ putting text →
    new.store ≡ after_writes old.store reply.writes → new.sink ≡ after_puts old.sink reply.texts →
    (new.store ≡ old.store) × (new.sink ≡ after_put old.sink text)
put_only old new reply text is store sink =
    (store ∙ ap (λ (r : Reply). after_writes old.store r.writes) is, sink ∙ ap (λ (r : Reply). after_puts old.sink r.texts) is)

-- or the put failed
unput : (old new : World) (text : List ℕ) → Stops (putting text) old new → (new.store ≡ old.store) × StopsPutting old.sink new.sink text
unput old new text (inl stops) = absurd stops.1
unput old new text (inr (store, inl stops)) = (store, stops)
unput old new text (inr (store, inr none)) = absurd none

pub unput_only : (old new : World) (reply : Reply) (text : List ℕ) → reply ≡ putting text → Stops reply old new →
    (new.store ≡ old.store) × StopsPutting old.sink new.sink text
unput_only old new reply text is stops = unput old new text (subst (λ (r : Reply). Stops r old new) is stops)
