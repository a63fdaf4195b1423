-- What is read of the files of a command.
use Rattle.std.proofs.Common.{◌≡◌, ◌≤◌, ◌<◌, ◌∙◌, Bool, true, false, cond, ℕ, List, [], ◌∷◌, length, arith, ap, inl, inr, refl, subst, sym, None, Some}
use Rattle.std.specs.Prelude.{◌==◌, IsSome, IsSomeAnd, Option, unwrap_or}
use Rattle.std.specs.FinMap.{get}
use Rattle.cs_io.specs.Stores.{Files}
use Rattle.cs_run.specs.declared.inputs.FileName.{FileName}
use Rattle.cs_run.specs.declared.inputs.Input.{Input}
use Rattle.cs_run.specs.declared.inputs.Role.{Role}
use Rattle.cs_run.specs.Inputs.{AreFew, FilesHave, FirstTooLong, all_bytes, bytes_of, found_bytes, most_bytes, number_of}
use Rattle.cs_run.specs.Worlds.{Holds}

-- ---- lengths

-- files that are read are not too long, and have an input each
pub few_bytes : (files : Option Files) (reads : List FileName) (inputs : List Input) → FilesHave files reads inputs → AreFew (all_bytes inputs)
few_bytes files [] [] have = tt
few_bytes files [] (input ∷ inputs) have = absurd have
few_bytes files (read ∷ reads) [] have = absurd have
few_bytes files (read ∷ reads) (input ∷ inputs) have = (have.2, few_bytes files reads inputs have.3)

pub all_inputs : (files : Option Files) (reads : List FileName) (inputs : List Input) → FilesHave files reads inputs → length inputs ≡ length reads
all_inputs files [] [] have = refl
all_inputs files [] (input ∷ inputs) have = absurd have
all_inputs files (read ∷ reads) [] have = absurd have
all_inputs files (read ∷ reads) (input ∷ inputs) have = let rest = all_inputs files reads inputs have.3 in omega (arith, rest)

pub length-all_bytes : (inputs : List Input) → length (all_bytes inputs) ≡ length inputs
length-all_bytes [] = refl
length-all_bytes (input ∷ inputs) = let rest = length-all_bytes inputs in omega (arith, rest)

-- ---- roles

-- the name of the first file of a role
abbrev pub name_at : Role → List FileName → Option (List ℕ)
name_at role [] = None
name_at role (read ∷ reads) = cond (number_of read.role == number_of role) (Some read.name) (name_at role reads)

here : (files : Option Files) (read name bytes : List ℕ) (later more : Option (List ℕ)) (test : Bool) → Holds files read bytes →
    cond test (Some read) later ≡ Some name → (later ≡ Some name → Holds files name (unwrap_or more [])) →
    Holds files name (unwrap_or (cond test (Some bytes) more) [])
here files read name bytes later more true has is go = let same : read ≡ name = cc in subst (λ n. Holds files n bytes) same has
here files read name bytes later more false has is go = go is

-- the file of a role has the bytes of its input
pub at_role : (files : Option Files) (reads : List FileName) (inputs : List Input) (role : Role) (name : List ℕ) → FilesHave files reads inputs →
    name_at role reads ≡ Some name → Holds files name (bytes_of role inputs)
at_role files [] inputs role name have is = absurd (cc)
at_role files (read ∷ reads) [] role name have is = absurd have
at_role files (read ∷ reads) (input ∷ inputs) role name have is =
    subst (λ n. Holds files name (unwrap_or (cond (n == number_of role) (Some input.bytes) (found_bytes role inputs)) []))
    (sym (ap number_of have.0))
    (here files read.name name input.bytes (name_at role reads) (found_bytes role inputs) (number_of read.role == number_of role) have.1 is
    (λ later. at_role files reads inputs role name have.3 later))

-- ---- files that are told

pub one_found : (found : Option (List ℕ)) (bytes other : List ℕ) → IsSomeAnd found (λ b. b ≡ bytes) → IsSomeAnd found (λ b. b ≡ other) → bytes ≡ other
one_found None bytes other h k = absurd h
one_found (Some found) bytes other h k = sym h ∙ k

one_input : (a b : Input) → a.role ≡ b.role → a.bytes ≡ b.bytes → a ≡ b
one_input a b role bytes =
    ap (λ r. let i : Input = record { role = r; bytes = a.bytes } in i) role
    ∙ ap (λ t. let i : Input = record { role = b.role; bytes = t } in i) bytes

one_reading : (told : Files) (reads : List FileName) (inputs others : List Input) → FilesHave (Some told) reads inputs →
    FilesHave (Some told) reads others → inputs ≡ others
one_reading told [] [] [] h k = refl
one_reading told [] [] (other ∷ others) h k = absurd k
one_reading told [] (input ∷ inputs) others h k = absurd h
one_reading told (read ∷ reads) [] others h k = absurd h
one_reading told (read ∷ reads) (input ∷ inputs) [] h k = absurd k
one_reading told (read ∷ reads) (input ∷ inputs) (other ∷ others) h k =
    let same : input ≡ other = one_input input other (h.0 ∙ sym k.0) (one_found (get told read.name) input.bytes other.bytes h.1 k.1) in
    let rest : inputs ≡ others = one_reading told reads inputs others h.3 k.3 in cc

-- where the store tells its files
pub one_inputs : (files : Option Files) (reads : List FileName) (inputs others : List Input) → IsSome files → FilesHave files reads inputs →
    FilesHave files reads others → inputs ≡ others
one_inputs None reads inputs others told h k = absurd (cc)
one_inputs (Some files) reads inputs others told h k = one_reading files reads inputs others h k

long_apart : (found : Option (List ℕ)) (bytes : List ℕ) → IsSomeAnd found (λ b. b ≡ bytes) → length bytes ≤ most_bytes →
    IsSomeAnd found (λ b. most_bytes < length b) → ⊥
long_apart None bytes h fits long = h
long_apart (Some found) bytes h fits long =
    let here : length found ≤ most_bytes = subst (λ b. length b ≤ most_bytes) (sym h) fits in omega (arith, here, long)

not_long : (told : Files) (reads : List FileName) (inputs : List Input) (name : List ℕ) → FilesHave (Some told) reads inputs → FirstTooLong (Some told) reads name → ⊥
not_long told [] inputs name h long = long
not_long told (read ∷ reads) [] name h long = h
not_long told (read ∷ reads) (input ∷ inputs) name h (inl (is, long)) = long_apart (get told read.name) input.bytes h.1 h.2 long
not_long told (read ∷ reads) (input ∷ inputs) name h (inr (fits, long)) = not_long told reads inputs name h.3 long

-- files that were read are not too long
pub none_long : (files : Option Files) (reads : List FileName) (inputs : List Input) (name : List ℕ) → IsSome files → FilesHave files reads inputs →
    FirstTooLong files reads name → ⊥
none_long None reads inputs name told h long = absurd (cc)
none_long (Some files) reads inputs name told h long = not_long files reads inputs name h long
