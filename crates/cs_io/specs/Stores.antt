-- What the calls of a store answer and leave.
use Rattle.std.specs.Prelude.{ℕ, ◌<◌, ◌≤◌, ◌≡◌, ◌⊎◌, ⊤, Bool, List, [], ◌∷◌, ◌++◌, length, take, Option, Some, None, IsSomeAnd, Result, Ok, Err, Vec, refl}
use Rattle.std.specs.Option.{option_map}
use Rattle.std.specs.Ordering.{nat_cmp}
use Rattle.std.specs.Cmp.Lexicographic.{slice_cmp}
use Rattle.std.specs.FinMap as map
use Rattle.std.specs.Bool.{OnFalse}
use Rattle.std.specs.Coded.{Coded, code_by, coded×, coded_list, coded_option, coded_ℕ, coded_bool}
use Rattle.std.specs.declared.alloc.Global.{Global}
use Rattle.cs_io.specs.Faults.{Rose}
use Rattle.cs_io.specs.declared.store.StoreError.{StoreError}
use Rattle.cs_io.specs.declared.store.StoreError.TheVariants.{Failed, TooLong, NoMemory}

-- the bytes of each file, by its name
abbrev pub Files : Type 0
Files = map.FinMap (slice_cmp nat_cmp) (List ℕ)

-- files are stored as their entries
abbrev pub files_code : Coded Files
files_code = map.code (coded_list coded_ℕ) (coded_list coded_ℕ)

-- what every store has
pub record StoreState : Type 0 where
  -- the files, where the store tells them
  pub files : Option Files
  -- the names whose reading failed, in order
  pub failed : List (List ℕ)
  -- how many writes failed
  pub faults : ℕ
  -- how many of them for want of memory
  pub dry : ℕ
  -- whether a call may fail otherwise than by a name that isn't there, or for want of memory
  pub is_fallible : Bool

-- a state is stored as the pairs of its fields
abbrev pub store_code : Coded StoreState
store_code =
    code_by (Option Files × (List (List ℕ) × (ℕ × (ℕ × Bool))))
    (coded× (coded_option files_code) (coded× (coded_list (coded_list coded_ℕ)) (coded× coded_ℕ (coded× coded_ℕ coded_bool))))
    (λ s. (s.files, (s.failed, (s.faults, (s.dry, s.is_fallible)))))
    (λ p. record { files = p.0; failed = p.1.0; faults = p.1.1.0; dry = p.1.1.1.0; is_fallible = p.1.1.1.1 })
    (λ _. refl)

-- where the files are told, there is one of this name and its bytes have P
abbrev pub FileHas : Option Files → List ℕ → (List ℕ → Type 0) → Type 0
FileHas None name P = ⊤
FileHas (Some files) name P = IsSomeAnd (map.get files name) P

-- where the files are told, there is none of this name
abbrev pub IsMissing : Option Files → List ℕ → Type 0
IsMissing None name = ⊤
IsMissing (Some files) name = map.get files name ≡ None

-- the files with these bytes under this name, and all others as they were
abbrev pub with_file : Option Files → List ℕ → List ℕ → Option Files
with_file files name bytes = option_map (λ told. map.insert told name bytes) files

-- what a read answers: the bytes, at most so many; or that there are more
abbrev pub ReadGives : Option Files → List ℕ → ℕ → Result (Vec ℕ Global) StoreError → Type 0
ReadGives files name most (Ok bytes) = FileHas files name (λ held. held ≡ bytes.items) × (length bytes.items ≤ most)
ReadGives files name most (Err Failed) = ⊤
ReadGives files name most (Err (TooLong limit)) = (limit ≡ most) × FileHas files name (λ held. most < length held)
ReadGives files name most (Err NoMemory) = ⊤

-- the names whose reading failed, after a call for this name
abbrev pub failed_after : {T : Type 0} → List (List ℕ) → List ℕ → Result T StoreError → List (List ℕ)
failed_after failed name (Ok bytes) = failed
failed_after failed name (Err Failed) = failed ++ name ∷ []
failed_after failed name (Err (TooLong limit)) = failed
failed_after failed name (Err NoMemory) = failed

-- a failed write leaves the file as it was or with a prefix of the bytes, and all others as they were; where no
-- other failure may come, it found no memory
pub record FailsToWrite (old new : StoreState) (name bytes : List ℕ) : Type 0 where
  pub files : (new.files ≡ old.files) ⊎ ((count : ℕ) × (new.files ≡ with_file old.files name (take count bytes)))
  pub failed : new.failed ≡ old.failed
  pub later : old.faults ≤ new.faults
  pub faults : Rose old.faults new.faults
  pub dry_later : old.dry ≤ new.dry
  pub dry : OnFalse old.is_fallible (Rose old.dry new.dry)
  pub fallible : new.is_fallible ≡ old.is_fallible
