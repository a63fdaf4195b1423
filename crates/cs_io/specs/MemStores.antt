-- The state of a store in memory.
use Rattle.std.specs.Prelude.{ℕ, ◌+◌, ◌-◌, ◌^◌, ◌<◌, ◌≤◌, ◌≡◌, ◌⊎◌, min, List, [], ◌∷◌, ◌++◌, length, take, Option, Some, Result, Ok, Err, Vec, refl}
use Rattle.std.specs.FinMap as map
use Rattle.std.specs.Coded.{Coded, code_by, coded×, coded_list, coded_ℕ}
use Rattle.std.specs.declared.alloc.Global.{Global}
use Rattle.cs_io.specs.declared.store.StoreError.{StoreError}
use Rattle.cs_io.specs.declared.store.StoreError.TheVariants.{Failed, TooLong, NoMemory}
use Rattle.cs_io.specs.Memory.{Plan, is_planned, plan_code}
use Rattle.cs_io.specs.Stores.{Files, files_code, StoreState}

-- what such a store keeps
pub record MemState : Type 0 where
  pub files : Files
  pub failed : List (List ℕ)
  pub faults : ℕ
  -- the calls that are to fail
  pub plan : Plan
  -- how many calls were made
  pub calls : ℕ
  -- how many writes found no memory
  pub dry : ℕ

-- a state is stored as the pairs of its fields
abbrev pub state_code : Coded MemState
state_code =
    code_by (Files × (List (List ℕ) × (ℕ × (Plan × (ℕ × ℕ)))))
    (coded× files_code (coded× (coded_list (coded_list coded_ℕ)) (coded× coded_ℕ (coded× plan_code (coded× coded_ℕ coded_ℕ)))))
    (λ s. (s.files, (s.failed, (s.faults, (s.plan, (s.calls, s.dry))))))
    (λ p. record { files = p.0; failed = p.1.0; faults = p.1.1.0; plan = p.1.1.1.0; calls = p.1.1.1.1.0; dry = p.1.1.1.1.1 })
    (λ _. refl)

-- what a store in memory tells; a call may fail otherwise only where some call is to fail
abbrev pub store_state : MemState → StoreState
store_state s = record { files = Some s.files; failed = s.failed; faults = s.faults; dry = s.dry; is_fallible = is_planned s.plan }

-- one more, up to the end of the type
abbrev pub one_more : ℕ → ℕ
one_more count = min (count + 1) (2 ^ 64 - 1)

-- what is planned for the next call
abbrev pub next_plan : Plan → ℕ → Option ℕ
next_plan plan calls = map.get plan (one_more calls)

-- the name is noted, unless there is no memory for it
abbrev pub FailsToRead : MemState → MemState → List ℕ → StoreError → Type 0
FailsToRead old new name Failed = new ≡ record old { failed = old.failed ++ name ∷ [] }
FailsToRead old new name (TooLong most) = ⊥
FailsToRead old new name NoMemory = new ≡ old

-- the planned prefix is written, or there is no memory and the files stay
abbrev pub HasCause : MemState → MemState → List ℕ → List ℕ → Type 0
HasCause old new name bytes =
    ((count : ℕ) × (next_plan old.plan old.calls ≡ Some count) × (new.files ≡ map.insert old.files name (take count bytes)) × (new.dry ≡ old.dry))
    ⊎ ((new.dry ≡ one_more old.dry) × (new.files ≡ old.files))

-- a call was counted, and what is planned stays
abbrev pub IsCounted : MemState → MemState → Type 0
IsCounted old new = (new.calls ≡ one_more old.calls) × (new.plan ≡ old.plan)

-- a read that was to fail fails, or finds no memory to note the name
abbrev pub IsFailedRead : {T : Type 0} → Result T StoreError → Type 0
IsFailedRead (Ok bytes) = ⊥
IsFailedRead (Err Failed) = Unit {0}
IsFailedRead (Err (TooLong limit)) = ⊥
IsFailedRead (Err NoMemory) = Unit {0}

-- a copy of at most so many bytes, or a refusal of more
abbrev pub CopiesWithin : List ℕ → ℕ → Result (Vec ℕ Global) StoreError → Type 0
CopiesWithin bytes most (Ok copy) = (copy.items ≡ bytes) × (length bytes ≤ most)
CopiesWithin bytes most (Err Failed) = ⊥
CopiesWithin bytes most (Err (TooLong limit)) = (limit ≡ most) × (most < length bytes)
CopiesWithin bytes most (Err NoMemory) = Unit {0}
