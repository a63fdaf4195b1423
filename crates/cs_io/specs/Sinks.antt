-- What a put leaves.
use Rattle.std.specs.Prelude.{ℕ, ◌≡◌, Bool, List, ◌≤◌, ◌++◌, take, Option, refl}
use Rattle.std.specs.Bool.{OnFalse}
use Rattle.cs_io.specs.Faults.{Rose}
use Rattle.std.specs.Coded.{Coded, code_by, coded×, coded_list, coded_option, coded_ℕ, coded_bool}
use Rattle.std.specs.Option.{option_map}

-- what every sink has
pub record SinkState : Type 0 where
  -- the bytes that were put, where the sink tells them
  pub written : Option (List ℕ)
  -- how many puts failed
  pub faults : ℕ
  -- how many of them for want of memory
  pub dry : ℕ
  -- whether a put may fail otherwise than for want of memory
  pub is_fallible : Bool

-- a state is stored as the pairs of its fields
abbrev pub sink_code : Coded SinkState
sink_code =
    code_by (Option (List ℕ) × (ℕ × (ℕ × Bool)))
    (coded× (coded_option (coded_list coded_ℕ)) (coded× coded_ℕ (coded× coded_ℕ coded_bool)))
    (λ s. (s.written, (s.faults, (s.dry, s.is_fallible))))
    (λ p. record { written = p.0; faults = p.1.0; dry = p.1.1.0; is_fallible = p.1.1.1 })
    (λ _. refl)

-- what is written with these bytes at its end
abbrev pub appended : Option (List ℕ) → List ℕ → Option (List ℕ)
appended written bytes = option_map (λ told. told ++ bytes) written

-- a failed put leaves a prefix of the bytes behind the others; where no other failure may come, it found no memory
pub record FailsToPut (old new : SinkState) (bytes : List ℕ) : Type 0 where
  pub written : (count : ℕ) × (new.written ≡ appended old.written (take count bytes))
  pub later : old.faults ≤ new.faults
  pub faults : Rose old.faults new.faults
  pub dry_later : old.dry ≤ new.dry
  pub dry : OnFalse old.is_fallible (Rose old.dry new.dry)
  pub fallible : new.is_fallible ≡ old.is_fallible
