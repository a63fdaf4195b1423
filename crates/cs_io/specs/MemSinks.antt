-- The state of a sink in memory.
use Rattle.std.specs.Prelude.{ℕ, ◌≡◌, ◌⊎◌, List, ◌++◌, take, Some, refl}
use Rattle.std.specs.Coded.{Coded, code_by, coded×, coded_list, coded_ℕ}
use Rattle.cs_io.specs.Memory.{Plan, is_planned, plan_code}
use Rattle.cs_io.specs.MemStores.{one_more, next_plan}
use Rattle.cs_io.specs.Sinks.{SinkState}

-- what such a sink keeps
pub record MemSinkState : Type 0 where
  pub written : List ℕ
  pub faults : ℕ
  -- the puts that are to fail
  pub plan : Plan
  -- how many puts were made
  pub calls : ℕ
  -- how many puts found no memory
  pub dry : ℕ

-- a state is stored as the pairs of its fields
abbrev pub sink_code : Coded MemSinkState
sink_code =
    code_by (List ℕ × (ℕ × (Plan × (ℕ × ℕ))))
    (coded× (coded_list coded_ℕ) (coded× coded_ℕ (coded× plan_code (coded× coded_ℕ coded_ℕ))))
    (λ s. (s.written, (s.faults, (s.plan, (s.calls, s.dry)))))
    (λ p. record { written = p.0; faults = p.1.0; plan = p.1.1.0; calls = p.1.1.1.0; dry = p.1.1.1.1 })
    (λ _. refl)

-- what a sink in memory tells; a put may fail otherwise only where some put is to fail
abbrev pub sink_state : MemSinkState → SinkState
sink_state s = record { written = Some s.written; faults = s.faults; dry = s.dry; is_fallible = is_planned s.plan }

-- the planned prefix is put, or there is no memory and nothing is put
abbrev pub HasCause : MemSinkState → MemSinkState → List ℕ → Type 0
HasCause old new bytes =
    ((count : ℕ) × (next_plan old.plan old.calls ≡ Some count) × (new.written ≡ old.written ++ take count bytes) × (new.dry ≡ old.dry))
    ⊎ ((new.dry ≡ one_more old.dry) × (new.written ≡ old.written))

-- a put was counted, and what is planned stays
abbrev pub IsCounted : MemSinkState → MemSinkState → Type 0
IsCounted old new = (new.calls ≡ one_more old.calls) × (new.plan ≡ old.plan)
