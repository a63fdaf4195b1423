-- Edges in order of their drivers: this only mirrors the code, whose result is said by Prefixes.
use Rattle.std.specs.Prelude.{ℕ, zero, suc, ◌+◌, ◌*◌, ◌/◌, ◌%◌, ◌==◌, List, [], ◌∷◌, map, take, drop, Bool, if◌then◌else◌}
use Rattle.std.specs.List.{enumerate_from}
use Rattle.cs_prefix.specs.declared.plan.DriverId.{DriverId}
use Rattle.cs_prefix.specs.Layers.{Progress, add_driver}

-- drivers by their numbers
abbrev pub driver_code : DriverId → ℕ
driver_code driver = driver.vertex * 16777216 + driver.output

-- a driver and the place of an edge as one number
abbrev pub edge_code : DriverId → ℕ → ℕ
edge_code driver edge = driver_code driver * 65536 + edge

abbrev pub all_codes : List DriverId → List ℕ
all_codes drivers = map (λ e. edge_code e.1 e.0) (enumerate_from 0 drivers)

abbrev pub driver_of : ℕ → DriverId
driver_of code = record { vertex = code / 65536 / 16777216; output = code / 65536 % 16777216 }

abbrev pub edge_of : ℕ → ℕ
edge_of code = code % 65536

-- how many of the first codes have this driver
abbrev pub leading : ℕ → List ℕ → ℕ
leading driver [] = 0
leading driver (code ∷ codes) = if code / 65536 == driver then suc (leading driver codes) else 0

-- the edges of one driver after the other, in at most so many turns
abbrev pub add_runs : List (List Bool) → ℕ → List ℕ → Progress → Progress
add_runs contents zero codes s = s
add_runs contents (suc turns) [] s = s
add_runs contents (suc turns) (code ∷ codes) s =
    add_runs contents turns (drop (leading (code / 65536) (code ∷ codes)) (code ∷ codes))
    (add_driver contents (driver_of code)
    (map edge_of (take (leading (code / 65536) (code ∷ codes)) (code ∷ codes))) s)
