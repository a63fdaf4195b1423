-- What the lists that a fake keeps stand for, the newest entry first.
use Rattle.std.specs.Prelude.{ℕ, Bool, List, map, nat_lt, String}
use Rattle.std.specs.Ordering.{nat_cmp}
use Rattle.std.specs.FinMap as finmap
use Rattle.std.specs.Coded.{Coded, coded_ℕ}
use Rattle.std.specs.String.{string_bytes}
use Rattle.std.specs.declared.alloc.Global.{Global}
use Rattle.cs_io.specs.Stores.{Files}
use Rattle.cs_io.specs.declared.memory.NamedFile.{NamedFile}

-- which calls are to fail, by their number, and after how many bytes
abbrev pub Plan : Type 0
Plan = finmap.FinMap nat_cmp ℕ

-- whether some call is to fail
abbrev pub is_planned : Plan → Bool
is_planned plan = nat_lt 0 (finmap.len plan)

-- a plan is stored as its entries
abbrev pub plan_code : Coded Plan
plan_code = finmap.code coded_ℕ coded_ℕ

-- a file as its name and its bytes
abbrev pub entry_of : NamedFile → List ℕ × List ℕ
entry_of held = (string_bytes held.name, held.bytes.items)

-- the files of a list, the first of a name counting
abbrev pub files_of : List NamedFile → Files
files_of held = finmap.from_entries (map entry_of held)

-- names as their bytes
abbrev pub names_of : List (String Global) → List (List ℕ)
names_of names = map (λ name. string_bytes name) names

-- the plan of a list, the first of a number counting
abbrev pub plan_of : List (ℕ × ℕ) → Plan
plan_of plan = finmap.from_entries plan
