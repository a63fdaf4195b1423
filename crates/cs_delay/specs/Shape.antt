-- The delay table that a JSON value is, or the first place that is refused. The walk goes by byte order of keys.
use Rattle.std.specs.Prelude.{ℕ, ◌-◌, ◌^◌, min, List, Bool, false, ◌==◌, ◌&&◌, ◌||◌, if◌then◌else◌, Option, Some, None, Ok, Err, is_some, option_map, option_and_then, unwrap_or, codes}
use Rattle.serde_json.specs.Data.{Data, Members}
use Rattle.serde_json.specs.Find.{get_member, as_object}
use Rattle.cs_json.specs.declared.document.Place.{Place}
use Rattle.cs_json.specs.Shape.{json_of}
use Rattle.cs_json.specs.Walk.{Read, ◌>>=◌, found, entries, each_member, members, required, under, to_key, whole_number}
use Rattle.cs_delay.specs.declared.entry.DelayEntry.{DelayEntry}
use Rattle.cs_delay.specs.declared.entry.PinDelay.{PinDelay}
use Rattle.cs_delay.specs.declared.entry.PinDelays.{PinDelays}
use Rattle.cs_delay.specs.declared.entry.PinDelays.TheVariants.{One, Pins}
use Rattle.cs_delay.specs.declared.table.DelayTable.{DelayTable}
use Rattle.cs_delay.specs.declared.written.Written.{Written}
use Rattle.cs_delay.specs.Tables.{too_large}

-- a number past every u32 is read as the greatest of them, which is too large as well
abbrev pub capped : ℕ → ℕ
capped n = min n (2 ^ 32 - 1)

-- a delay, or the fallback
abbrev pub delay : Data → Read ℕ
delay d = found (option_map capped (whole_number d))

-- the delay of the pin of this name
abbrev pub pin : List ℕ → Data → Read PinDelay
pin name d = delay d >>= λ n. Ok (record { pin = name; delay = n })

-- one delay for every pin
abbrev pub one : Data → Read PinDelays
one d = delay d >>= λ n. Ok (One n)

-- a delay for each pin that is named
abbrev pub by_pin : Data → Read PinDelays
by_pin d = members d >>= λ ms. each_member pin (entries ms) >>= λ pins. Ok (Pins pins)

-- the delays of a type: an object may stand in version 2 alone
abbrev pub delays : Bool → Data → Read PinDelays
delays is_second d = if is_second && is_some (as_object d) then by_pin d else one d

-- what is said of the type of this name
abbrev pub entry : Bool → List ℕ → Data → Read DelayEntry
entry is_second kind d = delays is_second d >>= λ delay. Ok (record { kind = kind; delay = delay })

-- what is said of all types
abbrev pub types : Bool → Data → Read (List DelayEntry)
types is_second d = members d >>= λ ms. each_member (entry is_second) (entries ms)

-- the fallback, which may be missing
abbrev pub fallback_or_none : Option Data → Read (Option ℕ)
fallback_or_none None = Ok None
fallback_or_none (Some d) = delay d >>= λ n. Ok (Some n)

-- the same at its own place
abbrev pub fallback : Members → Read (Option ℕ)
fallback ms = under (to_key (codes "default")) (fallback_or_none (get_member (codes "default") ms))

-- a version is 1 or 2
abbrev pub known_version : ℕ → Option ℕ
known_version n = if n == 1 || n == 2 then Some n else None

-- any other value is refused
abbrev pub version : Data → Read ℕ
version d = found (option_and_then known_version (whole_number d))

-- whether the member `version` is the number 2
abbrev pub is_second_version : Members → Bool
is_second_version ms =
    unwrap_or (option_map (λ n. n == 2) (option_and_then whole_number (get_member (codes "version") ms))) false

-- the whole table, as it is written
unfoldable pub written : Data → Read Written
written d =
    members d >>= λ ms.
    fallback ms >>= λ fallback.
    required (types (is_second_version ms)) (codes "delays") ms >>= λ entries.
    required version (codes "version") ms >>= λ version.
    Ok (record { version = version; entries = entries; fallback = fallback })

-- what bytes say: no JSON, a refused place, a type whose delay is too large, or a table
pub data Reading : Type 0 where
  NoJson : Reading
  RefusedAt : Place → Reading
  Exceeds : List ℕ → Reading
  Says : Written → Reading

-- a table without a delay that is too large, or the first type that has one
abbrev pub bounded : Option (List ℕ) → Written → Reading
bounded None w = Says w
bounded (Some kind) w = Exceeds kind

-- a value is a table as it is written, or has a refused place
abbrev pub reading_of : Read Written → Reading
reading_of (Ok w) = bounded (too_large w.fallback w.entries) w
reading_of (Err path) = RefusedAt (record { path = path })

-- a text that is no JSON says nothing
abbrev pub reading : Option Data → Reading
reading None = NoJson
reading (Some d) = reading_of (written d)

-- what bytes say
abbrev pub table_of : List ℕ → Reading
table_of bytes = reading (json_of bytes)

-- what a table holds
abbrev pub parts : DelayTable → Written
parts t = record { version = t.version; entries = t.entries; fallback = t.fallback }
