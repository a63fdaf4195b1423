-- What a delay table keeps: the order of its types and pins, and the bound of its delays.
use Rattle.std.specs.Prelude.{ℕ, List, [], Bool, false, nat_lt, if◌then◌else◌, Option, Some, option_map, unwrap_or, find, codes}
use Rattle.std.specs.List.{list_any, AllByRecursion}
use Rattle.cs_json.specs.Readable.{AreInOrder}
use Rattle.cs_delay.specs.declared.entry.DelayEntry.{DelayEntry}
use Rattle.cs_delay.specs.declared.entry.PinDelay.{PinDelay}
use Rattle.cs_delay.specs.declared.entry.PinDelays.{PinDelays}
use Rattle.cs_delay.specs.declared.entry.PinDelays.TheVariants.{One, Pins}

-- the pins that are named
abbrev pub pins_of : PinDelays → List PinDelay
pins_of (One delay) = []
pins_of (Pins pins) = pins

-- types are in byte order, none twice
abbrev pub HasTypesInOrder : List DelayEntry → Type 0
HasTypesInOrder entries = AreInOrder (λ e. e.kind) entries

-- so are the pins of each
abbrev pub HasPinsInOrder : List DelayEntry → Type 0
HasPinsInOrder entries = AllByRecursion (λ e. AreInOrder (λ p. p.pin) (pins_of e.delay)) entries

-- a delay is above 1,000,000
abbrev pub is_too_large : ℕ → Bool
is_too_large delay = nat_lt 1000000 delay

-- one of the delays is
abbrev pub has_too_large : PinDelays → Bool
has_too_large (One delay) = is_too_large delay
has_too_large (Pins pins) = list_any (λ p. is_too_large p.delay) pins

-- the first type that has such a delay; the fallback comes first, as `default`
abbrev pub too_large : Option ℕ → List DelayEntry → Option (List ℕ)
too_large fallback entries =
    if unwrap_or (option_map is_too_large fallback) false then Some (codes "default")
    else option_map (λ e. e.kind) (find (λ e. has_too_large e.delay) entries)
