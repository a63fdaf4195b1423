-- Delays per pin: an inverter, and an exclusive or whose second pin is faster.
use Rattle.std.proofs.Common.{◌≡◌, List, [], ◌∷◌, Some, None, Ok, Err, codes, refl}
use Rattle.serde_json.specs.Data.{Data, member, no_members, number, object, unsigned}
use Rattle.cs_delay.specs.declared.entry.DelayEntry.{DelayEntry}
use Rattle.cs_delay.specs.declared.entry.PinDelays.TheVariants.{One, Pins}
use Rattle.cs_delay.specs.Assigned.{listed_delay}
use Rattle.cs_delay.specs.Shape.{written}
use Rattle.cs_delay.specs.Tables.{too_large}

-- `{"delays":{"$_NOT_":2,"$_XOR_":{"A":5,"B":1}},"version":2}`
by_pins : Data
by_pins =
    object (member (codes "delays")
    (object (member (codes "$_NOT_") (number (unsigned 2))
    (member (codes "$_XOR_")
    (object (member (codes "A") (number (unsigned 5)) (member (codes "B") (number (unsigned 1)) no_members)))
    no_members)))
    (member (codes "version") (number (unsigned 2)) no_members))

entries : List DelayEntry
entries =
    record { kind = codes "$_NOT_"; delay = One 2 }
    ∷ record {
      kind = codes "$_XOR_";
      delay = Pins (record { pin = codes "A"; delay = 5 } ∷ record { pin = codes "B"; delay = 1 } ∷ []);
    }
    ∷ []

delays_per_pin : written by_pins ≡ Ok (record { version = 2; entries = entries; fallback = None })
unfolding written by_pins entries
delays_per_pin = refl

none_too_large : too_large None entries ≡ None
unfolding entries
none_too_large = refl

second_pin : listed_delay entries (codes "$_XOR_") (codes "B") ≡ Some 1
unfolding entries
second_pin = refl

-- the empty object is refused at its delays
empty_table : written (object no_members) ≡ Err (codes "/delays")
unfolding written
empty_table = refl
