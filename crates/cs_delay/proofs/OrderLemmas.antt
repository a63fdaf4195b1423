-- What is read of a delay table is in order, since the members of what JSON says are.
use Rattle.std.proofs.Common.{◌≡◌, ℕ, List, Bool, true, false, cond, ◌&&◌, codes, Option, Some, None, Ok, is_some, refl, sym, ap, subst}
use Rattle.std.specs.Str.{is_utf8}
use Rattle.serde_json.specs.Data.{Data}
use Rattle.serde_json.specs.Find.{as_object}
use Rattle.serde_json.specs.Read.{read}
use Rattle.cs_json.specs.Readable.{AreInOrder}
use Rattle.cs_json.specs.Shape.{json_of}
use Rattle.cs_json.specs.Walk.{members, required, each_member, entries}
use Rattle.cs_json.proofs.Ordered.{IsOrdered, Holds, holds_at, read_ordered}
use Rattle.cs_json.proofs.Back.{bound, ok_same, required_from, object_from, members_from}
use Rattle.cs_delay.specs.declared.entry.DelayEntry.{DelayEntry}
use Rattle.cs_delay.specs.declared.entry.PinDelay.{PinDelay}
use Rattle.cs_delay.specs.declared.entry.PinDelays.{PinDelays}
use Rattle.cs_delay.specs.declared.entry.PinDelays.TheVariants.{One, Pins}
use Rattle.cs_delay.specs.declared.written.Written.{Written}
use Rattle.cs_delay.specs.Shape as shape
use Rattle.cs_delay.specs.Tables.{pins_of, HasTypesInOrder, HasPinsInOrder}

-- the pins of a type's delays are in order
abbrev InOrder : PinDelays → Type 0
InOrder delays = AreInOrder (λ (p : PinDelay). p.pin) (pins_of delays)

pin_named : (k : List ℕ) (d : Data) (p : PinDelay) → IsOrdered d → shape.pin k d ≡ Ok p
    → (p.pin ≡ k) × Unit {0}
pin_named k d p ordered h =
    let n = bound (shape.delay d) (λ n. Ok (record { pin = k; delay = n })) p h in
    let made : PinDelay = record { pin = k; delay = n.0 } in
    let same : made ≡ p = ok_same made p (Ok made) (refl {a = Ok made}) n.2 in
    (ap (λ (x : PinDelay). x.pin) (sym same), tt)

by_pin_ordered : (d : Data) (delays : PinDelays) → IsOrdered d → shape.by_pin d ≡ Ok delays
    → InOrder delays
by_pin_ordered d delays ordered h =
    let ms = bound (members d) _ delays h in
    let pins = bound (each_member shape.pin (entries ms.0)) (λ pins. Ok (Pins pins)) delays ms.2 in
    let same : Pins pins.0 ≡ delays =
    ok_same (Pins pins.0) delays (Ok (Pins pins.0)) (refl {a = Ok (Pins pins.0)}) pins.2 in
    let are =
    members_from shape.pin (λ p. p.pin) (λ _. Unit {0}) pin_named ms.0 pins.0
    (object_from d ms.0 ordered ms.1) pins.1 in
    subst InOrder same are.1

one_ordered : (d : Data) (delays : PinDelays) → shape.one d ≡ Ok delays → InOrder delays
one_ordered d delays h =
    let n = bound (shape.delay d) (λ n. Ok (One n)) delays h in
    let same : One n.0 ≡ delays = ok_same (One n.0) delays (Ok (One n.0)) (refl {a = Ok (One n.0)}) n.2 in
    subst InOrder same tt

either_ordered : (b : Bool) (d : Data) (delays : PinDelays) → IsOrdered d
    → cond b (shape.by_pin d) (shape.one d) ≡ Ok delays → InOrder delays
either_ordered true d delays ordered h = by_pin_ordered d delays ordered h
either_ordered false d delays ordered h = one_ordered d delays h

entry_ordered : (is_second : Bool) (k : List ℕ) (d : Data) (e : DelayEntry) → IsOrdered d
    → shape.entry is_second k d ≡ Ok e → (e.kind ≡ k) × InOrder e.delay
entry_ordered is_second k d e ordered h =
    let delay = bound (shape.delays is_second d) (λ delay. Ok (record { kind = k; delay = delay })) e h in
    let made : DelayEntry = record { kind = k; delay = delay.0 } in
    let same : made ≡ e = ok_same made e (Ok made) (refl {a = Ok made}) delay.2 in
    let P : DelayEntry → Type 0 = λ x. (x.kind ≡ k) × InOrder x.delay in
    subst P same
    (refl, either_ordered (is_second && is_some (as_object d)) d delay.0 ordered delay.1)

types_ordered : (is_second : Bool) (d : Data) (es : List DelayEntry) → IsOrdered d
    → shape.types is_second d ≡ Ok es → HasPinsInOrder es × HasTypesInOrder es
types_ordered is_second d es ordered h =
    let ms = bound (members d) (λ ms. each_member (shape.entry is_second) (entries ms)) es h in
    members_from (shape.entry is_second) (λ e. e.kind) (λ e. InOrder e.delay)
    (entry_ordered is_second) ms.0 es (object_from d ms.0 ordered ms.1) ms.2

-- the types of what is written are in order, and so are the pins of each
pub written_ordered : (d : Data) (w : Written) → IsOrdered d → shape.written d ≡ Ok w
    → HasPinsInOrder w.entries × HasTypesInOrder w.entries
unfolding shape.written
written_ordered d w ordered h =
    let ms = bound (members d) _ w h in
    let order = object_from d ms.0 ordered ms.1 in
    let fallback = bound (shape.fallback ms.0) _ w ms.2 in
    let second = shape.is_second_version ms.0 in
    let types = bound (required (shape.types second) (codes "delays") ms.0) _ w fallback.2 in
    let version = bound (required shape.version (codes "version") ms.0) _ w types.2 in
    let made : Written = record { version = version.0; entries = types.0; fallback = fallback.0 } in
    let same : made ≡ w = ok_same made w (Ok made) (refl {a = Ok made}) version.2 in
    let value = required_from (shape.types second) (codes "delays") ms.0 types.0 order types.1 in
    let P : Written → Type 0 = λ x. HasPinsInOrder x.entries × HasTypesInOrder x.entries in
    subst P same (types_ordered second value.0 types.0 value.1 value.3)

-- what bytes say has the members of each object in order
pub json_ordered : (bytes : List ℕ) (d : Data) → json_of bytes ≡ Some d → IsOrdered d
json_ordered bytes d is = holds_at IsOrdered (json_of bytes) d is (at (is_utf8 bytes) (read bytes) (λ d is. read_ordered bytes d is))
  where
    at : (b : Bool) (o : Option Data) → ((d : Data) → o ≡ Some d → IsOrdered d)
        → Holds IsOrdered (cond b o None)
    at true None ordered = tt
    at true (Some d) ordered = ordered d refl
    at false o ordered = tt
