use Rattle.std.proofs.Common.{◌≡◌, ◌≤◌, ◌-◌, ℕ, length, nat_eq}
use Rattle.std.specs.HashMap.{get}
use Rattle.cs_net.specs.Loops.{IsShortcutTo, last_place}
use Rattle.cs_net.proofs.loops.shortcut.Given as goal

abbrev pub invariant-loop-next : goal.invariant-loop-next
invariant-loop-next l = record {
  lasts : (x : ℕ) → get nat_eq l.lasts x ≡ last_place x l.walk;
  short : IsShortcutTo l.walk l.short.items l.next;
  within : l.next ≤ length l.walk;
}

abbrev pub decreases-loop-next : goal.decreases-loop-next
decreases-loop-next l = length l.walk - l.next
