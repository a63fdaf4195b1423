-- One bit more.
use Rattle.std.proofs.Common.{◌∙◌, ◌+◌, ◌++◌, [], ◌∷◌, ℕ, List, map, sym, ap, ap₂}
use Rattle.std.proofs.lemmas.List.{map-append}
use Rattle.cs_base.specs.declared.signal.Signal.{Signal}
use Rattle.cs_base.specs.declared.signal.Signal.TheVariants.{Bit}
use Rattle.cs_modules.specs.Pins.{count_from}
use Rattle.cs_share.proofs.CircuitPorts.{count_more}
use Rattle.cs_share.proofs.ports.numbered_bits.Goals as goal

pub loop-i-preserved : goal.loop-i-preserved
loop-i-preserved c =
    let first = c.args.first in
    let i = c.loop-i.i in
    c.in_ok-push.ensures.ok
    ∙ ap₂ (λ (bits : List Signal) (n : ℕ). bits ++ Bit n ∷ []) c.loop-i.invariant c.new.ensures
    ∙ sym (map-append Bit (count_from first i) ((first + i) ∷ []))
    ∙ ap (map Bit) (sym (count_more first i 1))
