-- Where a bit stands among signals.
use Rattle.std.specs.Prelude.{ℕ, List, Option}
use Rattle.std.specs.List.{position_from}
use Rattle.cs_base.specs.declared.signal.Signal.{Signal}
use Rattle.cs_modules.specs.Signals.{is_bit}

-- the place of a bit among signals, from 0
abbrev pub place_of : ℕ → List Signal → Option ℕ
place_of b signals = position_from (is_bit b) 0 signals
