-- When building refuses.
use Rattle.std.specs.Prelude.{◌≡◌, Option, Some}
use Rattle.cs_base.specs.declared.limit.LimitFault.{LimitFault}
use Rattle.cs_graph.specs.declared.error.BuildError.{BuildError}
use Rattle.cs_graph.specs.declared.error.BuildError.TheVariants.{Limit, Open, Loop, NoMemory}
use Rattle.cs_graph.specs.Draft.{Draft, AreFed, IsFirstOpen, built}
use Rattle.cs_graph.specs.Order.{IsSimpleLoop, no_lags}

-- the error tells this fault, or that memory ran out
abbrev pub TellsLimit : Option LimitFault → BuildError → Type 0
TellsLimit fault (Limit f) = fault ≡ Some f
TellsLimit fault (Open v i) = ⊥
TellsLimit fault (Loop vs) = ⊥
TellsLimit fault NoMemory = Unit {0}

-- the error tells the first open pin, or, where every pin is fed, a loop of weight 0 that comes to no vertex
-- twice, or that memory ran out
abbrev pub TellsUnfinished : Draft → BuildError → Type 0
TellsUnfinished d (Limit f) = ⊥
TellsUnfinished d (Open v i) = IsFirstOpen d.vertices v i
TellsUnfinished d (Loop vs) = AreFed d.vertices × IsSimpleLoop (built d) no_lags vs
TellsUnfinished d NoMemory = Unit {0}
