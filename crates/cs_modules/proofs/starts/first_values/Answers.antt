use Rattle.std.proofs.Common.{nat_eq}
use Rattle.std.specs.Prelude.{flat_map, slice_get}
use Rattle.std.specs.HashMap.{get}
use Rattle.cs_modules.specs.Modules.{init_values_in}
use Rattle.cs_modules.proofs.FirstValues.{one_net_noted}
use Rattle.cs_modules.proofs.starts.first_values.Goals as goal

pub loop-net-preserved : goal.loop-net-preserved
loop-net-preserved c = λ b.
    one_net_noted b c.loop-net.net-index c.args.nets.now c.net-item.result
    (get nat_eq c.loop-net.firsts b) (get nat_eq c.note_net.new.firsts b) (slice_get (flat_map (init_values_in b) c.args.nets.now) 0)
    c.loop-net-test.true c.net-item.is (c.in_ok-note_net.ensures b) (c.loop-net.invariant b)
