use Rattle.std.proofs.Common.{nat_eq, ◌∙◌}
use Rattle.std.specs.HashMap.{get}
use Rattle.cs_net.proofs.RegisterStarts.{starts_of_module}
use Rattle.cs_net.proofs.initial_values.initial_values.Goals as goal

pub returns : goal.returns
returns c =
    c.from_vec.ensures ∙ c.in_ok-starts.ensures
    ∙ starts_of_module c.args.top.now c.as_slice.result.now c.as_slice-2.result.now (get nat_eq c.in_ok-firsts.firsts)
    c.as_slice.ensures c.as_slice-2.ensures c.in_ok-firsts.ensures
