use Rattle.std.proofs.Common.{◌∙◌, ap}
use Rattle.cs_modules.specs.PinBits.{top_at}
use Rattle.cs_modules.proofs.TopModule.{top_at-marked_places}
use Rattle.cs_modules.proofs.top.only_marked.Goals as goal

pub returns : goal.returns
returns c =
    c.module_at.ensures
    ∙ ap (λ places. top_at places c.args.modules.now) (c.as_slice.ensures.value ∙ c.in_ok-places.ensures)
    ∙ top_at-marked_places c.args.modules.now
