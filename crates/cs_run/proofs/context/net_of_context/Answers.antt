use Rattle.std.proofs.Common.{refl}
use Rattle.cs_run.proofs.context.net_of_context.Goals as goal

pub with_images-requires : goal.with_images-requires
with_images-requires c = (c.args.words.now.contexts, c.in_ok-starts.ensures.fits, c.requires)
