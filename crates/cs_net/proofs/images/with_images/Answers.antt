-- Each memory has its entry among the images.
use Rattle.cs_net.proofs.MemoryWidths.{entry_at}
use Rattle.cs_net.proofs.images.with_images.Goals as goal

pub with_image-requires : goal.with_image-requires
with_image-requires c =
    let fit = c.requires.images in (
      fit.0,
      entry_at fit.0 c.args.memories.now c.args.entries.now c.loop-place.place c.index-memories-place.result
          c.index-entries-place.result c.loop-place-test.true c.requires.count c.index-memories-place.is c.index-entries-place.is
          fit.1,
      fit.2,
    )
