-- The parts make a guide.
use Rattle.std.proofs.Common.{List, ℕ, sym, ◌∙◌, subst}
use Rattle.cs_paths.specs.Guides.{IsGuide}
use Rattle.cs_paths.proofs.GuideLemmas.{guide_made}
use Rattle.cs_paths.proofs.guide.Guide.new.Goals as goal

pub returns : goal.returns
returns c =
    subst (λ (order : List ℕ). IsGuide c.args.machine.now (record {
      leaving = c.in_ok-leaving.leaving;
      order = order;
      places = c.in_ok-places.places;
    })) (sym (c.from_vec.ensures ∙ c.in_ok-from_slice.ensures.items))
    (guide_made c.args.machine.now c.order-order.result.now c.order-order.ensures c.keeps.ensures
    c.in_ok-leaving.leaving c.in_ok-places.places c.in_ok-leaving.ensures c.in_ok-places.ensures)
