-- The places of an order.
use Rattle.cs_order.proofs.CallerLemmas.{place_after, place_vertex, order_count}
use Rattle.cs_order.proofs.laws.places_in_order.Goals as goal

pub returns : goal.returns
returns c = record { after = place_after; vertices = place_vertex; count = order_count }
