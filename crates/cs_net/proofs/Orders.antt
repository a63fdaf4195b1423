-- A netlist whose bits have an order has no loop.
use Rattle.std.proofs.Common.{ℕ, ◌<◌, List, [], ◌∷◌, arith}
use Rattle.cs_net.specs.Netlist.{Net}
use Rattle.cs_net.specs.Drivers.{IsBitChain}
use Rattle.cs_net.specs.Accept.{HasNoLoop}
use Rattle.cs_net.specs.Invariant.{HasBitOrder}

pub no_loop_of_order : (net : Net) → HasBitOrder net → HasNoLoop net
no_loop_of_order net order [] loop = loop
no_loop_of_order net order (b ∷ bits) loop = let past = chain_falls bits b b loop in omega arith
  where
    chain_falls : (bits : List ℕ) (b last : ℕ) → IsBitChain net (b ∷ bits) last → order.place last < order.place b
    chain_falls [] b last chain = order.order b last chain
    chain_falls (a ∷ bits) b last chain =
        let first = order.order b a chain.0 in
        let rest = chain_falls bits a last chain.1 in omega arith
