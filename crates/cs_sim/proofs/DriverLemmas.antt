-- The driver of a bit is that which stands first among the pieces'.
use Rattle.std.proofs.Common.{◌≡◌, ◌∙◌, ℕ, Option, Some, None, ap}
use Rattle.std.specs.Prelude.{find, flat_map, option_map, unwrap_or}
use Rattle.cs_modules.specs.Signals.{is_bit}
use Rattle.cs_net.specs.Drivers.{DrivenSignal, driver_of, undriven}
use Rattle.cs_net.specs.Netlist.{Net}
use Rattle.cs_sim.proofs.PieceLemmas.{drivers_by_pieces}
use Rattle.cs_sim.proofs.Pieces.{drives, pieces}
use Rattle.cs_sim.proofs.PlaceLemmas.{IsDriven, IsUndriven}

driver_found : (net : Net) (b : ℕ) (o : Option DrivenSignal) → find (λ d. is_bit b d.0) (flat_map (drives net) (pieces net)) ≡ o
    → driver_of net b ≡ unwrap_or (option_map (λ d. d.1) o) undriven
unfolding driver_of
driver_found net b o h =
    ap (λ ds. unwrap_or (option_map (λ (d : DrivenSignal). d.1) (find (λ (d : DrivenSignal). is_bit b d.0) ds)) undriven) (drivers_by_pieces net)
    ∙ ap (λ found. unwrap_or (option_map (λ (d : DrivenSignal). d.1) found) undriven) h

pub driver_is : (net : Net) (b : ℕ) (d : IsDriven (drives net) (pieces net) b) → driver_of net b ≡ d.driver.1
driver_is net b d = driver_found net b (Some d.driver) d.found

pub driver_is_none : (net : Net) (b : ℕ) → IsUndriven (drives net) (pieces net) b → driver_of net b ≡ undriven
driver_is_none net b u = driver_found net b None u.found
