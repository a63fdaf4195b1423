-- The fault of a part is the fault of the whole where the parts before have none.
use Rattle.std.proofs.Common.{◌≡◌, ◌∙◌, ℕ, List, Option, None, ap, sym}
use Rattle.std.specs.Option.{option_or}
use Rattle.cs_bank.specs.BankErrors.{TellsBankFault}
use Rattle.cs_bank.specs.BankFaults.{bank_fault}
use Rattle.cs_bank.specs.declared.error.BankError.{BankError}
use Rattle.cs_bank.specs.declared.error.BankError.TheVariants.{Limit, NoMemory}
use Rattle.cs_graph.specs.declared.graph.Graph.{Graph}
use Rattle.cs_graph.specs.Slow.{slow}
use Rattle.cs_net.specs.Contexts.{Image}
use Rattle.cs_slow.specs.SlowFaults.{slow_fault}
use Rattle.cs_interleave.specs.InterleaveFaults.{TellsInterleaveFault, contexts_fault, of_bank}

-- what banking tells is the fault of slowing and banking where slowing has none
pub bank_told : (c : ℕ) (entries : List (Option (List Image))) (g slowed : Graph) (error : BankError)
    → slow_fault c g ≡ None → slowed ≡ slow c g → TellsBankFault (bank_fault c entries slowed) error
    → TellsInterleaveFault (contexts_fault c entries g) (of_bank error)
bank_told c entries g slowed (Limit f) none is told =
    ap (λ o. option_or o (bank_fault c entries (slow c g))) none ∙ ap (bank_fault c entries) (sym is) ∙ told
bank_told c entries g slowed NoMemory none is told = tt
