use Rattle.std.proofs.Common.{ℕ, zero, suc, ◌^◌, ◌≤◌, arith}
use Rattle.cs_base.proofs.contexts.Contexts.bits.Goals as goal

two_bits : (b : ℕ) → 3 ≤ 2 ^ b → 2 ≤ b
two_bits zero h = absurd (omega arith)
two_bits (suc zero) h = absurd (omega arith)
two_bits (suc (suc b)) h = omega arith

three_bits : (b : ℕ) → 5 ≤ 2 ^ b → 3 ≤ b
three_bits zero h = absurd (omega arith)
three_bits (suc zero) h = absurd (omega arith)
three_bits (suc (suc zero)) h = absurd (omega arith)
three_bits (suc (suc (suc b))) h = omega arith

four_bits : (b : ℕ) → 9 ≤ 2 ^ b → 4 ≤ b
four_bits zero h = absurd (omega arith)
four_bits (suc zero) h = absurd (omega arith)
four_bits (suc (suc zero)) h = absurd (omega arith)
four_bits (suc (suc (suc zero))) h = absurd (omega arith)
four_bits (suc (suc (suc (suc b)))) h = omega arith

pub returns-in-3-to-4-clause-least : goal.returns-in-3-to-4-clause-least
returns-in-3-to-4-clause-least c = λ b h. two_bits b (omega arith)

pub returns-in-5-to-8-clause-least : goal.returns-in-5-to-8-clause-least
returns-in-5-to-8-clause-least c = λ b h. three_bits b (omega arith)

pub returns-in_default-2-clause-least : goal.returns-in_default-2-clause-least
returns-in_default-2-clause-least c = λ b h. four_bits b (omega arith)
