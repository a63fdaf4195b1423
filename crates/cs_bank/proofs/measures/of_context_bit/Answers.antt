-- A register for each context.
use Rattle.std.proofs.Common.{◌≡◌, ◌∙◌, [], ◌∷◌, sym, ap, arith}
use Rattle.std.proofs.lemmas.List.FromFn.{length-map-range_with_len}
use Rattle.cs_graph.specs.Past.{context_of}
use Rattle.cs_bank.specs.declared.measures.Measure.TheVariants.{Registers}
use Rattle.cs_bank.specs.ContextBits.{context_bit, digit}
use Rattle.cs_bank.specs.Measures.{extent}
use Rattle.cs_bank.proofs.measures.of_context_bit.Goals as goal

pub returns-in-Registers-clause-is : goal.returns-in-Registers-clause-is
returns-in-Registers-clause-is c v j =
    let contexts = c.args.contexts in
    let long = length-map-range_with_len (λ i. digit j (context_of contexts i)) 0 contexts in
    let value = c.get.ensures.value in
    let all : c.get.result ≡ extent Registers (context_bit contexts v j ∷ []) = omega (arith, long, value) in
    all ∙ ap (λ m. extent m (context_bit contexts v j ∷ [])) (sym c.in-Registers.is)
