-- What callers cite.
use Rattle.std.proofs.Common.{All, ◌≡◌, ℕ, ◌∙◌, sym, List, [], ◌∷◌}
use Rattle.std.proofs.lemmas.List.Elements.{All-head, All-tail, All-weaker}
use Rattle.cs_stream.specs.declared.stimulus.Stimulus.{Stimulus}
use Rattle.cs_stream.specs.Mixing.{AreOfOneWidth}

-- streams that have a width are of one width
pub AreOfOneWidth-from_All : (width : ℕ) (streams : List Stimulus) → All (λ stream. stream.width ≡ width) streams
    → AreOfOneWidth streams
AreOfOneWidth-from_All width [] all = tt
AreOfOneWidth-from_All width (first ∷ others) all =
    let P = λ (stream : Stimulus). stream.width ≡ width in
    All-weaker P (λ stream. stream.width ≡ first.width) (λ stream same. same ∙ sym (All-head P first others all))
    others (All-tail P first others all)
