use Rattle.std.proofs.Common.{◌+◌, ◌-◌, ◌≤◌, ◌∷◌, length, take, drop, ap, sym, ◌∙◌, arith}
use Rattle.std.proofs.lemmas.List.{take_all, length-drop}
use Rattle.cs_stream.specs.Lines.{lines_of}
use Rattle.cs_stream.proofs.LineLemmas.{position_or_len-Some, position_or_len-None, lines_of_cut, lines_of_last}
use Rattle.cs_stream.proofs.reading.first_line.Goals as goal

pub returns-in-Some-clause-lines : goal.returns-in-Some-clause-lines
returns-in-Some-clause-lines c =
    let bytes = c.args.bytes.now in
    let end = c.in-Some.end in
    let at = position_or_len-Some bytes end (sym c.newline.ensures ∙ c.in-Some.is) in
    let all : length (drop (end + 1) bytes) ≤ length bytes - (end + 1) = simp length-drop (omega arith) in
    lines_of_cut bytes end at.0 at.1
    ∙ ap (λ rest. take end bytes ∷ lines_of rest) (sym (take_all (length bytes - (end + 1)) (drop
    (end + 1) bytes) all))

pub returns-in-None-clause-lines : goal.returns-in-None-clause-lines
returns-in-None-clause-lines c =
    let bytes = c.args.bytes.now in
    lines_of_last bytes (position_or_len-None bytes (sym c.newline.ensures ∙ c.in-None.is)) c.requires
