use Rattle.std.proofs.Common.{◌≡◌, ◌++◌, codes, drop, flat_map, string_bytes}
use Rattle.cs_report.specs.Refused.{loop_words}
use Rattle.cs_report.specs.Words.{quoted}
use Rattle.cs_report.proofs.refused.loop_text.Given as goal

-- what is written, and the names that are left
abbrev pub invariant-loop-cell : goal.invariant-loop-cell
invariant-loop-cell l =
    string_bytes l.text ++ flat_map (λ name. codes " " ++ quoted name) (drop l.cell-index l.cells) ≡ loop_words l.cells
