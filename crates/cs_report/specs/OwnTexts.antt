-- What the program says of itself.
use Rattle.std.specs.Prelude.{ℕ, List, [], ◌∷◌, ◌++◌, codes, flat_map}

abbrev pub help_lines : List (List ℕ)
help_lines =
    codes "cslow: one Yosys netlist for C interleaved threads"
    ∷ codes "usage:"
    ∷ codes "  cslow slow IN OUT CERT DELAYS -c C [--images IMAGES]"
    ∷ codes "  cslow sim NET STIM"
    ∷ codes "  cslow sim-context NET STIM IMAGES K C"
    ∷ codes "  cslow mix OUT STREAMS"
    ∷ codes "  cslow part K C FILE"
    ∷ codes "  cslow upgrade OLD NEW"
    ∷ codes "  cslow help"
    ∷ codes "  cslow version"
    ∷ codes "netlists are Yosys JSON; see README.md"
    ∷ []

-- each line with a newline
abbrev pub lines : List (List ℕ) → List ℕ
lines texts = flat_map (λ text. text ++ 10 ∷ []) texts

-- what `help` and `version` put
unfoldable pub help_text : List ℕ
help_text = lines help_lines

unfoldable pub version_text : List ℕ
version_text = lines (codes "cslow 1.0.0" ∷ [])
