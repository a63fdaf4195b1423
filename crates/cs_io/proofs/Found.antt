-- A scan of the files from the front, one file at a time.
use Rattle.std.proofs.Common.{◌≡◌, ℕ, suc, ◌+◌, ◌<◌, List, length, map, drop, cond, get_or, sym, ap, add-one, Some}
use Rattle.std.proofs.Math.Seq.{drop-cons}
use Rattle.std.specs.Ordering.{nat_cmp}
use Rattle.std.specs.Str.{bytes_eq}
use Rattle.std.specs.Cmp.Lexicographic.{slice_cmp, texts_ties}
use Rattle.std.specs.FinMap.{find}
use Rattle.std.specs.String.{string_bytes}
use Rattle.cs_io.specs.Memory.{entry_of}
use Rattle.cs_io.specs.declared.memory.NamedFile.{NamedFile}

pub find_from : (name : List ℕ) (files : List NamedFile) (i : ℕ) (held : NamedFile) → held ≡ get_or files i held → i < length files →
    find (slice_cmp nat_cmp) name (map entry_of (drop i files))
    ≡ cond (bytes_eq name (string_bytes held.name)) (Some held.bytes.items) (find (slice_cmp nat_cmp) name (map entry_of (drop (i + 1) files)))
find_from name files i held is lt =
    rw (add-one, drop-cons files i held lt, ← is)
    (ap (λ b. cond b (Some held.bytes.items) (find (slice_cmp nat_cmp) name (map entry_of (drop (suc i) files)))) (sym (texts_ties name (string_bytes held.name))))
