-- Counts above their limits, in words.
use Rattle.std.specs.Prelude.{ℕ, List, ◌++◌, codes, decimal}
use Rattle.cs_base.specs.declared.limit.Counted.{Counted}
use Rattle.cs_base.specs.declared.limit.Counted.TheVariants.{Cells, AddressBits, MemoryBits, ReadBits, Vertices, Edges, Weight, Variables, Instances, Bits}
use Rattle.cs_base.specs.declared.limit.LimitFault.{LimitFault}

abbrev pub counted_words : Counted → List ℕ
counted_words Cells = codes "cells"
counted_words AddressBits = codes "address bits"
counted_words MemoryBits = codes "memory bits"
counted_words ReadBits = codes "read bits"
counted_words Vertices = codes "vertices"
counted_words Edges = codes "edges"
counted_words Weight = codes "weight"
counted_words Variables = codes "variables"
counted_words Instances = codes "instances"
counted_words Bits = codes "bits"

-- what is counted, the count, and the limit
abbrev pub limit_words : LimitFault → List ℕ
limit_words fault =
    codes "limit: " ++ counted_words fault.what ++ codes " " ++ decimal fault.found ++ codes " above " ++ decimal fault.most
