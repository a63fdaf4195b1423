-- What is answered of a graph: an order or a loop.
use Rattle.std.specs.Prelude.{List, ℕ}
use Rattle.cs_order.specs.declared.topological.Arrangement.{Arrangement}
use Rattle.cs_order.specs.declared.topological.Arrangement.TheVariants.{Order, Loop}
use Rattle.cs_order.specs.Graphs.{Graph, IsOrder, IsLoop}

-- P of the list, where the answer is an order
abbrev pub IfOrder : Arrangement → (List ℕ → Type 0) → Type 0
IfOrder (Order order) P = P order.items
IfOrder (Loop vs) P = Unit {0}

-- P of the list, where the answer is a loop
abbrev pub IfLoop : Arrangement → (List ℕ → Type 0) → Type 0
IfLoop (Order order) P = Unit {0}
IfLoop (Loop vs) P = P vs.items

-- the graph has an order
abbrev pub HasOrder : Graph → Type 0
HasOrder g = (order : List ℕ) × IsOrder g order

-- the graph has a loop
abbrev pub HasLoop : Graph → Type 0
HasLoop g = (vs : List ℕ) × IsLoop g vs
