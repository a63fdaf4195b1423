use Rattle.std.proofs.Common.{◌≡◌, ◌<◌, ◌^◌, drop}
use Rattle.std.specs.Prelude.{IsTrue}
use Rattle.cs_words.specs.Numbers.{value_behind, value_of, are_digits}
use Rattle.cs_words.proofs.number.value.Given as goal

abbrev pub invariant-loop-byte : goal.invariant-loop-byte
invariant-loop-byte l = record {
  rest : value_behind l.value (drop l.byte-index l.word) ≡ value_of l.word;
  small : l.value < 10 ^ l.byte-index;
  digits : IsTrue (are_digits (drop l.byte-index l.word));
}
