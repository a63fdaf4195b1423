use Rattle.std.proofs.Common.{◌≡◌, ◌+◌, ◌++◌, ◌∙◌, length, map, ap, arith}
use Rattle.std.proofs.lemmas.List.{length-append, length-map}
use Rattle.cs_stream.specs.Reading.{is_one}
use Rattle.cs_stream.proofs.ReadLemmas.{first_fault_on, rows_on}
use Rattle.cs_stream.proofs.reading.read_stimulus.Goals as goal

pub loop-rest-preserved : goal.loop-rest-preserved
loop-rest-preserved c =
    let rest = c.loop-rest.rest.now in
    let line = c.first_line.result.0.now in
    let after = c.first_line.result.1.now in
    let bits = c.loop-rest.bits.items in
    let count = c.loop-rest.count in
    let width = c.args.width in
    let long : length (bits ++ map is_one line) ≡ length bits + length line =
    simp (length-append, length-map) in
    let wide : length line ≡ width = c.in_ok-read_line.ensures.wide in
    record {
      rows = rows_on c.args.bytes.now rest line after count width bits c.read_line.new.bits.items
          c.loop-rest.invariant.rows c.first_line.ensures.lines c.loop-rest.invariant.whole wide
          c.in_ok-read_line.ensures.ok;
      fault = c.loop-rest.invariant.fault
          ∙ first_fault_on width (count + 1) rest line after c.first_line.ensures.lines
          c.in_ok-read_line.ensures.faultless;
      whole = ap length c.in_ok-read_line.ensures.ok ∙ long ∙ omega (arith, c.loop-rest.invariant.whole);
      few = omega (arith, c.loop-rest.invariant.few, c.first_line.ensures.shorter);
    }
