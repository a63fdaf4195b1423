-- The vertex with the source takes the place of the old one.
use Rattle.std.proofs.Common.{List, Some, get_or, set, sym, ap, ◌∙◌}
use Rattle.std.specs.Prelude.{Option}
use Rattle.std.proofs.lemmas.Option.{get_or_from_slice_get}
use Rattle.cs_graph.specs.declared.source.OpenVertex.{OpenVertex}
use Rattle.cs_graph.specs.declared.source.Source.{Source}
use Rattle.cs_graph.proofs.DraftLemmas.{with_source_is}
use Rattle.cs_graph.proofs.builder.set_source.Goals as goal

pub returns : goal.returns
returns c =
    let x = c.requires.0 in
    let here = c.index_mut.ensures.value
    ∙ ap (λ n. get_or c.args.vertices.now.items n c.index_mut.result.now) c.get.ensures
    ∙ get_or_from_slice_get c.args.vertices.now.items c.args.v x c.index_mut.result.now c.requires.1 in
    let pins = c.set.ensures ∙ ap (λ (y : OpenVertex). set y.pins c.args.pin (Some c.args.source)) here in
    ap (λ n. set c.args.vertices.now.items n (record {
      kind = c.index_mut.result.now.kind;
      pins =
          c.set.new.self;
    })) c.get.ensures
    ∙ ap (λ (ps : List (Option Source)). set c.args.vertices.now.items c.args.v (record {
      kind =
          c.index_mut.result.now.kind;
      pins = ps;
    })) pins
    ∙ ap (λ (y : OpenVertex). set c.args.vertices.now.items c.args.v (record {
      kind = y.kind;
      pins = set
          x.pins c.args.pin (Some c.args.source);
    })) here
    ∙ sym (with_source_is c.args.vertices.now.items c.args.v c.args.pin c.args.source x c.requires.1)
