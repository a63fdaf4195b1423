use Rattle.std.proofs.Common.{◌∙◌, ap, option_map, sym}
use Rattle.cs_net.proofs.AcceptLemmas.{accepted, never_refused, top_readable}
use Rattle.cs_net.proofs.acceptance.accept.Goals as goal

pub accept_module-requires : goal.accept_module-requires
accept_module-requires c =
    top_readable c.args.doc.now (option_map (λ name. name.now) c.args.top) c.in-Some.module.now c.requires
    (sym c.in_ok-module.ensures ∙ ap (option_map (λ m. m.now)) c.in-Some.is)

pub returns-in-Some-clause-accepts : goal.returns-in-Some-clause-accepts
returns-in-Some-clause-accepts c =
    accepted c.args.doc.now (option_map (λ name. name.now) c.args.top) c.in-Some.module.now
    (sym c.in_ok-module.ensures ∙ ap (option_map (λ m. m.now)) c.in-Some.is) c.accept_module.result c.accept_module.ensures.accepts

pub returns-in-Some-clause-refused_comes : goal.returns-in-Some-clause-refused_comes
returns-in-Some-clause-refused_comes c =
    never_refused c.args.doc.now (option_map (λ name. name.now) c.args.top) c.in-Some.module.now
    (sym c.in_ok-module.ensures ∙ ap (option_map (λ m. m.now)) c.in-Some.is) c.accept_module.result c.accept_module.ensures.accepts
