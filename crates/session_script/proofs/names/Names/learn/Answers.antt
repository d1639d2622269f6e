use Rattle.std.proofs.Common.{◌∙◌, sym, ap, Some}
use Rattle.std.specs.Option.{option_map}
use Rattle.script_grammar.specs.Session.{call_line}
use Rattle.script_grammar.specs.declared.lines.CallLine.{CallLine}
use Rattle.script_names.specs.Naming.{naming, learned}
use Rattle.session_script.specs.Named.{NamesView}
use Rattle.session_script.proofs.Backs.{on_ok}
use Rattle.session_script.proofs.names.Names.learn.Goals as goal

pub returns-clause-ok : goal.returns-clause-ok
returns-clause-ok c =
    let s = c.self.inside in
    let said = c.args.script.now in
    let reply = c.args.reply.now in
    on_ok c.learn-learned.result
    (λ h.
    ap (λ (v : NamesView). option_map (λ (l : CallLine). learned (naming v.slots) l.call reply) (call_line said v.client c.args.k)) (sym c.self.view_is)
    ∙ ap (option_map (λ (l : CallLine). learned (naming s.slots) l.call reply)) c.in_ok-line.ensures.line
    ∙ ap Some (sym h))
    c.learn-learned.ensures.ok
