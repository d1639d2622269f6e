use Rattle.std.proofs.Common.{◌≡◌, ◌∙◌, string_bytes, rules}
use Rattle.session_maker.proofs.Adding.{head_written, head_is}
use Rattle.session_maker.proofs.scripts.head.Goals as goal

pub returns : goal.returns
returns c =
    let text : string_bytes c.in_ok-text.text ≡ head_written c.args.clients = c.in_ok-text.ensures.ok in
    let copied : c.in_ok-out.out.items ≡ string_bytes c.in_ok-text.text = search rules in
    copied ∙ text ∙ head_is c.args.clients
