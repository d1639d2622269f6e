use Rattle.std.proofs.Common.{◌≡◌, ◌∙◌, sym, ap, subst, map, length, Some, Ok, ℕ, List, Bor}
use Rattle.script_grammar.specs.Session.{fonts_of, images_of}
use Rattle.script_grammar.specs.Limits.{IsCall}
use Rattle.script_grammar.specs.declared.lines.CallLine.{CallLine}
use Rattle.script_grammar.proofs.Binds.{err_is_no_ok}
use Rattle.session_script.proofs.Backs.{reads_back, read_as, ok_line}
use Rattle.session_script.proofs.lines.line_of.Goals as goal

pub unreachable-requires : goal.unreachable-requires
unreachable-requires c =
    let said = c.args.script.now in
    let back = reads_back said c.args.client c.args.k c.line-text.result.now c.line-text.ensures.session c.line-text.ensures.words in
    let same : c.in_ok-line.field-0 ≡ Ok back.line = c.in_ok-line.ensures ∙ read_as _ _ _ _ _ _ _ _ c.clients-clients.ensures.clients c.fonts.ensures (ap length c.images-images.ensures) (ap (λ (l : List (Bor (List ℕ))). map (λ (w : Bor (List ℕ)). w.now) l) c.deref.ensures.value ∙ c.in_ok-words.ensures) ∙ back.reads in
    err_is_no_ok c.in-Err.field-0 back.line (sym c.in-Err.is ∙ same)

pub returns-clause-line : goal.returns-clause-line
returns-clause-line c =
    let said = c.args.script.now in
    let back = reads_back said c.args.client c.args.k c.line-text.result.now c.line-text.ensures.session c.line-text.ensures.words in
    let same : c.in_ok-line.field-0 ≡ Ok back.line = c.in_ok-line.ensures ∙ read_as _ _ _ _ _ _ _ _ c.clients-clients.ensures.clients c.fonts.ensures (ap length c.images-images.ensures) (ap (λ (l : List (Bor (List ℕ))). map (λ (w : Bor (List ℕ)). w.now) l) c.deref.ensures.value ∙ c.in_ok-words.ensures) ∙ back.reads in
    back.is ∙ ap Some (ok_line back.line c.in-Ok.line (sym same ∙ c.in-Ok.is))

pub returns-clause-call : goal.returns-clause-call
returns-clause-call c =
    let said = c.args.script.now in
    let back = reads_back said c.args.client c.args.k c.line-text.result.now c.line-text.ensures.session c.line-text.ensures.words in
    let same : c.in_ok-line.field-0 ≡ Ok back.line = c.in_ok-line.ensures ∙ read_as _ _ _ _ _ _ _ _ c.clients-clients.ensures.clients c.fonts.ensures (ap length c.images-images.ensures) (ap (λ (l : List (Bor (List ℕ))). map (λ (w : Bor (List ℕ)). w.now) l) c.deref.ensures.value ∙ c.in_ok-words.ensures) ∙ back.reads in
    subst (λ (l : CallLine). IsCall (fonts_of said.assets) (length (images_of said.assets)) l.call) (ok_line back.line c.in-Ok.line (sym same ∙ c.in-Ok.is)) back.call
