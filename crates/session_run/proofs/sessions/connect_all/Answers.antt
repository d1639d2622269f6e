use Rattle.std.proofs.Common.{◌≡◌, ◌+◌, ◌++◌, ◌∷◌, [], length, sym, ap, subst, ◌∙◌, ⊎_elim, arith}
use Rattle.std.proofs.lemmas.List.{length-append}
use mathlib.Core.Option.{some}
use lib.ListN.{get_elem?}
use Rattle.fb_words.proofs.Places.{at_end}
use Rattle.fb_words.specs.Views.{PassView}
use Rattle.fb_words.specs.Steps.{fresh}
use Rattle.script_grammar.specs.Session.{step_count, paint_count}
use Rattle.server_desk.specs.DeskViews.{DeskView, connected}
use Rattle.session_run.proofs.sessions.connect_all.Goals as goal

pub loop-client-preserved : goal.loop-client-preserved
loop-client-preserved c =
    let at = c.loop-client in
    let inv = at.invariant in
    let items = c.push_reserved.ensures.items in
    let pass = c.in-Ok.pass in
    let desk = c.in-Ok.ensures.desk in record {
      screen = ap (λ (d : DeskView). d.screen) desk ∙ inv.screen;
      setting = ap (λ (d : DeskView). d.server.setting) desk ∙ inv.setting;
      connected = ap connected desk ∙ length-append at.desk.server.limits _ ∙ ap (λ n. n + 1) inv.connected;
      many = ap length items ∙ length-append at.passes.items (pass ∷ []) ∙ ap (λ n. n + 1) inv.many;
      room = let k = c.push_reserved.ensures.capacity in let r = inv.room in omega arith;
      fresh = λ client p e. ⊎_elim (λ (h : get_elem? at.passes.items client ≡ some p). inv.fresh client p h)
          (λ (h : (client ≡ length at.passes.items) × (pass ≡ p)).
          let here = sym inv.many ∙ sym h.0 in
          sym h.1 ∙ c.in-Ok.ensures.pass
          ∙ (λ i. record {
            screen = c.args.screen.now;
            client = fresh (inv.setting i) ((inv.connected ∙ here) i) ((c.steps-steps.ensures ∙ ap (λ n. step_count c.args.script.now n) here) i);
            book_limit = (c.paints-paints.ensures ∙ ap (λ n. paint_count c.args.script.now n) here) i;
          }))
          (at_end at.passes.items client pass p (sym (ap (λ l. get_elem? l client) items) ∙ e));
    }
