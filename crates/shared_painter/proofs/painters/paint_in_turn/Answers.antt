use Rattle.std.proofs.Common.{◌≡◌, ◌<◌, true, false, sym, ap, ◌∙◌, subst, Some}
use Rattle.fb_words.specs.declared.known.Client.{Client}
use Rattle.fb_words.specs.Clips.{slot_in}
use Rattle.fb_words.specs.Steps.{or_first}
use Rattle.display_lock.specs.Turns.{client_in}
use Rattle.shared_painter.proofs.Ending.{paints_in_turn, painted_others, finds_gone, current_looks, current_unfetched, fetched_anew}
use Rattle.shared_painter.proofs.painters.paint_in_turn.Goals as goal

pub returns-in-Current-clause-answer : goal.returns-in-Current-clause-answer
returns-in-Current-clause-answer g c =
    let p : Client = client_in c.args.turn.now in
    let q : Client = client_in c.refresh-look.new.turn in
    let r : Client = client_in c.paint_clip-pixels.new.turn in
    let a = c.in-Current.ensures.answer in
    let e = c.paint_clip-pixels.ensures in
    let slot = c.refresh-look.ensures.slot in
    let at : slot_in q.mode ≡ Some c.args.clip.now.slot = c.refresh-look.ensures.turn_slot ∙ ap (λ o. or_first o (Some c.args.clip.now.slot)) c.requires.no_slot in
    paints_in_turn c.paints_are_carried_whole.ensures c.kept_clips_are_fresh.ensures p q r c.args.clip.now c.refresh-look.new.self (g.P.Picture.sheet c.args.picture.now) c.paint_clip-pixels.result _ false c.requires.empty c.refresh-look.ensures.looks at slot
    a.2 a.3 e.goes e.open.2 e.log e.count (current_unfetched c.args.clip.now c.refresh-look.new.self a.1)
    (λ is. (a.1, current_looks p q r c.args.clip.now c.args.turn.now.stamp _ c.requires.looked a.0 e.goes))

pub returns-in-Current-clause-others : goal.returns-in-Current-clause-others
returns-in-Current-clause-others g c = painted_others (client_in c.args.turn.now) (client_in c.refresh-look.new.turn) (client_in c.paint_clip-pixels.new.turn) c.args.clip.now.slot c.refresh-look.ensures.others c.paint_clip-pixels.ensures.goes

pub returns-in-Fetched-clause-answer : goal.returns-in-Fetched-clause-answer
returns-in-Fetched-clause-answer g c =
    let p : Client = client_in c.args.turn.now in
    let q : Client = client_in c.refresh-look.new.turn in
    let r : Client = client_in c.paint_clip-pixels-in-Fetched.new.turn in
    let a = c.in-Fetched.ensures.answer in
    let e = c.paint_clip-pixels-in-Fetched.ensures in
    let slot = c.refresh-look.ensures.slot in
    let at : slot_in q.mode ≡ Some c.args.clip.now.slot = c.refresh-look.ensures.turn_slot ∙ ap (λ o. or_first o (Some c.args.clip.now.slot)) c.requires.no_slot in
    paints_in_turn c.paints_are_carried_whole.ensures c.kept_clips_are_fresh.ensures p q r c.args.clip.now c.refresh-look.new.self (g.P.Picture.sheet c.args.picture.now) c.paint_clip-pixels-in-Fetched.result _ true c.requires.empty c.refresh-look.ensures.looks at slot
    a.4 (a.4.kept_then (at ∙ ap (λ n. Some n) (sym slot))) e.goes e.open.2 e.log e.count (fetched_anew c.args.clip.now c.refresh-look.new.self c.in-Fetched.was c.in-Fetched.now a.0 a.1 a.2)
    (λ is. absurd (Rattle.std.proofs.lemmas.Bool.false≢true (sym is)))

pub returns-in-Fetched-clause-others : goal.returns-in-Fetched-clause-others
returns-in-Fetched-clause-others g c = painted_others (client_in c.args.turn.now) (client_in c.refresh-look.new.turn) (client_in c.paint_clip-pixels-in-Fetched.new.turn) c.args.clip.now.slot c.refresh-look.ensures.others c.paint_clip-pixels-in-Fetched.ensures.goes

pub returns-in-Gone-clause-answer : goal.returns-in-Gone-clause-answer
returns-in-Gone-clause-answer g c = let a = c.in-Gone.ensures.answer in
    finds_gone (client_in c.args.turn.now) (client_in c.refresh-look.new.turn) c.args.clip.now c.refresh-look.new.self (g.P.Picture.sheet c.args.picture.now) c.in-Gone.owner_word (subst (λ n. n < 33) c.slot-slot.ensures.value c.slot-slot.ensures.range) c.requires.empty c.refresh-look.ensures.looks a.0 a.1 a.2
