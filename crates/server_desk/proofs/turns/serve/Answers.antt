use Rattle.std.proofs.Common.{rules, ◌≡◌, ℕ, List, length, sym, ap, ◌∙◌, subst, refl}
use Rattle.qws_base.specs.declared.journals.JournalEntry.{JournalEntry}
use Rattle.fb_words.specs.declared.known.Client.{Client}
use Rattle.fb_words.specs.Views.{ScreenView, HeadView}
use Rattle.fb_words.specs.Steps.{SitsAs}
use Rattle.step_turns.specs.Publishes.{Publishes}
use Rattle.step_turns.specs.Changes.{state_planned}
use Rattle.server_desk.specs.Serving.{KeepsStubs}
use Rattle.server_desk.specs.Keeping.{IsCurrent}
use Rattle.server_desk.specs.Readings.{HasRead}
use Rattle.server_desk.specs.Grabs.{HasGrabbed}
use Rattle.server_desk.proofs.Served.{current_ended, served_of, read_first, sitting_same}
use Rattle.server_desk.proofs.Grabbing.{grab_of}
use Rattle.server_desk.proofs.turns.serve.Goals as goal

pub end-requires-clause-carries : goal.end-requires-clause-carries
end-requires-clause-carries c =
    let e : JournalEntry = record { number = c.args.number; client = c.client-client.result; command = c.commit-command.result.0; reply = c.commit-command.result.1 } in
    c.publish.ensures.carries e c.commit-command.ensures.command (c.commit-command.ensures.reply ∙ sym c.requires.belongs.reply)

pub returns-clause-current : goal.returns-clause-current
returns-clause-current c =
    let e : JournalEntry = record { number = c.args.number; client = c.client-client.result; command = c.commit-command.result.0; reply = c.commit-command.result.1 } in
    let read = c.read_pixels-shown.ensures.read in
    let only = read_first c.in-Ok.turn.head.now c.read_pixels-shown.new.turn.head.now c.publish.new.turn.head.now _ _ c.args.pixels read c.publish.ensures.head in
    let publishes = subst (λ (l : List ℕ). Publishes c.args.core.now.size (length l) c.args.number (state_planned c.args.core.now c.args.plan) c.publish.new.turn.head.now.server.present) (ap (λ (h : HeadView). h.server.limits) read.head) c.publish.ensures.publishes in
    let all : (a : HeadView) → c.end.new.self.1.0 ≡ a → IsCurrent a c.commit-command.new.self =
    λ a is. subst (λ (h : HeadView). IsCurrent h c.commit-command.new.self) is
    (current_ended c.closed_turns_are_kept.ensures c.args.head.now c.in-Ok.turn.head.now c.publish.new.turn.head.now c.end.new.self.1.0 c.args.core.now c.commit-command.new.self c.args.plan e c.args.number
    c.in-Ok.ensures.open.1 only c.end.ensures.head c.requires.current c.requires.number c.client-client.ensures c.commit-command.ensures.command c.commit-command.ensures.reply
    c.commit-command.ensures.state publishes c.publish.ensures.left) in
    all _ (search rules)

pub returns-clause-grab : goal.returns-clause-grab
returns-clause-grab c =
    let e : JournalEntry = record { number = c.args.number; client = c.client-client.result; command = c.commit-command.result.0; reply = c.commit-command.result.1 } in
    let read = subst (λ (s : ScreenView). HasRead c.in-Ok.turn.head.now c.read_pixels-shown.new.turn.head.now s.setting.depth c.read_pixels-shown.result.items c.args.pixels) c.in-Ok.ensures.open.0 c.read_pixels-shown.ensures.read in
    let only = read_first c.in-Ok.turn.head.now c.read_pixels-shown.new.turn.head.now c.publish.new.turn.head.now _ _ c.args.pixels read c.publish.ensures.head in
    let served = served_of c.args.head.now c.in-Ok.turn.head.now c.publish.new.turn.head.now c.end.new.self.1.0 e c.in-Ok.ensures.open.1 only c.end.ensures.head in
    let all : (a : HeadView) → c.end.new.self.1.0 ≡ a → HasGrabbed a c.args.screen.now.setting.depth c.args.pixels c.args.number c.read_pixels-shown.result.items =
    λ a is. subst (λ (h : HeadView). HasGrabbed h c.args.screen.now.setting.depth c.args.pixels c.args.number c.read_pixels-shown.result.items) is
    (grab_of c.args.head.now c.end.new.self.1.0 c.in-Ok.turn.head.now c.read_pixels-shown.new.turn.head.now c.publish.new.turn.head.now e c.args.screen.now.setting.depth c.args.pixels c.args.number c.read_pixels-shown.result.items
    served c.requires.number read c.publish.ensures.grows refl) in
    all _ (search rules)

pub returns-clause-stubs : goal.returns-clause-stubs
returns-clause-stubs c =
    let read = c.read_pixels-shown.ensures.read in
    let only = read_first c.in-Ok.turn.head.now c.read_pixels-shown.new.turn.head.now c.publish.new.turn.head.now _ _ c.args.pixels read c.publish.ensures.head in
    let same = sitting_same c.args.head.now c.in-Ok.turn.head.now c.publish.new.turn.head.now c.in-Ok.ensures.open.1 only in
    let all : (a : HeadView) → c.end.new.self.1.0 ≡ a → KeepsStubs c.args.head.now a =
    λ a is. subst (λ (h : HeadView). KeepsStubs c.args.head.now h) is (record { each = λ stub sits. c.end.ensures.stubs stub (subst (λ (l : List Client). SitsAs stub l) (sym same) sits) }) in
    all _ (search rules)
