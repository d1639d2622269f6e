use Rattle.std.proofs.Common.{◌≡◌, ℕ, ◌^◌, ◌<◌, List, length, sym, ap, ◌∙◌, subst}
use Rattle.std.specs.Prelude.{All}
use Rattle.qws_base.specs.Sides.{IsScreen}
use Rattle.qws_base.specs.Scenes.{Setting}
use Rattle.qws_base.specs.declared.windows.Cursor.{Cursor}
use Rattle.region_table.specs.Numbers.{stamp_at}
use Rattle.table_turns.specs.Writes.{Sets}
use Rattle.fb_words.specs.Views.{HeadView}
use Rattle.fb_words.specs.declared.known.Server.{Server}
use Rattle.fb_words.specs.Steps.{IsNextTable, CarriesAtGive}
use Rattle.window_core.specs.CoreViews.{CoreView, PlanView}
use Rattle.step_turns.specs.Written.{Draws, WritesTable}
use Rattle.step_turns.proofs.Ending.{read_as, cursor_read, IsDone, published, next_table, left, carries, all_carried}
use Rattle.step_turns.proofs.publishing.publish.Goals as goal

pub draw-requires-clause-lifted : goal.draw-requires-clause-lifted
draw-requires-clause-lifted c =
    (read_as c.args.core.now.size (length c.args.turn.now.head.now.server.limits) (length c.args.turn.now.head.now.server.closed) c.args.core.now.state c.args.turn.now.head.now.server.present
    (subst IsScreen c.size.ensures c.w-width.ensures.is_screen) c.requires.published).0.cursor

pub draw-requires-clause-cursor : goal.draw-requires-clause-cursor
draw-requires-clause-cursor c =
    cursor_read c.args.core.now.size (length c.args.turn.now.head.now.server.limits) (length c.args.turn.now.head.now.server.closed) c.args.core.now.state c.args.turn.now.head.now.server.present
    (subst IsScreen c.size.ensures c.w-width.ensures.is_screen) c.requires.published

writes : (c : goal.After-write_table) → WritesTable c.args.core.now c.args.plan.now c.args.number c.args.turn.now.head.now.server.present c.write_table.new.turn.head.now.server.present
writes c = subst (λ (l : List ℕ). WritesTable c.args.core.now c.args.plan.now c.args.number l c.write_table.new.turn.head.now.server.present)
    (ap (λ (h : HeadView). h.server.present) c.draw.ensures.head) c.write_table.ensures.words

done : (c : goal.After-write_table) → IsDone c.args.turn.now.head.now.server c.args.core.now c.args.plan.now c.args.changes.now c.args.number c.write_table.new.turn.head.now.server.present c.draw.ensures.log.added
done c = let s : Server = c.args.turn.now.head.now.server in
    let core : CoreView = c.args.core.now in
    let plan : PlanView = c.args.plan.now in
    record {
      screen = subst IsScreen c.size.ensures c.w-width.ensures.is_screen;
      size = ap (λ (v : Setting). v.size) (c.requires.open.2 ∙ c.requires.screen);
      last = c.requires.last;
      numbered = c.requires.number;
      publishes = c.requires.published;
      served = c.windows-windows.ensures.served;
      belongs = c.requires.belongs;
      client = c.requires.client;
      asks = c.requires.changes;
      cells = subst (All (λ cell. cell < 2 ^ 32)) (c.as_slice.ensures ∙ ap (λ (k : Cursor). k.cells) c.cursor.ensures) c.cells_are_words.ensures;
      draws = subst (λ (v : Setting). Draws v core.state.cursor plan c.args.changes.now c.draw.ensures.log.added) (sym c.requires.open.2) c.draw.ensures.log.draws;
      writes = writes c;
    }

server_after : (c : goal.After-write_table) → c.write_table.new.turn.head.now.server
    ≡ record c.args.turn.now.head.now.server { present = c.write_table.new.turn.head.now.server.present; log = c.draw.new.turn.head.now.server.log }
server_after c = ap (λ (h : HeadView). h.server) c.write_table.ensures.head
    ∙ ap (λ (h : HeadView). let s : Server = record h.server { present = c.write_table.new.turn.head.now.server.present } in s) c.draw.ensures.head

pub returns-clause-next : goal.returns-clause-next
returns-clause-next c =
    let next = next_table c.args.turn.now.head.now.server c.args.core.now c.args.plan.now c.args.changes.now c.args.number c.write_table.new.turn.head.now.server.present c.draw.ensures.log.added (done c) in
    subst IsNextTable (sym (server_after c)) (record { is_table = next.is_table; follows = next.follows })

pub returns-clause-carries : goal.returns-clause-carries
returns-clause-carries c = λ entry command reply. subst (λ (s : Server). CarriesAtGive s entry) (sym (server_after c))
    (all_carried c.args.turn.now.head.now.server entry c.write_table.new.turn.head.now.server.present c.args.turn.now.head.now.server.log c.draw.ensures.log.added c.draw.new.turn.head.now.server.log c.draw.ensures.log.log c.requires.reads c.draw.ensures.log.true_log
    (carries c.args.turn.now.head.now.server c.args.core.now c.args.plan.now c.args.changes.now c.args.number c.write_table.new.turn.head.now.server.present c.draw.ensures.log.added (done c) entry command reply))

pub returns-clause-grows : goal.returns-clause-grows
returns-clause-grows c = record { added = c.draw.ensures.log.added; log = ap (λ (s : Server). s.log) (server_after c) ∙ c.draw.ensures.log.log }

pub returns-clause-publishes : goal.returns-clause-publishes
returns-clause-publishes c =
    published c.args.turn.now.head.now.server c.args.core.now c.args.plan.now c.args.changes.now c.args.number c.write_table.new.turn.head.now.server.present c.draw.ensures.log.added (done c)

pub returns-clause-left : goal.returns-clause-left
returns-clause-left c =
    left c.args.turn.now.head.now.server c.args.core.now c.args.plan.now c.args.changes.now c.args.number c.write_table.new.turn.head.now.server.present c.draw.ensures.log.added (done c)

pub returns-clause-quiet : goal.returns-clause-quiet
returns-clause-quiet c = λ none same. let w : WritesTable c.args.core.now c.args.plan.now c.args.number c.args.turn.now.head.now.server.present c.write_table.new.turn.head.now.server.present = writes c in (
  ap (λ (s : Server). s.log) (server_after c) ∙ c.draw.ensures.quiet none same,
  subst (λ (l : List ℕ). Sets stamp_at 1 (λ k. c.args.number) l c.write_table.new.turn.head.now.server.present) (w.same_cursor same ∙ w.same_rows none) w.stamp,
)

pub returns-clause-away : goal.returns-clause-away
returns-clause-away c = λ clear stays. let leaves = c.draw.ensures.away clear stays in record { added = leaves.added; log = ap (λ (s : Server). s.log) (server_after c) ∙ leaves.log; away = leaves.away }
