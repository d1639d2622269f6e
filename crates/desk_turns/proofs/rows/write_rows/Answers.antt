use Rattle.std.proofs.Common.{rules, ℕ, ◌<◌, ◌≤◌, List, length, take, get_or, sym, refl, ap, ◌∙◌, subst, arith}
use Rattle.std.proofs.lemmas.List.{take_more, take_all}
use Rattle.fb_words.specs.Views.{HeadView}
use Rattle.desk_turns.specs.Rows.{WritesRows, WritesPlanned}
use Rattle.desk_turns.proofs.Planned.{no_rows, row_more}
use Rattle.desk_turns.proofs.rows.write_rows.Goals as goal

pub loop-slot-init : goal.loop-slot-init
loop-slot-init c = record {
  same = search rules;
  is_open = c.requires.open;
  head = refl;
  words = no_rows c.args.plan.now c.args.turn.now.head.now.server.present;
}

pub write_planned-requires-clause-slot : goal.write_planned-requires-clause-slot
write_planned-requires-clause-slot c = let j : ℕ = c.loop-slot.slot-index in
    let lt : j < length c.args.plan.now.risen = subst (λ (l : List ℕ). j < length l) c.risen-slot-items.ensures c.loop-slot-test.true in
    subst (λ (l : List ℕ). get_or l j 0 < 32) (sym c.risen-slot-items.ensures) (c.requires.slots j 0 lt)

pub loop-slot-preserved : goal.loop-slot-preserved
loop-slot-preserved c = let i = c.loop-slot.invariant in let e = c.write_planned.ensures in
    let b = c.loop-slot.turn.head.now.server.present in
    let w = c.write_planned.new.turn.head.now.server.present in
    let j : ℕ = c.loop-slot.slot-index in
    let risen : List ℕ = c.args.plan.now.risen in
    let lt : j < length risen = subst (λ (l : List ℕ). j < length l) c.risen-slot-items.ensures c.loop-slot-test.true in
    let one : WritesPlanned c.args.plan.now (get_or risen j 0) b w = subst (λ (l : List ℕ). WritesPlanned c.args.plan.now (get_or l j 0) b w) c.risen-slot-items.ensures e.words in
    record {
      same = search rules;
      is_open = e.open;
      head = e.head ∙ ap (λ (h : HeadView). record h { server = record h.server { present = w } }) i.head;
      words = subst (λ l. WritesRows c.args.plan.now l c.args.turn.now.head.now.server.present w) (sym (take_more risen j 0 lt))
          (row_more c.tables_are_written.ensures c.args.plan.now (take j risen) (get_or risen j 0) c.args.turn.now.head.now.server.present b w (c.requires.slots j 0 lt) i.words one);
    }

pub returns-clause-words : goal.returns-clause-words
returns-clause-words c = let i = c.loop-slot.invariant in
    let past : length c.args.plan.now.risen ≤ c.loop-slot.slot-index = subst (λ (l : List ℕ). length l ≤ c.loop-slot.slot-index) c.risen-slot-items.ensures (let f = c.loop-slot-test.false in omega arith) in
    subst (λ l. WritesRows c.args.plan.now l c.args.turn.now.head.now.server.present c.loop-slot.turn.head.now.server.present) (take_all c.loop-slot.slot-index c.args.plan.now.risen past) i.words
