use Rattle.std.proofs.Common.{◌≡◌, ℕ, [], ◌∷◌, ◌++◌, sym, ap, ◌∙◌, subst, arith}
use Rattle.qws_base.specs.Inks.{ink_after}
use Rattle.qws_base.specs.Shown.{cell_ink}
use Rattle.qws_base.specs.declared.colours.Depth.{Depth}
use Rattle.region_table.specs.Numbers.{pixel_word, saved_word}
use Rattle.turn_logs.specs.declared.items.Item.TheVariants.{Pick, Put}
use Rattle.fb_words.specs.declared.known.Client.{Client}
use Rattle.fb_words.specs.Clips.{look_of, looked_in, log_in}
use Rattle.fb_words.specs.Rights.{Owns}
use Rattle.fb_words.specs.Looks.{GoesOn, OnlyLooks}
use Rattle.fb_words.proofs.Going.{none_looked, more_looked, looks_done, item_done, both_done}
use Rattle.display_lock.specs.Turns.{client_in}
use Rattle.sw_cursor.proofs.Covered.{cell_small}
use Rattle.sw_cursor.proofs.Logs.{one_item, three_items}
use Rattle.sw_cursor.proofs.paints.put_over.Goals as goal

pub put-requires-clause-owns : goal.put-requires-clause-owns
put-requires-clause-owns c =
    let p : Client = client_in c.look-cell.new.self in
    let q : Client = client_in c.pick.new.self in
    (item_done 2 1028 p q (Pick c.saved_at-saved.result c.pick.result) c.pick.ensures.pass c.pick.ensures.kept).owns c.saved_at-saved.result
    (c.look-cell.ensures.owns c.saved_at-saved.result (subst (Owns (client_in c.args.turn.now)) (sym c.saved_at-saved.ensures) c.requires.saved))

pub overflow_cast-cell : goal.overflow_cast-cell
overflow_cast-cell c =
    let at = c.cell_at.ensures in
    let column = c.requires.column in
    let row = c.requires.row in
    let small = cell_small (client_in c.look-cell.new.self) c.cell_at.result c.look-cell.result c.look-cell.ensures.present (omega arith) (omega arith) c.look-cell.ensures.found in
    omega arith

pub put-requires-2-clause-owns : goal.put-requires-2-clause-owns
put-requires-2-clause-owns c =
    let p : Client = client_in c.look-cell.new.self in
    let q : Client = client_in c.pick.new.self in
    let r : Client = client_in c.put.new.self in
    let x : ℕ = c.pixel_at.result in
    (item_done 2 1028 q r (Put c.saved_at-saved.result c.from.result) c.put.ensures.pass c.put.ensures.kept).owns x
    ((item_done 2 1028 p q (Pick c.saved_at-saved.result c.pick.result) c.pick.ensures.pass c.pick.ensures.kept).owns x
    (c.look-cell.ensures.owns x (subst (Owns (client_in c.args.turn.now)) (sym c.pixel_at.ensures) c.requires.owns)))

pub returns-clause-goes : goal.returns-clause-goes
returns-clause-goes c =
    let at = c.cell_at.ensures in
    let column = c.requires.column in
    let row = c.requires.row in
    let a = c.look-cell.ensures in
    let p0 : Client = client_in c.args.turn.now in
    let p : Client = client_in c.look-cell.new.self in
    let q : Client = client_in c.pick.new.self in
    let r : Client = client_in c.put.new.self in
    let s : Client = client_in c.put-2.new.self in
    let one : OnlyLooks 2 1028 p0 p = more_looked 2 1028 p0 p0 p c.cell_at.result c.look-cell.result (none_looked 2 1028 p0) (omega arith, omega arith) a.pass a.owns a.away in
    both_done 2 1028 p0 r s
    (both_done 2 1028 p0 q r
    (both_done 2 1028 p0 p q (looks_done 2 1028 p0 p one) (item_done 2 1028 p q (Pick c.saved_at-saved.result c.pick.result) c.pick.ensures.pass c.pick.ensures.kept))
    (item_done 2 1028 q r (Put c.saved_at-saved.result c.from.result) c.put.ensures.pass c.put.ensures.kept))
    (item_done 2 1028 r s (Put c.pixel_at.result c.from-2.result) c.put-2.ensures.pass c.put-2.ensures.kept)

pub returns-clause-log : goal.returns-clause-log
returns-clause-log c =
    let at = c.cell_at.ensures in
    let column = c.requires.column in
    let row = c.requires.row in
    let a = c.look-cell.ensures in
    let p0 : Client = client_in c.args.turn.now in
    let p : Client = client_in c.look-cell.new.self in
    let q : Client = client_in c.pick.new.self in
    let r : Client = client_in c.put.new.self in
    let s : Client = client_in c.put-2.new.self in
    let one : OnlyLooks 2 1028 p0 p = more_looked 2 1028 p0 p0 p c.cell_at.result c.look-cell.result (none_looked 2 1028 p0) (omega arith, omega arith) a.pass a.owns a.away in
    let later : GoesOn 2 1028 p s = both_done 2 1028 p r s
    (both_done 2 1028 p q r (item_done 2 1028 p q (Pick c.saved_at-saved.result c.pick.result) c.pick.ensures.pass c.pick.ensures.kept)
    (item_done 2 1028 q r (Put c.saved_at-saved.result c.from.result) c.put.ensures.pass c.put.ensures.kept))
    (item_done 2 1028 r s (Put c.pixel_at.result c.from-2.result) c.put-2.ensures.pass c.put-2.ensures.kept) in
    let d : Depth = p0.setting.depth in
    let v : ℕ = c.pick.result in
    let new : c.after_at-new.result ≡ ink_after d c.args.ink v = c.after_at-new.ensures.value ∙ ap (ink_after c.args.depth c.args.ink) c.scene_colour-old.ensures ∙ ap (λ e. ink_after e c.args.ink v) c.requires.depth in
    let put : c.from.result ≡ ink_after d c.args.ink v = c.from.ensures ∙ c.value.ensures.value ∙ new in
    let top : c.from-2.result ≡ ink_after d (cell_ink c.look-cell.result) (ink_after d c.args.ink v) = c.from-2.ensures ∙ c.value-2.ensures.value ∙ c.after_at-shown.ensures.value
    ∙ ap (λ i. ink_after c.args.depth i c.after_at-new.result) c.of_cell.ensures ∙ ap (ink_after c.args.depth (cell_ink c.look-cell.result)) new ∙ ap (λ e. ink_after e (cell_ink c.look-cell.result) (ink_after d c.args.ink v)) c.requires.depth in
    let x : ℕ = saved_word c.args.at.0 c.args.at.1 in
    record {
      value = c.look-cell.result;
      cell_found = later.stays _ _ (ap (look_of (looked_in p.mode)) (sym at) ∙ a.found);
      found = v;
      log = three_items p q r s (Pick c.saved_at-saved.result v) (Put c.saved_at-saved.result c.from.result) (Put c.pixel_at.result c.from-2.result) (log_in p0.mode) one.log
          (one_item p q (Pick c.saved_at-saved.result v) c.pick.ensures.pass a.open.1)
          (one_item q r (Put c.saved_at-saved.result c.from.result) c.put.ensures.pass c.pick.ensures.open.1)
          (one_item r s (Put c.pixel_at.result c.from-2.result) c.put-2.ensures.pass c.put.ensures.open.1)
          ∙ ap (λ w. log_in p0.mode ++ Pick w v ∷ Put w c.from.result ∷ Put c.pixel_at.result c.from-2.result ∷ []) c.saved_at-saved.ensures
          ∙ ap (λ w. log_in p0.mode ++ Pick x v ∷ Put x w ∷ Put c.pixel_at.result c.from-2.result ∷ []) put
          ∙ ap (λ w. log_in p0.mode ++ Pick x v ∷ Put x (ink_after d c.args.ink v) ∷ Put w c.from-2.result ∷ []) c.pixel_at.ensures
          ∙ ap (λ w. log_in p0.mode ++ Pick x v ∷ Put x (ink_after d c.args.ink v) ∷ Put (pixel_word c.args.p) w ∷ []) top;
    }
