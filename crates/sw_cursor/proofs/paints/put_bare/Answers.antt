use Rattle.turn_logs.specs.declared.items.Item.TheVariants.{Pick, Put}
use Rattle.fb_words.specs.declared.known.Client.{Client}
use Rattle.fb_words.proofs.Going.{item_done, both_done}
use Rattle.display_lock.specs.Turns.{client_in}
use Rattle.sw_cursor.proofs.paints.put_bare.Goals as goal

pub returns-clause-goes : goal.returns-clause-goes
returns-clause-goes c =
    let p : Client = client_in c.args.turn.now in
    let q : Client = client_in c.pick.new.self in
    let r : Client = client_in c.put.new.self in
    both_done 2 1028 p q r (item_done 2 1028 p q (Pick c.pixel_at-word.result c.pick.result) c.pick.ensures.pass c.pick.ensures.kept) (item_done 2 1028 q r (Put c.pixel_at-word.result c.from.result) c.put.ensures.pass c.put.ensures.kept)
