use Rattle.std.proofs.Common.{rules, ◌≡◌, ◌+◌, ◌<◌, ◌≤◌, [], ◌∷◌, ◌++◌, true, is_ok, if◌then◌else◌, sym, ap, ◌∙◌, subst, arith}
use Rattle.fb_words.specs.Clips.{looked_in}
use Rattle.fb_words.proofs.Going.{more_looked}
use Rattle.display_lock.specs.Turns.{client_in}
use Rattle.region_table.specs.Packing.{unpacked}
use Rattle.clip_refetch.specs.Clips.{AreFetched}
use Rattle.clip_refetch.proofs.Fetching.{more_fetched}
use Rattle.clip_refetch.proofs.clips.fetch.Goals as goal

pub loop-place-preserved : goal.loop-place-preserved
loop-place-preserved c =
    let i = c.loop-place.invariant in
    let e = c.look-word.ensures in
    let test = c.loop-place-test.true in
    let end = c.loop-place.auto.place-end in
    let room = c.requires.room in
    let ok : is_ok c.push.result ≡ true = c.push.ensures.succeeds (omega arith) in
    let items : c.push.new.self.items ≡ c.loop-place.rects.items ++ c.unpack.result ∷ [] = c.push.ensures.items ∙ ap (λ b. if b then c.loop-place.rects.items ++ c.unpack.result ∷ [] else c.loop-place.rects.items) ok in
    let is : c.unpack.result ≡ unpacked c.look-word.result = c.unpack.ensures.rect in
    let grown = more_fetched (looked_in (client_in c.loop-place.turn).mode) (looked_in (client_in c.look-word.new.self).mode) c.args.first c.loop-place.place c.look-word.result c.loop-place.rects.items i.fetched e.stays e.found in
    record {
      same = search rules;
      is_open = e.open;
      sees = e.present;
      looks = more_looked c.args.first (c.args.first + c.args.count) (client_in c.args.turn.now) (client_in c.loop-place.turn) (client_in c.look-word.new.self) (c.args.first + c.loop-place.place) c.look-word.result i.looks (omega arith, omega arith) e.pass e.owns e.away;
      fetched = subst (AreFetched (looked_in (client_in c.look-word.new.self).mode) c.args.first (c.loop-place.place + 1)) (ap (λ r. c.loop-place.rects.items ++ r ∷ []) (sym is) ∙ sym items) grown;
      len = c.push.ensures.len ∙ ap (λ b. if b then Rattle.std.specs.Prelude.vec_len c.loop-place.rects + 1 else Rattle.std.specs.Prelude.vec_len c.loop-place.rects) ok ∙ ap (λ n. n + 1) i.len;
      capacity = let a = c.push.ensures.capacity in let b = i.capacity in omega arith;
    }
