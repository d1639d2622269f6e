use Rattle.std.proofs.Common.{◌≡◌, ℕ, ◌+◌, ◌<◌, ◌≤◌, ap, ◌∙◌, arith}
use Rattle.region_table.specs.Numbers.{row_word}
use Rattle.fb_words.specs.declared.known.Client.{Client}
use Rattle.fb_words.specs.Clips.{look_of, looked_in}
use Rattle.fb_words.proofs.Going.{none_looked, more_looked, wider_looks, both_looked}
use Rattle.display_lock.specs.Turns.{client_in}
use Rattle.clip_refetch.specs.Clips.{ClipView}
use Rattle.clip_refetch.proofs.Refreshing.{fetched_fresh, origin_placed}
use Rattle.clip_refetch.proofs.clips.Clip.fetch_row.Goals as goal

pub fetch-requires-clause-words : goal.fetch-requires-clause-words
fetch-requires-clause-words c =
    let row = c.row_at-row.ensures in
    let low = c.self.invariant.0 in
    let few = c.look-count.ensures.count c.self.inside.slot low (ap (λ x. x + 3) row) in
    (omega arith, omega arith)

pub fetch-requires-clause-room : goal.fetch-requires-clause-room
fetch-requires-clause-room c =
    let row = c.row_at-row.ensures in
    let few = c.look-count.ensures.count c.self.inside.slot c.self.invariant.0 (ap (λ x. x + 3) row) in
    let room = c.self.invariant.1 in
    omega arith

pub origin_of-self-inside-requires : goal.origin_of-self-inside-requires
origin_of-self-inside-requires c = origin_placed (client_in c.look-origin.new.self) c.self.inside.slot (c.row_at-row.result + 2) c.look-origin.result c.look-origin.ensures.present c.self.invariant.0 (ap (λ x. x + 2) c.row_at-row.ensures) c.look-origin.ensures.found

pub returns-clause-looks : goal.returns-clause-looks
returns-clause-looks c =
    let slot : ℕ = c.args.self.now.slot in
    let row : c.row_at-row.result ≡ row_word slot = c.row_at-row.ensures ∙ ap row_word (ap (λ (x : ClipView). x.slot) c.self.view_is) in
    let few = c.look-count.ensures.count c.self.inside.slot c.self.invariant.0 (ap (λ x. x + 3) c.row_at-row.ensures) in
    let a = c.look-origin.ensures in
    let b = c.look-count.ensures in
    let p : Client = client_in c.args.turn.now in
    let one = more_looked (row_word slot) (row_word slot + 260) p p (client_in c.look-origin.new.self) (c.row_at-row.result + 2) c.look-origin.result (none_looked (row_word slot) (row_word slot + 260) p) (omega arith, omega arith) a.pass a.owns a.away in
    let two = more_looked (row_word slot) (row_word slot + 260) p (client_in c.look-origin.new.self) (client_in c.look-count.new.self) (c.row_at-row.result + 3) c.look-count.result one (omega arith, omega arith) b.pass b.owns b.away in
    both_looked (row_word slot) (row_word slot + 260) p (client_in c.look-count.new.self) (client_in c.fetch.new.turn) two
    (wider_looks (c.row_at-row.result + 4) (c.row_at-row.result + 4 + c.look-count.result) (row_word slot) (row_word slot + 260) _ _ (omega arith) (omega arith) c.fetch.ensures.looks)

pub returns-clause-fresh : goal.returns-clause-fresh
returns-clause-fresh c =
    let inner : c.self.inside.slot ≡ c.args.self.now.slot = ap (λ (x : ClipView). x.slot) c.self.view_is in
    let a = c.look-origin.ensures in
    let b = c.look-count.ensures in
    let d = c.fetch.ensures.looks in
    let owner = d.stays _ _ (b.stays _ _ (a.stays _ _ (ap (λ s. look_of (looked_in (client_in c.args.turn.now).mode) (row_word s)) inner ∙ c.requires.owner))) in
    let revision = d.stays _ _ (b.stays _ _ (a.stays _ _ (ap (λ s. look_of (looked_in (client_in c.args.turn.now).mode) (row_word s + 1)) inner ∙ c.requires.revision))) in
    let origin = d.stays _ _ (b.stays _ _ a.found) in
    let count = d.stays _ _ b.found in
    let same : (client_in c.fetch.new.turn).number ≡ (client_in c.args.turn.now).number = ap (λ (x : Client). x.number) d.rest ∙ ap (λ (x : Client). x.number) b.pass ∙ ap (λ (x : Client). x.number) a.pass in
    fetched_fresh (client_in c.args.turn.now).number (client_in c.fetch.new.turn) c.self.inside.slot c.args.revision c.look-origin.result c.look-count.result c.fetch.new.turn.stamp c.row_at-row.result c.origin_of-self-inside.result c.fetch.new.rects.items
    c.self.invariant.0 c.row_at-row.ensures same c.fetch.ensures.open.2 owner revision origin count c.fetch.ensures.fetched c.origin_of-self-inside.ensures
