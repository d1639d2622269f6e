use Rattle.std.proofs.Common.{◌≡◌, ℕ, ◌+◌, ◌≤◌, Some, sym, refl, ap, ◌∙◌, arith}
use Rattle.region_table.specs.Numbers.{row_word}
use Rattle.fb_words.specs.declared.known.Client.{Client}
use Rattle.fb_words.specs.Clips.{look_of, looked_in}
use Rattle.fb_words.specs.Steps.{after_look}
use Rattle.fb_words.proofs.Going.{none_looked, more_looked, both_looked}
use Rattle.display_lock.specs.Turns.{client_in}
use Rattle.clip_refetch.specs.Clips.{ClipView}
use Rattle.clip_refetch.proofs.Refreshing.{current_fresh, gone_kept, known_stays, outside_row}
use Rattle.clip_refetch.proofs.clips.Clip.refresh.Goals as goal

pub returns-then-now-self-clause-looks : goal.returns-then-now-self-clause-looks
returns-then-now-self-clause-looks c =
    let slot : ℕ = c.args.self.now.slot in
    let row : c.row_at-row.result ≡ row_word slot = c.row_at-row.ensures ∙ ap row_word (ap (λ (x : ClipView). x.slot) c.self.view_is) in
    let p : Client = client_in c.args.turn.now in
    let a = c.look-now.ensures in
    more_looked (row_word slot) (row_word slot + 260) p p (client_in c.look-now.new.self) (c.row_at-row.result + 1) c.look-now.result (none_looked (row_word slot) (row_word slot + 260) p) (omega arith, omega arith) a.pass a.owns a.away

pub returns-then-now-self-clause-answer : goal.returns-then-now-self-clause-answer
returns-then-now-self-clause-answer c =
    let slot : ℕ = c.args.self.now.slot in
    let row : c.row_at-row.result ≡ row_word slot = c.row_at-row.ensures ∙ ap row_word (ap (λ (x : ClipView). x.slot) c.self.view_is) in
    let p : Client = client_in c.args.turn.now in
    let q : Client = client_in c.look-now.new.self in
    let a = c.look-now.ensures in
    let same : c.look-now.result ≡ c.args.self.now.revision = c.if-now-self.true ∙ ap (λ (x : ClipView). x.revision) c.self.view_is in
    let one : 1 ≤ c.look-now.result = a.from_one c.self.inside.slot c.self.invariant.0 (ap (λ x. x + 1) c.row_at-row.ensures) in
    let fresh = current_fresh p q c.args.self.now c.look-now.new.self.stamp c.look-now.result (c.row_at-row.result + 1) (ap (λ x. x + 1) row) same one c.requires.known a.open.2 a.found a.current a.kept in
    (a.pass ∙ ap (λ w. after_look p (w + 1) c.look-now.result) row ∙ ap (after_look p (row_word slot + 1)) same, refl, fresh.0, fresh.1)

pub returns-then-owner_word-from-clause-looks : goal.returns-then-owner_word-from-clause-looks
returns-then-owner_word-from-clause-looks c =
    let slot : ℕ = c.args.self.now.slot in
    let row : c.row_at-row.result ≡ row_word slot = c.row_at-row.ensures ∙ ap row_word (ap (λ (x : ClipView). x.slot) c.self.view_is) in
    let p : Client = client_in c.args.turn.now in
    let a = c.look-now.ensures in
    let b = c.look-owner_word.ensures in
    let one = more_looked (row_word slot) (row_word slot + 260) p p (client_in c.look-now.new.self) (c.row_at-row.result + 1) c.look-now.result (none_looked (row_word slot) (row_word slot + 260) p) (omega arith, omega arith) a.pass a.owns a.away in
    more_looked (row_word slot) (row_word slot + 260) p (client_in c.look-now.new.self) (client_in c.look-owner_word.new.self) c.row_at-row.result c.look-owner_word.result one (omega arith, omega arith) b.pass b.owns b.away

pub returns-then-owner_word-from-clause-answer : goal.returns-then-owner_word-from-clause-answer
returns-then-owner_word-from-clause-answer c =
    let slot : ℕ = c.args.self.now.slot in
    let row : c.row_at-row.result ≡ row_word slot = c.row_at-row.ensures ∙ ap row_word (ap (λ (x : ClipView). x.slot) c.self.view_is) in
    let p : Client = client_in c.args.turn.now in
    let q : Client = client_in c.look-owner_word.new.self in
    let a = c.look-now.ensures in
    let b = c.look-owner_word.ensures in
    let one = more_looked (row_word slot) (row_word slot + 260) p p (client_in c.look-now.new.self) (c.row_at-row.result + 1) c.look-now.result (none_looked (row_word slot) (row_word slot + 260) p) (omega arith, omega arith) a.pass a.owns a.away in
    let two = more_looked (row_word slot) (row_word slot + 260) p (client_in c.look-now.new.self) q c.row_at-row.result c.look-owner_word.result one (omega arith, omega arith) b.pass b.owns b.away in
    let number : c.client.result ≡ p.number = c.client.ensures ∙ ap (λ (x : Client). x.number) two.rest in
    let owner : look_of (looked_in q.mode) (row_word slot) ≡ Some c.look-owner_word.result = ap (look_of (looked_in q.mode)) (sym row) ∙ b.found in
    let another : c.look-owner_word.result ≡ p.number + 1 → ⊥ = (λ e. c.if-owner_word-from.true (e ∙ sym (ap (λ n. n + 1) (c.from.ensures ∙ number)))) in (
      record {
        revision = c.look-now.result;
        looked = ap (λ w. look_of (looked_in q.mode) (w + 1)) (sym row) ∙ b.stays _ _ a.found;
        differs = λ e. c.if-now-self.false (e ∙ sym (ap (λ (x : ClipView). x.revision) c.self.view_is));
        owner = owner;
        another = another;
      },
      refl,
      known_stays p q c.args.self.now (gone_kept (row_word slot) (row_word slot + 260) p q slot c.look-owner_word.result two owner another) c.requires.known,
    )

pub returns-clause-looks : goal.returns-clause-looks
returns-clause-looks c =
    let slot : ℕ = c.args.self.now.slot in
    let row : c.row_at-row.result ≡ row_word slot = c.row_at-row.ensures ∙ ap row_word (ap (λ (x : ClipView). x.slot) c.self.view_is) in
    let p : Client = client_in c.args.turn.now in
    let a = c.look-now.ensures in
    let b = c.look-owner_word.ensures in
    let one = more_looked (row_word slot) (row_word slot + 260) p p (client_in c.look-now.new.self) (c.row_at-row.result + 1) c.look-now.result (none_looked (row_word slot) (row_word slot + 260) p) (omega arith, omega arith) a.pass a.owns a.away in
    let two = more_looked (row_word slot) (row_word slot + 260) p (client_in c.look-now.new.self) (client_in c.look-owner_word.new.self) c.row_at-row.result c.look-owner_word.result one (omega arith, omega arith) b.pass b.owns b.away in
    both_looked (row_word slot) (row_word slot + 260) p (client_in c.look-owner_word.new.self) (client_in c.fetch_row.new.turn) two c.fetch_row.ensures.looks

pub returns-clause-others : goal.returns-clause-others
returns-clause-others c =
    let slot : ℕ = c.args.self.now.slot in
    let row : c.row_at-row.result ≡ row_word slot = c.row_at-row.ensures ∙ ap row_word (ap (λ (x : ClipView). x.slot) c.self.view_is) in
    let p : Client = client_in c.args.turn.now in
    let a = c.look-now.ensures in
    let b = c.look-owner_word.ensures in
    let one = more_looked (row_word slot) (row_word slot + 260) p p (client_in c.look-now.new.self) (c.row_at-row.result + 1) c.look-now.result (none_looked (row_word slot) (row_word slot + 260) p) (omega arith, omega arith) a.pass a.owns a.away in
    let two = more_looked (row_word slot) (row_word slot + 260) p (client_in c.look-now.new.self) (client_in c.look-owner_word.new.self) c.row_at-row.result c.look-owner_word.result one (omega arith, omega arith) b.pass b.owns b.away in
    let all = both_looked (row_word slot) (row_word slot + 260) p (client_in c.look-owner_word.new.self) (client_in c.fetch_row.new.turn) two c.fetch_row.ensures.looks in
    λ s ne. all.kept_is s (outside_row s slot ne)
