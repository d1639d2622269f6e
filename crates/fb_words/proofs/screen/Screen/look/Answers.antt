use Rattle.std.proofs.Common.{◌≡◌, ℕ, ◌+◌, Some, sym, ap, ◌∙◌, subst, arith}
use Rattle.atomic_table.specs.Table.{Me}
use Rattle.fb_words.specs.declared.known.View.{View}
use Rattle.fb_words.specs.Clips.{IsOutsideRow, slot_in, kept, Sees, look_of, looked_in}
use Rattle.fb_words.specs.Steps.{after_look}
use Rattle.fb_words.specs.Views.{PassView, reading, only}
use Rattle.region_table.proofs.Words.{table_below}
use Rattle.fb_words.proofs.Looking.{looks, same_value, stamp_seen, count_seen, revision_seen}
use Rattle.fb_words.proofs.Keeping.{looks_keep}
use Rattle.fb_words.proofs.Found.{look_found, revision_from_one}
use Rattle.fb_words.proofs.Owned.{looked_stays, kept_stays, owns_look, kept_else}
use Rattle.fb_words.specs.Rights.{Owns}
use Rattle.region_table.specs.Numbers.{row_word}
use Rattle.fb_words.specs.declared.known.KeptClip.{KeptClip}
use Rattle.fb_words.specs.declared.known.Client.{Client}
use Rattle.fb_words.proofs.screen.Screen.look.Goals as goal

pub load-requires : goal.load-requires
load-requires c = (
  ap (λ h. h.screen.table) c.pass.view_is ∙ ap (λ s. s.table) (c.requires.screen ∙ sym c.self.view_is),
  (let w = c.self.invariant.1 in let t = table_below c.args.word c.requires.table in omega arith),
  looks _ _ _ _ _ c.pass.invariant.0 (ap (λ h. reading h.client) c.pass.view_is ∙ c.requires.reading) c.requires.table,
)

pub returns-clause-same : goal.returns-clause-same
returns-clause-same c = let P : PassView → Type 0 = λ h. Sees (after_look h.client c.args.word c.load.result) in
    same_value _ c.args.word c.load.result c.requires.reading (subst P c.pass.view_is c.load.ensures.2.1)

pub returns-clause-stamp : goal.returns-clause-stamp
returns-clause-stamp c = let P : PassView → Type 0 = λ h. Sees (after_look h.client c.args.word c.load.result) in
    stamp_seen _ c.args.word c.load.result c.requires.reading (subst P c.pass.view_is c.load.ensures.2.1)

pub returns-clause-revision : goal.returns-clause-revision
returns-clause-revision c = let P : PassView → Type 0 = λ h. Sees (after_look h.client c.args.word c.load.result) in
    revision_seen _ c.args.word c.load.result c.requires.reading (subst P c.pass.view_is c.load.ensures.2.1)

pub returns-clause-count : goal.returns-clause-count
returns-clause-count c = let P : PassView → Type 0 = λ h. Sees (after_look h.client c.args.word c.load.result) in
    count_seen _ c.args.word c.load.result c.requires.reading (subst P c.pass.view_is c.load.ensures.2.1)

pub returns-clause-kept : goal.returns-clause-kept
returns-clause-kept c = let Q : Me (Unit {0}) View → Type 0 = λ m. (slot : ℕ) → (slot_in (only m.0.clients).mode ≡ Some slot → ⊥) → kept (only m.0.clients) slot ≡ kept c.args.pass.now.client slot in
    subst Q (sym c.load.ensures.2.0) (λ slot away. looks_keep (only c.pass.inside.seat.me.0.clients) c.args.word c.load.result slot away ∙ ap (λ h. kept h.client slot) c.pass.view_is)

pub returns-clause-current : goal.returns-clause-current
returns-clause-current c = let S : Client → Type 0 = λ q. (slot : ℕ) (clip : KeptClip) → slot_in q.mode ≡ Some slot → kept c.args.pass.now.client slot ≡ Some clip → look_of (looked_in q.mode) (row_word slot + 1) ≡ Some clip.revision → kept q slot ≡ Some clip in
    let P : PassView → Type 0 = λ h. Sees (after_look h.client c.args.word c.load.result) in
    let Q : Me (Unit {0}) View → Type 0 = λ m. S (only m.0.clients) in
    subst Q (sym c.load.ensures.2.0) (subst (λ (h : PassView). S (after_look h.client c.args.word c.load.result)) (sym c.pass.view_is)
    (λ slot clip at is now. kept_stays c.args.pass.now.client c.args.word c.load.result slot clip (subst P c.pass.view_is c.load.ensures.2.1) at is now))

pub returns-clause-owns : goal.returns-clause-owns
returns-clause-owns c = let S : Client → Type 0 = λ q. (x : ℕ) → Owns c.args.pass.now.client x → Owns q x in
    let P : PassView → Type 0 = λ h. Sees (after_look h.client c.args.word c.load.result) in
    let Q : Me (Unit {0}) View → Type 0 = λ m. S (only m.0.clients) in
    subst Q (sym c.load.ensures.2.0) (subst (λ (h : PassView). S (after_look h.client c.args.word c.load.result)) (sym c.pass.view_is)
    (λ x owns. owns_look c.args.pass.now.client c.args.word c.load.result (subst P c.pass.view_is c.load.ensures.2.1) x owns))

pub returns-clause-found : goal.returns-clause-found
returns-clause-found c = let P : PassView → Type 0 = λ h. Sees (after_look h.client c.args.word c.load.result) in
    let Q : Me (Unit {0}) View → Type 0 = λ m. look_of (looked_in (only m.0.clients).mode) c.args.word ≡ Some c.load.result in
    subst Q (sym c.load.ensures.2.0) (subst (λ (h : PassView). look_of (looked_in (after_look h.client c.args.word c.load.result).mode) c.args.word ≡ Some c.load.result) (sym c.pass.view_is)
    (look_found _ c.args.word c.load.result c.requires.reading (subst P c.pass.view_is c.load.ensures.2.1)))

pub returns-clause-from_one : goal.returns-clause-from_one
returns-clause-from_one c = let P : PassView → Type 0 = λ h. Sees (after_look h.client c.args.word c.load.result) in
    revision_from_one _ c.args.word c.load.result c.requires.reading (subst P c.pass.view_is c.load.ensures.2.1)

pub returns-clause-stays : goal.returns-clause-stays
returns-clause-stays c = let Q : Me (Unit {0}) View → Type 0 = λ m. (other value : ℕ) → look_of (looked_in c.args.pass.now.client.mode) other ≡ Some value → look_of (looked_in (only m.0.clients).mode) other ≡ Some value in
    subst Q (sym c.load.ensures.2.0) (subst (λ (h : PassView). (other value : ℕ) → look_of (looked_in c.args.pass.now.client.mode) other ≡ Some value → look_of (looked_in (after_look h.client c.args.word c.load.result).mode) other ≡ Some value) (sym c.pass.view_is)
    (λ other value is. looked_stays c.args.pass.now.client.mode c.args.word c.load.result other value is))

pub returns-clause-away : goal.returns-clause-away
returns-clause-away c = let S : Client → Type 0 = λ q. (slot : ℕ) → IsOutsideRow slot c.args.word → kept q slot ≡ kept c.args.pass.now.client slot in
    let P : PassView → Type 0 = λ h. Sees (after_look h.client c.args.word c.load.result) in
    let Q : Me (Unit {0}) View → Type 0 = λ m. S (only m.0.clients) in
    subst Q (sym c.load.ensures.2.0) (subst (λ (h : PassView). S (after_look h.client c.args.word c.load.result)) (sym c.pass.view_is)
    (λ slot out. kept_else c.args.pass.now.client c.args.word c.load.result (subst P c.pass.view_is c.load.ensures.2.1) slot out))
