-- What a paint turn leaves at its end.
use Rattle.std.proofs.Common.{◌≡◌, ◌≢◌, ℕ, zero, suc, ◌+◌, ◌-◌, ◌<◌, ◌≤◌, ◌==◌, ◌⊎◌, ⊎_elim, inl, inr, eq-eqb, ne_eqb, if◌then◌else◌, Bool, true, false, not, List, [], ◌∷◌, ◌++◌, length, sym, refl, ap, ◌∙◌, subst, arith, Option, Some, None}
use Rattle.std.specs.Prelude.{slice_index, slice_index_or, All}
use Rattle.std.specs.List.{filter}
use Rattle.qws_base.specs.Points.{holds, any_holds, point_of, pixel_count}
use Rattle.qws_base.specs.Scenes.{Setting, has_ink, inked}
use Rattle.qws_base.specs.Sheets.{Sheet}
use Rattle.qws_base.specs.declared.journals.BookEntry.{BookEntry}
use Rattle.qws_base.specs.declared.points.Point.{Point}
use Rattle.qws_base.specs.declared.points.Rect.{Rect}
use Rattle.qws_base.specs.declared.replies.PaintReply.{PaintReply}
use Rattle.qws_base.specs.declared.replies.PaintReply.TheVariants.{Painted, Gone}
use Rattle.region_table.specs.Layouts.{layout_of_table, is_owner}
use Rattle.region_table.specs.Numbers.{row_word, pixel_word}
use Rattle.region_table.specs.Tables.{row_of, owner_from}
use Rattle.region_table.specs.declared.tables.Row.{Row}
use Rattle.region_table.proofs.Reading.{row_of_from}
use Rattle.turn_logs.specs.Carries.{CarriesPaintUnder, RepliesUnder}
use Rattle.turn_logs.specs.Tables.{table_of}
use Rattle.turn_logs.proofs.Standing.{gone_carried}
use Rattle.turn_logs.proofs.Options.{none_some}
use Rattle.fb_words.specs.declared.known.Client.{Client}
use Rattle.fb_words.specs.Clips.{look_of, looked_in, log_in, slot_in, stamp_in, KeepsClips}
use Rattle.fb_words.specs.Looks.{OnlyLooks, GoesOn}
use Rattle.fb_words.specs.Steps.{after_look, after_leave, paint_call, CarriesAtEnd}
use Rattle.fb_words.specs.Views.{PassView, ScreenView}
use Rattle.fb_words.proofs.Looks.{look_last, found_at}
use Rattle.fb_words.proofs.Rows.{look_true}
use Rattle.display_lock.specs.Turns.{let_in}
use Rattle.clip_refetch.specs.Clips.{ClipView, IsStored, IsKnown, IsFresh, IsGone, OwnsPixels, FreshLaw, LooksAtRow}
use Rattle.shared_painter.specs.declared.painters.Done.{Done}
use Rattle.shared_painter.specs.declared.painters.Painted.{Painted as PaintedAnswer}
use Rattle.shared_painter.specs.Answers.{entry_of, Closes, LooksAtRevision, PaintsInTurn, FindsGone, HasPainted, HasGone, KeepsOthers, IsBack}
use Rattle.shared_painter.specs.Carried.{CarriedLaw}
use Rattle.shared_painter.specs.Painted.{PaintsPixels, OwnsRect, cut_pixels}

-- ---- a gone turn

not_client : (w n : ℕ) → (w ≡ n + 1 → ⊥) → is_owner n (owner_from w) ≡ false
not_client zero n ne = refl
not_client (suc k) n ne = ap (λ b. is_owner n (if b then None else Some (suc k - 1))) (ne_eqb (suc k) 0 (λ e. omega arith)) ∙ ne_eqb (suc k - 1) n (λ e. ne (omega arith))

pub gone_carries : (p : Client) (slot : ℕ) (e : BookEntry) (sheet : Sheet) (owner_word : ℕ) → slot < 33 → look_of (looked_in p.mode) (row_word slot) ≡ Some owner_word → (owner_word ≡ p.number + 1 → ⊥) → log_in p.mode ≡ [] → e.slot ≡ slot → e.reply ≡ Gone → CarriesAtEnd p e sheet
gone_carries p slot e sheet owner_word low owner another empty at reply v =
    subst (λ s. CarriesPaintUnder p.setting (table_of v.table) s sheet e.reply (log_in p.mode) × RepliesUnder p.setting (table_of v.table) p.number s sheet e.reply) (sym at)
    (subst (λ (r : PaintReply). CarriesPaintUnder p.setting (table_of v.table) slot sheet r (log_in p.mode) × RepliesUnder p.setting (table_of v.table) p.number slot sheet r) (sym reply) (carried, replied))
  where
    carried : CarriesPaintUnder p.setting (table_of v.table) slot sheet Gone (log_in p.mode)
    carried = subst (λ l. CarriesPaintUnder p.setting (table_of v.table) slot sheet Gone l) (sym empty) (gone_carried p.setting _ _ _ sheet Gone refl)

    own : is_owner p.number (row_of (table_of v.table) slot).owner ≡ false
    own = ap (λ (r : Row). is_owner p.number r.owner) (row_of_from (slice_index v.table) slot low)
        ∙ ap (λ w. is_owner p.number (owner_from w)) (look_true v.table (looked_in p.mode) (row_word slot) owner_word v.looks owner).1
        ∙ not_client owner_word p.number another

    replied : RepliesUnder p.setting (table_of v.table) p.number slot sheet Gone
    replied = sym (ap (λ b. if b then Painted (length (inked p.setting.size (layout_of_table p.setting.size (table_of v.table)) slot sheet)) else Gone) own)

-- ---- a clip's rectangles

one_has : (rects : List Rect) (k : ℕ) (d : Rect) (p : Point) → k < length rects → holds (slice_index_or rects k d) p ≡ true → any_holds rects p ≡ true
one_has [] k d p low has = absurd (omega arith)
one_has (x ∷ rects) zero d p low has = ap (λ b. Rattle.std.proofs.Common.◌||◌ b (any_holds rects p)) has
one_has (x ∷ rects) (suc k) d p low has = go (holds x p) (one_has rects k d p (omega arith) has)
  where
    go : (b : Bool) → any_holds rects p ≡ true → Rattle.std.proofs.Common.◌||◌ b (any_holds rects p) ≡ true
    go true r = refl
    go false r = r

pub rects_owned : (p q : Client) (clip : ClipView) (rects : List Rect) → OnlyLooks 2 1028 p q → OwnsPixels p clip → rects ≡ clip.rects → All (OwnsRect q) rects
rects_owned p q clip rects looks owns are k d low x within has =
    let same : q.setting ≡ p.setting = ap (λ (c : Client). c.setting) looks.rest in
    looks.owns (pixel_word x) (owns x (subst (λ (s : Setting). x < pixel_count s.size) same within)
    (subst (λ l. any_holds l (point_of p.setting.size.w x) ≡ true) are (one_has rects k d (point_of p.setting.size.w x) low (subst (λ (s : Setting). holds (slice_index_or rects k d) (point_of s.size.w x) ≡ true) same has))))

-- ---- a painted clip

pub still_kept : (p q : Client) (clip : ClipView) → GoesOn 2 1028 p q → IsStored p clip → IsStored q clip
still_kept p q clip goes k = record { row = k.row; is_kept = goes.kept_is clip.slot (inl (omega arith)) ∙ k.is_kept; same = k.same }

pub kept_by : (p q : Client) (clip : ClipView) → KeepsClips p q → IsStored p clip → IsStored q clip
kept_by p q clip keeps k = record { row = k.row; is_kept = keeps clip.slot ∙ k.is_kept; same = k.same }

pub still_fresh : FreshLaw → (p q : Client) (clip : ClipView) (stamp : ℕ) → GoesOn 2 1028 p q → IsStored p clip → IsFresh p clip → stamp_in q.mode ≡ Some stamp → IsFresh q clip
still_fresh law p q clip stamp goes k fresh stamped = law q clip stamp stamped (still_kept p q clip goes k) (goes.stays _ _ fresh.revision)

pub whole_carried : CarriedLaw → FreshLaw → (p q : Client) (clip : ClipView) (sheet : Sheet) (e : BookEntry) (count stamp : ℕ) → log_in p.mode ≡ [] → GoesOn 2 1028 p q → IsStored p clip → IsFresh p clip → stamp_in q.mode ≡ Some stamp
    → PaintsPixels clip.origin sheet (cut_pixels p.setting.size.w clip.origin sheet.reach clip.rects) p q
    → count ≡ length (filter (has_ink p.setting.size.w clip.origin sheet) (cut_pixels p.setting.size.w clip.origin sheet.reach clip.rects))
    → e.slot ≡ clip.slot → e.reply ≡ Painted count → CarriesAtEnd q e sheet
whole_carried carried fresh_law p q clip sheet e count stamp empty goes k fresh stamped paints counted slot reply =
    let same : q.setting ≡ p.setting = ap (λ (c : Client). c.setting) goes.rest in
    carried p q clip sheet e count empty same (still_fresh fresh_law p q clip stamp goes k fresh stamped)
    (subst (λ (s : Setting). PaintsPixels clip.origin sheet (cut_pixels s.size.w clip.origin sheet.reach clip.rects) p q) (sym same) paints)
    (subst (λ (s : Setting). count ≡ length (filter (has_ink s.size.w clip.origin sheet) (cut_pixels s.size.w clip.origin sheet.reach clip.rects))) (sym same) counted)
    slot reply

-- the pass of the turn's end is that of its begin but for the client
pub same_pass : (p q after : PassView) (c : Client) → q.screen ≡ p.screen → q.book_limit ≡ p.book_limit → after ≡ record q { client = c } → after ≡ record p { client = c }
same_pass p q after c screen limit is =
    is ∙ ap (λ (s : ScreenView). let r : PassView = record { screen = s; client = c; book_limit = q.book_limit } in r) screen
    ∙ ap (λ n. let r : PassView = record { screen = p.screen; client = c; book_limit = n } in r) limit

-- ---- the answers

stamp_alone : (stamp x v : ℕ) → look_of (record { word = 1; value = stamp } ∷ []) x ≡ Some v → x ≡ 1
stamp_alone stamp x v e = ⊎_elim (λ (n : (let o : Option ℕ = None in o) ≡ Some v). none_some v n) (λ (is : x ≡ 1). is) (look_last [] record { word = 1; value = stamp } x v e)

few_looks : (p q turn : Client) (slot stamp n : ℕ) → looked_in p.mode ≡ record { word = 1; value = stamp } ∷ [] → q ≡ after_look p (row_word slot + 1) n → GoesOn 2 1028 q turn → LooksAtRevision turn slot
few_looks p q turn slot stamp n first is goes x v e = ⊎_elim
    (λ (a : look_of (looked_in q.mode) x ≡ Some v). ⊎_elim
    (λ (b : look_of (looked_in p.mode) x ≡ Some v). inl (stamp_alone stamp x v (ap (λ l. look_of l x) (sym first) ∙ b)))
    (λ (b : x ≡ row_word slot + 1). inr (inl b))
    (found_at p.mode (row_word slot + 1) n x v (ap (λ (c : Client). look_of (looked_in c.mode) x) (sym is) ∙ a)))
    (λ (within : (2 ≤ x) × (x < 1028)). inr (inr within))
    (goes.only x v e)

rest_of : (p q r : Client) → q ≡ record p { mode = q.mode } → r ≡ record q { mode = r.mode } → r ≡ record p { mode = r.mode }
rest_of p q r a b = b ∙ ap (λ (x : Client). record x { mode = r.mode }) a

pub current_looks : (p q turn : Client) (clip : ClipView) (stamp n : ℕ) → looked_in p.mode ≡ record { word = 1; value = stamp } ∷ [] → q ≡ after_look p (row_word clip.slot + 1) n → GoesOn 2 1028 q turn → LooksAtRevision turn clip.slot
current_looks p q turn clip stamp n first is goes = few_looks p q turn clip.slot stamp n first is goes

pub current_unfetched : (clip clip' : ClipView) → clip' ≡ clip → false ≡ not (clip'.revision == clip.revision)
current_unfetched clip clip' same = sym (ap not (eq-eqb clip'.revision clip.revision (ap (λ (c : ClipView). c.revision) same)))

pub fetched_anew : (clip clip' : ClipView) (was now : ℕ) → was ≡ clip.revision → now ≡ clip'.revision → (now ≡ was → ⊥) → true ≡ not (clip'.revision == clip.revision)
fetched_anew clip clip' was now a b ne = sym (ap not (ne_eqb clip'.revision clip.revision (λ e. ne (b ∙ e ∙ sym a))))

-- a client that has painted on a fresh clip
pub paints_in_turn : CarriedLaw → FreshLaw → (p q r : Client) (clip clip' : ClipView) (sheet : Sheet) (pixels stamp : ℕ) (fetched : Bool) → log_in p.mode ≡ [] → LooksAtRow clip.slot p q → slot_in q.mode ≡ Some clip.slot → clip'.slot ≡ clip.slot
    → IsFresh q clip' → IsStored q clip' → GoesOn 2 1028 q r → stamp_in r.mode ≡ Some stamp
    → PaintsPixels clip'.origin sheet (cut_pixels q.setting.size.w clip'.origin sheet.reach clip'.rects) q r
    → pixels ≡ length (filter (has_ink q.setting.size.w clip'.origin sheet) (cut_pixels q.setting.size.w clip'.origin sheet.reach clip'.rects))
    → fetched ≡ not (clip'.revision == clip.revision) → (fetched ≡ false → (clip' ≡ clip) × LooksAtRevision r clip.slot)
    → PaintsInTurn p r clip clip' sheet (record { pixels = pixels; fetched = fetched })
paints_in_turn carried fresh_law p q r clip clip' sheet pixels stamp fetched empty looks turn_slot slot fresh k goes stamped paints counted is few = record {
  rest = rest_of p q r looks.rest goes.rest;
  turn_slot = goes.slot clip.slot turn_slot;
  carries = λ e at reply. whole_carried carried fresh_law q r clip' sheet e pixels stamp (looks.log ∙ empty) goes k fresh stamped paints counted (at ∙ sym slot) reply;
  fresh = still_fresh fresh_law q r clip' stamp goes k fresh stamped;
  is_kept = still_kept q r clip' goes k;
  slot = slot;
  fetched = is;
  looks = few;
}

pub painted_others : (p q r : Client) (slot : ℕ) → KeepsOthers slot p q → GoesOn 2 1028 q r → KeepsOthers slot p r
painted_others p q r slot before goes other ne = goes.kept_is other (inl (omega arith)) ∙ before other ne

pub finds_gone : (p q : Client) (clip clip' : ClipView) (sheet : Sheet) (owner_word : ℕ) → clip.slot < 33 → log_in p.mode ≡ [] → LooksAtRow clip.slot p q → IsGone p q clip owner_word → clip' ≡ clip → IsKnown q clip' → FindsGone p q clip clip' sheet
finds_gone p q clip clip' sheet owner_word low empty looks gone same known = record {
  rest = looks.rest;
  carries = λ e at reply. gone_carries q clip.slot e sheet owner_word low gone.owner (λ is. gone.another (is ∙ ap (λ (c : Client). c.number + 1) looks.rest)) (looks.log ∙ empty) at reply;
  empty = looks.log ∙ empty;
  owner_word = owner_word;
  gone = gone;
  clip_is = same;
  known = subst (IsKnown q) same known;
}

-- ---- the closed turn

entry_same : (stamp given slot at tag : ℕ) (reply : PaintReply) → given ≡ stamp → at ≡ slot → (let e : BookEntry = record { stamp = given; slot = at; tag = tag; reply = reply } in e) ≡ (let e : BookEntry = record { stamp = stamp; slot = slot; tag = tag; reply = reply } in e)
entry_same stamp given slot at tag reply a b = ap (λ n. let e : BookEntry = record { stamp = n; slot = at; tag = tag; reply = reply } in e) a ∙ ap (λ n. let e : BookEntry = record { stamp = stamp; slot = n; tag = tag; reply = reply } in e) b

closed : (p0 q0 after : PassView) (clip : ClipView) (sheet : Sheet) (tag stamp : ℕ) (reply : PaintReply) (e : BookEntry) → q0.screen ≡ p0.screen → q0.book_limit ≡ p0.book_limit → p0.client.seen ≤ stamp → q0.client ≡ record p0.client { mode = q0.client.mode } → stamp_in q0.client.mode ≡ Some stamp
    → ((x : BookEntry) → x.slot ≡ clip.slot → x.reply ≡ reply → CarriesAtEnd q0.client x sheet) → e ≡ entry_of stamp clip tag reply → after ≡ record q0 { client = after_leave q0.client (paint_call q0.client e sheet) }
    → Closes p0 after q0.client (entry_of stamp clip tag reply) sheet
closed p0 q0 after clip sheet tag stamp reply e screen limit seen rest stamped carries same pass = record {
  rest = rest;
  stamped = stamped;
  seen = seen;
  carries = carries (entry_of stamp clip tag reply) refl refl;
  pass = same_pass p0 q0 after (after_leave q0.client (paint_call q0.client (entry_of stamp clip tag reply) sheet)) screen limit
      (pass ∙ ap (λ (x : BookEntry). record q0 { client = after_leave q0.client (paint_call q0.client x sheet) }) same);
}

pub has_painted : (p0 p1 q0 after : PassView) (clip clip' : ClipView) (sheet : Sheet) (tag stamp given at : ℕ) (done : Done) → p1 ≡ let_in p0 stamp → q0.screen ≡ p1.screen → q0.book_limit ≡ p1.book_limit → p0.client.seen ≤ stamp → stamp_in q0.client.mode ≡ Some stamp → given ≡ stamp → at ≡ clip.slot
    → PaintsInTurn p1.client q0.client clip clip' sheet done
    → after ≡ record q0 { client = after_leave q0.client (paint_call q0.client (record { stamp = given; slot = at; tag = tag; reply = Painted done.pixels }) sheet) } → KeepsClips q0.client after.client
    → HasPainted p0 after clip clip' sheet tag (record { stamp = given; pixels = done.pixels; fetched = done.fetched })
has_painted p0 p1 q0 after clip clip' sheet tag stamp given at done begins screen limit seen stamped stamps slots paints pass keeps = record {
  turn = q0.client;
  closes = closed p0 q0 after clip sheet tag given (Painted done.pixels) (record { stamp = given; slot = at; tag = tag; reply = Painted done.pixels }) (screen ∙ ap (λ (x : PassView). x.screen) begins) (limit ∙ ap (λ (x : PassView). x.book_limit) begins) (subst (λ n. p0.client.seen ≤ n) (sym stamps) seen) (paints.rest ∙ ap (λ (x : PassView). record x.client { mode = q0.client.mode }) begins) (stamped ∙ ap (λ n. Some n) (sym stamps)) paints.carries
      (entry_same given given clip.slot at tag (Painted done.pixels) refl slots) pass;
  fresh = paints.fresh;
  is_kept = kept_by q0.client after.client clip' keeps paints.is_kept;
  slot = paints.slot;
  fetched = paints.fetched;
  looks = paints.looks;
}

pub has_gone : (p0 p1 q0 after : PassView) (clip clip' : ClipView) (sheet : Sheet) (tag stamp given at : ℕ) → p1 ≡ let_in p0 stamp → q0.screen ≡ p1.screen → q0.book_limit ≡ p1.book_limit → p0.client.seen ≤ stamp → stamp_in q0.client.mode ≡ Some stamp → given ≡ stamp → at ≡ clip.slot
    → FindsGone p1.client q0.client clip clip' sheet
    → after ≡ record q0 { client = after_leave q0.client (paint_call q0.client (record { stamp = given; slot = at; tag = tag; reply = Gone }) sheet) } → KeepsClips q0.client after.client
    → HasGone p0 after clip sheet tag given
has_gone p0 p1 q0 after clip clip' sheet tag stamp given at begins screen limit seen stamped stamps slots finds pass keeps = record {
  turn = q0.client;
  closes = closed p0 q0 after clip sheet tag given Gone (record { stamp = given; slot = at; tag = tag; reply = Gone }) (screen ∙ ap (λ (x : PassView). x.screen) begins) (limit ∙ ap (λ (x : PassView). x.book_limit) begins) (subst (λ n. p0.client.seen ≤ n) (sym stamps) seen) (finds.rest ∙ ap (λ (x : PassView). record x.client { mode = q0.client.mode }) begins) (stamped ∙ ap (λ n. Some n) (sym stamps)) finds.carries
      (entry_same given given clip.slot at tag Gone refl slots) pass;
  owner_word = finds.owner_word;
  gone = (let gone = finds.gone in record { revision = gone.revision; looked = gone.looked; differs = gone.differs; owner = gone.owner; another = λ is. gone.another (is ∙ ap (λ (x : PassView). x.client.number + 1) (sym begins)) });
  empty = finds.empty;
  known = ⊎_elim (λ (new : clip.revision ≡ 0). inl new) (λ (k : IsStored q0.client clip). inr (kept_by q0.client after.client clip keeps k)) finds.known;
}

-- ---- what each answer leaves

closed_back : (p0 after : PassView) (turn : Client) (e : BookEntry) (sheet : Sheet) → Closes p0 after turn e sheet → IsBack p0 after
closed_back p0 after turn e sheet closes = let is = closes.pass in record {
  idle = ap (λ (x : PassView). x.client.mode) is;
  screen = ap (λ (x : PassView). x.screen) is;
  setting = ap (λ (x : PassView). x.client.setting) is ∙ ap (λ (x : Client). x.setting) closes.rest;
  number = ap (λ (x : PassView). x.client.number) is ∙ ap (λ (x : Client). x.number) closes.rest;
  step_limit = ap (λ (x : PassView). x.client.step_limit) is ∙ ap (λ (x : Client). x.step_limit) closes.rest;
  book_limit = ap (λ (x : PassView). x.book_limit) is;
}

pub painted_back : (p0 after : PassView) (clip clip' : ClipView) (sheet : Sheet) (tag : ℕ) (painted : PaintedAnswer) → HasPainted p0 after clip clip' sheet tag painted → IsBack p0 after × IsKnown after.client clip' × (clip'.slot ≡ clip.slot)
painted_back p0 after clip clip' sheet tag painted has = (closed_back p0 after has.turn _ sheet has.closes, inr has.is_kept, has.slot)

pub gone_back : (p0 after : PassView) (clip clip' : ClipView) (sheet : Sheet) (tag stamp : ℕ) → (clip' ≡ clip) × HasGone p0 after clip sheet tag stamp → IsBack p0 after × IsKnown after.client clip' × (clip'.slot ≡ clip.slot)
gone_back p0 after clip clip' sheet tag stamp has = (closed_back p0 after has.1.turn _ sheet has.1.closes, subst (IsKnown after.client) (sym has.0) has.1.known, ap (λ (c : ClipView). c.slot) has.0)
