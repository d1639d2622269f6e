-- A pick or a put of an open paint turn keeps the words and the world in step.
use Rattle.std.proofs.Common.{◌≡◌, ℕ, suc, ◌+◌, ◌<◌, ◌≢◌, ⊎_elim, inr, List, [], ◌∷◌, ◌++◌, length, get_or, set, length-set, sym, refl, ap, ◌∙◌, subst, arith, Some, false}
use Rattle.std.proofs.lemmas.List.{get_or-set_other, get_or-set_same}
use mathlib.Core.Option.{some, none}
use mathlib.Core.Logic.{dite}
use native.Mathlib.Decide.{ℕ_discrete}
use lib.ListN.{get_elem?}
use Rattle.atomic_table.specs.Table.{Me, step, Allows}
use Rattle.qws_base.specs.Points.{pixel_count}
use Rattle.qws_base.specs.Colours.{IsSceneColour}
use Rattle.qws_base.specs.Scenes.{Setting}
use Rattle.region_table.specs.Numbers.{pixel_word}
use Rattle.turn_logs.specs.declared.items.Item.{Item}
use Rattle.turn_logs.specs.declared.items.Item.TheVariants.{Pick, Put}
use Rattle.fb_words.specs.declared.known.Looked.{Looked}
use Rattle.fb_words.specs.declared.known.Mode.{Mode}
use Rattle.fb_words.specs.declared.known.Mode.TheVariants.{Idle, Refused, Reading}
use Rattle.fb_words.specs.declared.known.Client.{Client}
use Rattle.fb_words.specs.declared.known.View.{View}
use Rattle.turn_logs.specs.Lines.{item_word, written, Shows}
use Rattle.fb_words.specs.Segments.{line, first_value, LineOk}
use Rattle.fb_words.specs.Clips.{look_of, stamp_in, slot_in, looked_in, log_in, IsClip}
use Rattle.fb_words.specs.Rights.{IsSavedOver, IsGiven, Owns}
use Rattle.fb_words.specs.Views.{busy, reading, busy_mode, reading_mode, shut, is_writing, alone}
use Rattle.fb_words.specs.Rule.{Parts, SeatOk, ClipsOk, LooksOk, OpenRights, Fits, Holds}
use Rattle.fb_words.specs.Steps.{item_mode, after_item, picked, put}
use Rattle.fb_words.proofs.Places.{each_of, each_set}
use Rattle.turn_logs.proofs.Totals.{total_set}
use Rattle.turn_logs.proofs.Joining.{written-append, shows-append}
use Rattle.turn_logs.proofs.Options.{none_some}
use Rattle.region_table.proofs.Words.{line_far}
use Rattle.fb_words.proofs.Rows.{seen_row, kept_is}
use Rattle.fb_words.proofs.Cells.{word_far, word_within}
use Rattle.fb_words.proofs.Spreads.{with_client, client_steps}
use Rattle.fb_words.proofs.Gate.{closed_client, looks_kept, tables_kept, part_of, IsAlone}
use Rattle.fb_words.proofs.Painting.{before, grown, others_away, late_none, line_gains, line_stays}
use Rattle.fb_words.proofs.Keeping.{owned_in}
use Rattle.fb_words.proofs.Looking.{no_turn, present_table, looks_present, looks_in, stamped_reads, stamp_now}

abbrev Mine : Type 0
Mine = Me (Unit {0}) View

-- what a client owns in its turn, the present table gives it
pub owned : (key : Setting) (words : List ℕ) (w : Parts) (p : Client) (x : ℕ) → Fits key words w → get_elem? w.clients p.number ≡ some p → is_writing w.server.mode ≡ false → (o : Owns p x) → IsGiven key.size w.server.present p.number o.clip.slot x
owned key words w p x f at idle o =
    let s = w.server in let t = s.present in let last = f.tables.last idle in
    let looks = looks_present words s p.mode f.tables (f.looks p.number p at) in
    let clip_ok : IsClip key.size t p.number o.clip = (kept_is p o.clip.slot o.clip (IsClip key.size t p.number)
    (λ c e. (seen_row key.size (length s.limits) (length s.closed) p.number t p.mode c (present_table key words w f idle) looks e).0)
    (λ k c e. f.clips p.number p at k c t e last) o.kept_clip).0 in
    owned_in key.size t p x o (ap (λ k. k.size) (f.seats p.number p at).setting_is) (looks_in t (length s.closed) p.mode looks) clip_ok

pub owns_within : (p : Client) (x : ℕ) → Owns p x → x < 10632 + pixel_count p.setting.size
owns_within p x o = ⊎_elim (λ (e : x ≡ pixel_word o.pixel). let lt = o.on_screen in omega arith)
    (λ (d : (place : ℕ) × (shape : ℕ) × (look_of (looked_in p.mode) 2 ≡ Some place) × (look_of (looked_in p.mode) 3 ≡ Some shape) × IsSavedOver p.setting.size place shape o.pixel x).
    word_within p.setting.size d.0 d.1 o.pixel x o.on_screen (inr d.4)) o.word

-- the item i on the word x, which becomes v
pub adds_item : (key : Setting) (words : List ℕ) (w : Parts) (p : Client) (S : ℕ) (looked : List Looked) (log : List Item) (i : Item) (x v : ℕ) → Fits key words w → get_elem? w.clients p.number ≡ some p → is_writing w.server.mode ≡ false
    → p.mode ≡ before p (length w.server.closed) S looked log i → IsGiven key.size w.server.present p.number S x → item_word i ≡ x
    → written (get_or words x 0) (i ∷ []) ≡ v → Shows (get_or words x 0) (i ∷ []) → IsSceneColour key.depth v
    → Fits key (set words x v) (with_client w (grown p (length w.server.closed) S looked log i))
adds_item key words w p S looked log i x v f at idle is mine same value shows colour =
    let s = w.server in let cs = w.clients in let E = length s.closed in let q = grown p E S looked log i in
    let far = word_far key.size (get_or s.present 2 0) (get_or s.present 3 0) mine.pixel x mine.word in let lo = line_far x far in
    let busy_same : busy q ≡ busy p = ap busy_mode (sym is) in let reads_same : reading q ≡ reading p = ap reading_mode (sym is) in
    let looks = subst (LooksOk words E) is (f.looks p.number p at) in let rights = subst (OpenRights key.size s.present p.number) is (f.rights p.number p at) in
    let table = present_table key words w f idle in
    let within : x < length words = (let lt = word_within key.size (get_or s.present 2 0) (get_or s.present 3 0) mine.pixel x mine.on_screen mine.word in let long = f.setting.long in omega arith) in
    let here = f.lines x far within in
    let gained = line_gains x s cs p S looked log i (f.quiet idle) is same at
    (λ c r e apart. others_away key (length s.limits) E s words p.number c S x r (λ eq2. apart (sym eq2)) table (f.tables.last idle) mine (f.looks c r e) (f.rights c r e) (f.closed.paints c r e))
    (λ c r e. late_none words E x (suc E) r (omega arith) (f.closed.order c r e) (f.looks c r e)) in
    let stays : (y : ℕ) → y ≢ x → line y s (set cs p.number q) ≡ line y s cs = (λ y ne. line_stays y s cs p S looked log i is (λ eq. ne (sym eq ∙ same)) at) in record {
      setting = record { long = length-set words x v ∙ f.setting.long; screen = f.setting.screen; colour = f.setting.colour; server = f.setting.server };
      gate = let sum = total_set busy cs p.number p q at in get_or-set_other words x 0 v 0 (λ eq. absurd (omega arith)) ∙ f.gate ∙ ap (λ n. shut s.mode + n) (omega arith);
      apart = λ writing. let none_reads = f.apart writing in let sum = total_set reading cs p.number p q at in omega arith;
      as_many = f.as_many ∙ sym (length-set cs p.number q);
      few = rw (length-set cs p.number q) f.few;
      seats = each_set (SeatOk key s) cs p.number q (λ c r _ e. f.seats c r e) (let ok = f.seats p.number p at in record { setting_is = ok.setting_is; number_is = ok.number_is; limit_is = ok.limit_is });
      closed = closed_client key s cs p q f.closed (let ok = f.closed.order p.number p at in record { rises = ok.rises; seen_own = ok.seen_own; seen_within = ok.seen_within })
          (f.closed.own_steps p.number p at) (f.closed.paints p.number p at);
      tables = tables_kept words x v s far f.tables;
      clips = each_set (ClipsOk key.size s) cs p.number q (λ c r _ e. f.clips c r e) (f.clips p.number p at);
      looks = each_set (λ c r. LooksOk (set words x v) E r.mode) cs p.number q (λ c r _ e. looks_kept words x v E r.mode far (f.looks c r e))
          (looks_kept words x v E (Reading (Some E) (Some S) looked (log ++ i ∷ [])) far (looks.0, looks.1, looks.2));
      rights = each_set (λ c r. OpenRights key.size s.present c r.mode) cs p.number q (λ c r _ e. f.rights c r e)
          (each_of (λ k j. IsGiven key.size s.present p.number S (item_word j)) log i rights (subst (IsGiven key.size s.present p.number S) (sym same) mine));
      quiet = f.quiet;
      lines = λ y far_y hi. dite (ℕ_discrete y x)
          (λ (eq : y ≡ x). subst (λ z. LineOk key z (get_or (set words x v) z 0) (line z s (set cs p.number q))) (sym eq) (
          let first = first_value key x in record {
            is_written = get_or-set_same words x v 0 within ∙ sym value ∙ ap (λ z. written z (i ∷ [])) here.is_written ∙ sym (written-append first (line x s cs) (i ∷ [])) ∙ ap (written first) (sym gained);
            colour = rw (get_or-set_same words x v 0 within) colour;
          }))
          (λ (ne : y ≢ x). let old = f.lines y far_y (let l = length-set words x v in omega arith) in record {
            is_written = get_or-set_other words x y v 0 ne ∙ old.is_written ∙ ap (written (first_value key y)) (sym (stays y ne));
            colour = rw (get_or-set_other words x y v 0 ne) old.colour;
          });
      picks = λ y. dite (ℕ_discrete y x)
          (λ (eq : y ≡ x). let first = first_value key x in subst (λ z. Shows (first_value key z) (line z s (set cs p.number q))) (sym eq)
          (subst (Shows first) (sym gained) (shows-append first (line x s cs) (i ∷ []) (f.picks x) (subst (λ z. Shows z (i ∷ [])) here.is_written shows))))
          (λ (ne : y ≢ x). subst (Shows (first_value key y)) (sym (stays y ne)) (f.picks y));
    }

-- a turn that has its stamp and its slot
opened_by : (m : Mode) (e s : ℕ) → stamp_in m ≡ Some e → slot_in m ≡ Some s → m ≡ Reading (Some e) (Some s) (looked_in m) (log_in m)
opened_by Idle e s is at = none_some e is
opened_by Refused e s is at = none_some e is
opened_by (Reading st sl looked log) e s is at = ap (λ o. Reading o sl looked log) is ∙ ap (λ o. Reading (Some e) o looked log) at

-- the same for a seat: what a pick and a put share
module _ (key : Setting) (words : List ℕ) (w : Parts) (p : Client) (x : ℕ) (f : Fits key words w) (at : get_elem? w.clients p.number ≡ some p) (o : Owns p x) where
  idle_now : is_writing w.server.mode ≡ false
  idle_now = no_turn key words w p f at (stamped_reads p.mode o.stamp o.stamped)

  mode_now : p.mode ≡ Reading (Some (length w.server.closed)) (Some o.clip.slot) (looked_in p.mode) (log_in p.mode)
  mode_now = opened_by p.mode (length w.server.closed) o.clip.slot (o.stamped ∙ ap (λ n. Some n) (stamp_now words (length w.server.closed) p.mode o.stamp (f.looks p.number p at) o.stamped)) o.turn_slot

  given_now : IsGiven key.size w.server.present p.number o.clip.slot x
  given_now = owned key words w p x f at idle_now o

  pub within_words : x < length words
  within_words = let lt = word_within key.size (get_or w.server.present 2 0) (get_or w.server.present 3 0) given_now.pixel x given_now.on_screen given_now.word in let l = f.setting.long in omega arith

  pub line_here : LineOk key x (get_or words x 0) (line x w.server w.clients)
  line_here = f.lines x (word_far key.size (get_or w.server.present 2 0) (get_or w.server.present 3 0) given_now.pixel x given_now.word) within_words

  pub item_fits : (i : Item) (v : ℕ) → item_word i ≡ x → written (get_or words x 0) (i ∷ []) ≡ v → Shows (get_or words x 0) (i ∷ []) → IsSceneColour key.depth v
      → Fits key (set words x v) (with_client w (after_item p i))
  item_fits i v same value shows colour = let E = length w.server.closed in
      subst (λ m. Fits key (set words x v) (with_client w record p { mode = m })) (sym (ap (item_mode i) mode_now))
      (adds_item key words w p o.clip.slot (looked_in p.mode) (log_in p.mode) i x v f at idle_now mode_now given_now same value shows colour)

pub puts : (key : Setting) (slots id : ℕ) (me : Mine) (x v : ℕ) → IsAlone me → Owns (part_of me) x → IsSceneColour (part_of me).setting.depth v
    → Allows (Holds key) slots id me x (λ _. v) (λ _. put (step slots x v 0 none) me v)
puts key slots id me x v is owns colour = let p = part_of me in let Q : Mine → Type 0 = λ m. Allows (Holds key) slots id m x (λ _. v) (λ _. put (step slots x v 0 none) m v) in
    subst Q (sym is) (client_steps key slots id p x (λ _. v) (λ _. put (step slots x v 0 none) (alone p, []) v)
    (λ words w f at _. (after_item p (Put x v), refl, item_fits key words w p x f at owns (Put x v) v refl refl tt (subst (λ k. IsSceneColour k.depth v) (f.seats p.number p at).setting_is colour), refl)))

pub picks : (key : Setting) (slots id : ℕ) (me : Mine) (x : ℕ) → IsAlone me → Owns (part_of me) x → Allows (Holds key) slots id me x (λ n. n) (picked (step slots x 0 0 none) me)
picks key slots id me x is owns = let p = part_of me in let Q : Mine → Type 0 = λ m. Allows (Holds key) slots id m x (λ n. n) (picked (step slots x 0 0 none) m) in
    subst Q (sym is) (client_steps key slots id p x (λ n. n) (picked (step slots x 0 0 none) (alone p, []))
    (λ words w f at _. let n : ℕ = get_or words x 0 in let colour = (line_here key words w p x f at owns).colour in (
      after_item p (Pick x n),
      refl,
      item_fits key words w p x f at owns (Pick x n) n refl refl (refl, tt) colour,
      (refl, subst (λ k. IsSceneColour k.depth n) (sym (f.seats p.number p at).setting_is) colour),
    )))
