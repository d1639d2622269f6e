-- What one paint more makes of the clips that a client keeps.
use Rattle.std.proofs.Common.{◌≡◌, ◌≢◌, ℕ, zero, suc, ◌+◌, ◌<◌, ◌≤◌, true, false, Bool, List, [], ◌∷◌, ◌++◌, length, replicate, set, get_or, refl, sym, ap, subst, ◌∙◌, ⊎_elim, inl, inr, arith, true≢false, Option, Some, None}
use Rattle.std.specs.Prelude.{slice_set, slice_index_or}
use Rattle.std.proofs.lemmas.List.{get_or-set_same, length-append}
use mathlib.Core.Option.{some}
use mathlib.Core.Logic.{dite}
use native.Mathlib.Decide.{ℕ_discrete}
use lib.ListN.{get_elem?}
use Rattle.atomic_table.proofs.Lists.{at_longer, at_last}
use Rattle.qws_base.specs.Sheets.{Sheet}
use Rattle.turn_logs.proofs.Joining.{place_within}
use Rattle.fb_words.proofs.Places.{at_end}
use Rattle.fb_words.specs.declared.known.PaintCall.{PaintCall}
use Rattle.fb_words.specs.declared.known.Call.{Call as OwnCall}
use Rattle.fb_words.specs.declared.known.Call.TheVariants.{Step as OwnStep, Paint as OwnPaint}
use Rattle.fb_words.specs.declared.known.Client.{Client}
use Rattle.fb_words.specs.Clips.{kept, KeepsClips}
use Rattle.fb_words.specs.Views.{PassView, paints_in}
use Rattle.clip_refetch.specs.Clips.{ClipView, IsKnown, IsStored, new_clip}
use Rattle.shared_painter.specs.Answers.{KeepsOthers}
use Rattle.client_session.specs.Looking.{is_painted, looked_revision, IsLatest, LooksAtRevisionAlone, FetchesOnce}
use Rattle.client_session.specs.Keeping.{clip_of, IsOfLatest, IsKeptFor, AreKept, HasDrawn}

-- ---- one paint more

-- what was the latest before is so among those before
latest_before : (paints : List PaintCall) (c : PaintCall) (slot k j : ℕ) (q : PaintCall) → k ≤ length paints → IsLatest (paints ++ c ∷ []) slot k j q → IsLatest paints slot k j q
latest_before paints c slot k j q low h = record {
  earlier = h.earlier;
  there = ⊎_elim (λ (t : get_elem? paints j ≡ some q). t) (λ (t : (j ≡ length paints) × (c ≡ q)). let e = h.earlier in absurd (omega arith)) (at_end paints j c q h.there);
  of_slot = h.of_slot;
  painted = h.painted;
  last = λ i p after before at. h.last i p after before (at_longer paints (c ∷ []) i p at);
}

one_longer : (paints : List PaintCall) (c : PaintCall) → length (paints ++ c ∷ []) ≡ length paints + 1
one_longer paints c = length-append paints (c ∷ [])

fetches_more : (paints : List PaintCall) (c : PaintCall) → FetchesOnce paints
    → ((j : ℕ) (q : PaintCall) → IsLatest paints c.slot (length paints) j q → looked_revision c ≡ looked_revision q → LooksAtRevisionAlone c) → FetchesOnce (paints ++ c ∷ [])
fetches_more paints c once new k j p q at latest same = ⊎_elim
    (λ (t : get_elem? paints k ≡ some p). let low = place_within paints k p t in once k j p q t (latest_before paints c p.slot k j q (omega arith) latest) same)
    (λ (t : (k ≡ length paints) × (c ≡ p)). subst LooksAtRevisionAlone t.1
    (new j q (latest_before paints c c.slot (length paints) j q (omega arith) (subst (λ (n : ℕ). IsLatest (paints ++ c ∷ []) c.slot n j q) t.0 (subst (λ (x : PaintCall). IsLatest (paints ++ c ∷ []) x.slot k j q) (sym t.1) latest)))
    (subst (λ (x : PaintCall). looked_revision x ≡ looked_revision q) (sym t.1) same)))
    (at_end paints k c p at)

-- where the paint is of another slot, or is Gone, the latest one stays
latest_stays : (paints : List PaintCall) (c : PaintCall) (clip : ClipView) → (c.slot ≡ clip.slot → is_painted c.reply ≡ false) → IsOfLatest paints clip → IsOfLatest (paints ++ c ∷ []) clip
latest_stays paints c clip other h j q latest =
    let grown = one_longer paints c in ⊎_elim
    (λ (t : get_elem? paints j ≡ some q). let low = place_within paints j q t in h j q record {
      earlier = low;
      there = t;
      of_slot = latest.of_slot;
      painted = latest.painted;
      last = λ i p after before at. latest.last i p after (omega arith) (at_longer paints (c ∷ []) i p at);
    })
    (λ (t : (j ≡ length paints) × (c ≡ q)). absurd (true≢false (sym latest.painted ∙ ap (λ (x : PaintCall). is_painted x.reply) (sym t.1) ∙ other (ap (λ (x : PaintCall). x.slot) t.1 ∙ latest.of_slot))))
    (at_end paints j c q latest.there)

-- after Painted the paint is the latest one
latest_is : (paints : List PaintCall) (c : PaintCall) (clip : ClipView) → c.slot ≡ clip.slot → is_painted c.reply ≡ true → looked_revision c ≡ Some clip.revision → IsOfLatest (paints ++ c ∷ []) clip
latest_is paints c clip slot painted looked j q latest =
    let grown = one_longer paints c in ⊎_elim
    (λ (t : get_elem? paints j ≡ some q). let low = place_within paints j q t in
    absurd (true≢false (sym painted ∙ latest.last (length paints) c low (omega arith) (at_last paints c (length paints) refl) slot)))
    (λ (t : (j ≡ length paints) × (c ≡ q)). subst (λ (x : PaintCall). looked_revision x ≡ Some clip.revision) t.1 looked)
    (at_end paints j c q latest.there)

-- ---- the calls as they grow

pub paints_more : (own : List OwnCall) (p : PaintCall) → paints_in (own ++ OwnPaint p ∷ []) ≡ paints_in own ++ p ∷ []
paints_more [] p = refl
paints_more (OwnStep s ∷ own) p = paints_more own p
paints_more (OwnPaint q ∷ own) p = ap (λ (l : List PaintCall). q ∷ l) (paints_more own p)

pub paints_same : (own : List OwnCall) (s : Rattle.fb_words.specs.declared.known.StepCall.StepCall) → paints_in (own ++ OwnStep s ∷ []) ≡ paints_in own
paints_same [] s = refl
paints_same (OwnStep t ∷ own) s = paints_same own s
paints_same (OwnPaint q ∷ own) s = ap (λ (l : List PaintCall). q ∷ l) (paints_same own s)

-- ---- the clips

known_stays : (p q : Client) (clip : ClipView) → kept q clip.slot ≡ kept p clip.slot → IsKnown p clip → IsKnown q clip
known_stays p q clip same known = ⊎_elim (λ (h : clip.revision ≡ 0). inl h) (λ (h : IsStored p clip). inr (record { row = h.row; is_kept = same ∙ h.is_kept; same = h.same })) known

-- a command changes none
pub kept_by_step : (p q : Client) (clips : List (Option ClipView)) → KeepsClips p q → paints_in q.own ≡ paints_in p.own → AreKept p clips → AreKept q clips
kept_by_step p q clips keeps same h = record {
  long = h.long;
  each = λ slot low. let was = h.each slot low in record {
    of_slot = was.of_slot;
    known = known_stays p q (clip_of clips slot) (keeps (clip_of clips slot).slot) was.known;
    of_latest = subst (λ (l : List PaintCall). IsOfLatest l (clip_of clips slot)) (sym same) was.of_latest;
  };
}

set_other : {A : Type 0} (l : List A) (i j : ℕ) (x d : A) → j ≢ i → get_or (set l i x) j d ≡ get_or l j d
set_other [] i j x d ne = refl
set_other (y ∷ l) zero zero x d ne = absurd (ne refl)
set_other (y ∷ l) zero (suc j) x d ne = refl
set_other (y ∷ l) (suc i) zero x d ne = refl
set_other (y ∷ l) (suc i) (suc j) x d ne = set_other l i j x d (λ e. ne (ap suc e))

-- what a paint leaves of a clip and of the pass
pub record IsDrawn (before after : PassView) (clip clip' : ClipView) (sheet : Sheet) (tag : ℕ) : Type 0 where
  pub drawn : HasDrawn before after clip clip' sheet tag
  pub others : KeepsOthers clip.slot before.client after.client
  pub known : IsKnown after.client clip'
  pub slot : clip'.slot ≡ clip.slot

own_paints : (before after : PassView) (clip clip' : ClipView) (sheet : Sheet) (tag : ℕ) (h : HasDrawn before after clip clip' sheet tag) → paints_in after.client.own ≡ paints_in before.client.own ++ h.call ∷ []
own_paints before after clip clip' sheet tag h = ap (λ (l : List OwnCall). paints_in l) h.own ∙ paints_more before.client.own h.call

-- of the clip that was drawn with
drawn_latest : (before after : PassView) (clip clip' : ClipView) (sheet : Sheet) (tag : ℕ) (painted : Bool) → IsDrawn before after clip clip' sheet tag → IsOfLatest (paints_in before.client.own) clip
    → ((h : HasDrawn before after clip clip' sheet tag) → is_painted h.call.reply ≡ painted → IsOfLatest (paints_in before.client.own ++ h.call ∷ []) clip')
drawn_latest before after clip clip' sheet tag true is old h e = latest_is (paints_in before.client.own) h.call clip' (h.of_slot ∙ sym is.slot) e (h.painted e)
drawn_latest before after clip clip' sheet tag false is old h e =
    subst (λ (k : ClipView). IsOfLatest (paints_in before.client.own ++ h.call ∷ []) k) (sym (h.gone e)) (latest_stays (paints_in before.client.own) h.call clip (λ _. e) old)

abbrev put_back : List (Option ClipView) → ℕ → ClipView → List (Option ClipView)
put_back clips slot clip = slice_set (slice_set clips slot None) slot (Some clip)

pub kept_by_paint : (before after : PassView) (clips : List (Option ClipView)) (slot : ℕ) (clip' : ClipView) (sheet : Sheet) (tag : ℕ) → slot < 33 → AreKept before.client clips
    → IsDrawn before after (clip_of clips slot) clip' sheet tag → AreKept after.client (slice_set (slice_set clips slot None) slot (Some clip'))
kept_by_paint before after clips slot clip' sheet tag low h is = record {
  long = Rattle.std.proofs.lemmas.List.length-set (set clips slot None) slot (Some clip') ∙ Rattle.std.proofs.lemmas.List.length-set clips slot None ∙ h.long;
  each = λ s below. dite (ℕ_discrete s slot) (λ eq. subst (λ (n : ℕ). IsKeptFor after.client n (clip_of (put_back clips slot clip') n)) (sym eq) mine) (λ ne. other s below ne);
}
  where
    mine : IsKeptFor after.client slot (clip_of (put_back clips slot clip') slot)
    mine =
        let was = h.each slot low in
        let long = Rattle.std.proofs.lemmas.List.length-set clips slot None ∙ h.long in
        let here : get_or (put_back clips slot clip') slot None ≡ Some clip' = get_or-set_same (set clips slot None) slot (Some clip') None (omega arith) in
        subst (λ (o : Option ClipView). IsKeptFor after.client slot (Rattle.client_session.specs.Keeping.clip_or_new slot o)) (sym here) (record {
          of_slot = is.slot ∙ was.of_slot;
          known = is.known;
          of_latest = subst (λ (l : List PaintCall). IsOfLatest l clip') (sym (own_paints before after (clip_of clips slot) clip' sheet tag is.drawn))
              (drawn_latest before after (clip_of clips slot) clip' sheet tag (is_painted is.drawn.call.reply) is was.of_latest is.drawn refl);
        })

    other : (s : ℕ) → s < 33 → s ≢ slot → IsKeptFor after.client s (clip_of (put_back clips slot clip') s)
    other s below ne =
        let was = h.each s below in
        let same : get_or (put_back clips slot clip') s None ≡ get_or clips s None = set_other (set clips slot None) slot s (Some clip') None ne ∙ set_other clips slot s None None ne in
        let apart : (clip_of clips s).slot ≢ (clip_of clips slot).slot = λ e. ne (sym was.of_slot ∙ e ∙ (h.each slot low).of_slot) in
        subst (λ (o : Option ClipView). IsKeptFor after.client s (Rattle.client_session.specs.Keeping.clip_or_new s o)) (sym same) (record {
          of_slot = was.of_slot;
          known = known_stays before.client after.client (clip_of clips s) (is.others (clip_of clips s).slot apart) was.known;
          of_latest = subst (λ (l : List PaintCall). IsOfLatest l (clip_of clips s)) (sym (own_paints before after (clip_of clips slot) clip' sheet tag is.drawn))
              (latest_stays (paints_in before.client.own) is.drawn.call (clip_of clips s) (λ e. absurd (apart (sym (sym is.drawn.of_slot ∙ e)))) was.of_latest);
        })

pub once_by_paint : (before after : PassView) (clip clip' : ClipView) (sheet : Sheet) (tag : ℕ) → HasDrawn before after clip clip' sheet tag → IsOfLatest (paints_in before.client.own) clip → FetchesOnce (paints_in before.client.own)
    → FetchesOnce (paints_in after.client.own)
once_by_paint before after clip clip' sheet tag h old once =
    subst FetchesOnce (sym (own_paints before after clip clip' sheet tag h))
    (fetches_more (paints_in before.client.own) h.call once (λ j q latest same. h.current (same ∙ old j q (subst (λ (s : ℕ). IsLatest (paints_in before.client.own) s (length (paints_in before.client.own)) j q) h.of_slot latest))))

-- ---- a new workspace

none_yet : (n slot : ℕ) → slice_index_or (replicate {A = Option ClipView} n None) slot None ≡ None
none_yet zero slot = refl
none_yet (suc n) zero = refl
none_yet (suc n) (suc slot) = none_yet n slot

pub kept_at_first : (p : Client) → p.own ≡ [] → AreKept p (replicate 33 None)
kept_at_first p fresh = record {
  long = refl;
  each = λ slot low. subst (λ (o : Option ClipView). IsKeptFor p slot (Rattle.client_session.specs.Keeping.clip_or_new slot o)) (sym (none_yet 33 slot)) (record {
    of_slot = refl;
    known = inl refl;
    of_latest = λ j q latest. absurd (let low = subst (λ (l : List OwnCall). j < length (paints_in l)) fresh latest.earlier in omega arith);
  });
}

pub once_at_first : (p : Client) → p.own ≡ [] → FetchesOnce (paints_in p.own)
once_at_first p fresh k j q r at latest same = absurd (let low = subst (λ (l : List OwnCall). k < length (paints_in l)) fresh (place_within (paints_in p.own) k q at) in omega arith)
