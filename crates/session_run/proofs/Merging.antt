-- The merge of a closed session's journal and books is its history, without the sheets.
use Rattle.std.proofs.Common.{◌≡◌, ℕ, zero, suc, ◌<◌, ◌≤◌, List, [], ◌∷◌, ◌++◌, length, map, get_or, refl, sym, ap, subst, ◌∙◌, arith}
use Rattle.std.specs.Prelude.{All, slice_index_or}
use Rattle.std.specs.List.Sorted.{IsNonDecreasingBy}
use mathlib.Core.Option.{some, some-injective, some-ne-none}
use mathlib.Core.Logic.{dite}
use native.Mathlib.Decide.{ℕ_discrete}
use lib.ListN.{get_elem?}
use Rattle.qws_base.proofs.MergeLemmas.{merge_law}
use Rattle.qws_base.specs.Books.{BookView}
use Rattle.qws_base.specs.Histories.{Entry as CallEntry, step_entry}
use Rattle.qws_base.specs.Histories.Entry.{Step as StepCall, Paint as PaintCall}
use Rattle.qws_base.specs.Merges.{Stamped, merged, changed_by}
use Rattle.qws_base.specs.declared.journals.JournalEntry.{JournalEntry}
use Rattle.qws_base.specs.declared.journals.BookEntry.{BookEntry}
use Rattle.fb_words.specs.declared.known.PaintCall.{PaintCall as OwnPaintCall}
use Rattle.fb_words.specs.declared.known.Call.{Call as OwnCall}
use Rattle.fb_words.specs.declared.known.Call.TheVariants.{Step as OwnStep, Paint as OwnPaint}
use Rattle.fb_words.specs.declared.known.Client.{Client}
use Rattle.fb_words.specs.Desks.{paints_of as client_paints, stamped_paint}
use Rattle.fb_words.specs.Rule.{OrderOk, mark}
use Rattle.fb_words.specs.Views.{paints_in, books_in, book_entry}
use Rattle.server_desk.specs.Sessions.{history_in, IsBookOf}
use Rattle.session_journal.specs.Merging.{step_of, paint_of, paints_of, AreStamps}
use Rattle.session_journal.specs.Texts.{Told, told, told_call}
use Rattle.session_journal.specs.declared.histories.Entry.{Entry}
use Rattle.session_journal.specs.declared.histories.Entry.TheVariants.{Step, Paint}
use Rattle.session_run.proofs.Running.{at_or, item_there, from_map}

-- an entry without its sheet
abbrev pub bare : CallEntry → Entry
bare (StepCall client command reply) = Step client command reply
bare (PaintCall client slot tag sheet reply) = Paint client slot tag reply

-- ---- the merge

steps_bare : (journal : List JournalEntry) → map step_of journal ≡ map bare (map step_entry journal)
steps_bare [] = refl
steps_bare (e ∷ journal) = ap (λ (l : List Entry). step_of e ∷ l) (steps_bare journal)

paints_bare : (number : ℕ) (own : List OwnCall) → map (paint_of number) (books_in own) ≡ map (changed_by bare) (map (stamped_paint number) (paints_in own))
paints_bare number [] = refl
paints_bare number (OwnStep s ∷ own) = paints_bare number own
paints_bare number (OwnPaint p ∷ own) = ap (λ (l : List (Stamped Entry)). paint_of number (book_entry p) ∷ l) (paints_bare number own)

book_bare : (p : Client) (book : BookView) → IsBookOf p book → paints_of book ≡ map (changed_by bare) (client_paints p)
book_bare p book is = ap (λ (n : ℕ). map (paint_of n) book.entries) is.number ∙ ap (λ (l : List BookEntry). map (paint_of p.number) l) is.entries ∙ paints_bare p.number p.own

abbrev pub AreBooks : List Client → List BookView → Type 0
AreBooks clients books = (c : ℕ) (p : Client) (b : BookView) → get_elem? clients c ≡ some p → get_elem? books c ≡ some b → IsBookOf p b

books_bare : (clients : List Client) (books : List BookView) → length books ≡ length clients → AreBooks clients books → map paints_of books ≡ map (map (changed_by bare)) (map client_paints clients)
books_bare [] [] many are = refl
books_bare [] (b ∷ books) many are = absurd (omega arith)
books_bare (p ∷ clients) [] many are = absurd (omega arith)
books_bare (p ∷ clients) (b ∷ books) many are =
    ap (λ (l : List (Stamped Entry)). l ∷ map paints_of books) (book_bare p b (are 0 p b refl refl))
    ∙ ap (λ (l : List (List (Stamped Entry))). map (changed_by bare) (client_paints p) ∷ l) (books_bare clients books (omega arith) (λ c q d at_q at_d. are (suc c) q d at_q at_d))

pub merged_bare : (journal : List JournalEntry) (clients : List Client) (books : List BookView) → length books ≡ length clients → AreBooks clients books
    → merged (map step_of journal) (map paints_of books) ≡ map bare (history_in journal clients)
merged_bare journal clients books many are =
    ap (λ (l : List Entry). merged l (map paints_of books)) (steps_bare journal)
    ∙ ap (λ (l : List (List (Stamped Entry))). merged (map bare (map step_entry journal)) l) (books_bare clients books many are)
    ∙ merge_law CallEntry Entry bare (map step_entry journal) (map client_paints clients)

-- ---- what comments tell

one_told : (e : CallEntry) → told (bare e) ≡ told_call e
one_told (StepCall client command reply) = refl
one_told (PaintCall client slot tag sheet reply) = refl

pub same_told : (h : List CallEntry) → map told (map bare h) ≡ map told_call h
same_told [] = refl
same_told (e ∷ h) = ap (λ (t : Told). t ∷ map told (map bare h)) (one_told e) ∙ ap (λ (l : List Told). told_call e ∷ l) (same_told h)

-- ---- the stamps

record IsPlaced (own : List OwnCall) (p q : OwnPaintCall) : Type 0 where
  first : ℕ
  second : ℕ
  later : first < second
  at_first : get_elem? own first ≡ some (OwnPaint p)
  at_second : get_elem? own second ≡ some (OwnPaint q)

place_of : (own : List OwnCall) (k : ℕ) (p : OwnPaintCall) → get_elem? (paints_in own) k ≡ some p → (i : ℕ) × (get_elem? own i ≡ some (OwnPaint p))
place_of [] k p at = absurd (some-ne-none p (sym at))
place_of (OwnStep s ∷ own) k p at = let r = place_of own k p at in (suc r.0, r.1)
place_of (OwnPaint r ∷ own) zero p at = (0, ap (λ (x : OwnPaintCall). some (OwnPaint x)) (some-injective r p at))
place_of (OwnPaint r ∷ own) (suc k) p at = let s = place_of own k p at in (suc s.0, s.1)

places_of : (own : List OwnCall) (j k : ℕ) (p q : OwnPaintCall) → j < k → get_elem? (paints_in own) j ≡ some p → get_elem? (paints_in own) k ≡ some q → IsPlaced own p q
places_of [] j k p q lt at_p at_q = absurd (some-ne-none p (sym at_p))
places_of (OwnStep s ∷ own) j k p q lt at_p at_q = let r = places_of own j k p q lt at_p at_q in let l = r.later in record { first = suc r.first; second = suc r.second; later = omega arith; at_first = r.at_first; at_second = r.at_second }
places_of (OwnPaint r ∷ own) j zero p q lt at_p at_q = absurd (omega arith)
places_of (OwnPaint r ∷ own) zero (suc k) p q lt at_p at_q =
    let s = place_of own k q at_q in record { first = 0; second = suc s.0; later = omega arith; at_first = ap (λ (x : OwnPaintCall). some (OwnPaint x)) (some-injective r p at_p); at_second = s.1 }
places_of (OwnPaint r ∷ own) (suc j) (suc k) p q lt at_p at_q =
    let s = places_of own j k p q (omega arith) at_p at_q in let l = s.later in record { first = suc s.first; second = suc s.second; later = omega arith; at_first = s.at_first; at_second = s.at_second }

books_are : (own : List OwnCall) → books_in own ≡ map book_entry (paints_in own)
books_are [] = refl
books_are (OwnStep s ∷ own) = books_are own
books_are (OwnPaint p ∷ own) = ap (λ (l : List BookEntry). book_entry p ∷ l) (books_are own)

-- the book entry at a place is that of a paint
entry_at : (own : List OwnCall) (k : ℕ) (d : BookEntry) → k < length (books_in own) → (p : OwnPaintCall) × (get_elem? (paints_in own) k ≡ some p) × (get_or (books_in own) k d ≡ book_entry p)
entry_at own k d below =
    let e = item_there (books_in own) k below in
    let p = from_map book_entry (paints_in own) k e.0 (ap (λ (l : List BookEntry). get_elem? l k) (sym (books_are own)) ∙ e.1) in (p.0, p.1, at_or (books_in own) k e.0 d e.1 ∙ sym p.2)

rising : (last : ℕ) (p : Client) → OrderOk last p → (i j : ℕ) (d : BookEntry) → i ≤ j → j < length (books_in p.own) → (get_or (books_in p.own) i d).stamp ≤ (get_or (books_in p.own) j d).stamp
rising last p order i j d le below = dite (ℕ_discrete i j)
    (λ same. let e = ap (λ (k : ℕ). (get_or (books_in p.own) k d).stamp) same in omega arith)
    (λ apart.
    let x = entry_at p.own i d (omega arith) in
    let y = entry_at p.own j d below in
    let at = places_of p.own i j x.0 y.0 (omega arith) x.1 y.1 in
    let may = order.rises at.first at.second (OwnPaint x.0) (OwnPaint y.0) at.later at.at_first at.at_second in
    let ex = ap (λ (b : BookEntry). b.stamp) x.2 in
    let ey = ap (λ (b : BookEntry). b.stamp) y.2 in omega arith)

within : (last : ℕ) (p : Client) → OrderOk last p → (k : ℕ) (d : BookEntry) → k < length (books_in p.own) → (get_or (books_in p.own) k d).stamp ≤ last
within last p order k d below =
    let x = entry_at p.own k d below in
    let at = place_of p.own k x.0 x.1 in
    let seen = order.seen_own at.0 (OwnPaint x.0) at.1 in
    let low = order.seen_within in
    let e = ap (λ (b : BookEntry). b.stamp) x.2 in omega arith

stamps : (last : ℕ) (p : Client) → OrderOk last p → AreStamps last (books_in p.own)
stamps last p order = record { rising = rising last p order; within = within last p order }

pub book_stamps : (last : ℕ) (clients : List Client) (books : List BookView) → length books ≡ length clients → AreBooks clients books → ((c : ℕ) (p : Client) → get_elem? clients c ≡ some p → OrderOk last p)
    → (k : ℕ) (d : BookView) → k < length books → AreStamps last (get_or books k d).entries
book_stamps last clients books many are order k d below =
    let b = item_there books k below in
    let p = item_there clients k (omega arith) in
    let is = are k p.0 b.0 p.1 b.1 in
    subst (AreStamps last) (sym is.entries ∙ ap (λ (x : BookView). x.entries) (sym (at_or books k b.0 d b.1))) (stamps last p.0 (order k p.0 p.1))
