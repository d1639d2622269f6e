use Rattle.std.proofs.Common.{◌≡◌, ℕ, zero, suc, ◌<◌, ◌≤◌, ◌∷◌, [], List, length, get_or, All, refl, sym, ap, subst, ◌∙◌, arith}
use Rattle.qws_base.specs.Books.{BookView}
use Rattle.qws_base.specs.declared.journals.BookEntry.{BookEntry}
use Rattle.session_journal.specs.Merging.{AreStamps}
use Rattle.qws_rows_files.proofs.merge_rows.merges_paints_at_their_stamps.Goals as goal

rising : (a b : BookEntry) → a.stamp ≤ b.stamp → (i j : ℕ) (d : BookEntry) → i ≤ j → j < 2 → (get_or (a ∷ b ∷ []) i d).stamp ≤ (get_or (a ∷ b ∷ []) j d).stamp
rising a b le zero zero d h k = omega arith
rising a b le zero (suc zero) d h k = le
rising a b le (suc zero) (suc zero) d h k = omega arith
rising a b le zero (suc (suc j)) d h k = absurd (omega arith)
rising a b le (suc i) zero d h k = absurd (omega arith)
rising a b le (suc i) (suc (suc j)) d h k = absurd (omega arith)
rising a b le (suc (suc i)) (suc zero) d h k = absurd (omega arith)

within : (n : ℕ) (a b : BookEntry) → a.stamp ≤ n → b.stamp ≤ n → All (λ e. e.stamp ≤ n) (a ∷ b ∷ [])
within n a b h k zero d below = h
within n a b h k (suc zero) d below = k
within n a b h k (suc (suc i)) d below = absurd (omega arith)

one_book : (n : ℕ) (book : BookView) (a b : BookEntry) → book.entries ≡ a ∷ b ∷ [] → a.stamp ≤ b.stamp → b.stamp ≤ n → All (λ book. AreStamps n book.entries) (book ∷ [])
one_book n book a b is le most zero d below = subst (AreStamps n) (sym is) (record { rising = rising a b le; within = within n a b (omega arith) most })
one_book n book a b is le most (suc i) d below = absurd (omega arith)

pub merge-requires : goal.merge-requires
merge-requires g c =
    let n = length c.deref.result.now in
    let two : n ≡ 2 = ap length c.deref.ensures.value ∙ ap length c.in_ok-journal.ensures.items in
    let books : c.deref-2.result.now ≡ c.push-2.new.self ∷ [] = c.deref-2.ensures.value ∙ c.in_ok-books.ensures.items in
    let entries : c.push-2.new.self.entries ≡ c.paint.result ∷ c.paint-2.result ∷ [] = grind arith in
    let first = c.paint.ensures in
    let second = c.paint-2.ensures in
    subst (λ (l : List BookView). All (λ book. AreStamps n book.entries) l) (sym books) (one_book n c.push-2.new.self c.paint.result c.paint-2.result entries (omega arith) (omega arith))
