-- What a log brings from word to word.
use Rattle.std.proofs.Common.{◌≡◌, ℕ, ⊎_elim, List, [], ◌∷◌, ◌++◌, Option, Some, None, refl, sym, ap, ◌∙◌}
use Rattle.turn_logs.specs.declared.items.Item.{Item}
use Rattle.turn_logs.specs.declared.items.Item.TheVariants.{Pick, Put}
use Rattle.turn_logs.specs.Lines.{on, written, Shows}
use Rattle.turn_logs.specs.Carries.{FirstPicks, or_later, last_put, TrueIn, Brings, words_after}

pub or_else : Option ℕ → ℕ → ℕ
or_else (Some u) v = u
or_else None v = v

-- what is written is the last Put, else what was there
by_last : (v u : ℕ) (o : Option ℕ) → or_else (or_later o u) v ≡ or_else o u
unfolding or_else
by_last v u (Some w) = refl
by_last v u None = refl

pub written_last : (v : ℕ) (l : List Item) → written v l ≡ or_else (last_put l) v
unfolding or_else
written_last v [] = refl
written_last v (Pick w u ∷ l) = written_last v l
written_last v (Put w u ∷ l) = written_last u l ∙ sym (by_last v u (last_put l))

pub picks_true : (v u : ℕ) (l : List Item) → FirstPicks v l → Shows u l → v ≡ u
picks_true v u [] f s = absurd f
picks_true v u (Pick w x ∷ l) f s = sym f ∙ s.0
picks_true v u (Put w x ∷ l) f s = absurd f

-- a word that is put has the last value
pub put_there : (words : ℕ → ℕ) (log : List Item) (x v : ℕ) → last_put (on x log) ≡ Some v → words_after words log x ≡ v
unfolding or_else
put_there words log x v last = written_last (words x) (on x log) ∙ ap (λ o. or_else o (words x)) last

-- a word that isn't put stays
pub left_there : (words : ℕ → ℕ) (log : List Item) (x : ℕ) → last_put (on x log) ≡ None → words_after words log x ≡ words x
unfolding or_else
left_there words log x none = written_last (words x) (on x log) ∙ ap (λ o. or_else o (words x)) none

pub brings : (words : ℕ → ℕ) (log : List Item) (a b : ℕ) → TrueIn words log → Brings log a b → words_after words log b ≡ words a
brings words log a b true_in how = ⊎_elim
    (λ (h : (v : ℕ) × FirstPicks v (on a log) × (last_put (on b log) ≡ Some v)). put_there words log b h.0 h.2 ∙ picks_true h.0 (words a) (on a log) h.1 (true_in a))
    (λ (h : (a ≡ b) × (last_put (on b log) ≡ None)). left_there words log b h.1 ∙ ap words (sym h.0))
    how

-- ---- logs one after the other

pub or_before : Option ℕ → Option ℕ → Option ℕ
or_before (Some v) o = Some v
or_before None o = o

by_later : (a b : Option ℕ) (u : ℕ) → or_later (or_before a b) u ≡ or_before a (or_later b u)
unfolding or_before
by_later (Some v) b u = refl
by_later None b u = refl

or_none : (a : Option ℕ) → a ≡ or_before a None
unfolding or_before
or_none (Some v) = refl
or_none None = refl

pub last_put-append : (l m : List Item) → last_put (l ++ m) ≡ or_before (last_put m) (last_put l)
unfolding or_before
last_put-append [] m = or_none (last_put m)
last_put-append (Pick w u ∷ l) m = last_put-append l m
last_put-append (Put w u ∷ l) m = ap (λ o. or_later o u) (last_put-append l m) ∙ by_later (last_put m) (last_put l) u

pub first_picks-append : (v : ℕ) (l m : List Item) → FirstPicks v l → FirstPicks v (l ++ m)
first_picks-append v [] m has = absurd has
first_picks-append v (Pick w u ∷ l) m has = has
first_picks-append v (Put w u ∷ l) m has = absurd has

-- a log ends with what its last part puts
pub last_later : (l m : List Item) (x : ℕ) → last_put m ≡ Some x → last_put (l ++ m) ≡ Some x
unfolding or_before
last_later l m x e = last_put-append l m ∙ ap (λ o. or_before o (last_put l)) e

pub last_earlier : (l m : List Item) → last_put m ≡ None → last_put (l ++ m) ≡ last_put l
unfolding or_before
last_earlier l m e = last_put-append l m ∙ ap (λ o. or_before o (last_put l)) e

pub written_is : (w x : ℕ) (l : List Item) → last_put l ≡ Some x → written w l ≡ x
unfolding or_else
written_is w x l e = written_last w l ∙ ap (λ o. or_else o w) e

pub written_stays : (w : ℕ) (l : List Item) → last_put l ≡ None → written w l ≡ w
unfolding or_else
written_stays w l e = written_last w l ∙ ap (λ o. or_else o w) e
