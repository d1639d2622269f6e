-- Work on one pixel after another.
use Rattle.std.proofs.Common.{◌≡◌, ℕ, zero, suc, ◌+◌, Bool, List, [], ◌∷◌, ◌++◌, append-nil, append_assoc, map, sym, refl, ap, ◌∙◌, arith}
use Rattle.std.specs.List.{flat_map, range_with_len}
use Rattle.std.proofs.lemmas.List.{map-append}
use Rattle.std.proofs.lemmas.Grind.{flat_map-append}
use Rattle.std.proofs.lemmas.List.FromFn.{map-range_with_len_more}
use Rattle.turn_logs.specs.declared.items.Item.{Item}
use Rattle.scene_turns.specs.declared.works.Work.{Work}
use Rattle.scene_turns.specs.Works.{place, work_items, work_log, Works, stretch_pixels}

pub none_done : (work : Work) (log : List Item) → Works work [] log log
none_done work log = record { done = []; pixels_are = refl; log = sym (append-nil log) }

pub one_done : (work : Work) (p v : ℕ) (before after : List Item) → after ≡ before ++ work_items work p v → Works work (p ∷ []) before after
one_done work p v before after is = record { done = (p, v) ∷ []; pixels_are = refl; log = is ∙ ap (λ l. before ++ l) (sym (append-nil (work_items work p v))) }

pub both_done : (work : Work) (ps qs : List ℕ) (a b d : List Item) → Works work ps a b → Works work qs b d → Works work (ps ++ qs) a d
both_done work ps qs a b d first second = record {
  done = first.done ++ second.done;
  pixels_are = map-append (λ (e : ℕ × ℕ). e.0) first.done second.done ∙ ap (λ l. l ++ map (λ (e : ℕ × ℕ). e.0) second.done) first.pixels_are ∙ ap (λ l. ps ++ l) second.pixels_are;
  log = second.log ∙ ap (λ l. l ++ work_log work second.done) first.log ∙ append_assoc a (work_log work first.done) (work_log work second.done)
      ∙ ap (λ l. a ++ l) (sym (flat_map-append (λ (e : ℕ × ℕ). work_items work e.0 e.1) first.done second.done));
}

-- the first n pixels of a stretch, or falling the last n
pub stretch_part : Bool → ℕ → ℕ → ℕ → List ℕ
stretch_part falling first count n = map (λ j. first + place falling count j) (range_with_len 0 n)

pub no_stretch : (falling : Bool) (first count : ℕ) → stretch_part falling first count 0 ≡ []
unfolding stretch_part
no_stretch falling first count = refl

pub whole_stretch : (falling : Bool) (first count : ℕ) → stretch_part falling first count count ≡ stretch_pixels falling first count
unfolding stretch_part
whole_stretch falling first count = refl

pub stretch_more : (falling : Bool) (first count n p : ℕ) → p ≡ first + place falling count n → stretch_part falling first count (n + 1) ≡ stretch_part falling first count n ++ p ∷ []
unfolding stretch_part
stretch_more falling first count n p is =
    map-range_with_len_more (λ j. first + place falling count j) 0 n n (omega arith) ∙ ap (λ k. map (λ j. first + place falling count j) (range_with_len 0 n) ++ k ∷ []) (sym is)

-- one piece more
pub pieces_more : (f : ℕ → List ℕ) (n : ℕ) → flat_map f (range_with_len 0 (n + 1)) ≡ flat_map f (range_with_len 0 n) ++ f n
pieces_more f n = go 0 n n (omega arith)
  where
    go : (i m k : ℕ) → i + m ≡ k → flat_map f (range_with_len i (m + 1)) ≡ flat_map f (range_with_len i m) ++ f k
    go i zero k is = ap (λ j. f j ++ []) (let z : i ≡ k = omega arith in z) ∙ append-nil (f k)
    go i (suc m) k is = ap (λ j. flat_map f (range_with_len i j)) (let z : suc m + 1 ≡ suc (m + 1) = omega arith in z)
        ∙ ap (λ l. f i ++ l) (go (i + 1) m k (omega arith)) ∙ sym (append_assoc (f i) (flat_map f (range_with_len (i + 1) m)) (f k))
