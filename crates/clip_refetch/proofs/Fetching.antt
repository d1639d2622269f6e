-- Rectangles that are fetched one after another.
use Rattle.std.proofs.Common.{◌≡◌, ℕ, ◌+◌, List, [], ◌∷◌, ◌++◌, length-append, sym, refl, ap, ◌∙◌, Some}
use Rattle.std.proofs.lemmas.List.{map-append}
use mathlib.Core.Option.{some-ne-none}
use Rattle.qws_base.specs.declared.points.Rect.{Rect}
use Rattle.region_table.specs.Packing.{unpacked}
use Rattle.fb_words.specs.declared.known.Looked.{Looked}
use Rattle.fb_words.specs.Clips.{look_of}
use Rattle.fb_words.proofs.Places.{each_of}
use Rattle.clip_refetch.specs.Clips.{AreFetched}

pub none_fetched : (looked : List Looked) (first : ℕ) → AreFetched looked first 0 []
none_fetched looked first = record { words = []; long = refl; found = λ j w e. absurd (some-ne-none w (sym e)); are = refl }

pub more_fetched : (before looked : List Looked) (first count word : ℕ) (rects : List Rect) → AreFetched before first count rects
    → ((x v : ℕ) → look_of before x ≡ Some v → look_of looked x ≡ Some v) → look_of looked (first + count) ≡ Some word → AreFetched looked first (count + 1) (rects ++ unpacked word ∷ [])
more_fetched before looked first count word rects are stays found = record {
  words = are.words ++ word ∷ [];
  long = length-append are.words (word ∷ []) ∙ ap (λ n. n + 1) are.long;
  found = each_of (λ j w. look_of looked (first + j) ≡ Some w) are.words word (λ j w e. stays (first + j) w (are.found j w e)) (ap (λ n. look_of looked (first + n)) are.long ∙ found);
  are = ap (λ l. l ++ unpacked word ∷ []) are.are ∙ sym (map-append unpacked are.words (word ∷ []));
}

pub still_fetched : (before looked : List Looked) (first count : ℕ) (rects : List Rect) → AreFetched before first count rects
    → ((x v : ℕ) → look_of before x ≡ Some v → look_of looked x ≡ Some v) → AreFetched looked first count rects
still_fetched before looked first count rects are stays = record { words = are.words; long = are.long; found = λ j w e. stays (first + j) w (are.found j w e); are = are.are }
