-- What is read and written piece by piece.
use Rattle.std.proofs.Common.{◌≡◌, ℕ, ◌+◌, ◌<◌, List, [], ◌++◌, length, take, drop, Option, None, Some, refl, ap, sym, ◌∙◌, append_assoc, rules}
use Rattle.std.specs.Prelude.{⊤}
use Rattle.std.proofs.lemmas.List.{take-append-drop}
use Rattle.qws_base.specs.Outside.{GaveFirst, left_after, with_bytes, IsAll}
use Rattle.std.proofs.Math.Seq.{take-add}

-- where the source told its bytes, these are the first of them, and the others are left
abbrev pub Gathered : Option (List ℕ) → List ℕ → Option (List ℕ) → Type 0
Gathered None bytes now = ⊤
Gathered (Some all) bytes now = (rest : List ℕ) × (all ≡ bytes ++ rest) × (now ≡ Some rest)

pub none_gathered : (left : Option (List ℕ)) → Gathered left [] left
none_gathered None = tt
none_gathered (Some all) = (all, refl, refl)

pub gathered_more : (before now after : Option (List ℕ)) (bytes piece : List ℕ) (n : ℕ) → Gathered before bytes now → GaveFirst now piece n → after ≡ left_after n now → Gathered before (bytes ++ take n piece) after
gathered_more None now after bytes piece n had gave is = tt
gathered_more (Some all) None after bytes piece n had gave is = let e = had.2 in cc
gathered_more (Some all) (Some left) after bytes piece n had gave is =
    let same : left ≡ had.0 = let e = had.2 in cc in
    (drop n left, had.1 ∙ sym (append_assoc bytes (take n piece) (drop n left) ∙ ap (λ x. bytes ++ (x ++ drop n left)) gave.1 ∙ ap (λ x. bytes ++ x) (take-append-drop n left ∙ same)), is)

pub all_gathered : (before now after : Option (List ℕ)) (bytes piece : List ℕ) → Gathered before bytes now → GaveFirst now piece 0 → 0 < length piece → after ≡ left_after 0 now → IsAll before bytes after
all_gathered None now after bytes piece had gave some is = tt
all_gathered (Some all) None after bytes piece had gave some is = let e = had.2 in cc
all_gathered (Some all) (Some left) after bytes piece had gave some is =
    let none : left ≡ [] = gave.2 refl some in
    let same : left ≡ had.0 = let e = had.2 in cc in
    (had.1 ∙ ap (λ x. bytes ++ x) (sym same ∙ none) ∙ search rules, is ∙ ap Some none)

pub more_written : (old now after : Option (List ℕ)) (bytes rest : List ℕ) (at n : ℕ) → rest ≡ drop at bytes → now ≡ with_bytes (take at bytes) old → after ≡ with_bytes (take n rest) now → after ≡ with_bytes (take (at + n) bytes) old
more_written None now after bytes rest at n part is then = then ∙ ap (with_bytes (take n rest)) is
more_written (Some x) now after bytes rest at n part is then = then ∙ ap (with_bytes (take n rest)) is ∙ ap Some (append_assoc x (take at bytes) (take n rest) ∙ ap (λ y. x ++ (take at bytes ++ take n y)) part ∙ ap (λ y. x ++ y) (sym (take-add at n bytes)))
