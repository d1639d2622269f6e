-- The words of some numbers.
use Rattle.std.proofs.Common.{◌≡◌, [], ◌∷◌, refl}
use Rattle.std.specs.Fmt.{digits, decimal}

pub word_0 : decimal 0 ≡ 48 ∷ []
unfolding digits
word_0 = refl

pub word_65 : decimal 65 ≡ 54 ∷ 53 ∷ []
unfolding digits
word_65 = refl

pub word_2 : decimal 2 ≡ 50 ∷ []
unfolding digits
word_2 = refl

pub word_3 : decimal 3 ≡ 51 ∷ []
unfolding digits
word_3 = refl

pub word_240 : decimal 240 ≡ 50 ∷ 52 ∷ 48 ∷ []
unfolding digits
word_240 = refl

pub word_320 : decimal 320 ≡ 51 ∷ 50 ∷ 48 ∷ []
unfolding digits
word_320 = refl
