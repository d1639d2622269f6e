-- The numbers that digits stand for, in any base.
use Rattle.std.proofs.Common.{◌≡◌, ℕ, ◌+◌, ◌*◌, ◌-◌, ◌<◌, ◌≤◌, ◌^◌, suc, List, [], ◌∷◌, length, take, drop, get_or, Bool, true, false, ◌&&◌, arith, pow-suc, refl, ap, sym, ◌∙◌, subst}
use Rattle.std.specs.List.{list_all}
use Rattle.std.specs.Char.{digit_value}
use Rattle.std.specs.Str.Parse.{digits_value, digits_value_after}
use Rattle.std.proofs.Math.Nat.{one-le-pow, pow-le-pow_right}
use Rattle.std.proofs.Math.Seq.{take-length}

digit_more : (radix n d k : ℕ) → n < radix ^ k → d < radix → n * radix + d < radix ^ suc k
digit_more radix n d k h small = rw pow-suc (grind arith)

-- the digits of a word have been read up to a rest
pub record IsReadTo (radix : ℕ) (test : ℕ → Bool) (most : ℕ) (word : List ℕ) (n : ℕ) (rest : List ℕ) : Type 0 where
  pub value : digits_value_after radix n rest ≡ digits_value radix word
  pub each : list_all test rest ≡ true
  pub few : length rest ≤ most
  pub small : n < radix ^ (most - length rest)

pub read_none : (radix : ℕ) (test : ℕ → Bool) (most : ℕ) (word : List ℕ) → 0 < radix → list_all test word ≡ true → length word ≤ most → IsReadTo radix test most word 0 word
read_none radix test most word some each few = record { value = refl; each = each; few = few; small = one-le-pow (most - length word) radix some }

both : (a b : Bool) → (a && b) ≡ true → (a ≡ true) × (b ≡ true)
both true b h = (refl, h)
both false b h = cc

pub read_digit : (radix : ℕ) (test : ℕ → Bool) (most : ℕ) (word : List ℕ) (n d : ℕ) (rest : List ℕ) → 0 < length rest → d ≡ digit_value (get_or rest 0 0) → d < radix → IsReadTo radix test most word n rest → IsReadTo radix test most word (n * radix + d) (take (length rest - 1) (drop 1 rest))
read_digit radix test most word n d [] some is small h = absurd (omega arith)
read_digit radix test most word n d (c ∷ rest) some is small h =
    let same : take (suc (length rest) - 1) rest ≡ rest = ap (λ k. take k rest) (let e : suc (length rest) - 1 ≡ length rest = omega arith in e) ∙ take-length rest in
    subst (IsReadTo radix test most word (n * radix + d)) (sym same) (record {
      value = ap (λ v. digits_value_after radix (n * radix + v) rest) is ∙ h.value;
      each = (both (test c) (list_all test rest) h.each).1;
      few = omega (arith, h.few);
      small = subst (λ k. n * radix + d < radix ^ k) (let e : suc (most - suc (length rest)) ≡ most - length rest = omega (arith, h.few) in e) (digit_more radix n d (most - suc (length rest)) h.small small);
    })

-- a number of few digits is small
pub few_digits : (radix n k top : ℕ) → 0 < radix → n < radix ^ k → k ≤ top → n < radix ^ top
few_digits radix n k top some h few = omega (arith, pow-le-pow_right some few)
