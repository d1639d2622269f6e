-- How many steps each client has made, and how many it may still make.
use Rattle.std.proofs.Common.{◌≡◌, ◌≢◌, ℕ, ◌+◌, ◌-◌, ◌<◌, List, [], ◌∷◌, ◌++◌, length, get_or, set, sym, refl, ap, ◌∙◌, subst, arith, length-append, length-set, get_or-set_same, get_or-set_other}
use Rattle.std.specs.Prelude.{slice_index, slice_set, sum}
use Rattle.std.proofs.lemmas.List.Sums.{sum_by-set}
use Rattle.std.proofs.lemmas.List.{get_or-append_right}
use Rattle.std.proofs.Math.ListN.{get_or-append}
use Rattle.std.proofs.lemmas.List.{get_or-replicate}
use mathlib.Core.Logic.{dite}
use native.Mathlib.Decide.{ℕ_discrete}
use Rattle.fb_words.specs.declared.known.Server.{Server}
use Rattle.fb_words.specs.Rule.{steps_of}
use Rattle.fb_words.specs.Steps.{with_limit}
use Rattle.server_desk.specs.Keeping.{AreCounted}

-- ---- a client more

abbrev pub zeros : List ℕ
zeros = 0 ∷ 0 ∷ 0 ∷ 0 ∷ 0 ∷ 0 ∷ 0 ∷ 0 ∷ 0 ∷ 0 ∷ 0 ∷ 0 ∷ 0 ∷ 0 ∷ 0 ∷ 0 ∷ []

zero_at : (c : ℕ) → c < 16 → slice_index zeros c ≡ 0
zero_at c low = get_or-replicate 16 c 0 0 low

pub none_counted : (s : Server) → s.limits ≡ [] → s.closed ≡ [] → AreCounted s zeros zeros
none_counted s limits closed = record {
  sixteen_made = refl;
  sixteen_left = refl;
  count = λ c low. zero_at c low ∙ sym (ap (λ ts. length (steps_of c 0 ts)) closed);
  limit = λ c low. absurd (let z : length s.limits ≡ 0 = ap (λ (l : List ℕ). length l) limits in omega arith);
  none_made = λ c low _. zero_at c low;
  none_left = λ c low _. zero_at c low;
}

pub one_more_counted : (s : Server) (made left : List ℕ) (limit : ℕ) → AreCounted s made left → length s.limits < 16 → AreCounted (with_limit s limit) made (slice_set left (length s.limits) limit)
one_more_counted s made left limit are few =
    let n : ℕ = length s.limits in
    let long : length (s.limits ++ limit ∷ []) ≡ n + 1 = length-append s.limits (limit ∷ []) in
    let wide = are.sixteen_left in
    record {
      sixteen_made = are.sixteen_made;
      sixteen_left = length-set left n limit ∙ are.sixteen_left;
      count = are.count;
      limit = λ c low. dite (ℕ_discrete c n)
          (λ (eq : c ≡ n). subst (λ k. slice_index made k + slice_index (set left n limit) k ≡ slice_index (s.limits ++ limit ∷ []) k) (sym eq)
          (let a = are.none_made n (omega arith) (omega arith) in
          let b = get_or-set_same left n limit 0 (omega arith) in
          let d : get_or (s.limits ++ limit ∷ []) n 0 ≡ limit = get_or-append_right s.limits (limit ∷ []) n n 0 refl (omega arith) ∙ ap (λ i. get_or (limit ∷ []) i 0) (let z : n - n ≡ 0 = omega arith in z) in
          omega arith))
          (λ (ne : c ≢ n). let low' : c < n = omega arith in
          let a = are.limit c low' in
          let b = get_or-set_other left n c limit 0 ne in
          let d = get_or-append s.limits (limit ∷ []) 0 c low' in
          omega arith);
      none_made = λ c low at. are.none_made c low (omega arith);
      none_left = λ c low at. get_or-set_other left n c limit 0 (let z : c ≢ n = omega arith in z) ∙ are.none_left c low (omega arith);
    }

-- the sum after one number changed
pub sum_set : (xs : List ℕ) (i v : ℕ) → i < length xs → sum (set xs i v) + slice_index xs i ≡ sum xs + v
sum_set xs i v low = sum_by-set (λ x. x) xs i v 0 low
