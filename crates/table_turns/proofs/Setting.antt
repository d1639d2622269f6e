-- Table words that are set one after another.
use Rattle.std.proofs.Common.{◌≡◌, ℕ, ◌+◌, ◌-◌, ◌<◌, ◌≤◌, inl, inr, ⊎_elim, List, length, set, sym, refl, ap, ◌∙◌, arith}
use Rattle.std.specs.Prelude.{slice_index}
use Rattle.std.proofs.lemmas.Bool.{cases_lt}
use Rattle.std.proofs.lemmas.List.{get_or-set_same, get_or-set_other, length-set}
use Rattle.table_turns.specs.Writes.{Sets}

pub none_set : (first : ℕ) (values : ℕ → ℕ) (t : List ℕ) → Sets first 0 values t t
none_set first values t = record { long = refl; set = λ k lt. absurd (omega arith); others = λ i away. refl }

pub set_more : (first n x v : ℕ) (values : ℕ → ℕ) (t u w : List ℕ) → Sets first n values t u → w ≡ set u x v → x ≡ first + n → first + n < length t → v ≡ values n → Sets first (n + 1) values t w
set_more first n x v values t u w has is at within value = let long = has.long in record {
  long = ap length is ∙ length-set u x v ∙ has.long;
  set = λ k lt. ap (λ l. slice_index l (first + k)) is ∙ ⊎_elim
      (λ (low : k < n). get_or-set_other u x (first + k) v 0 (λ e. absurd (omega arith)) ∙ has.set k low)
      (λ (high : n ≤ k). let same : k ≡ n = omega arith in
      ap (slice_index (set u x v)) (let z : first + k ≡ x = omega arith in z) ∙ get_or-set_same u x v 0 (omega arith) ∙ value ∙ ap values (sym same))
      (cases_lt k n);
  others = λ i away. ap (λ l. slice_index l i) is ∙ ⊎_elim
      (λ (before : i < first). get_or-set_other u x i v 0 (λ e. absurd (omega arith)) ∙ has.others i (inl before))
      (λ (past : first + (n + 1) ≤ i). get_or-set_other u x i v 0 (λ e. absurd (omega arith)) ∙ has.others i (inr (omega arith)))
      away;
}

pub set_one : (x v : ℕ) (t w : List ℕ) → w ≡ set t x v → x < length t → Sets x 1 (λ k. v) t w
set_one x v t w is within = let s = set_more x 0 x v (λ k. v) t t w (none_set x (λ k. v) t) is (omega arith) (omega arith) refl in
    record { long = s.long; set = λ k lt. s.set k (omega arith); others = λ i away. s.others i away }

-- words side by side
pub set_both : (first n m second : ℕ) (f g h : ℕ → ℕ) (t u w : List ℕ) → Sets first n f t u → Sets second m g u w → second ≡ first + n → ((k : ℕ) → k < n → f k ≡ h k) → ((k : ℕ) → k < m → g k ≡ h (n + k)) → Sets first (n + m) h t w
set_both first n m second f g h t u w a b at low high = record {
  long = b.long ∙ a.long;
  set = λ k lt. ⊎_elim
      (λ (before : k < n). b.others (first + k) (inl (omega arith)) ∙ a.set k before ∙ low k before)
      (λ (past : n ≤ k).
      ap (slice_index w) (let z : first + k ≡ second + (k - n) = omega arith in z) ∙ b.set (k - n) (omega arith) ∙ high (k - n) (omega arith) ∙ ap h (let z : n + (k - n) ≡ k = omega arith in z))
      (cases_lt k n);
  others = λ i away. ⊎_elim
      (λ (before : i < first). b.others i (inl (omega arith)) ∙ a.others i (inl before))
      (λ (past : first + (n + m) ≤ i). b.others i (inr (omega arith)) ∙ a.others i (inr (omega arith)))
      away;
}
