-- A table of names, kept by a map, is read and written as a function.
use Rattle.std.proofs.Common.{◌≡◌, ℕ, List, [], ◌∷◌, map, Bool, true, false, cond, Option, Some, nat_eq, unwrap_or, refl, ap, sym, ◌∙◌}
use Rattle.std.specs.Cmp.Lexicographic.{pointwise, bytes_decides, nat_list_eq_equiv}
use Rattle.std.specs.Map.{lookup, KeepsOthers}
use Rattle.std.proofs.Math.Path.{fun_ext}
use Rattle.script_names.specs.Naming.{naming, with_name}

module _ {K : Type 0} (text : K → List ℕ) where
  abbrev pub seen : List (K × ℕ) → List (List ℕ × ℕ)
  seen entries = map (λ e. (text e.0, e.1)) entries

  abbrev pub is_text : List ℕ → K → Bool
  is_text name k = pointwise nat_eq name (text k)

  found_step : (b : Bool) (v rest : ℕ) (found : Option ℕ) → rest ≡ unwrap_or found 32 → cond b v rest ≡ unwrap_or (cond b (Some v) found) 32
  found_step true v rest found e = refl
  found_step false v rest found e = e

  -- a name stands for what is found at it, and for 32 where nothing is
  pub naming_found : (entries : List (K × ℕ)) (name : List ℕ) → naming (seen entries) name ≡ unwrap_or (lookup (is_text name) entries) 32
  naming_found [] name = refl
  naming_found (e ∷ entries) name = found_step (is_text name e.0) e.1 _ (lookup (is_text name) entries) (naming_found entries name)

  by_test : (b : Bool) (v w old : ℕ) → (b ≡ true → w ≡ v) → (b ≡ false → w ≡ old) → w ≡ cond b v old
  by_test true v w old same other = same refl
  by_test false v w old same other = other refl

  -- a map with a slot at a name, and all else as it was
  pub named_is : (old new : List (K × ℕ)) (key : K) (slot : ℕ)
      → lookup (is_text (text key)) new ≡ Some slot
      → KeepsOthers (λ x. is_text (text x)) (is_text (text key)) old new
      → naming (seen new) ≡ with_name (naming (seen old)) (text key) slot
  unfolding KeepsOthers
  named_is old new key slot put kept =
      fun_ext (λ other. by_test (pointwise nat_eq other (text key)) slot (naming (seen new) other) (naming (seen old) other)
      (λ found.
      let same : other ≡ text key = (bytes_decides other (text key)).0 found in
      naming_found new other ∙ ap (λ (n : List ℕ). unwrap_or (lookup (is_text n) new) 32) same ∙ ap (λ (o : Option ℕ). unwrap_or o 32) put)
      (λ apart.
      naming_found new other
      ∙ ap (λ (o : Option ℕ). unwrap_or o 32) (kept (is_text other)
      (λ x y h. nat_list_eq_equiv.congr other (text x) (text y) h)
      (λ k h. nat_list_eq_equiv.symm other (text k) ∙ sym (nat_list_eq_equiv.congr (text key) (text k) other h) ∙ nat_list_eq_equiv.symm (text key) other ∙ apart))
      ∙ sym (naming_found old other)))
