-- The first of a client's calls, one more, and all.
use Rattle.std.proofs.Common.{◌≡◌, ℕ, ◌+◌, ◌≤◌, suc, List, [], ◌∷◌, ◌++◌, length, Option, None, Some, refl, ap, sym, subst, arith, add-zero}
use Rattle.std.specs.Prelude.{slice_get}
use Rattle.qws_base.specs.Histories.{Entry}
use Rattle.script_grammar.specs.Session.{Session, lines_by, call_line}
use Rattle.script_grammar.specs.declared.lines.CallLine.{CallLine}
use Rattle.script_names.specs.Naming.{Naming, no_names, learned_by_entry, names_after}
use Rattle.script_names.specs.Meaning.{meaning}
use Rattle.session_script.specs.Calls.{names_by, IsCallOf, IsCallsFrom, IsFrontFrom, IsFront}
use Rattle.session_script.specs.Laws.{WholeWhereAll}

none_some : {A B : Type 0} (y : A) → ◌≡◌ {A = Option A} None (Some y) → B
none_some y e = absurd (let h : ⊥ = cc in h)

some_same : {A : Type 0} (x y : A) → ◌≡◌ {A = Option A} (Some x) (Some y) → x ≡ y
some_same x y e = cc

-- ---- one call more

front_from : (said : Session) (client k : ℕ) (slots : Naming) (lines : List CallLine) (entries : List Entry) (line : CallLine) (e : Entry) → IsFrontFrom said client k slots lines entries → slice_get lines (length entries) ≡ Some line
    → IsCallOf client (k + length entries) (meaning said (names_after slots lines entries) line.call) e → IsFrontFrom said client k slots lines (entries ++ e ∷ [])
front_from said client k slots [] [] line e front at is = none_some line at
front_from said client k slots [] (f ∷ entries) line e front at is = absurd front
front_from said client k slots (l ∷ []) [] line e front at is =
    (subst (λ (m : ℕ). IsCallOf client m (meaning said slots l.call) e) (add-zero k) (subst (λ (x : CallLine). IsCallOf client (k + 0) (meaning said slots x.call) e) (sym (some_same l line at)) is), tt)
front_from said client k slots (l ∷ next ∷ lines) [] line e front at is =
    (subst (λ (m : ℕ). IsCallOf client m (meaning said slots l.call) e) (add-zero k) (subst (λ (x : CallLine). IsCallOf client (k + 0) (meaning said slots x.call) e) (sym (some_same l line at)) is), tt)
front_from said client k slots (l ∷ lines) (f ∷ entries) line e front at is =
    let n : k + suc (length entries) ≡ (k + 1) + length entries = omega arith in (
      front.0,
      front_from said client (k + 1) (learned_by_entry slots l.call f) lines entries line e front.1 at
          (subst (λ (m : ℕ). IsCallOf client m (meaning said (names_after (learned_by_entry slots l.call f) lines entries) line.call) e) n is),
    )

-- the first calls and the next one, as it is meant after them
pub front_more : (said : Session) (client : ℕ) (entries : List Entry) (line : CallLine) (e : Entry) → IsFront said entries client → call_line said client (length entries) ≡ Some line → IsCallOf client (length entries) (meaning said (names_by said entries client) line.call) e → IsFront said (entries ++ e ∷ []) client
front_more said client entries line e front at is =
    let zero_n : length entries ≡ 0 + length entries = omega arith in
    front_from said client 0 no_names (lines_by client said.calls) entries line e front at (subst (λ (m : ℕ). IsCallOf client m (meaning said (names_by said entries client) line.call) e) zero_n is)

names_from : (slots : Naming) (lines : List CallLine) (entries : List Entry) (line : CallLine) (e : Entry) → slice_get lines (length entries) ≡ Some line → names_after slots lines (entries ++ e ∷ []) ≡ learned_by_entry (names_after slots lines entries) line.call e
names_from slots [] [] line e at = none_some line at
names_from slots [] (f ∷ entries) line e at = none_some line at
names_from slots (l ∷ []) [] line e at = ap (λ (x : CallLine). learned_by_entry slots x.call e) (some_same l line at)
names_from slots (l ∷ next ∷ lines) [] line e at = ap (λ (x : CallLine). learned_by_entry slots x.call e) (some_same l line at)
names_from slots (l ∷ lines) (f ∷ entries) line e at = names_from (learned_by_entry slots l.call f) lines entries line e at

-- and the names after it
pub names_more : (said : Session) (client : ℕ) (entries : List Entry) (line : CallLine) (e : Entry) → call_line said client (length entries) ≡ Some line → names_by said (entries ++ e ∷ []) client ≡ learned_by_entry (names_by said entries client) line.call e
names_more said client entries line e at = names_from no_names (lines_by client said.calls) entries line e at

-- ---- no calls, and all

pub front_of_none : (said : Session) (client : ℕ) → IsFront said [] client
front_of_none said client = none_in (lines_by client said.calls)
  where
    none_in : (lines : List CallLine) → IsFrontFrom said client 0 no_names lines []
    none_in [] = tt
    none_in (line ∷ lines) = tt

within_from : (said : Session) (client k : ℕ) (slots : Naming) (lines : List CallLine) (entries : List Entry) → IsFrontFrom said client k slots lines entries → length entries ≤ length lines
within_from said client k slots [] [] front = omega arith
within_from said client k slots [] (e ∷ entries) front = absurd front
within_from said client k slots (line ∷ lines) [] front = omega arith
within_from said client k slots (line ∷ lines) (e ∷ entries) front =
    let later = within_from said client (k + 1) (learned_by_entry slots line.call e) lines entries front.1 in omega arith

pub front_within : (said : Session) (client : ℕ) (entries : List Entry) → IsFront said entries client → length entries ≤ length (lines_by client said.calls)
front_within said client entries front = within_from said client 0 no_names (lines_by client said.calls) entries front

whole_from : (said : Session) (client k : ℕ) (slots : Naming) (lines : List CallLine) (entries : List Entry) → IsFrontFrom said client k slots lines entries → length entries ≡ length lines → IsCallsFrom said client k slots lines entries
whole_from said client k slots [] [] front many = tt
whole_from said client k slots [] (e ∷ entries) front many = absurd front
whole_from said client k slots (line ∷ lines) [] front many = absurd (omega arith)
whole_from said client k slots (line ∷ lines) (e ∷ entries) front many = (front.0, whole_from said client (k + 1) (learned_by_entry slots line.call e) lines entries front.1 (omega arith))

all_from : (said : Session) (client k : ℕ) (slots : Naming) (lines : List CallLine) (entries : List Entry) → IsCallsFrom said client k slots lines entries → IsFrontFrom said client k slots lines entries × (length entries ≡ length lines)
all_from said client k slots [] [] whole = (tt, refl)
all_from said client k slots [] (e ∷ entries) whole = absurd whole
all_from said client k slots (line ∷ lines) [] whole = absurd whole
all_from said client k slots (line ∷ lines) (e ∷ entries) whole =
    let later = all_from said client (k + 1) (learned_by_entry slots line.call e) lines entries whole.1 in ((whole.0, later.0), ap suc later.1)

pub whole_where_all : WholeWhereAll
whole_where_all said entries client = (
  λ whole. all_from said client 0 no_names (lines_by client said.calls) entries whole,
  λ all. whole_from said client 0 no_names (lines_by client said.calls) entries all.0 all.1,
)
