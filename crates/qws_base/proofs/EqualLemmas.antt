-- Values of which `==` is derived are the same where it passes.
use Rattle.std.proofs.Common.{◌≡◌, Bool, true, false, ◌&&◌, List, [], ◌∷◌, refl, sym, ap, subst, inl, inr, nat_eq}
use Rattle.std.specs.Prelude.{⊤}
use Rattle.std.specs.Bool.{Decides}
use Rattle.std.specs.Cmp.{IsEquivalence}
use Rattle.std.specs.Cmp.Lexicographic.{pointwise}
use Rattle.std.specs.Ordering.{int_eq}
use Rattle.std.specs.Cmp.Derive.{of_values}
use Rattle.std.proofs.lemmas.Bool.{true≢false, and_parts}
use Rattle.std.proofs.lemmas.Bool.Decides.{Decides-and, Decides-eqb, Decides-int_eq, Decides-like}
use Rattle.std.proofs.lemmas.Slice.Eq.{slice_eq-Decides}
use denote.Struct.Field.{Field}
use denote.Enum.Declared.{Record, Choice, values_one}
use denote.Enum.Compared.{Each, by}
use mathlib.Core.Bool.{beq}
use Rattle.qws_base.proofs.Booleans.{equal_from}
use Rattle.qws_base.proofs.Integers.{eq_told}
use Rattle.qws_base.specs.Equal.{same_rect}
use Rattle.qws_base.specs.Equalities.{EqualLaw, TellsSame}
use Rattle.qws_base.specs.declared.points.Point.{Point}
use Rattle.qws_base.specs.declared.points.Rect.{Rect}
use Rattle.qws_base.specs.contracts.commands.CommandPartialEq.TheImpl as command
use Rattle.qws_base.specs.contracts.replies.EventPartialEq.TheImpl as event
use Rattle.qws_base.specs.contracts.replies.ReplyPartialEq.TheImpl as reply
use Rattle.qws_base.specs.contracts.replies.RefusalPartialEq.TheImpl as refusal
use Rattle.qws_base.specs.contracts.replies.PaintReplyPartialEq.TheImpl as paint_reply
use Rattle.qws_base.specs.contracts.journals.JournalEntryPartialEq.TheImpl as journal_entry
use Rattle.qws_base.specs.contracts.journals.BookEntryPartialEq.TheImpl as book_entry
use Rattle.qws_base.specs.contracts.windows.WindowViewPartialEq.TheImpl as window
use Rattle.qws_base.specs.contracts.windows.CursorPartialEq.TheImpl as cursor
use Rattle.qws_base.specs.contracts.commands.CommandEq.TheImpl.Laws as command_laws
use Rattle.qws_base.specs.contracts.replies.EventEq.TheImpl.Laws as event_laws
use Rattle.qws_base.specs.contracts.replies.ReplyEq.TheImpl.Laws as reply_laws
use Rattle.qws_base.specs.contracts.replies.RefusalEq.TheImpl.Laws as refusal_laws
use Rattle.qws_base.specs.contracts.replies.PaintReplyEq.TheImpl.Laws as paint_reply_laws
use Rattle.qws_base.specs.contracts.journals.JournalEntryEq.TheImpl.Laws as journal_entry_laws
use Rattle.qws_base.specs.contracts.journals.BookEntryEq.TheImpl.Laws as book_entry_laws
use Rattle.qws_base.specs.contracts.windows.WindowViewEq.TheImpl.Laws as window_laws
use Rattle.qws_base.specs.contracts.windows.CursorEq.TheImpl.Laws as cursor_laws
use Rattle.qws_base.specs.contracts.commands.Command.{enum as command_enum}
use Rattle.qws_base.specs.contracts.replies.Event.{enum as event_enum}
use Rattle.qws_base.specs.contracts.replies.Reply.{enum as reply_enum}
use Rattle.qws_base.specs.contracts.replies.Refusal.{enum as refusal_enum}
use Rattle.qws_base.specs.contracts.replies.PaintReply.{enum as paint_reply_enum}

-- values that pass a test are the same
record IsSound {X : Type 0} (test : X → X → Bool) : Type 0 where
  same : (x y : X) → test x y ≡ true → x ≡ y

-- ---- enums

-- the tests of each variant's fields
abbrev AreSound : (fields : List (List Field)) → Each Bool fields → Type 0
AreSound [] tests = ⊤
AreSound (some ∷ fields) tests = IsSound tests.0 × AreSound fields tests.1

choices_same : (fields : List (List Field)) (tests : Each Bool fields) → AreSound fields tests → (c d : Choice fields) → by false false fields tests c d ≡ true → c ≡ d
choices_same [] tests all c d h = absurd c
choices_same (some ∷ fields) tests all (inl x) (inl y) h = ap inl (all.0.same x y h)
choices_same (some ∷ fields) tests all (inl x) (inr y) h = absurd (true≢false (sym h))
choices_same (some ∷ fields) tests all (inr x) (inl y) h = absurd (true≢false (sym h))
choices_same (some ∷ fields) tests all (inr x) (inr y) h = ap inr (choices_same fields tests.1 all.1 x y h)

values_same : (N : Record) (tests : Each Bool N.parts) → AreSound N.parts tests → IsSound (of_values N false false tests)
values_same N tests all = record { same = λ a b h. values_one N a b (choices_same N.parts tests all (N.as_values a) (N.as_values b) h) }

-- ---- fields

-- the test of two rectangles
pub same_four : (a b : Rect) → Decides (same_rect a b) (a ≡ b)
same_four a b =
    Decides-like _ (λ p. rw (p.0, p.1.0, p.1.1.0, p.1.1.1) refl) (λ e. (ap (λ r. r.x) e, (ap (λ r. r.y) e, (ap (λ r. r.w) e, ap (λ r. r.h) e))))
    (Decides-and _ _ (Decides-int_eq a.x b.x) (Decides-and _ _ (Decides-int_eq a.y b.y) (Decides-and _ _ (Decides-eqb a.w b.w) (Decides-eqb a.h b.h))))

no_field : IsSound (λ (x y : Unit {0}). true)
no_field = record { same = λ x y h. refl }

one : {A : Type 0} {E : A → A → Bool} → IsSound E → IsSound (λ (x y : A × Unit {0}). E x.0 y.0)
one s = record { same = λ x y h. let e = s.same x.0 y.0 h in λ i. (e i, tt) }

more : {A B : Type 0} {E : A → A → Bool} {F : B → B → Bool} → IsSound E → IsSound F → IsSound (λ (x y : A × B). E x.0 y.0 && F x.1 y.1)
more s t = record { same = λ x y h. let p = and_parts _ _ h in let a = s.same x.0 y.0 p.0 in let b = t.same x.1 y.1 p.1 in λ i. (a i, b i) }

numbers : IsSound nat_eq
numbers = record { same = λ x y h. (Decides-eqb x y).0 h }

integers : IsSound int_eq
integers = record { same = eq_told }

booleans : IsSound beq
booleans = record { same = equal_from }

points : IsSound (λ (p q : Point). int_eq p.x q.x && int_eq p.y q.y)
points = record { same = λ p q h. let a = and_parts _ _ h in rw (eq_told p.x q.x a.0, eq_told p.y q.y a.1) refl }

lists : IsSound (pointwise nat_eq)
lists = record { same = λ x y h. (slice_eq-Decides Decides-eqb x y true (sym h)).0 refl }

rects : IsSound (pointwise same_rect)
rects = record { same = λ x y h. (slice_eq-Decides same_four x y true (sym h)).0 refl }

-- ---- enums

events : IsSound event.ghosts.eq
events = values_same event_enum _ (more lists (more numbers (more lists (one lists))), (one numbers, tt))

refusals : IsSound refusal.ghosts.eq
refusals = values_same refusal_enum _ (let n = one numbers in let p = more numbers n in let z = no_field in
    (n, (p, (z, (n, (n, (p, (more integers (one integers), (p, (z, (z, (z, (z, (z, (n, (n, (z, tt)))))))))))))))))

replies : IsSound reply.ghosts.eq
replies = values_same reply_enum _ (one numbers, (no_field, (one numbers, (one booleans, (one events, (one refusals, tt))))))

paint_replies : IsSound paint_reply.ghosts.eq
paint_replies = values_same paint_reply_enum _ (one numbers, (no_field, tt))

commands : IsSound command.ghosts.eq
commands = values_same command_enum _
    (one numbers, (one numbers, (more numbers (more points (one rects)), (more numbers (one points), (one numbers, (one numbers, (more numbers (more numbers (one lists)), (more integers (one integers), (one booleans, (one lists, (one lists, (more lists (more lists (one lists)), (no_field, (one lists, tt))))))))))))))

-- ---- structs

journal_entries : IsSound journal_entry.ghosts.eq
journal_entries = record {
  same = λ a b h. let p = and_parts _ _ h in let q = and_parts _ _ p.1 in let r = and_parts _ _ q.1 in
      rw (numbers.same a.number b.number p.0, numbers.same a.client b.client q.0, commands.same a.command b.command r.0, replies.same a.reply b.reply r.1) refl;
}

book_entries : IsSound book_entry.ghosts.eq
book_entries = record {
  same = λ a b h. let p = and_parts _ _ h in let q = and_parts _ _ p.1 in let r = and_parts _ _ q.1 in
      rw (numbers.same a.stamp b.stamp p.0, numbers.same a.slot b.slot q.0, numbers.same a.tag b.tag r.0, paint_replies.same a.reply b.reply r.1) refl;
}

windows : IsSound window.ghosts.eq
windows = record {
  same = λ a b h. let p = and_parts _ _ h in let q = and_parts _ _ p.1 in let r = and_parts _ _ q.1 in let s = and_parts _ _ r.1 in
      rw (numbers.same a.slot b.slot p.0, numbers.same a.owner b.owner q.0, numbers.same a.layer b.layer r.0, points.same a.origin b.origin s.0, rects.same a.rects b.rects s.1) refl;
}

cursors : IsSound cursor.ghosts.eq
cursors = record {
  same = λ a b h. let p = and_parts _ _ h in let q = and_parts _ _ p.1 in let r = and_parts _ _ q.1 in let s = and_parts _ _ r.1 in let t = and_parts _ _ s.1 in
      rw (numbers.same a.x b.x p.0, numbers.same a.y b.y q.0, numbers.same a.w b.w r.0, numbers.same a.h b.h s.0, lists.same a.cells b.cells t.0, booleans.same a.shown b.shown t.1) refl;
}

-- ---- the law

tells : {X : Type 0} (test : X → X → Bool) → IsSound test → IsEquivalence test → TellsSame test
tells test sound law a b = (λ h. sound.same a b h, λ e. subst (λ c. test a c ≡ true) e (law.refl a))

pub equal_law : EqualLaw
equal_law = record {
  commands = tells command.ghosts.eq commands command_laws.lawful.laws;
  events = tells event.ghosts.eq events event_laws.lawful.laws;
  replies = tells reply.ghosts.eq replies reply_laws.lawful.laws;
  refusals = tells refusal.ghosts.eq refusals refusal_laws.lawful.laws;
  paint_replies = tells paint_reply.ghosts.eq paint_replies paint_reply_laws.lawful.laws;
  journal_entries = tells journal_entry.ghosts.eq journal_entries journal_entry_laws.lawful.laws;
  book_entries = tells book_entry.ghosts.eq book_entries book_entry_laws.lawful.laws;
  windows = tells window.ghosts.eq windows window_laws.lawful.laws;
  cursors = tells cursor.ghosts.eq cursors cursor_laws.lawful.laws;
}
