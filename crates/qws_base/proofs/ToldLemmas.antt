-- Which events follow a command.
use Rattle.std.proofs.Common.{◌≡◌, ℕ, ◌+◌, ◌<◌, ◌≤◌, zero, suc, Bool, true, false, not, ◌&&◌, ◌||◌, if◌then◌else◌, cond, Option, None, Some, List, [], ◌∷◌, ◌++◌, map, length, refl, sym, ap, ◌∙◌, subst, arith, append_assoc}
use Rattle.std.specs.Prelude.{◌≢◌, nat_eq, All, AllPairs}
use Rattle.std.specs.List.{filter, fold, list_any, range_with_len}
use Rattle.std.specs.Option.{option_map_or, option_eq}
use Rattle.std.proofs.lemmas.Bool.{false≢true, ne_eqb}
use Rattle.std.proofs.lemmas.List.{get_or-set_same, get_or-set_other, length-set}
use Rattle.std.proofs.lemmas.List.Elements.{All-nil, All-cons, All-head, All-tail, All-weaker}
use Rattle.std.proofs.lemmas.List.Folds.{list_any-append}
use Rattle.std.proofs.lemmas.List.Kept.{AllPairs-cons, AllPairs-filter}
use Rattle.qws_base.specs.Sides.{Sides}
use Rattle.qws_base.specs.Windows.{client_of_slot}
use Rattle.qws_base.specs.Mail.{Mail, mailbox_of, is_region_of, mail_noted}
use Rattle.qws_base.specs.States.{State, is_refused}
use Rattle.qws_base.specs.Stacking.{slots}
use Rattle.qws_base.specs.Steps.{answer, effect, is_modified, owner_told, completed}
use Rattle.qws_base.specs.StepLaws.{is_due, ToldLaw}
use Rattle.qws_base.specs.declared.windows.WindowView.{WindowView}
use Rattle.qws_base.specs.declared.replies.Event.{Event}
use Rattle.qws_base.specs.declared.replies.Event.TheVariants.{RegionModified}
use Rattle.qws_base.proofs.ListLemmas.{pairs_head, pairs_tail}
use Rattle.qws_base.proofs.StepLaws.{made}
use Rattle.qws_base.proofs.Booleans.{or_false}

abbrev Other : ℕ → ℕ → Type 0
Other j k = j ≢ k

abbrev note : ℕ → Event
note slot = RegionModified slot

-- due, of a slot whose pixels changed
abbrev due : List WindowView → ℕ → List Event → ℕ → Bool
due windows client box slot = option_eq nat_eq (client_of_slot windows slot) (Some client) && not (list_any (is_region_of slot) box)

abbrev box_of : Mail → ℕ → List Event
box_of mail client = mailbox_of mail.mailboxes client

-- ---- one slot

same_box : (xs : List Event) → xs ≡ xs ++ []
same_box [] = refl
same_box (x ∷ xs) = ap (λ ys. x ∷ ys) (same_box xs)

noted_box : (holds : Bool) (box : List Event) (slot : ℕ) → (if holds then box else box ++ note slot ∷ []) ≡ box ++ cond (not holds) (note slot ∷ []) []
noted_box true box slot = same_box box
noted_box false box slot = refl

equal_is : (a b : ℕ) → nat_eq a b ≡ true → a ≡ b
equal_is a b e = grind arith

differs_is : (a b : ℕ) → nat_eq a b ≡ false → b ≢ a
differs_is a b e = λ same. grind arith

told_owner : (windows : List WindowView) (mail : Mail) (client slot owner : ℕ) (same : Bool) → nat_eq owner client ≡ same → client < length mail.mailboxes
    → box_of (mail_noted mail owner slot) client ≡ box_of mail client ++ cond (same && not (list_any (is_region_of slot) (box_of mail client))) (note slot ∷ []) []
told_owner windows mail client slot owner true e below =
    let is : owner ≡ client = equal_is owner client e in
    ap (λ o. box_of (mail_noted mail o slot) client) is
    ∙ get_or-set_same mail.mailboxes client (if list_any (is_region_of slot) (box_of mail client) then box_of mail client else box_of mail client ++ note slot ∷ []) [] below
    ∙ noted_box (list_any (is_region_of slot) (box_of mail client)) (box_of mail client) slot
told_owner windows mail client slot owner false e below =
    get_or-set_other mail.mailboxes owner client (if list_any (is_region_of slot) (box_of mail owner) then box_of mail owner else box_of mail owner ++ note slot ∷ []) [] (differs_is owner client e)
    ∙ same_box (box_of mail client)

told_by : (windows : List WindowView) (mail : Mail) (client slot : ℕ) (owner : Option ℕ) → client < length mail.mailboxes
    → box_of (option_map_or (λ o. mail_noted mail o slot) owner mail) client ≡ box_of mail client ++ cond (option_eq nat_eq owner (Some client) && not (list_any (is_region_of slot) (box_of mail client))) (note slot ∷ []) []
told_by windows mail client slot None below = same_box (box_of mail client)
told_by windows mail client slot (Some owner) below = told_owner windows mail client slot owner (nat_eq owner client) refl below

as_many : (mail : Mail) (slot : ℕ) (owner : Option ℕ) → length (option_map_or (λ o. mail_noted mail o slot) owner mail).mailboxes ≡ length mail.mailboxes
as_many mail slot None = refl
as_many mail slot (Some owner) = length-set mail.mailboxes owner (if list_any (is_region_of slot) (box_of mail owner) then box_of mail owner else box_of mail owner ++ note slot ∷ [])

-- ---- the slots after it

not_held : (box : List Event) (slot other : ℕ) (t : Bool) → slot ≢ other → list_any (is_region_of other) (box ++ cond t (note slot ∷ []) []) ≡ list_any (is_region_of other) box
not_held box slot other true differs =
    list_any-append (is_region_of other) box (note slot ∷ [])
    ∙ ap (λ b. list_any (is_region_of other) box || (b || false)) (ne_eqb slot other differs)
    ∙ or_false (list_any (is_region_of other) box)
not_held box slot other false differs = ap (list_any (is_region_of other)) (sym (same_box box))

filter_alike : (p q : ℕ → Bool) (ks : List ℕ) → All (λ k. p k ≡ q k) ks → filter p ks ≡ filter q ks
filter_alike p q [] h = refl
filter_alike p q (k ∷ ks) h =
    ap (λ b. cond b (k ∷ filter p ks) (filter p ks)) (All-head (λ j. p j ≡ q j) k ks h)
    ∙ ap (λ js. cond (q k) (k ∷ js) js) (filter_alike p q ks (All-tail (λ j. p j ≡ q j) k ks h))

joined : (box : List Event) (t : Bool) (slot : ℕ) (ks : List ℕ) → (box ++ cond t (note slot ∷ []) []) ++ map note ks ≡ box ++ map note (cond t (slot ∷ ks) ks)
joined box true slot ks = append_assoc box (note slot ∷ []) (map note ks)
joined box false slot ks = ap (λ b. b ++ map note ks) (sym (same_box box))

told_all : (windows : List WindowView) (client : ℕ) (ks : List ℕ) (mail : Mail) → AllPairs Other ks → client < length mail.mailboxes
    → box_of (fold (owner_told windows) mail ks) client ≡ box_of mail client ++ map note (filter (due windows client (box_of mail client)) ks)
told_all windows client [] mail once below = same_box (box_of mail client)
told_all windows client (k ∷ ks) mail once below =
    let next : Mail = owner_told windows mail k in
    let box : List Event = box_of mail client in
    let here : Bool = due windows client (box_of mail client) k in
    let one : box_of (owner_told windows mail k) client ≡ box_of mail client ++ cond (due windows client (box_of mail client) k) (note k ∷ []) [] = told_by windows mail client k (client_of_slot windows k) below in
    told_all windows client ks (owner_told windows mail k) (pairs_tail Other k ks once) (subst (λ n. client < n) (sym (as_many mail k (client_of_slot windows k))) below)
    ∙ ap (λ b. b ++ map note (filter (due windows client b) ks)) one
    ∙ ap (λ js. (box_of mail client ++ cond (due windows client (box_of mail client) k) (note k ∷ []) []) ++ map note js)
    (filter_alike (due windows client (box_of mail client ++ cond (due windows client (box_of mail client) k) (note k ∷ []) [])) (due windows client (box_of mail client)) ks
    (All-weaker (Other k) (λ j. due windows client (box_of mail client ++ cond (due windows client (box_of mail client) k) (note k ∷ []) []) j ≡ due windows client (box_of mail client) j)
    (λ j differs. ap (λ b. option_eq nat_eq (client_of_slot windows j) (Some client) && not b) (not_held (box_of mail client) k j (due windows client (box_of mail client) k) differs)) ks (pairs_head Other k ks once)))
    ∙ joined (box_of mail client) (due windows client (box_of mail client) k) k (filter (due windows client (box_of mail client)) ks)

-- ---- all slots

twice_by : (p q : Bool) (k : ℕ) (js ks : List ℕ) (test : ℕ → Bool) → test k ≡ q → filter test js ≡ ks → filter test (cond p (k ∷ js) js) ≡ cond (p && q) (k ∷ ks) ks
twice_by true q k js ks test is e = ap (λ b. cond b (k ∷ filter test js) (filter test js)) is ∙ ap (λ xs. cond q (k ∷ xs) xs) e
twice_by false q k js ks test is e = e

-- what passes one test and then another
twice : (p q : ℕ → Bool) (ks : List ℕ) → filter q (filter p ks) ≡ filter (λ k. p k && q k) ks
twice p q [] = refl
twice p q (k ∷ ks) = twice_by (p k) (q k) k (filter p ks) (filter (λ j. p j && q j) ks) q refl (twice p q ks)

range_once : (a n : ℕ) → AllPairs Other (range_with_len a n)
range_once a zero = λ i j d l m. absurd (omega arith)
range_once a (suc n) = AllPairs-cons Other a (range_with_len (a + 1) n) (All-weaker (λ k. a + 1 ≤ k) (Other a) (λ k l. λ e. omega (arith, e)) (range_with_len (a + 1) n) (range_from (a + 1) n)) (range_once (a + 1) n)
  where
    range_from : (b m : ℕ) → All (λ k. b ≤ k) (range_with_len b m)
    range_from b zero = All-nil (λ k. b ≤ k)
    range_from b (suc m) = All-cons (λ k. b ≤ k) b (range_with_len (b + 1) m) (omega arith) (All-weaker (λ k. b + 1 ≤ k) (λ k. b ≤ k) (λ k l. omega arith) (range_with_len (b + 1) m) (range_from (b + 1) m))

slots_once : AllPairs Other slots
unfolding slots
slots_once = range_once 0 32

completed_box : (size : Sides) (before after : State) (client : ℕ) → client < length after.mail.mailboxes
    → box_of (completed size before after).mail client ≡ box_of after.mail client ++ map note (filter (is_due size before.windows after.windows client (box_of after.mail client)) slots)
completed_box size before after client below =
    told_all after.windows client (filter (is_modified size before.windows after.windows) slots) after.mail (AllPairs-filter Other (is_modified size before.windows after.windows) slots slots_once) below
    ∙ ap (λ ks. box_of after.mail client ++ map note ks) (twice (is_modified size before.windows after.windows) (due after.windows client (box_of after.mail client)) slots)

told_step : (size : Sides) (state after : State) (client : ℕ) (refused : Bool) → refused ≡ false → client < length after.mail.mailboxes
    → box_of (made state (completed size state after) refused).mail client ≡ box_of after.mail client ++ map note (filter (is_due size state.windows (made state (completed size state after) refused).windows client (box_of after.mail client)) slots)
told_step size state after client false h below = completed_box size state after client below
told_step size state after client true h below = absurd (false≢true (sym h))

pub told_law : ToldLaw
told_law size state client command other h below = told_step size state (effect state client command) other (is_refused (answer size state client command)) h below
