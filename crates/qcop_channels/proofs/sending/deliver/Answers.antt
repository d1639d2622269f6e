use Rattle.std.proofs.Common.{◌≡◌, ◌-◌, ◌<◌, ◌∷◌, [], ◌++◌, ℕ, List, length, take, get_or, set, replicate, None, sym, ap, subst, ◌∙◌, arith}
use Rattle.std.proofs.lemmas.List.{nil_from_length, get_or_default, length-replicate, take_all}
use Rattle.qws_base.specs.declared.replies.Event.{Event}
use Rattle.qws_base.specs.Mail.{first_full, delivered, mailbox_of, is_message}
use Rattle.qcop_channels.specs.Views.{AreDistinctBelow}
use Rattle.qcop_channels.proofs.BoxLemmas.{delivered-none, next_low, next_room, next_delivered, first_room, first_delivered, copy_is, copies_left}
use Rattle.qcop_channels.proofs.sending.deliver.Goals as goal
use Rattle.qcop_channels.proofs.sending.deliver.Goals.{in-Some-pop, in_default-pop}

pub returns-in_default : goal.returns-in_default
returns-in_default c = rw (nil_from_length c.args.receivers.now c.in_default.ensures.cases) (delivered-none c.args.message c.args.boxes.now)

pub loop-client-init : goal.loop-client-init
loop-client-init c = record {
  copies = c.requires.copies ∙ ap (λ (n : ℕ). replicate n c.args.message) (let split = c.in-Some.ensures.cases.1 in omega arith);
  boxes = delivered-none c.args.message c.args.boxes.now;
}

pub bounds-boxes-client : goal.bounds-boxes-client
bounds-boxes-client c =
    let clients : AreDistinctBelow 16 (c.in-Some.first.now ∷ c.in-Some.others.now) = subst (AreDistinctBelow 16) c.in-Some.ensures.cases.0 c.requires.receivers in
    let room : first_full c.args.boxes.now (c.in-Some.first.now ∷ c.in-Some.others.now) ≡ None = ap (first_full c.args.boxes.now) (sym c.in-Some.ensures.cases.0) ∙ c.requires.room in
    omega (arith, next_low c.args.message c.in-Some.first.now c.in-Some.others.now c.args.boxes.now clients c.requires.boxes room c.loop-client.client-index c.loop-client-test.true)

pub put-requires-clause-message : goal.put-requires-clause-message
put-requires-clause-message c =
    let left = length c.in-Some.others.now - c.loop-client.client-index in
    let long : c.loop-client.copies.len ≡ left = c.loop-client.copies.ok.0 ∙ ap length c.loop-client.invariant.copies ∙ length-replicate left c.args.message in
    let some : 0 < left = omega arith in
    let copy : c.in-Some-pop.copy ≡ get_or c.loop-client.copies.items (c.loop-client.copies.len - 1) c.args.message = let last = c.in-Some-pop.ensures.value c.args.message (omega arith) in cc in
    ap is_message (copy ∙ ap (λ (n : ℕ). get_or c.loop-client.copies.items (n - 1) c.args.message) long ∙ copy_is c.loop-client.copies.items left c.args.message c.args.message c.loop-client.invariant.copies some) ∙ c.requires.message

pub put-requires-clause-room : goal.put-requires-clause-room
put-requires-clause-room c =
    let clients : AreDistinctBelow 16 (c.in-Some.first.now ∷ c.in-Some.others.now) = subst (AreDistinctBelow 16) c.in-Some.ensures.cases.0 c.requires.receivers in
    let room : first_full c.args.boxes.now (c.in-Some.first.now ∷ c.in-Some.others.now) ≡ None = ap (first_full c.args.boxes.now) (sym c.in-Some.ensures.cases.0) ∙ c.requires.room in
    let low = next_low c.args.message c.in-Some.first.now c.in-Some.others.now c.args.boxes.now clients c.requires.boxes room c.loop-client.client-index c.loop-client-test.true in
    rw (get_or_default c.loop-client.boxes (get_or c.in-Some.others.now c.loop-client.client-index 0) c.index-boxes-client.result [] (omega arith), c.loop-client.invariant.boxes)
    (next_room c.args.message c.in-Some.first.now c.in-Some.others.now c.args.boxes.now clients c.requires.boxes room c.loop-client.client-index c.loop-client-test.true)

pub loop-client-preserved : goal.loop-client-preserved
loop-client-preserved c =
    let at = c.loop-client.client-index in
    let others = c.in-Some.others.now in
    let boxes = c.args.boxes.now in
    let message = c.args.message in
    let client = get_or others at 0 in
    let clients : AreDistinctBelow 16 (c.in-Some.first.now ∷ others) = subst (AreDistinctBelow 16) c.in-Some.ensures.cases.0 c.requires.receivers in
    let room : first_full boxes (c.in-Some.first.now ∷ others) ≡ None = ap (first_full boxes) (sym c.in-Some.ensures.cases.0) ∙ c.requires.room in
    let left = length others - at in
    let long : c.loop-client.copies.len ≡ left = c.loop-client.copies.ok.0 ∙ ap length c.loop-client.invariant.copies ∙ length-replicate left message in
    let some : 0 < left = omega arith in
    elim c.match-pop.branch [
      | in-Some-pop w ↦
          let copy : w.in-Some-pop.copy ≡ get_or c.loop-client.copies.items (c.loop-client.copies.len - 1) message = let last = w.in-Some-pop.ensures.value message (omega arith) in cc in
          let same : w.in-Some-pop.copy ≡ message = copy ∙ ap (λ (n : ℕ). get_or c.loop-client.copies.items (n - 1) message) long ∙ copy_is c.loop-client.copies.items left message message c.loop-client.invariant.copies some in
          let low = next_low message c.in-Some.first.now others boxes clients c.requires.boxes room at c.loop-client-test.true in
          let put : w.put.new.self ≡ mailbox_of (delivered message (take at others) boxes) client ++ message ∷ [] =
          w.put.ensures
          ∙ ap (λ (e : Event). get_or c.loop-client.boxes client w.index-boxes-client.result ++ e ∷ []) same
          ∙ ap (λ (box : List Event). box ++ message ∷ []) (get_or_default c.loop-client.boxes client w.index-boxes-client.result [] (omega arith) ∙ ap (λ (all : List (List Event)). mailbox_of all client) c.loop-client.invariant.boxes) in
          record {
            copies = w.in-Some-pop.ensures.rest ∙ copies_left c.loop-client.copies.items left (c.loop-client.copies.len - 1) message c.loop-client.invariant.copies (omega arith) ∙ ap (λ (n : ℕ). replicate n message) (omega arith);
            boxes = w.boxes-is
                ∙ ap (λ (all : List (List Event)). set all client w.put.new.self) c.loop-client.invariant.boxes
                ∙ ap (set (delivered message (take at others) boxes) client) put
                ∙ next_delivered message c.in-Some.first.now others boxes clients c.requires.boxes room at c.loop-client-test.true;
          }
      | in_default-pop w ↦ absurd (let none = w.in_default-pop.ensures.cases.0 in omega arith)
    ]

pub put-requires-2-clause-room : goal.put-requires-2-clause-room
put-requires-2-clause-room c =
    let others = c.in-Some.others.now in
    let clients : AreDistinctBelow 16 (c.in-Some.first.now ∷ others) = subst (AreDistinctBelow 16) c.in-Some.ensures.cases.0 c.requires.receivers in
    let room : first_full c.args.boxes.now (c.in-Some.first.now ∷ others) ≡ None = ap (first_full c.args.boxes.now) (sym c.in-Some.ensures.cases.0) ∙ c.requires.room in
    let low = clients.0 in
    let all = take_all c.loop-client.client-index others (omega arith) in
    rw (get_or_default c.loop-client.boxes c.in-Some.first.now c.index-boxes-first.result [] (omega arith), c.loop-client.invariant.boxes, all)
    (first_room c.args.message c.in-Some.first.now others c.args.boxes.now clients c.requires.boxes room)

pub returns : goal.returns
returns c =
    let others = c.in-Some.others.now in
    let boxes = c.args.boxes.now in
    let message = c.args.message in
    let first = c.in-Some.first.now in
    let clients : AreDistinctBelow 16 (first ∷ others) = subst (AreDistinctBelow 16) c.in-Some.ensures.cases.0 c.requires.receivers in
    let room : first_full boxes (first ∷ others) ≡ None = ap (first_full boxes) (sym c.in-Some.ensures.cases.0) ∙ c.requires.room in
    let low = clients.0 in
    let all = take_all c.loop-client.client-index others (omega arith) in
    let now : c.loop-client.boxes ≡ delivered message others boxes = c.loop-client.invariant.boxes ∙ ap (λ (some : List ℕ). delivered message some boxes) all in
    let put : c.put-2.new.self ≡ mailbox_of (delivered message others boxes) first ++ message ∷ [] =
    c.put-2.ensures ∙ ap (λ (box : List Event). box ++ message ∷ []) (get_or_default c.loop-client.boxes first c.index-boxes-first.result [] (omega arith) ∙ ap (λ (all : List (List Event)). mailbox_of all first) now) in
    ap (λ (all : List (List Event)). set all first c.put-2.new.self) now
    ∙ ap (set (delivered message others boxes) first) put
    ∙ first_delivered message first others boxes clients c.requires.boxes room
    ∙ ap (λ (to : List ℕ). delivered message to boxes) (sym c.in-Some.ensures.cases.0)
