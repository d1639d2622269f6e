-- The latest create of a name that was answered Created gives its slot.
use Rattle.std.proofs.Common.{◌≡◌, ℕ, ◌<◌, zero, suc, List, [], ◌∷◌, Bool, true, false, cond, Some, refl, ap, sym, ◌∙◌, arith}
use Rattle.std.specs.Prelude.{slice_get}
use Rattle.std.specs.Str.{bytes_eq}
use Rattle.std.specs.Cmp.Lexicographic.{bytes_decides}
use Rattle.qws_base.specs.Histories.{Entry}
use Rattle.qws_base.specs.Histories.Entry.{Step as StepEntry, Paint as PaintEntry}
use Rattle.qws_base.specs.declared.commands.Command.{Command}
use Rattle.qws_base.specs.declared.replies.Reply.{Reply}
use Rattle.qws_base.specs.declared.replies.Reply.TheVariants.{Created, Done, Sent, Registered, Event, Refused}
use Rattle.script_grammar.specs.declared.lines.LineCall.{LineCall}
use Rattle.script_grammar.specs.declared.lines.LineCall.TheVariants.{Create, Destroy, Region, Move, Raise, Lower, Shape, Cursor, Show, Join, Leave, Send, Take, Known, Fill, Tile, Blit, Line, Polyline, Polygon, Text}
use Rattle.script_grammar.specs.declared.lines.CallLine.{CallLine}
use Rattle.script_names.specs.Naming.{Naming, no_names, named, learned, learned_by_entry, names_after}
use Rattle.script_names.specs.Laws.{IsCreated, StandsForLatest, StandsForNone}

-- ---- one call that doesn't create the name changes nothing for it

abbrev Kept : Naming → List ℕ → LineCall → Entry → Type 0
Kept slots name call entry = learned_by_entry slots call entry name ≡ slots name

other_name : (b : Bool) (slot old : ℕ) → ¬ (b ≡ true) → cond b slot old ≡ old
other_name true slot old apart = absurd (apart refl)
other_name false slot old apart = refl

created_here : (by layer client slot : ℕ) (command : Command) (lines : List CallLine) (entries : List Entry) (name given : List ℕ) → name ≡ given
    → IsCreated (record { client = by; call = Create given layer } ∷ lines) (StepEntry client command (Created slot) ∷ entries) name zero slot
created_here by layer client slot command lines entries name given same =
    record { by = by; layer = layer; client = client; command = command; line = ap (λ (n : List ℕ). Some (record { client = by; call = Create n layer })) (sym same); entry = refl }

kept_create : (slots : Naming) (name given : List ℕ) (by layer client : ℕ) (command : Command) (reply : Reply) (lines : List CallLine) (entries : List Entry)
    → ((other : ℕ) → ¬ IsCreated (record { client = by; call = Create given layer } ∷ lines) (StepEntry client command reply ∷ entries) name zero other)
    → named slots given reply name ≡ slots name
kept_create slots name given by layer client command (Created slot) lines entries none =
    other_name (bytes_eq name given) slot (slots name) (λ same. none slot (created_here by layer client slot command lines entries name given ((bytes_decides name given).0 same)))
kept_create slots name given by layer client command Done lines entries none = refl
kept_create slots name given by layer client command (Sent to) lines entries none = refl
kept_create slots name given by layer client command (Registered known) lines entries none = refl
kept_create slots name given by layer client command (Event event) lines entries none = refl
kept_create slots name given by layer client command (Refused cause) lines entries none = refl

kept_call : (slots : Naming) (name : List ℕ) (by client : ℕ) (command : Command) (call : LineCall) (reply : Reply) (lines : List CallLine) (entries : List Entry)
    → ((other : ℕ) → ¬ IsCreated (record { client = by; call = call } ∷ lines) (StepEntry client command reply ∷ entries) name zero other)
    → learned slots call reply name ≡ slots name
kept_call slots name by client command (Create given layer) reply lines entries none = kept_create slots name given by layer client command reply lines entries none
kept_call slots name by client command (Destroy window) reply lines entries none = refl
kept_call slots name by client command (Region window origin rects) reply lines entries none = refl
kept_call slots name by client command (Move window origin) reply lines entries none = refl
kept_call slots name by client command (Raise window) reply lines entries none = refl
kept_call slots name by client command (Lower window) reply lines entries none = refl
kept_call slots name by client command (Shape w h cells) reply lines entries none = refl
kept_call slots name by client command (Cursor at) reply lines entries none = refl
kept_call slots name by client command (Show shown) reply lines entries none = refl
kept_call slots name by client command (Join channel) reply lines entries none = refl
kept_call slots name by client command (Leave channel) reply lines entries none = refl
kept_call slots name by client command (Send channel message payload) reply lines entries none = refl
kept_call slots name by client command Take reply lines entries none = refl
kept_call slots name by client command (Known channel) reply lines entries none = refl
kept_call slots name by client command (Fill window rect ink) reply lines entries none = refl
kept_call slots name by client command (Tile window rect image) reply lines entries none = refl
kept_call slots name by client command (Blit window at image alpha) reply lines entries none = refl
kept_call slots name by client command (Line window from to colour) reply lines entries none = refl
kept_call slots name by client command (Polyline window colour points) reply lines entries none = refl
kept_call slots name by client command (Polygon window ink points) reply lines entries none = refl
kept_call slots name by client command (Text window font at ink written) reply lines entries none = refl

kept_entry : (slots : Naming) (name : List ℕ) (line : CallLine) (entry : Entry) (lines : List CallLine) (entries : List Entry)
    → ((other : ℕ) → ¬ IsCreated (line ∷ lines) (entry ∷ entries) name zero other) → Kept slots name line.call entry
kept_entry slots name line (StepEntry client command reply) lines entries none = kept_call slots name line.client client command line.call reply lines entries none
kept_entry slots name line (PaintEntry client slot tag sheet reply) lines entries none = refl

-- ---- all calls

later : (line : CallLine) (entry : Entry) (lines : List CallLine) (entries : List Entry) (name : List ℕ) (j other : ℕ) → IsCreated lines entries name j other → IsCreated (line ∷ lines) (entry ∷ entries) name (suc j) other
later line entry lines entries name j other found = record { by = found.by; layer = found.layer; client = found.client; command = found.command; line = found.line; entry = found.entry }

earlier : (line : CallLine) (entry : Entry) (lines : List CallLine) (entries : List Entry) (name : List ℕ) (j other : ℕ) → IsCreated (line ∷ lines) (entry ∷ entries) name (suc j) other → IsCreated lines entries name j other
earlier line entry lines entries name j other found = record { by = found.by; layer = found.layer; client = found.client; command = found.command; line = found.line; entry = found.entry }

none_after : (slots : Naming) (lines : List CallLine) (entries : List Entry) (name : List ℕ) → ((j other : ℕ) → ¬ IsCreated lines entries name j other) → names_after slots lines entries name ≡ slots name
none_after slots [] entries name none = refl
none_after slots (line ∷ lines) [] name none = refl
none_after slots (line ∷ lines) (entry ∷ entries) name none =
    none_after (learned_by_entry slots line.call entry) lines entries name (λ j other found. none (suc j) other (later line entry lines entries name j other found))
    ∙ kept_entry slots name line entry lines entries (λ other. none zero other)

pub stands_for_none : StandsForNone
stands_for_none lines entries name none = none_after no_names lines entries name none

impossible : {A B : Type 0} (x : A) → ◌≡◌ (slice_get [] 0) (Some x) → B
impossible x e = absurd (let h : ⊥ = cc in h)

given_here : (slots : Naming) (line : CallLine) (entry : Entry) (lines : List CallLine) (entries : List Entry) (name : List ℕ) (slot : ℕ) → IsCreated (line ∷ lines) (entry ∷ entries) name zero slot → learned_by_entry slots line.call entry name ≡ slot
given_here slots line entry lines entries name slot found =
    let is_line : line ≡ record { client = found.by; call = Create name found.layer } = cc in
    let is_entry : entry ≡ StepEntry found.client found.command (Created slot) = cc in
    ap (λ (l : CallLine). learned_by_entry slots l.call entry name) is_line
    ∙ ap (λ (e : Entry). learned_by_entry slots (Create name found.layer) e name) is_entry
    ∙ ap (λ (b : Bool). cond b slot (slots name)) ((bytes_decides name name).1 refl)

latest_after : (slots : Naming) (lines : List CallLine) (entries : List Entry) (name : List ℕ) (k slot : ℕ) → IsCreated lines entries name k slot → ((j other : ℕ) → k < j → ¬ IsCreated lines entries name j other) → names_after slots lines entries name ≡ slot
latest_after slots [] entries name k slot found none = absurd (let h = found.line in let n : ⊥ = cc in n)
latest_after slots (line ∷ lines) [] name k slot found none = absurd (let h = found.entry in let n : ⊥ = cc in n)
latest_after slots (line ∷ lines) (entry ∷ entries) name zero slot found none =
    none_after (learned_by_entry slots line.call entry) lines entries name (λ j other later_one. none (suc j) other (omega arith) (later line entry lines entries name j other later_one))
    ∙ given_here slots line entry lines entries name slot found
latest_after slots (line ∷ lines) (entry ∷ entries) name (suc k) slot found none =
    latest_after (learned_by_entry slots line.call entry) lines entries name k slot (earlier line entry lines entries name k slot found)
    (λ j other behind later_one. none (suc j) other (omega arith) (later line entry lines entries name j other later_one))

pub stands_for_latest : StandsForLatest
stands_for_latest lines entries name k slot found none = latest_after no_names lines entries name k slot found none
