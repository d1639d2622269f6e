-- A command and a reply have at most one frame: what is read fixes the bytes.
use Rattle.std.proofs.Common.{◌≡◌, Fits, w8, ℕ, zero, suc, ◌+◌, ◌-◌, ◌*◌, ◌^◌, ◌<◌, List, length, get_or, drop, pos, inl, inr, refl, sym, ap, ◌∙◌, arith}
use Rattle.std.specs.Int.{w32, cast_signed, cast_unsigned}
use Rattle.std.proofs.lemmas.Bool.{cases_lt}
use Rattle.std.proofs.lemmas.Int.{of_z-to_z}
use Rattle.std.proofs.lemmas.List.{ext_get_or, get_or-drop}
use Rattle.std.proofs.lemmas.List.FromFn.{get_or-map-range_with_len}
use Rattle.byteorder.specs.Endian.{little_from}
use Rattle.byteorder.specs.Numbers.{little_from-lt}
use Rattle.qws_base.specs.declared.points.Point.{Point}
use Rattle.qws_base.specs.declared.points.Rect.{Rect}
use Rattle.qws_base.specs.declared.commands.Command.{Command}
use Rattle.qws_base.specs.declared.commands.Command.TheVariants.{Create, Destroy, Region, Move, Raise, Lower, CursorShape, CursorMove, CursorShow, Join, Leave, Send, Take, IsRegistered}
use Rattle.qws_base.specs.declared.replies.Event.{Event}
use Rattle.qws_base.specs.declared.replies.Event.TheVariants.{Message, RegionModified}
use Rattle.qws_base.specs.declared.replies.Refusal.{Refusal}
use Rattle.qws_base.specs.declared.replies.Refusal.TheVariants.{NoWindow, NotYours, NoSlot, BadLayer, BadRegion, TooComplex, OffScreen, BadShape, Joined, TooManyChannels, BadName, NotJoined, NoChannel, MailboxFull, TooLarge, Empty}
use Rattle.qws_base.specs.declared.replies.Reply.{Reply}
use Rattle.qws_base.specs.declared.replies.Reply.TheVariants as reply
use Rattle.qws_frames.specs.Layout.{u32_at, i32_at, point_at, rect_at, rects_at, words_at, IsFrame, SpellsCommand, SpellsCause, SpellsEvent, SpellsReply}

-- two lists of bytes that agree at the first places
pub record Agree (xs ys : List ℕ) (n : ℕ) : Type 0 where
  pub below : (j : ℕ) → j < n → get_or xs j 0 ≡ get_or ys j 0

signed_once : (a b : ℕ) → a < 2 ^ 32 → b < 2 ^ 32 → cast_signed w32 a ≡ cast_signed w32 b → a ≡ b
signed_once a b ha hb e = sym (of_z-to_z w32 a ha) ∙ ap (cast_unsigned w32) e ∙ of_z-to_z w32 b hb

module _ (xs ys : List ℕ) (x_bytes : (j : ℕ) → get_or xs j 0 < 256) (y_bytes : (j : ℕ) → get_or ys j 0 < 256) where
  next : (m : ℕ) → Agree xs ys m → get_or xs m 0 ≡ get_or ys m 0 → Agree xs ys (suc m)
  next m agree here = record { below = below }
    where
      below : (j : ℕ) → j < suc m → get_or xs j 0 ≡ get_or ys j 0
      below j h =
          elim (cases_lt j m) [
            | inl low ↦ agree.below j low
            | inr high ↦
                let same : j ≡ m = omega arith in
                ap (λ (p : ℕ). get_or xs p 0) same ∙ here ∙ ap (λ (p : ℕ). get_or ys p 0) (sym same)
          ]

  -- a number of n bytes more
  more : (n m k : ℕ) → Agree xs ys m → little_from m n xs ≡ little_from m n ys → m + n ≡ k → Agree xs ys k
  more zero m k agree e total = record { below = λ j h. agree.below j (omega arith) }
  more (suc n) m k agree e total =
      let hx = x_bytes m in
      let hy = y_bytes m in
      let here : get_or xs m 0 ≡ get_or ys m 0 = omega arith in
      let rest : little_from (suc m) n xs ≡ little_from (suc m) n ys = omega arith in
      more n (suc m) k (next m agree here) rest (omega arith)

  x_word : (at : ℕ) → u32_at at xs < 2 ^ 32
  x_word at = little_from-lt at 4 xs x_bytes

  y_word : (at : ℕ) → u32_at at ys < 2 ^ 32
  y_word at = little_from-lt at 4 ys y_bytes

  more_signed : (m k : ℕ) → Agree xs ys m → i32_at m xs ≡ i32_at m ys → m + 4 ≡ k → Agree xs ys k
  more_signed m k agree e total = more 4 m k agree (signed_once (u32_at m xs) (u32_at m ys) (x_word m) (y_word m) e) total

  more_point : (m k : ℕ) → Agree xs ys m → point_at m xs ≡ point_at m ys → m + 8 ≡ k → Agree xs ys k
  more_point m k agree e total =
      more_signed (m + 4) k (more_signed m (m + 4) agree (ap (λ (p : Point). p.x) e) refl) (ap (λ (p : Point). p.y) e) (omega arith)

  more_rect : (m k : ℕ) → Agree xs ys m → rect_at m xs ≡ rect_at m ys → m + 16 ≡ k → Agree xs ys k
  more_rect m k agree e total =
      let a = more_signed m (m + 4) agree (ap (λ (r : Rect). r.x) e) refl in
      let b = more_signed (m + 4) (m + 8) a (ap (λ (r : Rect). r.y) e) (omega arith) in
      let c = more 4 (m + 8) (m + 12) b (ap (λ (r : Rect). r.w) e) (omega arith) in
      more 4 (m + 12) k c (ap (λ (r : Rect). r.h) e) (omega arith)

  more_words : (n m k : ℕ) → Agree xs ys m → ((i : ℕ) → i < n → u32_at (m + 4 * i) xs ≡ u32_at (m + 4 * i) ys) → m + 4 * n ≡ k → Agree xs ys k
  more_words zero m k agree each total = record { below = λ j h. agree.below j (omega arith) }
  more_words (suc n) m k agree each total =
      more 4 (m + 4 * n) k (more_words n m (m + 4 * n) agree (λ i h. each i (omega arith)) refl) (each n (omega arith)) (omega arith)

  more_rects : (n m k : ℕ) → Agree xs ys m → ((i : ℕ) → i < n → rect_at (m + 16 * i) xs ≡ rect_at (m + 16 * i) ys) → m + 16 * n ≡ k → Agree xs ys k
  more_rects zero m k agree each total = record { below = λ j h. agree.below j (omega arith) }
  more_rects (suc n) m k agree each total =
      more_rect (m + 16 * n) k (more_rects n m (m + 16 * n) agree (λ i h. each i (omega arith)) refl) (each n (omega arith)) (omega arith)

  each_word : (n m : ℕ) → words_at m n xs ≡ words_at m n ys → (i : ℕ) → i < n → u32_at (m + 4 * i) xs ≡ u32_at (m + 4 * i) ys
  each_word n m e i h =
      sym (get_or-map-range_with_len (λ (k : ℕ). u32_at (m + 4 * k) xs) 0 n i i 0 h (omega arith)) ∙ ap (λ (all : List ℕ). get_or all i 0) e
      ∙ get_or-map-range_with_len (λ (k : ℕ). u32_at (m + 4 * k) ys) 0 n i i 0 h (omega arith)

  each_rect : (n m : ℕ) → rects_at m n xs ≡ rects_at m n ys → (i : ℕ) → i < n → rect_at (m + 16 * i) xs ≡ rect_at (m + 16 * i) ys
  each_rect n m e i h =
      let none : Rect = record { x = pos 0; y = pos 0; w = 0; h = 0 } in
      sym (get_or-map-range_with_len (λ (k : ℕ). rect_at (m + 16 * k) xs) 0 n i i none h (omega arith)) ∙ ap (λ (all : List Rect). get_or all i none) e
      ∙ get_or-map-range_with_len (λ (k : ℕ). rect_at (m + 16 * k) ys) 0 n i i none h (omega arith)

  -- two frames of one type with parts of the same lengths
  module _ (kind simple raw : ℕ) (f : IsFrame xs kind simple raw) (g : IsFrame ys kind simple raw) where
    heads : Agree xs ys 8
    heads =
        let start : Agree xs ys 0 = record { below = λ j h. absurd (omega arith) } in
        more 4 4 8 (more 2 2 4 (more 2 0 2 start (f.kind_is ∙ sym g.kind_is) refl) (f.simple_is ∙ sym g.simple_is) refl) (f.raw_is ∙ sym g.raw_is) refl

    whole : Agree xs ys (8 + simple + raw) → xs ≡ ys
    whole agree =
        let x_size = f.whole in
        ext_get_or 0 xs ys (f.whole ∙ sym g.whole) (λ j h. agree.below j (omega arith))

    with_rest : (m : ℕ) → Agree xs ys m → drop m xs ≡ drop m ys → xs ≡ ys
    with_rest m agree e = ext_get_or 0 xs ys (f.whole ∙ sym g.whole) same
      where
        same : (j : ℕ) → j < length xs → get_or xs j 0 ≡ get_or ys j 0
        same j h =
            elim (cases_lt j m) [
              | inl low ↦ agree.below j low
              | inr high ↦
                  let place : m + (j - m) ≡ j = omega arith in
                  ap (λ (p : ℕ). get_or xs p 0) (sym place) ∙ sym (get_or-drop m xs (j - m) 0) ∙ ap (λ (all : List ℕ). get_or all (j - m) 0) e ∙ get_or-drop m ys (j - m) 0
                  ∙ ap (λ (p : ℕ). get_or ys p 0) place
            ]

  pub one_command_frame : (c : Command) → SpellsCommand c xs → SpellsCommand c ys → xs ≡ ys
  one_command_frame (Create layer) h k = whole 1 4 0 h.0 k.0 (more 4 8 12 (heads 1 4 0 h.0 k.0) (h.1 ∙ sym k.1) refl)
  one_command_frame (Destroy slot) h k = whole 2 4 0 h.0 k.0 (more 4 8 12 (heads 2 4 0 h.0 k.0) (h.1 ∙ sym k.1) refl)
  one_command_frame (Region slot origin rects) h k =
      let n = length rects in
      let a = more 4 8 12 (heads 3 16 (16 * n) h.0 k.0) (h.1 ∙ sym k.1) refl in
      let b = more_point 12 20 a (h.2 ∙ sym k.2) refl in
      let c = more 4 20 24 b (h.3 ∙ sym k.3) refl in
      whole 3 16 (16 * n) h.0 k.0 (more_rects n 24 (24 + 16 * n) c (each_rect n 24 (h.4 ∙ sym k.4)) refl)
  one_command_frame (Move slot origin) h k =
      whole 4 12 0 h.0 k.0 (more_point 12 20 (more 4 8 12 (heads 4 12 0 h.0 k.0) (h.1 ∙ sym k.1) refl) (h.2 ∙ sym k.2) refl)
  one_command_frame (Raise slot) h k = whole 5 4 0 h.0 k.0 (more 4 8 12 (heads 5 4 0 h.0 k.0) (h.1 ∙ sym k.1) refl)
  one_command_frame (Lower slot) h k = whole 6 4 0 h.0 k.0 (more 4 8 12 (heads 6 4 0 h.0 k.0) (h.1 ∙ sym k.1) refl)
  one_command_frame (CursorShape w height cells) h k =
      let n = length cells in
      let a = more 4 8 12 (heads 7 8 (4 * n) h.0 k.0) (h.1 ∙ sym k.1) refl in
      let b = more 4 12 16 a (h.2 ∙ sym k.2) refl in
      whole 7 8 (4 * n) h.0 k.0 (more_words n 16 (16 + 4 * n) b (each_word n 16 (h.3 ∙ sym k.3)) refl)
  one_command_frame (CursorMove x y) h k =
      whole 8 8 0 h.0 k.0 (more_signed 12 16 (more_signed 8 12 (heads 8 8 0 h.0 k.0) (h.1 ∙ sym k.1) refl) (h.2 ∙ sym k.2) refl)
  one_command_frame (CursorShow shown) h k = whole 9 4 0 h.0 k.0 (more 4 8 12 (heads 9 4 0 h.0 k.0) (h.1 ∙ sym k.1) refl)
  one_command_frame (Join channel) h k = with_rest 10 0 (length channel) h.0 k.0 8 (heads 10 0 (length channel) h.0 k.0) (h.1 ∙ sym k.1)
  one_command_frame (Leave channel) h k = with_rest 11 0 (length channel) h.0 k.0 8 (heads 11 0 (length channel) h.0 k.0) (h.1 ∙ sym k.1)
  one_command_frame (Send channel message payload) h k =
      let raw : ℕ = length channel + length message + length payload in
      let a = more 2 8 10 (heads 12 4 raw h.0 k.0) (h.1 ∙ sym k.1) refl in
      let b = more 2 10 12 a (h.2 ∙ sym k.2) refl in
      with_rest 12 4 raw h.0 k.0 12 b (h.3 ∙ sym k.3)
  one_command_frame Take h k = whole 13 0 0 h k (heads 13 0 0 h k)
  one_command_frame (IsRegistered channel) h k = with_rest 14 0 (length channel) h.0 k.0 8 (heads 14 0 (length channel) h.0 k.0) (h.1 ∙ sym k.1)

  -- the three numbers of a refusal
  cause_once : (c : Refusal) (n f s m g t : ℕ) → f < 2 ^ 32 → g < 2 ^ 32 → s < 2 ^ 32 → t < 2 ^ 32 → SpellsCause c n f s → SpellsCause c m g t → (n ≡ m) × (f ≡ g) × (s ≡ t)
  cause_once (NoWindow slot) n f s m g t hf hg hs ht h k = (h.0 ∙ sym k.0, h.1 ∙ sym k.1, h.2 ∙ sym k.2)
  cause_once (NotYours slot owner) n f s m g t hf hg hs ht h k = (h.0 ∙ sym k.0, h.1 ∙ sym k.1, h.2 ∙ sym k.2)
  cause_once NoSlot n f s m g t hf hg hs ht h k = (h.0 ∙ sym k.0, h.1 ∙ sym k.1, h.2 ∙ sym k.2)
  cause_once (BadLayer layer) n f s m g t hf hg hs ht h k = (h.0 ∙ sym k.0, h.1 ∙ sym k.1, h.2 ∙ sym k.2)
  cause_once (BadRegion index) n f s m g t hf hg hs ht h k = (h.0 ∙ sym k.0, h.1 ∙ sym k.1, h.2 ∙ sym k.2)
  cause_once (TooComplex slot rects) n f s m g t hf hg hs ht h k = (h.0 ∙ sym k.0, h.1 ∙ sym k.1, h.2 ∙ sym k.2)
  cause_once (OffScreen x y) n f s m g t hf hg hs ht h k = (h.0 ∙ sym k.0, signed_once f g hf hg (h.1 ∙ sym k.1), signed_once s t hs ht (h.2 ∙ sym k.2))
  cause_once (BadShape w height) n f s m g t hf hg hs ht h k = (h.0 ∙ sym k.0, h.1 ∙ sym k.1, h.2 ∙ sym k.2)
  cause_once Joined n f s m g t hf hg hs ht h k = (h.0 ∙ sym k.0, h.1 ∙ sym k.1, h.2 ∙ sym k.2)
  cause_once TooManyChannels n f s m g t hf hg hs ht h k = (h.0 ∙ sym k.0, h.1 ∙ sym k.1, h.2 ∙ sym k.2)
  cause_once BadName n f s m g t hf hg hs ht h k = (h.0 ∙ sym k.0, h.1 ∙ sym k.1, h.2 ∙ sym k.2)
  cause_once NotJoined n f s m g t hf hg hs ht h k = (h.0 ∙ sym k.0, h.1 ∙ sym k.1, h.2 ∙ sym k.2)
  cause_once NoChannel n f s m g t hf hg hs ht h k = (h.0 ∙ sym k.0, h.1 ∙ sym k.1, h.2 ∙ sym k.2)
  cause_once (MailboxFull client) n f s m g t hf hg hs ht h k = (h.0 ∙ sym k.0, h.1 ∙ sym k.1, h.2 ∙ sym k.2)
  cause_once (TooLarge len) n f s m g t hf hg hs ht h k = (h.0 ∙ sym k.0, h.1 ∙ sym k.1, h.2 ∙ sym k.2)
  cause_once Empty n f s m g t hf hg hs ht h k = (h.0 ∙ sym k.0, h.1 ∙ sym k.1, h.2 ∙ sym k.2)

  one_event_frame : (e : Event) → SpellsEvent e xs → SpellsEvent e ys → xs ≡ ys
  one_event_frame (Message channel from message payload) h k =
      let raw : ℕ = length channel + length message + length payload in
      let a = more 4 8 12 (heads 133 8 raw h.0 k.0) (h.1 ∙ sym k.1) refl in
      let b = more 2 12 14 a (h.2 ∙ sym k.2) refl in
      let c = more 2 14 16 b (h.3 ∙ sym k.3) refl in
      with_rest 133 8 raw h.0 k.0 16 c (h.4 ∙ sym k.4)
  one_event_frame (RegionModified slot) h k = whole 134 4 0 h.0 k.0 (more 4 8 12 (heads 134 4 0 h.0 k.0) (h.1 ∙ sym k.1) refl)

  pub one_reply_frame : (r : Reply) → SpellsReply r xs → SpellsReply r ys → xs ≡ ys
  one_reply_frame (reply.Created slot) h k = whole 129 4 0 h.0 k.0 (more 4 8 12 (heads 129 4 0 h.0 k.0) (h.1 ∙ sym k.1) refl)
  one_reply_frame reply.Done h k = whole 130 0 0 h k (heads 130 0 0 h k)
  one_reply_frame (reply.Sent to) h k = whole 131 4 0 h.0 k.0 (more 4 8 12 (heads 131 4 0 h.0 k.0) (h.1 ∙ sym k.1) refl)
  one_reply_frame (reply.Registered known) h k = whole 132 4 0 h.0 k.0 (more 4 8 12 (heads 132 4 0 h.0 k.0) (h.1 ∙ sym k.1) refl)
  one_reply_frame (reply.Event event) h k = one_event_frame event h k
  one_reply_frame (reply.Refused cause) h k =
      let same =
      cause_once cause (u32_at 8 xs) (u32_at 12 xs) (u32_at 16 xs) (u32_at 8 ys) (u32_at 12 ys) (u32_at 16 ys) (x_word 12) (y_word 12) (x_word 16) (y_word 16) h.1 k.1 in
      whole 135 12 0 h.0 k.0 (more 4 16 20 (more 4 12 16 (more 4 8 12 (heads 135 12 0 h.0 k.0) same.0 refl) same.1 refl) same.2 refl)

-- the items of a slice of bytes
pub bytes_from : (xs : List ℕ) → ((j : ℕ) → Fits w8 (get_or xs j 0)) → (j : ℕ) → get_or xs j 0 < 256
bytes_from xs all j = (all j).fits
