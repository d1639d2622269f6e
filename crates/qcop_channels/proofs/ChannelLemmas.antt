-- The entries of the map as channels: what a look-up finds, and what a write and a new key leave.
use Rattle.std.proofs.Common.{◌≡◌, ℕ, zero, suc, take, slice_get, subst, ◌++◌, [], ◌∷◌, List, Bool, true, false, ◌||◌, not, cond, if◌then◌else◌, map, length, eqb, nat_le, ◌<◌, ◌&&◌, Option, Some, None, is_some, Result, Ok, Err, IsOk, OnOk, refl, sym, ap, ◌∙◌, arith}
use Rattle.std.specs.List.{find, IsDistinct, AllByRecursion}
use Rattle.std.specs.Option.{option_map_or, unwrap_or}
use Rattle.std.specs.Map.{keys_of, lookup, set_value}
use Rattle.std.specs.Str.{bytes_eq}
use Rattle.std.specs.declared.vec.Vec.{Vec}
use Rattle.std.proofs.lemmas.Map.Keys.{IsDistinct-head, IsDistinct-tail}
use Rattle.std.proofs.lemmas.Bool.{false≢true}
use Rattle.std.proofs.lemmas.Bool.Decides.{nat_tests}
use Rattle.std.proofs.lemmas.Slice.Eq.{bytes_eq-Decides}
use Rattle.std.proofs.lemmas.List.{map-append}
use Rattle.qws_base.specs.declared.replies.Refusal.TheVariants as cause
use Rattle.qws_base.specs.Refusals.{when, first_of}
use Rattle.qcop_channels.specs.Stops.{join_cause, leave_cause}
use Rattle.qws_base.specs.Mail.{is_name, channels_joined, Channel, has_name, is_known, subscribers_of, resubscribed, is_among}
use Rattle.qcop_channels.specs.Views.{channel_of, channels_of}

-- what holds where it is done, once it is
pub on_ok_given : {X E P : Type 0} (r : Result X E) → IsOk r → OnOk r P → P
on_ok_given (Ok x) ok p = p
on_ok_given (Err e) ok p = absurd (false≢true ok)

eqb-flip : (x y : ℕ) → eqb x y ≡ eqb y x
eqb-flip x y = grind (arith, nat_tests)

bytes_eq-flip : (xs ys : List ℕ) → bytes_eq xs ys ≡ bytes_eq ys xs
bytes_eq-flip [] [] = refl
bytes_eq-flip [] (y ∷ ys) = refl
bytes_eq-flip (x ∷ xs) [] = refl
bytes_eq-flip (x ∷ xs) (y ∷ ys) = let head = eqb-flip x y in let tail = bytes_eq-flip xs ys in cc

-- whether a key has the name
abbrev pub names : {Y : Type 0} → List ℕ → Vec ℕ Y → Bool
names name key = bytes_eq name key.items

known_step : {X : Type 0} (b : Bool) (v : X) (r : Option X) (k : Bool) → is_some r ≡ k → is_some (cond b (Some v) r) ≡ (b || k)
known_step true v r k h = refl
known_step false v r k h = h

none_from_false : {X : Type 0} (r : Option X) → is_some r ≡ false → r ≡ None
none_from_false None h = refl
none_from_false (Some x) h = cc

module _ {Y : Type 0} where
  -- a channel is known where a key has its name
  pub is_known-lookup : (entries : List (Vec ℕ Y × List ℕ)) (name : List ℕ) → is_some (lookup (names name) entries) ≡ is_known (channels_of entries) name
  is_known-lookup [] name = refl
  is_known-lookup (e ∷ es) name =
      known_step (bytes_eq name e.0.items) e.1 (lookup (names name) es) (is_known (channels_of es) name) (is_known-lookup es name)
      ∙ ap (λ (b : Bool). b || is_known (channels_of es) name) (bytes_eq-flip name e.0.items)

  found_step : (b c : Bool) (e : Vec ℕ Y × List ℕ) (r : Option (List ℕ)) (f : Option Channel) → b ≡ c → option_map_or (λ (w : Channel). w.subscribers) f [] ≡ unwrap_or r []
      → option_map_or (λ (w : Channel). w.subscribers) (cond b (Some (channel_of e)) f) [] ≡ unwrap_or (cond c (Some e.1) r) []
  found_step true true e r f same h = refl
  found_step true false e r f same h = cc
  found_step false true e r f same h = cc
  found_step false false e r f same h = h

  -- its subscribers are what the map has there
  pub subscribers_of-lookup : (entries : List (Vec ℕ Y × List ℕ)) (name : List ℕ) → subscribers_of (channels_of entries) name ≡ unwrap_or (lookup (names name) entries) []
  subscribers_of-lookup [] name = refl
  subscribers_of-lookup (e ∷ es) name =
      found_step (bytes_eq e.0.items name) (bytes_eq name e.0.items) e (lookup (names name) es) (find (has_name name) (channels_of es)) (bytes_eq-flip e.0.items name) (subscribers_of-lookup es name)

  module _ (name : List ℕ) (change : List ℕ → List ℕ) where
    resubscribed_other : (e : Vec ℕ Y × List ℕ) → bytes_eq e.0.items name ≡ false → resubscribed name change (channel_of e) ≡ channel_of e
    resubscribed_other e h = ap (λ (b : Bool). record (channel_of e) { subscribers = if b then change e.1 else e.1 }) h

    others : (key : Vec ℕ Y) (es : List (Vec ℕ Y × List ℕ)) → bytes_eq name key.items ≡ true → AllByRecursion (λ (y : Vec ℕ Y). bytes_eq key.items y.items ≡ false) (keys_of es)
        → map (resubscribed name change) (channels_of es) ≡ channels_of es
    others key [] same apart = refl
    others key (e ∷ es) same apart =
        let equal : name ≡ key.items = (bytes_eq-Decides name key.items).0 same in
        let here : bytes_eq e.0.items name ≡ false = bytes_eq-flip e.0.items name ∙ ap (λ (n : List ℕ). bytes_eq n e.0.items) equal ∙ apart.0 in
        let first = resubscribed_other e here in
        let rest = others key es same apart.1 in
        cc

    written_step : (b : Bool) (e : Vec ℕ Y × List ℕ) (es : List (Vec ℕ Y × List ℕ)) (v w : List ℕ) → bytes_eq name e.0.items ≡ b → w ≡ change v
        → cond b (Some e.1) (lookup (names name) es) ≡ Some v
        → (b ≡ true → map (resubscribed name change) (channels_of es) ≡ channels_of es)
        → (lookup (names name) es ≡ Some v → channels_of (set_value (names name) es w) ≡ map (resubscribed name change) (channels_of es))
        → channels_of (cond b ((e.0, w) ∷ es) (e ∷ set_value (names name) es w)) ≡ resubscribed name change (channel_of e) ∷ map (resubscribed name change) (channels_of es)
    written_step true e es v w here now found same rest =
        let h : bytes_eq e.0.items name ≡ true = bytes_eq-flip e.0.items name ∙ here in
        let tail = same refl in
        let head : resubscribed name change (channel_of e) ≡ record { name = e.0.items; subscribers = change e.1 } = ap (λ (b : Bool). record (channel_of e) { subscribers = if b then change e.1 else e.1 }) h in
        let value : e.1 ≡ v = cc in
        let items : w ≡ change e.1 = now ∙ ap change (sym value) in
        let first : channel_of (e.0, w) ≡ resubscribed name change (channel_of e) = ap (λ (s : List ℕ). record (channel_of e) { subscribers = s }) items ∙ sym head in
        cc
    written_step false e es v w here now found same rest =
        let h : bytes_eq e.0.items name ≡ false = bytes_eq-flip e.0.items name ∙ here in
        let first = resubscribed_other e h in
        let tail = rest found in
        cc

    -- what is written to the subscribers of a channel
    pub channels_of-set_value : (entries : List (Vec ℕ Y × List ℕ)) (v w : List ℕ) → IsDistinct (λ (x y : Vec ℕ Y). bytes_eq x.items y.items) (keys_of entries) → lookup (names name) entries ≡ Some v → w ≡ change v
        → channels_of (set_value (names name) entries w) ≡ map (resubscribed name change) (channels_of entries)
    channels_of-set_value [] v w distinct found now = refl
    channels_of-set_value (e ∷ es) v w distinct found now =
        written_step (bytes_eq name e.0.items) e es v w refl now found
        (λ same. others e.0 es same (IsDistinct-head _ e.0 (keys_of es) distinct))
        (λ deeper. channels_of-set_value es v w (IsDistinct-tail _ e.0 (keys_of es) distinct) deeper now)

  -- a channel that a look-up finds
  pub found_known : (entries : List (Vec ℕ Y × List ℕ)) (name : List ℕ) (v : List ℕ) → lookup (names name) entries ≡ Some v → (is_known (channels_of entries) name ≡ true) × (subscribers_of (channels_of entries) name ≡ v)
  found_known entries name v h =
      (sym (is_known-lookup entries name) ∙ ap is_some h, subscribers_of-lookup entries name ∙ ap (λ (r : Option (List ℕ)). unwrap_or r []) h)

  -- and one that it doesn't find
  pub not_found_known : (entries : List (Vec ℕ Y × List ℕ)) (name : List ℕ) → lookup (names name) entries ≡ None → (is_known (channels_of entries) name ≡ false) × (subscribers_of (channels_of entries) name ≡ [])
  not_found_known entries name h =
      (sym (is_known-lookup entries name) ∙ ap is_some h, subscribers_of-lookup entries name ∙ ap (λ (r : Option (List ℕ)). unwrap_or r []) h)

  -- an unknown channel has no key
  pub lookup-unknown : (entries : List (Vec ℕ Y × List ℕ)) (name : List ℕ) → is_known (channels_of entries) name ≡ false → lookup (names name) entries ≡ None
  lookup-unknown entries name h = none_from_false (lookup (names name) entries) (is_known-lookup entries name ∙ h)

  -- a new key is the last channel
  pub channels_of-push : (entries : List (Vec ℕ Y × List ℕ)) (key : Vec ℕ Y) (v : List ℕ) → channels_of (entries ++ (key, v) ∷ []) ≡ channels_of entries ++ channel_of (key, v) ∷ []
  channels_of-push entries key v = map-append channel_of entries ((key, v) ∷ [])

  pub new_channel : (entries : List (Vec ℕ Y × List ℕ)) (key : Vec ℕ Y) (v : List ℕ) (name clients : List ℕ) → key.items ≡ name → v ≡ clients
      → channels_of (entries ++ (key, v) ∷ []) ≡ channels_of entries ++ record { name = name; subscribers = clients } ∷ []
  new_channel entries key v name clients n c =
      channels_of-push entries key v ∙ ap (λ (x : List ℕ). channels_of entries ++ record { name = x; subscribers = v } ∷ []) n
      ∙ ap (λ (x : List ℕ). channels_of entries ++ record { name = name; subscribers = x } ∷ []) c

resubscribed_same : (name : List ℕ) (channels : List Channel) → map (resubscribed name (λ s. s)) channels ≡ channels
resubscribed_same name [] = refl
resubscribed_same name (c ∷ cs) =
    let head : resubscribed name (λ s. s) c ≡ c = ap (λ (s : List ℕ). record c { subscribers = s }) (either_same (has_name name c) c.subscribers) in
    let tail = resubscribed_same name cs in
    cc
  where
    either_same : (b : Bool) (s : List ℕ) → (if b then s else s) ≡ s
    either_same true s = refl
    either_same false s = refl

module _ {Y : Type 0} (entries new : List (Vec ℕ Y × List ℕ)) (name : List ℕ) (v w : List ℕ) (distinct : IsDistinct (λ (x y : Vec ℕ Y). bytes_eq x.items y.items) (keys_of entries)) (found : Some v ≡ lookup (names name) entries) (written : new ≡ set_value (names name) entries w) where
  -- what is written through a look-up
  pub written_channels : (change : List ℕ → List ℕ) → w ≡ change v → channels_of new ≡ map (resubscribed name change) (channels_of entries)
  written_channels change now = ap channels_of written ∙ channels_of-set_value name change entries v w distinct (sym found) now

  -- the same subscribers written back
  pub written_same : w ≡ v → channels_of new ≡ channels_of entries
  written_same now = written_channels (λ s. s) now ∙ resubscribed_same name (channels_of entries)

-- an unknown channel has no subscribers
pub subscribers_of-unknown : (channels : List Channel) (name : List ℕ) → is_known channels name ≡ false → subscribers_of channels name ≡ []
subscribers_of-unknown [] name h = refl
subscribers_of-unknown (c ∷ cs) name h = skipped (has_name name c) (is_known cs name) (find (has_name name) cs) c h (subscribers_of-unknown cs name)
  where
    skipped : (b k : Bool) (rest : Option Channel) (c : Channel) → (b || k) ≡ false → (k ≡ false → option_map_or (λ (w : Channel). w.subscribers) rest [] ≡ []) → option_map_or (λ (w : Channel). w.subscribers) (cond b (Some c) rest) [] ≡ []
    skipped true k rest c h deeper = cc
    skipped false k rest c h deeper = deeper h

module _ (channels : List Channel) (client : ℕ) (name : List ℕ) where
  passes : (named joined known full : Bool) → first_of (when (not named) cause.BadName ∷ when joined cause.Joined ∷ when (not known && full) cause.TooManyChannels ∷ []) ≡ None → (joined ≡ false) × (known ≡ false → full ≡ false)
  passes true false true full h = (refl, λ e. cc)
  passes true false false true h = cc
  passes true false false false h = (refl, λ e. refl)
  passes true true known full h = cc
  passes false joined known full h = cc

  -- a client that may join isn't a subscriber
  pub may_join-new : join_cause channels client name ≡ None → is_among client (subscribers_of channels name) ≡ false
  may_join-new h = (passes (is_name name) _ (is_known channels name) (nat_le 64 (length channels)) h).0

  -- and there is a place for a channel that isn't known
  pub may_join-few : join_cause channels client name ≡ None → is_known channels name ≡ false → length channels < 64
  may_join-few h unknown = let few = (passes (is_name name) _ (is_known channels name) (nat_le 64 (length channels)) h).1 unknown in grind (arith, nat_tests)

  pub leave_cause_known : (clients : List ℕ) → subscribers_of channels name ≡ clients → leave_cause channels client name ≡ when (not (is_among client clients)) cause.NotJoined
  leave_cause_known clients there = rw there (alone (not (is_among client clients)))
    where
      alone : (b : Bool) → first_of (when b cause.NotJoined ∷ []) ≡ when b cause.NotJoined
      alone true = refl
      alone false = refl

  pub channels_joined_known : is_known channels name ≡ true → channels_joined channels client name ≡ map (resubscribed name (λ s. s ++ client ∷ [])) channels
  channels_joined_known known = rw known refl

  pub channels_joined_unknown : is_known channels name ≡ false → channels_joined channels client name ≡ channels ++ record { name = name; subscribers = client ∷ [] } ∷ []
  channels_joined_unknown known = rw known refl

module _ {Y : Type 0} where
  -- what holds of each key, at a place
  at_place : (P : Vec ℕ Y → Type 0) (es : List (Vec ℕ Y × List ℕ)) (i : ℕ) (key : Vec ℕ Y) (v : List ℕ) → AllByRecursion P (keys_of es) → slice_get es i ≡ Some (key, v) → P key
  at_place P [] i key v all h = cc
  at_place P (e ∷ es) zero key v all h = let here : e ≡ (key, v) = cc in subst P (ap (λ (p : Vec ℕ Y × List ℕ). p.0) here) all.0
  at_place P (e ∷ es) (suc i) key v all h = at_place P es i key v all.1 h

  -- a channel isn't known before its place
  pub unknown_before : (es : List (Vec ℕ Y × List ℕ)) (i : ℕ) (key : Vec ℕ Y) (v : List ℕ) → IsDistinct (λ (x y : Vec ℕ Y). bytes_eq x.items y.items) (keys_of es) → slice_get es i ≡ Some (key, v)
      → is_known (take i (channels_of es)) key.items ≡ false
  unknown_before es zero key v distinct h = refl
  unknown_before [] (suc i) key v distinct h = refl
  unknown_before (e ∷ es) (suc i) key v distinct h =
      let apart = at_place (λ (y : Vec ℕ Y). bytes_eq e.0.items y.items ≡ false) es i key v (IsDistinct-head _ e.0 (keys_of es) distinct) h in
      let rest = unknown_before es i key v (IsDistinct-tail _ e.0 (keys_of es) distinct) h in
      ap (λ (b : Bool). b || is_known (take i (channels_of es)) key.items) apart ∙ rest

  -- the channels up to a place, and the one there
  pub channels_to : (es : List (Vec ℕ Y × List ℕ)) (i : ℕ) (key : Vec ℕ Y) (v : List ℕ) → slice_get es i ≡ Some (key, v) → take (suc i) (channels_of es) ≡ take i (channels_of es) ++ channel_of (key, v) ∷ []
  channels_to [] i key v h = cc
  channels_to (e ∷ es) zero key v h = let here : e ≡ (key, v) = cc in ap (λ (p : Vec ℕ Y × List ℕ). channel_of p ∷ []) here
  channels_to (e ∷ es) (suc i) key v h = ap (λ (cs : List Channel). channel_of e ∷ cs) (channels_to es i key v h)
