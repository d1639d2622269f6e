-- The next call of a client, and what it makes of the world.
use Rattle.std.proofs.Common.{◌≡◌, ℕ, ◌+◌, ◌<◌, ◌≤◌, List, [], ◌∷◌, length, Option, None, Some, Bool, true, false, cond, not, ap, sym, ◌∙◌, subst, arith, refl, suc, zero, ◌++◌}
use Rattle.std.specs.Prelude.{slice_get}
use Rattle.std.specs.List.{filter}
use Rattle.std.specs.Option.{option_map}
use Rattle.qws_base.specs.States.{State}
use Rattle.qws_base.specs.Scenes.{Setting}
use Rattle.qws_base.specs.Histories.{Entry, World, calls_of, world_after}
use Rattle.window_core.specs.CoreViews.{CoreView}
use Rattle.pixel_model.specs.Drawn.{Drawn}
use Rattle.script_grammar.specs.Session.{Session, session_setting, is_paint}
use Rattle.script_names.specs.Meaning.{meaning}
use Rattle.script_grammar.specs.declared.lines.CallLine.{CallLine}
use Rattle.script_names.specs.declared.calls.Call.{Call}
use Rattle.session_replay.specs.Runs.{entry_in, entry_behind, names_in}
use Rattle.session_replay.specs.Steps.{IsWorld}

pub some_same : {A B : Type 0} (f : A → B) (o : Option A) (x : A) (y : B) → o ≡ Some x → option_map f o ≡ Some y → y ≡ f x
some_same f None x y found made = cc
some_same f (Some a) x y found made = let is : a ≡ x = cc in let is_y : f a ≡ y = cc in sym is_y ∙ ap f is

-- a fact on the entry of a call in the world of core and canvas is one on the entry behind the history
pub on_line : (F : Setting → World → Entry → Type 0) (session : Session) (h : List Entry) (line : CallLine) (client : ℕ) (call : Call) (core : CoreView) (canvas : Drawn) → call ≡ meaning session (names_in session h client) line.call → IsWorld session h core canvas
    → ((k : ℕ) → F canvas.setting (record { state = core.state; scene = canvas.scene }) (entry_in canvas.setting (record { state = core.state; scene = canvas.scene }) client k call))
    → F (session_setting session) (world_after (session_setting session) h) (entry_behind session h client line)
on_line F session h line client call core canvas is world fact =
    let setting : Setting = session_setting session in
    let after : World = world_after setting h in
    let k : ℕ = length (calls_of h client) in
    let G : Setting → State → List ℕ → Call → Type 0 = λ g s c m. F g (record { state = s; scene = c }) (entry_in g (record { state = s; scene = c }) client k m) in
    let one : G setting core.state canvas.scene call = subst (λ (g : Setting). G g core.state canvas.scene call) world.setting (fact k) in
    let two : G setting after.state canvas.scene call = subst (λ (s : State). G setting s canvas.scene call) world.state one in
    let three : G setting after.state after.scene call = subst (λ (c : List ℕ). G setting after.state c call) world.scene two in
    subst (λ (m : Call). G setting after.state after.scene m) is three

-- commands and paints are all calls
pub all_lines : (lines : List CallLine) → length (filter (λ line. not (is_paint line.call)) lines) + length (filter (λ line. is_paint line.call) lines) ≡ length lines
all_lines [] = refl
all_lines (line ∷ lines) = by_kind (is_paint line.call) _ _ (all_lines lines)
  where
    by_kind : (b : Bool) (steps paints : List CallLine) → length steps + length paints ≡ length lines → length (cond (not b) (line ∷ steps) steps) + length (cond b (line ∷ paints) paints) ≡ length (line ∷ lines)
    by_kind true steps paints all = omega (arith, all)
    by_kind false steps paints all = omega (arith, all)

pub few_filtered : {A : Type 0} (p : A → Bool) (xs : List A) → length (filter p xs) ≤ length xs
few_filtered {A = A} p [] = omega arith
few_filtered {A = A} p (x ∷ xs) = step (p x) (filter p xs) (few_filtered p xs)
  where
    step : (b : Bool) (some : List A) → length some ≤ length xs → length (cond b (x ∷ some) some) ≤ length (x ∷ xs)
    step true some few = omega arith
    step false some few = omega arith

-- one more at the end
pub pushed : {A : Type 0} (xs : List A) (x : A) (f : ℕ → A) → ((k : ℕ) → k < length xs → slice_get xs k ≡ Some (f k)) → x ≡ f (length xs) → (k : ℕ) → k < length xs + 1 → slice_get (xs ++ x ∷ []) k ≡ Some (f k)
pushed [] x f before same zero below = ap Some same
pushed [] x f before same (suc k) below = absurd (omega arith)
pushed (y ∷ xs) x f before same zero below = before 0 (omega arith)
pushed (y ∷ xs) x f before same (suc k) below = pushed xs x (λ i. f (suc i)) (λ i low. before (suc i) (omega arith)) same k (omega arith)
