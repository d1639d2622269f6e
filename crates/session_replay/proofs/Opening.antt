-- A replay before its first call.
use Rattle.std.proofs.Common.{◌≡◌, ℕ, ◌+◌, ◌<◌, List, [], ◌∷◌, ◌++◌, get_or, length, refl, ap, sym, ◌∙◌, subst, inl, inr, arith}
use Rattle.std.proofs.lemmas.Bool.{cases_lt}
use Rattle.std.proofs.lemmas.List.{get_or_append_left}
use Rattle.std.proofs.Math.Seq.{get_or-append_seam}
use Rattle.qws_base.specs.Sides.{Sides}
use Rattle.qws_base.specs.States.{opening_state}
use Rattle.qws_base.specs.Scenes.{setting_of, opening_scene}
use Rattle.qws_base.specs.declared.colours.Depth.{Depth}
use Rattle.window_core.specs.CoreViews.{CoreView}
use Rattle.pixel_model.specs.Drawn.{Drawn}
use Rattle.script_grammar.specs.Session.{Session, session_setting, lines_by}
use Rattle.script_names.specs.Naming.{naming, no_names, names_after}
use Rattle.script_grammar.specs.declared.lines.CallLine.{CallLine}
use Rattle.session_replay.specs.declared.callers.Caller.{Caller}
use Rattle.session_replay.specs.Steps.{IsCaller, IsWorld}

no_entries : (lines : List CallLine) → names_after no_names lines [] ≡ no_names
no_entries [] = refl
no_entries (line ∷ lines) = refl

-- a client without names and before its first call
pub opening_caller : (session : Session) (client : ℕ) (caller : Caller) → caller.names.client ≡ client → naming caller.names.slots ≡ no_names → caller.made ≡ 0 → caller.calls ≡ length (lines_by client session.calls) → IsCaller session [] client caller
opening_caller session client caller by_client none made calls = record {
  client_is = by_client;
  slots = none ∙ sym (no_entries (lines_by client session.calls));
  made = made;
  calls = calls;
}

-- one client more
pub callers_push : (session : Session) (callers : List Caller) (new : Caller) → ((client : ℕ) (d : Caller) → client < length callers → IsCaller session [] client (get_or callers client d)) → IsCaller session [] (length callers) new
    → (client : ℕ) (d : Caller) → client < length callers + 1 → IsCaller session [] client (get_or (callers ++ new ∷ []) client d)
callers_push session callers new each is client d below = elim (cases_lt client (length callers)) [
  | inl before ↦ subst (IsCaller session [] client) (sym (get_or_append_left callers (new ∷ []) d client before)) (each client d before)
  | inr last ↦
      let same : length callers ≡ client = omega (arith, last, below) in
      subst (λ k. IsCaller session [] k (get_or (callers ++ new ∷ []) k d)) same (subst (IsCaller session [] (length callers)) (sym (get_or-append_seam callers new [] d)) is)
]

pub opening_replay_world : (session : Session) (core : CoreView) (canvas : Drawn) (size : Sides) (depth : Depth) (backdrop shown : ℕ) → size ≡ session.size → depth ≡ session.depth → backdrop ≡ session.backdrop → shown ≡ session.backdrop
    → core ≡ record { size = size; backdrop = backdrop; state = opening_state } → canvas ≡ record { setting = setting_of size depth shown; scene = opening_scene (setting_of size depth shown) } → IsWorld session [] core canvas
opening_replay_world session core canvas size depth backdrop shown size_is depth_is backdrop_is shown_is core_is canvas_is =
    let setting : setting_of size depth shown ≡ session_setting session =
    ap (λ (s : Sides). setting_of s depth shown) size_is ∙ ap (λ (d : Depth). setting_of session.size d shown) depth_is ∙ ap (setting_of session.size session.depth) shown_is in
    record {
      size = ap (λ (v : CoreView). v.size) core_is ∙ size_is;
      backdrop = ap (λ (v : CoreView). v.backdrop) core_is ∙ backdrop_is;
      setting = ap (λ (d : Drawn). d.setting) canvas_is ∙ setting;
      state = ap (λ (v : CoreView). v.state) core_is;
      scene = ap (λ (d : Drawn). d.scene) canvas_is ∙ ap opening_scene setting;
    }
