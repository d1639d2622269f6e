-- What holds between two calls of a client goes on.
use Rattle.std.proofs.Common.{◌≡◌, ℕ, ◌+◌, ◌<◌, List, [], ◌∷◌, ◌++◌, refl, sym, ap, subst, ◌∙◌, arith, Option, Some, None}
use Rattle.std.specs.Prelude.{slice_set, replicate}
use Rattle.fb_words.specs.declared.known.Call.{Call as OwnCall}
use Rattle.fb_words.specs.declared.known.PaintCall.{PaintCall}
use Rattle.fb_words.specs.declared.known.Client.{Client}
use Rattle.fb_words.specs.Clips.{KeepsClips}
use Rattle.fb_words.specs.Views.{PassView, paints_in}
use Rattle.gfx_painters.specs.declared.paints.Paint.{Paint as SomePaint}
use Rattle.gfx_painters.specs.Paints.{paint_sheet}
use Rattle.clip_refetch.specs.Clips.{ClipView, IsKnown}
use Rattle.shared_painter.specs.Answers.{IsBack, KeepsOthers}
use Rattle.script_grammar.specs.Session.{Session}
use Rattle.script_names.specs.Naming.{no_names, naming}
use Rattle.script_names.specs.declared.calls.Call.TheVariants.{Paint}
use Rattle.session_script.specs.Named.{NamesView}
use Rattle.session_script.specs.Calls.{IsFront, IsFrontFrom}
use Rattle.script_grammar.specs.declared.lines.CallLine.{CallLine}
use Rattle.client_session.specs.declared.spaces.Workspace.{Workspace}
use Rattle.client_session.specs.Looking.{FetchesOnce}
use Rattle.client_session.specs.Keeping.{clip_of, AreKept, HasDrawn}
use Rattle.client_session.specs.Runs.{own_entries, IsAt, MeansNow, IsFrugal, IsRunning, IsWithinLimits}
use Rattle.client_session.proofs.Progress.{at_paint, within_after}
use Rattle.client_session.proofs.Tracking.{kept_by_step, kept_by_paint, once_by_paint, kept_at_first, once_at_first}
use Rattle.fb_words.specs.declared.known.Mode.TheVariants.{Idle}

-- after a command
pub runs_on : (said : Session) (before after : PassView) (k : ℕ) (space space' : Workspace) → IsRunning said before k space → IsBack before after → IsAt said after.client (k + 1) space'.names
    → paints_in after.client.own ≡ paints_in before.client.own → KeepsClips before.client after.client → space'.clips.list.items ≡ space.clips.list.items → IsRunning said after (k + 1) space'
runs_on said before after k space space' h back at paints clips same = record {
  idle = back.idle;
  limits = within_after said before after back h.limits;
  at = at;
  frugal = record {
    kept = subst (AreKept after.client) (sym same) (kept_by_step before.client after.client space.clips.list.items clips paints h.frugal.kept);
    once = subst FetchesOnce (sym paints) h.frugal.once;
  };
}

-- after a paint
pub paints_on : (said : Session) (before after : PassView) (k slot : ℕ) (space space' : Workspace) (paint : SomePaint) (clip clip' : ClipView) → slot < 33 → IsRunning said before k space → MeansNow said space.names k (Paint slot paint)
    → clip ≡ clip_of space.clips.list.items slot → IsBack before after → HasDrawn before after clip clip' (paint_sheet paint) k → KeepsOthers clip.slot before.client after.client → IsKnown after.client clip' → clip'.slot ≡ clip.slot
    → space'.names ≡ space.names → space'.clips.list.items ≡ slice_set (slice_set space.clips.list.items slot None) slot (Some clip') → IsRunning said after (k + 1) space'
paints_on said before after k slot space space' paint clip clip' low h means mine back drawn others known of_slot names list =
    let was = h.frugal.kept.each slot low in record {
      idle = back.idle;
      limits = within_after said before after back h.limits;
      at = subst (IsAt said after.client (k + 1)) (sym names) (at_paint said before after k slot space.names paint clip clip' h.at means (ap (λ (c : ClipView). c.slot) mine ∙ was.of_slot) back.number drawn);
      frugal = record {
        kept = subst (AreKept after.client) (sym list) (kept_by_paint before after space.clips.list.items slot clip' (paint_sheet paint) k low h.frugal.kept
            (subst (λ (c : ClipView). Rattle.client_session.proofs.Tracking.IsDrawn before after c clip' (paint_sheet paint) k) mine (record { drawn = drawn; others = others; known = known; slot = of_slot })));
        once = once_by_paint before after clip clip' (paint_sheet paint) k drawn (subst (λ (c : ClipView). Rattle.client_session.specs.Keeping.IsOfLatest (paints_in before.client.own) c) (sym mine) was.of_latest) h.frugal.once;
      };
    }

-- before the first call
front_none : (said : Session) (client k : ℕ) (slots : Rattle.script_names.specs.Naming.Naming) (lines : List CallLine) → IsFrontFrom said client k slots lines []
front_none said client k slots [] = tt
front_none said client k slots (l ∷ lines) = tt

names_none : (slots : Rattle.script_names.specs.Naming.Naming) (lines : List CallLine) → Rattle.script_names.specs.Naming.names_after slots lines [] ≡ slots
names_none slots [] = refl
names_none slots (l ∷ lines) = refl

entries_none : (p : Client) → p.own ≡ [] → own_entries p ≡ []
entries_none p fresh = ap (λ (l : List OwnCall). Rattle.std.proofs.Common.map (Rattle.fb_words.specs.Desks.call_entry p.number) l) fresh

pub front_at_first : (said : Session) (p : Client) → p.own ≡ [] → IsFront said (own_entries p) p.number
front_at_first said p fresh = subst (λ l. IsFront said l p.number) (sym (entries_none p fresh)) (front_none said p.number 0 no_names _)

pub starts : (said : Session) (pass : PassView) (client : ℕ) (space : Workspace) → pass.client.mode ≡ Idle → pass.client.number ≡ client → pass.client.own ≡ [] → IsWithinLimits said pass
    → space.names.client ≡ client → naming space.names.slots ≡ no_names → space.clips.list.items ≡ replicate 33 None → IsRunning said pass 0 space
starts said pass client space idle number fresh limits owner names clips = record {
  idle = idle;
  limits = limits;
  at = record {
    client = owner ∙ sym number;
    many = ap (λ (l : List OwnCall). Rattle.std.proofs.Common.length l) fresh;
    front = front_at_first said pass.client fresh;
    learned = names ∙ sym (ap (λ l. Rattle.session_script.specs.Calls.names_by said l pass.client.number) (entries_none pass.client fresh) ∙ names_none no_names _);
    slots = λ name. subst (λ (s : Rattle.script_names.specs.Naming.Naming). s name < 33) (sym names) low;
  };
  frugal = record {
    kept = subst (AreKept pass.client) (sym clips) (kept_at_first pass.client fresh);
    once = once_at_first pass.client fresh;
  };
}
  where
    low : 32 < 33
    low = omega arith
