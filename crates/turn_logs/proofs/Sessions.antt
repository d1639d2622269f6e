-- The law of a session: the law of carrying, turn by turn.
use Rattle.std.proofs.Common.{◌≡◌, ℕ, ◌+◌, true, if◌then◌else◌, List, [], ◌∷◌, ◌++◌, map, refl, sym, ap, ◌∙◌, subst}
use Rattle.std.specs.Prelude.{is_none}
use Rattle.qws_base.specs.Points.{pixel_count}
use Rattle.qws_base.specs.Windows.{Layout, layout_of}
use Rattle.qws_base.specs.States.{is_refused, moved_slot}
use Rattle.qws_base.specs.Steps.{step}
use Rattle.qws_base.specs.StepLaws.{RefusedLaw}
use Rattle.qws_base.specs.Arranged.{IsArranged, ArrangedLaw}
use Rattle.qws_base.specs.Sides.{Sides}
use Rattle.qws_base.specs.declared.windows.WindowView.{WindowView}
use Rattle.qws_base.specs.Sheets.{Sheet}
use Rattle.qws_base.specs.Scenes.{Setting, scene_after_step}
use Rattle.qws_base.specs.Histories.{World, world_from, scene_after, next_world}
use Rattle.qws_base.specs.declared.windows.Cursor.{Cursor}
use Rattle.qws_base.specs.declared.commands.Command.{Command}
use Rattle.qws_base.specs.declared.replies.Reply.{Reply}
use Rattle.qws_base.specs.declared.replies.PaintReply.{PaintReply}
use Rattle.region_table.specs.Layouts.{layout_of_table}
use Rattle.region_table.specs.Published.{TellSame, AreSlotted}
use Rattle.region_table.specs.declared.tables.Table.{Table}
use Rattle.region_table.proofs.Openings.{opening_law}
use Rattle.qws_base.specs.Shown.{shown_picture}
use Rattle.std.proofs.lemmas.List.{get_or-replicate}
use Rattle.region_table.proofs.SameScenes.{step_same, scene_same, reply_same}
use Rattle.region_table.proofs.Telling.{published_law}
use Rattle.turn_logs.specs.declared.items.Item.{Item}
use Rattle.turn_logs.specs.declared.items.Item.TheVariants.{Pick, Put}
use Rattle.turn_logs.specs.Lines.{on, written, Shows}
use Rattle.turn_logs.specs.Carries.{TrueIn, words_after, StandFor, IsBare, CarriesPaintUnder, RepliesUnder, scene_of_step}
use Rattle.turn_logs.specs.Sessions.{Served, Drawn, entry_of, logs_of, table_after, stamp_after, IsServed, IsAt, SessionLaw, PictureLaw}
use Rattle.turn_logs.proofs.Law.{step_law, paint_law}
use Rattle.turn_logs.proofs.Joining.{on-append, written-append}
use Rattle.turn_logs.proofs.Standing.{opening_stands, picture_shown}
use Rattle.turn_logs.proofs.Bare.{bare_step, bare_paint}

-- ---- two logs, one after the other

shows_split : (v : ℕ) (l m : List Item) → Shows v (l ++ m) → Shows v l × Shows (written v l) m
shows_split v [] m s = (tt, s)
shows_split v (Pick w u ∷ l) m s = let parts = shows_split v l m s.1 in ((s.0, parts.0), parts.1)
shows_split v (Put w u ∷ l) m s = shows_split u l m s

-- the first log is true, and so is the second in the words after the first
true_first : (words : ℕ → ℕ) (l m : List Item) → TrueIn words (l ++ m) → TrueIn words l
true_first words l m is_true = λ x. (shows_split (words x) (on x l) (on x m) (subst (Shows (words x)) (on-append x l m) (is_true x))).0

true_second : (words : ℕ → ℕ) (l m : List Item) → TrueIn words (l ++ m) → TrueIn (words_after words l) m
true_second words l m is_true = λ x. (shows_split (words x) (on x l) (on x m) (subst (Shows (words x)) (on-append x l m) (is_true x))).1

after_both : (words : ℕ → ℕ) (l m : List Item) (x : ℕ) → words_after (words_after words l) m x ≡ words_after words (l ++ m) x
after_both words l m x = sym (ap (written (words x)) (on-append x l m) ∙ written-append (words x) (on x l) (on x m))

stand_same : (setting : Setting) (cursor : Cursor) (f g : ℕ → ℕ) (scene : List ℕ) → ((x : ℕ) → f x ≡ g x) → StandFor setting cursor f scene → StandFor setting cursor g scene
stand_same setting cursor f g scene same stands = λ p within. let at = stands p within in record { scene = sym (same _) ∙ at.scene; shown = sym (same _) ∙ at.shown }

-- ---- a step

bare_by : (setting : Setting) (a b : Layout) (scene : List ℕ) → TellSame setting.size a b → IsBare setting b scene → IsBare setting a scene
bare_by setting a b scene same bare = λ p within none. bare p within (subst (λ o. is_none o ≡ true) (same.owner p within) none)

-- arranged windows have slots of their own
slotted : (size : Sides) (windows : List WindowView) → IsArranged size windows → AreSlotted windows
slotted size windows arranged = record { few = λ k d within. (arranged.each k d within).slot; once = arranged.once }

module _ (refused : RefusedLaw) (arranged : ArrangedLaw) (setting : Setting) (world : World) (stamp : ℕ) (table : Table) (words : ℕ → ℕ) where
  -- what the table tells is what the state tells
  tells : IsAt setting world stamp table words → TellSame setting.size (layout_of_table setting.size table) (layout_of setting.size world.state.windows)
  tells at = published_law setting.size world.state stamp table at.published (slotted setting.size world.state.windows at.arranged)

  step_scene : (client : ℕ) (command : Command) (reply : Reply) (after : Table) (log : List Item) → IsAt setting world stamp table words
      → IsServed setting world.state stamp table client command reply after log
      → scene_of_step setting table after command reply world.scene ≡ scene_after setting world command (step setting.size world.state client command)
  step_scene client command reply after log at served =
      ap (λ r. if is_refused r then world.scene else scene_after_step setting (layout_of_table setting.size table) (layout_of_table setting.size after) (moved_slot command) world.scene) served.answered
      ∙ ap (λ s. if is_refused (step setting.size world.state client command).1 then world.scene else s)
      (step_same setting (layout_of_table setting.size table) (layout_of_table setting.size after) (layout_of setting.size world.state.windows)
      (layout_of setting.size (step setting.size world.state client command).0.windows) (moved_slot command) world.scene (tells at)
      (published_law setting.size (step setting.size world.state client command).0 (stamp + 1) after served.left
      (slotted setting.size (step setting.size world.state client command).0.windows (arranged.stays setting.size world.state client command at.arranged))))

  after_step : (client : ℕ) (command : Command) (reply : Reply) (after : Table) (log : List Item) → IsAt setting world stamp table words → TrueIn words log
      → IsServed setting world.state stamp table client command reply after log
      → IsAt setting (next_world setting world (entry_of (Served client command reply after log))) (stamp + 1) after (words_after words log)
  after_step client command reply after log at is_true served = record {
    arranged = arranged.stays setting.size world.state client command at.arranged;
    published = served.left;
    stands = subst (StandFor setting after.cursor (words_after words log)) (step_scene client command reply after log at served)
        (step_law setting table after command reply words world.scene log at.stands
        (bare_by setting (layout_of_table setting.size table) (layout_of setting.size world.state.windows) world.scene (tells at) at.bare) is_true served.carried);
    bare = bare_step refused setting world client command (is_refused (step setting.size world.state client command).1) refl at.bare;
  }

  -- ---- a paint

  after_paint : (client slot tag : ℕ) (sheet : Sheet) (reply : PaintReply) (log : List Item) → IsAt setting world stamp table words → TrueIn words log
      → CarriesPaintUnder setting table slot sheet reply log → RepliesUnder setting table client slot sheet reply
      → IsAt setting (next_world setting world (entry_of (Drawn client slot tag sheet reply log))) stamp table (words_after words log)
  after_paint client slot tag sheet reply log at is_true carried replies = record {
    arranged = at.arranged;
    published = at.published;
    stands = subst (StandFor setting table.cursor (words_after words log))
        (scene_same setting (layout_of_table setting.size table) (layout_of setting.size world.state.windows) client slot sheet world.scene (tells at))
        (paint_law setting table client slot sheet reply words world.scene log at.stands is_true carried replies);
    bare = bare_paint refused setting world slot sheet ((layout_of setting.size world.state.windows).is_own client slot) at.bare;
  }

-- ---- turn by turn

at_same : (setting : Setting) (world : World) (stamp : ℕ) (table : Table) (f g : ℕ → ℕ) → ((x : ℕ) → f x ≡ g x) → IsAt setting world stamp table f → IsAt setting world stamp table g
at_same setting world stamp table f g same at = record { arranged = at.arranged; published = at.published; stands = stand_same setting table.cursor f g world.scene same at.stands; bare = at.bare }

pub session_law : RefusedLaw → ArrangedLaw → SessionLaw
session_law refused arranged setting world stamp table words [] at is_true carried = (tt, at)
session_law refused arranged setting world stamp table words (Served client command reply after log ∷ turns) at is_true carried =
    let next : World = next_world setting world (entry_of (Served client command reply after log)) in
    let then_at : IsAt setting next (stamp + 1) after (words_after words log) =
    after_step refused arranged setting world stamp table words client command reply after log at (true_first words log (logs_of turns) is_true) carried.0 in
    let rest = session_law refused arranged setting next (stamp + 1) after (words_after words log) turns then_at (true_second words log (logs_of turns) is_true) carried.1 in (
      (carried.0.answered, rest.0),
      at_same setting (world_from setting next (map entry_of turns)) (stamp_after (stamp + 1) turns) (table_after after turns)
          (words_after (words_after words log) (logs_of turns)) (words_after words (log ++ logs_of turns)) (after_both words log (logs_of turns)) rest.1,
    )
session_law refused arranged setting world stamp table words (Drawn client slot tag sheet reply log ∷ turns) at is_true carried =
    let next : World = next_world setting world (entry_of (Drawn client slot tag sheet reply log)) in
    let then_at : IsAt setting next stamp table (words_after words log) =
    after_paint refused arranged setting world stamp table words client slot tag sheet reply log at (true_first words log (logs_of turns) is_true) carried.0 carried.1 in
    let rest = session_law refused arranged setting next stamp table (words_after words log) turns then_at (true_second words log (logs_of turns) is_true) carried.2 in
    let answered = carried.1 ∙ reply_same setting.size (layout_of_table setting.size table) (layout_of setting.size world.state.windows) client slot sheet
    (tells refused arranged setting world stamp table words at) in (
      (answered, rest.0),
      at_same setting (world_from setting next (map entry_of turns)) (stamp_after stamp turns) (table_after table turns)
          (words_after (words_after words log) (logs_of turns)) (words_after words (log ++ logs_of turns)) (after_both words log (logs_of turns)) rest.1,
    )

-- ---- the opening, and the picture

pub picture_law : ArrangedLaw → PictureLaw
picture_law arranged = record {
  opens = λ setting words opens. record {
    arranged = arranged.opens setting.size;
    published = opening_law.published setting.size;
    stands = opening_stands setting words opens;
    bare = λ p within none. get_or-replicate (pixel_count setting.size) p setting.backdrop 0 within;
  };
  shows = λ setting world stamp table words at.
      picture_shown setting table.cursor words world.scene at.stands ∙ ap (λ c. shown_picture setting c world.scene) at.published.cursor_is;
}
