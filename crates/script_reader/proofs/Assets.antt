-- A line of a font, a glyph or an image behind those that are kept, before any call.
use Rattle.std.proofs.Common.{◌≡◌, ℕ, ◌<◌, List, [], ◌∷◌, ◌++◌, length, Bool, true, false, Result, Ok, Err, refl, ap, sym, ◌∙◌, subst, arith}
use Rattle.std.specs.Prelude.{◌==◌}
use Rattle.std.specs.Result.{IfOk, MatchResult}
use Rattle.std.proofs.lemmas.Bool.Decides.{nat_tests}
use Rattle.glyph_masks.specs.Glyphs.{FontView}
use Rattle.gfx_fills.specs.Images.{ImageView}
use Rattle.script_grammar.specs.Judging.{◌>>=◌}
use Rattle.script_grammar.specs.Session.{Session, Asset, fonts_of, images_of}
use Rattle.script_grammar.specs.Reading.{Before, Within, Finished, and_asset, asset_in}
use Rattle.script_grammar.specs.declared.lines.Cause.{Cause}
use Rattle.script_grammar.specs.declared.lines.CallLine.{CallLine}
use Rattle.script_lines.specs.Stock.{stock_read, IsAdded}
use Rattle.script_lines.proofs.Adding.{adds_to_stock, refuses_line}
use Rattle.script_reader.specs.Heads.{head_of}
use Rattle.script_reader.specs.Places.{places_from, calls_start, call_places}
use Rattle.script_reader.proofs.Counts.{length-places}
use Rattle.script_reader.specs.declared.places.LinePlace.{LinePlace}
use Rattle.script_reader.specs.declared.heads.Head.{Head}
use Rattle.script_reader.specs.declared.bodies.Body.{Body}
use Rattle.script_reader.specs.Bodies.{BodyReads}
use Rattle.script_reader.proofs.Behind.{asset_with}

no_places : (start : ℕ) (calls : List CallLine) → calls ≡ [] → places_from start calls ≡ []
no_places start calls none = ap (places_from start) none

-- the session with one line more of these
pub record IsWith (said : Session) (words : List (List ℕ)) (fonts : List FontView) (images : List ImageView) : Type 0 where
  pub next : Session
  pub reads : asset_in said words ≡ Ok (Within next)
  pub same_head : head_of next ≡ head_of said
  pub with_fonts : fonts_of next.assets ≡ fonts
  pub with_images : images_of next.assets ≡ images
  pub same_calls : next.calls ≡ said.calls
  pub same_places : call_places said ≡ call_places next

pub asset_added : (said : Session) (words : List (List ℕ)) (fonts : List FontView) (images : List ImageView) (more_fonts : List FontView) (more_images : List ImageView) → said.calls ≡ [] → fonts_of said.assets ≡ fonts → images_of said.assets ≡ images
    → IsAdded (stock_read fonts images words) fonts images more_fonts more_images → IsWith said words more_fonts more_images
asset_added said words fonts images more_fonts more_images none same_fonts same_images h =
    let own_fonts : IsAdded (stock_read (fonts_of said.assets) images words) (fonts_of said.assets) images more_fonts more_images =
    subst (λ (fs : List FontView). IsAdded (stock_read fs images words) fs images more_fonts more_images) (sym same_fonts) h in
    let own : IsAdded (stock_read (fonts_of said.assets) (images_of said.assets) words) (fonts_of said.assets) (images_of said.assets) more_fonts more_images =
    subst (λ (is : List ImageView). IsAdded (stock_read (fonts_of said.assets) is words) (fonts_of said.assets) is more_fonts more_images) (sym same_images) own_fonts in
    let added = adds_to_stock said.assets words more_fonts more_images own in
    let next : Session = record said { assets = said.assets ++ added.0 ∷ [] } in
    record {
      next = next;
      reads = asset_with said words none ∙ ap (λ (r : Result Asset Cause). r >>= λ a. Ok (and_asset said a)) added.1;
      same_head = refl;
      with_fonts = sym added.2.same_fonts;
      with_images = sym added.2.same_images;
      same_calls = refl;
      same_places = no_places (calls_start said) said.calls none ∙ sym (no_places (calls_start next) said.calls none);
    }

pub asset_refused : (said : Session) (words : List (List ℕ)) (fonts : List FontView) (images : List ImageView) (cause : Cause) → said.calls ≡ [] → fonts_of said.assets ≡ fonts → images_of said.assets ≡ images
    → stock_read fonts images words ≡ Err cause → asset_in said words ≡ Err cause
asset_refused said words fonts images cause none same_fonts same_images told =
    let own : stock_read (fonts_of said.assets) (images_of said.assets) words ≡ Err cause =
    ap (λ (fs : List FontView). stock_read fs (images_of said.assets) words) same_fonts ∙ ap (λ (is : List ImageView). stock_read fonts is words) same_images ∙ told in
    asset_with said words none ∙ ap (λ (r : Result Asset Cause). r >>= λ a. Ok (and_asset said a)) (refuses_line said.assets words cause own)

some_of : (calls : List CallLine) → (length calls == 0) ≡ false → 0 < length calls
some_of calls some = grind (arith, nat_tests)

-- where places are kept, there are calls
pub some_calls_kept : (said : Session) (places : List LinePlace) (count : ℕ) → places ≡ call_places said → (count == 0) ≡ false → count ≡ length places → 0 < length said.calls
some_calls_kept said places count kept some same =
    let e : count ≡ length said.calls = same ∙ ap length kept ∙ length-places (calls_start said) said.calls in
    let b : (length said.calls == 0) ≡ false = ap (λ (n : ℕ). n == 0) (sym e) ∙ some in
    some_of said.calls b

-- ---- what was judged

-- the same, by another that is equal
pub judged_as : (head : Head) (body : Body) (said : Session) (judged other : Result Before Cause) (read : Result Bool Cause) → judged ≡ other → BodyReads head body said judged read → BodyReads head body said other read
judged_as head body said judged other read same h = subst (λ (r : Result Before Cause). BodyReads head body said r read) same h

-- the line may stand there
pub judged_ok : (head : Head) (body : Body) (said : Session) (judged : Result Before Cause) (last : Bool) → BodyReads head body said judged (Ok last) → (next : Before) × (judged ≡ Ok next)
judged_ok head body said judged true h = (Finished said, h.0)
judged_ok head body said judged false h = (Within h.0, h.1)

pub if_ok_more : {T E : Type 0} (r : Result T E) (P Q : T → Type 0) → ((x : T) → P x → Q x) → IfOk r P → IfOk r Q
if_ok_more (Ok x) P Q f h = f x h
if_ok_more (Err e) P Q f h = h

pub match_more : {T E : Type 0} (r : Result T E) (P Q : T → Type 0) (R S : E → Type 0) → ((x : T) → P x → Q x) → ((e : E) → R e → S e) → MatchResult r P R → MatchResult r Q S
match_more (Ok x) P Q R S f g h = f x h
match_more (Err e) P Q R S f g h = g e h
