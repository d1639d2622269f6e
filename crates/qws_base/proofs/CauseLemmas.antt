-- What follows where no cause refuses, and of a cursor's shape.
use Rattle.std.proofs.Common.{◌≡◌, ◌≤◌, Bool, true, false, not, None, refl, ⊎_elim, arith}
use Rattle.qws_base.specs.Refusals.{when}
use Rattle.qws_base.specs.Shown.{IsShape}
use Rattle.qws_base.specs.declared.replies.Refusal.{Refusal}
use Rattle.qws_base.specs.declared.windows.Cursor.{Cursor}

-- a test whose failure is a cause passes where the cause isn't there
pub not_caused : (b : Bool) (cause : Refusal) → when (not b) cause ≡ None → b ≡ true
not_caused true cause none = refl
not_caused false cause none = cc

pub few_sides : (cursor : Cursor) → IsShape cursor → (cursor.w ≤ 32) × (cursor.h ≤ 32)
few_sides cursor ok = ⊎_elim
    (λ (some : (1 ≤ cursor.w) × (cursor.w ≤ 32) × (1 ≤ cursor.h) × (cursor.h ≤ 32)). (some.1, some.3))
    (λ (none : (cursor.w ≡ 0) × (cursor.h ≡ 0)). (omega (arith, none.0), omega (arith, none.1)))
    ok.sides
