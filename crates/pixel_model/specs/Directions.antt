-- In which direction a shift goes, in the order of pixels.
use Rattle.std.specs.Prelude.{◌≡◌, ◌⊎◌, pos, ◌<ℤ◌, ◌≤ℤ◌}
use Rattle.qws_base.specs.declared.points.Point.{Point}

-- down, or to the right in the row
abbrev pub GoesOn : Point → Type 0
GoesOn shift = (pos 0 <ℤ shift.y) ⊎ ((shift.y ≡ pos 0) × (pos 0 <ℤ shift.x))

-- any other
abbrev pub GoesBack : Point → Type 0
GoesBack shift = (shift.y <ℤ pos 0) ⊎ ((shift.y ≡ pos 0) × (shift.x ≤ℤ pos 0))
