-- What an operation on sets keeps, by membership in each of the two.
use Rattle.std.specs.Prelude.{Bool, not, ◌&&◌, ◌||◌}
use Rattle.band_regions.specs.declared.operations.Operation.{Operation}
use Rattle.band_regions.specs.declared.operations.Operation.TheVariants.{Unite, Meet, Minus}

abbrev pub keeps : Operation → Bool → Bool → Bool
keeps Unite first second = first || second
keeps Meet first second = first && second
keeps Minus first second = first && not second
