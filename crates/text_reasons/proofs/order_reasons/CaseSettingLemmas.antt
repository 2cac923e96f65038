-- The case level as a caller gets it back is the one that is set.
use Rattle.std.proofs.Common.{◌≡◌, Bool, true, false, refl}
use Rattle.icu_options.specs.Conversions.{case_level_of, is_on}

pub on_as_set : (b : Bool) → is_on (case_level_of b) ≡ b
on_as_set true = refl
on_as_set false = refl
