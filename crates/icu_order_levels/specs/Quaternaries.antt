-- The bytes of the quaternary level (UTS #10, "Variable Weighting" and "Form Sort Keys").
use Rattle.std.specs.Prelude.{ℕ, ◌+◌, ◌-◌, ◌^◌, nat_lt, if◌then◌else◌, List, [], ◌∷◌}
use Rattle.icu_order_levels.specs.Runs.{level_bytes}
use Rattle.icu_order_levels.specs.WeightBytes.{weight_bytes}
use Rattle.icu_order_levels.specs.Primaries.{lead}
use Rattle.icu_order_levels.specs.Cases.{is_only}
use Rattle.icu_order_levels.specs.declared.forms.QuaternaryForm.{QuaternaryForm}
use Rattle.icu_order_levels.specs.declared.forms.QuaternaryForm.TheVariants.{MayShift, Unshifted}
use Rattle.icu_order_levels.specs.RunNumbers.{quaternary_run_bytes}

-- A shifted primary in full, after 1B where its lead is 1B or more, so that it begins below the bytes of runs
abbrev pub shifted_bytes : ℕ → List ℕ
shifted_bytes w = if nat_lt (lead w) 0x1B then weight_bytes 4 w else 0x1B ∷ weight_bytes 4 w

-- Of weights above the common one, the quaternary bits q stand as 2^32 + q and are FC + q; below it stand shifted
-- primaries, after reordering
abbrev pub quaternary_bytes : ℕ → List ℕ
quaternary_bytes w = if nat_lt (2 ^ 32) w then (0xFC + w - 2 ^ 32) ∷ [] else shifted_bytes w

-- the runs and the other weights of a level
abbrev pub quaternary_runs : List ℕ → List ℕ
quaternary_runs = level_bytes quaternary_run_bytes quaternary_bytes 0

-- the bytes of a level: in the unshifted form nothing is written for common weights alone
abbrev pub quaternary_level : QuaternaryForm → List ℕ → List ℕ
quaternary_level MayShift ws = quaternary_runs ws
quaternary_level Unshifted ws = if is_only (2 ^ 32) ws then [] else quaternary_runs ws
