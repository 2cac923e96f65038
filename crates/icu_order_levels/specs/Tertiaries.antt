-- The bytes of the tertiary level in its three forms (UTS #10, "Form Sort Keys"; UTS #35 part 5, "Case Parameters").
use Rattle.std.specs.Prelude.{ℕ, ◌+◌, ◌-◌, ◌/◌, nat_lt, if◌then◌else◌, List}
use Rattle.icu_order_levels.specs.declared.run_bytes.RunBytes.{RunBytes}
use Rattle.icu_order_levels.specs.Runs.{level_bytes}
use Rattle.icu_order_levels.specs.WeightBytes.{weight_bytes}
use Rattle.icu_order_levels.specs.RunNumbers.{secondary_run_bytes, tertiary_run_bytes, upper_first_tertiary_run_bytes}
use Rattle.icu_order_levels.specs.declared.forms.TertiaryForm.{TertiaryForm}
use Rattle.icu_order_levels.specs.declared.forms.TertiaryForm.TheVariants.{WithoutCase, LowerFirst, UpperFirst}

-- how a form writes runs of the common weight
abbrev pub tertiary_runs : TertiaryForm → RunBytes
tertiary_runs WithoutCase = tertiary_run_bytes
tertiary_runs LowerFirst = secondary_run_bytes
tertiary_runs UpperFirst = upper_first_tertiary_run_bytes

-- by how much leads above that of the common weight go up
abbrev pub raised_above : TertiaryForm → ℕ
raised_above WithoutCase = 0xC000
raised_above LowerFirst = 0x4000
raised_above UpperFirst = 0

-- by how much leads below that of the common weight go down
abbrev pub lowered_below : TertiaryForm → ℕ
lowered_below WithoutCase = 0
lowered_below LowerFirst = 0
lowered_below UpperFirst = 0x4000

-- The weight whose bytes are written for a tertiary that is not common, so that none begins as a run does: by its
-- lead, beside the lead of the common weight
abbrev pub moved_tertiary : TertiaryForm → ℕ → ℕ
moved_tertiary form w =
    if nat_lt ((tertiary_runs form).common / 256) (w / 256) then w + raised_above form
    else (if nat_lt (w / 256) ((tertiary_runs form).common / 256) then w - lowered_below form else w)

-- the bytes of a tertiary that is not common, in a form
abbrev pub tertiary_bytes : TertiaryForm → ℕ → List ℕ
tertiary_bytes form w = weight_bytes 2 (moved_tertiary form w)

-- the bytes of the tertiary level, in a form
abbrev pub tertiary_level : TertiaryForm → List ℕ → List ℕ
tertiary_level form = level_bytes (tertiary_runs form) (tertiary_bytes form) 0
