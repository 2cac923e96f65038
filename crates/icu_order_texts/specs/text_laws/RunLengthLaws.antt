-- The law on how many bytes common weights take, as contracts name it.
use Rattle.std.specs.Prelude.{ℕ, ◌+◌, ◌/◌, ◌≤◌, List, ◌++◌, length, replicate}
use Rattle.icu_order_levels.specs.Quaternaries.{quaternary_level}
use Rattle.icu_order_levels.specs.Secondaries.{secondary_level}
use Rattle.icu_order_levels.specs.Tertiaries.{tertiary_level}
use Rattle.icu_order_levels.specs.declared.forms.QuaternaryForm.{QuaternaryForm}
use Rattle.icu_order_levels.specs.declared.forms.TertiaryForm.TheVariants.{WithoutCase}
use Rattle.icu_order_levels.specs.declared.run_bytes.TheConstants.{QUATERNARY_RUNS, SECONDARY_RUNS, TERTIARY_RUNS}

-- n common weights, whatever stands before and after them, add at most 1 + n / count bytes to a level
abbrev pub CommonWeightsAddFew : (List ℕ → List ℕ) → ℕ → ℕ → Type 0
CommonWeightsAddFew level common count =
    (n : ℕ) (before after : List ℕ)
    → length (level (before ++ (replicate n common ++ after))) ≤ length (level (before ++ after)) + (1 + n / count)

-- forward, or backward in one segment
abbrev pub CommonSecondariesAddFew : Type 0
CommonSecondariesAddFew = CommonWeightsAddFew secondary_level SECONDARY_RUNS.common 33

-- without case bits
abbrev pub CommonTertiariesAddFew : Type 0
CommonTertiariesAddFew = CommonWeightsAddFew (tertiary_level WithoutCase) TERTIARY_RUNS.common 97

-- whether variable elements may be shifted or not
abbrev pub CommonQuaternariesAddFew : Type 0
CommonQuaternariesAddFew = (form : QuaternaryForm) → CommonWeightsAddFew (quaternary_level form) QUATERNARY_RUNS.common 113
