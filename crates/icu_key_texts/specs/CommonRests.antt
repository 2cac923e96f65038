-- What is left of a key of three levels whose elements had common weights so far, beside their primaries.
use Rattle.std.specs.Prelude.{ℕ, Bool, List, [], ◌∷◌, ◌++◌, replicate}
use Rattle.icu_order_levels.specs.Primaries.{Compression}
use Rattle.icu_order_levels.specs.Secondaries.{secondary_level}
use Rattle.icu_order_levels.specs.Tertiaries.{tertiary_level, tertiary_runs}
use Rattle.icu_order_levels.specs.Keys.{LevelPart, absent, closed, parts_bytes}
use Rattle.icu_order_levels.specs.declared.forms.TertiaryForm.{TertiaryForm}
use Rattle.icu_order_levels.specs.declared.run_bytes.TheConstants.{SECONDARY_RUNS}
use Rattle.icu_table_entries.specs.Elements.{Element}
use Rattle.icu_key_writers.specs.WriterRests.{primary_rest}
use Rattle.icu_order_texts.specs.weighting.Handled.{HandledElement, stayed_elements}
use Rattle.icu_order_texts.specs.weighting.Levels.{primaries, secondaries, tertiaries}
use Rattle.icu_key_texts.specs.LevelRests.{characters_left}
use Rattle.icu_key_texts.specs.declared.common_elements.CommonElements.{CommonElements}

-- the levels after the primary one, after so many common elements, by all characters and the further elements
abbrev pub parts_after_commons : TertiaryForm → Bool → ℕ → List ℕ → List Element → List LevelPart
parts_after_commons t identical n cs es =
    closed (secondary_level (replicate n SECONDARY_RUNS.common ++ secondaries es)) ∷ absent
    ∷ closed (tertiary_level t (replicate n (tertiary_runs t).common ++ tertiaries t es)) ∷ absent
    ∷ characters_left identical cs ∷ []

-- what is left, by all characters and the further elements, as they are handled
abbrev pub common_rest : Compression → TertiaryForm → Bool → CommonElements → List ℕ → List HandledElement → List ℕ
common_rest c t identical w cs hs =
    primary_rest c w.primaries (primaries (stayed_elements hs))
    ++ parts_bytes (parts_after_commons t identical w.count cs (stayed_elements hs))
