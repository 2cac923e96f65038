-- What is left of a key of three levels, of which the later two are held.
use Rattle.std.specs.Prelude.{◌≡◌, ℕ, Bool, List, [], ◌∷◌, ◌++◌, replicate}
use Rattle.icu_order_levels.specs.Primaries.{Compression}
use Rattle.icu_order_levels.specs.Tertiaries.{tertiary_runs}
use Rattle.icu_order_levels.specs.Keys.{LevelPart, absent, closed, parts_bytes}
use Rattle.icu_order_levels.specs.declared.forms.TertiaryForm.{TertiaryForm}
use Rattle.icu_order_levels.specs.declared.run_bytes.TheConstants.{SECONDARY_RUNS}
use Rattle.icu_table_entries.specs.Elements.{Element}
use Rattle.icu_key_writers.specs.HeldRests.{held_secondaries, held_tertiaries, held_tertiary_form}
use Rattle.icu_key_writers.specs.WriterRests.{primary_rest}
use Rattle.icu_order_texts.specs.weighting.Handled.{HandledElement, stayed_elements}
use Rattle.icu_order_texts.specs.weighting.Levels.{primaries, secondaries, tertiaries}
use Rattle.icu_key_texts.specs.LevelRests.{characters_left}
use Rattle.icu_key_texts.specs.declared.common_elements.CommonElements.{CommonElements}
use Rattle.icu_key_texts.specs.declared.level_pair.TwoLevels.{TwoLevels}

-- the levels after the primary one, where so many common elements were counted, by all characters and the further
-- elements
abbrev pub parts_after_held : TertiaryForm → Bool → ℕ → TwoLevels → List ℕ → List Element → List LevelPart
parts_after_held t identical n l cs es =
    closed (held_secondaries l.secondaries (replicate n SECONDARY_RUNS.common ++ secondaries es)) ∷ absent
    ∷ closed (held_tertiaries l.tertiaries (replicate n (tertiary_runs t).common ++ tertiaries t es)) ∷ absent
    ∷ characters_left identical cs ∷ []

-- what is left, by all characters and the further elements, as they are handled
abbrev pub three_rest : Compression → TertiaryForm → Bool → CommonElements → TwoLevels → List ℕ → List HandledElement → List ℕ
three_rest c t identical w l cs hs =
    primary_rest c w.primaries (primaries (stayed_elements hs))
    ++ parts_bytes (parts_after_held t identical w.count l cs (stayed_elements hs))

-- tertiaries are held in this form
abbrev pub HasTertiaryForm : TertiaryForm → TwoLevels → Type 0
HasTertiaryForm t l = held_tertiary_form l.tertiaries ≡ t
