-- The levels after the primary one, held until their end: what each is to be in the key, by the key's form, given what
-- is still to come.
use Rattle.std.specs.Prelude.{ℕ, zero, suc, ◌^◌, Bool, true, false, List, [], ◌∷◌, ◌++◌, ◌≡◌, replicate, Option, Some, None, IfSome}
use Rattle.icu_order_levels.specs.Cases.{case_runs}
use Rattle.icu_order_levels.specs.Tertiaries.{tertiary_runs}
use Rattle.icu_order_levels.specs.declared.run_bytes.TheConstants.{SECONDARY_RUNS}
use Rattle.icu_order_levels.specs.Identical.{identical_level}
use Rattle.icu_order_levels.specs.Keys.{LevelPart, absent, opened, closed}
use Rattle.icu_order_levels.specs.declared.forms.CaseForm.{CaseForm}
use Rattle.icu_order_levels.specs.declared.forms.KeyForm.{KeyForm}
use Rattle.icu_order_levels.specs.declared.forms.QuaternaryForm.{QuaternaryForm}
use Rattle.icu_order_levels.specs.declared.forms.SecondaryForm.{SecondaryForm}
use Rattle.icu_order_levels.specs.declared.forms.SecondaryForm.TheVariants.{Forward, Backward}
use Rattle.icu_order_levels.specs.declared.forms.TertiaryForm.{TertiaryForm}
use Rattle.icu_table_entries.specs.Elements.{Element}
use Rattle.icu_key_writers.specs.HeldRests.{held_secondaries, held_segments, held_cases, held_case_form, held_tertiaries, held_tertiary_form, held_quaternaries}
use Rattle.icu_key_writers.specs.declared.held_secondaries.HeldSecondaries.{HeldSecondaries}
use Rattle.icu_key_writers.specs.declared.held_segments.HeldSegments.{HeldSegments}
use Rattle.icu_key_writers.specs.declared.held_cases.HeldCases.{HeldCases}
use Rattle.icu_key_writers.specs.declared.held_tertiaries.HeldTertiaries.{HeldTertiaries}
use Rattle.icu_key_writers.specs.declared.held_quaternaries.HeldQuaternaries.{HeldQuaternaries}
use Rattle.icu_order_texts.specs.weighting.Handled.{HandledElement, stayed_elements}
use Rattle.icu_order_texts.specs.weighting.Levels.{secondaries, parted, weights, case_reads, case_rank, tertiaries, quaternaries}
use Rattle.icu_key_texts.specs.declared.later_levels.LaterLevels.{LaterLevels}
use Rattle.icu_key_texts.specs.declared.counted_levels.CountedLevels.{CountedLevels}

-- a backward level, where it is held, given the further elements
abbrev pub segments_left : Option HeldSegments → List Element → LevelPart
segments_left None es = absent
segments_left (Some l) es = closed (held_segments l (parted es))

-- the secondary level, given the further elements
abbrev pub secondaries_left : Option SecondaryForm → HeldSecondaries → Option HeldSegments → List Element → LevelPart
secondaries_left None l backward es = absent
secondaries_left (Some Forward) l backward es = closed (held_secondaries l (secondaries es))
secondaries_left (Some Backward) l backward es = segments_left backward es

-- the case level, by the form of the secondary level before it, given the further elements
abbrev pub cases_left : Option SecondaryForm → Option CaseForm → Option HeldCases → List Element → LevelPart
cases_left before None l es = absent
cases_left before (Some form) None es = absent
cases_left before (Some form) (Some l) es = opened (held_cases l (weights (case_reads before) (case_rank (held_case_form l)) es))

-- the tertiary level, given the further elements
abbrev pub tertiaries_left : Option TertiaryForm → HeldTertiaries → List Element → LevelPart
tertiaries_left None l es = absent
tertiaries_left (Some form) l es = closed (held_tertiaries l (tertiaries form es))

-- the quaternary level, by how primaries are reordered, given the further elements, as they are handled
abbrev pub quaternaries_left : (ℕ → ℕ) → Option QuaternaryForm → Option HeldQuaternaries → List HandledElement → LevelPart
quaternaries_left reorder None l hs = absent
quaternaries_left reorder (Some form) None hs = absent
quaternaries_left reorder (Some form) (Some l) hs = closed (held_quaternaries l (quaternaries reorder hs))

-- the identical level, where there is one, of all characters
abbrev pub characters_left : Bool → List ℕ → LevelPart
characters_left false cs = absent
characters_left true cs = opened (identical_level cs)

-- all levels after the primary one, in their order: further elements, as they are handled, and all characters
abbrev pub levels_left : (ℕ → ℕ) → KeyForm → LaterLevels → List ℕ → List HandledElement → List LevelPart
levels_left reorder form l cs hs =
    secondaries_left form.secondary l.secondaries l.segments (stayed_elements hs)
    ∷ cases_left form.secondary form.cases l.cases (stayed_elements hs)
    ∷ tertiaries_left form.tertiary l.tertiaries (stayed_elements hs)
    ∷ quaternaries_left reorder form.quaternary l.quaternaries hs ∷ characters_left form.identical cs ∷ []

-- ---- with common weights that were counted, and that come before the further elements

-- the secondary level
abbrev pub secondaries_after : ℕ → Option SecondaryForm → HeldSecondaries → Option HeldSegments → List Element → LevelPart
secondaries_after n None l backward es = absent
secondaries_after n (Some Forward) l backward es = closed (held_secondaries l (replicate n SECONDARY_RUNS.common ++ secondaries es))
secondaries_after n (Some Backward) l backward es = segments_left backward es

-- the case level, where all of them are lower case
abbrev pub cases_after : ℕ → Option SecondaryForm → Option CaseForm → Option HeldCases → List Element → LevelPart
cases_after n before None l es = absent
cases_after n before (Some form) None es = absent
cases_after n before (Some form) (Some l) es =
    opened (held_cases l (replicate n (case_runs (held_case_form l)).common ++ weights (case_reads before) (case_rank (held_case_form l)) es))

-- the tertiary level, in the form in which it is held
abbrev pub tertiaries_after : ℕ → Option TertiaryForm → HeldTertiaries → List Element → LevelPart
tertiaries_after n None l es = absent
tertiaries_after n (Some form) l es =
    closed (held_tertiaries l (replicate n (tertiary_runs (held_tertiary_form l)).common ++ tertiaries form es))

-- the quaternary level
abbrev pub quaternaries_after : (ℕ → ℕ) → ℕ → Option QuaternaryForm → Option HeldQuaternaries → List HandledElement → LevelPart
quaternaries_after reorder n None l hs = absent
quaternaries_after reorder n (Some form) None hs = absent
quaternaries_after reorder n (Some form) (Some l) hs = closed (held_quaternaries l (replicate n (2 ^ 32) ++ quaternaries reorder hs))

-- all levels after the primary one
abbrev pub levels_after : (ℕ → ℕ) → KeyForm → LaterLevels → ℕ → List ℕ → List HandledElement → List LevelPart
levels_after reorder form l n cs hs =
    secondaries_after n form.secondary l.secondaries l.segments (stayed_elements hs)
    ∷ cases_after n form.secondary form.cases l.cases (stayed_elements hs)
    ∷ tertiaries_after n form.tertiary l.tertiaries (stayed_elements hs)
    ∷ quaternaries_after reorder n form.quaternary l.quaternaries hs ∷ characters_left form.identical cs ∷ []

-- how many elements were counted: none where secondaries don't stand from the front
abbrev pub counted_commons : ℕ → Option SecondaryForm → ℕ
counted_commons zero before = 0
counted_commons (suc n) (Some Forward) = suc n
counted_commons (suc n) (Some Backward) = 0
counted_commons (suc n) None = 0

-- all levels after the primary one, where elements are counted
abbrev pub counted_left : (ℕ → ℕ) → KeyForm → CountedLevels → List ℕ → List HandledElement → List LevelPart
counted_left reorder form l cs hs = levels_after reorder form l.levels (counted_commons l.commons form.secondary) cs hs

-- tertiaries are held in the form of the key, where it has them
abbrev pub HasLaterForm : KeyForm → LaterLevels → Type 0
HasLaterForm form l = IfSome form.tertiary (λ t. held_tertiary_form l.tertiaries ≡ t)
