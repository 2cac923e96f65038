-- The bytes of a level that is held until its end, given what it is still to be fed.
use Rattle.std.specs.Prelude.{◌&&◌, if◌then◌else◌, ℕ, ◌^◌, List, [], ◌++◌, replicate}
use Rattle.icu_order_levels.specs.Cases.{is_only, case_runs}
use Rattle.icu_order_levels.specs.Secondaries.{secondary_level}
use Rattle.icu_order_levels.specs.Tertiaries.{tertiary_level, tertiary_runs}
use Rattle.icu_order_levels.specs.declared.run_bytes.TheConstants.{SECONDARY_RUNS}
use Rattle.icu_order_levels.specs.declared.forms.CaseForm.{CaseForm}
use Rattle.icu_order_levels.specs.declared.forms.TertiaryForm.{TertiaryForm}
use Rattle.icu_key_writers.specs.HeldByteLists.{held_bytes}
use Rattle.icu_key_writers.specs.WriterRests.{backward_rest, case_rest, case_form_of, quaternary_rest}
use Rattle.icu_key_writers.specs.declared.held_secondaries.HeldSecondaries.{HeldSecondaries}
use Rattle.icu_key_writers.specs.declared.held_segments.HeldSegments.{HeldSegments}
use Rattle.icu_key_writers.specs.declared.held_cases.HeldCases.{HeldCases}
use Rattle.icu_key_writers.specs.declared.held_tertiaries.HeldTertiaries.{HeldTertiaries}
use Rattle.icu_key_writers.specs.declared.held_quaternaries.HeldQuaternaries.{HeldQuaternaries}

-- further secondaries, after the common ones that are counted
abbrev pub held_secondaries : HeldSecondaries → List ℕ → List ℕ
held_secondaries l ws = held_bytes l.bytes ++ secondary_level (replicate l.commons SECONDARY_RUNS.common ++ ws)

-- further secondaries of the segment at hand, and the segments after it, each in the order of the text
abbrev pub held_segments : HeldSegments → List ℕ × List (List ℕ) → List ℕ
held_segments l rest = l.bytes.items ++ backward_rest l.writer rest

-- the form of the case level that is held
abbrev pub held_case_form : HeldCases → CaseForm
held_case_form l = case_form_of l.writer

-- further ranks: nothing is written where all before them is common and all of them is
abbrev pub held_cases : HeldCases → List ℕ → List ℕ
held_cases l ranks =
    if l.vanishes && is_only (case_runs (held_case_form l)).common ranks then [] else l.bytes.items ++ case_rest l.writer ranks

-- the bytes of a case level that has ended
abbrev pub held_case_bytes : HeldCases → List ℕ
held_case_bytes l = l.bytes.items

-- the form of the tertiary level that is held
abbrev pub held_tertiary_form : HeldTertiaries → TertiaryForm
held_tertiary_form l = l.form

-- further tertiaries as the form has them, after the common ones that are counted
abbrev pub held_tertiaries : HeldTertiaries → List ℕ → List ℕ
held_tertiaries l ws =
    held_bytes l.bytes ++ tertiary_level (held_tertiary_form l) (replicate l.commons (tertiary_runs (held_tertiary_form l)).common ++ ws)

-- further quaternaries: nothing is written where all before them is common and all of them is
abbrev pub held_quaternaries : HeldQuaternaries → List ℕ → List ℕ
held_quaternaries l ws =
    if l.vanishes && is_only (2 ^ 32) ws then [] else l.bytes.items ++ quaternary_rest l.writer ws

-- the bytes of a quaternary level that has ended
abbrev pub held_quaternary_bytes : HeldQuaternaries → List ℕ
held_quaternary_bytes l = l.bytes.items
