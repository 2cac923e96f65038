-- What the writer of a level has yet to write: the bytes of the level that are still to come, given what the writer is
-- still to be fed.
use Rattle.std.specs.Prelude.{ℕ, List, ◌++◌, map, reverse, option_to_list}
use Rattle.icu_order_levels.specs.Runs.{level_bytes}
use Rattle.icu_order_levels.specs.WeightBytes.{weight_bytes}
use Rattle.icu_order_levels.specs.Primaries.{Compression, primary_level}
use Rattle.icu_order_levels.specs.Secondaries.{secondary_level, further_segments}
use Rattle.icu_order_levels.specs.Tertiaries.{tertiary_runs, tertiary_bytes}
use Rattle.icu_order_levels.specs.Cases.{packed, case_runs, case_nibble}
use Rattle.icu_order_levels.specs.Quaternaries.{quaternary_bytes}
use Rattle.icu_order_levels.specs.Identical.{identical_bytes}
use Rattle.icu_order_levels.specs.declared.forms.CaseForm.{CaseForm}
use Rattle.icu_order_levels.specs.declared.forms.TertiaryForm.{TertiaryForm}
use Rattle.icu_order_levels.specs.declared.run_bytes.TheConstants.{SECONDARY_RUNS, QUATERNARY_RUNS}
use Rattle.icu_key_writers.specs.declared.primaries.PrimaryWriter.{PrimaryWriter}
use Rattle.icu_key_writers.specs.declared.secondaries.SecondaryWriter.{SecondaryWriter}
use Rattle.icu_key_writers.specs.declared.backward.BackwardWriter.{BackwardWriter}
use Rattle.icu_key_writers.specs.declared.cases.CaseWriter.{CaseWriter}
use Rattle.icu_key_writers.specs.declared.tertiaries.TertiaryWriter.{TertiaryWriter}
use Rattle.icu_key_writers.specs.declared.quaternaries.QuaternaryWriter.{QuaternaryWriter}
use Rattle.icu_key_writers.specs.declared.identical.IdenticalWriter.{IdenticalWriter}

-- further primaries, before reordering
abbrev pub primary_rest : Compression → PrimaryWriter → List ℕ → List ℕ
primary_rest c w = primary_level c w.dropped

-- further secondaries
abbrev pub secondary_rest : SecondaryWriter → List ℕ → List ℕ
secondary_rest w = level_bytes SECONDARY_RUNS (weight_bytes 2) w.run.length

-- the secondaries of the segment at hand, in the order of the text
abbrev pub segment_so_far : BackwardWriter → List ℕ
segment_so_far w = w.segment.items

-- further secondaries of the segment at hand, and the segments after it, each in the order of the text
abbrev pub backward_rest : BackwardWriter → List ℕ × List (List ℕ) → List ℕ
backward_rest w rest = secondary_level (reverse (segment_so_far w ++ rest.0)) ++ further_segments (map reverse rest.1)

-- the form of the case level that is written
abbrev pub case_form_of : CaseWriter → CaseForm
case_form_of w = w.form

-- further ranks: a nibble that waits comes before theirs
abbrev pub case_rest : CaseWriter → List ℕ → List ℕ
case_rest w ranks = packed (option_to_list w.nibbles.held ++ level_bytes (case_runs w.form) (case_nibble w.form) w.run.length ranks)

-- the form of the tertiary level that is written
abbrev pub tertiary_form_of : TertiaryWriter → TertiaryForm
tertiary_form_of w = w.form

-- further tertiaries, as the form has them
abbrev pub tertiary_rest : TertiaryWriter → List ℕ → List ℕ
tertiary_rest w = level_bytes (tertiary_runs w.form) (tertiary_bytes w.form) w.run.length

-- further quaternaries
abbrev pub quaternary_rest : QuaternaryWriter → List ℕ → List ℕ
quaternary_rest w = level_bytes QUATERNARY_RUNS quaternary_bytes w.run.length

-- further characters
abbrev pub identical_rest : IdenticalWriter → List ℕ → List ℕ
identical_rest w = identical_bytes w.base
