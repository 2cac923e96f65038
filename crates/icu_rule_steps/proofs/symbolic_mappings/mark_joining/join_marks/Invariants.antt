use Rattle.std.proofs.Common.{◌≡◌, ◌-◌, ◌<◌, ◌≤◌, ℕ, None, [], ◌∷◌, ◌++◌, take, drop, length}
use Rattle.ucd_normal.specs.CanonicalCombiningClass.{canonical_combining_class as class_of}
use Rattle.icu_element_matches.specs.Texts.{unread}
use Rattle.icu_element_matches.specs.inner.Joining.{greatest_class}
use Rattle.icu_rule_meaning.specs.TailoredMappings.{joined_marks, mapping_with}
use Rattle.icu_rule_steps.specs.symbolic_mappings.StoredMappings.{symbolic_mapping}
use Rattle.icu_rule_steps.specs.symbolic_mappings.inner.PassedMarks.{AreMarksTo, IsMarkRun}
use Rattle.icu_rule_steps.specs.symbolic_mappings.inner.Tiers.{lent_mappings}
use Rattle.icu_rule_steps.proofs.symbolic_mappings.mark_joining.join_marks.Given as goal

-- going on from here comes to what the whole comes to
abbrev pub invariant-marks : goal.invariant-marks
invariant-marks l = record {
  inside : l.passed ≤ length (unread l.text);
  greatest : l.greatest ≡ greatest_class (take l.passed (unread l.text));
  joining : (m : ℕ) → l.joining < class_of m → mapping_with (lent_mappings l.mappings) ((symbolic_mapping l.found).suffix ++ m ∷ []) ≡ None;
  run : IsMarkRun l.known (unread l.text);
  front : AreMarksTo l.greatest (unread l.text) 0 l.passed;
  whole : joined_marks (lent_mappings l.mappings) (symbolic_mapping l.found) (take l.passed (unread l.text)) (drop l.passed (unread l.text)) ≡ joined_marks (lent_mappings l.mappings) (symbolic_mapping l.begun) [] (unread l.fn.text);
}

abbrev pub decreases-marks : goal.decreases-marks
decreases-marks l = length (unread l.text) - l.passed
