use Rattle.std.proofs.Common.{◌≡◌, ◌++◌, length}
use Rattle.icu_element_matches.specs.Texts.{unread}
use Rattle.icu_rule_meaning.specs.TailoredMappings.{symbolic_along, symbolic_elements}
use Rattle.icu_rule_steps.specs.symbolic_mappings.KeptMappings.{mappings_in}
use Rattle.icu_rule_steps.specs.symbolic_mappings.inner.PassedMarks.{IsMarkRun}
use Rattle.icu_rule_steps.proofs.symbolic_mappings.kept_mappings.Mappings.symbolic_elements.Given as goal

-- the elements so far and those of what is left are those of the text
abbrev pub invariant-reading : goal.invariant-reading
invariant-reading g l = record {
  run : IsMarkRun l.run (unread l.left);
  whole : l.elements.items ++ symbolic_along (unread l.left) (mappings_in g.R.RootMappings.mappings_of l.self) l.before.items (unread l.left) ≡ symbolic_elements (mappings_in g.R.RootMappings.mappings_of l.self) l.fn.text.items;
}

abbrev pub decreases-reading : goal.decreases-reading
decreases-reading g l = length (unread l.left)
