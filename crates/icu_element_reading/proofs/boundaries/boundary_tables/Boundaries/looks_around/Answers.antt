use Rattle.std.proofs.Common.{is_some, ◌∙◌}
use Rattle.icu_element_reading.specs.boundaries.BoundaryTables.{boundary_reading}
use Rattle.icu_element_reading.proofs.boundaries.PlainCharLemmas.{other_number, no_prefix}
use Rattle.icu_element_reading.proofs.boundaries.boundary_tables.Boundaries.looks_around.Goals as goal

pub returns-in_default : goal.returns-in_default
unfolding boundary_reading
returns-in_default c =
    let reading = boundary_reading c.args.self.now in
    let is = c.kind.ensures in
    record {
      prefix = λ _. no_prefix _ (λ h. c.in_default.not-Prefix (is ∙ h));
      number = λ _. other_number reading.tables (is_some reading.numeric) c.args.c (λ h. c.in_default.not-Prefix (is ∙ h)) (λ h. c.in_default.not-Contraction (is ∙ h)) (λ h. c.in_default.not-Digit (is ∙ h));
    }
