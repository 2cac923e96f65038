use Rattle.icu_rule_laws.proofs.tailored_texts.TailoredTextLemmas.{read_by_tailorings}
use Rattle.icu_rule_laws.proofs.tailored_texts.texts_are_read_by_tailorings.Goals as goal

pub returns : goal.returns
returns g c = read_by_tailorings g.R.RootMappings.mappings_of c.elements_of_the_root_stay.ensures
