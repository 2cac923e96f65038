-- The characters are those of texts that are read as the collation says.
use Rattle.std.proofs.Common.{◌∙◌, sym, subst}
use Rattle.icu_element_reading.specs.TextElements.{Reading}
use Rattle.icu_element_facts.specs.FactsTables.{AreFacts}
use Rattle.icu_collator.proofs.collator.CollatorBorrowed.cursor_tables.Goals as goal

pub new-requires : goal.new-requires
new-requires c = subst (λ (r : Reading). AreFacts r c.args.self.now.kept_facts.now) (sym c.boundaries.ensures) c.args.self.now.known

pub returns : goal.returns
returns c = c.new.ensures ∙ c.boundaries.ensures
