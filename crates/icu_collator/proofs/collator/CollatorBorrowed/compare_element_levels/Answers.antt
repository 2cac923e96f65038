-- Primaries that tie leave it to the levels after them.
use Rattle.std.proofs.Common.{◌∙◌}
use Rattle.unicode_normalization.specs.Forms.{nfd}
use Rattle.icu_collator.specs.Collators.{collation_borrowed}
use Rattle.icu_collator.proofs.InStepLemmas.{later_levels_decide}
use Rattle.icu_collator.proofs.collator.CollatorBorrowed.compare_element_levels.Goals as goal

pub returns-in-Ok-None : goal.returns-in-Ok-None
returns-in-Ok-None g c =
    c.compare_later_levels.ensures
    ∙ later_levels_decide (collation_borrowed c.args.self.now) (nfd (g.L.EncodedText.text c.args.left)) (nfd (g.R.EncodedText.text c.args.right))
    (rw c.in-Ok-None.field-0-is at c.in-Ok-None.ensures)
