-- A primary weight that is kept leads the text.
use Rattle.icu_collator.specs.Collators.{collation_borrowed}
use Rattle.icu_collator.proofs.FirstPrimaryLemmas.{begins_with_starter}
use Rattle.icu_collator.proofs.collator.CollatorBorrowed.first_primary.Goals as goal

pub returns-then-ne : goal.returns-then-ne
returns-then-ne g c = λ first known nonzero.
    begins_with_starter (collation_borrowed c.args.self.now) c.first_starters_lead.ensures first (g.T.EncodedText.text c.args.rest) c.args.facts.now.leading_primary (known.leads nonzero)
