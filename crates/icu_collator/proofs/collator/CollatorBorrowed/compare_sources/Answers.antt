-- What one pass shows of the sources is true of the texts.
use Rattle.icu_collator.specs.Collators.{collation_borrowed}
use Rattle.icu_collator.proofs.InStepLemmas.{in_step_read, difference_read}
use Rattle.icu_collator.proofs.collator.CollatorBorrowed.compare_sources.Goals as goal

pub returns-in-Some : goal.returns-in-Some
returns-in-Some g c = λ t u one other.
    in_step_read (collation_borrowed c.args.self.now) t u c.primary_level-first.result
    (g.L.HandledSource.handled_left c.args.left.now) (g.R.HandledSource.handled_left c.args.right.now)
    (c.primary_level-first.ensures t u) one other
    c.compare_in_step.result c.in-Some.form (rw c.in-Some.is at c.three_level_form.ensures) c.compare_in_step.ensures

pub returns-in-None : goal.returns-in-None
returns-in-None g c = λ t u one other.
    difference_read (collation_borrowed c.args.self.now) t u c.primary_level-first.result
    (g.L.HandledSource.handled_left c.args.left.now) (g.R.HandledSource.handled_left c.args.right.now)
    (c.primary_level-first.ensures t u) one other
    c.compare_from_difference.result c.compare_from_difference.ensures.same c.compare_from_difference.ensures.order
