-- Both primaries are known.
use Rattle.icu_collator.specs.Collators.{collation_borrowed}
use Rattle.icu_collator.proofs.FirstPrimaryLemmas.{first_primaries_decide, first_primaries_lead}
use Rattle.icu_collator.proofs.collator.CollatorBorrowed.order_of_first_primaries.Goals as goal

pub returns-in-Some-Some-clause-order : goal.returns-in-Some-Some-clause-order
returns-in-Some-Some-clause-order c = λ t u h k.
    first_primaries_decide (collation_borrowed c.args.self.now) t u _ _ c.order_of_primaries.result
    (rw c.in-Some-Some.is-0 at h) (rw c.in-Some-Some.is-1 at k) c.order_of_primaries.ensures

pub returns-in-Some-Some-clause-leads : goal.returns-in-Some-Some-clause-leads
returns-in-Some-Some-clause-leads c = λ t u h k.
    first_primaries_lead (collation_borrowed c.args.self.now) t u _ _ c.order_of_primaries.result
    (rw c.in-Some-Some.is-0 at h) (rw c.in-Some-Some.is-1 at k) c.order_of_primaries.ensures
