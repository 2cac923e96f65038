-- The common beginning doesn't count on the primary level.
use Rattle.std.proofs.Common.{rules}
use Rattle.icu_collator.specs.Collators.{collation_borrowed}
use Rattle.icu_collator.proofs.FirstPrimaryLemmas.{cut_decides, rests_lead}
use Rattle.icu_collator.proofs.collator.CollatorBorrowed.order_cut_at.Goals as goal

pub returns : goal.returns
returns g c =
    let collation = collation_borrowed c.args.self.now in
    let t = g.L.EncodedText.text c.in_ok-one.one in
    let u = g.R.EncodedText.text c.in_ok-other.other in
    let left = g.L.EncodedText.text c.args.left in
    let right = g.R.EncodedText.text c.args.right in
    cut_decides collation c.order_of_first_primaries.result t u left right
    (rests_lead collation c.common_beginnings_do_not_count.ensures c.primary_order_is_of_weights.ensures.weights
    left right (g.L.EncodedText.beginning c.args.left c.args.at) (g.R.EncodedText.beginning c.args.right c.args.at)
    t u c.in_ok-one.ensures c.in_ok-other.ensures c.requires
    (c.first_facts-facts.ensures.rest (search rules)) (c.first_facts-other_facts.ensures.rest (search rules)))
    (c.order_of_first_primaries.ensures.leads t u c.first_facts-facts.ensures.leads c.first_facts-other_facts.ensures.leads)
