-- The common beginning doesn't count.
use Rattle.std.proofs.Common.{◌≡◌, IfSome, Ordering, subst, rules}
use Rattle.icu_order_texts.specs.TextOrder.{text_order}
use Rattle.icu_collator.specs.Collators.{collation_borrowed}
use Rattle.icu_collator.proofs.FirstPrimaryLemmas.{rests_order}
use Rattle.icu_collator.proofs.collator.CollatorBorrowed.rests_at.Goals as goal

pub returns : goal.returns
returns g c =
    let collation = collation_borrowed c.args.self.now in
    let t = g.L.EncodedText.text c.in_ok-one.one in
    let u = g.R.EncodedText.text c.in_ok-other.other in
    let same : text_order collation t u ≡ text_order collation (g.L.EncodedText.text c.args.left) (g.R.EncodedText.text c.args.right) =
    rests_order collation c.common_beginnings_do_not_count.ensures c.requires.forward
    (g.L.EncodedText.text c.args.left) (g.R.EncodedText.text c.args.right)
    (g.L.EncodedText.beginning c.args.left c.args.at) (g.R.EncodedText.beginning c.args.right c.args.at)
    t u c.in_ok-one.ensures c.in_ok-other.ensures c.requires.beginning
    (c.first_facts-facts.ensures.rest (search rules)) (c.first_facts-other_facts.ensures.rest (search rules)) in (
      same,
      subst (λ (w : Ordering). IfSome c.order_by_first_characters-order.result (λ o. o ≡ w)) same c.order_by_first_characters-order.ensures,
    )
