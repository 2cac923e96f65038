-- Both texts are read as far as their primaries are the same, and the first that differ decide.
use Rattle.std.proofs.Common.{◌≡◌, ◌∷◌, ◌++◌, ◌∙◌, ℕ, [], sym, ap, subst, rules}
use Rattle.unicode_normalization.specs.Forms.{nfd}
use Rattle.icu_element_reading.specs.TextElements.{Reading, elements_after}
use Rattle.icu_collator.specs.Collators.{collation_borrowed}
use Rattle.icu_collator.specs.inner.FirstPrimaries.{ReadsOn}
use Rattle.icu_collator.proofs.FirstPrimaryLemmas.{reads_from_start, reads_on, facts_decide}
use Rattle.icu_collator.proofs.collator.CollatorBorrowed.order_by_primaries.Goals as goal

pub weights-init : goal.weights-init
weights-init g c =
    let collation = collation_borrowed c.args.self.now in
    let left = g.L.EncodedText.text in
    let right = g.R.EncodedText.text in (
      [],
      reads_from_start collation left (left c.args.left) c.new-one.result
          (λ before. c.new-one.ensures.gives before ∙ ap (λ (r : Reading). elements_after r before (nfd (left c.args.left))) c.requires),
      reads_from_start collation right (right c.args.right) c.new-other.result
          (λ before. c.new-other.ensures.gives before ∙ ap (λ (r : Reading). elements_after r before (nfd (right c.args.right))) c.requires),
    )

pub weights-preserved : goal.weights-preserved
weights-preserved g c =
    let collation = collation_borrowed c.args.self.now in
    let left = g.L.EncodedText.text in
    let right = g.R.EncodedText.text in
    let read = c.weights.invariant.0 in
    let p = c.in_ok-weight.weight in
    let q = c.in_ok-other_weight.other_weight in
    let same : p ≡ q = search rules in (
      read ++ p ∷ [],
      reads_on collation left (left c.args.left) read p c.weights.one c.next_primary.new.characters c.weights.invariant.1 c.in_ok-weight.ensures.given,
      subst (λ (x : ℕ). ReadsOn collation (right c.args.right) (read ++ x ∷ []) right c.next_primary-in-weights.new.characters) (sym same)
          (reads_on collation right (right c.args.right) read q c.weights.other c.next_primary-in-weights.new.characters c.weights.invariant.2 c.in_ok-other_weight.ensures.given),
    )

pub returns-then-weight-other_weight : goal.returns-then-weight-other_weight
returns-then-weight-other_weight g c =
    let collation = collation_borrowed c.args.self.now in
    let left = g.L.EncodedText.text in
    let right = g.R.EncodedText.text in
    let read = c.weights.invariant.0 in
    let p = c.in_ok-weight.weight in
    let q = c.in_ok-other_weight.other_weight in
    facts_decide collation left right (left c.args.left) (right c.args.right) read p q c.next_primary.new.characters c.next_primary-in-weights.new.characters c.order_of_primaries.result
    (reads_on collation left (left c.args.left) read p c.weights.one c.next_primary.new.characters c.weights.invariant.1 c.in_ok-weight.ensures.given)
    (reads_on collation right (right c.args.right) read q c.weights.other c.next_primary-in-weights.new.characters c.weights.invariant.2 c.in_ok-other_weight.ensures.given)
    c.in_ok-weight.ensures.some c.in_ok-other_weight.ensures.some c.order_of_primaries.ensures
