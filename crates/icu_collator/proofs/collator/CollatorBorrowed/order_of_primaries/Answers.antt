-- The first primaries decide.
use Rattle.std.proofs.Common.{◌≡◌, ◌⊎◌, ◌∙◌, Option, Ordering, IfSome, map, sym, ap, subst, inl, inr}
use Rattle.icu_table_provider.specs.CollatorTables.{reorder, reorder_by}
use Rattle.icu_collator.specs.Collators.{tables_borrowed}
use Rattle.icu_collator.specs.inner.FirstPrimaries.{Decides, unequal_order}
use Rattle.icu_collator.proofs.FirstPrimaryLemmas.{ends_decide, leads_decide}
use Rattle.icu_collator.proofs.collator.CollatorBorrowed.order_of_primaries.Goals.{then-one-eq0-via-then-one-eq0, then-one-eq0-via-else-one-eq0+then-other-eq0}
use Rattle.icu_collator.proofs.collator.CollatorBorrowed.order_of_primaries.Goals as goal

pub returns-then-one-eq0 : goal.returns-then-one-eq0
returns-then-one-eq0 c = λ ps qs h k.
    let r = reorder (tables_borrowed c.args.self.now) in
    let one = c.args.one in
    let other = c.args.other in
    let empty : (one ≡ 0) ⊎ (other ≡ 0) = elim c.then-one-eq0.branch [
      | then-one-eq0-via-then-one-eq0 w ↦ inl w.if-one-eq0.true
      | then-one-eq0-via-else-one-eq0+then-other-eq0 w ↦ inr w.if-other-eq0.true
    ] in
    subst (λ (found : Option Ordering). IfSome found (Decides (map r ps) (map r qs))) (sym c.unequal.ensures) (ends_decide r one other ps qs h k empty)

pub returns : goal.returns
returns c = λ ps qs h k.
    let r = reorder (tables_borrowed c.args.self.now) in
    let one = c.args.one in
    let other = c.args.other in
    let left : c.reordered.result ≡ r one = c.reordered.ensures ∙ ap (λ re. reorder_by re one) c.reordering-reordering.ensures in
    let right : c.reordered-2.result ≡ r other = c.reordered-2.ensures ∙ ap (λ re. reorder_by re other) c.reordering-reordering.ensures in
    let found = c.unequal-2.ensures ∙ ap (λ x. unequal_order x c.reordered-2.result) left ∙ ap (unequal_order (r one)) right in
    subst (λ (o : Option Ordering). IfSome o (Decides (map r ps) (map r qs))) (sym found) (leads_decide r one other ps qs h k c.if-one-eq0.false c.if-other-eq0.false)
