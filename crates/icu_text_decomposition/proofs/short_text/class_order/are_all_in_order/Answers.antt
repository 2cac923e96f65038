use Rattle.std.proofs.Common.{◌≡◌, ◌-◌, true, drop, sym, subst, arith}
use Rattle.unicode_normalization.specs.Order.{is_ordered}
use Rattle.icu_text_decomposition.proofs.short_text.PartOrderLemmas.{last_is_ordered, one_more_ordered}
use Rattle.icu_text_decomposition.proofs.short_text.class_order.are_all_in_order.Goals as goal

pub back-init : goal.back-init
back-init c = record { inside = omega arith; ordered = last_is_ordered c.args.chars.now }

pub back-preserved : goal.back-preserved
back-preserved c =
    let more = c.back-test.true in
    let inside = c.back.invariant.inside in
    let place : c.back.at - 2 ≡ c.back.at - 1 - 1 = omega arith in
    record {
      inside = omega arith;
      ordered = subst (λ n. is_ordered (drop n c.args.chars.now) ≡ true) place
          (one_more_ordered c.args.chars.now (c.back.at - 2) (c.back.at - 1) _ _ _ _ (omega arith) (omega arith)
          c.index-chars-at.is c.index-chars-at-in-back.is (sym c.if-is_reorderable.ensures) c.back.invariant.ordered);
    }
