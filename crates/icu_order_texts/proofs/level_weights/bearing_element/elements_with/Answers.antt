-- An element more is passed, and bears the weight or not.
use Rattle.std.proofs.Common.{◌≡◌, ◌<◌, ◌∙◌, ◌+◌, ◌∷◌, [], ◌++◌, ap, arith, get_or, length, option_to_list, sym, take}
use Rattle.std.proofs.lemmas.List.{take_more}
use Rattle.icu_table_entries.specs.Elements.{Element}
use Rattle.icu_order_texts.proofs.level_weights.BearingLemmas.{count_none, count_some, found, goes_on, passed_more}
use Rattle.icu_order_texts.specs.level_weights.Weighings.{weighing_of}
use Rattle.icu_order_texts.proofs.level_weights.bearing_element.elements_with.Goals.{then-is_some+else-left-eq0, else-is_some}
use Rattle.icu_order_texts.proofs.level_weights.bearing_element.elements_with.Goals as goal

pub returns-then-left-eq0 : goal.returns-then-left-eq0
returns-then-left-eq0 c =
    let w = weighing_of c.args.weighing.now in
    let es = c.args.elements.now in
    let k = c.loop-element.passed in
    let x = c.element-item.result in
    let o = c.next_weight.result in
    let inside : k < length es = omega (arith, c.loop-element.invariant.counted, c.loop-element-test.true) in
    let item : take (k + 1) es ≡ take k es ++ x ∷ [] =
    take_more es k x inside ∙ ap (λ (y : Element). take k es ++ y ∷ []) (ap (λ i. get_or es i x) c.loop-element.invariant.counted ∙ sym c.element-item.is) in
    found w c.args.before es k c.loop-element.handles c.next_weight.new.handles c.loop-element.left 0 x o c.loop-element.invariant.weighed item
    c.next_weight.ensures inside c.loop-element.invariant.least c.if-left-eq0.true (count_some o (sym c.is_some.ensures ∙ c.if-is_some.true))

pub loop-element-preserved : goal.loop-element-preserved
loop-element-preserved c =
    let w = weighing_of c.args.weighing.now in
    let es = c.args.elements.now in
    let k = c.loop-element.passed in
    let x = c.element-item.result in
    let o = c.next_weight.result in
    let inside : k < length es = omega (arith, c.loop-element.invariant.counted, c.loop-element-test.true) in
    let item : take (k + 1) es ≡ take k es ++ x ∷ [] =
    take_more es k x inside ∙ ap (λ (y : Element). take k es ++ y ∷ []) (ap (λ i. get_or es i x) c.loop-element.invariant.counted ∙ sym c.element-item.is) in
    let counts : c.if-is_some.left + length (option_to_list o) ≡ c.loop-element.left = elim c.if-is_some.branch [
      | then-is_some+else-left-eq0 w ↦ omega (arith, w.left-is, w.if-left-eq0.false, count_some o (sym c.is_some.ensures ∙ w.if-is_some.true))
      | else-is_some w ↦ omega (arith, w.left-is, count_none o (sym c.is_some.ensures ∙ w.if-is_some.false))
    ] in
    record {
      counted = ap (λ n. n + 1) c.loop-element.invariant.counted;
      weighed =
          passed_more w c.args.before es k c.loop-element.handles c.next_weight.new.handles c.loop-element.left c.if-is_some.left x o
          c.loop-element.invariant.weighed item c.next_weight.ensures counts;
      least =
          goes_on w c.args.before es k c.loop-element.handles c.next_weight.new.handles c.loop-element.left c.if-is_some.left x o
          c.loop-element.invariant.weighed item c.next_weight.ensures inside c.loop-element.invariant.least;
    }
