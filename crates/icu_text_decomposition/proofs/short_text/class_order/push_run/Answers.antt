use Rattle.icu_text_decomposition.specs.short_text.ArrayTexts.{array_unread}
use Rattle.icu_text_decomposition.proofs.short_text.PartOrderLemmas.{run_so_far, class_follows, classes_end}
use Rattle.icu_text_decomposition.proofs.short_text.class_order.push_run.Goals as goal

pub classes-init : goal.classes-init
classes-init g c = λ _. run_so_far (array_unread c.args.text.now) c.args.chars.now

pub classes-preserved : goal.classes-preserved
classes-preserved g c = λ small.
    class_follows c.args.chars.now _ _ _ _ c.classes.class c.in-Some.next _ c.in_ok-end.ensures.pass c.in_ok-end.ensures.end c.in-Some.is small
    c.in_ok-end.ensures.left (c.classes.invariant c.push_class.ensures.class)

pub returns-in-None-clause-left : goal.returns-in-None-clause-left
returns-in-None-clause-left g c =
    classes_end c.args.chars.now _ _ _ _ c.classes.class _ c.in_ok-end.ensures.pass c.in_ok-end.ensures.end c.in-None.is
    c.in_ok-end.ensures.left (c.classes.invariant c.push_class.ensures.class)
