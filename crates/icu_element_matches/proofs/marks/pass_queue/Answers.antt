use Rattle.std.proofs.Common.{◌≡◌, ◌<◌, ◌≤◌, ◌++◌, ℕ, List, ◌∙◌, rules, arith}
use Rattle.icu_table_data.specs.Data.{Mapping}
use Rattle.icu_table_data.specs.StoredData.{found_context}
use Rattle.icu_element_matches.proofs.MarkQueueLemmas.{by_test}
use Rattle.icu_element_matches.proofs.PassedClassLemmas.{greatest_none, greatest_same, greatest_some, pass_class}
use Rattle.icu_element_matches.proofs.marks.pass_queue.Goals as goal

pub returns-then-queue-greatest-clause-marks : goal.returns-then-queue-greatest-clause-marks
returns-then-queue-greatest-clause-marks c = λ passed left is.
    let mappings : List Mapping = (found_context c.args.context).mappings in
    let q = c.args.queue.now in
    let m = c.args.matched.now in
    pass_class mappings m.ce32 m.suffix.items passed q.marks.items left q.class q.is_mark (by_test q.class q.marks.items q.all) (omega (arith, is, c.if-queue-greatest.true))

pub returns-then-queue-greatest-clause-greatest : goal.returns-then-queue-greatest-clause-greatest
returns-then-queue-greatest-clause-greatest c = λ passed is.
    let q = c.args.queue.now in
    greatest_same passed q.marks.items q.class (by_test q.class q.marks.items q.all) (omega (arith, is, c.if-queue-greatest.true)) ∙ is

pub returns-then-is_some-clause-greatest : goal.returns-then-is_some-clause-greatest
returns-then-is_some-clause-greatest c = λ passed is.
    let q = c.join_queue.new.queue in
    greatest_some passed q.marks.items q.class (by_test q.class q.marks.items q.all) (omega (arith, is, c.if-queue-greatest.false, c.in_ok-join_queue.ensures.class)) (search rules)

pub returns-else-is_some-clause-greatest : goal.returns-else-is_some-clause-greatest
returns-else-is_some-clause-greatest c = λ passed is.
    let q = c.join_queue.new.queue in
    greatest_none passed q.marks.items (search rules) ∙ is
