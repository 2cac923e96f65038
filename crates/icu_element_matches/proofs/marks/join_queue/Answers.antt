use Rattle.std.proofs.Common.{◌≡◌, ◌<◌, ◌∷◌, ◌++◌, [], ℕ, List, true, false, Some, None, length, sym, ap, ap₂, ◌∙◌, rules, arith}
use Rattle.std.specs.Prelude.{slice_get}
use Rattle.icu_table_data.specs.Data.{Mapping}
use Rattle.icu_table_data.specs.StoredData.{found_context}
use Rattle.icu_element_matches.specs.Matches.{with_marks}
use Rattle.icu_element_matches.proofs.MarkQueueLemmas.{by_test, taken_first}
use Rattle.icu_element_matches.proofs.PassedClassLemmas.{join_first, pass_none, pass_others}
use Rattle.icu_element_matches.proofs.marks.join_queue.Goals as goal

pub returns-then-not-branch-clause-marks : goal.returns-then-not-branch-clause-marks
returns-then-not-branch-clause-marks c = λ passed left above.
    let mappings : List Mapping = (found_context c.args.context).mappings in
    let l = c.marks in
    let ms : List ℕ = l.queue.marks.items in
    let at : slice_get ms 0 ≡ Some c.in-Some.mark = search rules in
    let no : c.in_ok-join_mark.field-0 ≡ false = search rules in
    let joins = rw no at c.in_ok-join_mark.ensures in
    ap₂ (λ (e : ℕ) (s : List ℕ). with_marks mappings e s (passed ++ ms) left) joins.1 joins.2
    ∙ pass_others mappings l.matched.ce32 l.matched.suffix.items passed ms left l.queue.class c.in-Some.mark l.queue.is_mark (by_test l.queue.class ms l.queue.all) (omega (arith, above, l.invariant.class)) at joins.0
    ∙ l.invariant.marks passed left above

pub marks-preserved : goal.marks-preserved
marks-preserved c =
    let mappings : List Mapping = (found_context c.args.context).mappings in
    let l = c.marks in
    let ms : List ℕ = l.queue.marks.items in
    let m : ℕ = c.in-Some.mark in
    let at : slice_get ms 0 ≡ Some m = search rules in
    let yes : c.in_ok-join_mark.field-0 ≡ true = search rules in
    let joins = rw yes at c.in_ok-join_mark.ensures in
    let rest : List ℕ = c.take_first.new.self.marks.items in
    let taken : ms ≡ m ∷ rest = taken_first ms rest c.take_first.result m c.take_first.ensures.marks c.take_first.ensures.end at in
    let entry : ℕ = c.join_mark.new.matched.ce32 in
    record {
      marks = λ passed left above.
          ap (λ (s : List ℕ). with_marks mappings entry s passed (rest ++ left)) joins.1
          ∙ join_first mappings l.matched.ce32 entry l.matched.suffix.items passed ms rest left l.queue.class m l.queue.is_mark (by_test l.queue.class ms l.queue.all) (omega (arith, above, l.invariant.class)) taken joins.0
          ∙ l.invariant.marks passed left above;
      class = c.take_first.ensures.class ∙ l.invariant.class;
      fewer = omega (arith, ap length taken, l.invariant.fewer);
    }

pub returns-clause-marks : goal.returns-clause-marks
returns-clause-marks c = λ passed left above.
    let mappings : List Mapping = (found_context c.args.context).mappings in
    let l = c.marks in
    let ms : List ℕ = l.queue.marks.items in
    let none : slice_get ms 0 ≡ None = search rules in
    pass_none mappings l.matched.ce32 l.matched.suffix.items passed ms left none ∙ l.invariant.marks passed left above
