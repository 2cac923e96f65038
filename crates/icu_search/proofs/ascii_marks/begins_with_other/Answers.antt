use Rattle.std.proofs.Common.{ap, sym, ◌∙◌, rules}
use Rattle.icu_collator.specs.Collators.{collation_borrowed}
use Rattle.icu_table_provider.specs.CollatorTables.{reorder}
use Rattle.icu_order_texts.specs.weighting.Forms.{last_variable_by}
use Rattle.icu_search.specs.inner.FirstWeights.{counts}
use Rattle.icu_search.proofs.ascii_marks.begins_with_other.Goals as goal

pub returns-in-Some-true : goal.returns-in-Some-true
returns-in-Some-true c = λ is.
    let collation = collation_borrowed c.args.collator.now in
    let last = last_variable_by collation in
    record {
      element = c.in-Some.element;
      rest = c.in-Some.ensures.rest;
      elements = c.in-Some.ensures.is;
      counted = ap (counts last) (sym c.primary.ensures) ∙ sym (c.in-Some-true.ensures last c.requires.sure c.requires.variable) ∙ c.in-Some-true.field-0-test;
      some = search rules;
      other = λ e. c.differ.ensures collation c.requires.apart is (ap (reorder collation.tables) c.primary-in-Some-true.ensures ∙ e);
    }
