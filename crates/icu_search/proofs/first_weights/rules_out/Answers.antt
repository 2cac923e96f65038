use Rattle.std.proofs.Common.{◌≡◌, ◌<◌, true, [], length, get_or, ap, ◌∙◌, sym, subst, arith}
use Rattle.unicode_normalization.specs.Forms.{nfd}
use Rattle.icu_collator.specs.Collators.{collation_borrowed}
use Rattle.icu_element_cursor.specs.FactsCursors.{facts_give}
use Rattle.icu_table_provider.specs.CollatorTables.{reorder}
use Rattle.icu_element_reading.specs.TextElements.{Reading, elements_after}
use Rattle.icu_order_texts.specs.weighting.Forms.{last_variable_by}
use Rattle.icu_search.specs.inner.FirstWeights.{counts}
use Rattle.icu_search.proofs.FirstWeightLemmas.{ReadFirst, first_read, read_past, read_on, reads_other, reads_few}
use Rattle.icu_search.proofs.first_weights.rules_out.Goals as goal
use Rattle.icu_search.proofs.first_weights.rules_out.Goals.{then-counts+else-differ, else-counts}

pub loop-init : goal.loop-init
loop-init c =
    let text = c.args.text.now in
    record {
      inside = omega arith;
      read = first_read (collation_borrowed c.args.collator.now) text (facts_give (λ t. t.0.now) c.new-cursor.result) (c.new-cursor.ensures.gives [] ∙ ap (λ (r : Reading). elements_after r [] (nfd text)) c.cursor_tables-tables.ensures);
    }

pub returns-in_default-next : goal.returns-in_default-next
returns-in_default-next c = λ h.
    let front = c.args.primaries.now in
    let none = (rw c.in_default-next.is at c.in-Some.ensures).1 in
    reads_few (collation_borrowed c.args.collator.now) c.args.text.now front (facts_give (λ t. t.0.now) c.loop.cursor) c.loop.met c.loop.invariant.read none
    (omega (arith, c.loop.invariant.inside, c.if-met-primaries.false))

pub returns-then-differ : goal.returns-then-differ
returns-then-differ c = λ h.
    let front = c.args.primaries.now in
    let collation = collation_borrowed c.args.collator.now in
    let last = last_variable_by collation in
    let x = c.in-Some-next.element in
    let next = (rw c.in-Some-next.is at c.in-Some.ensures).1 in
    let inside : c.loop.met < length front = omega (arith, c.loop.invariant.inside, c.if-met-primaries.false) in
    let is : counts last x.primary ≡ true = ap (counts last) (sym c.primary.ensures) ∙ sym (c.in-Some-counts.ensures last c.requires.sure c.requires.variable) ∙ c.if-counts.true in
    let other : reorder collation.tables x.primary ≡ reorder collation.tables (get_or front c.loop.met 0) → ⊥ = λ e.
    c.differ.ensures collation c.requires.apart c.if-differ.true
    (ap (reorder collation.tables) c.primary-then-counts.ensures ∙ e) in
    reads_other collation c.args.text.now (facts_give (λ t. t.0.now) c.loop.cursor) (facts_give (λ t. t.0.now) c.next_or_end.new.self) c.loop.met x c.loop.invariant.read next front is inside other

pub loop-preserved : goal.loop-preserved
loop-preserved c =
    let front = c.args.primaries.now in
    let collation = collation_borrowed c.args.collator.now in
    let last = last_variable_by collation in
    let x = c.in-Some-next.element in
    let next = (rw c.in-Some-next.is at c.in-Some.ensures).1 in
    let inside : c.loop.met < length front = omega (arith, c.loop.invariant.inside, c.if-met-primaries.false) in
    let known : counts last x.primary ≡ c.in-Some-counts.counts = ap (counts last) (sym c.primary.ensures) ∙ sym (c.in-Some-counts.ensures last c.requires.sure c.requires.variable) in
    let old = facts_give (λ t. t.0.now) c.loop.cursor in
    let new = facts_give (λ t. t.0.now) c.next_or_end.new.self in
    elim c.if-counts.branch [
      | then-counts+else-differ w ↦
          let on = read_on collation c.args.text.now old new c.loop.met x c.loop.invariant.read next (known ∙ w.if-counts.true) in
          record {
            inside = omega (arith, inside, w.met-is);
            read = subst (ReadFirst collation c.args.text.now new) (sym w.met-is) on;
          }
      | else-counts w ↦
          let on = read_past collation c.args.text.now old new c.loop.met x c.loop.invariant.read next (known ∙ w.if-counts.false) in
          record {
            inside = omega (arith, inside, w.met-is);
            read = subst (ReadFirst collation c.args.text.now new) (sym w.met-is) on;
          }
    ]
