use Rattle.std.proofs.Common.{◌≡◌, [], ap, ◌∙◌, sym, subst, arith}
use Rattle.unicode_normalization.specs.Forms.{nfd}
use Rattle.icu_collator.specs.Collators.{collation_borrowed}
use Rattle.icu_element_cursor.specs.FactsCursors.{facts_give}
use Rattle.icu_element_reading.specs.TextElements.{Reading, elements_after}
use Rattle.icu_order_texts.specs.weighting.Forms.{last_variable_by}
use Rattle.icu_search.specs.inner.FirstWeights.{counts}
use Rattle.icu_search.proofs.FirstWeightLemmas.{ReadFirst, first_read, read_past, read_on, reads_all}
use Rattle.icu_search.proofs.pattern_weights.known_count.Goals as goal
use Rattle.icu_search.proofs.pattern_weights.known_count.Goals.{then-counts, else-counts}

pub loop-init : goal.loop-init
loop-init c =
    let text = c.args.text.now in
    record {
      inside = omega arith;
      read = first_read (collation_borrowed c.args.collator.now) text (facts_give (λ t. t.0.now) c.new-cursor.result) (c.new-cursor.ensures.gives [] ∙ ap (λ (r : Reading). elements_after r [] (nfd text)) c.cursor_tables-tables.ensures);
    }

pub returns-in_default : goal.returns-in_default
returns-in_default c =
    let none = (rw c.in_default.is at c.in_ok-next.ensures).1 in
    reads_all (collation_borrowed c.args.collator.now) c.args.text.now (facts_give (λ t. t.0.now) c.loop.cursor) c.loop.met c.loop.invariant.read none

pub loop-preserved : goal.loop-preserved
loop-preserved c =
    let collation = collation_borrowed c.args.collator.now in
    let last = last_variable_by collation in
    let x = c.in-Some.element in
    let next = (rw c.in-Some.is at c.in_ok-next.ensures).1 in
    let known : counts last x.primary ≡ c.counts.result =
    ap (counts last) (sym c.primary.ensures) ∙ ap (λ n. counts n c.primary.result) (sym c.last_variable-last.ensures) ∙ sym c.counts.ensures in
    let old = facts_give (λ t. t.0.now) c.loop.cursor in
    let new = facts_give (λ t. t.0.now) c.next_or_end.new.self in
    elim c.if-counts.branch [
      | then-counts w ↦
          let on = read_on collation c.args.text.now old new c.loop.met x c.loop.invariant.read next (known ∙ w.if-counts.true) in
          record {
            inside = omega (arith, c.loop.invariant.inside, w.met-is);
            read = subst (ReadFirst collation c.args.text.now new) (sym w.met-is) on;
          }
      | else-counts w ↦
          let on = read_past collation c.args.text.now old new c.loop.met x c.loop.invariant.read next (known ∙ w.if-counts.false) in
          record {
            inside = omega (arith, c.loop.invariant.inside, w.met-is);
            read = subst (ReadFirst collation c.args.text.now new) (sym w.met-is) on;
          }
    ]
