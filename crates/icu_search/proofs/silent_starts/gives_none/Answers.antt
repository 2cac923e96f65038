use Rattle.std.proofs.Common.{◌≡◌, ap, ◌∙◌, subst}
use Rattle.unicode_normalization.specs.Forms.{nfd}
use Rattle.icu_collator.specs.Collators.{collation_borrowed}
use Rattle.icu_element_cursor.specs.Cursors.{cursor_gives}
use Rattle.icu_element_reading.specs.TextElements.{Reading, elements_of}
use Rattle.icu_search.specs.inner.SilentStarts.{PassesNone}
use Rattle.icu_search.proofs.NoneReadLemmas.{none_read, one_read, all_read}
use Rattle.icu_search.proofs.silent_starts.gives_none.Goals as goal

pub loop-init : goal.loop-init
loop-init c =
    let text = c.args.text.now in
    none_read (collation_borrowed c.args.collator.now) text (cursor_gives (λ t. t.0.now) c.new-cursor.result)
    (c.new-cursor.ensures ∙ ap (λ (r : Reading). elements_of r (nfd text)) c.cursor_tables-tables.ensures)

pub returns-in_default : goal.returns-in_default
returns-in_default c =
    all_read (collation_borrowed c.args.collator.now) c.args.text.now (cursor_gives (λ t. t.0.now) c.loop.cursor) c.loop.after c.loop.invariant
    (c.in_ok-next.ensures.end c.in_default.is)

pub loop-preserved : goal.loop-preserved
loop-preserved c =
    let collation = collation_borrowed c.args.collator.now in
    let x = c.in-Some.element in
    let old = cursor_gives (λ t. t.0.now) c.loop.cursor in
    let new = cursor_gives (λ t. t.0.now) c.next_or_end.new.cursor in
    let passes = subst (λ n. PassesNone n c.loop.after x c.in-Some-passed.now) c.last_variable-last.ensures c.in-Some-passed.ensures in
    one_read collation c.args.text.now old new c.loop.after c.in-Some-passed.now x c.loop.invariant (rw c.in-Some.is at c.in_ok-next.ensures.next) passes
