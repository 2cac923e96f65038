use Rattle.icu_collator.specs.Collators.{collation_borrowed}
use Rattle.icu_element_cursor.specs.Cursors.{cursor_gives}
use Rattle.icu_search.proofs.NoneReadLemmas.{ReadNone}
use Rattle.icu_search.proofs.silent_starts.gives_none.Given as goal

-- what was read of the text, none of which gives anything
abbrev pub invariant-loop : goal.invariant-loop
invariant-loop l = ReadNone (collation_borrowed l.collator) l.text (cursor_gives (λ t. t.0.now) l.cursor) l.after
