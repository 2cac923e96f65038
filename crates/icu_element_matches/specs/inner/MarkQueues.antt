-- Marks that stand by their combining classes.
use Rattle.std.specs.Prelude.{◌≡◌, ◌+◌, ℕ, List, [], ◌∷◌, ◌++◌, Some, Result, Ok, Err, length, slice_get}
use Rattle.ucd_normal.specs.CanonicalCombiningClass.{canonical_combining_class as class_of}
use Rattle.icu_element_matches.specs.declared.mark_queue.MarkQueue.{MarkQueue}

-- the marks of all queues, one queue after another
abbrev pub queued_marks : List MarkQueue → List ℕ
queued_marks [] = []
queued_marks (q ∷ qs) = q.marks.items ++ queued_marks qs

-- the text begins with no mark
abbrev pub HasNoMark : List ℕ → Type 0
HasNoMark [] = Unit {0}
HasNoMark (c ∷ cs) = class_of c ≡ 0

-- the mark at an index, or how far behind these marks the index is
abbrev pub FindsQueued : List ℕ → ℕ → Result ℕ ℕ → Type 0
FindsQueued marks index (Ok c) = slice_get marks index ≡ Some c
FindsQueued marks index (Err behind) = index ≡ length marks + behind
