-- A decomposed text while it is read, and what was matched of it.
use Rattle.std.specs.Prelude.{ℕ, List, ◌++◌, drop}
use Rattle.icu_element_matches.specs.Matches.{Match}
use Rattle.icu_element_matches.specs.declared.matched.Matched.{Matched}
use Rattle.icu_element_matches.specs.declared.text.Text.{Text}
use Rattle.icu_element_matches.specs.declared.classed_text.ClassedText.{ClassedText}
use Rattle.icu_element_matches.specs.inner.MarkQueues.{queued_marks}

-- the characters that are still to be read
unfoldable pub unread : Text → List ℕ
unread t = drop t.next t.chars.items

-- the characters that are still to be read, of which the first may stand by their classes
unfoldable pub still_unread : ClassedText → List ℕ
still_unread t = queued_marks t.queues.items ++ unread t.rest

-- the match that was made, which leaves what is still to be read of a text
abbrev pub match_left : Matched → ClassedText → Match
match_left m text = record { entry = m.ce32; suffix = m.suffix.items; rest = still_unread text }
