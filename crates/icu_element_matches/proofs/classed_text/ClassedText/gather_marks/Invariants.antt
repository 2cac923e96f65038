use Rattle.std.proofs.Common.{◌≡◌, ◌≤◌, length}
use Rattle.icu_element_matches.specs.Texts.{still_unread, unread}
use Rattle.icu_element_matches.specs.inner.MarkQueues.{queued_marks}
use Rattle.icu_element_matches.proofs.classed_text.ClassedText.gather_marks.Given as goal

-- what is still to be read stays the same
abbrev pub invariant-marks : goal.invariant-marks
invariant-marks l = still_unread l.self ≡ still_unread l.fn.self

abbrev pub decreases-marks : goal.decreases-marks
decreases-marks l = length (unread l.self.rest)
