use Rattle.std.proofs.Common.{◌≡◌, ◌+◌, ◌-◌, length, take}
use Rattle.icu_element_matches.specs.Texts.{still_unread}
use Rattle.icu_element_matches.proofs.text_front.decided_front.Given as goal

-- so many are there, where the text has them
abbrev pub invariant-longer : goal.invariant-longer
invariant-longer l = l.front.items ≡ take l.wanted (still_unread l.text)

abbrev pub decreases-longer : goal.decreases-longer
decreases-longer l = length (still_unread l.text) + 1 - l.wanted
