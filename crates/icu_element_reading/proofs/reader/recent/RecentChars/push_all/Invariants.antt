use Rattle.std.proofs.Common.{◌≡◌, take}
use Rattle.icu_element_reading.specs.TextElements.{last_two}
use Rattle.icu_element_reading.specs.LastChars.{recent_chars}
use Rattle.icu_element_reading.proofs.reader.recent.RecentChars.push_all.Given as goal

abbrev pub invariant-loop-c : goal.invariant-loop-c
invariant-loop-c l = recent_chars l.self ≡ last_two (recent_chars l.fn.self) (take l.c-index l.chars)
