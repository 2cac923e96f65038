use Rattle.std.proofs.Common.{◌≡◌, ◌+◌, length}
use Rattle.icu_element_cursor.specs.inner.FirstChars.{first_chars}
use Rattle.icu_element_cursor.proofs.first_chars.FirstCharsEncodedText.unit_count.Given as goal

-- those that were counted and those that are left are all
abbrev pub invariant-chars : goal.invariant-chars
invariant-chars g l = l.count + length (first_chars g.T.EncodedText.text l.rest) ≡ length (first_chars g.T.EncodedText.text l.fn.self)

abbrev pub decreases-chars : goal.decreases-chars
decreases-chars g l = length (first_chars g.T.EncodedText.text l.rest)
