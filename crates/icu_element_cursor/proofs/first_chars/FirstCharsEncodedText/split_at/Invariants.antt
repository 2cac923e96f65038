use Rattle.std.proofs.Common.{◌≡◌, drop}
use Rattle.icu_element_cursor.specs.inner.FirstChars.{first_chars}
use Rattle.icu_element_cursor.proofs.first_chars.FirstCharsEncodedText.split_at.Given as goal

-- so many characters stand before what is left
abbrev pub invariant-chars : goal.invariant-chars
invariant-chars g l = first_chars g.T.EncodedText.text l.rest ≡ drop l.index (first_chars g.T.EncodedText.text l.fn.self)
