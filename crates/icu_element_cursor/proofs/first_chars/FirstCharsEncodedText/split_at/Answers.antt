use Rattle.icu_element_cursor.specs.inner.FirstChars.{first_chars}
use Rattle.icu_element_cursor.proofs.PieceLemmas.{next_dropped}
use Rattle.icu_element_cursor.proofs.first_chars.FirstCharsEncodedText.split_at.Goals as goal

pub chars-preserved : goal.chars-preserved
chars-preserved g c =
    next_dropped (first_chars g.T.EncodedText.text c.args.self) (first_chars g.T.EncodedText.text c.chars.rest) _ c.chars.index _ c.chars.invariant c.in_ok-after.ensures
