use Rattle.std.proofs.Common.{arith, inl, inr}
use Rattle.icu_search.proofs.searched_text.SearchedText.ends_piece.Goals as goal

pub returns-then-offset-char_count : goal.returns-then-offset-char_count
returns-then-offset-char_count c = λ _. inl (omega (arith, c.if-offset-char_count.true, c.char_count.ensures.count))

pub returns : goal.returns
returns c = λ is. inr (c.cuts_at.ensures is)
