use Rattle.std.proofs.Common.{inl, inr}
use Rattle.icu_search.proofs.searched_text.SearchedText.next_cut.Goals as goal

pub returns-then-cuts_at-clause-cut : goal.returns-then-cuts_at-clause-cut
returns-then-cuts_at-clause-cut c = inr (c.cuts_at.ensures c.if-cuts_at.true)

pub returns-clause-cut : goal.returns-clause-cut
returns-clause-cut c = inl c.char_count-count.ensures.count
