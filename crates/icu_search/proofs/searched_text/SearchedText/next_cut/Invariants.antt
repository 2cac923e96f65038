use Rattle.icu_search.proofs.searched_text.SearchedText.next_cut.Given as goal

abbrev pub invariant-loop-cut : goal.invariant-loop-cut
invariant-loop-cut l = Unit {0}
