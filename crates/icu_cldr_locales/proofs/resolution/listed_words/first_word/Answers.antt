use Rattle.std.proofs.Common.{lit<}
use Rattle.icu_cldr_locales.proofs.ListedWordLemmas.{words_where_none, words_where_some}
use Rattle.icu_cldr_locales.proofs.resolution.listed_words.first_word.Goals as goal

pub returns-in-Some-clause-parts : goal.returns-in-Some-clause-parts
returns-in-Some-clause-parts c =
    let cut = c.in-Some.ensures.byte (lit< tt) (λ w o found. found) in
    words_where_some c.args.text.now c.in-Some.word.now c.in-Some.rest.now cut.0 cut.1 cut.2

pub returns-in-None-clause-parts : goal.returns-in-None-clause-parts
returns-in-None-clause-parts c = words_where_none c.args.text.now (c.in-None.ensures.byte (lit< tt) (λ w o found. found))
