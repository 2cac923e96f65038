use Rattle.std.proofs.Common.{sym, ◌∙◌}
use Rattle.icu_cldr_locales.specs.resolution.WordsLeft.{words_left}
use Rattle.icu_cldr_locales.proofs.ListedWordLemmas.{value_here, value_further}
use Rattle.icu_cldr_locales.proofs.resolution.listed_words.value_listed.Goals as goal

pub returns-then-is_row_of : goal.returns-then-is_row_of
returns-then-is_row_of c =
    sym (value_here c.args.first.now c.args.second.now (words_left c.reading.left) c.in-Some.row.first.now c.in-Some.row.second.now
    c.in-Some.row.value.now (words_left c.in-Some.rest) c.in-Some.ensures.rows (sym c.is_row_of.ensures ∙ c.if-is_row_of.true))
    ∙ c.reading.invariant

pub reading-preserved : goal.reading-preserved
reading-preserved c =
    sym (value_further c.args.first.now c.args.second.now (words_left c.reading.left) c.in-Some.row.first.now c.in-Some.row.second.now
    c.in-Some.row.value.now (words_left c.in-Some.rest) c.in-Some.ensures.rows (sym c.is_row_of.ensures ∙ c.if-is_row_of.false))
    ∙ c.reading.invariant
