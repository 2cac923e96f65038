use Rattle.std.proofs.Common.{◌≡◌}
use Rattle.icu_cldr_locales.specs.resolution.ListedWords.{words_of, value_in_rows}
use Rattle.icu_cldr_locales.specs.resolution.WordsLeft.{words_left, bytes_unread}
use Rattle.icu_cldr_locales.proofs.resolution.listed_words.value_listed.Given as goal

abbrev pub invariant-reading : goal.invariant-reading
invariant-reading l = value_in_rows l.first l.second (words_left l.left) ≡ value_in_rows l.first l.second (words_of l.list)

abbrev pub decreases-reading : goal.decreases-reading
decreases-reading l = bytes_unread l.left
