use Rattle.std.proofs.Common.{◌≡◌}
use Rattle.std.specs.Prelude.{bytes_eq}
use Rattle.std.specs.List.{list_any}
use Rattle.icu_cldr_locales.specs.resolution.ListedWords.{words_of}
use Rattle.icu_cldr_locales.specs.resolution.WordsLeft.{words_left, bytes_unread}
use Rattle.icu_cldr_locales.proofs.resolution.listed_words.is_word_of.Given as goal

abbrev pub invariant-reading : goal.invariant-reading
invariant-reading l = list_any (λ w. bytes_eq w l.word) (words_left l.left) ≡ list_any (λ w. bytes_eq w l.word) (words_of l.list)

abbrev pub decreases-reading : goal.decreases-reading
decreases-reading l = bytes_unread l.left
