use Rattle.std.proofs.Common.{◌≡◌, ◌+◌, ◌≤◌, length}
use Rattle.icu_cldr_locales.specs.LanguageTags.{texts_of, subtags_behind, language_tag_of}
use Rattle.icu_cldr_locales.proofs.ReadingLemmas.{parts_left, bytes_left}
use Rattle.icu_cldr_locales.proofs.language_tag.LanguageTag.parse.Given as goal

abbrev pub invariant-reading : goal.invariant-reading
invariant-reading l = record {
  subtags : subtags_behind (texts_of l.subtags.items) l.last (parts_left l.left) ≡ language_tag_of l.text;
  within : bytes_left l.left ≤ length l.text + 1;
}

abbrev pub decreases-reading : goal.decreases-reading
decreases-reading l = bytes_left l.left
