-- Which languages CLDR knows.
use Rattle.std.specs.Prelude.{ℕ, Bool, List, string_bytes}
use Rattle.icu_cldr_locales.specs.declared.resolution.locale_data.LocaleData.{LocaleData}
use Rattle.icu_cldr_locales.specs.resolution.ListedWords.{is_word_of}

-- whether a language is one that CLDR lists
abbrev pub is_known_language : LocaleData → List ℕ → Bool
is_known_language d language = is_word_of (string_bytes d.languages) language
