-- What is left of a list of words that is read word by word.
use Rattle.std.specs.Prelude.{ℕ, ◌+◌, List, [], length, Option, Some, None}
use Rattle.std.specs.Borrow.{Bor}
use Rattle.icu_cldr_locales.specs.resolution.ListedWords.{words_of}

-- the words that are left
abbrev pub words_left : Option (Bor (List ℕ)) → List (List ℕ)
words_left None = []
words_left (Some rest) = words_of rest.now

-- one more than the bytes that are left, and 0 at the end
abbrev pub bytes_unread : Option (Bor (List ℕ)) → ℕ
bytes_unread None = 0
bytes_unread (Some rest) = length rest.now + 1
