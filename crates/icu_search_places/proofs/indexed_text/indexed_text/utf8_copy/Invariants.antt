use Rattle.std.proofs.Common.{◌≡◌, ◌++◌, length}
use Rattle.std.specs.Prelude.{chars, string_bytes}
use Rattle.icu_search_places.proofs.indexed_text.indexed_text.utf8_copy.Given as goal

abbrev pub invariant-characters : goal.invariant-characters
invariant-characters g l = chars (string_bytes l.copy) ++ g.T.EncodedText.text l.rest ≡ g.T.EncodedText.text l.fn.text

abbrev pub decreases-characters : goal.decreases-characters
decreases-characters g l = length (g.T.EncodedText.text l.rest)
