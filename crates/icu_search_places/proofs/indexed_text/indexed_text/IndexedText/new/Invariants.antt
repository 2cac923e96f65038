use Rattle.std.proofs.Common.{◌≡◌, ◌+◌, ◌++◌, length, sum}
use Rattle.icu_search_places.specs.indexed_text.UnitOffsets.{offsets_along}
use Rattle.icu_search_places.proofs.indexed_text.indexed_text.IndexedText.new.Given as goal

-- what was read, and what comes
abbrev pub invariant-characters : goal.invariant-characters
invariant-characters g l = record {
  characters : l.characters.items ++ g.T.EncodedText.text l.rest ≡ g.T.EncodedText.text l.fn.text;
  offsets : l.offsets.items ++ offsets_along l.offset (g.T.SizedText.sizes l.rest) ≡ offsets_along 0 (g.T.SizedText.sizes l.fn.text);
  as_many : length l.offsets.items ≡ length l.characters.items;
  count : length (g.T.SizedText.sizes l.rest) ≡ length (g.T.EncodedText.text l.rest);
  offset : l.offset + sum (g.T.SizedText.sizes l.rest) ≡ sum (g.T.SizedText.sizes l.fn.text);
}

abbrev pub decreases-characters : goal.decreases-characters
decreases-characters g l = length (g.T.EncodedText.text l.rest)
