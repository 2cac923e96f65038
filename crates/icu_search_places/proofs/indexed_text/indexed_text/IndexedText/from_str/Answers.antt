use Rattle.std.proofs.Common.{◌∙◌, ap}
use Rattle.icu_text_encodings.specs.DecodedTexts.{utf8_text}
use Rattle.icu_text_encodings.proofs.ReadBackLemmas.{sound_utf8}
use Rattle.icu_search_places.specs.indexed_text.UnitOffsets.{offsets_along, utf8_sizes}
use Rattle.icu_search_places.proofs.indexed_text.SizeLemmas.{sound_sizes}
use Rattle.icu_search_places.proofs.indexed_text.indexed_text.IndexedText.from_str.Goals as goal

pub returns-clause-characters : goal.returns-clause-characters
returns-clause-characters c = c.in_ok-read.ensures.characters ∙ ap utf8_text c.as_bytes.ensures.value ∙ sound_utf8 c.args.text.now c.utf8.text

pub returns-clause-offsets : goal.returns-clause-offsets
returns-clause-offsets c = c.in_ok-read.ensures.offsets ∙ ap (offsets_along 0) (ap utf8_sizes c.as_bytes.ensures.value ∙ sound_sizes c.args.text.now c.utf8.text)
