use Rattle.icu_text_encodings.proofs.ReadBackLemmas.{utf16_read_back, utf8_read_back, sound_utf8}
use Rattle.icu_text_encodings.proofs.laws.encoded_texts_are_read_back.Goals as goal

pub returns-clause-utf16 : goal.returns-clause-utf16
returns-clause-utf16 c = utf16_read_back

pub returns-clause-utf8 : goal.returns-clause-utf8
returns-clause-utf8 c = utf8_read_back

pub returns-clause-str : goal.returns-clause-str
returns-clause-str c = sound_utf8
