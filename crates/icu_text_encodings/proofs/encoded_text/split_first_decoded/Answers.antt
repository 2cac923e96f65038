-- No bytes have no character.
use Rattle.std.proofs.Common.{rules, ◌∙◌, ap}
use Rattle.std.proofs.lemmas.List.{nil_from_length}
use Rattle.icu_text_encodings.specs.DecodedTexts.{utf8_text}
use Rattle.icu_text_encodings.proofs.UnitCutLemmas.{utf8_empty}
use Rattle.icu_text_encodings.proofs.encoded_text.split_first_decoded.Goals as goal

pub returns-in-empty : goal.returns-in-empty
returns-in-empty c = ap utf8_text (nil_from_length c.args.bytes.now (search rules)) ∙ utf8_empty
