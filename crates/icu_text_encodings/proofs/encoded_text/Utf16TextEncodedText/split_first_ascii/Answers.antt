-- A unit below 80 is a character.
use Rattle.std.proofs.Common.{rules, ◌∙◌, ap}
use Rattle.icu_text_encodings.specs.DecodedTexts.{utf16_text}
use Rattle.icu_text_encodings.proofs.UnitCutLemmas.{first_rest, utf16_first_unit}
use Rattle.icu_text_encodings.proofs.encoded_text.Utf16TextEncodedText.split_first_ascii.Goals as goal

pub returns-in-len1-up-clause-first : goal.returns-in-len1-up-clause-first
returns-in-len1-up-clause-first c = ap utf16_text (first_rest c.args.self.0.now (search rules)) ∙ utf16_first_unit _ _ (search rules)
