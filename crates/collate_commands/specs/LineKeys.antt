-- The sort key of a line (UTS #10, "Compare Sort Keys"). A line is bytes in UTF-8 that may be damaged.
use Rattle.std.specs.Prelude.{ℕ, List}
use Rattle.icu_text_encodings.specs.DecodedTexts.{utf8_text}
use Rattle.icu_order_texts.specs.Collations.{Collation}
use Rattle.icu_order_texts.specs.TextOrder.{text_key}

-- the sort key of a line
abbrev pub key_of_line : Collation → List ℕ → List ℕ
key_of_line c line = text_key c (utf8_text line)
