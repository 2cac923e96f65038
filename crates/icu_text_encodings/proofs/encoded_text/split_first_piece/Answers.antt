-- The first piece of the bytes, and those after it.
use Rattle.std.proofs.Common.{rules, ◌≤◌, ◌∙◌, ◌∷◌, ap, sym, subst, length, drop}
use Rattle.std.proofs.lemmas.List.{nil_from_length}
use Rattle.bstr.specs.Utf8.{decoded}
use Rattle.icu_text_encodings.specs.DecodedTexts.{utf8_text}
use Rattle.icu_text_encodings.proofs.UnitCutLemmas.{utf8_first, utf8_empty, piece_fits}
use Rattle.icu_text_encodings.proofs.encoded_text.split_first_piece.Goals as goal

pub returns-then-is_empty : goal.returns-then-is_empty
returns-then-is_empty c = ap utf8_text (nil_from_length c.args.bytes.now (search rules)) ∙ utf8_empty

pub split_at-requires : goal.split_at-requires
split_at-requires c = subst (λ n. n ≤ length c.args.bytes.now) (sym c.decode_lossy-c.ensures.size) (piece_fits c.args.bytes.now (search rules))

pub returns : goal.returns
returns c =
    let first = c.decode_lossy-c.ensures in
    let bytes = c.args.bytes.now in
    utf8_first bytes (search rules)
    ∙ ap (λ l. l ∷ utf8_text (drop (decoded bytes).size bytes)) (sym first.char)
    ∙ ap (λ n. c.decode_lossy-c.result.0 ∷ utf8_text (drop n bytes)) (sym first.size)
    ∙ ap (λ r. c.decode_lossy-c.result.0 ∷ utf8_text r) (sym c.split_at.ensures.back)
