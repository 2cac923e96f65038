-- The first piece of the bytes, and those after it.
use Rattle.std.proofs.Common.{rules, ◌≤◌, ◌∙◌, ◌∷◌, ap, sym, subst, length, drop}
use Rattle.std.proofs.lemmas.List.{nil_from_length}
use Rattle.bstr.specs.Utf8.{decoded}
use Rattle.icu_text_encodings.specs.DecodedTexts.{utf8_text}
use Rattle.icu_text_encodings.proofs.UnitCutLemmas.{utf8_empty, piece_fits}
use Rattle.icu_search_places.specs.indexed_text.UnitOffsets.{utf8_sizes}
use Rattle.icu_search_places.proofs.indexed_text.SizeLemmas.{utf8_takes, utf8_takes_ascii}
use Rattle.icu_search_places.proofs.indexed_text.sized_text.split_utf8.Goals as goal

pub returns-then-is_empty : goal.returns-then-is_empty
returns-then-is_empty c = ap utf8_text (nil_from_length c.args.bytes.now (search rules)) ∙ utf8_empty

pub returns-then-bytes-lt128 : goal.returns-then-bytes-lt128
returns-then-bytes-lt128 c = utf8_takes_ascii c.args.bytes.now c.from.result (search rules) (search rules) (search rules)

pub split_at-requires : goal.split_at-requires
split_at-requires c = subst (λ n. n ≤ length c.args.bytes.now) (sym c.decode_lossy-c.ensures.size) (piece_fits c.args.bytes.now (search rules))

pub returns : goal.returns
returns c =
    let first = c.decode_lossy-c.ensures in
    let bytes = c.args.bytes.now in
    let takes = utf8_takes bytes (search rules) in
    record {
      text = takes.text ∙ ap (λ x. x ∷ utf8_text (drop (decoded bytes).size bytes)) (sym first.char)
          ∙ ap (λ n. c.decode_lossy-c.result.0 ∷ utf8_text (drop n bytes)) (sym first.size)
          ∙ ap (λ r. c.decode_lossy-c.result.0 ∷ utf8_text r) (sym c.split_at.ensures.back);
      sizes = takes.sizes ∙ ap (λ n. n ∷ utf8_sizes (drop n bytes)) (sym first.size)
          ∙ ap (λ r. c.decode_lossy-c.result.1 ∷ utf8_sizes r) (sym c.split_at.ensures.back);
    }
