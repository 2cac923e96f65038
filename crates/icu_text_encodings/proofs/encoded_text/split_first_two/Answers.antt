-- Two bytes are one character.
use Rattle.std.proofs.Common.{refl, rules}
use Rattle.icu_text_encodings.proofs.UnitCutLemmas.{first_two}
use Rattle.icu_text_encodings.proofs.encoded_text.split_first_two.Goals as goal

pub returns : goal.returns
returns c =
    let h = c.if-not-are_two.ensures (search rules) in
    first_two c.args.bytes.now _ _ _ _ c.in_ok-c.c c.in-len2-up.len_at_least refl refl h.0 h.1 h.2 h.3 (search rules)
