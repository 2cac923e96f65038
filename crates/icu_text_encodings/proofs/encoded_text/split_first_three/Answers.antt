-- Three bytes are one character.
use Rattle.std.proofs.Common.{refl, rules}
use Rattle.icu_text_encodings.proofs.UnitCutLemmas.{first_three, second_of_code}
use Rattle.icu_text_encodings.proofs.encoded_text.split_first_three.Goals as goal

pub returns : goal.returns
returns c =
    let second = c.if-not-continues.ensures (search rules) in
    let third = c.if-not-continues-2.ensures (search rules) in
    let fits = second_of_code _ _ _ c.if-first-lt224.false second.0 second.1 third.0 third.1 (search rules) (search rules) (search rules) in
    first_three c.args.bytes.now _ _ _ _ _ _ c.in_ok-c.c c.in-len3-up.len_at_least refl refl refl c.if-first-lt224.false fits.0 fits.1 third.0 third.1 (search rules)
