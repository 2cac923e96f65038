-- Two bytes are one character.
use Rattle.std.proofs.Common.{refl, rules}
use Rattle.icu_search_places.proofs.indexed_text.SizeLemmas.{utf8_takes_pair}
use Rattle.icu_search_places.proofs.indexed_text.sized_text.split_two.Goals as goal

pub returns : goal.returns
returns c =
    utf8_takes_pair c.args.bytes.now _ _ _ _ c.in_ok-c.c c.in-len2-up.len_at_least refl refl
    c.if-first-lt194.false c.if-first-gt223.false c.if-second-lt128.false c.if-second-gt191.false (search rules)
