use Rattle.std.proofs.Common.{◌≡◌, true, [], sym, subst, ◌∙◌, arith}
use Rattle.unicode_normalization.specs.Order.{is_starter}
use Rattle.icu_element_cursor.proofs.StandLemmas.{first_item}
use Rattle.icu_collator.specs.inner.KeyCharacters.{EndsMarks}
use Rattle.icu_collator.proofs.KeyCharacterLemmas.{nothing_ends, starter_ends}
use Rattle.icu_collator.proofs.PlainCharacterLemmas.{plain_parts}
use Rattle.icu_collator.proofs.key_characters.ends_marks.Goals as goal

pub returns-in_default : goal.returns-in_default
returns-in_default g c = λ _. subst EndsMarks (sym c.in_default.ensures) nothing_ends

pub returns-then-is_plain : goal.returns-then-is_plain
returns-then-is_plain g c = λ is.
    let x = c.in-Some.c in
    let plain = plain_parts x (sym c.is_plain.ensures ∙ c.if-is_plain.true) in
    subst EndsMarks (sym c.in-Some.ensures) (starter_ends x x [] (g.T.EncodedText.text c.in-Some.field-0-1) plain.0 plain.1)

pub returns-in-len1-up : goal.returns-in-len1-up
returns-in-len1-up g c = λ is.
    let first = c.first-item.result in
    let parts = first_item c.decomposition.result.now first _ (omega (arith, c.in-len1-up.len_at_least)) c.first-item.is in
    let starter : is_starter first ≡ true = sym c.is_starter.ensures ∙ is in
    subst EndsMarks (sym c.in-Some.ensures)
    (starter_ends c.in-Some.c first parts.0 (g.T.EncodedText.text c.in-Some.field-0-1) (sym c.decomposition.ensures.value ∙ parts.1) starter)
