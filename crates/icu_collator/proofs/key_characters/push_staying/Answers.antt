use Rattle.std.proofs.Common.{◌≡◌, ◌++◌, ◌∷◌, [], refl, sym, ap, ◌∙◌, rules}
use Rattle.std.specs.Prelude.{IsTrue}
use Rattle.unicode_normalization.specs.Forms.{nfd}
use Rattle.icu_element_reading.proofs.boundaries.NfdLemmas.{nfd-stay}
use Rattle.icu_collator.proofs.KeyCharacterLemmas.{plain_first, one_more}
use Rattle.icu_collator.proofs.PlainCharacterLemmas.{plain_parts}
use Rattle.icu_collator.proofs.key_characters.push_staying.Goals as goal

pub returns-then-is_plain-clause-stays : goal.returns-then-is_plain-clause-stays
returns-then-is_plain-clause-stays g c = λ is.
    let rest = g.T.EncodedText.text c.args.after in
    let list = c.args.list.now.items in
    let x = c.args.c in
    let plain = plain_parts x (sym c.is_plain.ensures ∙ c.if-is_plain.true) in
    let pushed : c.push.new.list.items ≡ list ++ x ∷ [] = search rules in
    ap (λ l. l ++ nfd rest) pushed
    ∙ one_more list (x ∷ []) rest (x ∷ rest) (list ++ nfd (x ∷ rest)) (plain_first x rest plain.0 plain.1) refl

pub returns-clause-stays : goal.returns-clause-stays
returns-clause-stays g c = λ is.
    let parts = c.decomposition-parts.result.now in
    let rest = g.T.EncodedText.text c.args.after in
    let list = c.args.list.now.items in
    let x = c.args.c in
    let yes : IsTrue c.stays.result = search rules in
    let pushed : c.push_parts.new.list.items ≡ list ++ parts = search rules in
    let split : nfd (x ∷ rest) ≡ parts ++ nfd rest = nfd-stay x parts rest (sym c.decomposition-parts.ensures.value) (c.stays.ensures yes) in
    ap (λ l. l ++ nfd rest) pushed ∙ one_more list parts rest (x ∷ rest) (list ++ nfd (x ∷ rest)) split refl
