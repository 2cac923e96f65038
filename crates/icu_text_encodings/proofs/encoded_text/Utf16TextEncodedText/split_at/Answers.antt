-- A text is cut where no character goes on.
use Rattle.std.proofs.Common.{rules, ◌≡◌, ◌∙◌, sym, subst, ap, take, drop, ◌++◌}
use Rattle.icu_text_encodings.specs.DecodedTexts.{utf16_text}
use Rattle.icu_text_encodings.specs.inner.UnitCuts.{StartsNoTrail}
use Rattle.icu_text_encodings.proofs.UnitCutLemmas.{utf16_cut}
use Rattle.icu_text_encodings.proofs.encoded_text.Utf16TextEncodedText.split_at.Goals as goal

pub returns-else-begins_with_trail : goal.returns-else-begins_with_trail
returns-else-begins_with_trail c =
    let is : c.in_ok-rest.rest.now ≡ drop c.args.at c.args.self.0.now = search rules in
    utf16_cut c.args.at c.args.self.0.now (subst StartsNoTrail is (c.begins_with_trail.ensures c.if-begins_with_trail.false))
    ∙ ap (λ r. utf16_text (take c.args.at c.args.self.0.now) ++ utf16_text r) (sym is)
