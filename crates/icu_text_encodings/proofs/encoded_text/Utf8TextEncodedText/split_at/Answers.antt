-- A text is cut where no character goes on.
use Rattle.std.proofs.Common.{rules, ◌≡◌, ◌∙◌, sym, subst, ap, take, drop, ◌++◌}
use Rattle.icu_text_encodings.specs.DecodedTexts.{utf8_text}
use Rattle.icu_text_encodings.specs.inner.UnitCuts.{StartsClean}
use Rattle.icu_text_encodings.proofs.UnitCutLemmas.{utf8_cut}
use Rattle.icu_text_encodings.proofs.encoded_text.Utf8TextEncodedText.split_at.Goals as goal

pub returns-else-begins_within : goal.returns-else-begins_within
returns-else-begins_within c =
    let is : c.in_ok-rest.rest.now ≡ drop c.args.at c.args.self.0.now = search rules in
    utf8_cut c.args.at c.args.self.0.now (subst StartsClean is (c.begins_within.ensures c.if-begins_within.false))
    ∙ ap (λ r. utf8_text (take c.args.at c.args.self.0.now) ++ utf8_text r) (sym is)
