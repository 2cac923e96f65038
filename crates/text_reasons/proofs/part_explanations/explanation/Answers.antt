use Rattle.std.proofs.Common.{IfOk, ◌≡◌, subst, rules}
use Rattle.unicode_normalization.proofs.IterLemmas.{Spells-slice}
use Rattle.icu_element_reading.specs.TextElements.{Reading}
use Rattle.text_reasons.specs.Explanations.{explanation_of}
use Rattle.text_reasons.proofs.part_explanations.explanation.Goals as goal

pub returns : goal.returns
returns c =
    let spelled = Spells-slice c.copied.result c.args.text.now (search rules) in
    let all = c.explained.ensures (c.new.ensures.text spelled) in
    subst (λ (r : Reading). IfOk c.explained.result (λ output. output.items ≡ explanation_of r c.args.text.now)) c.new.ensures.reading all
