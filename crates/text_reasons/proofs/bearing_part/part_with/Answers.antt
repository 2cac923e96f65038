use Rattle.std.proofs.Common.{IfOk, ◌≡◌, subst, rules}
use Rattle.unicode_normalization.proofs.IterLemmas.{Spells-slice}
use Rattle.icu_element_reading.specs.TextElements.{Reading}
use Rattle.text_reasons.specs.BearingParts.{part_with}
use Rattle.text_reasons.proofs.bearing_part.part_with.Goals as goal

pub returns : goal.returns
returns c =
    let spelled = Spells-slice c.copied.result c.args.text.now (search rules) in
    let found = c.part_read.ensures (c.new-places.ensures.text spelled) in
    subst (λ (r : Reading). IfOk c.part_read.result (λ part. part.now ≡ part_with r c.args.text.now c.args.count)) c.new-places.ensures.reading found
