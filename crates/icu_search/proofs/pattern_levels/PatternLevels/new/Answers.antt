use Rattle.std.proofs.Common.{◌≡◌, ◌∙◌, ap}
use Rattle.std.specs.Prelude.{chars}
use Rattle.unicode_normalization.specs.Forms.{nfd}
use Rattle.unicode_normalization.proofs.IterLemmas.{Spells-chars}
use Rattle.icu_collator.specs.Collators.{collation_borrowed}
use Rattle.icu_element_reading.specs.TextElements.{Reading, elements_of}
use Rattle.icu_order_texts.specs.level_weights.Weighings.{Weighing}
use Rattle.icu_order_texts.specs.TextOrder.{reading_by}
use Rattle.icu_search.proofs.PartLevelLemmas.{levels_of}
use Rattle.icu_search.proofs.pattern_levels.PatternLevels.new.Goals as goal

pub returns : goal.returns
returns c =
    let collation = collation_borrowed c.args.collator.now in
    let pattern = chars c.args.pattern.now in
    let read = c.in_ok-all.ensures pattern (Spells-chars _ _ c.utf8.pattern c.chars.ensures.rest) in
    let is : c.as_slice-elements.result.now ≡ elements_of (reading_by collation) (nfd pattern) =
    c.as_slice-elements.ensures.value ∙ read ∙ ap (λ (r : Reading). elements_of r (nfd pattern)) c.reading_of_collator.ensures in
    levels_of collation pattern _ (ap (λ (w : Weighing). w.form) c.level_weighing.ensures)
    (c.in_ok-primary.ensures pattern is) (c.in_ok-secondary.ensures pattern is) (c.in_ok-case.ensures pattern is) (c.in_ok-tertiary.ensures pattern is) (c.in_ok-quaternary.ensures pattern is)
