use Rattle.std.proofs.Common.{◌≡◌, ◌∙◌, List, true, sym, ap, subst}
use Rattle.unicode_normalization.specs.Forms.{nfd}
use Rattle.icu_table_entries.specs.Elements.{Element}
use Rattle.icu_element_reading.specs.TextElements.{elements_of}
use Rattle.icu_order_texts.specs.weighting.Forms.{form_by}
use Rattle.icu_order_texts.specs.TextOrder.{reading_by}
use Rattle.icu_search_places.specs.declared.level_walks.LevelWalk.{LevelWalk}
use Rattle.icu_search.specs.inner.PartLevels.{HasGoneAt, level_is_compared}
use Rattle.icu_search.proofs.PartLevelLemmas.{level_tells}
use Rattle.icu_search.proofs.pattern_levels.PartLevels.fit_at.Goals as goal

pub returns-then-counts : goal.returns-then-counts
returns-then-counts c = λ s part gone.
    let l = c.args.level in
    let es : List Element = elements_of (reading_by s.collation) (nfd part) in
    let is : level_is_compared (form_by s.collation) l ≡ true = ap (λ f. level_is_compared f l) (sym gone.form) ∙ sym c.counts.ensures ∙ c.if-counts.true in
    let at = subst (λ (w : LevelWalk). HasGoneAt s l w es) (sym c.walk_at.ensures) (gone.each l is) in
    level_tells s part l is c.walk_at.result.now at c.fit.result (c.fit.ensures es at.walked)
