use Rattle.std.proofs.Common.{◌≡◌, ◌++◌, ◌-◌, List, length, take, drop, refl}
use Rattle.icu_table_entries.specs.Elements.{Element}
use Rattle.icu_order_texts.specs.declared.level_weights.order_level.OrderLevel.TheVariants as levels
use Rattle.icu_search.proofs.PartLevelLemmas.{all_left, gone_of, gone_on}
use Rattle.icu_search.proofs.pattern_levels.PartLevels.advance.Goals as goal

pub returns-clause-here : goal.returns-clause-here
returns-clause-here c = λ s es more gone here is.
    let old = c.args.self.now in
    let whole = c.args.elements.now in
    let left : List Element = take (length whole - old.seen) (drop old.seen whole) in
    let all : es ++ left ≡ whole = all_left whole es more old.seen is gone.seen in
    gone_of s _ whole gone.form refl
    (gone_on s levels.Primary old.form c.counts.result old.primary c.walk_if.new.walk es left whole gone.form c.counts.ensures c.walk_if.ensures.level c.walk_if.ensures.walked all (gone.each levels.Primary))
    (gone_on s levels.Secondary old.form c.counts-2.result old.secondary c.walk_if-2.new.walk es left whole gone.form c.counts-2.ensures c.walk_if-2.ensures.level c.walk_if-2.ensures.walked all (gone.each levels.Secondary))
    (gone_on s levels.Case old.form c.counts-3.result old.case c.walk_if-3.new.walk es left whole gone.form c.counts-3.ensures c.walk_if-3.ensures.level c.walk_if-3.ensures.walked all (gone.each levels.Case))
    (gone_on s levels.Tertiary old.form c.counts-4.result old.tertiary c.walk_if-4.new.walk es left whole gone.form c.counts-4.ensures c.walk_if-4.ensures.level c.walk_if-4.ensures.walked all (gone.each levels.Tertiary))
    (gone_on s levels.Quaternary old.form c.counts-5.result old.quaternary c.walk_if-5.new.walk es left whole gone.form c.counts-5.ensures c.walk_if-5.ensures.level c.walk_if-5.ensures.walked all (gone.each levels.Quaternary))
