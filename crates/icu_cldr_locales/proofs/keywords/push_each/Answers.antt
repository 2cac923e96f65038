use Rattle.std.proofs.Common.{arith}
use Rattle.icu_cldr_locales.proofs.KeywordLemmas.{followed_more}
use Rattle.icu_cldr_locales.proofs.keywords.push_each.Goals as goal

pub loop-subtag-preserved : goal.loop-subtag-preserved
loop-subtag-preserved c =
    followed_more c.args.separator.now _ _ _ c.args.subtags.now c.loop-subtag.subtag-index c.subtag-item.result (omega arith) c.subtag-item.is
    c.loop-subtag.invariant c.in_ok-push_with.ensures
