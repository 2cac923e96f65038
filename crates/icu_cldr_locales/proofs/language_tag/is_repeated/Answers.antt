use Rattle.std.proofs.Common.{sym, ◌∙◌}
use Rattle.icu_cldr_locales.proofs.ReadingLemmas.{repeated_once, repeated_again}
use Rattle.icu_cldr_locales.proofs.language_tag.is_repeated.Goals as goal

pub returns-then-stands_once : goal.returns-then-stands_once
returns-then-stands_once c =
    repeated_once c.args.before.now c.args.kind c.args.text.now c.has_among.result (sym c.stands_once.ensures ∙ c.if-stands_once.true) c.has_among.ensures

pub returns-else-stands_once : goal.returns-else-stands_once
returns-else-stands_once c =
    repeated_again c.args.before.now c.args.kind c.args.text.now c.stands_once.result (sym c.stands_once.ensures ∙ c.if-stands_once.false) c.if-stands_once.false
