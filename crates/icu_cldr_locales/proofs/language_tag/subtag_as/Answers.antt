use Rattle.std.proofs.Common.{sym, ◌∙◌, string_bytes}
use Rattle.icu_cldr_locales.specs.LanguageTags.{texts_of}
use Rattle.icu_cldr_locales.proofs.ReadingLemmas.{none_as, some_as}
use Rattle.icu_cldr_locales.proofs.language_tag.subtag_as.Goals as goal

pub returns-then-is_repeated-clause-refused : goal.returns-then-is_repeated-clause-refused
returns-then-is_repeated-clause-refused c = λ _.
    none_as (texts_of c.args.before.now) c.args.part.now c.args.kind c.as_str.result.now (c.as_str.ensures.value ∙ c.in_ok-text.ensures)
    (sym c.is_repeated.ensures ∙ c.if-is_repeated.true)

pub returns-clause-subtag : goal.returns-clause-subtag
returns-clause-subtag c =
    some_as (texts_of c.args.before.now) c.args.part.now c.args.kind c.as_str.result.now (string_bytes c.in_ok-text.text)
    (c.as_str.ensures.value ∙ c.in_ok-text.ensures) c.in_ok-text.ensures (sym c.is_repeated.ensures ∙ c.if-is_repeated.false)
