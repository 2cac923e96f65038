use Rattle.std.proofs.Common.{◌≡◌, Some, None, take, ◌∙◌, ap, sym, arith}
use Rattle.std.specs.Option.{option_or}
use Rattle.std.proofs.lemmas.Str.Pattern.{rfind_char}
use Rattle.icu_cldr_files.specs.LocaleParents.{parent_of, parent_of_language, before_last_mark}
use Rattle.icu_cldr_files.proofs.ParentLemmas.{mark_nowhere, mark_last}
use Rattle.icu_cldr_files.proofs.locale_parents.parent_of.Goals as goal

pub returns-in-Some : goal.returns-in-Some
unfolding parent_of
returns-in-Some c =
    let locale = c.args.locale.now in
    let found = rfind_char 95 locale (Some c.in-Some.at) c.in-Some.ensures.cases (omega arith) in
    let marked : before_last_mark locale ≡ Some (take c.in-Some.at locale) = mark_last locale c.in-Some.at found.0 found.1 found.2 in
    ap Some c.split_at.ensures.front ∙ sym (ap (λ r. option_or r (parent_of_language locale)) marked)

pub returns-in-None : goal.returns-in-None
unfolding parent_of
returns-in-None c =
    let locale = c.args.locale.now in
    let none = rfind_char 95 locale None c.in-None.ensures.cases (omega arith) in
    let marked : before_last_mark locale ≡ None = mark_nowhere locale none in
    c.parent_of_language.ensures ∙ sym (ap (λ r. option_or r (parent_of_language locale)) marked)
