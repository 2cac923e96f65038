use Rattle.std.proofs.Common.{◌≡◌, ◌≢◌, Option, Some, None, sym, subst}
use Rattle.std.specs.Prelude.{IfOk, IfErr}
use Rattle.icu_cldr_locales.specs.declared.tag_error.TagError.TheVariants.{NoMemory}
use Rattle.icu_cldr_locales.specs.LanguageTags.{SubtagText, subtag_text_of, texts_of}
use Rattle.icu_cldr_locales.proofs.ReadingLemmas.{none_behind, some_behind}
use Rattle.icu_cldr_locales.proofs.language_tag.subtag_behind.Goals as goal

pub returns-in-None-clause-refused : goal.returns-in-None-clause-refused
returns-in-None-clause-refused c = λ _.
    none_behind (texts_of c.args.before.now) c.args.last c.args.part.now c.as_bytes.result.now c.as_bytes.ensures.value c.in-None.ensures

pub returns-in-Some-clause-subtag : goal.returns-in-Some-clause-subtag
returns-in-Some-clause-subtag c =
    let P : Option SubtagText → Type 0 = λ o. IfOk c.subtag_as.result (λ s. o ≡ Some (subtag_text_of s)) in
    subst P (sym (some_behind (texts_of c.args.before.now) c.args.last c.args.part.now c.as_bytes.result.now c.in-Some.kind c.as_bytes.ensures.value c.in-Some.ensures))
    c.subtag_as.ensures.subtag

pub returns-in-Some-clause-refused : goal.returns-in-Some-clause-refused
returns-in-Some-clause-refused c =
    let P : Option SubtagText → Type 0 = λ o. IfErr c.subtag_as.result (λ e. e ≢ NoMemory → o ≡ None) in
    subst P (sym (some_behind (texts_of c.args.before.now) c.args.last c.args.part.now c.as_bytes.result.now c.in-Some.kind c.as_bytes.ensures.value c.in-Some.ensures))
    c.subtag_as.ensures.refused
