use Rattle.std.proofs.Common.{◌≡◌, ◌≢◌, List, [], ◌∷◌, ◌++◌, Result, Ok, Err, Some, None, sym, ap, subst, ◌∙◌, rules}
use Rattle.std.specs.Prelude.{IfErr}
use Rattle.std.specs.Result.{IsErrAnd}
use Rattle.std.proofs.lemmas.List.{map-append}
use Rattle.icu_cldr_locales.specs.declared.subtag.Subtag.{Subtag}
use Rattle.icu_cldr_locales.specs.declared.tag_error.TagError.{TagError}
use Rattle.icu_cldr_locales.specs.declared.tag_error.TagError.TheVariants.{NoMemory}
use Rattle.icu_cldr_locales.specs.LanguageTags.{subtag_text_of, texts_of, language_tag_of, subtag_behind, subtags_behind}
use Rattle.icu_cldr_locales.proofs.ReadingLemmas.{parts_left, parts_left_behind, left_within, part_refused, part_read, end_read, end_refused}
use Rattle.icu_cldr_locales.proofs.language_tag.LanguageTag.parse.Goals as goal

handed_on : {T : Type 0} (r : Result T TagError) (e : TagError) (P : TagError → Type 0) → IsErrAnd r (λ x. x ≡ e) → P e → IfErr r P
handed_on (Ok x) e P is p = tt
handed_on (Err x) e P is p = subst P (sym is) p

pub returns-in_err-subtag-clause-refused : goal.returns-in_err-subtag-clause-refused
returns-in_err-subtag-clause-refused c =
    let P : TagError → Type 0 = λ e. e ≢ NoMemory → language_tag_of c.args.text.now ≡ None in
    let Q : List Subtag → Type 0 = λ xs. subtag_behind (texts_of xs) c.reading.last c.first_part.result.0.now ≡ None in
    handed_on c.from_residual.result c.in_err-subtag.field-0.0 P c.from_residual.ensures.1
    (λ some. part_refused (texts_of c.reading.subtags.items) c.reading.last c.reading.left (language_tag_of c.args.text.now) c.reading.invariant.subtags
    c.in-Some.unread c.first_part.result.0.now c.first_part.result.1 c.in-Some.is
    (parts_left_behind c.in-Some.unread.now c.first_part.result.0.now c.first_part.result.1 c.first_part.ensures.parts)
    (subst Q c.as_slice.ensures.value (c.in_err-subtag.ensures.refused some)))

pub reading-preserved : goal.reading-preserved
reading-preserved c =
    let pushed : c.push.new.self.items ≡ c.reading.subtags.items ++ c.in_ok-subtag.subtag ∷ [] = search rules in
    let Q : List Subtag → Type 0 = λ xs. subtag_behind (texts_of xs) c.reading.last c.first_part.result.0.now ≡ Some (subtag_text_of c.in_ok-subtag.subtag) in
    let read = part_read (texts_of c.reading.subtags.items) c.reading.last c.reading.left (language_tag_of c.args.text.now) c.reading.invariant.subtags
    c.in-Some.unread c.first_part.result.0.now c.first_part.result.1 (subtag_text_of c.in_ok-subtag.subtag) c.in-Some.is
    (parts_left_behind c.in-Some.unread.now c.first_part.result.0.now c.first_part.result.1 c.first_part.ensures.parts)
    (subst Q c.as_slice.ensures.value c.in_ok-subtag.ensures.subtag) in
    record {
      subtags =
          ap (λ xs. subtags_behind (texts_of xs) (Some c.in_ok-subtag.subtag.kind) (parts_left c.first_part.result.1)) pushed
          ∙ (ap (λ xs. subtags_behind xs (Some c.in_ok-subtag.subtag.kind) (parts_left c.first_part.result.1))
          (map-append subtag_text_of c.reading.subtags.items (c.in_ok-subtag.subtag ∷ [])) ∙ read);
      within = left_within c.reading.left c.first_part.result.1 c.in-Some.unread _ c.in-Some.is c.first_part.ensures.shorter c.reading.invariant.within;
    }

pub returns-then-may_end_behind-clause-tag : goal.returns-then-may_end_behind-clause-tag
returns-then-may_end_behind-clause-tag c =
    end_read (texts_of c.reading.subtags.items) c.reading.last c.reading.left (language_tag_of c.args.text.now) c.reading.invariant.subtags
    c.in_default.is (sym c.may_end_behind.ensures ∙ c.if-may_end_behind.true)

pub returns-clause-refused : goal.returns-clause-refused
returns-clause-refused c = λ _.
    end_refused (texts_of c.reading.subtags.items) c.reading.last c.reading.left (language_tag_of c.args.text.now) c.reading.invariant.subtags
    c.in_default.is (sym c.may_end_behind.ensures ∙ c.if-may_end_behind.false)
