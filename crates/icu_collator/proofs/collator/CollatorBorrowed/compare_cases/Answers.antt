-- The weights of the level are the cases.
use Rattle.std.proofs.Common.{◌≡◌, ◌∙◌, Some, sym, ap}
use Rattle.unicode_normalization.specs.Forms.{nfd}
use Rattle.icu_order_texts.specs.weighting.Forms.{form_by}
use Rattle.icu_collator.specs.Collators.{collation_borrowed}
use Rattle.icu_order_levels.specs.declared.forms.KeyForm.{KeyForm}
use Rattle.icu_collator.proofs.LevelLemmas.{cases_read}
use Rattle.icu_collator.proofs.collator.CollatorBorrowed.compare_cases.Goals as goal

pub returns-in-Some : goal.returns-in-Some
returns-in-Some g c =
    let collation = collation_borrowed c.args.self.now in
    let counts : (form_by collation).cases ≡ Some c.in-Some.cases = sym (ap (λ (k : KeyForm). k.cases) c.key_form-form.ensures) ∙ c.in-Some.is in
    c.compare_forward_level.ensures
    ∙ cases_read collation (nfd (g.L.EncodedText.text c.args.texts.now.left)) (nfd (g.R.EncodedText.text c.args.texts.now.right))
    c.key_form-form.result.secondary c.in-Some.cases (ap (λ (k : KeyForm). k.secondary) c.key_form-form.ensures) counts
