-- The weights of the level are the tertiaries.
use Rattle.std.proofs.Common.{◌≡◌, ◌∙◌, Some, sym, ap}
use Rattle.unicode_normalization.specs.Forms.{nfd}
use Rattle.icu_order_texts.specs.weighting.Forms.{form_by}
use Rattle.icu_collator.specs.Collators.{collation_borrowed}
use Rattle.icu_order_levels.specs.declared.forms.KeyForm.{KeyForm}
use Rattle.icu_collator.proofs.LevelLemmas.{tertiaries_read}
use Rattle.icu_collator.proofs.collator.CollatorBorrowed.compare_tertiaries.Goals as goal

pub returns-in-Some : goal.returns-in-Some
returns-in-Some g c =
    let collation = collation_borrowed c.args.self.now in
    let counts : (form_by collation).tertiary ≡ Some c.in-Some.form = sym (ap (λ (k : KeyForm). k.tertiary) c.key_form.ensures) ∙ c.in-Some.is in
    c.compare_forward_level.ensures
    ∙ tertiaries_read collation (nfd (g.L.EncodedText.text c.args.texts.now.left)) (nfd (g.R.EncodedText.text c.args.texts.now.right)) c.in-Some.form counts
