-- The weights of the level are the quaternaries.
use Rattle.std.proofs.Common.{◌≡◌, ◌∙◌, Some, sym, ap}
use Rattle.unicode_normalization.specs.Forms.{nfd}
use Rattle.icu_order_texts.specs.weighting.Forms.{form_by}
use Rattle.icu_collator.specs.Collators.{collation_borrowed}
use Rattle.icu_order_levels.specs.Keys.{quaternaries_order}
use Rattle.icu_order_levels.specs.declared.forms.KeyForm.{KeyForm}
use Rattle.icu_order_texts.specs.TextOrder.{lists_by}
use Rattle.icu_collator.proofs.LevelLemmas.{quaternaries_read}
use Rattle.icu_collator.proofs.collator.CollatorBorrowed.compare_quaternaries.Goals as goal

pub returns-in-Some : goal.returns-in-Some
returns-in-Some g c =
    let collation = collation_borrowed c.args.self.now in
    let t = nfd (g.L.EncodedText.text c.args.texts.now.left) in
    let u = nfd (g.R.EncodedText.text c.args.texts.now.right) in
    let counts : (form_by collation).quaternary ≡ Some c.in-Some.field-0 = sym (ap (λ (k : KeyForm). k.quaternary) c.key_form.ensures) ∙ c.in-Some.is in
    c.compare_forward_level.ensures
    ∙ quaternaries_read collation t u c.reordering.result c.in-Some.field-0 c.reordering.ensures
    ∙ ap (λ f. quaternaries_order f (lists_by collation t) (lists_by collation u)) (sym counts)
