-- The weights of the level are the secondaries.
use Rattle.std.proofs.Common.{◌≡◌, ◌∙◌, Some, sym, ap, rules}
use Rattle.unicode_normalization.specs.Forms.{nfd}
use Rattle.icu_order_levels.specs.Keys.{secondaries_order}
use Rattle.icu_order_levels.specs.declared.forms.KeyForm.{KeyForm}
use Rattle.icu_order_levels.specs.declared.forms.SecondaryForm.TheVariants.{Forward}
use Rattle.icu_order_texts.specs.weighting.Forms.{form_by}
use Rattle.icu_order_texts.specs.TextOrder.{lists_by}
use Rattle.icu_collator.specs.Collators.{collation_borrowed}
use Rattle.icu_collator.proofs.LevelLemmas.{secondaries_read}
use Rattle.icu_collator.proofs.collator.CollatorBorrowed.compare_secondaries.Goals as goal

pub returns-in-Some-Forward : goal.returns-in-Some-Forward
returns-in-Some-Forward g c =
    let collation = collation_borrowed c.args.self.now in
    let t = nfd (g.L.EncodedText.text c.args.texts.now.left) in
    let u = nfd (g.R.EncodedText.text c.args.texts.now.right) in
    let counts : (form_by collation).secondary ≡ Some Forward = sym (ap (λ (k : KeyForm). k.secondary) c.key_form.ensures) ∙ c.in-Some-Forward.is ∙ ap (λ f. Some f) (search rules) in
    c.compare_forward_level.ensures
    ∙ secondaries_read collation t u ∙ ap (λ f. secondaries_order f (lists_by collation t) (lists_by collation u)) (sym counts)
