-- Elements that don't count are passed over, and one above the variable ones gives its primary.
use Rattle.std.proofs.Common.{◌≡◌, ◌<◌, ◌≤◌, ◌⊎◌, ⊎_elim, inl, inr, ℕ, [], subst, sym}
use Rattle.icu_table_entries.specs.ElementConditions.{separator_primary}
use Rattle.icu_order_texts.specs.weighting.Forms.{last_variable_by}
use Rattle.icu_collator.specs.Collators.{collation_borrowed}
use Rattle.icu_collator.specs.inner.FirstPrimaries.{GivesPrimary}
use Rattle.icu_collator.proofs.FirstPrimaryLemmas.{nothing_given, passed_next, after_none, primary_found}
use Rattle.icu_collator.proofs.collator.CollatorBorrowed.next_primary.Goals as goal

pub elements-init : goal.elements-init
elements-init g c = nothing_given (collation_borrowed c.args.self.now) g.T.EncodedText.text c.args.characters.now

pub elements-preserved : goal.elements-preserved
elements-preserved g c =
    let collation = collation_borrowed c.args.self.now in
    let e = c.in_ok-next.field-0 in
    let below : e.primary ≤ last_variable_by collation = rw (sym c.primary-primary.ensures, sym c.last_variable.ensures) c.if-primary-last_variable.false in
    let either : (separator_primary < e.primary) ⊎ (e.primary ≡ 0) = rw (sym c.primary-primary.ensures) (⊎_elim (λ m. inl m.1) (λ z. inr z) c.else-primary-ne0.either) in
    after_none collation g.T.EncodedText.text c.args.characters.now c.elements.characters c.next.new.self [] c.elements.invariant
    (passed_next collation g.T.EncodedText.text c.elements.characters c.next.new.self e c.in_ok-next.ensures below either)

pub returns-then-primary-last_variable-clause-given : goal.returns-then-primary-last_variable-clause-given
returns-then-primary-last_variable-clause-given g c =
    let collation = collation_borrowed c.args.self.now in
    let e = c.in_ok-next.field-0 in
    let above : last_variable_by collation < e.primary = rw (sym c.primary-primary.ensures, sym c.last_variable.ensures) c.if-primary-last_variable.true in
    subst (λ (p : ℕ). GivesPrimary collation g.T.EncodedText.text c.args.characters.now p c.next.new.self) (sym c.primary-primary.ensures)
    (primary_found collation g.T.EncodedText.text c.args.characters.now c.elements.characters c.next.new.self e c.elements.invariant c.in_ok-next.ensures above)
