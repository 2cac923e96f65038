-- The order of texts is a total order with ties, whatever the collation.
use Rattle.std.proofs.Common.{ℕ, List, Option, Some, None, Bool, true, false, map, refl}
use Rattle.std.specs.Cmp.{IsTotalOrder}
use Rattle.std.proofs.lemmas.Cmp.{on_total, then_total, lists_total, nat_list_cmp_total}
use Rattle.std.specs.declared.cmp.Ordering.{Ordering}
use Rattle.std.specs.declared.cmp.Ordering.TheVariants.{Equal}
use Rattle.unicode_normalization.specs.Forms.{nfd}
use Rattle.icu_order_levels.specs.Identical.{identical_rank}
use Rattle.icu_order_levels.specs.Keys.{LevelLists, levels_order, secondaries_order, cases_order, tertiaries_order, quaternaries_order, characters_order}
use Rattle.icu_order_levels.specs.Primaries.{Compression}
use Rattle.icu_order_levels.specs.declared.forms.CaseForm.{CaseForm}
use Rattle.icu_order_levels.specs.declared.forms.KeyForm.{KeyForm}
use Rattle.icu_order_levels.specs.declared.forms.QuaternaryForm.{QuaternaryForm}
use Rattle.icu_order_levels.specs.declared.forms.SecondaryForm.{SecondaryForm}
use Rattle.icu_order_levels.specs.declared.forms.SecondaryForm.TheVariants.{Forward, Backward}
use Rattle.icu_order_levels.specs.declared.forms.TertiaryForm.{TertiaryForm}
use Rattle.icu_order_texts.specs.weighting.Collations.{Collation}
use Rattle.icu_order_texts.specs.weighting.Forms.{compression_of, form_by}
use Rattle.icu_order_texts.specs.TextOrder.{lists_by, text_order}

-- a level that doesn't count
abbrev always_equal : LevelLists → LevelLists → Ordering
always_equal t u = Equal

equal_total : IsTotalOrder always_equal
equal_total = record { antisymm = λ t u. refl; trans = λ t u v h k. h; congr = λ t u v h. refl }

secondaries_total : (form : Option SecondaryForm) → IsTotalOrder (secondaries_order form)
secondaries_total None = equal_total
secondaries_total (Some Forward) = on_total (λ (t : LevelLists). t.secondaries) nat_list_cmp_total
secondaries_total (Some Backward) = on_total (λ (t : LevelLists). t.segments) (lists_total nat_list_cmp_total)

cases_total : (form : Option CaseForm) → IsTotalOrder (cases_order form)
cases_total None = equal_total
cases_total (Some form) = on_total (λ (t : LevelLists). t.cases) nat_list_cmp_total

tertiaries_total : (form : Option TertiaryForm) → IsTotalOrder (tertiaries_order form)
tertiaries_total None = equal_total
tertiaries_total (Some form) = on_total (λ (t : LevelLists). t.tertiaries) nat_list_cmp_total

quaternaries_total : (form : Option QuaternaryForm) → IsTotalOrder (quaternaries_order form)
quaternaries_total None = equal_total
quaternaries_total (Some form) = on_total (λ (t : LevelLists). t.quaternaries) nat_list_cmp_total

characters_total : (counts : Bool) → IsTotalOrder (characters_order counts)
characters_total false = equal_total
characters_total true = on_total (λ (t : LevelLists). map identical_rank t.characters) nat_list_cmp_total

levels_total : (c : Compression) (form : KeyForm) → IsTotalOrder (levels_order c form)
levels_total c form =
    then_total (on_total (λ (t : LevelLists). map c.reorder t.primaries) nat_list_cmp_total) (
    then_total (secondaries_total form.secondary) (
    then_total (cases_total form.cases) (
    then_total (tertiaries_total form.tertiary) (
    then_total (quaternaries_total form.quaternary) (
    then_total (characters_total form.identical) equal_total)))))

pub order_total : (c : Collation) → IsTotalOrder (text_order c)
unfolding text_order
order_total c = on_total (λ (t : List ℕ). lists_by c (nfd t)) (levels_total (compression_of c.tables) (form_by c))
