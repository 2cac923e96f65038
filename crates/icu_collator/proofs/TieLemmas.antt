-- Lists of equal elements tie on each level.
use Rattle.std.proofs.Common.{◌≡◌, ℕ, List, map, Ordering, Equal, refl, ap, ◌∙◌}
use Rattle.std.specs.Ordering.{ordering_then}
use Rattle.icu_order_levels.specs.Keys.{LevelLists}
use Rattle.icu_order_levels.specs.declared.forms.KeyForm.{KeyForm}
use Rattle.icu_order_levels.proofs.Order.{same_lists_order}
use Rattle.icu_order_levels.proofs.OwnOrder.{own_secondaries, own_cases, own_tertiaries, own_quaternaries}
use Rattle.icu_table_provider.specs.CollatorTables.{reorder}
use Rattle.icu_order_texts.specs.weighting.Collations.{Collation}
use Rattle.icu_order_texts.specs.weighting.Levels.{level_lists}
use Rattle.icu_order_texts.specs.weighting.Forms.{form_by}
use Rattle.icu_order_texts.specs.TextOrder.{handled_by, lists_by}
use Rattle.icu_collator.specs.inner.ElementOrders.{before_characters, elements_order}

five_tie : (a b c d e : Ordering) → a ≡ Equal → b ≡ Equal → c ≡ Equal → d ≡ Equal → e ≡ Equal
    → ordering_then a (ordering_then b (ordering_then c (ordering_then d e))) ≡ Equal
five_tie a b c d e g h i j k = rw (g, h, i, j, k) refl

tie : (f : ℕ → ℕ) (form : KeyForm) (t : LevelLists) (cs : List ℕ) → before_characters f form t (record t { characters = cs }) ≡ Equal
unfolding before_characters
tie f form t cs =
    five_tie _ _ _ _ _ (same_lists_order (map f t.primaries) (map f t.primaries) refl) (own_secondaries t cs form.secondary)
    (own_cases t cs form.cases) (own_tertiaries t cs form.tertiary) (own_quaternaries t cs form.quaternary)

-- texts of the same elements are equal before their characters
pub same_elements : (collation : Collation) (t u : List ℕ) → handled_by collation t ≡ handled_by collation u
    → elements_order collation t u ≡ Equal
unfolding elements_order lists_by
same_elements collation t u same =
    let form = form_by collation in
    ap (λ hs. before_characters (reorder collation.tables) form (level_lists (reorder collation.tables) form hs t) (level_lists (reorder collation.tables) form (handled_by collation u) u)) same
    ∙ tie (reorder collation.tables) form (level_lists (reorder collation.tables) form (handled_by collation u) t) u
