-- The order of two texts by their elements alone.
use Rattle.std.specs.Prelude.{◌≡◌, ℕ, false, List, map}
use Rattle.std.specs.Ordering.{ordering_then}
use Rattle.std.specs.declared.cmp.Ordering.{Ordering}
use Rattle.icu_order_levels.specs.ListOrder.{list_order}
use Rattle.icu_order_levels.specs.Keys.{LevelLists, secondaries_order, cases_order, tertiaries_order, quaternaries_order}
use Rattle.icu_order_levels.specs.declared.forms.KeyForm.{KeyForm}
use Rattle.icu_table_provider.specs.CollatorTables.{reorder}
use Rattle.icu_order_texts.specs.weighting.Collations.{Collation}
use Rattle.icu_order_texts.specs.weighting.Forms.{form_by, last_variable_by}
use Rattle.icu_order_texts.specs.TextOrder.{lists_by}

-- the levels in turn between the primary and the identical one
abbrev pub after_primaries : KeyForm → LevelLists → LevelLists → Ordering
after_primaries form t u =
    ordering_then (secondaries_order form.secondary t u) (
    ordering_then (cases_order form.cases t u) (
    ordering_then (tertiaries_order form.tertiary t u)
    (quaternaries_order form.quaternary t u)))

-- all levels in turn but the identical one
unfoldable pub before_characters : (ℕ → ℕ) → KeyForm → LevelLists → LevelLists → Ordering
before_characters reorder form t u =
    ordering_then (list_order (map reorder t.primaries) (map reorder u.primaries)) (after_primaries form t u)

-- the order of two decomposed texts on all levels but the identical one, by a collation
unfoldable pub elements_order : Collation → List ℕ → List ℕ → Ordering
elements_order c t u =
    before_characters (reorder c.tables) (form_by c) (lists_by c t) (lists_by c u)

-- the order of their primaries
unfoldable pub leading_order : Collation → List ℕ → List ℕ → Ordering
leading_order c t u =
    list_order (map (reorder c.tables) (lists_by c t).primaries) (map (reorder c.tables) (lists_by c u).primaries)

-- the order of two texts on the later levels, those between the primary and the identical one
unfoldable pub later_levels_order : Collation → List ℕ → List ℕ → Ordering
later_levels_order c t u = after_primaries (form_by c) (lists_by c t) (lists_by c u)

-- no element is variable, and characters don't count
pub record ReadsElementsAlone (c : Collation) : Type 0 where
  pub variable : last_variable_by c ≡ 0
  pub identical : (form_by c).identical ≡ false
