-- The weights that code reads level by level are the lists of the definitions.
use Rattle.std.proofs.Common.{ℕ, ◌≡◌, ◌==◌, Bool, true, false, List, [], ◌∷◌, ◌++◌, Option, Some, None, option_map, if◌then◌else◌, map, refl, ap, ◌∙◌}
use Rattle.std.specs.Prelude.{option_to_list}
use Rattle.icu_order_levels.specs.ListOrder.{list_order}
use Rattle.icu_order_levels.specs.Keys.{primaries_order, secondaries_order, cases_order, tertiaries_order, quaternaries_order}
use Rattle.icu_order_levels.specs.declared.forms.CaseForm.{CaseForm}
use Rattle.icu_order_levels.specs.declared.forms.QuaternaryForm.{QuaternaryForm}
use Rattle.icu_order_levels.specs.declared.forms.SecondaryForm.TheVariants.{Forward}
use Rattle.icu_order_levels.specs.declared.forms.SecondaryForm.{SecondaryForm}
use Rattle.icu_order_levels.specs.declared.forms.TertiaryForm.{TertiaryForm}
use Rattle.icu_table_entries.specs.Elements.{Element}
use Rattle.icu_table_entries.specs.ElementConditions.{tertiary_of}
use Rattle.icu_table_provider.specs.CollatorTables.{reorder_by}
use Rattle.icu_table_provider.specs.StoredTables.{reordering_of}
use Rattle.icu_table_provider.specs.declared.reordering.CollationReordering.{CollationReordering}
use Rattle.icu_order_texts.specs.weighting.Collations.{Collation}
use Rattle.icu_order_texts.specs.weighting.Handled.{HandledElement, stayed, shifted_primary, stayed_elements}
use Rattle.icu_order_texts.specs.weighting.Levels.{weights, primary_of, primaries, secondary_of, secondaries, case_reads, case_rank, masked_tertiary, tertiary_in, tertiaries, quaternary_weight, quaternaries}
use Rattle.icu_order_texts.specs.weighting.Forms.{compression_of, form_by}
use Rattle.icu_order_texts.specs.TextOrder.{handled_by, lists_by}
use Rattle.icu_collator.specs.declared.forward_levels.Level.{Level}
use Rattle.icu_collator.specs.declared.forward_levels.Level.TheVariants.{Primary, Secondary, Case, Tertiary, Quaternary}
use Rattle.icu_collator.specs.inner.LevelWeights.{read_as, weight_in, level_weights}

kept : (b : Bool) (w : ℕ) (ws vs : List ℕ) → ws ≡ vs → option_to_list (if b then None else Some w) ++ ws ≡ (if b then vs else w ∷ vs)
kept true w ws vs e = e
kept false w ws vs e = ap (λ l. w ∷ l) e

-- a level that has nothing for shifted elements, and for others what it reads and has
record IsOfStayed (level : Level) (reads has : Element → ℕ) : Type 0 where
  read : (x : Element) → weight_in level (stayed x) ≡ read_as (reads x) (has x)
  shifted : (p : ℕ) → weight_in level (shifted_primary p) ≡ None

of_stayed : (level : Level) (reads has : Element → ℕ) → IsOfStayed level reads has → (hs : List HandledElement) → level_weights level hs ≡ weights reads has (stayed_elements hs)
unfolding level_weights weights
of_stayed level reads has is [] = refl
of_stayed level reads has is (stayed x ∷ hs) =
    ap (λ w. option_to_list w ++ level_weights level hs) (is.read x) ∙ kept (reads x == 0) (has x) _ _ (of_stayed level reads has is hs)
of_stayed level reads has is (shifted_primary p ∷ hs) =
    ap (λ w. option_to_list w ++ level_weights level hs) (is.shifted p) ∙ of_stayed level reads has is hs

map_kept : (f : ℕ → ℕ) (b : Bool) (w : ℕ) (ws vs : List ℕ) → ws ≡ map f vs → (if b then ws else f w ∷ ws) ≡ map f (if b then vs else w ∷ vs)
map_kept f true w ws vs e = e
map_kept f false w ws vs e = ap (λ l. f w ∷ l) e

mapped : (f : ℕ → ℕ) (reads has : Element → ℕ) (es : List Element) → weights reads (λ x. f (has x)) es ≡ map f (weights reads has es)
unfolding weights
mapped f reads has [] = refl
mapped f reads has (x ∷ xs) = map_kept f (reads x == 0) (has x) _ _ (mapped f reads has xs)

pub primary_weights : (r : Option CollationReordering) (hs : List HandledElement)
    → level_weights (Primary r) hs ≡ map (reorder_by (option_map reordering_of r)) (primaries (stayed_elements hs))
primary_weights r hs =
    let reorder : ℕ → ℕ = reorder_by (option_map reordering_of r) in
    of_stayed (Primary r) primary_of (λ x. reorder x.primary) (record { read = λ x. refl; shifted = λ p. refl }) hs
    ∙ mapped reorder primary_of primary_of (stayed_elements hs)

pub secondary_weights : (hs : List HandledElement) → level_weights Secondary hs ≡ secondaries (stayed_elements hs)
secondary_weights hs = of_stayed Secondary secondary_of secondary_of (record { read = λ x. refl; shifted = λ p. refl }) hs

pub case_weights : (before : Option SecondaryForm) (form : CaseForm) (hs : List HandledElement)
    → level_weights (Case before form) hs ≡ weights (case_reads before) (case_rank form) (stayed_elements hs)
case_weights before form hs = of_stayed (Case before form) (case_reads before) (case_rank form) (record { read = λ x. refl; shifted = λ p. refl }) hs

pub tertiary_weights : (form : TertiaryForm) (hs : List HandledElement) → level_weights (Tertiary form) hs ≡ tertiaries form (stayed_elements hs)
tertiary_weights form hs = of_stayed (Tertiary form) (masked_tertiary form) (tertiary_in form) (record { read = λ x. refl; shifted = λ p. refl }) hs

pub quaternary_weights : (r : Option CollationReordering) (hs : List HandledElement)
    → level_weights (Quaternary r) hs ≡ quaternaries (reorder_by (option_map reordering_of r)) hs
unfolding level_weights quaternaries
quaternary_weights r [] = refl
quaternary_weights r (stayed x ∷ hs) = kept (tertiary_of x == 0) (quaternary_weight x) _ _ (quaternary_weights r hs)
quaternary_weights r (shifted_primary p ∷ hs) = ap (λ l. reorder_by (option_map reordering_of r) p ∷ l) (quaternary_weights r hs)

-- ---- the orders of two texts on each level

both : (level : Level) (has : List HandledElement → List ℕ) → ((hs : List HandledElement) → level_weights level hs ≡ has hs)
    → (hs ks : List HandledElement) → list_order (level_weights level hs) (level_weights level ks) ≡ list_order (has hs) (has ks)
both level has e hs ks = ap (λ l. list_order l (level_weights level ks)) (e hs) ∙ ap (list_order (has hs)) (e ks)

module _ (collation : Collation) (t u : List ℕ) where
  abbrev left : List HandledElement
  left = handled_by collation t

  abbrev right : List HandledElement
  right = handled_by collation u

  pub primaries_read : (r : Option CollationReordering) → option_map reordering_of r ≡ collation.tables.reordering
      → list_order (level_weights (Primary r) left) (level_weights (Primary r) right)
      ≡ primaries_order (compression_of collation.tables) (lists_by collation t) (lists_by collation u)
  unfolding lists_by
  primaries_read r e =
      both (Primary r) (λ hs. map (reorder_by (option_map reordering_of r)) (primaries (stayed_elements hs))) (primary_weights r) left right
      ∙ ap (λ x. list_order (map (reorder_by x) (primaries (stayed_elements left))) (map (reorder_by x) (primaries (stayed_elements right)))) e

  pub secondaries_read : list_order (level_weights Secondary left) (level_weights Secondary right)
      ≡ secondaries_order (Some Forward) (lists_by collation t) (lists_by collation u)
  unfolding lists_by
  secondaries_read = both Secondary (λ hs. secondaries (stayed_elements hs)) secondary_weights left right

  pub cases_read : (before : Option SecondaryForm) (form : CaseForm) → before ≡ (form_by collation).secondary → (form_by collation).cases ≡ Some form
      → list_order (level_weights (Case before form) left) (level_weights (Case before form) right)
      ≡ cases_order (form_by collation).cases (lists_by collation t) (lists_by collation u)
  unfolding lists_by
  cases_read before form e f =
      both (Case before form) (λ hs. weights (case_reads before) (case_rank form) (stayed_elements hs)) (case_weights before form) left right
      ∙ rw (e, f) refl

  pub tertiaries_read : (form : TertiaryForm) → (form_by collation).tertiary ≡ Some form
      → list_order (level_weights (Tertiary form) left) (level_weights (Tertiary form) right)
      ≡ tertiaries_order (form_by collation).tertiary (lists_by collation t) (lists_by collation u)
  unfolding lists_by
  tertiaries_read form e =
      both (Tertiary form) (λ hs. tertiaries form (stayed_elements hs)) (tertiary_weights form) left right ∙ rw (e) refl

  pub quaternaries_read : (r : Option CollationReordering) (form : QuaternaryForm) → option_map reordering_of r ≡ collation.tables.reordering
      → list_order (level_weights (Quaternary r) left) (level_weights (Quaternary r) right)
      ≡ quaternaries_order (Some form) (lists_by collation t) (lists_by collation u)
  unfolding lists_by
  quaternaries_read r form e =
      both (Quaternary r) (λ hs. quaternaries (reorder_by (option_map reordering_of r)) hs) (quaternary_weights r) left right
      ∙ ap (λ x. list_order (quaternaries (reorder_by x) left) (quaternaries (reorder_by x) right)) e
