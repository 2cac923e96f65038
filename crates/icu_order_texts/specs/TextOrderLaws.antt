-- The order theorem: sort keys order as texts do.
use Rattle.std.specs.Prelude.{ℕ, ◌≡◌, ◌↔◌, List, map}
use Rattle.std.specs.declared.cmp.Ordering.{Ordering}
use Rattle.std.specs.declared.cmp.Ordering.TheVariants.{Equal}
use Rattle.unicode_normalization.specs.Forms.{nfd}
use Rattle.icu_order_levels.specs.ListOrder.{list_order}
use Rattle.icu_order_levels.specs.Primaries.{Compression, primary_level}
use Rattle.icu_order_levels.specs.Keys.{LevelPart, part_bytes, LevelLists, PartDetermines, secondary_part, case_part, tertiary_part, quaternary_part, identical_part, primaries_order, secondaries_order, cases_order, tertiaries_order, quaternaries_order, characters_order}
use Rattle.icu_order_levels.specs.LevelLaws.{KeepOrder}
use Rattle.icu_order_levels.specs.KeyLaws.{SameSecondaries, SameCases, SameTertiaries, SameQuaternaries, SameCharacters, HaveSameLists}
use Rattle.icu_order_levels.specs.declared.forms.KeyForm.{KeyForm}
use Rattle.icu_table_provider.specs.well_formed.WellFormedTables.{IsWellFormedTables}
use Rattle.icu_element_reading.specs.TextElementLaws.{IsText}
use Rattle.icu_order_texts.specs.weighting.Collations.{Collation}
use Rattle.icu_order_texts.specs.weighting.Forms.{compression_of, form_by}
use Rattle.icu_order_texts.specs.TextOrder.{lists_by, text_order, text_key}

-- what holds of any two texts, by each collation whose tables meet the conditions
abbrev pub OfTexts : (Collation → List ℕ → List ℕ → Type 0) → Type 0
OfTexts P = (c : Collation) → IsWellFormedTables c.tables → (t u : List ℕ) → IsText t → IsText u → P c t u

-- the dictionary order of two keys is the order of their texts
abbrev pub KeysKeepTextOrder : Type 0
KeysKeepTextOrder = OfTexts (λ c t u. list_order (text_key c t) (text_key c u) ≡ text_order c t u)

-- texts tie exactly if they have one key
abbrev pub EqualTextsHaveOneKey : Type 0
EqualTextsHaveOneKey =
    OfTexts (λ c t u. (text_order c t u ≡ Equal) ↔ (text_key c t ≡ text_key c u))

-- they have one key exactly if they have the same list at each level that the key has
abbrev pub KeysDetermineTextLists : Type 0
KeysDetermineTextLists =
    OfTexts (λ c t u. (text_key c t ≡ text_key c u)
    ↔ HaveSameLists (compression_of c.tables) (form_by c) (lists_by c (nfd t)) (lists_by c (nfd u)))

-- A level of two keys: its bytes determine the order, whatever follows them, and the same bytes mean the same list
pub record LevelKeeps (p q : LevelPart) (order : Ordering) (Same : Type 0) : Type 0 where
  pub determines : PartDetermines p q order
  pub same : part_bytes p ≡ part_bytes q → Same

-- each level by itself, where all earlier levels tie
pub record LevelsKeep (c : Compression) (f : KeyForm) (t u : LevelLists) : Type 0 where
  pub primaries : KeepOrder (primary_level c 0 t.primaries) (primary_level c 0 u.primaries) (map c.reorder t.primaries) (map c.reorder u.primaries)
  pub secondaries : primaries_order c t u ≡ Equal
      → LevelKeeps (secondary_part f.secondary t) (secondary_part f.secondary u) (secondaries_order f.secondary t u)
      (SameSecondaries f.secondary t u)
  pub cases : primaries_order c t u ≡ Equal → secondaries_order f.secondary t u ≡ Equal
      → LevelKeeps (case_part f.cases t) (case_part f.cases u) (cases_order f.cases t u) (SameCases f.cases t u)
  pub tertiaries : primaries_order c t u ≡ Equal → secondaries_order f.secondary t u ≡ Equal → cases_order f.cases t u ≡ Equal
      → LevelKeeps (tertiary_part f.tertiary t) (tertiary_part f.tertiary u) (tertiaries_order f.tertiary t u)
      (SameTertiaries f.tertiary t u)
  pub quaternaries : primaries_order c t u ≡ Equal → secondaries_order f.secondary t u ≡ Equal → cases_order f.cases t u ≡ Equal
      → tertiaries_order f.tertiary t u ≡ Equal
      → LevelKeeps (quaternary_part f.quaternary t) (quaternary_part f.quaternary u) (quaternaries_order f.quaternary t u)
      (SameQuaternaries f.quaternary t u)
  pub characters : primaries_order c t u ≡ Equal → secondaries_order f.secondary t u ≡ Equal → cases_order f.cases t u ≡ Equal
      → tertiaries_order f.tertiary t u ≡ Equal → quaternaries_order f.quaternary t u ≡ Equal
      → LevelKeeps (identical_part f.identical t) (identical_part f.identical u) (characters_order f.identical t u)
      (SameCharacters f.identical t u)

-- each level of a key keeps the order of texts, where all earlier levels tie
abbrev pub LevelsKeepTextOrder : Type 0
LevelsKeepTextOrder =
    OfTexts (λ c t u. LevelsKeep (compression_of c.tables) (form_by c)
    (lists_by c (nfd t)) (lists_by c (nfd u)))
