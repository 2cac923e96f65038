-- What the key of a text is written of.
use Rattle.std.proofs.Common.{◌≡◌, ℕ, ◌++◌, Bool, true, false, List, [], ◌∷◌, Option, Some, None, refl, ap, IsTrue, ◌∙◌}
use Rattle.std.specs.Char.{IsScalar}
use Rattle.std.specs.List.{AllByRecursion}
use Rattle.std.proofs.lemmas.Bool.{and_parts}
use Rattle.std.proofs.Math.Utf8.{scalar, scalars}
use Rattle.unicode_normalization.specs.Forms.{nfd}
use Rattle.icu_table_provider.specs.CollatorTables.{reorder}
use Rattle.icu_order_levels.specs.Identical.{identical_level}
use Rattle.icu_order_levels.specs.Keys.{LevelLists, LevelPart, opened, key_bytes, secondary_part, case_part, tertiary_part, quaternary_part, identical_part, parts_bytes}
use Rattle.icu_order_levels.specs.Primaries.{Compression, primary_level}
use Rattle.icu_order_levels.specs.declared.forms.CaseForm.{CaseForm}
use Rattle.icu_order_levels.specs.declared.forms.KeyForm.{KeyForm}
use Rattle.icu_order_levels.specs.declared.forms.QuaternaryForm.{QuaternaryForm}
use Rattle.icu_order_levels.specs.declared.forms.SecondaryForm.{SecondaryForm}
use Rattle.icu_order_levels.specs.declared.forms.SecondaryForm.TheVariants.{Forward, Backward}
use Rattle.icu_order_levels.specs.declared.forms.TertiaryForm.{TertiaryForm}
use Rattle.icu_order_texts.specs.weighting.Collations.{Collation}
use Rattle.icu_order_texts.specs.weighting.Handled.{HandledElement}
use Rattle.icu_order_texts.specs.weighting.Levels.{level_lists}
use Rattle.icu_order_texts.specs.TextOrder.{handled_by, lists_by, text_key}
use Rattle.icu_order_texts.specs.weighting.Forms.{compression_of, form_by}

-- ---- characters that don't count

module _ (reorder : ℕ → ℕ) (f : KeyForm) (hs : List HandledElement) (cs ds : List ℕ) where
  abbrev left : LevelLists
  left = level_lists reorder f hs cs

  abbrev right : LevelLists
  right = level_lists reorder f hs ds

  same_secondary : (o : Option SecondaryForm) → secondary_part o left ≡ secondary_part o right
  same_secondary None = refl
  same_secondary (Some Forward) = refl
  same_secondary (Some Backward) = refl

  same_cases : (o : Option CaseForm) → case_part o left ≡ case_part o right
  same_cases None = refl
  same_cases (Some form) = refl

  same_tertiary : (o : Option TertiaryForm) → tertiary_part o left ≡ tertiary_part o right
  same_tertiary None = refl
  same_tertiary (Some form) = refl

  same_quaternary : (o : Option QuaternaryForm) → quaternary_part o left ≡ quaternary_part o right
  same_quaternary None = refl
  same_quaternary (Some form) = refl

  same_identical : (b : Bool) → (IsTrue b → cs ≡ ds) → identical_part b left ≡ identical_part b right
  same_identical false h = refl
  same_identical true h = ap (λ cs. opened (identical_level cs)) (h refl)

same_parts : (a b c d e k l m n o : LevelPart) → a ≡ k → b ≡ l → c ≡ m → d ≡ n → e ≡ o
    → parts_bytes (a ∷ b ∷ c ∷ d ∷ e ∷ []) ≡ parts_bytes (k ∷ l ∷ m ∷ n ∷ o ∷ [])
same_parts a b c d e k l m n o p q r s t = rw (p, q, r, s, t)

same_key : (c : Compression) (f : KeyForm) (hs : List HandledElement) (cs ds : List ℕ) → (IsTrue f.identical → cs ≡ ds)
    → key_bytes c f (level_lists c.reorder f hs cs) ≡ key_bytes c f (level_lists c.reorder f hs ds)
same_key c f hs cs ds h =
    ap (λ bytes. primary_level c 0 (level_lists c.reorder f hs cs).primaries ++ bytes)
    (same_parts _ _ _ _ _ _ _ _ _ _ (same_secondary c.reorder f hs cs ds f.secondary) (same_cases c.reorder f hs cs ds f.cases)
    (same_tertiary c.reorder f hs cs ds f.tertiary) (same_quaternary c.reorder f hs cs ds f.quaternary) (same_identical c.reorder f hs cs ds f.identical h))

-- characters that don't count may be any
pub uncounted : (b : Bool) (cs ds : List ℕ) → b ≡ false → IsTrue b → cs ≡ ds
uncounted false cs ds off on = cc
uncounted true cs ds off on = cc

-- the key that is written of a decomposed text, and of characters that are its own where they count, is that of the
-- text
pub key_read : (collation : Collation) (t ds cs : List ℕ) → ds ≡ nfd t → (IsTrue (form_by collation).identical → cs ≡ ds)
    → key_bytes (compression_of collation.tables) (form_by collation) (level_lists (reorder collation.tables) (form_by collation) (handled_by collation ds) cs)
    ≡ text_key collation t
unfolding text_key lists_by
key_read collation t ds cs read same =
    let form : KeyForm = form_by collation in
    ap (λ (l : List ℕ). key_bytes (compression_of collation.tables) form (level_lists (reorder collation.tables) form (handled_by collation l) cs)) read
    ∙ same_key (compression_of collation.tables) form (handled_by collation (nfd t)) cs (nfd t) (λ on. same on ∙ read)

-- ---- texts

pub are_scalars : (cs : List ℕ) → scalars cs ≡ true → AllByRecursion IsScalar cs
are_scalars [] h = tt
are_scalars (c ∷ cs) h = let parts = and_parts (scalar c) (scalars cs) h in (parts.0, are_scalars cs parts.1)
