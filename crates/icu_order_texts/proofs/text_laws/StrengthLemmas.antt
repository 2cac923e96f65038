-- Without a case level each stronger order is the weaker one, and then more.
use Rattle.std.proofs.Common.{◌≡◌, ◌≢◌, ◌≤◌, ℕ, Bool, true, false, List, Some, None, Ordering, Less, Equal, Greater, refl, sym, ap, ap₂, ◌∙◌, arith}
use Rattle.std.specs.Ordering.{ordering_then}
use Rattle.unicode_normalization.specs.Forms.{nfd}
use Rattle.icu_options.specs.Metadata.{is_backward}
use Rattle.icu_options.specs.declared.settings.Strength.{Strength}
use Rattle.icu_options.specs.declared.settings.Strength.TheVariants.{Primary, Secondary, Tertiary, Quaternary, Identical}
use Rattle.icu_order_levels.specs.ListOrder.{list_order, segments_order}
use Rattle.icu_order_levels.specs.Primaries.{Compression}
use Rattle.icu_order_levels.specs.Keys.{LevelLists, levels_order, primaries_order, secondaries_order, tertiaries_order, quaternaries_order, characters_order}
use Rattle.icu_order_levels.specs.declared.forms.KeyForm.{KeyForm}
use Rattle.icu_order_levels.specs.declared.forms.QuaternaryForm.{QuaternaryForm}
use Rattle.icu_order_levels.specs.declared.forms.SecondaryForm.{SecondaryForm}
use Rattle.icu_order_levels.specs.declared.forms.SecondaryForm.TheVariants.{Forward, Backward}
use Rattle.icu_order_levels.specs.declared.forms.TertiaryForm.{TertiaryForm}
use Rattle.icu_order_levels.proofs.Orderings.{then_equal}
use Rattle.icu_table_provider.specs.CollatorTables.{reorder}
use Rattle.icu_order_texts.specs.weighting.Collations.{Collation}
use Rattle.icu_order_texts.specs.weighting.Handled.{HandledElement}
use Rattle.icu_order_texts.specs.weighting.Levels.{level_lists}
use Rattle.icu_order_texts.specs.weighting.Forms.{compression_of, direction, secondary_form, case_form, cased_form, tertiary_form, quaternary_form, handling_form, is_identical}
use Rattle.icu_order_texts.specs.TextOrder.{handled_by, lists_by, text_order}
use Rattle.icu_order_texts.specs.text_laws.OrderLaws.{strength_rank, with_strength}

-- ---- orders one after another

-- what stands after an order that isn't Equal changes nothing
pub stays : (o x : Ordering) → o ≢ Equal → ordering_then o x ≡ o
stays Less x n = refl
stays Equal x n = absurd (n refl)
stays Greater x n = refl

-- an order, and then more
abbrev GoesOn : Ordering → Ordering → Type 0
GoesOn short long = (x : Ordering) × (long ≡ ordering_then short x)

one : (p x : Ordering) → ordering_then p x ≡ ordering_then (ordering_then p Equal) x
one Less x = refl
one Equal x = refl
one Greater x = refl

two : (p s x : Ordering) → ordering_then p (ordering_then s x) ≡ ordering_then (ordering_then p (ordering_then s Equal)) x
two Less s x = refl
two Equal s x = one s x
two Greater s x = refl

three : (p s t x : Ordering) → ordering_then p (ordering_then s (ordering_then t x))
    ≡ ordering_then (ordering_then p (ordering_then s (ordering_then t Equal))) x
three Less s t x = refl
three Equal s t x = two s t x
three Greater s t x = refl

four : (p s t q x : Ordering) → ordering_then p (ordering_then s (ordering_then t (ordering_then q x)))
    ≡ ordering_then (ordering_then p (ordering_then s (ordering_then t (ordering_then q Equal)))) x
four Less s t q x = refl
four Equal s t q x = three s t q x
four Greater s t q x = refl

-- ---- strengths

-- the secondary level is the same from Secondary on
same_secondaries : (form : SecondaryForm) (t u v w : LevelLists) → t.secondaries ≡ v.secondaries → u.secondaries ≡ w.secondaries
    → t.segments ≡ v.segments → u.segments ≡ w.segments → secondaries_order (Some form) t u ≡ secondaries_order (Some form) v w
same_secondaries Backward t u v w e f g h = ap₂ segments_order g h
same_secondaries Forward t u v w e f g h = ap₂ list_order e f

module _ (c : Compression) (reordered : ℕ → ℕ) (secondary : SecondaryForm) (tertiary : TertiaryForm) (quaternary : QuaternaryForm)
    (hs ks : List HandledElement) (t u : List ℕ) where
  abbrev form_at : Strength → KeyForm
  form_at s = record {
    secondary = secondary_form s secondary;
    cases = None;
    tertiary = tertiary_form s tertiary;
    quaternary = quaternary_form s quaternary;
    identical = is_identical s;
  }

  abbrev left_at : Strength → LevelLists
  left_at s = level_lists reordered (form_at s) hs t

  abbrev right_at : Strength → LevelLists
  right_at s = level_lists reordered (form_at s) ks u

  abbrev order_at : Strength → Ordering
  order_at s = levels_order c (form_at s) (left_at s) (right_at s)

  -- the orders of the levels, each where it counts
  abbrev first : Ordering
  first = primaries_order c (left_at Identical) (right_at Identical)

  abbrev second : Ordering
  second = secondaries_order (Some secondary) (left_at Identical) (right_at Identical)

  abbrev third : Ordering
  third = tertiaries_order (Some tertiary) (left_at Identical) (right_at Identical)

  abbrev fourth : Ordering
  fourth = quaternaries_order (Some quaternary) (left_at Identical) (right_at Identical)

  abbrev fifth : Ordering
  fifth = characters_order true (left_at Identical) (right_at Identical)

  after_secondary : (x : Ordering) → ordering_then first (ordering_then second x) ≡ ordering_then (order_at Secondary) x
  after_secondary x =
      two first second x ∙ ap (λ o. ordering_then (ordering_then first (ordering_then o Equal)) x)
      (sym (same_secondaries secondary (left_at Secondary) (right_at Secondary) (left_at Identical) (right_at Identical) refl refl refl refl))

  raised : (s r : Strength) → strength_rank s ≤ strength_rank r → GoesOn (order_at s) (order_at r)
  raised Primary Primary l = (Equal, sym (then_equal (order_at Primary)))
  raised Primary Secondary l = (_, one first _)
  raised Primary Tertiary l = (_, one first _)
  raised Primary Quaternary l = (_, one first _)
  raised Primary Identical l = (_, one first _)
  raised Secondary Primary l = absurd (omega arith)
  raised Secondary Secondary l = (Equal, sym (then_equal (order_at Secondary)))
  raised Secondary Tertiary l = (ordering_then third Equal, after_secondary (ordering_then third Equal))
  raised Secondary Quaternary l =
      (ordering_then third (ordering_then fourth Equal), after_secondary (ordering_then third (ordering_then fourth Equal)))
  raised Secondary Identical l = (
    ordering_then third (ordering_then fourth (ordering_then fifth Equal)),
    after_secondary (ordering_then third (ordering_then fourth (ordering_then fifth Equal))),
  )
  raised Tertiary Primary l = absurd (omega arith)
  raised Tertiary Secondary l = absurd (omega arith)
  raised Tertiary Tertiary l = (Equal, sym (then_equal (order_at Tertiary)))
  raised Tertiary Quaternary l = (_, three first second third _)
  raised Tertiary Identical l = (_, three first second third _)
  raised Quaternary Primary l = absurd (omega arith)
  raised Quaternary Secondary l = absurd (omega arith)
  raised Quaternary Tertiary l = absurd (omega arith)
  raised Quaternary Quaternary l = (Equal, sym (then_equal (order_at Quaternary)))
  raised Quaternary Identical l = (_, four first second third fourth _)
  raised Identical Primary l = absurd (omega arith)
  raised Identical Secondary l = absurd (omega arith)
  raised Identical Tertiary l = absurd (omega arith)
  raised Identical Quaternary l = absurd (omega arith)
  raised Identical Identical l = (Equal, sym (then_equal (order_at Identical)))

  stays_raised : (s r : Strength) → strength_rank s ≤ strength_rank r → order_at s ≢ Equal → order_at r ≡ order_at s
  stays_raised s r l n = let h = raised s r l in h.1 ∙ stays (order_at s) h.0 n

-- ---- texts

module _ (collation : Collation) (t u : List ℕ) where
  open collation use {tables as all, settings}

  -- the order at a strength, with a case level or without
  abbrev at_form : Strength → Bool → Ordering
  at_form s level =
      let f : KeyForm = record {
        secondary = secondary_form s (direction (is_backward all.bits));
        cases = case_form level settings.case_first;
        tertiary = tertiary_form s (cased_form level settings.case_first);
        quaternary = quaternary_form s (handling_form settings.alternate_handling);
        identical = is_identical s;
      } in
      levels_order (compression_of all) f (level_lists (reorder all) f (handled_by collation (nfd t)) (nfd t))
      (level_lists (reorder all) f (handled_by collation (nfd u)) (nfd u))

  at_strength : (s : Strength) → settings.case_level ≡ false → text_order (with_strength collation s) t u ≡ at_form s false
  unfolding text_order lists_by
  at_strength s off = ap (at_form s) off

  pub strength_keeps : (s r : Strength) → settings.case_level ≡ false → strength_rank s ≤ strength_rank r
      → text_order (with_strength collation s) t u ≢ Equal
      → text_order (with_strength collation r) t u ≡ text_order (with_strength collation s) t u
  strength_keeps s r off l n =
      at_strength r off
      ∙ (stays_raised (compression_of all) (reorder all) (direction (is_backward all.bits)) (cased_form false settings.case_first)
      (handling_form settings.alternate_handling) (handled_by collation (nfd t)) (handled_by collation (nfd u)) (nfd t) (nfd u) s r l
      (λ e. n (at_strength s off ∙ e))
      ∙ sym (at_strength s off))
