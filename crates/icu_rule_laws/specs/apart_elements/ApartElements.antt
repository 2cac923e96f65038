-- Elements that are one apart at a level, and what settings make of it (UTS #10, "Compare Sort Keys" and "Variable
-- Weighting"; UTS #35 part 5, "Setting Options").
use Rattle.std.specs.Prelude.{ℕ, ◌≡◌, ◌≢◌, ◌<◌, ◌+◌, nat_lt, true, false, List, [], ◌∷◌, ◌++◌, if◌then◌else◌}
use Rattle.std.specs.declared.cmp.Ordering.{Ordering}
use Rattle.std.specs.declared.cmp.Ordering.TheVariants.{Less, Equal}
use Rattle.unicode_normalization.specs.Forms.{nfd}
use Rattle.icu_options.specs.Metadata.{is_backward}
use Rattle.icu_options.specs.declared.settings.Strength.{Strength}
use Rattle.icu_table_entries.specs.Elements.{Element}
use Rattle.icu_table_entries.specs.ElementConditions.{separator_primary}
use Rattle.icu_table_provider.specs.CollatorTables.{reorder}
use Rattle.icu_element_reading.specs.TextElements.{elements_of}
use Rattle.icu_order_texts.specs.weighting.Collations.{Collation}
use Rattle.icu_order_texts.specs.weighting.Handled.{stayed_elements}
use Rattle.icu_order_texts.specs.TextOrder.{handled_elements, reading_by}
use Rattle.icu_order_texts.specs.text_laws.OrderLaws.{strength_rank}
use Rattle.icu_rule_laws.specs.apart_elements.UpperWeights.{weight_on, upper_weights, upper_lists}

-- Elements are one apart at a level: before one element the levels up to this one compare the same weights. That
-- element is the lesser one at the level, and the same before it. Of what follows, there are the same counts before the
-- level.
pub record AreOneApart (n : ℕ) (xs ys : List Element) : Type 0 where
  pub front : List Element
  pub e : Element
  pub rest : List Element
  pub other_front : List Element
  pub other : Element
  pub other_rest : List Element
  pub left : xs ≡ front ++ e ∷ rest
  pub right : ys ≡ other_front ++ other ∷ other_rest
  pub fronts : upper_lists (n + 1) front ≡ upper_lists (n + 1) other_front
  pub above : upper_weights n e ≡ upper_weights n other
  pub counts : weight_on n e ≢ 0
  pub less : weight_on n e < weight_on n other
  pub rests : upper_lists n rest ≡ upper_lists n other_rest

-- the elements of a text, as a collation reads it
abbrev pub elements_by : Collation → List ℕ → List Element
elements_by c t = elements_of (reading_by c) (nfd t)

-- the elements that variable weighting leaves
abbrev pub kept_elements : Collation → List Element → List Element
kept_elements c es = stayed_elements (handled_elements c false es)

-- an element stays after others: it isn't variable, nor without a primary after a variable one
abbrev pub StaysAfter : Collation → List Element → Element → Type 0
StaysAfter c front x = kept_elements c (front ++ x ∷ []) ≡ kept_elements c front ++ x ∷ []

-- The settings let the element decide: it stays on both sides; script reordering keeps the order of its primaries; and
-- backward, it isn't U+FFFE's, and what follows has the same secondaries.
pub record SettingsDecide (c : Collation) (n : ℕ) {xs ys : List Element} (a : AreOneApart n xs ys) : Type 0 where
  pub stays : StaysAfter c a.front a.e
  pub other_stays : StaysAfter c a.other_front a.other
  pub ordered : n ≡ 1 → reorder c.tables a.e.primary < reorder c.tables a.other.primary
  pub no_separator : n ≡ 2 → is_backward c.tables.bits ≡ true → a.e.primary ≢ separator_primary
  pub ends : n ≡ 2 → is_backward c.tables.bits ≡ true → upper_lists 3 a.rest ≡ upper_lists 3 a.other_rest

-- what a difference at a level is by a strength
abbrev pub said_at : Strength → ℕ → Ordering
said_at s n = if nat_lt (strength_rank s + 1) n then Equal else Less
