-- The number of a heading, by the whole keys of names.
use Rattle.std.proofs.Common.{◌≡◌, ℕ, not, List, [], ◌∷◌, filter, length, map, sym, ap, ◌∙◌}
use Rattle.std.proofs.lemmas.List.{length-map}
use Rattle.std.specs.List.{AllByRecursion}
use Rattle.std.specs.Ordering.{is_le, is_lt}
use Rattle.icu_table_provider.specs.well_formed.WellFormedTables.{IsWellFormedTables}
use Rattle.icu_text_encodings.proofs.Utf8Lemmas.{utf8_scalars}
use Rattle.icu_text_encodings.specs.DecodedTexts.{utf8_text}
use Rattle.icu_index_keys.proofs.KeyedLemmas.{filter_along}
use Rattle.icu_index_keys.proofs.keyed_starts.StartBounds.{not_above}
use Rattle.icu_index_keys.specs.keyed_starts.Starts.{KeyedStart, starts_up_to}
use Rattle.icu_order_levels.specs.ListOrder.{list_order}
use Rattle.icu_order_texts.proofs.text_beginnings.TextBeginningLemmas.{key_below, order_is}
use Rattle.icu_order_texts.specs.text_beginnings.TextBeginnings.{primary_weights}
use Rattle.icu_order_texts.specs.Collations.{Collation}
use Rattle.icu_order_texts.specs.TextOrder.{text_key}
use Rattle.icu_index.proofs.headings.StartKeyLemmas.{unkeyed}
use Rattle.icu_index.specs.headings.HeadingLists.{NamedStart, heading_number, name_primary_order}
use Rattle.icu_index.specs.headings.inner.StartKeys.{AreStartKeys, bound_of}

module _ (c : Collation) (well_formed : IsWellFormedTables c.tables) (name : List ℕ) where
  abbrev key : List ℕ
  key = text_key c (utf8_text name)

  -- a start's key isn't above a name's key exactly if the start isn't Greater at the primary level
  by_key : (x : KeyedStart) → x.0 ≡ bound_of c x.1 → is_le (list_order x.0 key) ≡ is_le (name_primary_order c x.1 name)
  by_key x is =
      let weights = primary_weights c (utf8_text x.1) in
      let own = primary_weights c (utf8_text name) in
      not_above x.0 key
      ∙ (ap (λ k. not (is_lt (list_order key k))) is
      ∙ (ap not (key_below c well_formed (utf8_text x.1) (utf8_text name) (utf8_scalars x.1) (utf8_scalars name))
      ∙ (ap (λ o. not (is_lt o)) (order_is c (utf8_text name) (utf8_text x.1))
      ∙ (sym (not_above weights own) ∙ ap is_le (sym (order_is c (utf8_text x.1) (utf8_text name)))))))

  alike : (xs : List KeyedStart) → AreStartKeys (bound_of c) xs
      → AllByRecursion (λ x. is_le (list_order x.0 key) ≡ is_le (name_primary_order c (unkeyed x).0 name)) xs
  alike [] h = tt
  alike (x ∷ xs) h = (by_key x h.0, alike xs h.1)

  pub number_by_key : (xs : List KeyedStart) → AreStartKeys (bound_of c) xs → starts_up_to key xs ≡ heading_number c (map unkeyed xs) name
  number_by_key xs h =
      sym (length-map (filter (λ (x : KeyedStart). is_le (list_order x.0 key)) xs) unkeyed)
      ∙ ap length (filter_along unkeyed (λ (x : KeyedStart). is_le (list_order x.0 key)) (λ (x : NamedStart). is_le (name_primary_order c x.0 name)) xs (alike xs h))
