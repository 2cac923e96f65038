-- A part and the same part with a silent character more are compared alike.
use Rattle.std.proofs.Common.{◌≡◌, ℕ, ◌+◌, ◌≤◌, true, false, ◌&&◌, List, [], ◌∷◌, ◌++◌, get_or, refl, sym, ap, ◌∙◌, subst, arith, inl, inr}
use Rattle.std.specs.Prelude.{slice_range}
use Rattle.std.specs.Ordering.{is_eq}
use Rattle.std.proofs.lemmas.Bool.{and_from, cases_Bool, true≢false}
use Rattle.std.proofs.lemmas.List.{get_or_at}
use Rattle.std.proofs.Math.Bool.{and-false}
use Rattle.unicode_normalization.specs.Forms.{nfd}
use Rattle.icu_table_entries.specs.Elements.{Element}
use Rattle.icu_element_reading.specs.TextElements.{Reading, elements_of}
use Rattle.icu_element_reading.proofs.boundaries.CutLemmas.{boundary_cut}
use Rattle.icu_table_provider.specs.CollatorTables.{reorder}
use Rattle.icu_order_texts.specs.weighting.Collations.{Collation}
use Rattle.icu_order_texts.specs.weighting.Forms.{compression_of, form_by, last_variable_by}
use Rattle.icu_order_texts.specs.weighting.Handled.{handled, stayed_elements}
use Rattle.icu_order_texts.specs.TextOrder.{reading_by, handled_elements, handled_by, lists_by, text_order}
use Rattle.icu_order_texts.proofs.AppendLemmas.{ends_after, handled-append, stayed_elements-append}
use Rattle.icu_search_places.specs.SearchPlaces.{is_place}
use Rattle.icu_search_places.specs.Searches.{Search, is_match}
use Rattle.icu_search.specs.inner.AsciiMarks.{GivesNothing}
use Rattle.icu_search.specs.inner.CountedChars.{AddsNothing}
use Rattle.icu_search.specs.inner.EqualParts.{ends_match, equals_pattern}
use Rattle.icu_search.proofs.CountedWalks.{first, longer, part}
use Rattle.icu_search.proofs.PartWalks.{matches_there}
use Rattle.icu_search.proofs.SilentElementLemmas.{left_behind, none_leave, silent_gives_none, same_below_order, same_lists_last}
use Rattle.icu_search.proofs.TextCutLemmas.{places_after}

module _ (s : Search) (text : List ℕ) (start at : ℕ) (a : AddsNothing s text start at) where
  abbrev c : Collation
  c = s.collation

  abbrev by : Reading
  by = reading_by c

  abbrev ordered : start ≤ at
  ordered = omega (arith, a.longer)

  abbrev front : List ℕ
  front = first c text start at ordered a.cut

  abbrev own : List ℕ → List Element
  own t = elements_of by (nfd t)

  abbrev x : ℕ
  x = a.cut.char

  char_is : get_or text at 0 ≡ x
  char_is = ap (λ (l : List ℕ). get_or l at 0) a.cut.text_is ∙ get_or_at a.cut.front x a.cut.tail 0 at a.cut.offset_is

  silent_char : GivesNothing c x
  silent_char = subst (GivesNothing c) char_is a.silent

  same_order : text_order c (front ++ x ∷ []) s.pattern ≡ text_order c front s.pattern
  unfolding text_order lists_by
  same_order =
      let handling = c.settings.alternate_handling in
      let last = last_variable_by c in
      let cut = a.cut.begins in
      let es = own front in
      let fs = own (x ∷ []) in
      let after = ends_after last false es in
      let whole : own (front ++ x ∷ []) ≡ es ++ fs = boundary_cut by x cut.first cut.more [] cut.decomposes cut.boundary [] front in
      let hs = handled_by c (nfd (front ++ x ∷ [])) in
      let ks = handled_by c (nfd front) in
      let r = none_leave handling last fs [] refl after (silent_gives_none last fs silent_char.silent after) in
      let is : stayed_elements hs ≡ stayed_elements ks ++ r.zeros =
      ap (λ es. stayed_elements (handled_elements c false es)) whole
      ∙ ap stayed_elements (handled-append handling last false es fs)
      ∙ stayed_elements-append ks (handled handling last after fs)
      ∙ ap (λ (l : List Element). stayed_elements ks ++ l) (left_behind handling last after fs r) in
      same_below_order (compression_of c.tables) (form_by c) (lists_by c (nfd (front ++ x ∷ []))) (lists_by c (nfd front)) (lists_by c (nfd s.pattern)) silent_char.ends
      (same_lists_last (reorder c.tables) (form_by c) hs ks (nfd (front ++ x ∷ [])) (nfd front) r.zeros r.all is)

  same_part : equals_pattern s (slice_range text start (at + 1)) ≡ equals_pattern s (slice_range text start at)
  same_part =
      ap (equals_pattern s) (longer c text start at ordered a.cut)
      ∙ ap is_eq same_order
      ∙ sym (ap (equals_pattern s) (part c text start at ordered a.cut))

  -- where the part up to the character is no match, it is unlike the pattern
  unlike_before : s.allowed start ≡ true → is_place by text start ≡ true → is_match s text start at ≡ false → equals_pattern s (slice_range text start at) ≡ false
  unlike_before may place not =
      elim (cases_Bool (equals_pattern s (slice_range text start at))) [
        | inl equal ↦
            absurd
            (true≢false
            (sym
            (matches_there s text start at ordered may place (places_after by text start at ordered (inr a.cut))
            (and_from (s.allowed at) (equals_pattern s (slice_range text start at)) a.allowed equal))
            ∙ not))
        | inr unlike ↦ unlike
      ]

  -- and so is the part with it
  pub still_unlike : s.allowed start ≡ true → is_place by text start ≡ true → is_match s text start at ≡ false → ends_match s (slice_range text start (at + 1)) (at + 1) ≡ false
  still_unlike may place not = ap (λ b. s.allowed (at + 1) && b) (same_part ∙ unlike_before may place not) ∙ and-false (s.allowed (at + 1))
