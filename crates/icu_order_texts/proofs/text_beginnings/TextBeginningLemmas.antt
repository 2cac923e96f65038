-- The primary level of texts.
use Rattle.std.proofs.Common.{◌≡◌, ◌⊎◌, ℕ, Bool, true, false, List, [], ◌∷◌, ◌++◌, map, refl, sym, ap, ap₂, ◌∙◌, subst, append-nil, inr, lit<}
use Rattle.std.proofs.lemmas.List.{map-append}
use Rattle.std.specs.Ordering.{is_gt, is_lt, ordering_then}
use Rattle.std.specs.declared.cmp.Ordering.{Ordering}
use Rattle.std.specs.declared.cmp.Ordering.TheVariants.{Less, Equal, Greater}
use Rattle.unicode_normalization.specs.Forms.{nfd}
use Rattle.icu_order_levels.specs.beginnings.KeyBeginnings.{least_above, begins, stands_between}
use Rattle.icu_order_levels.specs.beginnings.BeginningLaws.{PrimariesAreKept}
use Rattle.icu_order_levels.specs.beginnings.KeyBeginnings.{AreBytes}
use Rattle.icu_order_levels.proofs.beginnings.AboveLemmas.{beginnings_between}
use Rattle.icu_order_levels.proofs.beginnings.ListBeginningLemmas.{begins_front}
use Rattle.icu_order_levels.proofs.PrimaryOrder.{primaries_kept}
use Rattle.icu_element_reading.proofs.boundaries.CutLemmas.{boundary_cut}
use Rattle.icu_table_provider.specs.well_formed.WellFormedTables.{IsWellFormedTables}
use Rattle.icu_element_reading.specs.TextElementLaws.{IsText}
use Rattle.icu_element_reading.specs.TextElements.{elements_of}
use Rattle.icu_order_levels.specs.ListOrder.{list_order, IsUnder}
use Rattle.icu_order_levels.specs.Keys.{LevelPart, absent, opened, closed, later_parts, parts_bytes}
use Rattle.icu_order_levels.specs.Primaries.{Compression, primary_level}
use Rattle.icu_order_levels.proofs.Order.{tied_lists}
use Rattle.icu_order_levels.proofs.Orderings.{then_equal}
use Rattle.icu_table_provider.specs.CollatorTables.{reorder}
use Rattle.icu_order_texts.specs.weighting.Collations.{Collation}
use Rattle.icu_order_texts.specs.weighting.Forms.{compression_of, form_by, last_variable_by}
use Rattle.icu_order_texts.specs.weighting.Handled.{stayed_elements}
use Rattle.icu_order_texts.specs.weighting.Levels.{primary_of, weights}
use Rattle.icu_order_texts.specs.TextCuts.{IsRest, begins_with_primary}
use Rattle.icu_order_texts.specs.TextOrder.{handled_by, handled_elements, lists_by, reading_by, text_key, text_order}
use Rattle.icu_order_texts.specs.ReachableWeights.{reachable_weights}
use Rattle.icu_order_texts.proofs.AppendLemmas.{handled-begun_anew, stayed_elements-append, weights-append}
use Rattle.icu_order_texts.proofs.RestOrders.{no_elements}
use Rattle.icu_order_texts.proofs.TextOrders.{lists_well_formed, weights_well_formed}
use Rattle.icu_order_texts.specs.text_beginnings.TextBeginnings.{lower_bound, primary_collation, primary_order, primary_weights, text_begins, upper_bound}
use Rattle.icu_order_texts.specs.text_beginnings.TextBeginningLaws.{BeginTheSame}

-- ---- what comes first decides

first_decides : (o p : Ordering) → is_gt (ordering_then o p) ≡ false → is_gt o ≡ false
first_decides Less p h = refl
first_decides Equal p h = refl
first_decides Greater p h = h

module _ (collation : Collation) where
  open collation use {tables as all, settings}

  -- the primaries of a text before reordering
  abbrev before : List ℕ → List ℕ
  before t = weights primary_of primary_of (stayed_elements (handled_by collation (nfd t)))

  pub weights_are : (t : List ℕ) → primary_weights collation t ≡ map (reorder all) (before t)
  unfolding primary_weights lists_by
  weights_are t = refl

  pub order_is : (t u : List ℕ) → primary_order collation t u ≡ list_order (primary_weights collation t) (primary_weights collation u)
  unfolding text_order primary_weights lists_by
  order_is t u = then_equal (list_order (map (reorder all) (before t)) (map (reorder all) (before u)))

  pub order_kept : (t u : List ℕ) → is_gt (text_order collation t u) ≡ false → is_gt (list_order (primary_weights collation t) (primary_weights collation u)) ≡ false
  unfolding text_order primary_weights lists_by
  order_kept t u h = first_decides (list_order (map (reorder all) (before t)) (map (reorder all) (before u))) _ h

  -- ---- keys

  -- the levels behind the primary one begin below 02
  parts_low : (ps : List LevelPart) → IsUnder 2 (parts_bytes ps)
  parts_low [] = tt
  parts_low (absent ∷ ps) = parts_low ps
  parts_low (opened bs ∷ ps) = lit< tt
  parts_low (closed bs ∷ ps) = lit< tt

  abbrev later : List ℕ → List ℕ
  later t = parts_bytes (later_parts (form_by collation) (lists_by collation (nfd t)))

  key_is : (t : List ℕ) → text_key collation t ≡ primary_level (compression_of all) 0 (before t) ++ later t
  unfolding text_key lists_by
  key_is t = refl

  bound_is : (b : List ℕ) → lower_bound collation b ≡ primary_level (compression_of all) 0 (before b)
  unfolding text_key lists_by
  bound_is b = append-nil (primary_level (compression_of all) 0 (before b))

  module _ (well_formed : IsWellFormedTables all) (b t : List ℕ) (p : IsText b) (q : IsText t) where
    kept : PrimariesAreKept (compression_of all) (before b) (before t) (later t)
    unfolding lists_by
    kept =
        primaries_kept (compression_of all) all.special.numeric (reachable_weights all (form_by collation)).primary (weights_well_formed collation well_formed).primaries
        (before b) (before t) (later t) (lists_well_formed collation well_formed b p).primaries (lists_well_formed collation well_formed t q).primaries
        (parts_low (later_parts (form_by collation) (lists_by collation (nfd t))))

    pub key_begins : begins (lower_bound collation b) (text_key collation t) ≡ text_begins collation b t
    key_begins =
        ap₂ begins (bound_is b) (key_is t) ∙ (kept.begin ∙ sym (ap₂ begins (weights_are b) (weights_are t)))

    pub key_between : AreBytes (lower_bound collation b) → AreBytes (text_key collation t)
        → text_begins collation b t ≡ stands_between (lower_bound collation b) (upper_bound collation b) (text_key collation t)
    key_between f g = sym key_begins ∙ beginnings_between (lower_bound collation b) (text_key collation t) f g

    pub key_below : is_lt (list_order (text_key collation t) (lower_bound collation b)) ≡ is_lt (primary_order collation t b)
    key_below =
        ap is_lt (ap₂ list_order (key_is t) (bound_is b))
        ∙ (kept.order ∙ ap is_lt (sym (order_is t b ∙ ap₂ list_order (weights_are t) (weights_are b))))

  -- ---- beginnings

  pub begin_the_same : (t u : List ℕ) → primary_order collation t u ≡ Equal → BeginTheSame collation t u
  begin_the_same t u e =
      let same = tied_lists (primary_weights collation t) (primary_weights collation u) (sym (order_is t u) ∙ e) in
      record {
        begin = λ text. ap (λ ws. begins ws (primary_weights collation text)) same;
        begun = λ beginning. ap (begins (primary_weights collation beginning)) same;
      }

  -- the elements of a text that is followed by another
  followed : (front rest : List ℕ) → IsRest collation rest → (more : List ℕ) × (before (front ++ rest) ≡ before front ++ more)
  followed front [] h = ([], ap before (append-nil front) ∙ sym (append-nil (before front)))
  followed front (c ∷ cs) h =
      let reading = reading_by collation in
      let xs = elements_of reading (nfd front) in
      let ys = elements_of reading (nfd (c ∷ cs)) in
      let hs = handled_elements collation false xs in
      let ks = handled_elements collation false ys in (
        weights primary_of primary_of (stayed_elements ks),
        ap (λ es. weights primary_of primary_of (stayed_elements (handled_elements collation false es)))
            (boundary_cut reading c h.first h.more cs h.decomposes h.boundary [] front)
            ∙ (ap (λ es. weights primary_of primary_of (stayed_elements es)) (handled-begun_anew settings.alternate_handling (last_variable_by collation) xs ys h.handled)
            ∙ (ap (weights primary_of primary_of) (stayed_elements-append hs ks) ∙ weights-append primary_of primary_of (stayed_elements hs) (stayed_elements ks))),
      )

  front_begins : (xs ys : List ℕ) → begins xs (xs ++ ys) ≡ true
  front_begins xs ys = ap (λ zs. begins zs (xs ++ ys)) (sym (append-nil xs)) ∙ begins_front xs [] ys

  pub begins_with_front : (b front rest : List ℕ) → IsRest collation rest → primary_order collation front b ≡ Equal → text_begins collation b (front ++ rest) ≡ true
  begins_with_front b front rest h e =
      let more = followed front rest h in
      sym ((begin_the_same front b e).begin (front ++ rest))
      ∙ (ap₂ begins (weights_are front) (weights_are (front ++ rest) ∙ (ap (map (reorder all)) more.1 ∙ map-append (reorder all) (before front) more.0))
      ∙ front_begins (map (reorder all) (before front)) (map (reorder all) more.0))
