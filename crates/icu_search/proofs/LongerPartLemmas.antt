-- What a walk from a place of a text comes to.
use Rattle.std.proofs.Common.{◌≡◌, ℕ, suc, ◌+◌, ◌-◌, ◌<◌, ◌≤◌, true, false, ◌||◌, ◌==◌, List, [], ◌∷◌, ◌++◌, length, map, take, drop, get_or, refl, sym, ap, ◌∙◌, subst, arith, inl, inr, length-append}
use Rattle.std.specs.declared.cmp.Ordering.{Ordering}
use Rattle.std.specs.declared.cmp.Ordering.TheVariants.{Less, Equal, Greater}
use Rattle.std.specs.Ordering.{is_eq, ordering_then}
use Rattle.std.proofs.lemmas.Bool.{cases_Bool, cases_lt, ne_eqb}
use Rattle.std.proofs.lemmas.List.{take-append-drop, drop_more, drop_all, drop-drop, length-map, append-nil}
use Rattle.std.proofs.Math.Seq.{take-add}
use Rattle.icu_search_places.proofs.FoundLemmas.{eq_is}
use Rattle.unicode_normalization.specs.Forms.{nfd}
use Rattle.icu_order_levels.specs.Keys.{LevelLists, primaries_order}
use Rattle.icu_order_levels.proofs.Order.{tied_lists}
use Rattle.icu_order_levels.specs.CommonBeginnings.{HasFront}
use Rattle.icu_table_entries.specs.Elements.{Element}
use Rattle.icu_element_reading.specs.TextElements.{Reading, elements_after, elements_of}
use Rattle.icu_element_reading.specs.boundaries.LeftContexts.{context_left}
use Rattle.icu_order_texts.specs.weighting.Collations.{Collation}
use Rattle.icu_order_texts.specs.weighting.Forms.{compression_of}
use Rattle.icu_order_texts.specs.TextOrder.{reading_by, lists_by, text_order}
use Rattle.icu_search_places.specs.SearchPlaces.{is_place, is_place_before}
use Rattle.icu_search_places.proofs.SearchPartLemmas.{lists_begin, part_has_places, read_as_in_whole}

-- orders in turn are equal only if the first one is
pub first_tied : (o next : Ordering) → ordering_then o next ≡ Equal → o ≡ Equal
first_tied Less next h = h
first_tied Equal next h = refl
first_tied Greater next h = h

-- between the ends a place stands before a character
pub inner_place : (reading : Reading) (text : List ℕ) (k : ℕ) → 0 < k → k < length text → is_place reading text k ≡ true → is_place_before reading text (drop k text) ≡ true
inner_place reading text k after before here =
    let not_first : k ≡ 0 → ⊥ = λ e. omega (arith, e, after) in
    let not_last : k ≡ length text → ⊥ = λ e. omega (arith, e, before) in
    let inner = is_place_before reading text (drop k text) in
    sym (ap (λ b. b || k == length text || inner) (ne_eqb k 0 not_first) ∙ ap (λ b. false || b || inner) (ne_eqb k (length text) not_last)) ∙ here

-- A longer part is a shorter one, and more after a place of it.
record PartGrows (reading : Reading) (text : List ℕ) (i j : ℕ) : Type 0 where
  pub back : List ℕ
  pub part : take j text ≡ take i text ++ back
  pub place : is_place_before reading (take i text ++ back) back ≡ true

part_grows : (reading : Reading) (text : List ℕ) (i j : ℕ) → 0 < i → i < j → j ≤ length text → is_place reading text i ≡ true → is_place reading text j ≡ true → PartGrows reading text i j
part_grows reading text i j some rises within first last =
    let front = take i text in
    let n = j - (i + 1) in
    let d = get_or text i 0 in
    let ds = drop (i + 1) text in
    let mid = take n ds in
    let back = drop n ds in
    let inside : i < length text = omega (arith, rises, within) in
    let at : j ≡ i + suc n = omega (arith, rises) in
    let rest : drop i text ≡ d ∷ ds = drop_more text i 0 inside in
    let ds_is : d ∷ ds ≡ d ∷ mid ++ back = ap (λ (l : List ℕ). d ∷ l) (sym (take-append-drop n ds)) in
    let whole : text ≡ front ++ (d ∷ mid ++ back) = sym (take-append-drop i text) ∙ ap (λ (l : List ℕ). front ++ l) (rest ∙ ds_is) in
    let part : take j text ≡ front ++ d ∷ mid = ap (λ k. take k text) at ∙ take-add i (suc n) text ∙ ap (λ (l : List ℕ). front ++ take (suc n) l) rest in
    let behind : drop j text ≡ back = ap (λ k. drop k text) at ∙ sym (drop-drop (suc n) i text) ∙ ap (drop (suc n)) rest in
    let here : is_place_before reading text (drop i text) ≡ true = inner_place reading text i some inside first in
    let there : is_place_before reading (front ++ (d ∷ mid ++ back)) (d ∷ mid ++ back) ≡ true =
    ap (λ (t : List ℕ). is_place_before reading t (d ∷ mid ++ back)) (sym whole) ∙ ap (is_place_before reading text) (sym (rest ∙ ds_is)) ∙ here in
    let alone : is_place_before reading (front ++ d ∷ mid) (d ∷ mid) ≡ true =
    elim (cases_lt j (length text)) [
      | inl before ↦
          let later : is_place_before reading (front ++ (d ∷ mid ++ back)) back ≡ true =
          ap (λ (t : List ℕ). is_place_before reading t back) (sym whole) ∙ ap (is_place_before reading text) (sym behind) ∙ inner_place reading text j (omega (arith, some, rises)) before last in
          sym (part_has_places reading front d mid back later) ∙ there
      | inr past ↦
          let none : back ≡ [] = sym behind ∙ drop_all j text past in
          let all : d ∷ mid ++ back ≡ d ∷ mid = ap (λ (l : List ℕ). d ∷ mid ++ l) none ∙ append-nil (d ∷ mid) in
          subst (λ (l : List ℕ). is_place_before reading (front ++ l) l ≡ true) all there
    ] in
    record { back = d ∷ mid; part = part; place = alone }

-- the lists of a longer part begin with those of a shorter one, both up to places
pub lists_grow : (c : Collation) (text : List ℕ) (i j : ℕ) → 0 < i → i < j → j ≤ length text → is_place (reading_by c) text i ≡ true → is_place (reading_by c) text j ≡ true
    → (rest : LevelLists) × HasFront (lists_by c (nfd (take i text))) (lists_by c (nfd (take j text))) rest
lists_grow c text i j some rises within first last =
    let front = take i text in
    let g = part_grows (reading_by c) text i j some rises within first last in
    let grown = lists_begin c front g.back g.place in
    (grown.0, subst (λ (t : List ℕ). HasFront (lists_by c (nfd front)) (lists_by c (nfd t)) grown.0) (sym g.part) grown.1)

-- and so do its elements
pub elements_grow : (reading : Reading) (text : List ℕ) (i j : ℕ) → 0 < i → i < j → j ≤ length text → is_place reading text i ≡ true → is_place reading text j ≡ true
    → (more : List Element) × (elements_of reading (nfd (take j text)) ≡ elements_of reading (nfd (take i text)) ++ more)
elements_grow reading text i j some rises within first last =
    let front = take i text in
    let g = part_grows reading text i j some rises within first last in (
      elements_after reading (context_left reading [] (nfd front)) (nfd g.back),
      ap (λ (t : List ℕ). elements_of reading (nfd t)) g.part ∙ read_as_in_whole reading front g.back g.place,
    )

-- ---- parts with another number of primary weights than the pattern

-- equal texts have as many
as_many : (c : Collation) (text pattern : List ℕ) → is_eq (text_order c text pattern) ≡ true → length (lists_by c (nfd text)).primaries ≡ length (lists_by c (nfd pattern)).primaries
unfolding text_order
as_many c text pattern equal =
    let t = lists_by c (nfd text) in
    let p = lists_by c (nfd pattern) in
    let reorder = (compression_of c.tables).reorder in
    let tied : primaries_order (compression_of c.tables) t p ≡ Equal = first_tied (primaries_order (compression_of c.tables) t p) _ (eq_is _ equal) in
    let same : map reorder t.primaries ≡ map reorder p.primaries = tied_lists (map reorder t.primaries) (map reorder p.primaries) tied in
    sym (length-map t.primaries reorder) ∙ ap length same ∙ length-map p.primaries reorder

-- a part with another number isn't equal to the pattern
pub unlike_count : (c : Collation) (text pattern : List ℕ) → (length (lists_by c (nfd text)).primaries ≡ length (lists_by c (nfd pattern)).primaries → ⊥) → is_eq (text_order c text pattern) ≡ false
unlike_count c text pattern other =
    elim (cases_Bool (is_eq (text_order c text pattern))) [
      | inl equal ↦ absurd (other (as_many c text pattern equal))
      | inr not ↦ not
    ]

-- a part with fewer isn't equal to the pattern
pub too_few : (c : Collation) (text pattern : List ℕ) → length (lists_by c (nfd text)).primaries < length (lists_by c (nfd pattern)).primaries → is_eq (text_order c text pattern) ≡ false
too_few c text pattern few =
    elim (cases_Bool (is_eq (text_order c text pattern))) [
      | inl equal ↦ absurd (omega (arith, few, as_many c text pattern equal))
      | inr not ↦ not
    ]

-- where a part has more, no longer one is equal to the pattern
pub too_many : (c : Collation) (text pattern : List ℕ) (i j : ℕ) → 0 < i → i < j → j ≤ length text → is_place (reading_by c) text i ≡ true → is_place (reading_by c) text j ≡ true
    → length (lists_by c (nfd pattern)).primaries < length (lists_by c (nfd (take i text))).primaries
    → is_eq (text_order c (take j text) pattern) ≡ false
too_many c text pattern i j some rises within first last many =
    let grown = lists_grow c text i j some rises within first last in
    let longer : length (lists_by c (nfd pattern)).primaries < length (lists_by c (nfd (take j text))).primaries =
    omega (arith, many, ap length grown.1.primaries, length-append (lists_by c (nfd (take i text))).primaries grown.0.primaries) in
    elim (cases_Bool (is_eq (text_order c (take j text) pattern))) [
      | inl equal ↦ absurd (omega (arith, longer, as_many c (take j text) pattern equal))
      | inr not ↦ not
    ]
