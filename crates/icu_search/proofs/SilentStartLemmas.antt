-- A match that begins with a silent text holds one that begins behind it.
use Rattle.std.proofs.Common.{◌≡◌, ℕ, zero, suc, ◌+◌, ◌-◌, ◌<◌, ◌≤◌, true, ◌||◌, ◌==◌, List, [], ◌∷◌, ◌++◌, length, take, drop, false, refl, sym, ap, ap₂, ◌∙◌, arith, inl, inr, append-nil, append_assoc, length-append, None, subst}
use Rattle.std.specs.Prelude.{slice_range}
use Rattle.std.specs.Ordering.{is_eq}
use Rattle.std.proofs.lemmas.Bool.{and_parts, and_from, cases_lt, or_cases, eqb-true, le-leb, true≢false}
use Rattle.std.proofs.lemmas.List.{drop-drop, drop_at, take_at, take-append-drop, take-append-le, take_all, length-drop, length-take-le}
use Rattle.std.proofs.Math.Seq.{take-add}
use Rattle.unicode_normalization.specs.Forms.{nfd}
use Rattle.icu_table_entries.specs.Elements.{Element}
use Rattle.icu_element_reading.specs.TextElements.{Reading, elements_of}
use Rattle.icu_element_reading.proofs.StepLemmas.{elements_after_nil}
use Rattle.icu_element_reading.proofs.boundaries.CutLemmas.{boundary_cut}
use Rattle.icu_element_reading.proofs.boundaries.NfdLemmas.{nfd-nil}
use Rattle.icu_table_provider.specs.CollatorTables.{reorder}
use Rattle.icu_order_texts.specs.weighting.Collations.{Collation}
use Rattle.icu_order_texts.specs.weighting.Forms.{compression_of, form_by, last_variable_by}
use Rattle.icu_order_texts.specs.weighting.Handled.{stayed_elements}
use Rattle.icu_order_texts.specs.TextOrder.{reading_by, handled_elements, handled_by, lists_by, text_order}
use Rattle.icu_search_places.specs.SearchPlaces.{is_place_before, is_place}
use Rattle.icu_search_places.specs.LeastMatches.{EndsLaterMatch, TellsLeastStop}
use Rattle.icu_search_places.specs.Searches.{Search, is_match}
use Rattle.icu_search.specs.inner.SilentStarts.{begins_with_primary, gives_none, IsSilentBefore, EndsAtTertiaries}
use Rattle.icu_search.specs.inner.SilentTexts.{StartsSilently}
use Rattle.icu_search.specs.inner.SearchCuts.{CutsAt}
use Rattle.icu_search.specs.inner.EqualParts.{equals_pattern}
use Rattle.icu_search_places.proofs.SearchPartLemmas.{read_as_in_whole}
use Rattle.icu_search_places.proofs.SearchPieceLemmas.{place_before, place_behind}
use Rattle.icu_search.proofs.LongerPartLemmas.{inner_place}
use Rattle.icu_search.proofs.PartWalks.{empty_matches_not}
use Rattle.icu_search.proofs.SilentElementLemmas.{Leaves, left_behind, none_leave, none_within, nothing_stays, zeros_leave, same_lists, same_lists_last, same_below_order}

begins_alike : (front rest : List Element) → begins_with_primary (front ++ rest) ≡ true → begins_with_primary front ≡ true
begins_alike [] rest h = refl
begins_alike (x ∷ front) rest h = h

module _ (c : Collation) (ends : EndsAtTertiaries (form_by c)) where
  abbrev reading : Reading
  reading = reading_by c

  abbrev own : List ℕ → List Element
  own t = elements_of reading (nfd t)

  nothing_gives : own [] ≡ []
  nothing_gives = ap (elements_of reading) nfd-nil ∙ elements_after_nil reading []

  -- a text that gives nothing is compared as the empty one
  none_order : (u pattern : List ℕ) → gives_none (last_variable_by c) false (own u) ≡ true → text_order c u pattern ≡ text_order c [] pattern
  unfolding text_order lists_by
  none_order u pattern none =
      let handling = c.settings.alternate_handling in
      let last = last_variable_by c in
      let hs = handled_by c (nfd u) in
      let ks = handled_by c (nfd []) in
      let r = none_leave handling last (own u) [] refl false none in
      let empty : stayed_elements ks ≡ [] = ap (λ es. stayed_elements (handled_elements c false es)) nothing_gives ∙ nothing_stays handling last in
      let is : stayed_elements hs ≡ stayed_elements ks ++ r.zeros = left_behind handling last false (own u) r ∙ sym (ap (λ (l : List Element). l ++ r.zeros) empty) in
      same_below_order (compression_of c.tables) (form_by c) (lists_by c (nfd u)) (lists_by c (nfd [])) (lists_by c (nfd pattern)) ends
      (same_lists_last (reorder c.tables) (form_by c) hs ks (nfd u) (nfd []) r.zeros r.all is)

  module _ (front : List ℕ) (y : ℕ) (tail : List ℕ) (h : IsSilentBefore c front y tail) where
    -- the text behind it, up to some end
    abbrev behind : ℕ → List ℕ
    behind n = take n (y ∷ tail)

    -- its elements come first
    come_first : (n : ℕ) → own (front ++ behind n) ≡ own front ++ own (behind n)
    come_first zero = ap own (append-nil front) ∙ sym (append-nil (own front)) ∙ ap (λ (es : List Element). own front ++ es) (sym nothing_gives)
    come_first (suc n) = boundary_cut reading y h.pieces.first h.pieces.more (take n tail) h.pieces.decomposes h.pieces.boundary [] front

    -- up to a place they begin as those of the whole
    begins : (n : ℕ) → is_place reading (y ∷ tail) n ≡ true → begins_with_primary (own (y ∷ tail)) ≡ true → begins_with_primary (own (behind n)) ≡ true
    begins n place leading =
        let before = is_place_before reading (y ∷ tail) (drop n (y ∷ tail)) in
        let parts = take-append-drop n (y ∷ tail) in
        elim (or_cases (n == 0 || n == length (y ∷ tail)) before place) as (λ _. begins_with_primary (own (behind n)) ≡ true) [
          | inl at_ends ↦
              elim (or_cases (n == 0) (n == length (y ∷ tail)) at_ends) as (λ _. begins_with_primary (own (behind n)) ≡ true) [
                | inl none ↦ ap (λ k. begins_with_primary (own (behind k))) (eqb-true n 0 none) ∙ ap begins_with_primary nothing_gives
                | inr all ↦
                    ap (λ (t : List ℕ). begins_with_primary (own t)) (take_all n (y ∷ tail) (let same = eqb-true n (length (y ∷ tail)) all in omega (arith, same))) ∙ leading
              ]
          | inr within ↦
              begins_alike (own (behind n)) _
              (ap begins_with_primary (sym (read_as_in_whole reading (behind n) (drop n (y ∷ tail)) (ap (λ (t : List ℕ). is_place_before reading t (drop n (y ∷ tail))) parts ∙ within)))
              ∙ ap (λ (t : List ℕ). begins_with_primary (own t)) parts ∙ leading)
        ]

    leave : (n : ℕ) → is_place reading (y ∷ tail) n ≡ true → Leaves c.settings.alternate_handling (last_variable_by c) false (own front) (own (behind n))
    leave n place =
        let es = own (behind n) in
        elim h.either as (λ _. Leaves c.settings.alternate_handling (last_variable_by c) false (own front) es) [
          | inl zeros ↦ zeros_leave c.settings.alternate_handling (last_variable_by c) (own front) es zeros
          | inr leading ↦ none_leave c.settings.alternate_handling (last_variable_by c) (own front) es (begins n place leading) false h.silent
        ]

    -- so with it and without it a text is compared alike
    pub same_order : (n : ℕ) (pattern : List ℕ) → is_place reading (y ∷ tail) n ≡ true → text_order c (front ++ behind n) pattern ≡ text_order c (behind n) pattern
    unfolding text_order lists_by
    same_order n pattern place =
        let u = behind n in
        let r = leave n place in
        let hs = handled_by c (nfd (front ++ u)) in
        let ks = handled_by c (nfd u) in
        let is : stayed_elements hs ≡ r.zeros ++ stayed_elements ks = ap (λ es. stayed_elements (handled_elements c false es)) (come_first n) ∙ r.is in
        same_below_order (compression_of c.tables) (form_by c) (lists_by c (nfd (front ++ u))) (lists_by c (nfd u)) (lists_by c (nfd pattern)) ends
        (same_lists (reorder c.tables) (form_by c) hs ks (nfd (front ++ u)) (nfd u) r.zeros r.all is)

    -- a part of it, up to a place, gives nothing either
    none_to : (i : ℕ) → 0 < i → i < length front → is_place reading front i ≡ true → gives_none (last_variable_by c) false (own (take i front)) ≡ true
    none_to i some inside place =
        let part = take i front in
        let rest = drop i front in
        let parts = take-append-drop i front in
        let here = ap (λ (t : List ℕ). is_place_before reading t rest) parts ∙ inner_place reading front i some inside place in
        none_within (last_variable_by c) (own part) _ false
        (ap (gives_none (last_variable_by c) false) (sym (read_as_in_whole reading part rest here) ∙ ap own parts) ∙ h.silent)

module _ (s : Search) (text : List ℕ) (start : ℕ) (front : List ℕ) (y : ℕ) (tail : List ℕ) (left : drop start text ≡ front ++ y ∷ tail) (h : IsSilentBefore s.collation front y tail)
    (ends : EndsAtTertiaries (form_by s.collation)) where
  abbrev head : List ℕ
  head = take start text

  abbrev by : Reading
  by = reading_by s.collation

  abbrev n : ℕ
  n = length front

  abbrev cut : ℕ
  cut = start + n

  whole : text ≡ (head ++ front) ++ y ∷ tail
  whole = sym (take-append-drop start text) ∙ ap (λ (l : List ℕ). head ++ l) left ∙ sym (append_assoc head front (y ∷ tail))

  size : length (head ++ front) ≡ cut
  size =
      let rest : length text - start ≡ n + suc (length tail) = sym (length-drop start text) ∙ ap length left ∙ length-append front (y ∷ tail) in
      omega (arith, length-append head front, length-take-le start text (omega (arith, rest)))

  -- a place is there
  next_place : is_place by text cut ≡ true
  next_place =
      ap₂ (is_place by) whole (let at : cut ≡ length (head ++ front) + 0 = omega (arith, size) in at)
      ∙ place_behind by y h.pieces tail (head ++ front) 0

  rest_next : drop cut text ≡ y ∷ tail
  rest_next = sym (drop-drop n start text) ∙ ap (drop n) left ∙ drop_at front (y ∷ tail) n refl

  -- places of what follows it are those of what follows the next
  same_places : (k : ℕ) → is_place by (drop start text) (n + k) ≡ is_place by (drop cut text) k
  same_places k =
      ap (λ (t : List ℕ). is_place by t (n + k)) left
      ∙ place_behind by y h.pieces tail front k
      ∙ ap (λ (t : List ℕ). is_place by t k) (sym rest_next)

  longer_match : s.allowed cut ≡ true → (stop : ℕ) → cut ≤ stop → is_match s text start stop ≡ true → is_match s text cut stop ≡ true
  longer_match allowed stop longer is =
      let k = stop - cut in
      let long : stop - start ≡ n + k = omega (arith, longer) in
      let p = and_parts _ _ is in
      let q = and_parts _ _ p.0 in
      let r = and_parts _ _ q.0 in
      let t = and_parts _ _ r.0 in
      let a = and_parts _ _ t.0 in
      let place : is_place by (drop cut text) k ≡ true = sym (same_places k) ∙ sym (ap (is_place by (drop start text)) long) ∙ q.1 in
      let part : slice_range text start stop ≡ front ++ take k (y ∷ tail) =
      ap₂ take long left
      ∙ take-add n k (front ++ y ∷ tail)
      ∙ ap (λ (l : List ℕ). l ++ take k (drop n (front ++ y ∷ tail))) (take_at front (y ∷ tail) n refl)
      ∙ ap (λ (l : List ℕ). front ++ take k l) (drop_at front (y ∷ tail) n refl) in
      let next : slice_range text cut stop ≡ take k (y ∷ tail) = ap (take k) rest_next in
      let same : text_order s.collation (slice_range text start stop) s.pattern ≡ text_order s.collation (slice_range text cut stop) s.pattern =
      ap (λ (u : List ℕ). text_order s.collation u s.pattern) part
      ∙ same_order s.collation ends front y tail h k s.pattern (ap (λ (t : List ℕ). is_place by t k) (sym rest_next) ∙ place)
      ∙ ap (λ (u : List ℕ). text_order s.collation u s.pattern) (sym next) in
      and_from _ _ (and_from _ _ (and_from _ _ (and_from _ _ (and_from _ _ allowed a.1) (le-leb cut stop longer)) next_place) place) (ap is_eq (sym same) ∙ p.1)

  -- no match ends within it, where the empty text isn't equal to the pattern
  inner_not : equals_pattern s [] ≡ false → (stop : ℕ) → start < stop → stop < cut → is_match s text start stop ≡ true → ⊥
  inner_not not_empty stop after before is =
      let i = stop - start in
      let inside : i < n = omega (arith, before, after) in
      let fits : i ≤ n = omega (arith, inside) in
      let some : 0 < i = omega (arith, after) in
      let p = and_parts _ _ is in
      let q = and_parts _ _ p.0 in
      let part : slice_range text start stop ≡ take i front = ap (take i) left ∙ take-append-le i front (y ∷ tail) fits in
      let place : is_place by front i ≡ true =
      sym (place_before by y h.pieces tail front i fits) ∙ ap (λ (t : List ℕ). is_place by t i) (sym left) ∙ q.1 in
      let none = none_to s.collation ends front y tail h i some inside place in
      true≢false (sym p.1 ∙ ap (equals_pattern s) part ∙ ap is_eq (none_order s.collation ends (take i front) s.pattern none) ∙ not_empty)

  pub silent_start : equals_pattern s [] ≡ false → s.allowed cut ≡ true → 0 < n → (stop : ℕ) → start < stop → is_match s text start stop ≡ true → EndsLaterMatch (is_match s text) start stop
  silent_start not_empty allowed some stop after is =
      elim (cases_lt stop cut) as (λ _. EndsLaterMatch (is_match s text) start stop) [
        | inl before ↦ absurd (inner_not not_empty stop after before is)
        | inr longer ↦ record { begin = cut; later = omega (arith, some); ordered = longer; is_match = longer_match allowed stop longer is }
      ]

-- at a cut of a text
pub silent_at : (s : Search) (text : List ℕ) (start cut : ℕ) → start < cut → CutsAt (reading_by s.collation) text cut → s.allowed cut ≡ true → EndsAtTertiaries (form_by s.collation)
    → equals_pattern s [] ≡ false → (first rest : List ℕ) → first ≡ take (cut - start) (drop start text) → rest ≡ drop (cut - start) (drop start text) → StartsSilently s.collation first rest
    → (stop : ℕ) → start < stop → is_match s text start stop ≡ true → EndsLaterMatch (is_match s text) start stop
silent_at s text start cut before at allowed ends not_empty first rest first_is rest_is h stop longer is =
    let n = cut - start in
    let back : start + n ≡ cut = omega (arith, before) in
    let others : rest ≡ at.char ∷ at.tail =
    rest_is ∙ drop-drop n start text ∙ ap (λ k. drop k text) back ∙ ap (drop cut) at.text_is ∙ drop_at at.front (at.char ∷ at.tail) cut at.offset_is in
    let left : drop start text ≡ first ++ at.char ∷ at.tail =
    sym (take-append-drop n (drop start text)) ∙ ap (λ (l : List ℕ). l ++ drop n (drop start text)) (sym first_is) ∙ ap (λ (l : List ℕ). first ++ l) (sym rest_is ∙ others) in
    let long : length text ≡ cut + suc (length at.tail) = ap length at.text_is ∙ length-append at.front (at.char ∷ at.tail) ∙ ap (λ k. k + suc (length at.tail)) at.offset_is in
    let size : length first ≡ n = ap length first_is ∙ length-take-le n (drop start text) (omega (arith, length-drop start text, long, before)) in
    let there : start + length first ≡ cut = omega (arith, size, back) in
    let own : List ℕ → List Element = λ t. elements_of (reading_by s.collation) (nfd t) in
    let silent : IsSilentBefore s.collation first at.char at.tail = record {
      pieces = at.begins;
      silent = h.silent;
      either = elim h.either [
        | inl zeros ↦ inl zeros
        | inr leading ↦ inr (subst (λ t. begins_with_primary (own t) ≡ true) others leading)
      ];
    } in
    silent_start s text start first at.char at.tail left silent ends not_empty (ap s.allowed there ∙ allowed) (omega (arith, size, before)) stop longer is

-- so no least match begins there
pub told_silent : (s : Search) (text : List ℕ) (start last : ℕ) → equals_pattern s [] ≡ false → ((stop : ℕ) → start < stop → is_match s text start stop ≡ true → EndsLaterMatch (is_match s text) start stop)
    → TellsLeastStop (is_match s text) start last None
told_silent s text start last not_empty silent = λ t from to match.
    elim (cases_lt start t) as (λ _. EndsLaterMatch (is_match s text) start t) [
      | inl after ↦ silent t after match
      | inr at ↦
          let same : t ≡ start = omega (arith, from, at) in
          absurd (true≢false (sym match ∙ ap (is_match s text start) same ∙ empty_matches_not s text start not_empty))
    ]
