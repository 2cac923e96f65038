-- Parts of a text with whose characters no match begins.
use Rattle.std.proofs.Common.{◌≡◌, ℕ, ◌+◌, ◌-◌, ◌<◌, ◌≤◌, Bool, true, false, ◌&&◌, List, [], ◌∷◌, ◌++◌, None, get_or, length, take, drop, refl, sym, ap, ◌∙◌, subst, arith, inl, inr, append-nil, length-append}
use Rattle.std.specs.Prelude.{slice_range}
use Rattle.std.specs.Option.{option_map}
use Rattle.std.proofs.lemmas.Bool.{cases_Bool, cases_lt, and_from, true≢false}
use Rattle.std.proofs.lemmas.List.{drop_all, drop_at, drop-drop, ext_get_or, get_or-drop, get_or-take, length-drop, length-take-le, take_all, take_at, take-append-drop, take-append-le}
use Rattle.std.proofs.Math.Bool.{and-false}
use Rattle.icu_search_places.proofs.FoundLemmas.{ends_in_place}
use Rattle.unicode_normalization.specs.Forms.{nfd}
use Rattle.icu_element_reading.specs.TextElements.{Reading}
use Rattle.icu_order_texts.specs.TextOrder.{lists_by, reading_by}
use Rattle.icu_search_places.specs.LeastMatches.{EndsLaterMatch, span, shortest_from, TellsLeastStop}
use Rattle.icu_search_places.specs.SearchPlaces.{is_place}
use Rattle.icu_search_places.specs.Searches.{Search, is_match}
use Rattle.icu_search_places.specs.declared.barren_part.BarrenPart.{BarrenPart}
use Rattle.icu_search_places.proofs.LeastLemmas.{ShortestOf, ShortestOf-shortest_from}
use Rattle.icu_search_places.proofs.SearchPieceLemmas.{place_before}
use Rattle.icu_search.specs.inner.BarrenParts.{IsBarren, IsBarrenWithin, GoesOnAtCut, NoneBegins, NoneFrom, Repeats}
use Rattle.icu_search.specs.inner.CountedChars.{CountsAlone}
use Rattle.icu_search.specs.inner.EqualParts.{equals_pattern}
use Rattle.icu_search.specs.inner.SearchCuts.{BeginsPieceAt, EndsPieceAt}
use Rattle.icu_search.proofs.CountedWalks.{CountedTo, left_counted, total_is, weight_count}
use Rattle.icu_search.proofs.LongerPartLemmas.{lists_grow, too_few, too_many, unlike_count}
use Rattle.icu_search.proofs.PartWalks.{empty_matches_not, matches_there, no_place, not_ended}
use Rattle.icu_search.proofs.ShortestLemmas.{none_found}
use Rattle.icu_search.proofs.TextCutLemmas.{first_place, places_from, places_to, taken_twice}

-- ---- texts that repeat themselves

pub repeats_none : (text : List ℕ) (start step reach : ℕ) → reach ≤ start + step → Repeats text start step reach
repeats_none text start step reach short = λ i from before. absurd (omega (arith, short, from, before))

pub repeats_more : (text : List ℕ) (start step at : ℕ) → Repeats text start step at → step ≤ at → get_or text at 0 ≡ get_or text (at - step) 0 → Repeats text start step (at + 1)
repeats_more text start step at so_far fits same = λ i from before.
    elim (cases_lt (i + step) at) as (λ _. get_or text (i + step) 0 ≡ get_or text i 0) [
      | inl inside ↦ so_far i from inside
      | inr last ↦
          let here : i + step ≡ at = omega (arith, before, last) in
          let back : at - step ≡ i = omega (arith, here) in
          ap (λ k. get_or text k 0) here ∙ same ∙ ap (λ k. get_or text k 0) back
    ]

same_part : (text : List ℕ) (start step reach n : ℕ) → Repeats text start step reach → (start + step) + n ≤ reach → (start + step) + n ≤ length text
    → take n (drop (start + step) text) ≡ take n (drop start text)
same_part text start step reach n repeats known within =
    let later = drop (start + step) text in
    let front = drop start text in
    let size : length (take n later) ≡ n = length-take-le n later (omega (arith, length-drop (start + step) text, within)) in
    let size_front : length (take n front) ≡ n = length-take-le n front (omega (arith, length-drop start text, within)) in
    ext_get_or 0 (take n later) (take n front) (size ∙ sym size_front) (λ i inside.
    let fits : i < n = omega (arith, inside, size) in
    let at : (start + step) + i ≡ (start + i) + step = omega arith in
    get_or-take n later i 0 fits ∙ get_or-drop (start + step) text i 0 ∙ ap (λ k. get_or text k 0) at
    ∙ repeats (start + i) (omega arith) (omega (arith, known, fits))
    ∙ sym (get_or-take n front i 0 fits ∙ get_or-drop start text i 0))

-- ---- where no match begins

-- no match begins where the shortest is none
pub none_of_shortest : (matches : ℕ → ℕ → Bool) (start n : ℕ) → start ≤ n → option_map (span start) None ≡ shortest_from matches start start (n - start) → (t : ℕ) → start ≤ t → t ≤ n → matches start t ≡ false
none_of_shortest matches start n ordered is t from to =
    let told = subst (ShortestOf matches start start n) (sym is) (ShortestOf-shortest_from matches start start (n - start) n (omega (arith, ordered))) in
    told t from to

-- nothing is least there then
pub told_barren : (s : Search) (text : List ℕ) (start last : ℕ) → last ≤ length text → equals_pattern s [] ≡ false → ((t : ℕ) → start < t → t ≤ length text → is_match s text start t ≡ false)
    → TellsLeastStop (is_match s text) start last None
told_barren s text start last within not_empty none = λ t from to match.
    elim (cases_lt start t) as (λ _. EndsLaterMatch (is_match s text) start t) [
      | inl after ↦ absurd (true≢false (sym match ∙ none t after (omega (arith, to, within))))
      | inr at ↦
          let same : t ≡ start = omega (arith, from, at) in
          absurd (true≢false (sym match ∙ ap (is_match s text start) same ∙ empty_matches_not s text start not_empty))
    ]

pub none_from_there : (s : Search) (text : List ℕ) (start : ℕ) → start ≤ length text → equals_pattern s [] ≡ false → ((t : ℕ) → start < t → t ≤ length text → is_match s text start t ≡ false)
    → option_map (span start) None ≡ shortest_from (is_match s text) start start (length text - start)
none_from_there s text start within not_empty none =
    sym (none_found (is_match s text) start (length text) within (λ t from to. elim (cases_lt start t) as (λ _. is_match s text start t ≡ false) [
      | inl after ↦ none t after to
      | inr at ↦
          let same : t ≡ start = omega (arith, from, at) in
          ap (is_match s text start) same ∙ empty_matches_not s text start not_empty
    ]))

module _ (s : Search) where
  abbrev reading : Reading
  reading = reading_by s.collation

  -- ---- the same characters again

  pub tail_piece : (text : List ℕ) (k : ℕ) → EndsPieceAt reading text k → GoesOnAtCut s (drop k text)
  tail_piece text k (inl end) = inl (drop_all k text (omega (arith, end)))
  tail_piece text k (inr at) = inr (at.char, at.tail, ap (drop k) at.text_is ∙ drop_at at.front (at.char ∷ at.tail) k at.offset_is, at.begins)

  none_there : (text front tail : List ℕ) (start : ℕ) → NoneBegins s front → GoesOnAtCut s tail → drop start text ≡ front ++ tail
      → (t : ℕ) → start < t → t ≤ length text → is_match s text start t ≡ false
  none_there text front tail start none piece is t after within =
      let k = t - start in
      elim (cases_Bool (is_place reading (drop start text) k)) [
        | inl place ↦
            let there : is_place reading (front ++ tail) k ≡ true = ap (λ (l : List ℕ). is_place reading l k) (sym is) ∙ place in
            let unlike = none tail piece k (omega (arith, after)) (omega (arith, within, ap length is, length-drop start text)) there in
            not_ended s text start t (ap (λ b. s.allowed t && b) (ap (equals_pattern s) (ap (take k) is) ∙ unlike) ∙ and-false (s.allowed t))
        | inr not ↦ no_place s text start t not
      ]

  -- it says so of its characters, or of each start from its own on
  pub part_within : (text : List ℕ) (part : BarrenPart) → IsBarren s text part → part.stop ≤ length text → IsBarrenWithin s text part
  part_within text part (inl b) within = b
  part_within text part (inr none) within = absurd (omega (arith, none.0, within))

  pub none_behind : (text : List ℕ) (part : BarrenPart) → IsBarren s text part → length text < part.stop → (start : ℕ) → part.start ≤ start
      → (t : ℕ) → start < t → t ≤ length text → is_match s text start t ≡ false
  none_behind text part (inl b) past start from t after to = absurd (omega (arith, b.within, past))
  none_behind text part (inr none) past start from t after to = none.1 start t from after to

  -- where the part stands
  pub none_here : (text : List ℕ) (part : BarrenPart) → IsBarrenWithin s text part → EndsPieceAt reading text part.stop
      → (t : ℕ) → part.start < t → t ≤ length text → is_match s text part.start t ≡ false
  none_here text part b ends =
      let n = part.stop - part.start in
      let rest = drop part.start text in
      let stop : part.start + n ≡ part.stop = omega (arith, b.some) in
      let tail : drop n rest ≡ drop part.stop text = drop-drop n part.start text ∙ ap (λ k. drop k text) stop in
      none_there text (slice_range text part.start part.stop) (drop n rest) part.start b.none
      (subst (GoesOnAtCut s) (sym tail) (tail_piece text part.stop ends)) (sym (take-append-drop n rest))

  -- and where its characters come again
  pub recurs : (text : List ℕ) (part : BarrenPart) → IsBarrenWithin s text part → (start step n reach : ℕ) → start ≡ part.start + step → n ≡ part.stop - part.start
      → Repeats text part.start step reach → start + n ≤ reach → start + n ≤ length text → IsBarrenWithin s text (record { start = start; stop = start + n; step = step; reach = reach })
  recurs text part b start step n reach at size repeats known within =
      let back : (start + n) - start ≡ n = omega arith in
      let same : slice_range text start (start + n) ≡ slice_range text part.start part.stop =
      ap (λ k. take k (drop start text)) back
      ∙ ap (λ k. take n (drop k text)) at
      ∙ same_part text part.start step reach n repeats (omega (arith, known, at)) (omega (arith, within, at))
      ∙ ap (λ k. take k (drop part.start text)) size in
      record {
        some = omega (arith, size, b.some);
        within = within;
        none = subst (NoneBegins s) (sym same) b.none;
        repeats = λ i from before. repeats i (omega (arith, from, at)) before;
      }

  -- ---- a part that was looked at

  places_in_front : (front tail : List ℕ) (k : ℕ) → GoesOnAtCut s tail → k ≤ length front → is_place reading (front ++ tail) k ≡ is_place reading front k
  places_in_front front tail k (inl none) fits = ap (λ (l : List ℕ). is_place reading (front ++ l) k) none ∙ ap (λ (l : List ℕ). is_place reading l k) (append-nil front)
  places_in_front front tail k (inr piece) fits =
      ap (λ (l : List ℕ). is_place reading (front ++ l) k) piece.2 ∙ place_before reading piece.0 piece.3 piece.1 front k fits

  module _ (text : List ℕ) (start stop : ℕ) (ordered : start < stop) (within : stop ≤ length text) (allowed : s.allowed start ≡ true)
      (ended : (k : ℕ) → start < k → k ≤ stop → weight_count s.collation (slice_range text start k) ≡ weight_count s.collation s.pattern → s.allowed k ≡ true)
      (begins : BeginsPieceAt reading text start) (ends : EndsPieceAt reading text stop)
      (none : (t : ℕ) → start ≤ t → t ≤ length text → is_match s text start t ≡ false)
      (many : weight_count s.collation s.pattern < weight_count s.collation (slice_range text start stop)) where
    abbrev n : ℕ
    n = stop - start

    abbrev front : List ℕ
    front = slice_range text start stop

    size : length front ≡ n
    size = length-take-le n (drop start text) (omega (arith, within, length-drop start text))

    start_is : is_place reading text start ≡ true
    start_is =
        let here : start ≡ start + 0 = omega arith in
        ap (is_place reading text) here ∙ places_from reading text start 0 begins ∙ first_place reading (drop start text) 0 refl

    unlike_within : (k : ℕ) → 0 < k → k ≤ n → is_place reading front k ≡ true → equals_pattern s (take k front) ≡ false
    unlike_within k some fits place =
        let t = start + k in
        let back : t - start ≡ k = omega arith in
        let part : slice_range text start t ≡ take k front = ap (λ i. take i (drop start text)) back ∙ taken_twice k n (drop start text) fits in
        let there : is_place reading (drop start text) (t - start) ≡ true =
        ap (is_place reading (drop start text)) back ∙ places_to reading text start stop k (omega (arith, ordered)) ends fits ∙ place in
        elim (cases_Bool (s.allowed t)) as (λ _. equals_pattern s (take k front) ≡ false) [
          | inl may ↦ elim (cases_Bool (equals_pattern s (take k front))) as (λ _. equals_pattern s (take k front) ≡ false) [
            | inl equal ↦
                let matches = matches_there s text start t (omega arith) allowed start_is there
                (and_from (s.allowed t) (equals_pattern s (slice_range text start t)) may (ap (equals_pattern s) part ∙ equal)) in
                absurd (true≢false (sym matches ∙ none t (omega arith) (omega (arith, fits, within, ordered))))
            | inr not ↦ not
          ]
          | inr never ↦
              unlike_count s.collation (take k front) s.pattern
              (λ as_many. true≢false (sym (ended t (omega (arith, some)) (omega (arith, fits, ordered)) (ap (weight_count s.collation) part ∙ as_many)) ∙ never))
        ]

    none_begins : NoneBegins s front
    none_begins = λ tail piece k some fits place.
        elim (cases_lt n k) as (λ _. equals_pattern s (take k (front ++ tail)) ≡ false) [
          | inl behind ↦
              let cut : is_place reading (front ++ tail) n ≡ true = places_in_front front tail n piece (omega (arith, size)) ∙ ends_in_place reading front n (sym size) in
              let first : take n (front ++ tail) ≡ front = take_at front tail n size in
              too_many s.collation (front ++ tail) s.pattern n k (omega (arith, ordered)) behind fits cut place
              (subst (λ (l : List ℕ). weight_count s.collation s.pattern < weight_count s.collation l) (sym first) many)
          | inr before ↦
              let inside : k ≤ length front = omega (arith, before, size) in
              let there : is_place reading front k ≡ true = sym (places_in_front front tail k piece inside) ∙ place in
              ap (equals_pattern s) (take-append-le k front tail inside) ∙ unlike_within k some before there
        ]

    pub is_barren : IsBarrenWithin s text (record { start = start; stop = stop; step = 0; reach = 0 })
    is_barren = record { some = ordered; within = within; none = none_begins; repeats = repeats_none text start 0 0 (omega arith) }

  -- ---- too few weights are left

  module _ (text : List ℕ) (start : ℕ) (few : weight_count s.collation (drop start text) < weight_count s.collation s.pattern)
      (cuts : (k : ℕ) → start < k → k ≤ length text → EndsPieceAt reading text k) where
    left_few : (k : ℕ) → start ≤ k → k < length text → weight_count s.collation (drop k text) < weight_count s.collation s.pattern
    left_few k from before =
        elim (cases_lt start k) as (λ _. weight_count s.collation (drop k text) < weight_count s.collation s.pattern) [
          | inl after ↦ elim (cuts k after (omega (arith, before))) as (λ _. weight_count s.collation (drop k text) < weight_count s.collation s.pattern) [
            | inl end ↦ absurd (omega (arith, before, end))
            | inr cut ↦ omega (arith, few, left_counted s.collation text start k from cut)
          ]
          | inr at ↦
              let same : k ≡ start = omega (arith, from, at) in
              omega (arith, few, ap (λ i. weight_count s.collation (drop i text)) same)
        ]

    part_few : (rest : List ℕ) (i : ℕ) → weight_count s.collation rest < weight_count s.collation s.pattern → 0 < i → is_place reading rest i ≡ true
        → weight_count s.collation (take i rest) < weight_count s.collation s.pattern
    part_few rest i fewer some place =
        let all : take (length rest) rest ≡ rest = take_all (length rest) rest (omega arith) in
        elim (cases_lt i (length rest)) as (λ _. weight_count s.collation (take i rest) < weight_count s.collation s.pattern) [
          | inl before ↦
              let grown = lists_grow s.collation rest i (length rest) some before (omega arith) place (ends_in_place reading rest (length rest) refl) in
              omega (
                arith,
                fewer,
                ap (weight_count s.collation) all,
                ap length grown.1.primaries,
                length-append (lists_by s.collation (nfd (take i rest))).primaries grown.0.primaries,
              )
          | inr end ↦ omega (arith, fewer, ap (weight_count s.collation) (take_all i rest end))
        ]

    pub none_left : NoneFrom s text start
    none_left = λ k stop from after to.
        let i = stop - k in
        elim (cases_Bool (is_place reading (drop k text) i)) [
          | inl place ↦
              let fewer = part_few (drop k text) i (left_few k from (omega (arith, after, to))) (omega (arith, after)) place in
              not_ended s text k stop (ap (λ b. s.allowed stop && b) (too_few s.collation (slice_range text k stop) s.pattern fewer) ∙ and-false (s.allowed stop))
          | inr not ↦ no_place s text k stop not
        ]

-- ---- weights of what is looked at

module _ (s : Search) (text : List ℕ) (start at met n : ℕ) (inside : at < length text) (ordered : start ≤ at) (w : CountedTo s text start at met) (alone : CountsAlone s.collation text at n)
    (none : (t : ℕ) → start ≤ t → t ≤ length text → is_match s text start t ≡ false) where
  pub counted_by : CountedTo s text start (at + 1) (met + n)
  counted_by = record {
    ends = inr alone.ends;
    count = total_is s text start at met n inside ordered w alone;
    none = λ t from to. none t from (omega (arith, to, inside));
  }
