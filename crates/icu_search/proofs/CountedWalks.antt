-- A walk along characters each of which is read by itself, by how many primary weights they have.
use Rattle.std.proofs.Common.{◌≡◌, ◌⊎◌, ℕ, zero, suc, ◌+◌, ◌-◌, ◌<◌, ◌≤◌, true, false, ◌&&◌, List, [], ◌∷◌, ◌++◌, Some, None, length, take, drop, refl, sym, ap, ◌∙◌, arith, inl, inr, length-append}
use Rattle.std.specs.Prelude.{slice_range}
use Rattle.std.specs.Option.{option_map}
use Rattle.std.proofs.lemmas.Bool.{cases_Bool, cases_lt}
use Rattle.std.proofs.lemmas.List.{drop_at, drop-append-le, length-drop, take_at}
use Rattle.std.proofs.Math.Seq.{take-add}
use Rattle.std.proofs.Math.Bool.{and-false}
use Rattle.unicode_normalization.specs.Forms.{nfd}
use Rattle.icu_element_reading.proofs.boundaries.CutLemmas.{boundary_cut}
use Rattle.icu_element_reading.proofs.boundaries.NfdLemmas.{nfd-nil}
use Rattle.icu_table_entries.specs.Elements.{Element}
use Rattle.icu_element_reading.specs.TextElements.{elements_of}
use Rattle.icu_element_reading.proofs.StepLemmas.{elements_after_nil}
use Rattle.icu_order_texts.specs.weighting.Collations.{Collation}
use Rattle.icu_order_texts.specs.weighting.Forms.{last_variable_by}
use Rattle.icu_order_texts.specs.TextOrder.{reading_by, lists_by}
use Rattle.icu_search_places.specs.LeastMatches.{span, shortest_from}
use Rattle.icu_search_places.specs.SearchPlaces.{is_place}
use Rattle.icu_search_places.specs.Searches.{Search, is_match}
use Rattle.icu_search.specs.inner.CountedChars.{CountsAlone}
use Rattle.icu_search.specs.inner.FirstWeights.{counted_primaries}
use Rattle.icu_search.specs.inner.EqualParts.{ends_match, equals_pattern}
use Rattle.icu_search.specs.inner.SearchCuts.{CutsAt, EndsPieceAt}
use Rattle.icu_search.proofs.FirstWeightLemmas.{primaries_counted, counted-append, nothing}
use Rattle.icu_search.proofs.LongerPartLemmas.{too_many, unlike_count}
use Rattle.icu_search.proofs.PartWalks.{matches_there, no_place, not_ended}
use Rattle.icu_search.proofs.ShortestLemmas.{NoneTo, none_at_start, none_found, none_more, one_found}
use Rattle.icu_search.proofs.TextCutLemmas.{places_after}

-- ---- weights of a part and of a character more

-- how many a text has
abbrev pub weight_count : Collation → List ℕ → ℕ
weight_count c text = length (lists_by c (nfd text)).primaries

pub no_weights : (c : Collation) → weight_count c [] ≡ 0
no_weights c =
    ap length (primaries_counted c [] ∙ ap (counted_primaries (last_variable_by c)) (ap (elements_of (reading_by c)) nfd-nil ∙ elements_after_nil (reading_by c) []) ∙ nothing (last_variable_by c))

module _ (c : Collation) (text : List ℕ) (start at : ℕ) (ordered : start ≤ at) (p : CutsAt (reading_by c) text at) where
  abbrev pub first : List ℕ
  first = drop start p.front

  size : at - start ≡ length first
  size = omega (arith, length-drop start p.front, p.offset_is)

  rest : drop start text ≡ first ++ p.char ∷ p.tail
  rest = ap (drop start) p.text_is ∙ drop-append-le start p.front (p.char ∷ p.tail) (omega (arith, ordered, p.offset_is))

  pub part : slice_range text start at ≡ first
  part = ap (take (at - start)) rest ∙ ap (λ n. take n (first ++ p.char ∷ p.tail)) size ∙ take_at first (p.char ∷ p.tail) (length first) refl

  pub longer : slice_range text start (at + 1) ≡ first ++ p.char ∷ []
  longer =
      let more : (at + 1) - start ≡ length first + suc zero = omega (arith, size, ordered) in
      ap (take ((at + 1) - start)) rest
      ∙ ap (λ n. take n (first ++ p.char ∷ p.tail)) more
      ∙ take-add (length first) (suc zero) (first ++ p.char ∷ p.tail)
      ∙ ap (λ (l : List ℕ). l ++ take (suc zero) (drop (length first) (first ++ p.char ∷ p.tail))) (take_at first (p.char ∷ p.tail) (length first) refl)
      ∙ ap (λ (l : List ℕ). first ++ take (suc zero) l) (drop_at first (p.char ∷ p.tail) (length first) refl)

  one : slice_range text at (at + 1) ≡ p.char ∷ []
  one =
      let single : (at + 1) - at ≡ suc zero = omega arith in
      ap (λ n. take n (drop at text)) single
      ∙ ap (take (suc zero)) (ap (drop at) p.text_is ∙ drop_at p.front (p.char ∷ p.tail) at p.offset_is)

  added : weight_count c (first ++ p.char ∷ []) ≡ weight_count c first + weight_count c (p.char ∷ [])
  added =
      let last = last_variable_by c in
      let own : List ℕ → List Element = λ t. elements_of (reading_by c) (nfd t) in
      let cut = p.begins in
      let whole : own (first ++ p.char ∷ []) ≡ own first ++ own (p.char ∷ []) = boundary_cut (reading_by c) p.char cut.first cut.more [] cut.decomposes cut.boundary [] first in
      let weights = primaries_counted c (first ++ p.char ∷ []) ∙ ap (counted_primaries last) whole ∙ counted-append last (own first) (own (p.char ∷ [])) in
      omega (
        arith,
        ap length weights,
        length-append (counted_primaries last (own first)) (counted_primaries last (own (p.char ∷ []))),
        ap length (primaries_counted c first),
        ap length (primaries_counted c (p.char ∷ [])),
      )

  -- what follows the cut has no more than what follows a start before it
  pub left_counted : weight_count c (drop at text) ≤ weight_count c (drop start text)
  left_counted =
      let last = last_variable_by c in
      let own : List ℕ → List Element = λ t. elements_of (reading_by c) (nfd t) in
      let cut = p.begins in
      let behind = p.char ∷ p.tail in
      let there : drop at text ≡ behind = ap (drop at) p.text_is ∙ drop_at p.front behind at p.offset_is in
      let whole : own (first ++ behind) ≡ own first ++ own behind = boundary_cut (reading_by c) p.char cut.first cut.more p.tail cut.decomposes cut.boundary [] first in
      let weights = primaries_counted c (first ++ behind) ∙ ap (counted_primaries last) whole ∙ counted-append last (own first) (own behind) in
      omega (
        arith,
        ap (weight_count c) rest,
        ap (weight_count c) there,
        ap length weights,
        length-append (counted_primaries last (own first)) (counted_primaries last (own behind)),
        ap length (primaries_counted c behind),
      )

  pub one_more_counted : weight_count c (slice_range text start (at + 1)) ≡ weight_count c (slice_range text start at) + weight_count c (slice_range text at (at + 1))
  one_more_counted =
      omega (arith, added, ap (weight_count c) longer, ap (weight_count c) part, ap (weight_count c) one)

  -- the elements of what follows a start are those up to the cut, and those behind it
  pub cut_elements : elements_of (reading_by c) (nfd (drop start text)) ≡ elements_of (reading_by c) (nfd (slice_range text start at)) ++ elements_of (reading_by c) (nfd (drop at text))
  cut_elements =
      let own : List ℕ → List Element = λ t. elements_of (reading_by c) (nfd t) in
      let cut = p.begins in
      let behind = p.char ∷ p.tail in
      let there : drop at text ≡ behind = ap (drop at) p.text_is ∙ drop_at p.front behind at p.offset_is in
      ap own rest
      ∙ boundary_cut (reading_by c) p.char cut.first cut.more p.tail cut.decomposes cut.boundary [] first
      ∙ ap (λ (l : List ℕ). own l ++ own behind) (sym part)
      ∙ ap (λ (l : List ℕ). own (slice_range text start at) ++ own l) (sym there)

-- ---- the walk

-- It has come to an offset, and the part behind it has so many weights. No part up to there is a match.
pub record CountedTo (s : Search) (text : List ℕ) (start stop met : ℕ) : Type 0 where
  pub ends : (stop ≡ start) ⊎ EndsPieceAt (reading_by s.collation) text stop
  pub count : met ≡ weight_count s.collation (slice_range text start stop)
  pub none : NoneTo (is_match s text) start stop

module _ (s : Search) (text : List ℕ) (start : ℕ) where
  abbrev c : Collation
  c = s.collation

  empty : slice_range text start start ≡ []
  empty = let none : start - start ≡ 0 = omega arith in ap (λ n. take n (drop start text)) none

  pub counted_none : is_match s text start start ≡ false → CountedTo s text start start 0
  counted_none not = record {
    ends = inl refl;
    count = sym (ap (weight_count c) empty ∙ no_weights c);
    none = none_at_start (is_match s text) start not;
  }

  module _ (at met n : ℕ) (inside : at < length text) (ordered : start ≤ at) (w : CountedTo s text start at met) (alone : CountsAlone c text at n) where
    pub total_is : met + n ≡ weight_count c (slice_range text start (at + 1))
    total_is =
        elim w.ends as (λ _. met + n ≡ weight_count c (slice_range text start (at + 1))) [
          | inl same ↦
              let nothing : met ≡ 0 = w.count ∙ ap (λ k. weight_count c (slice_range text start k)) same ∙ ap (weight_count c) empty ∙ no_weights c in
              let here : weight_count c (slice_range text at (at + 1)) ≡ weight_count c (slice_range text start (at + 1)) = ap (λ k. weight_count c (slice_range text k (at + 1))) same in
              omega (arith, nothing, alone.count, here)
          | inr ends ↦ elim ends as (λ _. met + n ≡ weight_count c (slice_range text start (at + 1))) [
            | inl all ↦ absurd (omega (arith, inside, all))
            | inr cut ↦ omega (arith, w.count, alone.count, one_more_counted c text start at ordered cut)
          ]
        ]

    -- the part with this character stands before a place
    place_is : is_place (reading_by c) (drop start text) ((at + 1) - start) ≡ true
    place_is = places_after (reading_by c) text start (at + 1) (omega (arith, ordered)) alone.ends

    pub counted_on : ends_match s (slice_range text start (at + 1)) (at + 1) ≡ false → CountedTo s text start (at + 1) (met + n)
    counted_on not = record {
      ends = inr alone.ends;
      count = total_is;
      none = none_more (is_match s text) start at w.none (not_ended s text start (at + 1) not);
    }

    pub counted_match : is_place (reading_by c) text start ≡ true → s.allowed start ≡ true → ends_match s (slice_range text start (at + 1)) (at + 1) ≡ true
        → option_map (span start) (Some (at + 1)) ≡ shortest_from (is_match s text) start start (length text - start)
    counted_match first allowed equal =
        let after : start ≤ at + 1 = omega (arith, ordered) in
        sym (one_found (is_match s text) start (length text) (at + 1) after (omega (arith, inside))
        (matches_there s text start (at + 1) after allowed first place_is equal)
        (λ t from before. w.none t from (omega (arith, before))))

    no_longer : weight_count c s.pattern < met + n → (t : ℕ) → at + 1 < t → t ≤ length text → is_match s text start t ≡ false
    no_longer many t after before =
        let i = (at + 1) - start in
        let j = t - start in
        elim (cases_Bool (is_place (reading_by c) (drop start text) j)) [
          | inl there ↦
              not_ended s text start t
              (ap (λ b. s.allowed t && b)
              (too_many c (drop start text) s.pattern i j (omega (arith, ordered)) (omega (arith, after, ordered)) (omega (arith, before, length-drop start text)) place_is there
              (omega (arith, many, total_is)))
              ∙ and-false (s.allowed t))
          | inr not ↦ no_place s text start t not
        ]

    pub counted_too_long : weight_count c s.pattern < met + n → option_map (span start) None ≡ shortest_from (is_match s text) start start (length text - start)
    counted_too_long many =
        let unlike : equals_pattern s (slice_range text start (at + 1)) ≡ false = unlike_count c (slice_range text start (at + 1)) s.pattern (λ e. omega (arith, many, total_is, e)) in
        let not : ends_match s (slice_range text start (at + 1)) (at + 1) ≡ false = ap (λ b. s.allowed (at + 1) && b) unlike ∙ and-false (s.allowed (at + 1)) in
        let so_far = counted_on not in
        sym (none_found (is_match s text) start (length text) (omega (arith, inside, ordered)) (λ t from to. elim (cases_lt (at + 1) t) as (λ _. is_match s text start t ≡ false) [
          | inl behind ↦ no_longer many t behind to
          | inr before ↦ so_far.none t from before
        ]))

  pub counted_all : (stop met : ℕ) → CountedTo s text start stop met → stop ≡ length text → start ≤ length text
      → option_map (span start) None ≡ shortest_from (is_match s text) start start (length text - start)
  counted_all stop met w all ordered = sym (none_found (is_match s text) start (length text) ordered (λ t from to. w.none t from (omega (arith, to, all))))

-- a part with another number of weights than the pattern doesn't match
pub ends_otherwise : (s : Search) (part : List ℕ) (stop met : ℕ) → met ≡ weight_count s.collation part → (met ≡ weight_count s.collation s.pattern → ⊥) → false ≡ ends_match s part stop
ends_otherwise s part stop met is other =
    sym (ap (λ b. s.allowed stop && b) (unlike_count s.collation part s.pattern (λ e. other (is ∙ e))) ∙ and-false (s.allowed stop))
