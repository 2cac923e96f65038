-- The places of a text that is cut, and parts with which a text begins.
use Rattle.std.proofs.Common.{◌≡◌, ℕ, zero, suc, ◌+◌, ◌-◌, ◌<◌, ◌≤◌, Bool, true, false, ◌&&◌, ◌||◌, ◌==◌, List, [], ◌∷◌, ◌++◌, Some, None, length, take, drop, get_or, refl, sym, ap, ◌∙◌, subst, arith, inl, inr, append-nil, length-append}
use Rattle.std.specs.Prelude.{slice_range}
use Rattle.std.specs.Option.{option_map}
use Rattle.std.proofs.lemmas.Bool.{cases_Bool, cases_lt, eq-eqb, or_left, true≢false}
use Rattle.std.proofs.lemmas.List.{drop_at, drop_more, drop-append-le, take-append-drop, length-drop, length-take-le, take_all, take_at}
use Rattle.std.proofs.Math.Bool.{and-false}
use Rattle.icu_search_places.proofs.FoundLemmas.{ends_in_place}
use Rattle.unicode_normalization.specs.Forms.{nfd}
use Rattle.icu_element_reading.specs.TextElements.{Reading}
use Rattle.icu_order_texts.specs.TextOrder.{reading_by, lists_by}
use Rattle.icu_search_places.specs.PieceLaws.{BeginsPieces}
use Rattle.icu_search_places.specs.LeastMatches.{EndsLaterMatch, span, shortest_from, TellsLeastStop}
use Rattle.icu_search_places.specs.SearchPlaces.{is_place, is_place_before}
use Rattle.icu_search_places.specs.Searches.{Search, is_match}
use Rattle.icu_search_places.proofs.LeastLemmas.{ShortestOf, ShortestOf-shortest_from}
use Rattle.icu_search_places.proofs.SearchPieceLemmas.{place_behind, place_before}
use Rattle.icu_search.specs.inner.EqualParts.{equals_pattern}
use Rattle.icu_search.specs.inner.SearchCuts.{CutsAt, BeginsPieceAt, EndsPieceAt, IsPieceFrom}
use Rattle.icu_search.proofs.LongerPartLemmas.{lists_grow}
use Rattle.icu_search.proofs.PartWalks.{no_place, not_ended, empty_matches_not}
use Rattle.icu_search.proofs.ShortestLemmas.{one_found}

-- ---- places

pub first_place : (reading : Reading) (text : List ℕ) (k : ℕ) → k ≡ 0 → is_place reading text k ≡ true
first_place reading text k e = or_left (k == 0 || k == length text) (is_place_before reading text (drop k text)) (or_left (k == 0) (k == length text) (eq-eqb k 0 e))

-- from a cut on, the places of the text are those of the piece
pub places_from : (reading : Reading) (text : List ℕ) (cut i : ℕ) → BeginsPieceAt reading text cut → is_place reading text (cut + i) ≡ is_place reading (drop cut text) i
places_from reading text cut i (inl none) =
    let at : cut + i ≡ i = omega (arith, none) in
    ap (is_place reading text) at ∙ ap (λ n. is_place reading (drop n text) i) (sym none)
places_from reading text cut i (inr at) =
    let piece = at.char ∷ at.tail in
    let left : drop cut text ≡ piece = ap (drop cut) at.text_is ∙ drop_at at.front piece cut at.offset_is in
    let offset : cut + i ≡ length at.front + i = omega (arith, at.offset_is) in
    ap (λ (t : List ℕ). is_place reading t (cut + i)) at.text_is
    ∙ ap (is_place reading (at.front ++ piece)) offset
    ∙ place_behind reading at.char at.begins at.tail at.front i
    ∙ ap (λ (t : List ℕ). is_place reading t i) (sym left)

-- up to the end of a piece, they are those of the part before it
pub places_to : (reading : Reading) (text : List ℕ) (start stop i : ℕ) → start ≤ stop → EndsPieceAt reading text stop → i ≤ stop - start → is_place reading (drop start text) i ≡ is_place reading (slice_range text start stop) i
places_to reading text start stop i ordered (inl end) fits =
    ap (λ (t : List ℕ). is_place reading t i) (sym (take_all (stop - start) (drop start text) (omega (arith, length-drop start text, end))))
places_to reading text start stop i ordered (inr at) fits =
    let piece = at.char ∷ at.tail in
    let first = drop start at.front in
    let size : stop - start ≡ length first = omega (arith, length-drop start at.front, at.offset_is) in
    let rest : drop start text ≡ first ++ piece = ap (drop start) at.text_is ∙ drop-append-le start at.front piece (omega (arith, ordered, at.offset_is)) in
    let part : slice_range text start stop ≡ first = ap (take (stop - start)) rest ∙ ap (λ n. take n (first ++ piece)) size ∙ take_at first piece (length first) refl in
    ap (λ (t : List ℕ). is_place reading t i) rest
    ∙ place_before reading at.char at.begins at.tail first i (omega (arith, fits, size))
    ∙ ap (λ (t : List ℕ). is_place reading t i) (sym part)

pub cut_is_place : (reading : Reading) (text : List ℕ) (k : ℕ) → CutsAt reading text k → is_place reading text k ≡ true
cut_is_place reading text k at =
    let none : k + 0 ≡ k = omega arith in
    ap (is_place reading text) (sym none) ∙ places_from reading text k 0 (inr at) ∙ first_place reading (drop k text) 0 refl

-- what follows a start has a place where a piece ends
pub places_after : (reading : Reading) (text : List ℕ) (start stop : ℕ) → start ≤ stop → EndsPieceAt reading text stop → is_place reading (drop start text) (stop - start) ≡ true
places_after reading text start stop ordered ends =
    let i = stop - start in
    places_to reading text start stop i ordered ends (omega arith)
    ∙ ends_in_place reading (slice_range text start stop) i (size ends)
  where
    size : EndsPieceAt reading text stop → stop - start ≡ length (slice_range text start stop)
    size (inl end) = omega (arith, length-take-le (stop - start) (drop start text) (omega (arith, length-drop start text, end)))
    size (inr at) =
        let whole = ap length at.text_is in
        omega (arith, length-take-le (stop - start) (drop start text) (omega (arith, length-drop start text, whole, length-append at.front (at.char ∷ at.tail), at.offset_is)))

-- the places of a piece are those of the text there
pub piece_places : (reading : Reading) (text : List ℕ) (cut offset stop : ℕ) → cut ≤ offset → offset < stop → BeginsPieceAt reading text cut → EndsPieceAt reading text stop
    → is_place reading text offset ≡ is_place reading (slice_range text cut stop) (offset - cut)
piece_places reading text cut offset stop first last begins ends =
    let at : cut + (offset - cut) ≡ offset = omega (arith, first) in
    ap (is_place reading text) (sym at) ∙ places_from reading text cut (offset - cut) begins
    ∙ places_to reading text cut stop (offset - cut) (omega (arith, first, last)) ends (omega (arith, first, last))

pub cut_there : (reading : Reading) (text : List ℕ) (k x : ℕ) → k < length text → x ≡ get_or text k x → BeginsPieces reading x → CutsAt reading text k
cut_there reading text k x inside is begins = record {
  front = take k text;
  char = x;
  tail = drop (k + 1) text;
  text_is = sym (take-append-drop k text) ∙ ap (λ (l : List ℕ). take k text ++ l) (drop_more text k x inside ∙ ap (λ y. y ∷ drop (k + 1) text) (sym is));
  offset_is = length-take-le k text (omega (arith, inside));
  begins = begins;
}

-- ---- what is told of a start

-- the shortest match, if it ends in time
pub told_in_time : (matches : ℕ → ℕ → Bool) (start last n stop : ℕ) → start ≤ last → last ≤ n → option_map (span start) (Some stop) ≡ shortest_from matches start start (n - start) → stop ≤ last → TellsLeastStop matches start last (Some stop)
told_in_time matches start last n stop ordered within is fits =
    let told = subst (ShortestOf matches start start n) (sym is) (ShortestOf-shortest_from matches start start (n - start) n (omega (arith, ordered, within))) in
    (fits, one_found matches start last stop told.low_to fits told.is_match told.first)

pub told_too_late : (matches : ℕ → ℕ → Bool) (start last n stop : ℕ) → start ≤ last → last ≤ n → option_map (span start) (Some stop) ≡ shortest_from matches start start (n - start) → last < stop → TellsLeastStop matches start last None
told_too_late matches start last n stop ordered within is late = λ t from to match.
    let told = subst (ShortestOf matches start start n) (sym is) (ShortestOf-shortest_from matches start start (n - start) n (omega (arith, ordered, within))) in
    absurd (true≢false (sym match ∙ told.first t from (omega (arith, to, late))))

pub told_none : (matches : ℕ → ℕ → Bool) (start last n : ℕ) → start ≤ last → last ≤ n → option_map (span start) None ≡ shortest_from matches start start (n - start) → TellsLeastStop matches start last None
told_none matches start last n ordered within is = λ t from to match.
    let told = subst (ShortestOf matches start start n) (sym is) (ShortestOf-shortest_from matches start start (n - start) n (omega (arith, ordered, within))) in
    absurd (true≢false (sym match ∙ told t from (omega (arith, to, within))))

take_none : (k : ℕ) → take {A = ℕ} k [] ≡ []
take_none zero = refl
take_none (suc k) = refl

pub taken_twice : (i n : ℕ) (l : List ℕ) → i ≤ n → take i l ≡ take i (take n l)
taken_twice i n [] fits = ap (take i) (sym (take_none n))
taken_twice zero n (x ∷ l) fits = refl
taken_twice (suc i) zero (x ∷ l) fits = absurd (omega (arith, fits))
taken_twice (suc i) (suc n) (x ∷ l) fits = ap (λ (l : List ℕ). x ∷ l) (taken_twice i n l (omega (arith, fits)))

-- ---- parts with which a text begins, up to the end of a piece

module _ (s : Search) (text : List ℕ) (start last : ℕ) (part : List ℕ) (p : IsPieceFrom (reading_by s.collation) text start last part)
    (unlike : (front rest : List ℕ) → (lists_by s.collation (nfd part)).primaries ≡ (lists_by s.collation (nfd front)).primaries ++ rest → equals_pattern s front ≡ false) where
  -- a part up to a place isn't equal to the pattern
  begins_unlike : (i : ℕ) → 0 < i → i ≤ length part → is_place (reading_by s.collation) part i ≡ true → equals_pattern s (take i part) ≡ false
  begins_unlike i some fits place =
      elim (cases_lt i (length part)) [
        | inl before ↦
            let grown = lists_grow s.collation part i (length part) some before (omega arith) place (ends_in_place (reading_by s.collation) part (length part) refl) in
            let all : take (length part) part ≡ part = take_all (length part) part (omega arith) in
            unlike (take i part) grown.0.primaries (ap (λ (l : List ℕ). (lists_by s.collation (nfd l)).primaries) (sym all) ∙ grown.1.primaries)
        | inr end ↦
            let all : take i part ≡ part = take_all i part end in
            unlike (take i part) [] (ap (λ (l : List ℕ). (lists_by s.collation (nfd l)).primaries) (sym all) ∙ sym (append-nil (lists_by s.collation (nfd (take i part))).primaries))
      ]

  pub none_matches : (t : ℕ) → start < t → t ≤ last → is_match s text start t ≡ false
  none_matches t after to =
      let i = t - start in
      let ordered : start ≤ p.stop = omega (arith, after, to, p.reaches) in
      let size : length part ≡ p.stop - start = ap length p.part_is ∙ length-take-le (p.stop - start) (drop start text) (omega (arith, length-drop start text, p.within)) in
      elim (cases_Bool (is_place (reading_by s.collation) (drop start text) i)) [
        | inl place ↦
            let there : is_place (reading_by s.collation) part i ≡ true =
            ap (λ (l : List ℕ). is_place (reading_by s.collation) l i) p.part_is ∙ sym (places_to (reading_by s.collation) text start p.stop i ordered p.ends (omega (arith, to, p.reaches))) ∙ place in
            let same : slice_range text start t ≡ take i part = taken_twice i (p.stop - start) (drop start text) (omega (arith, to, p.reaches)) ∙ ap (take i) (sym p.part_is) in
            not_ended s text start t
            (ap (λ b. s.allowed t && b) (ap (equals_pattern s) same ∙ begins_unlike i (omega (arith, after)) (omega (arith, size, to, p.reaches)) there) ∙ and-false (s.allowed t))
        | inr not ↦ no_place s text start t not
      ]

  pub told_ruled_out : start ≤ last → equals_pattern s [] ≡ false → TellsLeastStop (is_match s text) start last None
  told_ruled_out ordered not_empty = λ t from to match.
      elim (cases_lt start t) as (λ _. EndsLaterMatch (is_match s text) start t) [
        | inl after ↦ absurd (true≢false (sym match ∙ none_matches t after to))
        | inr at ↦
            let same : t ≡ start = omega (arith, from, at) in
            absurd (true≢false (sym match ∙ ap (is_match s text start) same ∙ empty_matches_not s text start not_empty))
      ]
