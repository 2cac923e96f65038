-- What a search finds.
use Rattle.std.proofs.Common.{◌≡◌, ℕ, ◌-◌, ◌≤◌, Bool, true, false, ◌&&◌, ◌||◌, ◌==◌, nat_le, List, [], ◌∷◌, length, take, drop, refl, sym, ap, ◌∙◌, arith}
use Rattle.std.specs.Prelude.{slice_range, zero, suc}
use Rattle.std.specs.List.{AllPairs, Contains}
use Rattle.std.specs.Ordering.{is_eq}
use Rattle.std.specs.declared.cmp.Ordering.{Ordering}
use Rattle.std.specs.declared.cmp.Ordering.TheVariants.{Less, Equal, Greater}
use Rattle.std.proofs.lemmas.Bool.{and_parts, and_from, or_left, or_right, leb-true, le-leb, eq-eqb, false≢true}
use Rattle.std.proofs.lemmas.Bool.Decides.{same_from_decides}
use Rattle.std.proofs.lemmas.List.{take_all}
use Rattle.icu_table_provider.specs.well_formed.WellFormedTables.{IsWellFormedTables}
use Rattle.icu_element_reading.specs.TextElements.{Reading}
use Rattle.icu_element_reading.specs.TextElementLaws.{IsText}
use Rattle.icu_order_levels.specs.Keys.{levels_order}
use Rattle.icu_order_texts.specs.weighting.Collations.{Collation}
use Rattle.icu_order_texts.specs.weighting.Forms.{compression_of, form_by}
use Rattle.icu_order_texts.specs.TextOrder.{reading_by, text_order, text_key}
use Rattle.icu_order_texts.proofs.TextOrders.{equal_keys}
use Rattle.unicode_normalization.specs.Forms.{nfd}
use Rattle.icu_options.specs.declared.settings.Strength.{Strength}
use Rattle.icu_order_texts.specs.TextOrder.{lists_by}
use Rattle.icu_order_texts.specs.text_laws.OrderLaws.{strength_rank, with_strength, AreEquivalent}
use Rattle.icu_order_texts.proofs.text_laws.StrengthLemmas.{strength_keeps}
use Rattle.icu_search_places.specs.LeastMatches.{Span, span, least_from, apart_from, HoldsSpan, StandsApart}
use Rattle.icu_search_places.specs.LeastMatchLaws.{IsMatchWithin}
use Rattle.icu_search_places.specs.SearchPlaces.{is_place, is_place_before}
use Rattle.icu_search_places.specs.Searches.{Search, is_match, least, found}
use Rattle.icu_search_places.specs.SearchLaws.{part, IsMatch, MatchesAreMet, at_strength}
use Rattle.icu_search_places.proofs.SpanListLemmas.{the_member}
use Rattle.icu_search_places.proofs.LeastLemmas.{least_matches_hold_no_other}
use Rattle.icu_search_places.proofs.ApartLemmas.{found_matches_stand_apart, apart_from-taken}

-- ---- the test of a match says what a match is

pub eq_is : (o : Ordering) → is_eq o ≡ true → o ≡ Equal
eq_is Less h = absurd (false≢true h)
eq_is Equal h = refl
eq_is Greater h = absurd (false≢true h)

match_from_test : (s : Search) (text : List ℕ) (m : Span) → is_match s text m.start m.stop ≡ true → m.stop ≤ length text → IsMatch s text m
match_from_test s text m h within =
    let p = and_parts _ _ h in
    let q = and_parts _ _ p.0 in
    let r = and_parts _ _ q.0 in
    let t = and_parts _ _ r.0 in
    let a = and_parts _ _ t.0 in
    record {
      ordered = leb-true m.start m.stop t.1;
      within = within;
      allowed_start = a.0;
      allowed_stop = a.1;
      start_place = r.1;
      stop_place = q.1;
      equal = eq_is (text_order s.collation (part text m) s.pattern) p.1;
    }

pub test_from_match : (s : Search) (text : List ℕ) (m : Span) → IsMatch s text m → is_match s text m.start m.stop ≡ true
test_from_match s text m is =
    and_from _ _ (and_from _ _ (and_from _ _ (and_from _ _ (and_from _ _ is.allowed_start is.allowed_stop) (le-leb m.start m.stop is.ordered)) is.start_place) is.stop_place)
    (ap is_eq is.equal)

match_within : (s : Search) (text : List ℕ) (m : Span) → IsMatch s text m → IsMatchWithin (is_match s text) 0 (length text) m
match_within s text m is = record {
  is_match = test_from_match s text m is;
  from_low = omega arith;
  ordered = is.ordered;
  to_high = is.within;
}

-- ---- what is found

pub found_parts_match : (s : Search) (text : List ℕ) (m : Span) → Contains (found s text) m → IsMatch s text m
found_parts_match s text m at =
    let in_least = (found_matches_stand_apart (is_match s text) (length text)).each m at in
    let is = ((least_matches_hold_no_other (is_match s text) (length text)).each m in_least).is_match in
    match_from_test s text m is.is_match is.to_high

pub found_parts_stand_apart : (s : Search) (text : List ℕ) → AllPairs StandsApart (found s text)
found_parts_stand_apart s text = (found_matches_stand_apart (is_match s text) (length text)).apart

pub matches_are_met : (s : Search) (text : List ℕ) → MatchesAreMet s text
matches_are_met s text = record {
  held = λ m is. (least_matches_hold_no_other (is_match s text) (length text)).held m (match_within s text m is);
  others = (found_matches_stand_apart (is_match s text) (length text)).others;
}

some_taken : (spans : List Span) → apart_from 0 spans ≡ [] → (m : Span) → Contains spans m → ⊥
some_taken [] none m at = omega (arith, at.1)
some_taken (x ∷ later) none m at =
    let taken : x ∷ apart_from x.stop later ≡ [] = sym (apart_from-taken 0 x later (le-leb 0 x.start (omega arith))) ∙ none in cc

pub no_match : (s : Search) (text : List ℕ) → found s text ≡ [] → (m : Span) → IsMatch s text m → ⊥
no_match s text none m is =
    let some = the_member (HoldsSpan m) (least s text) ((matches_are_met s text).held m is) in
    some_taken (least s text) none some.0 some.1.0

-- ---- keys

scalars_dropped : (k : ℕ) (text : List ℕ) → IsText text → IsText (drop k text)
scalars_dropped zero text h = h
scalars_dropped (suc k) [] h = h
scalars_dropped (suc k) (c ∷ cs) h = scalars_dropped k cs h.1

scalars_taken : (k : ℕ) (text : List ℕ) → IsText text → IsText (take k text)
scalars_taken zero text h = tt
scalars_taken (suc k) [] h = tt
scalars_taken (suc k) (c ∷ cs) h = (h.0, scalars_taken k cs h.1)

part_is_text : (start stop : ℕ) (text : List ℕ) → IsText text → IsText (slice_range text start stop)
part_is_text start stop text h = scalars_taken (stop - start) (drop start text) (scalars_dropped start text h)

pub found_keys : (s : Search) → IsWellFormedTables s.collation.tables → (text : List ℕ) → IsText text → IsText s.pattern
    → (m : Span) → Contains (found s text) m → text_key s.collation (part text m) ≡ text_key s.collation s.pattern
found_keys s well_formed text is_text is_pattern m at =
    (equal_keys s.collation well_formed (part text m) s.pattern (part_is_text m.start m.stop text is_text) is_pattern).0 (found_parts_match s text m at).equal

-- ---- a text in itself

pub ends_in_place : (reading : Reading) (text : List ℕ) (k : ℕ) → k ≡ length text → is_place reading text k ≡ true
ends_in_place reading text k at = or_left (k == 0 || k == length text) (is_place_before reading text (drop k text)) (or_right (k == 0) (k == length text) (eq-eqb k (length text) at))

pub matches_itself : (s : Search) → IsWellFormedTables s.collation.tables → IsText s.pattern → s.allowed 0 ≡ true → s.allowed (length s.pattern) ≡ true
    → IsMatch s s.pattern (span 0 (length s.pattern))
matches_itself s well_formed is_pattern first last =
    let text = s.pattern in
    let n = length text in
    let reading = reading_by s.collation in
    let all : n - 0 ≡ n = omega arith in
    let whole : slice_range text 0 n ≡ text = ap (λ k. take k text) all ∙ take_all n text (omega arith) in
    let itself : text_order s.collation text text ≡ Equal = (equal_keys s.collation well_formed text text is_pattern is_pattern).1 refl in
    record {
      ordered = omega arith;
      within = omega arith;
      allowed_start = first;
      allowed_stop = last;
      start_place = refl;
      stop_place = ends_in_place reading text (n - 0) all;
      equal = ap (λ (t : List ℕ). text_order s.collation t text) whole ∙ itself;
    }

-- ---- equal patterns

-- tests that pass alike have the same least matches
same_tests : (p q : ℕ → ℕ → Bool) (n : ℕ) → ((start stop : ℕ) → p start stop ≡ q start stop) → p ≡ q
same_tests p q n h = λ i start stop. h start stop i

equal_to : (c : Collation) → IsWellFormedTables c.tables → (p q t : List ℕ) → IsText p → IsText q → IsText t → text_order c p q ≡ Equal
    → is_eq (text_order c t p) ≡ true → is_eq (text_order c t q) ≡ true
equal_to c well_formed p q t is_p is_q is_t same h =
    let of_t = (equal_keys c well_formed t p is_t is_p).0 (eq_is (text_order c t p) h) in
    let of_p = (equal_keys c well_formed p q is_p is_q).0 same in
    ap is_eq ((equal_keys c well_formed t q is_t is_q).1 (of_t ∙ of_p))

pub equal_patterns : (s : Search) → IsWellFormedTables s.collation.tables → (other : List ℕ) → IsText s.pattern → IsText other → text_order s.collation s.pattern other ≡ Equal
    → (text : List ℕ) → IsText text → found s text ≡ found (record s { pattern = other }) text
equal_patterns s well_formed other is_pattern is_other same text is_text =
    let c = s.collation in
    let p = s.pattern in
    let turned : text_order c other p ≡ Equal = (equal_keys c well_formed other p is_other is_pattern).1 (sym ((equal_keys c well_formed p other is_pattern is_other).0 same)) in
    let tests : (start stop : ℕ) → is_match s text start stop ≡ is_match (record s { pattern = other }) text start stop = λ start stop.
    let t = slice_range text start stop in
    let is_t = part_is_text start stop text is_text in
    let last : is_eq (text_order c t p) ≡ is_eq (text_order c t other) =
    same_from_decides (is_eq (text_order c t p)) (is_eq (text_order c t other))
    (equal_to c well_formed p other t is_pattern is_other is_t same, equal_to c well_formed other p t is_other is_pattern is_t turned)
    (λ h. h, λ h. h) in
    ap (λ b. s.allowed start && s.allowed stop && nat_le start stop && is_place (reading_by c) text start && is_place (reading_by c) (drop start text) (stop - start) && b) last in
    ap (λ (f : ℕ → ℕ → Bool). apart_from 0 (least_from f 0 (length text))) (same_tests (is_match s text) (is_match (record s { pattern = other }) text) 0 tests)

-- ---- equivalent patterns

same_order : (c : Collation) (t p q : List ℕ) → AreEquivalent p q → text_order c t p ≡ text_order c t q
unfolding text_order
same_order c t p q same = ap (λ (d : List ℕ). levels_order (compression_of c.tables) (form_by c) (lists_by c (nfd t)) (lists_by c d)) same

pub equivalent_patterns : (s : Search) (other : List ℕ) → AreEquivalent s.pattern other → (text : List ℕ) → found s text ≡ found (record s { pattern = other }) text
equivalent_patterns s other same text =
    let c = s.collation in
    let tests : (start stop : ℕ) → is_match s text start stop ≡ is_match (record s { pattern = other }) text start stop = λ start stop.
    let t = slice_range text start stop in
    ap (λ (o : Ordering). s.allowed start && s.allowed stop && nat_le start stop && is_place (reading_by c) text start && is_place (reading_by c) (drop start text) (stop - start) && is_eq o) (same_order c t s.pattern other same) in
    ap (λ (f : ℕ → ℕ → Bool). apart_from 0 (least_from f 0 (length text))) (same_tests (is_match s text) (is_match (record s { pattern = other }) text) 0 tests)

-- ---- strengths

tied : (o : Ordering) → ((o ≡ Equal → ⊥) → Equal ≡ o) → o ≡ Equal
tied Less h = sym (h (λ e. cc))
tied Equal h = refl
tied Greater h = sym (h (λ e. cc))

pub lower_strengths : (s : Search) (lower : Strength) → s.collation.settings.case_level ≡ false → strength_rank lower ≤ strength_rank s.collation.settings.strength
    → (text : List ℕ) (m : Span) → IsMatch s text m → IsMatch (at_strength lower s) text m
lower_strengths s lower off below text m is = record {
  ordered = is.ordered;
  within = is.within;
  allowed_start = is.allowed_start;
  allowed_stop = is.allowed_stop;
  start_place = is.start_place;
  stop_place = is.stop_place;
  equal = tied (text_order (with_strength s.collation lower) (part text m) s.pattern)
      (λ differs. sym is.equal ∙ strength_keeps s.collation (part text m) s.pattern lower s.collation.settings.strength off below differs);
}
