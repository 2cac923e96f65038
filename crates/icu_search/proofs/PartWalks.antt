-- A walk along a text from a place of it: what it has passed, and what the part behind it tells.
use Rattle.std.proofs.Common.{◌≡◌, ℕ, ◌+◌, ◌-◌, ◌<◌, ◌≤◌, Bool, true, false, ◌&&◌, nat_le, List, [], ◌∷◌, ◌++◌, Option, Some, None, length, take, drop, refl, sym, ap, ◌∙◌, subst, arith, inl, inr, append_assoc, length-append}
use Rattle.std.specs.Prelude.{slice_range}
use Rattle.std.specs.Option.{option_map}
use Rattle.std.proofs.lemmas.Bool.{cases_Bool, cases_lt, and_from, and_parts, le-leb}
use Rattle.std.proofs.lemmas.List.{length-drop, take_at, append-nil}
use Rattle.std.proofs.Math.Bool.{and-false}
use Rattle.unicode_normalization.specs.Forms.{nfd}
use Rattle.icu_table_entries.specs.Elements.{Element}
use Rattle.icu_element_reading.specs.TextElements.{Reading, elements_of}
use Rattle.icu_order_texts.specs.weighting.Collations.{Collation}
use Rattle.icu_order_texts.specs.TextOrder.{reading_by}
use Rattle.icu_search_places.specs.LeastMatches.{span, shortest_from}
use Rattle.icu_search_places.specs.SearchPlaces.{is_place}
use Rattle.icu_search_places.specs.Searches.{Search, is_match}
use Rattle.icu_search_places.specs.declared.place_reader.place_reader.PlaceReader.{PlaceReader}
use Rattle.icu_search_places.specs.place_reader.PlaceReaders.{HasPassed, PassesChar, chars_left, elements_read, places_reading}
use Rattle.icu_search.specs.inner.EqualParts.{equals_pattern, ends_match}
use Rattle.icu_search.proofs.ShortestLemmas.{NoneTo, none_found, one_found, none_more, none_at_start}
use Rattle.icu_search.specs.inner.PartLevels.{HasGone, RulesOut}
use Rattle.icu_search.specs.inner.PartOutcomes.{AreItsLevels}
use Rattle.icu_search.specs.declared.pattern_levels.PartLevels.{PartLevels}
use Rattle.icu_search.proofs.LongerPartLemmas.{lists_grow, elements_grow}

-- ---- the test of a match

never : (a e : Bool) → (a && false && e) ≡ false
never true e = refl
never false e = refl

never_first : (a p e : Bool) → (a && false && p && e) ≡ false
never_first true p e = refl
never_first false p e = refl

none_allowed : (b o p q e : Bool) → (false && b && o && p && q && e) ≡ false
none_allowed b o p q e = refl

-- of the end, or of the part
ends_not : (a o p q b e : Bool) → (b && e) ≡ false → (a && b && o && p && q && e) ≡ false
ends_not false o p q b e h = refl
ends_not true o p q false e h = refl
ends_not true o p q true e h = ap (λ (x : Bool). o && p && q && x) h ∙ and-false (o && p && q)

module _ (s : Search) (text : List ℕ) (start : ℕ) where
  abbrev c : Collation
  c = s.collation

  abbrev pattern : List ℕ
  pattern = s.pattern

  abbrev rest : List ℕ
  rest = drop start text

  abbrev matches : ℕ → ℕ → Bool
  matches = is_match s text

  pub no_place : (stop : ℕ) → is_place (reading_by c) rest (stop - start) ≡ false → matches start stop ≡ false
  no_place stop not =
      ap (λ b. s.allowed start && s.allowed stop && nat_le start stop && is_place (reading_by c) text start && b && equals_pattern s (slice_range text start stop)) not
      ∙ never (s.allowed start && s.allowed stop && nat_le start stop && is_place (reading_by c) text start) (equals_pattern s (slice_range text start stop))

  -- no match ends there
  pub not_ended : (stop : ℕ) → ends_match s (slice_range text start stop) stop ≡ false → matches start stop ≡ false
  not_ended stop not =
      ends_not (s.allowed start) (nat_le start stop) (is_place (reading_by c) text start) (is_place (reading_by c) rest (stop - start)) (s.allowed stop) (equals_pattern s (slice_range text start stop)) not

  pub matches_there : (stop : ℕ) → start ≤ stop → s.allowed start ≡ true → is_place (reading_by c) text start ≡ true → is_place (reading_by c) rest (stop - start) ≡ true
      → ends_match s (slice_range text start stop) stop ≡ true → matches start stop ≡ true
  matches_there stop ordered allowed first last ends =
      let both = and_parts (s.allowed stop) (equals_pattern s (slice_range text start stop)) ends in
      and_from _ _ (and_from _ _ (and_from _ _ (and_from _ _ (and_from _ _ allowed both.0) (le-leb start stop ordered)) first) last) both.1

  -- where no place is no match begins
  pub no_start : is_place (reading_by c) text start ≡ false → start ≤ length text → option_map (span start) None ≡ shortest_from matches start start (length text - start)
  no_start not ordered = sym (none_found matches start (length text) ordered (λ t from to. begins_not t))
    where
      begins_not : (t : ℕ) → matches start t ≡ false
      begins_not t =
          ap (λ b. s.allowed start && s.allowed t && nat_le start t && b && is_place (reading_by c) rest (t - start) && equals_pattern s (slice_range text start t)) not
          ∙ never_first (s.allowed start && s.allowed t && nat_le start t) (is_place (reading_by c) rest (t - start)) (equals_pattern s (slice_range text start t))

  -- nor where none may
  pub not_allowed : s.allowed start ≡ false → start ≤ length text → option_map (span start) None ≡ shortest_from matches start start (length text - start)
  not_allowed not ordered = sym (none_found matches start (length text) ordered (λ t from to. begins_not t))
    where
      begins_not : (t : ℕ) → matches start t ≡ false
      begins_not t =
          ap (λ b. b && s.allowed t && nat_le start t && is_place (reading_by c) text start && is_place (reading_by c) rest (t - start) && equals_pattern s (slice_range text start t)) not

  -- the empty part is the shortest one
  empty_place : is_place (reading_by c) rest (start - start) ≡ true
  empty_place = let none : start - start ≡ 0 = omega arith in ap (is_place (reading_by c) rest) none

  empty_part : slice_range text start start ≡ []
  empty_part = let none : start - start ≡ 0 = omega arith in ap (λ n. take n rest) none

  pub empty_matches : is_place (reading_by c) text start ≡ true → s.allowed start ≡ true → equals_pattern s [] ≡ true → start ≤ length text
      → option_map (span start) (Some start) ≡ shortest_from matches start start (length text - start)
  empty_matches first allowed equal ordered =
      let ends : ends_match s (slice_range text start start) start ≡ true = and_from _ _ allowed (ap (equals_pattern s) empty_part ∙ equal) in
      sym (one_found matches start (length text) start (omega arith) ordered (matches_there start (omega arith) allowed first empty_place ends) (λ t from before. absurd (omega (arith, from, before))))

  -- where the empty text isn't equal to the pattern it doesn't match
  pub empty_matches_not : equals_pattern s [] ≡ false → matches start start ≡ false
  empty_matches_not not =
      not_ended start (ap (λ b. s.allowed start && b) (ap (equals_pattern s) empty_part ∙ not) ∙ and-false (s.allowed start))

  -- ---- the walk

  -- the elements of each part that ends behind an offset begin with these
  abbrev GrowFrom : ℕ → List Element → Type 0
  GrowFrom stop es =
      (t : ℕ) → stop < t → t ≤ length text → is_place (reading_by c) rest (t - start) ≡ true
      → (more : List Element) × (elements_of (reading_by c) (nfd (slice_range text start t)) ≡ es ++ more)

  -- the levels have gone along elements with which those of each longer part begin
  pub record WalkedAlong (v : PartLevels) (stop : ℕ) : Type 0 where
    pub elements : List Element
    pub gone : HasGone s v elements
    pub grow : GrowFrom stop elements

  pub along_begins : (v : PartLevels) (stop : ℕ) → HasGone s v [] → WalkedAlong v stop
  along_begins v stop gone = record { elements = []; gone = gone; grow = λ t after before there. (elements_of (reading_by c) (nfd (slice_range text start t)), refl) }

  module _ {I : Type 0} (steps : I → Option ℕ → I → Type 0) where
    -- it has come to an offset, and none of those up to there ends a match
    pub record WalkedTo (r : PlaceReader I) (stop : ℕ) : Type 0 where
      pub front : List ℕ
      pub passed : HasPassed steps r front
      pub whole : front ++ chars_left r ≡ rest
      pub stop_is : stop ≡ start + length front
      pub none : NoneTo matches start stop

    pub walk_begins : (r : PlaceReader I) → HasPassed steps r [] → chars_left r ≡ rest → matches start start ≡ false → WalkedTo r start
    walk_begins r passed left not = record {
      front = [];
      passed = passed;
      whole = left;
      stop_is = omega arith;
      none = none_at_start matches start not;
    }

    module _ (old new : PlaceReader I) (stop : ℕ) (here : Bool) (w : WalkedTo old stop) (reads : places_reading old ≡ reading_by c) (p : PassesChar steps old w.front here new) where
      abbrev passed_now : List ℕ
      passed_now = w.front ++ p.char ∷ []

      now_whole : passed_now ++ chars_left new ≡ rest
      now_whole = append_assoc w.front (p.char ∷ []) (chars_left new) ∙ ap (λ (l : List ℕ). w.front ++ l) (sym p.left_is) ∙ w.whole

      now_length : (stop + 1) - start ≡ length passed_now
      now_length = omega (arith, w.stop_is, length-append w.front (p.char ∷ []))

      part_is : slice_range text start (stop + 1) ≡ passed_now
      part_is = ap (λ n. take n rest) now_length ∙ ap (take (length passed_now)) (sym now_whole) ∙ take_at passed_now (chars_left new) (length passed_now) refl

      place_is : here ≡ is_place (reading_by c) rest ((stop + 1) - start)
      place_is =
          let at : length w.front + 1 ≡ (stop + 1) - start = omega (arith, w.stop_is) in
          p.here_is ∙ ap (λ (r : Reading). is_place r (w.front ++ chars_left old) (length w.front + 1)) reads
          ∙ ap (λ (l : List ℕ). is_place (reading_by c) l (length w.front + 1)) w.whole
          ∙ ap (is_place (reading_by c) rest) at

      within : stop + 1 ≤ length text
      within =
          let size = ap length now_whole in
          omega (arith, size, length-append passed_now (chars_left new), length-append w.front (p.char ∷ []), length-drop start text, w.stop_is)

      not_here : (here ≡ true → ends_match s (slice_range text start (stop + 1)) (stop + 1) ≡ false) → matches start (stop + 1) ≡ false
      not_here told =
          elim (cases_Bool here) [
            | inl is ↦ not_ended (stop + 1) (told is)
            | inr not ↦ no_place (stop + 1) (sym place_is ∙ not)
          ]

      pub walk_on : (here ≡ true → ends_match s (slice_range text start (stop + 1)) (stop + 1) ≡ false) → WalkedTo new (stop + 1)
      walk_on told = record {
        front = passed_now;
        passed = p.passed;
        whole = now_whole;
        stop_is = omega (arith, w.stop_is, length-append w.front (p.char ∷ []));
        none = none_more matches start stop w.none (not_here told);
      }

      pub walk_matches : is_place (reading_by c) text start ≡ true → s.allowed start ≡ true → here ≡ true → ends_match s (slice_range text start (stop + 1)) (stop + 1) ≡ true
          → option_map (span start) (Some (stop + 1)) ≡ shortest_from matches start start (length text - start)
      walk_matches first allowed is equal =
          let after : start ≤ stop + 1 = omega (arith, w.stop_is) in
          sym (one_found matches start (length text) (stop + 1) after within (matches_there (stop + 1) after allowed first (sym place_is ∙ is) equal)
          (λ t from before. w.none t from (omega (arith, before))))

      -- the elements of the part
      pub part_elements : here ≡ true → elements_read new ≡ elements_of (reading_by c) (nfd (slice_range text start (stop + 1)))
      part_elements is =
          p.elements is ∙ ap (λ (r : Reading). elements_of r (nfd passed_now)) reads ∙ ap (λ (l : List ℕ). elements_of (reading_by c) (nfd l)) (sym part_is)

      no_longer : here ≡ true → RulesOut s (slice_range text start (stop + 1)) → (t : ℕ) → stop + 1 < t → t ≤ length text → matches start t ≡ false
      no_longer is none t after before =
          let i = (stop + 1) - start in
          let j = t - start in
          let rises : i < j = omega (arith, after, w.stop_is) in
          let some : 0 < i = omega (arith, w.stop_is) in
          let room : j ≤ length rest = omega (arith, before, length-drop start text) in
          elim (cases_Bool (is_place (reading_by c) rest j)) [
            | inl there ↦
                let grown = lists_grow c rest i j some rises room (sym place_is ∙ is) there in
                not_ended t (ap (λ b. s.allowed t && b) (none (take j rest) grown.0 grown.1) ∙ and-false (s.allowed t))
            | inr not ↦ no_place t not
          ]

      pub walk_stops : here ≡ true → RulesOut s (slice_range text start (stop + 1)) × (ends_match s (slice_range text start (stop + 1)) (stop + 1) ≡ false)
          → option_map (span start) None ≡ shortest_from matches start start (length text - start)
      walk_stops is told =
          let so_far : NoneTo matches start (stop + 1) = none_more matches start stop w.none (not_here (λ _. told.1)) in
          let after : start ≤ length text = omega (arith, within, w.stop_is) in
          sym (none_found matches start (length text) after (λ t from to. elim (cases_lt (stop + 1) t) as (λ _. matches start t ≡ false) [
            | inl behind ↦ no_longer is told.0 t behind to
            | inr before ↦ so_far t from before
          ]))

      -- ---- the weights of the part

      abbrev part : List ℕ
      part = slice_range text start (stop + 1)

      -- the elements of a longer part begin with those of this one
      grows : here ≡ true → GrowFrom (stop + 1) (elements_of (reading_by c) (nfd part))
      grows is t after before there =
          elements_grow (reading_by c) rest ((stop + 1) - start) (t - start) (omega (arith, w.stop_is)) (omega (arith, after, w.stop_is)) (omega (arith, before, length-drop start text)) (sym place_is ∙ is) there

      module _ (v : PartLevels) (u : PartLevels) (elements : List Element) (along : WalkedAlong v stop) (read : elements ≡ elements_read new)
          (on : (es more : List Element) → HasGone s v es → here ≡ true → elements ≡ es ++ more → HasGone s u elements)
          (stays : (es : List Element) → HasGone s v es → here ≡ false → HasGone s u es) where
        gone_here : here ≡ true → HasGone s u (elements_of (reading_by c) (nfd part))
        gone_here is =
            let whole : elements ≡ elements_of (reading_by c) (nfd part) = read ∙ part_elements is in
            let more = along.grow (stop + 1) (omega arith) within (sym place_is ∙ is) in
            subst (HasGone s u) whole (on along.elements more.0 along.gone is (whole ∙ more.1))

        -- the levels have gone along the elements of the part
        pub its_levels : here ≡ true → AreItsLevels s part here u
        its_levels is = record { place = is; gone = gone_here is }

        pub walks_along : WalkedAlong u (stop + 1)
        walks_along =
            elim (cases_Bool here) [
              | inl is ↦ record { elements = elements_of (reading_by c) (nfd part); gone = gone_here is; grow = grows is }
              | inr not ↦ record { elements = along.elements; gone = stays along.elements along.gone not; grow = λ t after. along.grow t (omega (arith, after)) }
            ]

    -- no character is left
    pub walk_ends : (r : PlaceReader I) (stop : ℕ) → WalkedTo r stop → start ≤ length text → chars_left r ≡ [] → option_map (span start) None ≡ shortest_from matches start start (length text - start)
    walk_ends r stop w ordered none =
        let all : w.front ≡ rest = sym (append-nil w.front) ∙ ap (λ (l : List ℕ). w.front ++ l) (sym none) ∙ w.whole in
        let at : stop ≡ length text = omega (arith, w.stop_is, ap length all, length-drop start text, ordered) in
        sym (none_found matches start (length text) ordered (λ t from to. w.none t from (omega (arith, to, at))))
