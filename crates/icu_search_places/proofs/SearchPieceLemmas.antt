-- The places and the matches of a text that is cut before a character.
use Rattle.std.proofs.Common.{◌≡◌, ℕ, zero, suc, ◌<◌, ◌≤◌, ◌+◌, ◌-◌, Bool, true, false, ◌&&◌, ◌||◌, ◌==◌, nat_le, List, [], ◌∷◌, ◌++◌, length, take, drop, get_or, refl, sym, ap, ◌∙◌, arith, inl, inr, append_assoc, length-append}
use Rattle.std.specs.Prelude.{slice_range}
use Rattle.std.specs.Ordering.{is_eq}
use Rattle.std.proofs.lemmas.Bool.{cases_Bool, cases_eq, or_left, or_right, and_from, and_left, eqb-true, eq-eqb, ne_eqb, leb-true, le-leb}
use Rattle.std.proofs.lemmas.Bool.Decides.{same_from_decides}
use Rattle.std.proofs.lemmas.List.{drop-drop, drop_at, drop-append-le, take-append-drop, take-append-le, drop_more, length-drop}
use Rattle.ucd_normal.specs.declared.forms.Form.TheVariants.{Nfd}
use Rattle.unicode_normalization.specs.Decompose.{decompose}
use Rattle.unicode_normalization.specs.Forms.{nfd}
use Rattle.icu_element_reading.specs.TextElements.{Reading}
use Rattle.icu_element_reading.proofs.boundaries.NfdLemmas.{rest_after, nfd-begins, nfd-parted}
use Rattle.icu_order_texts.specs.TextOrder.{reading_by, text_order}
use Rattle.icu_search_places.specs.SearchPlaces.{first_leads, reaches, is_place_before, is_place}
use Rattle.icu_search_places.specs.Searches.{Search, is_match}
use Rattle.icu_search_places.specs.PieceLaws.{BeginsPieces, search_behind, HasMatchesOfPieces}
use Rattle.icu_search_places.proofs.RestLemmas.{comes_to-now}
use Rattle.icu_search_places.proofs.SearchPartLemmas.{leading_at, part_has_places}
use Rattle.icu_search_places.proofs.SearchCutLemmas.{cut_rests}
use Rattle.icu_table_provider.specs.well_formed.WellFormedTables.{IsWellFormedTables}
use Rattle.icu_element_reading.specs.TextElementLaws.{IsText}
use Rattle.icu_search_places.specs.LeastMatches.{span}
use Rattle.icu_search_places.proofs.FoundLemmas.{matches_itself, test_from_match}

drop_behind : (front back : List ℕ) (i : ℕ) → drop (length front + i) (front ++ back) ≡ drop i back
drop_behind front back i = sym (drop-drop i (length front) (front ++ back)) ∙ ap (drop i) (drop_at front back (length front) refl)

module _ (reading : Reading) (c : ℕ) (cut : BeginsPieces reading c) (tail : List ℕ) where
  abbrev back : List ℕ
  back = c ∷ tail

  abbrev more : List ℕ
  more = rest_after c cut.first cut.more tail cut.decomposes cut.boundary.starter

  whole_is : (front : List ℕ) → nfd (front ++ back) ≡ nfd front ++ cut.first ∷ more
  whole_is front = nfd-parted c cut.first cut.more tail cut.decomposes cut.boundary.starter front

  back_is : nfd back ≡ cut.first ∷ more
  back_is = nfd-begins c cut.first cut.more tail cut.decomposes cut.boundary.starter

  -- of what is no longer than the second piece, the reading of the whole reaches what that of the piece does
  reaches_alike : (front left : List ℕ) → length left ≤ length (cut.first ∷ more) → reaches reading (nfd (front ++ back)) left ≡ reaches reading (nfd back) left
  reaches_alike front left fits =
      ap (λ (t : List ℕ). reaches reading t left) (whole_is front)
      ∙ cut_rests reading (nfd front) cut.first more left cut.boundary fits
      ∙ ap (λ (t : List ℕ). reaches reading t left) (sym back_is)

  -- the cut is a place
  place_there : (front : List ℕ) → is_place_before reading (front ++ back) back ≡ true
  place_there front =
      and_from (first_leads (decompose Nfd c)) (reaches reading (nfd (front ++ back)) (nfd back))
      (ap first_leads cut.decomposes ∙ cut.leading)
      (reaches_alike front (nfd back) (let same = ap length back_is in omega (arith, same))
      ∙ comes_to-now (nfd back) reading [] (nfd back))

  -- ---- behind the cut

  places_behind : (front mid left : List ℕ) → back ≡ mid ++ left → is_place_before reading (front ++ back) left ≡ is_place_before reading back left
  places_behind front mid [] parted = refl
  places_behind front mid (d ∷ ds) parted =
      elim (cases_Bool (first_leads (decompose Nfd d))) [
        | inl leading ↦
            ap (λ r. first_leads (decompose Nfd d) && r) (reaches_alike front (nfd (d ∷ ds)) (fits leading))
        | inr other ↦ and_left (first_leads (decompose Nfd d)) _ other ∙ sym (and_left (first_leads (decompose Nfd d)) _ other)
      ]
    where
      fits : first_leads (decompose Nfd d) ≡ true → length (nfd (d ∷ ds)) ≤ length (cut.first ∷ more)
      fits leading =
          let p = leading_at reading mid d ds leading in
          let same : nfd back ≡ nfd mid ++ p.first ∷ p.more = ap nfd parted ∙ p.whole_is in
          omega (arith, ap length same, ap length back_is, ap length p.back_is, length-append (nfd mid) (p.first ∷ p.more))

  pub place_behind : (front : List ℕ) (i : ℕ) → is_place reading (front ++ back) (length front + i) ≡ is_place reading back i
  place_behind front zero =
      let k = length front + 0 in
      let here : is_place_before reading (front ++ back) (drop k (front ++ back)) ≡ true = ap (is_place_before reading (front ++ back)) (drop_behind front back 0) ∙ place_there front in
      or_right (k == 0 || k == length (front ++ back)) _ here
  place_behind front (suc i) =
      let k = length front + suc i in
      let whole = front ++ back in
      let inner = is_place_before reading whole (drop k whole) in
      let later : k ≡ 0 → ⊥ = λ e. omega (arith, e) in
      let not_first : suc i ≡ 0 → ⊥ = λ e. omega (arith, e) in
      let ends : (k == length whole) ≡ (suc i == length back) =
      same_from_decides (k == length whole) (suc i == length back)
      (λ h. omega (arith, eqb-true k (length whole) h, length-append front back), λ e. eq-eqb k (length whole) (omega (arith, e, length-append front back)))
      (λ h. eqb-true (suc i) (length back) h, λ e. eq-eqb (suc i) (length back) e) in
      ap (λ b. b || k == length whole || inner) (ne_eqb k 0 later)
      ∙ ap (λ b. b || inner) ends
      ∙ ap (λ b. suc i == length back || b)
      (ap (is_place_before reading whole) (drop_behind front back (suc i)) ∙ places_behind front (take (suc i) back) (drop (suc i) back) (sym (take-append-drop (suc i) back)))
      ∙ ap (λ b. b || suc i == length back || is_place_before reading back (drop (suc i) back)) (sym (ne_eqb (suc i) 0 not_first))

  -- ---- before the cut

  inner_before : (front : List ℕ) (i : ℕ) → i < length front → is_place_before reading (front ++ back) (drop i (front ++ back)) ≡ is_place_before reading front (drop i front)
  inner_before front i inside =
      let d = get_or front i 0 in
      let ds = drop (i + 1) front in
      let rest : drop i front ≡ d ∷ ds = drop_more front i 0 inside in
      let first = take i front in
      let parted : first ++ d ∷ ds ≡ front = ap (λ (l : List ℕ). first ++ l) (sym rest) ∙ take-append-drop i front in
      let whole : first ++ (d ∷ ds ++ back) ≡ front ++ back = sym (append_assoc first (d ∷ ds) back) ∙ ap (λ (l : List ℕ). l ++ back) parted in
      let left : drop i (front ++ back) ≡ d ∷ ds ++ back = drop-append-le i front back (omega (arith, inside)) ∙ ap (λ (l : List ℕ). l ++ back) rest in
      let there : is_place_before reading (first ++ (d ∷ ds ++ back)) back ≡ true = ap (λ (t : List ℕ). is_place_before reading t back) whole ∙ place_there front in
      ap (is_place_before reading (front ++ back)) left
      ∙ ap (λ (t : List ℕ). is_place_before reading t (d ∷ ds ++ back)) (sym whole)
      ∙ part_has_places reading first d ds back there
      ∙ ap (λ (t : List ℕ). is_place_before reading t (d ∷ ds)) parted
      ∙ ap (is_place_before reading front) (sym rest)

  pub place_before : (front : List ℕ) (i : ℕ) → i ≤ length front → is_place reading (front ++ back) i ≡ is_place reading front i
  place_before front i fits =
      let whole = front ++ back in
      elim (cases_eq i (length front)) [
        | inl at ↦
            let left : drop i whole ≡ back = drop_at front back i (sym at) in
            let here : is_place_before reading whole (drop i whole) ≡ true = ap (is_place_before reading whole) left ∙ place_there front in
            or_right (i == 0 || i == length whole) (is_place_before reading whole (drop i whole)) here
            ∙ sym (or_left (i == 0 || i == length front) (is_place_before reading front (drop i front)) (or_right (i == 0) (i == length front) (eq-eqb i (length front) at)))
        | inr other ↦
            let inside : i < length front = omega (arith, other, fits) in
            let no_end : i ≡ length whole → ⊥ = λ e. omega (arith, e, inside, length-append front back) in
            ap (λ b. i == 0 || b || is_place_before reading whole (drop i whole)) (ne_eqb i (length whole) no_end)
            ∙ ap (λ b. i == 0 || false || b) (inner_before front i inside)
            ∙ ap (λ b. i == 0 || b || is_place_before reading front (drop i front)) (sym (ne_eqb i (length front) other))
      ]

-- ---- matches

minus_both : (k a b : ℕ) → (k + b) - (k + a) ≡ b - a
minus_both k a b = omega arith

not_above : (k a b : ℕ) → nat_le (k + a) (k + b) ≡ nat_le a b
not_above k a b =
    same_from_decides (nat_le (k + a) (k + b)) (nat_le a b)
    (λ h. omega (arith, leb-true (k + a) (k + b) h), λ h. le-leb (k + a) (k + b) (omega (arith, h)))
    (λ h. leb-true a b h, λ h. le-leb a b h)

-- the test of a match, by what it tests
abbrev tested : Search → ℕ → ℕ → Bool → Bool → Bool → List ℕ → Bool
tested s start stop order first last part = s.allowed start && s.allowed stop && order && first && last && is_eq (text_order s.collation part s.pattern)

matches_behind : (s : Search) (c : ℕ) → BeginsPieces (reading_by s.collation) c → (front tail : List ℕ) (start stop : ℕ)
    → is_match s (front ++ c ∷ tail) (length front + start) (length front + stop) ≡ is_match (search_behind (length front) s) (c ∷ tail) start stop
matches_behind s c cut front tail start stop =
    let k = length front in
    let reading = reading_by s.collation in
    let back = c ∷ tail in
    let whole = front ++ back in
    let rest = drop_behind front back start in
    let size = minus_both k start stop in
    let test = tested s (k + start) (k + stop) in
    let first = is_place reading whole (k + start) in
    let last = is_place reading (drop (k + start) whole) ((k + stop) - (k + start)) in
    let chars = slice_range whole (k + start) (k + stop) in
    ap (λ b. test b first last chars) (not_above k start stop)
    ∙ ap (λ b. test (nat_le start stop) b last chars) (place_behind reading c cut tail front start)
    ∙ ap (λ (t : List ℕ). test (nat_le start stop) (is_place reading back start) (is_place reading t ((k + stop) - (k + start))) (take ((k + stop) - (k + start)) t)) rest
    ∙ ap (λ n. test (nat_le start stop) (is_place reading back start) (is_place reading (drop start back) n) (take n (drop start back))) size

matches_before : (s : Search) (c : ℕ) → BeginsPieces (reading_by s.collation) c → (front tail : List ℕ) (start stop : ℕ) → stop ≤ length front
    → is_match s (front ++ c ∷ tail) start stop ≡ is_match s front start stop
matches_before s c cut front tail start stop fits =
    let reading = reading_by s.collation in
    let back = c ∷ tail in
    let whole = front ++ back in
    let n = stop - start in
    let first = is_place reading whole start in
    let last = is_place reading (drop start whole) n in
    let chars = slice_range whole start stop in
    elim (cases_Bool (nat_le start stop)) [
      | inl ordered ↦
          let below : start ≤ length front = omega (arith, leb-true start stop ordered, fits) in
          let rest : drop start whole ≡ drop start front ++ back = drop-append-le start front back below in
          let room : n ≤ length (drop start front) = omega (arith, fits, length-drop start front) in
          let test = tested s start stop (nat_le start stop) in
          ap (λ b. test b last chars) (place_before reading c cut tail front start below)
          ∙ ap (λ (t : List ℕ). test (is_place reading front start) (is_place reading t n) (take n t)) rest
          ∙ ap (λ b. test (is_place reading front start) b (take n (drop start front ++ back))) (place_before reading c cut tail (drop start front) n room)
          ∙ ap (λ (t : List ℕ). test (is_place reading front start) (is_place reading (drop start front) n) t) (take-append-le n (drop start front) back room)
      | inr turned ↦
          let none : (f l : Bool) (part : List ℕ) → tested s start stop (nat_le start stop) f l part ≡ false = λ f l part.
          ap (λ b. tested s start stop b f l part) turned ∙ never (s.allowed start && s.allowed stop) f l (is_eq (text_order s.collation part s.pattern)) in
          none first last chars ∙ sym (none (is_place reading front start) (is_place reading (drop start front) n) (slice_range front start stop))
    ]
  where
    never : (a f l e : Bool) → (a && false && f && l && e) ≡ false
    never true f l e = refl
    never false f l e = refl

pub search_is_local : (s : Search) (c : ℕ) → BeginsPieces (reading_by s.collation) c → (front tail : List ℕ) → HasMatchesOfPieces s front (c ∷ tail)
search_is_local s c cut front tail = record {
  before = matches_before s c cut front tail;
  from_behind = matches_behind s c cut front tail;
}

-- a pattern where it stands
pub matches_there : (s : Search) → IsWellFormedTables s.collation.tables → (p : ℕ) (ps : List ℕ) → s.pattern ≡ p ∷ ps → IsText (p ∷ ps)
    → BeginsPieces (reading_by s.collation) p → (c : ℕ) → BeginsPieces (reading_by s.collation) c → (front tail : List ℕ)
    → s.allowed (length front) ≡ true → s.allowed (length front + length (p ∷ ps)) ≡ true
    → is_match s (front ++ (p ∷ ps ++ c ∷ tail)) (length front) (length front + length (p ∷ ps)) ≡ true
matches_there s well_formed p ps is is_text begins c ends front tail first last =
    let n = length (p ∷ ps) in
    let k = length front in
    let from_behind = search_behind k s in
    let searched : Search = record from_behind { pattern = p ∷ ps } in
    let whole = front ++ (p ∷ ps ++ c ∷ tail) in
    let none : k + 0 ≡ k = omega arith in
    let itself : is_match searched (p ∷ ps) 0 n ≡ true =
    test_from_match searched (p ∷ ps) (span 0 n) (matches_itself searched well_formed is_text (ap s.allowed none ∙ first) last) in
    ap (λ start. is_match s whole start (k + n)) (sym none)
    ∙ matches_behind s p begins front (ps ++ c ∷ tail) 0 n
    ∙ matches_before from_behind c ends (p ∷ ps) tail 0 n (omega arith)
    ∙ ap (λ (pattern : List ℕ). is_match (record from_behind { pattern = pattern }) (p ∷ ps) 0 n) is
    ∙ itself
