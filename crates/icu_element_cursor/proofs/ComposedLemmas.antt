-- A letter composed with a mark that contractions join gives before marks of lower classes what it gives at the end of
-- a text.
use Rattle.std.proofs.Common.{◌≡◌, ◌≢◌, ℕ, ◌≤◌, ◌<◌, Bool, true, false, ◌&&◌, nat_eq, nat_le, nat_lt, List, [], ◌∷◌, ◌++◌, length, drop, append-nil, append_assoc, Option, Some, None, refl, sym, ap, ◌∙◌, inl, inr, arith, flat_map, subst, eq-eqb, rules}
use Rattle.std.specs.Prelude.{bytes_eq, ⊤}
use Rattle.std.specs.List.{starts_with}
use Rattle.std.proofs.lemmas.Bool.{cases_Bool, cases_eq, and_parts, lt-ltb, ne_eqb, true≢false}
use Rattle.std.proofs.Math.Bool.{and-false}
use Rattle.icu_element_facts.proofs.JoinedPairLemmas.{no_secondary}
use Rattle.ucd_normal.specs.CanonicalCombiningClass.{canonical_combining_class as class_of}
use Rattle.ucd_normal.specs.declared.forms.Form.TheVariants.{Nfd}
use Rattle.unicode_normalization.specs.Decompose.{decompose}
use Rattle.unicode_normalization.specs.Forms.{nfd, normalize, decomposed}
use Rattle.unicode_normalization.specs.Order.{is_starter, sink}
use Rattle.unicode_normalization.proofs.OrderLemmas.{canonical_order-cons, is_reorderable_from, sink-past, sink-nil}
use Rattle.icu_table_entries.specs.declared.entry.EntryKind.TheVariants.{Digit}
use Rattle.icu_table_entries.specs.Elements.{Element}
use Rattle.icu_table_entries.specs.Entries.{kind_of}
use Rattle.icu_table_data.specs.Data.{Mapping, Context, Data, homed, plain_of, context_of, mapping_entry, is_longer, longest_from, longest_mapping}
use Rattle.icu_table_data.specs.Final.{final_elements}
use Rattle.icu_table_provider.specs.Tables.{entry_of, diacritic_of}
use Rattle.icu_element_matches.specs.Matches.{Match, after_prefix, is_blocked, with_marks, contracted, match_of}
use Rattle.icu_element_matches.proofs.ChoiceLemmas.{either, digit_by}
use Rattle.icu_element_matches.proofs.ReadAheadLemmas.{match_of-contraction}
use Rattle.icu_element_reading.specs.TextElements.{Reading, Step, entry_step, matched_step, consumed, last_two, elements_after}
use Rattle.icu_element_reading.proofs.StepLemmas.{elements_after_cons, elements_after_nil}
use Rattle.icu_element_reading.specs.boundaries.Alone.{context_after, stays_first, all_stay, rises_from}
use Rattle.icu_element_reading.proofs.boundaries.NfdLemmas.{nfd-nil, nfd-begins, nfd-stay, stays_first-rises}
use Rattle.icu_element_facts.specs.Followers.{IsComposed, JoinsAlone, NoneBeginsWithBoth, DiffersFromPair}
use Rattle.icu_element_facts.proofs.KeptBaseLemmas.{own_entry}
use Rattle.icu_element_cursor.specs.inner.MarkRuns.{Rises}
use Rattle.icu_element_reading.specs.boundaries.Places.{MayBeCut}
use Rattle.icu_element_cursor.specs.inner.Standing.{StandsBefore}
use Rattle.icu_element_cursor.proofs.StandLemmas.{cut_stands, nothing_rises, one_in_run, or_true}
use Rattle.icu_element_cursor.specs.inner.Unjoined.{BeginsNone, GoesOnNone, IsUnjoined, IsHead}
use Rattle.icu_element_cursor.specs.inner.Composed.{AreLowerMarks, AreLowerMarksBefore}
use Rattle.icu_element_cursor.proofs.UnjoinedLemmas.{none_whole, begins_whole, first_none, no_lead}

-- ---- order

-- the mark sinks behind all marks of lower classes
pub sinks_below : (context : Context) (m : ℕ) (ds : List ℕ) → AreLowerMarks context (class_of m) ds → sink m ds ≡ ds ++ m ∷ []
unfolding AreLowerMarks
sinks_below context m [] h = sink-nil m
sinks_below context m (d ∷ ds) h =
    sink-past m d ds (is_reorderable_from m d h.0.mark h.0.below)
    ∙ ap (λ (l : List ℕ). d ∷ l) (sinks_below context m ds h.1)

-- ---- the match

abbrev pub joined_match : ℕ → List ℕ → List ℕ → Match
joined_match entry suffix text = record { entry = entry; suffix = suffix; rest = text }

not_reached : (a b : ℕ) → a < b → nat_le b a ≡ false
not_reached a b h = search (arith, rules)

-- a mark of a lower class blocks no mark
still_free : (passed : List ℕ) (m d : ℕ) → class_of d < class_of m → is_blocked passed m ≡ false → is_blocked (passed ++ d ∷ []) m ≡ false
unfolding is_blocked
still_free [] m d below free = rw (not_reached (class_of d) (class_of m) below) refl
still_free (p ∷ ps) m d below free =
    elim (cases_Bool (nat_le (class_of m) (class_of p))) [
      | inl is ↦ absurd (true≢false (sym (rw is refl) ∙ free))
      | inr other ↦ rw other (still_free ps m d below (rw other at free))
    ]

-- the mark joins, wherever marks of lower classes stand before it
joins_behind : (context : Context) (entry joined m : ℕ) (passed ds : List ℕ) → is_starter m ≡ false → mapping_entry context.mappings (m ∷ []) ≡ Some joined
    → is_blocked passed m ≡ false → AreLowerMarks context (class_of m) ds
    → with_marks context.mappings entry [] passed (ds ++ m ∷ []) ≡ joined_match joined (m ∷ []) (passed ++ ds)
unfolding with_marks AreLowerMarks
joins_behind context entry joined m passed [] mark is free h = rw (mark, free, is) (ap (joined_match joined (m ∷ [])) (sym (append-nil passed)))
joins_behind context entry joined m passed (d ∷ ds) mark is free h =
    let other : is_starter d ≡ false = ne_eqb (class_of d) 0 (λ e. omega (arith, e, h.0.mark)) in
    let to : Match → Type 0 = λ n. n ≡ joined_match joined (m ∷ []) (passed ++ d ∷ ds) in
    let over : with_marks context.mappings entry [] (passed ++ d ∷ []) (ds ++ m ∷ []) ≡ joined_match joined (m ∷ []) (passed ++ d ∷ ds) =
    joins_behind context entry joined m (passed ++ d ∷ []) ds mark is (still_free passed m d h.0.below free) h.1
    ∙ ap (joined_match joined (m ∷ [])) (append_assoc passed (d ∷ []) ds) in
    rw other (either to (is_blocked passed d) _ _ over (rw (none_whole context.mappings d h.0.none.none) over))

-- ---- mappings

-- what begins one character is it, or empty
empty_one : (chars : List ℕ) (m : ℕ) → starts_with nat_eq (m ∷ []) chars ≡ true → bytes_eq chars (m ∷ []) ≡ false → chars ≡ []
empty_one [] m h other = refl
empty_one (y ∷ []) m h other = absurd (true≢false (sym h ∙ other))
empty_one (y ∷ (z ∷ zs)) m h other = absurd (true≢false (sym h ∙ and-false _))

no_longer : (chars : List ℕ) (m : ℕ) → starts_with nat_eq (m ∷ []) chars ≡ true → nat_lt 1 (length chars) ≡ false
no_longer [] m h = refl
no_longer (y ∷ []) m h = refl
no_longer (y ∷ (z ∷ zs)) m h = absurd (true≢false (sym h ∙ and-false _))

both_no : (a b : Bool) → (a ≡ true → b ≡ false) → (a && b) ≡ false
both_no true b h = h refl
both_no false b h = refl

one_long : (chars : List ℕ) (m : ℕ) → bytes_eq chars (m ∷ []) ≡ true → length chars ≡ 1
one_long [] m h = cc
one_long (y ∷ []) m h = refl
one_long (y ∷ (z ∷ zs)) m h = absurd (true≢false (sym h ∙ and-false _))

same_one : (m : ℕ) → bytes_eq (m ∷ []) (m ∷ []) ≡ true
same_one m = search rules

-- none is longer than one that is the character
stays_best : (best : Mapping) (mappings : List Mapping) (m : ℕ) → length best.chars ≡ 1 → longest_from (Some best) mappings (m ∷ []) ≡ Some best
unfolding longest_from
stays_best best [] m h = refl
stays_best best (mapping ∷ mappings) m h =
    let shorter : starts_with nat_eq (m ∷ []) mapping.chars ≡ true → is_longer mapping (Some best) ≡ false =
    λ begins. ap (λ n. nat_lt n (length mapping.chars)) h ∙ no_longer mapping.chars m begins in
    let no : (starts_with nat_eq (m ∷ []) mapping.chars && is_longer mapping (Some best)) ≡ false = both_no _ _ shorter in
    rw no (stays_best best mappings m h)

-- no mapping, or an empty one
IsSmall : Option Mapping → Type 0
IsSmall None = ⊤
IsSmall (Some best) = best.chars ≡ []

longer_than_small : (best : Option Mapping) (mapping : Mapping) → IsSmall best → length mapping.chars ≡ 1 → is_longer mapping best ≡ true
unfolding IsSmall
longer_than_small None mapping small one = refl
longer_than_small (Some best) mapping small one =
    let none : length best.chars ≡ 0 = ap length small in
    lt-ltb (length best.chars) (length mapping.chars) (omega (arith, none, one))

none_small : (best : Option Mapping) (m : ℕ) (found : Mapping) → IsSmall best → best ≡ Some found → bytes_eq found.chars (m ∷ []) ≡ true → ⊥
unfolding IsSmall
none_small None m found small h is = cc
none_small (Some best) m found small h is =
    absurd (true≢false (sym is ∙ ap (λ (l : List ℕ). bytes_eq l (m ∷ [])) (ap (λ (o : Option Mapping). elim o as (λ _. List ℕ) [ Some x ↦ x.chars | None ↦ [] ]) (sym h) ∙ small)))

-- the longest mapping of one character is the first one that is that character
exact_from : (best : Option Mapping) (mappings : List Mapping) (m : ℕ) (found : Mapping) → IsSmall best → longest_from best mappings (m ∷ []) ≡ Some found
    → bytes_eq found.chars (m ∷ []) ≡ true → mapping_entry mappings (m ∷ []) ≡ Some found.entry
unfolding longest_from mapping_entry IsSmall
exact_from best [] m found small h is = absurd (none_small best m found small h is)
exact_from best (mapping ∷ mappings) m found small h is =
    elim (cases_Bool (bytes_eq mapping.chars (m ∷ []))) [
      | inl same ↦
          let one = one_long mapping.chars m same in
          let first : longest_from best (mapping ∷ mappings) (m ∷ []) ≡ Some mapping =
          rw (begins_whole mapping.chars m same, longer_than_small best mapping small one) (stays_best mapping mappings m one) in
          rw same (ap (λ (o : Option Mapping). elim o as (λ _. Option ℕ) [ Some x ↦ Some x.entry | None ↦ None ]) (sym first ∙ h))
      | inr other ↦ rw other (elim (cases_Bool (starts_with nat_eq (m ∷ []) mapping.chars && is_longer mapping best)) [
        | inl taken ↦ exact_from (Some mapping) mappings m found (empty_one mapping.chars m (and_parts _ _ taken).0 other) (rw taken at h) is
        | inr not_taken ↦ exact_from best mappings m found small (rw not_taken at h) is
      ])
    ]

-- ---- mappings that begin with the mark

-- what begins with no two characters of a text begins it where it begins the first of them
begun_alike : (x d : ℕ) (ds chars : List ℕ) → DiffersFromPair x d chars → starts_with nat_eq (x ∷ d ∷ ds) chars ≡ starts_with nat_eq (x ∷ []) chars
begun_alike x d ds [] h = refl
begun_alike x d ds (y ∷ []) h = refl
begun_alike x d ds (y ∷ (z ∷ zs)) h =
    elim (cases_eq y x) [
      | inl same ↦ ap (λ b. nat_eq y x && (b && starts_with nat_eq ds zs)) (ne_eqb z d (h same))
      | inr other ↦ ap (λ b. b && (nat_eq z d && starts_with nat_eq ds zs)) (ne_eqb y x other) ∙ sym (ap (λ b. b && false) (ne_eqb y x other))
    ]

pub longest_past : (best : Option Mapping) (mappings : List Mapping) (x d : ℕ) (ds : List ℕ) → NoneBeginsWithBoth mappings x d
    → longest_from best mappings (x ∷ d ∷ ds) ≡ longest_from best mappings (x ∷ [])
unfolding longest_from
longest_past best [] x d ds h = refl
longest_past best (mapping ∷ mappings) x d ds h =
    let alike = begun_alike x d ds mapping.chars h.0 in
    elim (cases_Bool (starts_with nat_eq (x ∷ []) mapping.chars && is_longer mapping best)) [
      | inl taken ↦ rw (alike, taken) (longest_past (Some mapping) mappings x d ds h.1)
      | inr other ↦ rw (alike, other) (longest_past best mappings x d ds h.1)
    ]

not_both : (x d : ℕ) (chars : List ℕ) → DiffersFromPair x d chars → bytes_eq chars (x ∷ d ∷ []) ≡ false
not_both x d [] h = refl
not_both x d (y ∷ []) h = and-false (nat_eq y x)
not_both x d (y ∷ (z ∷ zs)) h =
    elim (cases_eq y x) [
      | inl same ↦ ap (λ b. nat_eq y x && (b && bytes_eq zs [])) (ne_eqb z d (h same)) ∙ and-false (nat_eq y x)
      | inr other ↦ ap (λ b. b && (nat_eq z d && bytes_eq zs [])) (ne_eqb y x other)
    ]

none_of_both : (mappings : List Mapping) (x d : ℕ) → NoneBeginsWithBoth mappings x d → mapping_entry mappings (x ∷ d ∷ []) ≡ None
unfolding mapping_entry
none_of_both [] x d h = refl
none_of_both (mapping ∷ mappings) x d h = rw (not_both x d mapping.chars h.0) (none_of_both mappings x d h.1)

-- no mark joins the mark
none_joins_both : (mappings : List Mapping) (entry x : ℕ) (passed text : List ℕ) → GoesOnNone (NoneBeginsWithBoth mappings x) text
    → with_marks mappings entry (x ∷ []) passed text ≡ joined_match entry (x ∷ []) (passed ++ text)
unfolding with_marks GoesOnNone
none_joins_both mappings entry x passed [] h = ap (joined_match entry (x ∷ [])) (sym (append-nil passed))
none_joins_both mappings entry x passed (m ∷ ms) h =
    elim (cases_Bool (is_starter m)) [
      | inl starter ↦ rw starter refl
      | inr mark ↦
          let is : Match → Type 0 = λ n. n ≡ joined_match entry (x ∷ []) (passed ++ m ∷ ms) in
          let over : with_marks mappings entry (x ∷ []) (passed ++ m ∷ []) ms ≡ joined_match entry (x ∷ []) (passed ++ m ∷ ms) =
          none_joins_both mappings entry x (passed ++ m ∷ []) ms (h.1 mark) ∙ ap (joined_match entry (x ∷ [])) (append_assoc passed (m ∷ []) ms) in
          rw mark (either is (is_blocked passed m) _ _ over (rw (none_of_both mappings x m h.0) over))
    ]

-- ---- a mapping of one character

-- what goes on with nothing takes that mapping
module _ (context : Context) (x : ℕ) (joins : JoinsAlone context x) where
  contracted_by : (ds : List ℕ) → longest_mapping context.mappings (x ∷ ds) ≡ Some joins.mapping
      → contracted context (x ∷ ds) ≡ with_marks context.mappings joins.mapping.entry (x ∷ []) [] ds
  unfolding contracted
  contracted_by ds longest =
      ap (λ (o : Option Mapping). elim o as (λ _. Match) [
        | Some mapping ↦ with_marks context.mappings mapping.entry mapping.chars [] (drop (length mapping.chars) (x ∷ ds))
        | None ↦ with_marks context.mappings context.default [] [] (x ∷ ds)
      ]) longest
      ∙ ap (λ (l : List ℕ). with_marks context.mappings joins.mapping.entry l [] (drop (length l) (x ∷ ds))) joins.chars

  longest_before : (ds : List ℕ) → GoesOnNone (NoneBeginsWithBoth context.mappings x) ds → longest_mapping context.mappings (x ∷ ds) ≡ Some joins.mapping
  unfolding GoesOnNone
  longest_before [] goes = joins.joined
  longest_before (d ∷ ds) goes = longest_past None context.mappings x d ds goes.0 ∙ joins.joined

  pub contracted_before : (ds : List ℕ) → GoesOnNone (NoneBeginsWithBoth context.mappings x) ds → contracted context (x ∷ ds) ≡ joined_match joins.mapping.entry (x ∷ []) ds
  contracted_before ds goes = contracted_by ds (longest_before ds goes) ∙ none_joins_both context.mappings joins.mapping.entry x [] ds goes

-- ---- the step

module _ (reading : Reading) (c : ℕ) (context : Context) (mark : ℕ) (h : IsComposed reading c context mark) (no_numbers : reading.numeric ≡ None) where
  abbrev base : ℕ
  base = h.base

  abbrev entry : ℕ
  entry = h.joins.mapping.entry

  abbrev home : Data
  home = (entry_of reading.tables base).home

  abbrev given : List Element
  given = elim (kind_of entry) as (λ _. List Element) [
    | Digit ↦ final_elements (homed home (plain_of home entry)) base
    | _ ↦ final_elements (homed home entry) base
  ]

  abbrev step_of : List ℕ → List Element → Step
  step_of text es = record { elements = es; suffix = mark ∷ []; rest = text }

  nonstarter : is_starter mark ≡ false
  nonstarter = ne_eqb (class_of mark) 0 h.some

  exact : mapping_entry context.mappings (mark ∷ []) ≡ Some entry
  unfolding IsSmall
  exact = exact_from None context.mappings mark h.joins.mapping tt h.joins.joined (ap (λ (l : List ℕ). bytes_eq l (mark ∷ [])) h.joins.chars ∙ same_one mark)

  contracted_behind : (ds : List ℕ) → AreLowerMarks context (class_of mark) ds → contracted context (ds ++ mark ∷ []) ≡ joined_match entry (mark ∷ []) ds
  unfolding contracted AreLowerMarks with_marks is_blocked
  contracted_behind [] below = contracted_by context mark h.joins [] h.joins.joined
  contracted_behind (d ∷ ds) below =
      ap (λ (o : Option Mapping). elim o as (λ _. Match) [
        | Some mapping ↦ with_marks context.mappings mapping.entry mapping.chars [] (drop (length mapping.chars) (d ∷ ds ++ mark ∷ []))
        | None ↦ with_marks context.mappings context.default [] [] (d ∷ ds ++ mark ∷ [])
      ]) (first_none context d (ds ++ mark ∷ []) below.0.none)
      ∙ joins_behind context context.default entry mark [] (d ∷ ds) nonstarter exact refl below

  matched : (before text left : List ℕ) → contracted context text ≡ joined_match entry (mark ∷ []) left → match_of (entry_of reading.tables base) before text ≡ joined_match entry (mark ∷ []) left
  matched before text left is =
      let at = entry_of reading.tables base in
      let own : after_prefix at before ≡ at.entry = own_entry at before h.has.begins in
      match_of-contraction at before text (ap kind_of own ∙ h.has.begins)
      ∙ ap (λ e. contracted (context_of (homed at.home e)) text) own
      ∙ ap (λ (x : Context). contracted x text) (sym h.has.same)
      ∙ is

  stepped : (ds : List ℕ) → entry_step reading home base (joined_match entry (mark ∷ []) ds) ≡ step_of ds given
  unfolding entry_step
  stepped ds = digit_by (step_of ds) (kind_of entry) _ _ _ _ (λ is. no_lead reading.numeric _ _ no_numbers) refl

  undiacritic : (text ds : List ℕ) → matched_step reading base text (joined_match entry (mark ∷ []) ds) ≡ step_of ds given
  unfolding matched_step
  undiacritic text ds = no_secondary (diacritic_of reading.tables base) _ _ h.has.no_diacritic ∙ stepped ds

  read_on : (before text left : List ℕ) → contracted context text ≡ joined_match entry (mark ∷ []) left
      → elements_after reading before (base ∷ text) ≡ given ++ elements_after reading (last_two before (base ∷ mark ∷ [])) left
  read_on before text left is =
      elements_after_cons reading before base text
      ∙ ap (λ (s : Step). s.elements ++ elements_after reading (last_two before (consumed base s)) s.rest)
      (ap (matched_step reading base text) (matched before text left is) ∙ undiacritic text left)

  decomposed_so : (front : List ℕ) → AreLowerMarks context (class_of mark) (nfd front) → nfd (c ∷ front) ≡ base ∷ nfd front ++ mark ∷ []
  unfolding normalize decomposed
  decomposed_so front below =
      nfd-begins c base (mark ∷ []) front h.decomposes (eq-eqb (class_of base) 0 h.starter)
      ∙ ap (λ (l : List ℕ). base ∷ l) (canonical_order-cons mark (flat_map (decompose Nfd) front) ∙ sinks_below context mark (nfd front) below)

  decomposed_before : (front : List ℕ) → Rises (class_of mark) front → nfd (c ∷ front) ≡ base ∷ mark ∷ nfd front
  unfolding all_stay
  decomposed_before front rises =
      let rest = flat_map (decompose Nfd) front in
      let starter : is_starter base ≡ true = eq-eqb (class_of base) 0 h.starter in
      let stays : stays_first mark rest ≡ true = stays_first-rises mark rest rises in
      let stay : all_stay (base ∷ mark ∷ []) rest ≡ true = rw (starter, stays) (or_true (is_starter mark)) in
      nfd-stay c (base ∷ mark ∷ []) front h.decomposes stay

  context_same : (before : List ℕ) → last_two before (base ∷ mark ∷ []) ≡ context_after before (decompose Nfd c)
  unfolding context_after
  context_same before = ap (context_after before) (sym h.decomposes)

  -- before a text of which it takes its mark alone it gives what it gives by itself
  stands_taking : (front text : List ℕ) → nfd (c ∷ front) ≡ base ∷ text → contracted context text ≡ joined_match entry (mark ∷ []) (nfd front)
      → (es : List Element) → StandsBefore reading c es [] → StandsBefore reading c es front
  unfolding rises_from with_marks
  stands_taking front text split is es stands = λ before.
      let after = context_after [] (decompose Nfd c) in
      let own : given ≡ es =
      sym (append-nil given)
      ∙ ap (λ (xs : List Element). given ++ xs) (sym (elements_after_nil reading (last_two [] (base ∷ mark ∷ []))))
      ∙ sym (read_on [] (mark ∷ []) [] (contracted_by context mark h.joins [] h.joins.joined))
      ∙ ap (elements_after reading []) (sym (decomposed_before [] refl ∙ ap (λ (l : List ℕ). base ∷ mark ∷ l) nfd-nil))
      ∙ stands []
      ∙ ap (λ (t : List ℕ). es ++ elements_after reading after t) nfd-nil
      ∙ ap (λ (xs : List Element). es ++ xs) (elements_after_nil reading after)
      ∙ append-nil es in
      ap (elements_after reading before) split
      ∙ read_on before text (nfd front) is
      ∙ ap (λ (xs : List Element). xs ++ elements_after reading (last_two before (base ∷ mark ∷ [])) (nfd front)) own
      ∙ ap (λ (b : List ℕ). es ++ elements_after reading b (nfd front)) (context_same before)

  -- so it is behind marks of lower classes
  pub composed_stands_before : (text : List ℕ) → AreLowerMarksBefore reading context (class_of mark) 0 text → (es : List Element) → StandsBefore reading c es [] → StandsBefore reading c es text
  composed_stands_before text b es stands =
      cut_stands reading c es text b.front b.rest b.parts b.boundary
      (stands_taking b.front (nfd b.front ++ mark ∷ []) (decomposed_so b.front b.below) (contracted_behind (nfd b.front) b.below) es stands)

  -- and before a text of which no mapping has a beginning behind the mark
  pub composed_goes : (front : List ℕ) → IsUnjoined (NoneBeginsWithBoth context.mappings mark) (class_of mark) front → (es : List Element) → StandsBefore reading c es [] → StandsBefore reading c es front
  composed_goes front u es stands =
      stands_taking front (mark ∷ nfd front) (decomposed_before front u.rises) (contracted_before context mark h.joins (nfd front) u.goes_on) es stands

-- ---- texts that may be cut behind such marks

module _ (reading : Reading) (context : Context) (k : ℕ) where
  pub below_ended : (least : ℕ) → AreLowerMarksBefore reading context k least []
  unfolding AreLowerMarks
  below_ended least = record { front = []; rest = []; parts = refl; rises = nothing_rises least; below = subst (AreLowerMarks context k) (sym nfd-nil) tt; boundary = tt }

  pub below_cut : (least c : ℕ) (text : List ℕ) → MayBeCut reading c → AreLowerMarksBefore reading context k least (c ∷ text)
  unfolding AreLowerMarks
  below_cut least c text cut = record { front = []; rest = c ∷ text; parts = refl; rises = nothing_rises least; below = subst (AreLowerMarks context k) (sym nfd-nil) tt; boundary = cut }

  pub below_more : (least c d class : ℕ) (text : List ℕ) → IsHead c d class → class ≢ 0 → least ≤ class → class < k → BeginsNone context d
      → AreLowerMarksBefore reading context k class text → AreLowerMarksBefore reading context k least (c ∷ text)
  unfolding AreLowerMarks all_stay
  below_more least c d class text h other fits below none left =
      let same : class_of d ≡ class = h.class in
      let mark : is_starter d ≡ false = ne_eqb (class_of d) 0 (λ e. other (sym same ∙ e)) in
      let split : decompose Nfd c ≡ d ∷ [] = h.heads.decomposes ∙ ap (λ (l : List ℕ). d ∷ l) (h.heads.alone mark) in
      let rest = flat_map (decompose Nfd) left.front in
      let rises : Rises (class_of d) left.front = subst (λ n. Rises n left.front) (sym same) left.rises in
      let stays : stays_first d rest ≡ true = stays_first-rises d rest rises in
      let stay : all_stay (d ∷ []) rest ≡ true = rw stays (or_true (is_starter d)) in
      record {
        front = c ∷ left.front;
        rest = left.rest;
        parts = ap (λ (l : List ℕ). c ∷ l) left.parts;
        rises = (one_in_run c d split).goes_on (λ e. other (sym same ∙ e)) least left.front (omega (arith, fits, same)) rises;
        below = subst (AreLowerMarks context k) (sym (nfd-stay c (d ∷ []) left.front split stay))
            (record { none = none; mark = omega (arith, same, other); below = omega (arith, same, below) }, left.below);
        boundary = left.boundary;
      }
