-- A character that begins contractions, before a text that goes on none of them, gives what it gives at the end of one.
use Rattle.std.proofs.Common.{◌≡◌, ◌≢◌, ℕ, ◌≤◌, Bool, true, false, ◌&&◌, nat_eq, List, [], ◌∷◌, ◌++◌, length, drop, append-nil, append_assoc, Option, Some, None, refl, sym, ap, ◌∙◌, inl, inr, flat_map, subst, eq-eqb}
use Rattle.std.specs.Prelude.{bytes_eq}
use Rattle.std.specs.List.{starts_with}
use Rattle.std.proofs.lemmas.Bool.{cases_Bool, and_from, ne_eqb, true≢false}
use Rattle.icu_element_facts.proofs.JoinedPairLemmas.{no_secondary}
use Rattle.ucd_normal.specs.CanonicalCombiningClass.{canonical_combining_class as class_of}
use Rattle.ucd_normal.specs.declared.forms.Form.TheVariants.{Nfd}
use Rattle.unicode_normalization.specs.Decompose.{decompose}
use Rattle.unicode_normalization.specs.Forms.{nfd}
use Rattle.unicode_normalization.specs.Order.{is_starter}
use Rattle.icu_table_entries.specs.declared.entry.EntryKind.TheVariants.{Digit}
use Rattle.icu_table_entries.specs.Elements.{Element}
use Rattle.icu_table_entries.specs.Entries.{kind_of}
use Rattle.icu_table_data.specs.Data.{Mapping, Context, Data, homed, plain_of, context_of, mapping_entry, is_longer, longest_from, longest_mapping}
use Rattle.icu_table_data.specs.Final.{final_elements}
use Rattle.icu_table_provider.specs.Tables.{entry_of, diacritic_of}
use Rattle.icu_element_matches.specs.Matches.{Match, after_prefix, is_blocked, with_marks, contracted, match_of}
use Rattle.icu_element_matches.proofs.ChoiceLemmas.{either, digit_by}
use Rattle.icu_element_matches.proofs.ReadAheadLemmas.{longest_from-decided, match_of-contraction}
use Rattle.icu_element_reading.specs.TextElements.{Reading, Step, entry_step, matched_step, step, consumed, last_two, elements_after}
use Rattle.icu_element_reading.specs.inner.StepsTaken.{NoneBeginsWith}
use Rattle.icu_element_reading.proofs.MappingHeadLemmas.{none_by_head, decided_by_head}
use Rattle.icu_element_reading.proofs.StepLemmas.{elements_after_cons, elements_after_nil}
use Rattle.icu_element_reading.specs.boundaries.Alone.{context_after, stays_first, all_stay}
use Rattle.icu_element_reading.proofs.boundaries.NfdLemmas.{nfd-starters, nfd-nil, nfd-begins, nfd-stay, stays_first-rises}
use Rattle.icu_element_facts.specs.Followers.{BeginsContractions}
use Rattle.icu_element_facts.proofs.KeptBaseLemmas.{own_entry}
use Rattle.icu_element_cursor.specs.inner.MarkRuns.{IsMarkItself}
use Rattle.icu_element_reading.specs.boundaries.Places.{MayBeCut}
use Rattle.icu_element_cursor.specs.inner.Standing.{StandsBefore}
use Rattle.icu_element_cursor.specs.inner.Unjoined.{BeginsNone, GoesOnNone, IsUnjoined, IsUnjoinedBefore, HeadsRun, IsHead}
use Rattle.icu_element_cursor.proofs.StandLemmas.{ends_runs, one_in_run, nothing_rises, or_true}

-- ---- mappings

still_some : (best : Mapping) (mappings : List Mapping) (text : List ℕ) → longest_from (Some best) mappings text ≡ None → ⊥
unfolding longest_from
still_some best [] text h = cc
still_some best (mapping ∷ mappings) text h =
    elim (cases_Bool (starts_with nat_eq text mapping.chars && is_longer mapping (Some best))) [
      | inl is ↦ still_some mapping mappings text (rw is at h)
      | inr other ↦ still_some best mappings text (rw other at h)
    ]

pub begins_whole : (chars : List ℕ) (m : ℕ) → bytes_eq chars (m ∷ []) ≡ true → starts_with nat_eq (m ∷ []) chars ≡ true
begins_whole [] m h = cc
begins_whole (y ∷ []) m h = h
begins_whole (y ∷ (z ∷ zs)) m h = absurd (true≢false (sym h ∙ and_false (nat_eq y m)))
  where
    and_false : (b : Bool) → (b && false) ≡ false
    and_false true = refl
    and_false false = refl

others : (mapping : Mapping) (mappings : List Mapping) (m : ℕ) → longest_mapping (mapping ∷ mappings) (m ∷ []) ≡ None → longest_mapping mappings (m ∷ []) ≡ None
unfolding longest_from
others mapping mappings m h =
    elim (cases_Bool (starts_with nat_eq (m ∷ []) mapping.chars)) [
      | inl is ↦ absurd (still_some mapping mappings (m ∷ []) (rw is at h))
      | inr other ↦ rw other at h
    ]

-- what no mapping begins with none is
pub none_whole : (mappings : List Mapping) (m : ℕ) → longest_mapping mappings (m ∷ []) ≡ None → mapping_entry mappings (m ∷ []) ≡ None
unfolding longest_from mapping_entry
none_whole [] m h = refl
none_whole (mapping ∷ mappings) m h =
    elim (cases_Bool (bytes_eq mapping.chars (m ∷ []))) [
      | inl is ↦ absurd (still_some mapping mappings (m ∷ []) (rw (begins_whole mapping.chars m is) at h))
      | inr other ↦ rw other (none_whole mappings m (others mapping mappings m h))
    ]

begins_too : (chars : List ℕ) (d : ℕ) → starts_with nat_eq [] chars ≡ true → starts_with nat_eq (d ∷ []) chars ≡ true
begins_too [] d h = refl
begins_too (y ∷ ys) d h = cc

-- nor does an empty one begin a text
pub none_of_nothing : (mappings : List Mapping) (d : ℕ) → longest_mapping mappings (d ∷ []) ≡ None → longest_mapping mappings [] ≡ None
unfolding longest_from
none_of_nothing [] d h = refl
none_of_nothing (mapping ∷ mappings) d h =
    elim (cases_Bool (starts_with nat_eq [] mapping.chars)) [
      | inl is ↦ absurd (still_some mapping mappings (d ∷ []) (rw (begins_too mapping.chars d is) at h))
      | inr other ↦ rw other (none_of_nothing mappings d (others mapping mappings d h))
    ]

-- where no mapping begins with a character, nothing that follows decides otherwise
pub apart_none : (context : Context) (d : ℕ) → NoneBeginsWith context.mappings d → BeginsNone context d
apart_none context d h = record { none = none_by_head context.mappings d [] h; decided = decided_by_head context.mappings d [] h }

-- ---- the match

abbrev pub lone_match : ℕ → List ℕ → Match
lone_match entry text = record { entry = entry; suffix = []; rest = text }

-- no mark joins nothing
none_joins : (context : Context) (entry : ℕ) (passed text : List ℕ) → GoesOnNone (BeginsNone context) text → with_marks context.mappings entry [] passed text ≡ lone_match entry (passed ++ text)
unfolding with_marks GoesOnNone
none_joins context entry passed [] h = ap (lone_match entry) (sym (append-nil passed))
none_joins context entry passed (m ∷ ms) h =
    elim (cases_Bool (is_starter m)) [
      | inl starter ↦ rw starter refl
      | inr mark ↦
          let is : Match → Type 0 = λ n. n ≡ lone_match entry (passed ++ m ∷ ms) in
          let over : with_marks context.mappings entry [] (passed ++ m ∷ []) ms ≡ lone_match entry (passed ++ m ∷ ms) =
          none_joins context entry (passed ++ m ∷ []) ms (h.1 mark) ∙ ap (lone_match entry) (append_assoc passed (m ∷ []) ms) in
          rw mark (either is (is_blocked passed m) _ _ over (rw (none_whole context.mappings m h.0.none) over))
    ]

contracted_none : (context : Context) (text : List ℕ) → longest_mapping context.mappings text ≡ None → GoesOnNone (BeginsNone context) text → contracted context text ≡ lone_match context.default text
unfolding contracted
contracted_none context text none h =
    ap (λ (o : Option Mapping). elim o as (λ _. Match) [
      | Some mapping ↦ with_marks context.mappings mapping.entry mapping.chars [] (drop (length mapping.chars) text)
      | None ↦ with_marks context.mappings context.default [] [] text
    ]) none
    ∙ none_joins context context.default [] text h

pub first_none : (context : Context) (d : ℕ) (ds : List ℕ) → BeginsNone context d → longest_mapping context.mappings (d ∷ ds) ≡ None
first_none context d ds h = longest_from-decided None context.mappings (d ∷ []) ds h.decided ∙ h.none

-- ---- the step

pub no_lead : (o : Option ℕ) (f : ℕ → Step) (y : Step) → o ≡ None → (elim o as (λ _. Step) [ None ↦ y | Some lead ↦ f lead ]) ≡ y
no_lead (Some lead) f y h = cc
no_lead None f y h = refl

module _ (reading : Reading) (c : ℕ) (context : Context) (h : BeginsContractions reading c context) (no_numbers : reading.numeric ≡ None) where
  abbrev home : Data
  home = (entry_of reading.tables c).home

  abbrev given : List Element
  given = elim (kind_of context.default) as (λ _. List Element) [
    | Digit ↦ final_elements (homed home (plain_of home context.default)) c
    | _ ↦ final_elements (homed home context.default) c
  ]

  abbrev step_of : List ℕ → List Element → Step
  step_of text es = record { elements = es; suffix = []; rest = text }

  matched : (before text : List ℕ) → contracted context text ≡ lone_match context.default text → match_of (entry_of reading.tables c) before text ≡ lone_match context.default text
  matched before text alone =
      let entry = entry_of reading.tables c in
      let own : after_prefix entry before ≡ entry.entry = own_entry entry before h.begins in
      match_of-contraction entry before text (ap kind_of own ∙ h.begins)
      ∙ ap (λ e. contracted (context_of (homed entry.home e)) text) own
      ∙ ap (λ (x : Context). contracted x text) (sym h.same)
      ∙ alone

  stepped : (text : List ℕ) → entry_step reading home c (lone_match context.default text) ≡ step_of text given
  unfolding entry_step
  stepped text = digit_by (step_of text) (kind_of context.default) _ _ _ _ (λ is. no_lead reading.numeric _ _ no_numbers) refl

  undiacritic : (text : List ℕ) → matched_step reading c text (lone_match context.default text) ≡ step_of text given
  unfolding matched_step
  undiacritic text = no_secondary (diacritic_of reading.tables c) _ _ h.no_diacritic ∙ stepped text

  taken : (before text : List ℕ) → contracted context text ≡ lone_match context.default text → step reading before c text ≡ step_of text given
  taken before text alone = ap (matched_step reading c text) (matched before text alone) ∙ undiacritic text

  read_on : (before text : List ℕ) → contracted context text ≡ lone_match context.default text
      → elements_after reading before (c ∷ text) ≡ given ++ elements_after reading (last_two before (c ∷ [])) text
  read_on before text alone =
      elements_after_cons reading before c text
      ∙ ap (λ (s : Step). s.elements ++ elements_after reading (last_two before (consumed c s)) s.rest) (taken before text alone)

  -- ---- the text

  decomposed : (text : List ℕ) → nfd (c ∷ text) ≡ c ∷ nfd text
  decomposed text = nfd-starters c (c ∷ []) text h.itself (and_from _ _ h.starter refl)

  alone_decomposed : nfd (c ∷ []) ≡ c ∷ []
  alone_decomposed = decomposed [] ∙ ap (λ (l : List ℕ). c ∷ l) nfd-nil

  context_same : (before : List ℕ) → last_two before (c ∷ []) ≡ context_after before (decompose Nfd c)
  unfolding context_after
  context_same before = ap (context_after before) (sym h.itself)

  own_are : (es : List Element) → StandsBefore reading c es [] → longest_mapping context.mappings [] ≡ None → given ≡ es
  unfolding GoesOnNone
  own_are es stands none =
      let after = context_after [] (decompose Nfd c) in
      sym (append-nil given)
      ∙ ap (λ (xs : List Element). given ++ xs) (sym (elements_after_nil reading (last_two [] (c ∷ []))))
      ∙ sym (read_on [] [] (contracted_none context [] none tt))
      ∙ ap (elements_after reading []) (sym alone_decomposed)
      ∙ stands []
      ∙ ap (λ (t : List ℕ). es ++ elements_after reading after t) nfd-nil
      ∙ ap (λ (xs : List Element). es ++ xs) (elements_after_nil reading after)
      ∙ append-nil es

  -- so it does before a text of which it matches nothing
  pub stands_alone : (es : List Element) (text left : List ℕ) → nfd text ≡ left → contracted context left ≡ lone_match context.default left → longest_mapping context.mappings [] ≡ None
      → StandsBefore reading c es [] → StandsBefore reading c es text
  stands_alone es text left is alone none stands = λ before.
      ap (elements_after reading before) (decomposed text ∙ ap (λ (l : List ℕ). c ∷ l) is)
      ∙ read_on before left alone
      ∙ ap (λ (xs : List Element). xs ++ elements_after reading (last_two before (c ∷ [])) left) (own_are es stands none)
      ∙ ap (λ (b : List ℕ). es ++ elements_after reading b left) (context_same before)
      ∙ ap (λ (t : List ℕ). es ++ elements_after reading (context_after before (decompose Nfd c)) t) (sym is)

  stands_by : (es : List Element) (text left : List ℕ) → nfd text ≡ left → StandsBefore reading c es [] → GoesOnNone (BeginsNone context) left → StandsBefore reading c es text
  unfolding GoesOnNone
  stands_by es text [] is stands goes = λ before.
      ap (elements_after reading before) (decomposed text ∙ ap (λ (l : List ℕ). c ∷ l) is ∙ sym alone_decomposed)
      ∙ stands before
      ∙ ap (λ (t : List ℕ). es ++ elements_after reading (context_after before (decompose Nfd c)) t) (nfd-nil ∙ sym is)
  stands_by es text (d ∷ ds) is stands goes =
      stands_alone es text (d ∷ ds) is (contracted_none context (d ∷ ds) (first_none context d ds goes.0) goes) (none_of_nothing context.mappings d goes.0.none) stands

  -- a text that goes on none of its contractions changes nothing
  pub unjoined_stands : (text : List ℕ) (least : ℕ) → IsUnjoined (BeginsNone context) least text → (es : List Element) → StandsBefore reading c es [] → StandsBefore reading c es text
  unjoined_stands text least unjoined es stands = stands_by es text (nfd text) refl stands unjoined.goes_on

-- ---- runs of marks

module _ (is_none : ℕ → Type 0) where
  pub ended_unjoined : (least : ℕ) → IsUnjoined is_none least []
  unfolding GoesOnNone
  ended_unjoined least = record { rises = nothing_rises least; goes_on = subst (GoesOnNone is_none) (sym nfd-nil) tt }

  pub starter_unjoined : (least c d : ℕ) (text : List ℕ) → HeadsRun c d → is_starter d ≡ true → is_none d → IsUnjoined is_none least (c ∷ text)
  unfolding GoesOnNone
  starter_unjoined least c d text h starter none = record {
    rises = ends_runs c d h.more h.decomposes starter least text;
    goes_on = subst (GoesOnNone is_none) (sym (nfd-begins c d h.more text h.decomposes starter)) (none, λ mark. absurd (true≢false (sym starter ∙ mark)));
  }

  pub mark_unjoined : (least c d : ℕ) (text : List ℕ) → HeadsRun c d → class_of d ≢ 0 → least ≤ class_of d → is_none d → IsUnjoined is_none (class_of d) text → IsUnjoined is_none least (c ∷ text)
  unfolding GoesOnNone all_stay
  mark_unjoined least c d text h other fits none left =
      let mark : is_starter d ≡ false = ne_eqb (class_of d) 0 other in
      let split : decompose Nfd c ≡ d ∷ [] = h.decomposes ∙ ap (λ (l : List ℕ). d ∷ l) (h.alone mark) in
      let rest = flat_map (decompose Nfd) text in
      let stays : stays_first d rest ≡ true = stays_first-rises d rest left.rises in
      let stay : all_stay (d ∷ []) rest ≡ true = rw stays (or_true (is_starter d)) in
      record {
        rises = (one_in_run c d split).goes_on other least text fits left.rises;
        goes_on = subst (GoesOnNone is_none) (sym (nfd-stay c (d ∷ []) text split stay)) (none, λ _. left.goes_on);
      }

-- ---- texts that may be cut behind such a run

-- a mark that decomposes to itself
pub mark_heads : (c class : ℕ) → IsMarkItself c class → IsHead c c class
mark_heads c class h = record { heads = record { more = []; decomposes = h.itself; alone = λ _. refl }; class = h.class }

module _ (reading : Reading) (is_none : ℕ → Type 0) where
  pub ended_before : (least : ℕ) → IsUnjoinedBefore reading is_none least []
  ended_before least = record { front = []; rest = []; parts = refl; unjoined = ended_unjoined is_none least; boundary = tt }

  pub cut_before : (least c : ℕ) (text : List ℕ) → MayBeCut reading c → IsUnjoinedBefore reading is_none least (c ∷ text)
  cut_before least c text cut = record { front = []; rest = c ∷ text; parts = refl; unjoined = ended_unjoined is_none least; boundary = cut }

  pub starter_before : (least c d class : ℕ) (text : List ℕ) → IsHead c d class → class ≡ 0 → is_none d → IsUnjoinedBefore reading is_none least (c ∷ text)
  starter_before least c d class text h zero none = record {
    front = c ∷ text;
    rest = [];
    parts = sym (append-nil (c ∷ text));
    unjoined = starter_unjoined is_none least c d text h.heads (eq-eqb (class_of d) 0 (h.class ∙ zero)) none;
    boundary = tt;
  }

  pub mark_before : (least c d class : ℕ) (text : List ℕ) → IsHead c d class → class ≢ 0 → least ≤ class → is_none d
      → IsUnjoinedBefore reading is_none class text → IsUnjoinedBefore reading is_none least (c ∷ text)
  mark_before least c d class text h other fits none left =
      let same : class_of d ≡ class = h.class in record {
        front = c ∷ left.front;
        rest = left.rest;
        parts = ap (λ (l : List ℕ). c ∷ l) left.parts;
        unjoined = mark_unjoined is_none least c d left.front h.heads (λ e. other (sym same ∙ e)) (subst (λ (n : ℕ). least ≤ n) (sym same) fits) none
            (subst (λ (n : ℕ). IsUnjoined is_none n left.front) (sym same) left.unjoined);
        boundary = left.boundary;
      }
