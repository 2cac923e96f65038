-- Two characters that a contraction joins give what they give by themselves before a text that goes on nothing that
-- they begin.
use Rattle.std.proofs.Common.{◌≡◌, ℕ, ◌%◌, true, List, [], ◌∷◌, ◌++◌, Option, Some, None, drop, length, append_assoc, refl, sym, ap, ap₂, ◌∙◌, flat_map, subst, eq-eqb}
use Rattle.std.proofs.lemmas.Bool.{and_from}
use Rattle.std.proofs.lemmas.Nat.Bits.{bit_at-zero}
use Rattle.std.proofs.Props.{props}
use Rattle.icu_element_facts.proofs.JoinedPairLemmas.{no_secondary, not_digit}
use Rattle.ucd_normal.specs.CanonicalCombiningClass.{canonical_combining_class as class_of}
use Rattle.ucd_normal.specs.declared.forms.Form.TheVariants.{Nfd}
use Rattle.unicode_normalization.specs.Decompose.{decompose}
use Rattle.unicode_normalization.specs.Forms.{nfd}
use Rattle.unicode_normalization.specs.Order.{is_starter}
use Rattle.icu_table_entries.specs.Elements.{Element}
use Rattle.icu_table_entries.specs.Entries.{kind_of}
use Rattle.icu_table_data.specs.Data.{Context, HomedEntry, Mapping, homed, context_of, longest_mapping}
use Rattle.icu_table_data.specs.Final.{final_elements}
use Rattle.icu_table_provider.specs.Tables.{entry_of, diacritic_of}
use Rattle.icu_element_matches.specs.Matches.{Match, after_prefix, contracted, match_of, with_marks}
use Rattle.icu_element_matches.proofs.ReadAheadLemmas.{match_of-contraction}
use Rattle.icu_element_reading.specs.TextElements.{Reading, Step, entry_step, final_step, matched_step, step, consumed, last_two, elements_after, elements_of}
use Rattle.icu_element_reading.proofs.StepLemmas.{elements_after_cons}
use Rattle.icu_element_reading.proofs.boundaries.CutPartLemmas.{parted}
use Rattle.icu_element_reading.specs.boundaries.Alone.{context_after, stays_first, all_stay}
use Rattle.icu_element_reading.specs.boundaries.Places.{BeginsAtBoundary}
use Rattle.icu_element_reading.proofs.boundaries.NfdLemmas.{nfd-starters, nfd-stay, stays_first-rises}
use Rattle.icu_element_facts.specs.FewElements.{few_elements}
use Rattle.icu_element_facts.specs.Followers.{HasNoBit, NoneBeginsWithBoth}
use Rattle.icu_element_facts.specs.KeptPairs.{IsKeptOf, IsUnjoinedPair, IsPair}
use Rattle.icu_element_facts.specs.declared.kept_pairs.KeptPair.{KeptPair}
use Rattle.icu_element_facts.proofs.KeptBaseLemmas.{own_entry}
use Rattle.icu_element_cursor.specs.Cursors.{BeginsWithPrimary}
use Rattle.icu_element_cursor.specs.inner.MarkRuns.{Rises}
use Rattle.icu_element_cursor.specs.inner.Standing.{BeginWithPrimary, BothStandBefore, PairServes, StandsBefore}
use Rattle.icu_element_cursor.specs.inner.Unjoined.{GoesOnNone, IsUnjoinedBefore}
use Rattle.icu_element_cursor.proofs.ComposedLemmas.{contracted_before, joined_match, longest_past}
use Rattle.icu_element_cursor.proofs.KeptServesLemmas.{weaker}
use Rattle.icu_element_cursor.proofs.StandLemmas.{cut_stands, elements_set, or_true}
use Rattle.icu_element_cursor.proofs.UnjoinedLemmas.{lone_match, none_of_nothing, stands_alone}

-- before a text that may be cut they give what they give before the first part
both_cut : (reading : Reading) (c x : ℕ) (es : List Element) (text front rest : List ℕ) → text ≡ front ++ rest → BeginsAtBoundary reading rest
    → BothStandBefore reading c x es front → BothStandBefore reading c x es text
both_cut reading c x es text front rest parts boundary stand = λ before.
    let after = context_after (context_after before (decompose Nfd c)) (decompose Nfd x) in
    let left = elements_after reading after (nfd rest) in
    ap (λ (t : List ℕ). elements_after reading before (nfd (c ∷ x ∷ t))) parts
    ∙ parted reading before after (c ∷ x ∷ front) rest boundary
    ∙ ap (λ (fs : List Element). fs ++ left) (stand before)
    ∙ append_assoc es (elements_after reading after (nfd front)) left
    ∙ ap (λ (fs : List Element). es ++ fs) (sym (parted reading after after front rest boundary))
    ∙ ap (λ (t : List ℕ). es ++ elements_after reading after (nfd t)) (sym parts)

-- where no bit is set, all characters have none
no_bit : (d : ℕ) → HasNoBit 0 d
no_bit d = bit_at-zero (d % 64)

none_follow : (text : List ℕ) → GoesOnNone (HasNoBit 0) text
unfolding GoesOnNone
none_follow [] = tt
none_follow (d ∷ ds) = (no_bit d, λ mark. none_follow ds)

module _ (reading : Reading) (c x k bits : ℕ) (es : List Element) (h : IsPair reading c x k bits es) where
  abbrev at : HomedEntry
  at = entry_of reading.tables c

  abbrev entry : ℕ
  entry = h.joined.joins.mapping.entry

  abbrev own : List Element
  own = final_elements (homed at.home entry) c

  abbrev goes : List ℕ → Type 0
  goes text = GoesOnNone (NoneBeginsWithBoth h.context.mappings x) text

  matched : (before text : List ℕ) → goes text → match_of at before (x ∷ text) ≡ joined_match entry (x ∷ []) text
  matched before text none =
      let begins = h.joined.begins in
      let itself : after_prefix at before ≡ at.entry = own_entry at before begins.begins in
      match_of-contraction at before (x ∷ text) (ap kind_of itself ∙ begins.begins)
      ∙ ap (λ e. contracted (context_of (homed at.home e)) (x ∷ text)) itself
      ∙ ap (λ (l : Context). contracted l (x ∷ text)) (sym begins.same)
      ∙ contracted_before h.context x h.joined.joins text none

  given : (text : List ℕ) → matched_step reading c (x ∷ text) (joined_match entry (x ∷ []) text) ≡ final_step at.home c entry (joined_match entry (x ∷ []) text)
  unfolding matched_step entry_step
  given text = no_secondary (diacritic_of reading.tables c) _ _ h.joined.begins.no_diacritic ∙ not_digit (kind_of entry) _ _ h.joined.no_digit

  taken : (before text : List ℕ) → goes text → step reading before c (x ∷ text) ≡ final_step at.home c entry (joined_match entry (x ∷ []) text)
  taken before text none = ap (matched_step reading c (x ∷ text)) (matched before text none) ∙ given text

  read_on : (before text : List ℕ) → goes text → elements_after reading before (c ∷ x ∷ text) ≡ own ++ elements_after reading (last_two before (c ∷ x ∷ [])) text
  read_on before text none =
      elements_after_cons reading before c (x ∷ text)
      ∙ ap (λ (s : Step). s.elements ++ elements_after reading (last_two before (consumed c s)) s.rest) (taken before text none)

  -- ---- the text

  split_first : (text left : List ℕ) → nfd (x ∷ text) ≡ x ∷ left → nfd (c ∷ x ∷ text) ≡ c ∷ x ∷ left
  split_first text left is =
      nfd-starters c (c ∷ []) (x ∷ text) h.joined.begins.itself (and_from _ _ h.joined.begins.starter refl) ∙ ap (λ (l : List ℕ). c ∷ l) is

  -- before marks that rise
  split_rising : (text : List ℕ) → Rises (class_of x) text → nfd (c ∷ x ∷ text) ≡ c ∷ x ∷ nfd text
  unfolding all_stay
  split_rising text rises =
      let rest = flat_map (decompose Nfd) text in
      let stays : stays_first x rest ≡ true = stays_first-rises x rest rises in
      let stay : all_stay (x ∷ []) rest ≡ true = rw stays (or_true (is_starter x)) in
      split_first text (nfd text) (nfd-stay x (x ∷ []) text h.joined.itself stay)

  -- a starter before any text
  split_starter : (text : List ℕ) → is_starter x ≡ true → nfd (c ∷ x ∷ text) ≡ c ∷ x ∷ nfd text
  split_starter text starter = split_first text (nfd text) (nfd-starters x (x ∷ []) text h.joined.itself (and_from _ _ starter refl))

  context_same : (before : List ℕ) → last_two before (c ∷ x ∷ []) ≡ context_after (context_after before (decompose Nfd c)) (decompose Nfd x)
  unfolding context_after
  context_same before = ap₂ (λ (cs xs : List ℕ). context_after (context_after before cs) xs) (sym h.joined.begins.itself) (sym h.joined.itself)

  stand_by : (text : List ℕ) → nfd (c ∷ x ∷ text) ≡ c ∷ x ∷ nfd text → GoesOnNone (HasNoBit bits) (nfd text) → BothStandBefore reading c x es text
  stand_by text split none = λ before.
      ap (elements_after reading before) split
      ∙ read_on before (nfd text) (weaker (HasNoBit bits) (NoneBeginsWithBoth h.context.mappings x) h.joined.none (nfd text) none)
      ∙ ap₂ (λ (fs : List Element) (b : List ℕ). fs ++ elements_after reading b (nfd text)) (sym h.elements) (context_same before)

  pub pair_before : (text : List ℕ) → IsUnjoinedBefore reading (HasNoBit bits) k text → BothStandBefore reading c x es text
  pair_before text u =
      both_cut reading c x es text u.front u.rest u.parts u.boundary
      (stand_by u.front (split_rising u.front (subst (λ n. Rises n u.front) (sym h.joined.class) u.unjoined.rises)) u.unjoined.goes_on)

  pub pair_anywhere : k ≡ 0 → bits ≡ 0 → (text : List ℕ) → BothStandBefore reading c x es text
  pair_anywhere lowest none text =
      stand_by text (split_starter text (eq-eqb (class_of x) 0 (h.joined.class ∙ lowest))) (subst (λ b. GoesOnNone (HasNoBit b) (nfd text)) (sym none) (none_follow (nfd text)))

-- ---- two that no contraction joins

module _ (reading : Reading) (c x bits : ℕ) (h : IsUnjoinedPair reading c x bits) where
  abbrev mappings : List Mapping
  mappings = h.context.mappings

  longest_none : (text : List ℕ) → GoesOnNone (NoneBeginsWithBoth mappings x) text → longest_mapping mappings (x ∷ text) ≡ None
  unfolding GoesOnNone
  longest_none [] none = h.not_alone
  longest_none (d ∷ ds) none = longest_past None mappings x d ds none.0 ∙ h.not_alone

  second_ends : (text : List ℕ) → with_marks mappings h.context.default [] [] (x ∷ text) ≡ lone_match h.context.default (x ∷ text)
  unfolding with_marks
  second_ends text = rw h.starter refl

  contracted_unjoined : (text : List ℕ) → GoesOnNone (NoneBeginsWithBoth mappings x) text → contracted h.context (x ∷ text) ≡ lone_match h.context.default (x ∷ text)
  unfolding contracted
  contracted_unjoined text none =
      ap (λ (o : Option Mapping). elim o as (λ _. Match) [
        | Some mapping ↦ with_marks mappings mapping.entry mapping.chars [] (drop (length mapping.chars) (x ∷ text))
        | None ↦ with_marks mappings h.context.default [] [] (x ∷ text)
      ]) (longest_none text none)
      ∙ second_ends text

  second_split : (text : List ℕ) → nfd (x ∷ text) ≡ x ∷ nfd text
  second_split text = nfd-starters x (x ∷ []) text h.itself (and_from _ _ h.starter refl)

  pub unjoined_before : (text : List ℕ) → IsUnjoinedBefore reading (HasNoBit bits) 0 text → (es : List Element) → StandsBefore reading c es [] → StandsBefore reading c es (x ∷ text)
  unjoined_before text u es stands =
      let none = weaker (HasNoBit bits) (NoneBeginsWithBoth mappings x) h.none (nfd u.front) u.unjoined.goes_on in
      cut_stands reading c es (x ∷ text) (x ∷ u.front) u.rest (ap (λ (l : List ℕ). x ∷ l) u.parts) u.boundary
      (stands_alone reading c h.context h.begins h.no_numbers es (x ∷ u.front) (x ∷ nfd u.front) (second_split u.front)
      (contracted_unjoined (nfd u.front) none) (none_of_nothing mappings x h.not_alone) stands)

-- ---- what is kept of a pair

pub pair_serves : (reading : Reading) (c x : ℕ) (p : KeptPair) → IsKeptOf reading c x p → PairServes reading c x p
pair_serves reading c x p h = record {
  before = λ joins text u. pair_before reading c x p.class p.followers (few_elements p.few) (h.joined joins) text u;
  anywhere = λ joins lowest none text. pair_anywhere reading c x p.class p.followers (few_elements p.few) (h.joined joins) lowest none text;
  unjoined = λ opens text u es stands. unjoined_before reading c x p.followers (h.unjoined opens) text u es stands;
}

pub PairServes-prop : (reading : Reading) (c x : ℕ) (p : KeptPair) → IsProp (PairServes reading c x p)
PairServes-prop reading c x p = hlevel (props, elements_set)

-- ---- the first weight

-- where a text's elements begin with these, they begin with their first primary weight
pub leading_of : (reading : Reading) (text : List ℕ) (es more : List Element) (primary : ℕ) → elements_of reading (nfd text) ≡ es ++ more → BeginWithPrimary es primary → BeginsWithPrimary reading text primary
leading_of reading text es more primary are h = record {
  element = h.element;
  rest = h.rest ++ more;
  elements = are ∙ ap (λ (fs : List Element). fs ++ more) h.elements;
  leading = h.leading;
}
