-- Characters whose characters decompose to themselves.
use Rattle.std.proofs.Common.{◌≡◌, ◌≢◌, ◌≤◌, ◌<◌, ◌+◌, ◌-◌, ◌/◌, ◌%◌, ℕ, zero, suc, true, List, [], ◌∷◌, ◌++◌, take, get_or, Option, None, IfSome, refl, sym, ap, ap₂, subst, ◌∙◌, arith}
use Rattle.std.specs.List.{list_all}
use Rattle.std.proofs.lemmas.List.Folds.{list_all-append}
use Rattle.std.proofs.lemmas.List.Concat.{flat_map-append}
use Rattle.ucd_normal.specs.declared.forms.Form.TheVariants.{Nfd}
use Rattle.unicode_normalization.specs.Decompose.{decompose}
use Rattle.unicode_normalization.specs.Hangul.{decompose_hangul}
use Rattle.unicode_normalization.specs.Order.{is_starter}
use Rattle.unicode_normalization.proofs.DecomposeLemmas.{decompose-final, decompose-syllable, is_final-jamo}
use Rattle.unicode_normalization.proofs.HangulLemmas.{is_among_from, decompose_hangul-two, decompose_hangul-three}
use Rattle.icu_table_entries.specs.Elements.{Element}
use Rattle.icu_element_reading.specs.TextElements.{Reading}
use Rattle.icu_element_reading.specs.boundaries.Alone.{elements_by_char, elements_of_char, is_alone}
use Rattle.icu_element_reading.specs.boundaries.Cuts.{IsBoundary}
use Rattle.icu_element_facts.specs.KeptFacts.{AreFirstFacts, AreTrueFacts, HasLeadingPrimary, IsNumberDigit, StandByThemselves, char_elements, first_bits}
use Rattle.icu_element_facts.specs.inner.ReadFacts.{IsOutline, LeadsBy}
use Rattle.icu_element_facts.specs.inner.Syllables.{AreOwnFacts}
use Rattle.icu_element_facts.specs.declared.char_facts.CharFacts.{CharFacts}
use Rattle.icu_element_facts.specs.declared.char_facts.FactsKind.TheVariants.{Starters}
use Rattle.icu_element_facts.proofs.KeptLemmas.{both, first as former}

head_same : (a b : ℕ) (xs ys : List ℕ) → a ∷ xs ≡ b ∷ ys → a ≡ b
head_same a b xs ys e = ap (λ (l : List ℕ). get_or l 0 0) e

pub own_none : (reading : Reading) (es : List Element) → es ≡ [] → StandByThemselves reading [] es
own_none reading es e = record { alone = refl; starters = refl; elements = e }

-- a jamo
pub own_jamo : (reading : Reading) (c : ℕ) (l : CharFacts) → 0x1100 ≤ c → c < 0x1200 → l.kind ≡ Starters → l.count ≡ 1 → AreTrueFacts reading c l → AreOwnFacts reading c l
own_jamo reading c l low high kind count is = record {
  itself = decompose-final Nfd c (is_final-jamo Nfd c low high);
  kind = kind;
  count = count;
  is = is;
}

-- one more
module _ (reading : Reading) (cs : List ℕ) (c : ℕ) (l : CharFacts) (es : List Element) (e : Element)
    (s : StandByThemselves reading cs es) (o : AreOwnFacts reading c l) (is : take 1 l.elements ≡ e ∷ []) where
  one : e ∷ [] ≡ elements_by_char reading.tables (c ∷ [])
  one =
      sym (ap (λ n. take n l.elements) o.count ∙ is)
      ∙ (o.is.starters o.kind).stands.elements
      ∙ ap (elements_by_char reading.tables) o.itself

  pub own_more : StandByThemselves reading (cs ++ c ∷ []) (es ++ e ∷ [])
  own_more = record {
    alone = list_all-append (is_alone reading) cs (c ∷ []) ∙ both _ _ s.alone (ap (list_all (is_alone reading)) (sym o.itself) ∙ (o.is.starters o.kind).stands.alone);
    starters = list_all-append is_starter cs (c ∷ []) ∙ both _ _ s.starters (ap (list_all is_starter) (sym o.itself) ∙ (o.is.starters o.kind).starters);
    elements = ap₂ (λ (xs ys : List Element). xs ++ ys) s.elements one ∙ sym (flat_map-append (elements_of_char reading.tables) cs (c ∷ []));
  }

-- its jamo (Unicode Standard, "Conjoining Jamo Behavior")
module _ (c n : ℕ) (low : n < 11172) (is : c ≡ 0xAC00 + n) where
  by_jamo : decompose Nfd c ≡ decompose_hangul c
  by_jamo = decompose-syllable Nfd c (is_among_from 0xAC00 11172 c (omega (arith, is)) (omega (arith, is, low)))

  number : c - 0xAC00 ≡ n
  number = omega (arith, is)

  vowel : 0x1161 + (c - 0xAC00) % 588 / 28 ≡ 0x1100 + (0x61 + n % 588 / 28)
  vowel = ap (λ k. 0x1161 + k % 588 / 28) number ∙ omega arith

  trailing : 0x11A7 + (c - 0xAC00) % 28 ≡ 0x1100 + (0xA7 + n % 28)
  trailing = ap (λ k. 0x11A7 + k % 28) number ∙ omega arith

  leading : 0x1100 + (c - 0xAC00) / 588 ≡ 0x1100 + n / 588
  leading = ap (λ k. 0x1100 + k / 588) number

  pub two_jamo : n % 28 ≡ 0 → decompose Nfd c ≡ (0x1100 + n / 588) ∷ (0x1100 + (0x61 + n % 588 / 28)) ∷ []
  two_jamo none = by_jamo ∙ decompose_hangul-two c (ap (λ k. k % 28) number ∙ none) ∙ ap₂ (λ l v. l ∷ v ∷ []) leading vowel

  pub three_jamo : n % 28 ≢ 0 → decompose Nfd c ≡ (0x1100 + n / 588) ∷ (0x1100 + (0x61 + n % 588 / 28)) ∷ (0x1100 + (0xA7 + n % 28)) ∷ []
  three_jamo some =
      by_jamo ∙ decompose_hangul-three c (λ e. some (sym (ap (λ k. k % 28) number) ∙ e))
      ∙ ap₂ (λ l v. l ∷ v ∷ (0x11A7 + (c - 0xAC00) % 28) ∷ []) leading vowel
      ∙ ap (λ t. (0x1100 + n / 588) ∷ (0x1100 + (0x61 + n % 588 / 28)) ∷ t ∷ []) trailing

  by_trailing : (k : ℕ) → n % 28 ≡ k → (more : List ℕ) × (decompose Nfd c ≡ (0x1100 + n / 588) ∷ more)
  by_trailing zero e = ((0x1100 + (0x61 + n % 588 / 28)) ∷ [], two_jamo e)
  by_trailing (suc k) e = ((0x1100 + (0x61 + n % 588 / 28)) ∷ (0x1100 + (0xA7 + n % 28)) ∷ [], three_jamo (λ z. absurd (omega (arith, e, z))))

  -- the first of them
  pub first_jamo : (more : List ℕ) × (decompose Nfd c ≡ (0x1100 + n / 588) ∷ more)
  first_jamo = by_trailing (n % 28) refl

-- what is known of it is known of its only character
pub own_outline : (reading : Reading) (c : ℕ) (l : CharFacts) → AreOwnFacts reading c l → IsOutline reading c l
unfolding first_bits
own_outline reading c l o = record {
  begins = λ e. former (is_starter c) true (ap (list_all is_starter) (sym o.itself) ∙ (o.is.starters o.kind).starters);
  boundary = λ e. let h = o.is.boundary e in subst (IsBoundary reading) (head_same _ _ _ _ (sym h.decomposes ∙ o.itself)) h.boundary;
  leads = λ e. let h = o.is.leads e in
      subst (λ x. LeadsBy reading x l.leading_primary) (head_same _ _ _ _ (sym h.decomposes ∙ o.itself))
      (record { element = h.element; rest = h.rest; starter = h.starter; alone = h.alone; elements = h.elements; leading = h.leading });
  head = λ e. ap first_bits (sym o.itself) ∙ o.is.head e;
}

-- and of each that decomposes to it and others
pub first_facts : (reading : Reading) (c first : ℕ) (more : List ℕ) (l : CharFacts) → decompose Nfd c ≡ first ∷ more → AreOwnFacts reading first l → AreFirstFacts reading c l
unfolding first_bits
first_facts reading c first more l dec o =
    let h = own_outline reading first l o in
    record {
      base = λ e. absurd (cc (sym o.kind ∙ e));
      head = λ e. ap first_bits dec ∙ h.head e;
      begins = λ e. record { first = first; more = more; decomposes = dec; starter = h.begins e };
      boundary = λ e. record { first = first; more = more; decomposes = dec; boundary = h.boundary e };
      leads = λ e. let k = h.leads e in record {
        first = first;
        more = more;
        element = k.element;
        rest = k.rest;
        decomposes = dec;
        starter = k.starter;
        alone = k.alone;
        elements = k.elements;
        leading = k.leading;
      };
    }

-- a character that decomposes to starters alone
pub starter_facts : (reading : Reading) (c : ℕ) (known l : CharFacts) → AreFirstFacts reading c known → StandByThemselves reading (decompose Nfd c) (char_elements l)
    → l.kind ≡ Starters → l.digit ≡ None → l.has_boundary_before ≡ known.has_boundary_before → l.begins_with_starter ≡ known.begins_with_starter
    → l.leading_primary ≡ known.leading_primary → l.head ≡ known.head → AreTrueFacts reading c l
starter_facts reading c known l h s kind no_digit boundary begins leads head = record {
  starters = λ e. record {
    stands = record { alone = s.alone; elements = s.elements };
    starters = s.starters;
  };
  marked = λ e. absurd (cc (sym kind ∙ e));
  mark = λ e. absurd (cc (sym kind ∙ e));
  base = λ e. absurd (cc (sym kind ∙ e));
  digit = subst (λ (o : Option ℕ). IfSome o (λ d. IsNumberDigit reading c d)) (sym no_digit) tt;
  begins = λ e. h.begins (sym begins ∙ e);
  boundary = λ e. h.boundary (sym boundary ∙ e);
  leads = λ e. subst (HasLeadingPrimary reading c) (sym leads) (h.leads (λ z. e (leads ∙ z)));
  head = λ e. h.head (sym boundary ∙ e) ∙ sym head;
}
