-- Mappings that ascend: which one a text begins with, and which one it is.
use Rattle.std.proofs.Common.{◌≡◌, ℕ, zero, suc, ◌+◌, ◌<◌, true, false, ◌&&◌, List, [], ◌∷◌, length, Option, Some, None, refl, sym, ap, subst, ◌∙◌, arith, inl, inr, bytes_eq}
use Rattle.std.specs.Prelude.{slice_get, nat_eq}
use Rattle.std.specs.List.{starts_with}
use Rattle.std.proofs.lemmas.Bool.{and_parts, and_from, cases_Bool, cases_eq, cases_lt, cases_order, lt-ltb, false≢true}
use Rattle.icu_table_data.proofs.CollectedWeightLemmas.{same_bool}
use Rattle.icu_table_data.specs.Contexts.{is_before, ascend_from}
use Rattle.icu_table_data.specs.Data.{Mapping, mapping_entry, is_longer, better, longest_from}
use Rattle.icu_element_matches.specs.inner.Beginnings.{common_beginning}
use Rattle.icu_element_matches.specs.inner.Mappings.{IsUpTo, ComeAfter, SplitsMappings}
use Rattle.icu_element_matches.proofs.CharacterOrderLemmas.{before_trans, not_before_back, not_before_itself, before_differs, same_lists, beginning_not_after, shorter_before, begins_common, begins_whole}

-- ---- a mapping by its index

or_else : Mapping → Option Mapping → Mapping
or_else d (Some r) = r
or_else d None = d

same_value : (r s : Mapping) → Some r ≡ Some s → r ≡ s
unfolding or_else
same_value r s e = ap (or_else r) e

pub same_mapping : (o : Option Mapping) (r s : Mapping) → o ≡ Some r → o ≡ Some s → r ≡ s
same_mapping o r s h k = same_value r s (sym h ∙ k)

-- ---- mappings that ascend

-- the mappings come after what they ascend from
pub ascends : (last : List ℕ) (mappings : List Mapping) (j : ℕ) (b : Mapping) → ascend_from last mappings ≡ true → slice_get mappings j ≡ Some b → is_before last b.chars ≡ true
unfolding ascend_from
ascends last [] j b h k = cc
ascends last (x ∷ xs) zero b h k =
    subst (λ (r : Mapping). is_before last r.chars ≡ true) (same_value x b k) (and_parts _ _ h).0
ascends last (x ∷ xs) (suc j) b h k =
    let parts = and_parts (is_before last x.chars) (ascend_from x.chars xs) h in
    before_trans last x.chars b.chars parts.0 (ascends x.chars xs j b parts.1 k)

-- a mapping comes before each later one
pub ascending_at : (last : List ℕ) (mappings : List Mapping) (i j : ℕ) (a b : Mapping) → ascend_from last mappings ≡ true → i < j → slice_get mappings i ≡ Some a → slice_get mappings j ≡ Some b → is_before a.chars b.chars ≡ true
unfolding ascend_from
ascending_at last [] i j a b h less p q = cc
ascending_at last (x ∷ xs) i zero a b h less p q = absurd (omega (arith, less))
ascending_at last (x ∷ xs) zero (suc j) a b h less p q =
    let parts = and_parts (is_before last x.chars) (ascend_from x.chars xs) h in
    subst (λ (r : Mapping). is_before r.chars b.chars ≡ true) (same_value x a p) (ascends x.chars xs j b parts.1 q)
ascending_at last (x ∷ xs) (suc i) (suc j) a b h less p q =
    let parts = and_parts (is_before last x.chars) (ascend_from x.chars xs) h in
    ascending_at x.chars xs i j a b parts.1 (omega (arith, less)) p q

-- ---- halving

module _ (mappings : List Mapping) (text : List ℕ) (ascend : ascend_from [] mappings ≡ true) (middle : ℕ) (mapping : Mapping) (at : slice_get mappings middle ≡ Some mapping) where
  pub after_middle : is_before text mapping.chars ≡ true → ComeAfter mappings text middle
  after_middle h k r from is = elim (cases_eq k middle) [
    | inl e ↦
        let same : mapping ≡ r = same_mapping (slice_get mappings middle) mapping r at (subst (λ n. slice_get mappings n ≡ Some r) e is) in
        subst (λ (s : Mapping). is_before text s.chars ≡ true) same h
    | inr n ↦
        let less : middle < k = grind (arith, n, from) in
        before_trans text mapping.chars r.chars h (ascending_at [] mappings middle k mapping r ascend less at is)
  ]

  pub up_to_middle : is_before text mapping.chars ≡ false → IsUpTo mappings text (middle + 1)
  up_to_middle h k r next is =
      let e : k ≡ middle = omega (arith, next) in
      let same : mapping ≡ r = same_mapping (slice_get mappings middle) mapping r at (subst (λ n. slice_get mappings n ≡ Some r) e is) in
      subst (λ (s : Mapping). is_before text s.chars ≡ false) same h

-- ---- the longest mapping that begins a text

none_better : (best : Option Mapping) (mappings : List Mapping) (text : List ℕ) → ((k : ℕ) (r : Mapping) → slice_get mappings k ≡ Some r → starts_with nat_eq text r.chars ≡ false) → longest_from best mappings text ≡ best
unfolding longest_from
none_better best [] text h = refl
none_better best (x ∷ xs) text h =
    let e : starts_with nat_eq text x.chars ≡ false = h zero x refl in
    rw e (none_better best xs text (λ k r is. h (suc k) r is))

begins_not : (text mapping : List ℕ) → is_before text mapping ≡ true → starts_with nat_eq text mapping ≡ false
begins_not text mapping h = elim (cases_Bool (starts_with nat_eq text mapping)) [
  | inl b ↦ absurd (false≢true (sym (beginning_not_after text mapping b) ∙ h))
  | inr n ↦ n
]

one_best : (best : Option Mapping) (mappings : List Mapping) (text : List ℕ) (i : ℕ) (mapping : Mapping) → slice_get mappings i ≡ Some mapping → starts_with nat_eq text mapping.chars ≡ true → is_longer mapping best ≡ true
    → ((k : ℕ) (r : Mapping) → k < i → slice_get mappings k ≡ Some r → starts_with nat_eq text r.chars ≡ true → length r.chars < length mapping.chars)
    → ((k : ℕ) (r : Mapping) → i < k → slice_get mappings k ≡ Some r → starts_with nat_eq text r.chars ≡ false)
    → longest_from best mappings text ≡ Some mapping
unfolding longest_from
one_best best [] text i mapping at b l below above = cc
one_best best (x ∷ xs) text zero mapping at b l below above =
    let e : x ≡ mapping = same_value x mapping at in
    let rest : longest_from (Some mapping) xs text ≡ Some mapping = none_better (Some mapping) xs text (λ k r is. above (suc k) r (omega arith) is) in
    subst (λ (r : Mapping). longest_from best (r ∷ xs) text ≡ Some mapping) (sym e) (rw (and_from _ _ b l) rest)
one_best best (x ∷ xs) text (suc i) mapping at b l below above =
    let later : (c : Option Mapping) → is_longer mapping c ≡ true → longest_from c xs text ≡ Some mapping =
    λ c m. one_best c xs text i mapping at b m (λ k r less is. below (suc k) r (omega (arith, less)) is) (λ k r more is. above (suc k) r (omega (arith, more)) is) in
    elim (cases_Bool (starts_with nat_eq text x.chars && is_longer x best)) [
      | inl t ↦ rw t (later (Some x) (lt-ltb _ _ (below zero x (omega arith) refl (and_parts _ _ t).0)))
      | inr f ↦ rw f (later best l)
    ]

same_longest : (best : Option Mapping) (mappings : List Mapping) (text cut : List ℕ) → ((k : ℕ) (r : Mapping) → slice_get mappings k ≡ Some r → starts_with nat_eq text r.chars ≡ starts_with nat_eq cut r.chars) → longest_from best mappings text ≡ longest_from best mappings cut
unfolding longest_from
same_longest best [] text cut h = refl
same_longest best (x ∷ xs) text cut h =
    rw (h zero x refl) (same_longest (better best x cut) xs text cut (λ k r is. h (suc k) r is))

-- where all mappings come after the text, none begins it
pub longest_none : (mappings : List Mapping) (text : List ℕ) → SplitsMappings mappings text 0 → longest_from None mappings text ≡ None
longest_none mappings text split = none_better None mappings text (λ k r is. begins_not text r.chars (split.above k r (omega arith) is))

module _ (mappings : List Mapping) (text : List ℕ) (ascend : ascend_from [] mappings ≡ true) (count : ℕ) (split : SplitsMappings mappings text count) (i : ℕ) (next : i + 1 ≡ count) (mapping : Mapping) (at : slice_get mappings i ≡ Some mapping) where
  -- the last mapping that doesn't come after the text is the longest one, where it begins the text
  pub longest_found : starts_with nat_eq text mapping.chars ≡ true → longest_from None mappings text ≡ Some mapping
  longest_found b =
      one_best None mappings text i mapping at b refl
      (λ k r less is c. shorter_before text mapping.chars r.chars b c (ascending_at [] mappings k i r mapping ascend less is at))
      (λ k r more is. begins_not text r.chars (split.above k r (omega (arith, more, next)) is))

  not_after_mapping : (k : ℕ) (r : Mapping) → slice_get mappings k ≡ Some r → k < count → is_before mapping.chars r.chars ≡ false
  not_after_mapping k r is less = elim (cases_eq k i) [
    | inl e ↦
        let same : r ≡ mapping = same_mapping (slice_get mappings k) r mapping is (subst (λ n. slice_get mappings n ≡ Some mapping) (sym e) at) in
        subst (λ (s : Mapping). is_before mapping.chars s.chars ≡ false) (sym same) (not_before_itself mapping.chars)
    | inr n ↦
        let below : k < i = grind (arith, n, less, next) in
        not_before_back r.chars mapping.chars (ascending_at [] mappings k i r mapping ascend below is at)
  ]

  begins_cut : (k : ℕ) (r : Mapping) → slice_get mappings k ≡ Some r → starts_with nat_eq text r.chars ≡ true → starts_with nat_eq (common_beginning mapping.chars text) r.chars ≡ true
  begins_cut k r is b = elim (cases_lt k count) [
    | inl less ↦ begins_common mapping.chars text r.chars b (not_after_mapping k r is less) (split.last i mapping next at)
    | inr more ↦ absurd (false≢true (sym (begins_not text r.chars (split.above k r more is)) ∙ b))
  ]

  -- where the last mapping doesn't begin the text, the longest that does begins what that mapping and the text have in
  -- common
  pub longest_cut : longest_from None mappings text ≡ longest_from None mappings (common_beginning mapping.chars text)
  longest_cut = same_longest None mappings text (common_beginning mapping.chars text)
      (λ k r is. same_bool _ _ (begins_cut k r is) (begins_whole mapping.chars text r.chars))

-- ---- the mapping with given characters

mapping_entry_none : (mappings : List Mapping) (wanted : List ℕ) → ((k : ℕ) (r : Mapping) → slice_get mappings k ≡ Some r → bytes_eq r.chars wanted ≡ false) → mapping_entry mappings wanted ≡ None
unfolding mapping_entry
mapping_entry_none [] wanted h = refl
mapping_entry_none (x ∷ xs) wanted h =
    let e : bytes_eq x.chars wanted ≡ false = h zero x refl in
    rw e (mapping_entry_none xs wanted (λ k r is. h (suc k) r is))

mapping_entry_at : (mappings : List Mapping) (wanted : List ℕ) (i : ℕ) (mapping : Mapping) → slice_get mappings i ≡ Some mapping → bytes_eq mapping.chars wanted ≡ true → ((k : ℕ) (r : Mapping) → k < i → slice_get mappings k ≡ Some r → bytes_eq r.chars wanted ≡ false) → mapping_entry mappings wanted ≡ Some mapping.entry
unfolding mapping_entry
mapping_entry_at [] wanted i mapping at b below = cc
mapping_entry_at (x ∷ xs) wanted zero mapping at b below =
    let e : x ≡ mapping = same_value x mapping at in
    subst (λ (r : Mapping). mapping_entry (r ∷ xs) wanted ≡ Some mapping.entry) (sym e) (rw b refl)
mapping_entry_at (x ∷ xs) wanted (suc i) mapping at b below =
    let e : bytes_eq x.chars wanted ≡ false = below zero x (omega arith) refl in
    rw e (mapping_entry_at xs wanted i mapping at b (λ k r less is. below (suc k) r (omega (arith, less)) is))

differs_since : (xs ys : List ℕ) → (xs ≡ ys → ⊥) → bytes_eq xs ys ≡ false
differs_since xs ys f = elim (cases_Bool (bytes_eq xs ys)) [
  | inl e ↦ absurd (f (same_lists xs ys e))
  | inr e ↦ e
]

pub entry_none : (mappings : List Mapping) (wanted : List ℕ) → SplitsMappings mappings wanted 0 → mapping_entry mappings wanted ≡ None
entry_none mappings wanted split = mapping_entry_none mappings wanted (λ k r is. differs_after k r is)
  where
    differs_after : (k : ℕ) (r : Mapping) → slice_get mappings k ≡ Some r → bytes_eq r.chars wanted ≡ false
    differs_after k r is = differs_since r.chars wanted (λ e. false≢true (sym (not_before_itself wanted) ∙ subst (λ (l : List ℕ). is_before wanted l ≡ true) e (split.above k r (omega arith) is)))

module _ (mappings : List Mapping) (wanted : List ℕ) (ascend : ascend_from [] mappings ≡ true) (count : ℕ) (split : SplitsMappings mappings wanted count) (i : ℕ) (next : i + 1 ≡ count) (mapping : Mapping) (at : slice_get mappings i ≡ Some mapping) where
  -- the last mapping that doesn't come after the characters has them
  pub entry_found : bytes_eq mapping.chars wanted ≡ true → mapping_entry mappings wanted ≡ Some mapping.entry
  entry_found b =
      mapping_entry_at mappings wanted i mapping at b
      (λ k r less is. before_differs r.chars wanted (subst (λ (l : List ℕ). is_before r.chars l ≡ true) (same_lists mapping.chars wanted b) (ascending_at [] mappings k i r mapping ascend less is at)))

  differs_otherwise : bytes_eq mapping.chars wanted ≡ false → (k : ℕ) (r : Mapping) → slice_get mappings k ≡ Some r → bytes_eq r.chars wanted ≡ false
  differs_otherwise n k r is = elim (cases_order k i) [
    | inl e ↦
        let same : r ≡ mapping = same_mapping (slice_get mappings k) r mapping is (subst (λ n. slice_get mappings n ≡ Some mapping) (sym e) at) in
        subst (λ (s : Mapping). bytes_eq s.chars wanted ≡ false) (sym same) n
    | inr (inl less) ↦ differs_since r.chars wanted (λ e. false≢true (sym (split.last i mapping next at) ∙ subst (λ (l : List ℕ). is_before l mapping.chars ≡ true) e (ascending_at [] mappings k i r mapping ascend less is at)))
    | inr (inr more) ↦ differs_since r.chars wanted (λ e. false≢true (sym (not_before_itself wanted) ∙ subst (λ (l : List ℕ). is_before wanted l ≡ true) e (split.above k r (omega (arith, more, next)) is)))
  ]

  -- no mapping has the characters that are wanted where the last one up to them doesn't
  pub entry_none_there : bytes_eq mapping.chars wanted ≡ false → mapping_entry mappings wanted ≡ None
  entry_none_there n = mapping_entry_none mappings wanted (differs_otherwise n)
