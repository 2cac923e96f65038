-- Mappings that ascend: one goes on where the text ends exactly if the first mapping after the text does.
use Rattle.std.proofs.Common.{◌≡◌, ℕ, zero, suc, ◌-◌, ◌<◌, ◌≤◌, Bool, true, false, List, [], ◌∷◌, length, Some, refl, sym, ap, subst, ◌∙◌, arith, inl, inr}
use Rattle.std.specs.Prelude.{slice_get, nat_eq}
use Rattle.std.specs.List.{starts_with}
use Rattle.std.proofs.lemmas.Bool.{and_parts, and_from, and_left, eqb-true, eq-eqb, cases_Bool, cases_lt, cases_eq}
use Rattle.std.proofs.lemmas.Option.{slice_get_within, slice_get_cases}
use Rattle.icu_table_data.specs.Contexts.{is_before, ascend_from}
use Rattle.icu_table_data.specs.Data.{Mapping}
use Rattle.icu_element_matches.specs.MatchesAhead.{is_decided, are_decided}
use Rattle.icu_element_matches.specs.inner.Mappings.{SplitsMappings}
use Rattle.icu_element_matches.proofs.CharacterOrderLemmas.{before_trans, not_before_back, not_before_itself, same_head, not_before_head}
use Rattle.icu_element_matches.proofs.MappingLemmas.{same_mapping, ascending_at}

-- ---- one mapping

heads : (y c : ℕ) (ys cs : List ℕ) → is_decided (y ∷ ys) (c ∷ cs) ≡ false → (y ≡ c) × (is_decided ys cs ≡ false)
unfolding is_decided
heads y c ys cs h =
    elim (cases_Bool (nat_eq y c)) [
      | inl same ↦ (eqb-true y c same, rw same at h)
      | inr differs ↦ let no : true ≡ false = rw differs at h in cc
    ]

-- a mapping that goes on where the text ends comes after the text
goes_on-after : (mapping text : List ℕ) → is_decided mapping text ≡ false → is_before text mapping ≡ true
unfolding is_decided
goes_on-after [] text h = cc
goes_on-after (y ∷ ys) [] h = refl
goes_on-after (y ∷ ys) (c ∷ cs) h =
    let parts = heads y c ys cs h in
    subst (λ z. is_before (c ∷ cs) (z ∷ ys) ≡ true) (sym parts.0) (same_head c cs ys ∙ goes_on-after ys cs parts.1)

-- a mapping that comes after a text that begins it goes on
begun-goes_on : (mapping text : List ℕ) → starts_with nat_eq mapping text ≡ true → is_before text mapping ≡ true → is_decided mapping text ≡ false
unfolding is_decided
begun-goes_on [] [] h k = cc
begun-goes_on [] (c ∷ cs) h k = cc
begun-goes_on (y ∷ ys) [] h k = refl
begun-goes_on (y ∷ ys) (c ∷ cs) h k =
    let parts = and_parts (nat_eq c y) (starts_with nat_eq ys cs) h in
    let same : c ≡ y = eqb-true c y parts.0 in
    let after : is_before cs ys ≡ true = sym (same_head y cs ys) ∙ subst (λ z. is_before (z ∷ cs) (y ∷ ys) ≡ true) same k in
    let rest : is_decided ys cs ≡ false = begun-goes_on ys cs parts.1 after in
    let head : nat_eq y c ≡ true = eq-eqb y c (sym same) in rw (head, rest) refl

-- a mapping between a text and a mapping that goes on begins with the text
between : (other mapping text : List ℕ) → is_decided mapping text ≡ false → is_before text other ≡ true → is_before mapping other ≡ false → starts_with nat_eq other text ≡ true
unfolding is_decided
between other [] text h k m = cc
between [] (y ∷ ys) [] h k m = refl
between (x ∷ xs) (y ∷ ys) [] h k m = refl
between [] (y ∷ ys) (c ∷ cs) h k m = cc
between (x ∷ xs) (y ∷ ys) (c ∷ cs) h k m =
    let parts = heads y c ys cs h in
    let low : c ≤ x = not_before_head x c xs cs (not_before_back (c ∷ cs) (x ∷ xs) k) in
    let high : x ≤ y = not_before_head y x ys xs m in
    let same : x ≡ c = omega (arith, low, high, parts.0) in
    let first : is_before cs xs ≡ true = sym (same_head c cs xs) ∙ subst (λ z. is_before (c ∷ cs) (z ∷ xs) ≡ true) same k in
    let second : is_before ys xs ≡ false = sym (same_head c ys xs) ∙ ap (λ z. is_before (z ∷ ys) (c ∷ xs)) (sym parts.0) ∙ ap (λ z. is_before (y ∷ ys) (z ∷ xs)) (sym same) ∙ m in
    and_from _ _ (eq-eqb c x (sym same)) (between xs ys cs parts.1 first second)

-- ---- all mappings

all_decided : (mappings : List Mapping) (text : List ℕ) → ((k : ℕ) (r : Mapping) → slice_get mappings k ≡ Some r → is_decided r.chars text ≡ true) → are_decided mappings text ≡ true
all_decided [] text h = refl
all_decided (x ∷ xs) text h = and_from _ _ (h zero x refl) (all_decided xs text (λ k r is. h (suc k) r is))

one_undecided : (mappings : List Mapping) (text : List ℕ) (k : ℕ) (r : Mapping) → slice_get mappings k ≡ Some r → is_decided r.chars text ≡ false → are_decided mappings text ≡ false
one_undecided [] text k r is h = cc
one_undecided (x ∷ xs) text zero r is h =
    let same : x ≡ r = same_mapping (Some x) x r refl is in
    let goes : is_decided x.chars text ≡ false = subst (λ (s : Mapping). is_decided s.chars text ≡ false) (sym same) h in
    and_left _ _ goes
one_undecided (x ∷ xs) text (suc k) r is h =
    let rest : are_decided xs text ≡ false = one_undecided xs text k r is h in
    elim (cases_Bool (is_decided x.chars text)) [
      | inl decided ↦ rw (decided, rest) refl
      | inr goes ↦ and_left _ _ goes
    ]

otherwise : (b : Bool) → (b ≡ false → true ≡ false) → b ≡ true
otherwise true f = refl
otherwise false f = sym (f refl)

module _ (mappings : List Mapping) (text : List ℕ) (ascend : ascend_from [] mappings ≡ true) (count : ℕ) (split : SplitsMappings mappings text count) where
  -- a mapping that doesn't come after the text is decided
  decided_up_to : (k : ℕ) (r : Mapping) → slice_get mappings k ≡ Some r → k < count → is_decided r.chars text ≡ true
  decided_up_to k r is less =
      otherwise (is_decided r.chars text) (λ goes.
      let after : is_before text r.chars ≡ true = goes_on-after r.chars text goes in
      elim (slice_get_cases mappings (count - 1)).1 [
        | inl found ↦
            let not_after : is_before text found.0.chars ≡ false = split.last (count - 1) found.0 (omega (arith, less)) found.2 in
            elim (cases_eq k (count - 1)) [
              | inl e ↦
                  let same : found.0 ≡ r = same_mapping (slice_get mappings (count - 1)) found.0 r found.2 (subst (λ n. slice_get mappings n ≡ Some r) e is) in
                  sym after ∙ subst (λ (t : Mapping). is_before text t.chars ≡ false) same not_after
              | inr n ↦
                  let below : k < count - 1 = grind (arith, n, less) in
                  sym (before_trans text r.chars found.0.chars after (ascending_at [] mappings k (count - 1) r found.0 ascend below is found.2)) ∙ not_after
            ]
        | inr past ↦ absurd (omega (arith, past.0, split.inside, less))
      ])

  -- where no mapping comes after the text, none goes on
  pub none_after : length mappings ≤ count → are_decided mappings text ≡ true
  none_after all =
      all_decided mappings text (λ k r is. decided_up_to k r is (omega (arith, all, slice_get_within mappings k r is)))

  module _ (next : Mapping) (at : slice_get mappings count ≡ Some next) where
    -- a mapping goes on where the first mapping after the text begins with it
    pub next_goes_on : starts_with nat_eq next.chars text ≡ true → are_decided mappings text ≡ false
    next_goes_on begins =
        one_undecided mappings text count next at (begun-goes_on next.chars text begins (split.above count next (omega arith) at))

    not_before_next : (k : ℕ) (r : Mapping) → slice_get mappings k ≡ Some r → count ≤ k → is_before r.chars next.chars ≡ false
    not_before_next k r is from = elim (cases_eq k count) [
      | inl e ↦
          let same : next ≡ r = same_mapping (slice_get mappings count) next r at (subst (λ n. slice_get mappings n ≡ Some r) e is) in
          subst (λ (s : Mapping). is_before s.chars next.chars ≡ false) same (not_before_itself next.chars)
      | inr n ↦
          let above : count < k = grind (arith, n, from) in
          not_before_back next.chars r.chars (ascending_at [] mappings count k next r ascend above at is)
    ]

    -- no mapping goes on where the first mapping after the text doesn't begin with it
    pub next_decides : starts_with nat_eq next.chars text ≡ false → are_decided mappings text ≡ true
    next_decides differs =
        all_decided mappings text (λ k r is.
        elim (cases_lt k count) [
          | inl less ↦ decided_up_to k r is less
          | inr more ↦
              otherwise (is_decided r.chars text) (λ goes.
              sym (between next.chars r.chars text goes (split.above count next (omega arith) at) (not_before_next k r is more)) ∙ differs)
        ])
