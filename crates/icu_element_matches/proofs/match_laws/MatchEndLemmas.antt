-- What a match leaves of each class.
use Rattle.std.proofs.Common.{◌≡◌, ◌==◌, ◌⊎◌, ℕ, suc, Bool, true, false, List, [], ◌∷◌, ◌++◌, drop, Option, Some, None, refl, sym, ap, subst, ◌∙◌, arith, inl, inr, append_assoc, append-nil, nat_le}
use Rattle.std.proofs.lemmas.Bool.{cases_Bool, cond-true, cond-false, or_parts}
use Rattle.std.proofs.lemmas.Bool.Decides.{nat_tests}
use Rattle.std.specs.List.{filter, list_any}
use Rattle.ucd_normal.specs.CanonicalCombiningClass.{canonical_combining_class as class_of}
use Rattle.unicode_normalization.specs.Order.{is_starter}
use Rattle.icu_table_data.specs.Data.{Mapping, mapping_entry}
use Rattle.icu_element_matches.specs.Matches.{Match, with_marks, is_blocked}
use Rattle.icu_text_decomposition.specs.MarkClasses.{of_class}
use Rattle.icu_element_matches.specs.match_laws.MatchEnds.{MatchesLeaveEnds}

-- What is left of a class: those that were passed over, and an end of those to come, all where one was passed over.
pub record Left (k : ℕ) (passed text rest : List ℕ) : Type 0 where
  pub count : ℕ
  pub is : of_class k rest ≡ of_class k passed ++ drop count (of_class k text)
  pub whole : (count ≡ 0) ⊎ (of_class k passed ≡ [])

cases_entry : (o : Option ℕ) → (o ≡ None) ⊎ ((e : ℕ) × (o ≡ Some e))
cases_entry None = inl refl
cases_entry (Some e) = inr (e, refl)

nil : (mappings : List Mapping) (entry : ℕ) (suffix passed : List ℕ) → (with_marks mappings entry suffix passed []).rest ≡ passed
unfolding with_marks
nil mappings entry suffix passed = refl

at_starter : (mappings : List Mapping) (entry : ℕ) (suffix passed : List ℕ) (m : ℕ) (ms : List ℕ) → is_starter m ≡ true → (with_marks mappings entry suffix passed (m ∷ ms)).rest ≡ passed ++ m ∷ ms
unfolding with_marks
at_starter mappings entry suffix passed m ms h = ap (λ (x : Match). x.rest) (cond-true _ _ _ h)

at_blocked : (mappings : List Mapping) (entry : ℕ) (suffix passed : List ℕ) (m : ℕ) (ms : List ℕ) → is_starter m ≡ false → is_blocked passed m ≡ true → with_marks mappings entry suffix passed (m ∷ ms) ≡ with_marks mappings entry suffix (passed ++ m ∷ []) ms
unfolding with_marks
at_blocked mappings entry suffix passed m ms h b = cond-false _ _ _ h ∙ cond-true _ _ _ b

at_none : (mappings : List Mapping) (entry : ℕ) (suffix passed : List ℕ) (m : ℕ) (ms : List ℕ) → is_starter m ≡ false → is_blocked passed m ≡ false → mapping_entry mappings (suffix ++ m ∷ []) ≡ None → with_marks mappings entry suffix passed (m ∷ ms) ≡ with_marks mappings entry suffix (passed ++ m ∷ []) ms
unfolding with_marks
at_none mappings entry suffix passed m ms h b none =
    cond-false _ _ _ h ∙ cond-false _ _ _ b
    ∙ ap (λ o. elim o as (λ _. Match) [ Some joined ↦ with_marks mappings joined (suffix ++ m ∷ []) passed ms | None ↦ with_marks mappings entry suffix (passed ++ m ∷ []) ms ]) none

at_joined : (mappings : List Mapping) (entry : ℕ) (suffix passed : List ℕ) (m : ℕ) (ms : List ℕ) (e : ℕ) → is_starter m ≡ false → is_blocked passed m ≡ false → mapping_entry mappings (suffix ++ m ∷ []) ≡ Some e → with_marks mappings entry suffix passed (m ∷ ms) ≡ with_marks mappings e (suffix ++ m ∷ []) passed ms
unfolding with_marks
at_joined mappings entry suffix passed m ms e h b some =
    cond-false _ _ _ h ∙ cond-false _ _ _ b
    ∙ ap (λ o. elim o as (λ _. Match) [ Some joined ↦ with_marks mappings joined (suffix ++ m ∷ []) passed ms | None ↦ with_marks mappings entry suffix (passed ++ m ∷ []) ms ]) some

filter-append : (p : ℕ → Bool) (xs ys : List ℕ) → filter p (xs ++ ys) ≡ filter p xs ++ filter p ys
filter-append p [] ys = refl
filter-append p (x ∷ xs) ys =
    elim (cases_Bool (p x)) [
      | inl with ↦ cond-true _ _ _ with ∙ ap (λ l. x ∷ l) (filter-append p xs ys) ∙ ap (λ l. l ++ filter p ys) (sym (cond-true _ _ _ with))
      | inr without ↦ cond-false _ _ _ without ∙ filter-append p xs ys ∙ ap (λ l. l ++ filter p ys) (sym (cond-false _ _ _ without))
    ]

-- a mark that isn't blocked has a class of which none was passed over
none_passed : (passed : List ℕ) (m k : ℕ) → is_blocked passed m ≡ false → class_of m == k ≡ true → of_class k passed ≡ []
unfolding is_blocked
none_passed [] m k b is = refl
none_passed (p ∷ ps) m k b is =
    let both = or_parts (nat_le (class_of m) (class_of p)) (list_any (λ x. nat_le (class_of m) (class_of x)) ps) b in
    let free : nat_le (class_of m) (class_of p) ≡ false = both.0 in
    let other : class_of p == k ≡ false = grind (arith, nat_tests) in
    cond-false _ _ _ other ∙ none_passed ps m k both.1 is

not_pushed : (xs : List ℕ) (m : ℕ) → xs ++ m ∷ [] ≡ [] → ⊥
not_pushed [] m e = cc
not_pushed (x ∷ xs) m e = cc

-- one more is passed over
more_passed : (k : ℕ) (passed : List ℕ) (m : ℕ) (ms rest : List ℕ) → Left k (passed ++ m ∷ []) ms rest → Left k passed (m ∷ ms) rest
more_passed k passed m ms rest h =
    elim (cases_Bool (class_of m == k)) [
      | inl same ↦
          let held = filter-append (λ c. class_of c == k) passed (m ∷ []) ∙ ap (λ l. of_class k passed ++ l) (cond-true _ _ _ same) in
          let none : h.count ≡ 0 = elim h.whole [ inl e ↦ e | inr e ↦ absurd (not_pushed _ _ (sym held ∙ e)) ] in
          record {
            count = 0;
            is = h.is ∙ ap (λ n. of_class k (passed ++ m ∷ []) ++ drop n (of_class k ms)) none ∙ ap (λ l. l ++ of_class k ms) held
                ∙ append_assoc (of_class k passed) (m ∷ []) (of_class k ms) ∙ ap (λ l. of_class k passed ++ l) (sym (cond-true _ _ _ same));
            whole = inl refl;
          }
      | inr other ↦
          let held = filter-append (λ c. class_of c == k) passed (m ∷ []) ∙ ap (λ l. of_class k passed ++ l) (cond-false _ _ _ other) ∙ append-nil _ in
          record {
            count = h.count;
            is = h.is ∙ ap (λ l. l ++ drop h.count (of_class k ms)) held ∙ ap (λ l. of_class k passed ++ drop h.count l) (sym (cond-false _ _ _ other));
            whole = elim h.whole [ inl e ↦ inl e | inr e ↦ inr (sym held ∙ e) ];
          }
    ]

-- one joins
more_joined : (k : ℕ) (passed : List ℕ) (m : ℕ) (ms rest : List ℕ) → is_blocked passed m ≡ false → Left k passed ms rest → Left k passed (m ∷ ms) rest
more_joined k passed m ms rest free h =
    elim (cases_Bool (class_of m == k)) [
      | inl same ↦
          let none = none_passed passed m k free same in
          record { count = suc h.count; is = h.is ∙ ap (λ l. of_class k passed ++ l) (ap (drop (suc h.count)) (sym (cond-true _ _ _ same))); whole = inr none }
      | inr other ↦ record { count = h.count; is = h.is ∙ ap (λ l. of_class k passed ++ drop h.count l) (sym (cond-false _ _ _ other)); whole = h.whole }
    ]

leaves : (mappings : List Mapping) (entry : ℕ) (suffix passed text : List ℕ) (k : ℕ) → Left k passed text (with_marks mappings entry suffix passed text).rest
leaves mappings entry suffix passed [] k = record { count = 0; is = ap (of_class k) (nil mappings entry suffix passed) ∙ sym (append-nil _); whole = inl refl }
leaves mappings entry suffix passed (m ∷ ms) k =
    elim (cases_Bool (is_starter m)) [
      | inl starter ↦ record { count = 0; is = ap (of_class k) (at_starter mappings entry suffix passed m ms starter) ∙ filter-append _ passed (m ∷ ms); whole = inl refl }
      | inr mark ↦ elim (cases_Bool (is_blocked passed m)) [
        | inl blocked ↦
            subst (λ (x : Match). Left k passed (m ∷ ms) x.rest) (sym (at_blocked mappings entry suffix passed m ms mark blocked))
            (more_passed k passed m ms _ (leaves mappings entry suffix (passed ++ m ∷ []) ms k))
        | inr free ↦ elim (cases_entry (mapping_entry mappings (suffix ++ m ∷ []))) [
          | inl none ↦
              subst (λ (x : Match). Left k passed (m ∷ ms) x.rest) (sym (at_none mappings entry suffix passed m ms mark free none))
              (more_passed k passed m ms _ (leaves mappings entry suffix (passed ++ m ∷ []) ms k))
          | inr some ↦
              subst (λ (x : Match). Left k passed (m ∷ ms) x.rest) (sym (at_joined mappings entry suffix passed m ms some.0 mark free some.1))
              (more_joined k passed m ms _ free (leaves mappings some.0 (suffix ++ m ∷ []) passed ms k))
        ]
      ]
    ]

pub leaves_ends : MatchesLeaveEnds
leaves_ends mappings entry suffix text k = let left = leaves mappings entry suffix [] text k in record { count = left.count; is = left.is }
