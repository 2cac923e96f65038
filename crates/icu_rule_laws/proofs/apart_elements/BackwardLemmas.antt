-- Backward, elements that are one apart at the secondary level are less there.
use Rattle.std.proofs.Common.{◌≡◌, ◌≢◌, ◌<◌, ◌⊎◌, ℕ, Bool, true, false, ◌==◌, cond, List, [], ◌∷◌, ◌++◌, map, reverse, if◌then◌else◌, refl, ap, ap₂, sym, subst₂, ◌∙◌, append_assoc, append-nil, inl, inr, ⊎_elim, Less}
use Rattle.std.specs.Prelude.{slice_index_or}
use Rattle.std.specs.Ordering.{ordering_then}
use Rattle.std.proofs.lemmas.List.{reverse-append}
use Rattle.std.proofs.lemmas.Bool.{ne_eqb}
use Rattle.icu_options.specs.declared.settings.AlternateHandling.{AlternateHandling}
use Rattle.icu_table_entries.specs.Elements.{Element}
use Rattle.icu_table_entries.specs.ElementConditions.{separator_primary}
use Rattle.icu_order_levels.specs.ListOrder.{list_order, segments_order, Precedes}
use Rattle.icu_order_levels.proofs.Order.{same_front, less_head, same_lists_order}
use Rattle.icu_order_texts.specs.weighting.Levels.{parted, segments}
use Rattle.icu_rule_laws.specs.apart_elements.UpperWeights.{has_nonzero, upper_weights, upper_lists}
use Rattle.icu_rule_laws.specs.apart_elements.ApartElements.{AreOneApart}
use Rattle.icu_rule_laws.proofs.apart_elements.KeyedReadings.{first_same}
use Rattle.icu_rule_laws.proofs.apart_elements.ReadLevels.{no_separator, primary_none, secondary_none, parts_same, upper_same}
use Rattle.icu_rule_laws.proofs.apart_elements.ApartLevelLemmas.{kept, Stays, kept_between, not_zero}

-- Segments that are less, whatever elements with the same weights come before: the first ones are the same and the
-- others less, or the first ones, reversed, part at a lesser number.
AreLessParts : List ℕ × List (List ℕ) → List ℕ × List (List ℕ) → Type 0
AreLessParts p q =
    ((p.0 ≡ q.0) × (segments_order (map reverse p.1) (map reverse q.1) ≡ Less)) ⊎ Precedes (reverse p.0) (reverse q.0)

-- one more element before them
abbrev with_one : ℕ → ℕ → List ℕ × List (List ℕ) → List ℕ × List (List ℕ)
with_one p s r = if p == separator_primary then ([], r.0 ∷ r.1) else if s == 0 then r else (s ∷ r.0, r.1)

head_same : (xs ys : List ℕ) (xss yss : List (List ℕ)) → xs ≡ ys → segments_order xss yss ≡ Less → segments_order (xs ∷ xss) (ys ∷ yss) ≡ Less
head_same xs ys xss yss e l = ap₂ ordering_then (same_lists_order xs ys e) l

head_less : (xs ys : List ℕ) (xss yss : List (List ℕ)) → list_order xs ys ≡ Less → segments_order (xs ∷ xss) (ys ∷ yss) ≡ Less
head_less xs ys xss yss l = ap (λ o. ordering_then o (segments_order xss yss)) l

less_alone : (xs ys : List ℕ) → Precedes xs ys → list_order xs ys ≡ Less
less_alone xs ys p = sym (ap₂ list_order (append-nil xs) (append-nil ys)) ∙ p [] []

segments_less : (p q : List ℕ × List (List ℕ)) → AreLessParts p q → segments_order (map reverse (p.0 ∷ p.1)) (map reverse (q.0 ∷ q.1)) ≡ Less
unfolding AreLessParts
segments_less p q h =
    ⊎_elim (λ s. head_same (reverse p.0) (reverse q.0) (map reverse p.1) (map reverse q.1) (ap reverse s.0) s.1)
    (λ l. head_less (reverse p.0) (reverse q.0) (map reverse p.1) (map reverse q.1) (less_alone (reverse p.0) (reverse q.0) l)) h

reverse_more : (s : ℕ) (xs us : List ℕ) → reverse (s ∷ xs) ++ us ≡ reverse xs ++ s ∷ us
reverse_more s xs us = ap (λ l. l ++ us) (reverse-append (s ∷ []) xs) ∙ append_assoc (reverse xs) (s ∷ []) us

precede_more : (s : ℕ) (xs ys : List ℕ) → Precedes (reverse xs) (reverse ys) → Precedes (reverse (s ∷ xs)) (reverse (s ∷ ys))
precede_more s xs ys h = λ us vs. ap₂ list_order (reverse_more s xs us) (reverse_more s ys vs) ∙ h (s ∷ us) (s ∷ vs)

one_before : (b c : Bool) (s : ℕ) (p q : List ℕ × List (List ℕ)) → AreLessParts p q
    → AreLessParts (if b then ([], p.0 ∷ p.1) else if c then p else (s ∷ p.0, p.1)) (if b then ([], q.0 ∷ q.1) else if c then q else (s ∷ q.0, q.1))
unfolding AreLessParts
one_before true c s p q h = inl (refl, segments_less p q h)
one_before false true s p q h = h
one_before false false s p q h =
    ⊎_elim (λ e. inl (ap (λ l. s ∷ l) e.0, e.1)) (λ l. inr (precede_more s p.0 q.0 l)) h

-- more of them, by what counts at the first two levels
abbrev with_all : List (List ℕ) → List ℕ × List (List ℕ) → List ℕ × List (List ℕ)
with_all [] r = r
with_all (ws ∷ wss) r = with_one (slice_index_or ws 0 0) (slice_index_or ws 1 0) (with_all wss r)

all_before : (wss : List (List ℕ)) (p q : List ℕ × List (List ℕ)) → AreLessParts p q → AreLessParts (with_all wss p) (with_all wss q)
all_before [] p q h = h
all_before (ws ∷ wss) p q h =
    one_before (slice_index_or ws 0 0 == separator_primary) (slice_index_or ws 1 0 == 0) (slice_index_or ws 1 0)
    (with_all wss p) (with_all wss q) (all_before wss p q h)

one_parted : (x : Element) (b : Bool) → has_nonzero (upper_weights 3 x) ≡ b → (wss : List (List ℕ)) (r : List ℕ × List (List ℕ))
    → with_one x.primary x.secondary (with_all wss r) ≡ with_all (cond b (upper_weights 3 x ∷ wss) wss) r
one_parted x true is wss r = refl
one_parted x false none wss r =
    ap₂ (λ v w. if v then ([], (with_all wss r).0 ∷ (with_all wss r).1) else if w then with_all wss r else (x.secondary ∷ (with_all wss r).0, (with_all wss r).1))
    (no_separator x.primary (primary_none x none)) (secondary_none x none)

all_parted : (ks us : List Element) → parted (ks ++ us) ≡ with_all (upper_lists 3 ks) (parted us)
unfolding parted
all_parted [] us = refl
all_parted (x ∷ ks) us =
    ap (with_one x.primary x.secondary) (all_parted ks us) ∙ one_parted x (has_nonzero (upper_weights 3 x)) refl (upper_lists 3 ks) (parted us)

elements_before : (ks ls us vs : List Element) → upper_lists 3 ks ≡ upper_lists 3 ls → AreLessParts (parted us) (parted vs)
    → AreLessParts (parted (ks ++ us)) (parted (ls ++ vs))
elements_before ks ls us vs e h =
    subst₂ AreLessParts (sym (all_parted ks us)) (ap (λ wss. with_all wss (parted vs)) e ∙ sym (all_parted ls vs))
    (all_before (upper_lists 3 ks) (parted us) (parted vs) h)

-- an element that has a secondary, before the rest
with_secondary : (b c : Bool) (s : ℕ) (r : List ℕ × List (List ℕ)) → b ≡ false → c ≡ false
    → (if b then ([], r.0 ∷ r.1) else if c then r else (s ∷ r.0, r.1)) ≡ (s ∷ r.0, r.1)
with_secondary b c s r e f = ap₂ (λ v w. if v then ([], r.0 ∷ r.1) else if w then r else (s ∷ r.0, r.1)) e f

parted_with : (x : Element) (es : List Element) → x.primary ≢ separator_primary → x.secondary ≢ 0
    → parted (x ∷ es) ≡ (x.secondary ∷ (parted es).0, (parted es).1)
unfolding parted
parted_with x es n m =
    with_secondary (x.primary == separator_primary) (x.secondary == 0) x.secondary (parted es) (ne_eqb x.primary separator_primary n)
    (ne_eqb x.secondary 0 m)

less_first : (a b : ℕ) (r t : List ℕ × List (List ℕ)) → a < b → r ≡ t → AreLessParts (a ∷ r.0, r.1) (b ∷ t.0, t.1)
unfolding AreLessParts
less_first a b r t l e = inr (λ us vs.
    ap₂ list_order (reverse_more a r.0 us ∙ ap (λ z. reverse z.0 ++ a ∷ us) e) (reverse_more b t.0 vs)
    ∙ same_front (reverse t.0) (a ∷ us) (b ∷ vs) ∙ less_head a b us vs l)

module _ (handling : AlternateHandling) (last : ℕ) where
  pub segments_are_less : (xs ys : List Element) (a : AreOneApart 2 xs ys)
      → Stays handling last a.front a.e → Stays handling last a.other_front a.other
      → a.e.primary ≢ separator_primary → upper_lists 3 a.rest ≡ upper_lists 3 a.other_rest
      → segments_order (segments (kept handling last xs)) (segments (kept handling last ys)) ≡ Less
  segments_are_less xs ys a s t n e =
      let on : List Element → List Element = λ es. kept handling last es in
      let first : a.e.primary ≡ a.other.primary = first_same a.above in
      segments_less (parted (on xs)) (parted (on ys))
      (subst₂ (λ us vs. AreLessParts (parted us) (parted vs)) (sym (kept_between handling last a.front a.rest xs a.e a.left s))
      (sym (kept_between handling last a.other_front a.other_rest ys a.other a.right t))
      (elements_before (on a.front) (on a.other_front) (a.e ∷ on a.rest) (a.other ∷ on a.other_rest)
      (upper_same handling last a.front a.other_front a.fronts)
      (subst₂ AreLessParts (sym (parted_with a.e (on a.rest) n a.counts))
      (sym (parted_with a.other (on a.other_rest) (λ p. n (first ∙ p)) (not_zero a.e.secondary a.other.secondary a.less)))
      (less_first a.e.secondary a.other.secondary (parted (on a.rest)) (parted (on a.other_rest)) a.less
      (parts_same handling last a.rest a.other_rest e)))))
