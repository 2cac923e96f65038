-- The longest of some lists of characters that begins a text is the one that a look-up of each beginning would find.
use Rattle.std.proofs.Common.{◌≡◌, ℕ, suc, ◌<◌, ◌≤◌, ◌⊎◌, inl, inr, Bool, true, false, ◌&&◌, nat_eq, nat_lt, bytes_eq, List, [], ◌∷◌, length, Option, Some, None, if◌then◌else◌, refl, ap, sym, subst, ◌∙◌, arith}
use Rattle.std.specs.List.{starts_with}
use Rattle.std.proofs.lemmas.Bool.{cases_Bool, ltb-true, and_parts}
use Rattle.std.proofs.lemmas.Bool.Decides.{nat_tests}
use Rattle.icu_element_matches.proofs.steady_matches.LongestLemmas.{second_false}
use Rattle.icu_element_matches.proofs.CharacterOrderLemmas.{same_lists}

-- the first that has these characters
unfoldable pub first_with : {X : Type 0} → (X → List ℕ) → List X → List ℕ → Option X
first_with key [] chars = None
first_with key (x ∷ xs) chars = if bytes_eq (key x) chars then Some x else first_with key xs chars

-- it has more characters than the best one, if there is one
abbrev pub is_longer_by : {X : Type 0} → (X → List ℕ) → Option X → X → Bool
is_longer_by key None x = true
is_longer_by key (Some best) x = nat_lt (length (key best)) (length (key x))

abbrev pub better_by : {X : Type 0} → (X → List ℕ) → Option X → X → List ℕ → Option X
better_by key best x text = if starts_with nat_eq text (key x) && is_longer_by key best x then Some x else best

-- the longest that begins a text, and the best one before them
unfoldable pub longest_by : {X : Type 0} → (X → List ℕ) → Option X → List X → List ℕ → Option X
longest_by key best [] text = best
longest_by key best (x ∷ xs) text = longest_by key (better_by key best x text) xs text

-- one more than how many characters it has
abbrev pub bound : {X : Type 0} → (X → List ℕ) → Option X → ℕ
bound key None = 0
bound key (Some x) = suc (length (key x))

-- one of these was chosen: it is found by its characters, and has at least so many
pub record IsFound {X : Type 0} (key : X → List ℕ) (xs : List X) (text : List ℕ) (least : ℕ) (chosen : Option X) : Type 0 where
  pub item : X
  pub is : chosen ≡ Some item
  pub first : first_with key xs (key item) ≡ Some item
  pub begins : starts_with nat_eq text (key item) ≡ true
  pub long : least ≤ length (key item)

-- what is chosen of these and a best one before them: nothing longer begins the text
pub record IsChosen {X : Type 0} (key : X → List ℕ) (xs : List X) (text : List ℕ) (best chosen : Option X) : Type 0 where
  pub over : (chars : List ℕ) → starts_with nat_eq text chars ≡ true → bound key chosen ≤ length chars
      → first_with key xs chars ≡ None
  pub found : (chosen ≡ best) ⊎ IsFound key xs text (bound key best) chosen
  pub grows : bound key best ≤ bound key chosen

pub same_itself : (chars : List ℕ) → bytes_eq chars chars ≡ true
same_itself [] = refl
same_itself (c ∷ cs) = rw (itself c, same_itself cs) refl
  where
    itself : (n : ℕ) → nat_eq n n ≡ true
    itself n = grind (arith, nat_tests)

first_here : {X : Type 0} (key : X → List ℕ) (x : X) (xs : List X) → first_with key (x ∷ xs) (key x) ≡ Some x
unfolding first_with
first_here key x xs = rw (same_itself (key x)) refl

first_further : {X : Type 0} (key : X → List ℕ) (x : X) (xs : List X) (chars : List ℕ) → bytes_eq (key x) chars ≡ false
    → first_with key (x ∷ xs) chars ≡ first_with key xs chars
unfolding first_with
first_further key x xs chars e = rw e refl

longer_is : {X : Type 0} (key : X → List ℕ) (best : Option X) (x : X) → is_longer_by key best x ≡ true
    → bound key best ≤ length (key x)
longer_is key None x e = omega arith
longer_is key (Some best) x e = let l = ltb-true (length (key best)) (length (key x)) e in omega (arith, l)

no_longer_is : {X : Type 0} (key : X → List ℕ) (best : Option X) (x : X) → is_longer_by key best x ≡ false
    → length (key x) < bound key best
no_longer_is key None x e = cc
no_longer_is key (Some best) x e = no_less (length (key best)) (length (key x)) e
  where
    no_less : (m n : ℕ) → nat_lt m n ≡ false → n < suc m
    no_less m n e = grind (arith, nat_tests)

better_true : {X : Type 0} (key : X → List ℕ) (best : Option X) (x : X) (text : List ℕ)
    → (starts_with nat_eq text (key x) && is_longer_by key best x) ≡ true → better_by key best x text ≡ Some x
better_true key best x text e = rw e refl

better_false : {X : Type 0} (key : X → List ℕ) (best : Option X) (x : X) (text : List ℕ)
    → (starts_with nat_eq text (key x) && is_longer_by key best x) ≡ false → better_by key best x text ≡ best
better_false key best x text e = rw e refl

-- with one that is better in front of them
chosen_with : {X : Type 0} (key : X → List ℕ) (x : X) (xs : List X) (text : List ℕ) (best chosen : Option X)
    → starts_with nat_eq text (key x) ≡ true → is_longer_by key best x ≡ true → IsChosen key xs text (Some x) chosen
    → IsChosen key (x ∷ xs) text best chosen
chosen_with key x xs text best chosen s l h =
    let more = longer_is key best x l in
    record {
      over = λ chars b long. elim (cases_Bool (bytes_eq (key x) chars)) [
        | inl e ↦ absurd (omega (arith, long, h.grows, ap length (same_lists (key x) chars e)))
        | inr e ↦ first_further key x xs chars e ∙ h.over chars b long
      ];
      found = elim h.found [
        | inl e ↦ inr (record { item = x; is = e; first = first_here key x xs; begins = s; long = more })
        | inr f ↦ inr (record {
          item = f.item;
          is = f.is;
          first = elim (cases_Bool (bytes_eq (key x) (key f.item))) [
            | inl e ↦ absurd (omega (arith, f.long, ap length (same_lists (key x) (key f.item) e)))
            | inr e ↦ first_further key x xs (key f.item) e ∙ f.first
          ];
          begins = f.begins;
          long = omega (arith, more, f.long);
        })
      ];
      grows = omega (arith, more, h.grows);
    }

-- with one that isn't better in front of them
chosen_without : {X : Type 0} (key : X → List ℕ) (x : X) (xs : List X) (text : List ℕ) (best chosen : Option X)
    → (starts_with nat_eq text (key x) && is_longer_by key best x) ≡ false → IsChosen key xs text best chosen
    → IsChosen key (x ∷ xs) text best chosen
chosen_without key x xs text best chosen n h =
    let short : starts_with nat_eq text (key x) ≡ true → length (key x) < bound key best =
    λ s. no_longer_is key best x (second_false _ _ n s) in
    record {
      over = λ chars b long. elim (cases_Bool (bytes_eq (key x) chars)) [
        | inl e ↦
            let is = same_lists (key x) chars e in
            let s : starts_with nat_eq text (key x) ≡ true = ap (starts_with nat_eq text) is ∙ b in
            absurd (omega (arith, short s, long, h.grows, ap length is))
        | inr e ↦ first_further key x xs chars e ∙ h.over chars b long
      ];
      found = elim h.found [
        | inl e ↦ inl e
        | inr f ↦ inr (record {
          item = f.item;
          is = f.is;
          first = elim (cases_Bool (bytes_eq (key x) (key f.item))) [
            | inl e ↦
                let is = same_lists (key x) (key f.item) e in
                let s : starts_with nat_eq text (key x) ≡ true = ap (starts_with nat_eq text) is ∙ f.begins in
                absurd (omega (arith, short s, f.long, ap length is))
            | inr e ↦ first_further key x xs (key f.item) e ∙ f.first
          ];
          begins = f.begins;
          long = f.long;
        })
      ];
      grows = h.grows;
    }

pub chosen_is : {X : Type 0} (key : X → List ℕ) (best : Option X) (xs : List X) (text : List ℕ)
    → IsChosen key xs text best (longest_by key best xs text)
unfolding longest_by first_with
chosen_is key best [] text = record { over = λ chars b long. refl; found = inl refl; grows = omega arith }
chosen_is key best (x ∷ xs) text =
    elim (cases_Bool (starts_with nat_eq text (key x) && is_longer_by key best x)) [
      | inl e ↦
          let (s, l) = and_parts _ _ e in
          subst (λ b. IsChosen key (x ∷ xs) text best (longest_by key b xs text)) (sym (better_true key best x text e))
          (chosen_with key x xs text best (longest_by key (Some x) xs text) s l (chosen_is key (Some x) xs text))
      | inr e ↦
          subst (λ b. IsChosen key (x ∷ xs) text best (longest_by key b xs text)) (sym (better_false key best x text e))
          (chosen_without key x xs text best (longest_by key best xs text) e (chosen_is key best xs text))
    ]
