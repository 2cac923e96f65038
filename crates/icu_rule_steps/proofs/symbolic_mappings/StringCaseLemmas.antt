-- One turn of the case bits of elements.
use Rattle.std.proofs.Common.{◌≡◌, ℕ, ◌+◌, ◌<◌, ◌≤◌, true, false, List, [], ◌∷◌, ◌++◌, length, get_or, drop, append_assoc, if◌then◌else◌, refl, sym, ap, ◌∙◌}
use Rattle.std.proofs.lemmas.List.{at_drop_more, append-nil}
use Rattle.std.proofs.Math.ListN.{drop_of_length-le}
use Rattle.icu_rule_meaning.specs.declared.symbolic.SymbolicElement.{SymbolicElement}
use Rattle.icu_rule_meaning.specs.TailoredCases.{cases_for, counts_first_at, upper_case_bits, with_case_bits, with_cases}

-- the case bits of an element that takes none of the string's
abbrev pub case_apart : SymbolicElement → ℕ
case_apart e = if counts_first_at 3 e then upper_case_bits else 0

none_taken : (e : SymbolicElement) (es : List SymbolicElement) (cases : List ℕ)
    → with_cases (cases_for 0 cases) (e ∷ es) ≡ with_case_bits e (case_apart e) ∷ with_cases (cases_for 0 cases) es
unfolding with_cases cases_for
none_taken e es cases = refl

kept_apart : (cases : List ℕ) (e : SymbolicElement) (es : List SymbolicElement) → counts_first_at 1 e ≡ false
    → with_cases cases (e ∷ es) ≡ with_case_bits e (case_apart e) ∷ with_cases cases es
unfolding with_cases
kept_apart [] e es h = refl
kept_apart (c ∷ cases) e es h = rw h

pub no_case_left : (left : ℕ) (cases : List ℕ) (e : SymbolicElement) (es : List SymbolicElement) (bits : ℕ) → left ≡ 0 → bits ≡ case_apart e
    → with_cases (cases_for left cases) (e ∷ es) ≡ with_case_bits e bits ∷ with_cases (cases_for left cases) es
no_case_left left cases e es bits none apart =
    ap (λ n. with_cases (cases_for n cases) (e ∷ es)) none ∙ none_taken e es cases
    ∙ ap (λ n. with_case_bits e (case_apart e) ∷ with_cases (cases_for n cases) es) (sym none)
    ∙ ap (λ b. with_case_bits e b ∷ with_cases (cases_for left cases) es) (sym apart)

pub case_kept : (cases : List ℕ) (e : SymbolicElement) (es : List SymbolicElement) (bits : ℕ) → counts_first_at 1 e ≡ false → bits ≡ case_apart e
    → with_cases cases (e ∷ es) ≡ with_case_bits e bits ∷ with_cases cases es
case_kept cases e es bits h apart = kept_apart cases e es h ∙ ap (λ b. with_case_bits e b ∷ with_cases cases es) (sym apart)

pub case_taken : (cases : List ℕ) (c : ℕ) (more : List ℕ) (e : SymbolicElement) (es : List SymbolicElement) → cases ≡ c ∷ more → counts_first_at 1 e ≡ true
    → with_cases cases (e ∷ es) ≡ with_case_bits e c ∷ with_cases more es
unfolding with_cases
case_taken cases c more e es is h = ap (λ cs. with_cases cs (e ∷ es)) is ∙ rw h

no_element_left : (cases : List ℕ) → with_cases cases [] ≡ []
unfolding with_cases
no_element_left [] = refl
no_element_left (c ∷ cases) = refl

-- the elements so far and those to come, where one got its case bits
pub cased_turn : (old new : List ℕ) (xs : List SymbolicElement) (i : ℕ) (d : SymbolicElement) (bits : ℕ) (cased cased' whole : List SymbolicElement) → i < length xs
    → ((es : List SymbolicElement) → with_cases old (get_or xs i d ∷ es) ≡ with_case_bits (get_or xs i d) bits ∷ with_cases new es)
    → cased' ≡ cased ++ with_case_bits (get_or xs i d) bits ∷ []
    → cased ++ with_cases old (drop i xs) ≡ whole → cased' ++ with_cases new (drop (i + 1) xs) ≡ whole
cased_turn old new xs i d bits cased cased' whole h takes puts so_far =
    let rest : List SymbolicElement = drop (i + 1) xs in
    ap (λ (ys : List SymbolicElement). ys ++ with_cases new rest) puts
    ∙ append_assoc cased (with_case_bits (get_or xs i d) bits ∷ []) (with_cases new rest)
    ∙ ap (λ (ys : List SymbolicElement). cased ++ ys) (sym (at_drop_more (with_cases old) xs i d h ∙ takes rest))
    ∙ so_far

-- the elements, where none is to come
pub cased_end : (cases : List ℕ) (xs : List SymbolicElement) (i : ℕ) (cased whole : List SymbolicElement) → length xs ≤ i → cased ++ with_cases cases (drop i xs) ≡ whole → cased ≡ whole
cased_end cases xs i cased whole past so_far =
    sym (append-nil cased) ∙ ap (λ (ys : List SymbolicElement). cased ++ ys) (sym (ap (with_cases cases) (drop_of_length-le xs past) ∙ no_element_left cases)) ∙ so_far
