-- How UTF-16 is read from its beginning and from its end.
use Rattle.std.proofs.Common.{◌≡◌, ℕ, suc, ◌≤◌, length, get_or, ◌<◌, ◌^◌, Bool, true, false, List, [], ◌∷◌, ◌++◌, map, Option, Some, None, if◌then◌else◌, unwrap_or, refl, ap, ◌∙◌, arith}
use Rattle.std.proofs.lemmas.Bool.{and_parts}
use Rattle.std.proofs.lemmas.Bool.Decides.{nat_tests}
use Rattle.std.proofs.lemmas.List.{map-append, length-map}
use Rattle.std.specs.Char.{IsScalar}
use Rattle.std.specs.List.{AllByRecursion}
use Rattle.std.specs.Char.Utf16.{is_high_surrogate, is_low_surrogate, surrogate_pair_char, lone_unit_char, utf16_chars}
use Rattle.icu_text_encodings.specs.DecodedTexts.{utf16_text}
use Rattle.icu_text_encodings.specs.inner.Utf16Units.{is_pair, pair_char, lone_char}

-- ---- where a text may be cut

-- the unit u is in no pair with the first unit of vs
abbrev pub IsApart : ℕ → List ℕ → Type 0
IsApart u [] = Unit {0}
IsApart u (v ∷ vs) = is_pair u v ≡ false

-- the last unit of us is in no pair with the first unit of vs
abbrev pub IsCut : List ℕ → List ℕ → Type 0
IsCut [] vs = Unit {0}
IsCut (u ∷ []) vs = IsApart u vs
IsCut (u ∷ w ∷ us) vs = IsCut (w ∷ us) vs

cut_of_tail : (w : ℕ) (us vs : List ℕ) → IsCut (w ∷ us) vs → IsCut us vs
cut_of_tail w [] vs h = tt
cut_of_tail w (u ∷ us) vs h = h

either_way : (t : Bool) (p q : Option ℕ) (ps qs xs ys zs : List (Option ℕ)) → ps ≡ xs ++ zs → qs ≡ ys ++ zs
    → (if t then p ∷ ps else q ∷ qs) ≡ (if t then p ∷ xs else q ∷ ys) ++ zs
either_way true p q ps qs xs ys zs e f = ap (λ l. p ∷ l) e
either_way false p q ps qs xs ys zs e f = ap (λ l. q ∷ l) f

chars_parted : (us vs : List ℕ) → IsCut us vs → utf16_chars (us ++ vs) ≡ utf16_chars us ++ utf16_chars vs
unfolding utf16_chars
chars_parted [] vs h = refl
chars_parted (u ∷ []) [] h = refl
chars_parted (u ∷ []) (v ∷ vs) h =
    ap (λ t. if t then Some (surrogate_pair_char u v) ∷ utf16_chars vs else lone_unit_char u ∷ utf16_chars (v ∷ vs)) h
chars_parted (u ∷ w ∷ us) vs h =
    either_way (is_pair u w) (Some (surrogate_pair_char u w)) (lone_unit_char u) _ _ _ _ _
    (chars_parted us vs (cut_of_tail w us vs h)) (chars_parted (w ∷ us) vs h)

-- where no pair goes over the cut, the text of the whole is the texts of the parts
pub text_parted : (us vs : List ℕ) → IsCut us vs → utf16_text (us ++ vs) ≡ utf16_text us ++ utf16_text vs
text_parted us vs h = ap (map (λ o. unwrap_or o 0xFFFD)) (chars_parted us vs h) ∙ map-append _ (utf16_chars us) (utf16_chars vs)

-- ---- what two units are

of_pair : (t : Bool) (c d : ℕ) → (if t then Some d else None) ≡ Some c → (t ≡ true) × (d ≡ c)
of_pair true c d e = (refl, cc)
of_pair false c d e = cc

of_others : (t : Bool) (d : ℕ) → (if t then Some d else None) ≡ None → t ≡ false
of_others true d e = cc
of_others false d e = refl

pub apart : (u v : ℕ) → pair_char u v ≡ None → is_pair u v ≡ false
apart u v e = of_others (is_pair u v) (surrogate_pair_char u v) e

-- the second unit of a pair is not the first of another, and the first is not the second of another
trail_is_no_lead : (u v w : ℕ) → is_pair u v ≡ true → is_pair v w ≡ false
trail_is_no_lead u v w h = let parts = and_parts (is_high_surrogate u) (is_low_surrogate v) h in grind (arith, nat_tests)

lead_is_no_trail : (u v w : ℕ) → is_pair u v ≡ true → is_pair w u ≡ false
lead_is_no_trail u v w h = let parts = and_parts (is_high_surrogate u) (is_low_surrogate v) h in grind (arith, nat_tests)

-- ---- texts of no, one and two units

pub text_of_none : utf16_text [] ≡ []
unfolding utf16_chars
text_of_none = refl

text_of_one : (u : ℕ) → utf16_text (u ∷ []) ≡ lone_char u ∷ []
unfolding utf16_chars
text_of_one u = refl

text_of_two : (u v : ℕ) → is_pair u v ≡ true → utf16_text (u ∷ v ∷ []) ≡ surrogate_pair_char u v ∷ []
unfolding utf16_chars
text_of_two u v h =
    ap (λ t. map (λ o. unwrap_or o 0xFFFD) (if t then Some (surrogate_pair_char u v) ∷ [] else lone_unit_char u ∷ lone_unit_char v ∷ [])) h

text_of_pair : (u v c : ℕ) → pair_char u v ≡ Some c → utf16_text (u ∷ v ∷ []) ≡ c ∷ []
text_of_pair u v c e =
    let both = of_pair (is_pair u v) c (surrogate_pair_char u v) e in
    text_of_two u v both.0 ∙ ap (λ d. d ∷ []) both.1

-- ---- from the beginning

pub apart_from_all : (v : ℕ) (us : List ℕ) → ((w : ℕ) → is_pair v w ≡ false) → IsApart v us
apart_from_all v [] h = tt
apart_from_all v (w ∷ us) h = h w

pub first_is_pair : (u v c : ℕ) (us : List ℕ) → pair_char u v ≡ Some c → utf16_text (u ∷ v ∷ us) ≡ c ∷ utf16_text us
first_is_pair u v c us e =
    let both = of_pair (is_pair u v) c (surrogate_pair_char u v) e in
    text_parted (u ∷ v ∷ []) us (apart_from_all v us (λ w. trail_is_no_lead u v w both.0))
    ∙ ap (λ cs. cs ++ utf16_text us) (text_of_pair u v c e)

pub first_is_lone : (u : ℕ) (us : List ℕ) → IsApart u us → utf16_text (u ∷ us) ≡ lone_char u ∷ utf16_text us
first_is_lone u us h = text_parted (u ∷ []) us h ∙ ap (λ cs. cs ++ utf16_text us) (text_of_one u)

-- ---- from the back

cut_before : (us : List ℕ) (u v : ℕ) → ((w : ℕ) → is_pair w u ≡ false) → IsCut us (u ∷ v ∷ [])
cut_before [] u v h = tt
cut_before (x ∷ []) u v h = h x
cut_before (x ∷ y ∷ us) u v h = cut_before (y ∷ us) u v h

pub last_is_pair : (us : List ℕ) (u v c : ℕ) → pair_char u v ≡ Some c → utf16_text (us ++ u ∷ v ∷ []) ≡ utf16_text us ++ c ∷ []
last_is_pair us u v c e =
    let both = of_pair (is_pair u v) c (surrogate_pair_char u v) e in
    text_parted us (u ∷ v ∷ []) (cut_before us u v (λ w. lead_is_no_trail u v w both.0))
    ∙ ap (λ cs. utf16_text us ++ cs) (text_of_pair u v c e)

pub last_is_lone : (us : List ℕ) (u : ℕ) → IsCut us (u ∷ []) → utf16_text (us ++ u ∷ []) ≡ utf16_text us ++ lone_char u ∷ []
last_is_lone us u h = text_parted us (u ∷ []) h ∙ ap (λ cs. utf16_text us ++ cs) (text_of_one u)

pub cut_after : (us : List ℕ) (w u : ℕ) → is_pair w u ≡ false → IsCut (us ++ w ∷ []) (u ∷ [])
cut_after [] w u h = h
cut_after (x ∷ []) w u h = h
cut_after (x ∷ y ∷ us) w u h = cut_after (y ∷ us) w u h

-- ---- scalar values

lone_is_scalar : (u : ℕ) → u < 2 ^ 16 → IsScalar (lone_char u)
lone_is_scalar u h = grind (arith, nat_tests)

pair_is_scalar : (u v : ℕ) → is_pair u v ≡ true → IsScalar (surrogate_pair_char u v)
pair_is_scalar u v h = let parts = and_parts (is_high_surrogate u) (is_low_surrogate v) h in grind (arith, nat_tests)

either_scalar : (t : Bool) (p q : Option ℕ) (xs ys : List (Option ℕ)) → (t ≡ true → IsScalar (unwrap_or p 0xFFFD)) → IsScalar (unwrap_or q 0xFFFD)
    → AllByRecursion IsScalar (map (λ o. unwrap_or o 0xFFFD) xs) → AllByRecursion IsScalar (map (λ o. unwrap_or o 0xFFFD) ys)
    → AllByRecursion IsScalar (map (λ o. unwrap_or o 0xFFFD) (if t then p ∷ xs else q ∷ ys))
either_scalar true p q xs ys first other rest more = (first refl, rest)
either_scalar false p q xs ys first other rest more = (other, more)

chars_are_scalars : (us : List ℕ) → AllByRecursion (λ u. u < 2 ^ 16) us → AllByRecursion IsScalar (utf16_text us)
unfolding utf16_chars
chars_are_scalars [] fits = tt
chars_are_scalars (u ∷ []) fits = (lone_is_scalar u fits.0, tt)
chars_are_scalars (u ∷ v ∷ us) fits =
    either_scalar (is_pair u v) _ _ _ _ (pair_is_scalar u v) (lone_is_scalar u fits.0)
    (chars_are_scalars us fits.1.1) (chars_are_scalars (v ∷ us) fits.1)

-- numbers in range at each index are so by recursion
pub in_range : (top : ℕ) (us : List ℕ) → ((i : ℕ) → get_or us i 0 < top) → AllByRecursion (λ u. u < top) us
in_range top [] h = tt
in_range top (u ∷ us) h = (h 0, in_range top us (λ i. h (suc i)))

pub utf16_scalars : (us : List ℕ) → ((i : ℕ) → get_or us i 0 < 2 ^ 16) → AllByRecursion IsScalar (utf16_text us)
utf16_scalars us h = chars_are_scalars us (in_range (2 ^ 16) us h)

-- ---- how many characters

shorter : (t : Bool) (p q : Option ℕ) (xs ys : List (Option ℕ)) (n : ℕ) → length xs ≤ n → length ys ≤ suc n
    → length (if t then p ∷ xs else q ∷ ys) ≤ suc (suc n)
shorter true p q xs ys n h k = omega arith
shorter false p q xs ys n h k = omega arith

chars_length : (us : List ℕ) → length (utf16_chars us) ≤ length us
unfolding utf16_chars
chars_length [] = omega arith
chars_length (u ∷ []) = omega arith
chars_length (u ∷ v ∷ us) = shorter (is_pair u v) _ _ _ _ (length us) (chars_length us) (chars_length (v ∷ us))

pub text_length : (us : List ℕ) → length (utf16_text us) ≤ length us
text_length us = omega (arith, chars_length us, length-map (utf16_chars us) (λ o. unwrap_or o 0xFFFD))
