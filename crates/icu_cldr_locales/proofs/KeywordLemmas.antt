-- The front of a list before the first member that passes a test; subtags that follow one another in a text.
use Rattle.std.proofs.Common.{◌≡◌, ℕ, ◌+◌, ◌<◌, ◌≤◌, List, [], ◌∷◌, ◌++◌, length, take, get_or, append_assoc, string_bytes, Bool, true, false, cond, not, Some, None, refl, sym, ap, ◌∙◌, arith}
use Rattle.std.specs.Prelude.{position, nat_lt}
use Rattle.std.specs.List.{before_first, position_or_len}
use Rattle.std.proofs.lemmas.List.Sums.{prefix_len-le-length}
use Rattle.std.proofs.lemmas.Bool.Decides.{nat_tests}
use Rattle.std.proofs.lemmas.Grind.{common_steps, flat_map-append}
use Rattle.std.proofs.lemmas.List.{take_more, append-nil}
use Rattle.icu_cldr_locales.specs.declared.subtag.Subtag.{Subtag}
use Rattle.icu_cldr_locales.specs.Keywords.{followed}

some_at : (b : Bool) (n i : ℕ) → Some i ≡ cond b (Some n) None → n ≡ i
some_at true n i e = cc
some_at false n i e = cc

none_at : (b : Bool) (n : ℕ) → None ≡ cond b (Some n) None → b ≡ false
none_at true n e = cc
none_at false n e = refl

module _ {X : Type 0} (p : X → Bool) (xs : List X) where
  pub front_some : (i : ℕ) → Some i ≡ position p xs → take i xs ≡ before_first p xs
  front_some i e = ap (λ n. take n xs) (sym (some_at (nat_lt (position_or_len p xs) (length xs)) (position_or_len p xs) i e))

  pub front_fits : (i : ℕ) → Some i ≡ position p xs → i ≤ length xs
  front_fits i e =
      let at : position_or_len p xs ≡ i = some_at (nat_lt (position_or_len p xs) (length xs)) (position_or_len p xs) i e in
      omega (arith, at, prefix_len-le-length (λ x. not (p x)) xs)

  pub front_all : None ≡ position p xs → xs ≡ before_first p xs
  front_all e =
      let test = none_at (nat_lt (position_or_len p xs) (length xs)) (position_or_len p xs) e in
      let past : length xs ≤ position_or_len p xs = grind (arith, nat_tests, test) in
      grind (arith, common_steps, past)

-- one subtag more
pub followed_more : (separator text before behind : List ℕ) (subtags : List Subtag) (i : ℕ) (s : Subtag) → i < length subtags → s ≡ get_or subtags i s
    → before ≡ text ++ followed separator (take i subtags) → behind ≡ before ++ (separator ++ string_bytes s.text)
    → behind ≡ text ++ followed separator (take (i + 1) subtags)
followed_more separator text before behind subtags i s inside at said more =
    let next : take (i + 1) subtags ≡ take i subtags ++ s ∷ [] = take_more subtags i s inside ∙ ap (λ t. take i subtags ++ t ∷ []) (sym at) in
    let front : List ℕ = followed separator (take i subtags) in
    let part : List ℕ = separator ++ string_bytes s.text in
    let last : followed separator (take (i + 1) subtags) ≡ front ++ part =
    ap (followed separator) next
    ∙ (flat_map-append (λ (t : Subtag). separator ++ string_bytes t.text) (take i subtags) (s ∷ []) ∙ ap (λ t. front ++ t) (append-nil part)) in
    more ∙ (ap (λ t. t ++ part) said ∙ (append_assoc text front part ∙ ap (λ t. text ++ t) (sym last)))
