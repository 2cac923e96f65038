-- The characters of strings, taken one at a time.
use Rattle.std.proofs.Common.{ℕ, Bool, true, false, not, ◌||◌, ◌≡◌, ◌≢◌, ◌<◌, List, [], ◌∷◌, ◌++◌, length, ap, ◌∙◌, sym, refl, subst, append_assoc, arith}
use Rattle.std.specs.List.{list_all}
use Rattle.std.proofs.lemmas.List.{append-nil}
use Rattle.icu_rule_parser.specs.RuleCharacters.{is_plain, is_reserved}
use Rattle.icu_rule_parser.specs.RuleStrings.{IsNoQuote, SpellsCharacters, ends, plain, quoted, apostrophe, escaped, opens, closes}
use Rattle.icu_rule_parser.specs.Tokens.{string}
use Rattle.icu_rule_parser.specs.TakenText.{TakesEscape, TakesCharacters, Takes}
use Rattle.icu_rule_parser.proofs.SkipLemmas.{takes_then}
use Rattle.icu_rule_parser.proofs.BracketLemmas.{take_token}

pub characters_none : {within : Bool} {text : List ℕ} → TakesCharacters within text [] within text
characters_none = ([], refl, λ more tail n s. s)

-- what follows a part begins with no apostrophe either, where the part and the rest don't
no_quote_swap : (part rest tail : List ℕ) {text : List ℕ} → text ≡ part ++ rest → (IsNoQuote rest → IsNoQuote tail) → IsNoQuote text → IsNoQuote (part ++ tail)
no_quote_swap [] rest tail e n h = n (subst (λ t. IsNoQuote t) e h)
no_quote_swap (x ∷ part) rest tail e n h = subst (λ t. IsNoQuote t) e h

pub no_quote_from : (after : List ℕ) → ((rest : List ℕ) → after ≢ 39 ∷ rest) → IsNoQuote after
no_quote_from [] h = tt
no_quote_from (x ∷ xs) h = λ e. h xs (ap (λ k. k ∷ xs) e)

pub characters_quote : {text after : List ℕ} (within : Bool) → text ≡ 39 ∷ after → IsNoQuote after → TakesCharacters within text [] (not within) after
characters_quote false e n = (39 ∷ [], e, λ more tail h s. opens (h n) s)
characters_quote true e n = (39 ∷ [], e, λ more tail h s. closes (h n) s)

pub characters_apostrophe : {k : ℕ} {text after rest : List ℕ} (within : Bool) → text ≡ k ∷ after → k ≡ 39 → after ≡ 39 ∷ rest → TakesCharacters within text (39 ∷ []) within rest
characters_apostrophe {k} {text} {after} within e n f = (
  39 ∷ 39 ∷ [],
  e ∙ ap (λ i. i ∷ after) n ∙ ap (λ t. 39 ∷ t) f,
  λ more tail h s. apostrophe s,
)

pub characters_escape : {k d : ℕ} {text after rest : List ℕ} (within : Bool) → text ≡ k ∷ after → k ≡ 92 → TakesEscape after d rest → TakesCharacters within text (d ∷ []) within rest
characters_escape {k} {d} {text} {after} within e n (escape, spelled, f) = (
  92 ∷ escape,
  e ∙ ap (λ i. i ∷ after) n ∙ ap (λ t. 92 ∷ t) f,
  λ more tail h s. escaped escape spelled s refl,
)

pub characters_one : {k : ℕ} {text after : List ℕ} (within : Bool) → text ≡ k ∷ after → k ≢ 39 → k ≢ 92 → (within || is_plain k) ≡ true → TakesCharacters within text (k ∷ []) within after
characters_one {k} false e q b h = (k ∷ [], e, λ more tail n s. plain h s)
characters_one {k} true e q b h = (k ∷ [], e, λ more tail n s. quoted q b s)

pub characters_then : {a b c : Bool} {t r q : List ℕ} (cs ds : List ℕ) → TakesCharacters a t cs b r → TakesCharacters b r ds c q → TakesCharacters a t (cs ++ ds) c q
characters_then {a} {b} {c} {t} {r} {q} cs ds (part, e, first) (behind, f, second) = (
  part ++ behind,
  e ∙ ap (λ x. part ++ x) f ∙ sym (append_assoc part behind q),
  λ more tail n s.
      subst (λ x. SpellsCharacters a x ((part ++ behind) ++ tail)) (sym (append_assoc cs ds more))
      (subst (λ x. SpellsCharacters a (cs ++ (ds ++ more)) x) (sym (append_assoc part behind tail))
      (first (ds ++ more) (behind ++ tail) (no_quote_swap behind q tail f n) (second more tail n s))),
)

-- one character more, and what may be a quote behind it
pub characters_step : {a b c : Bool} {t r q w : List ℕ} (cs new : List ℕ) (d : ℕ) → new ≡ cs ++ d ∷ [] → TakesCharacters a t cs b r → TakesCharacters b r (d ∷ []) b q → TakesCharacters b q [] c w → TakesCharacters a t new c w
characters_step {a} {b} {c} {t} {r} {q} {w} cs new d e first one quote =
    subst (λ k. TakesCharacters a t k c w) (sym e) (characters_then cs (d ∷ []) first (characters_then (d ∷ []) [] one quote))

pub take_string : {text mid rest : List ℕ} (cs : List ℕ) → Takes text [] mid → TakesCharacters false mid cs false rest → 0 < length cs → list_all (λ c. not (is_reserved c)) cs ≡ true → Takes text (string cs ∷ []) rest
take_string {text} {mid} {rest} cs blanks (part, e, taken) some allowed =
    let spelled : SpellsCharacters false cs part =
    subst (λ k. SpellsCharacters false k part) (append-nil cs)
    (subst (λ k. SpellsCharacters false (cs ++ []) k) (append-nil part) (taken [] [] (λ n. tt) ends)) in
    let none : cs ≢ [] = λ e. absurd (omega (arith, ap length e)) in
    takes_then [] (string cs ∷ []) blanks (take_token rest (string cs) part (none, spelled, allowed) e)
