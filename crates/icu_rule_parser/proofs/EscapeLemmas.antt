-- Escapes, by what stands behind the backslash.
use Rattle.std.proofs.Common.{ℕ, ◌≡◌, ◌≢◌, inl, inr, List, [], ◌∷◌, ◌++◌, ap, ◌∙◌, sym, refl, append_assoc}
use Rattle.icu_rule_parser.specs.RuleStrings.{itself, four, eight, two, braced}
use Rattle.icu_rule_parser.specs.TakenText.{TakesDigits, TakesShort, TakesEscape}

pub escape_four : {k d : ℕ} {text after rest : List ℕ} → text ≡ k ∷ after → k ≡ 117 → TakesDigits after 4 d rest → TakesEscape text d rest
escape_four {k} {d} {text} {after} e n (digits, len, writes, same) =
    (117 ∷ digits, four len writes, e ∙ ap (λ i. i ∷ after) n ∙ ap (λ t. 117 ∷ t) same)

pub escape_eight : {k d : ℕ} {text after rest : List ℕ} → text ≡ k ∷ after → k ≡ 85 → TakesDigits after 8 d rest → TakesEscape text d rest
escape_eight {k} {d} {text} {after} e n (digits, len, writes, same) =
    (85 ∷ digits, eight len writes, e ∙ ap (λ i. i ∷ after) n ∙ ap (λ t. 85 ∷ t) same)

pub escape_short : {k d : ℕ} {text after rest : List ℕ} → text ≡ k ∷ after → k ≡ 120 → TakesShort after d rest → TakesEscape text d rest
escape_short {k} {d} {text} {after} e n (inl (digits, len, writes, same)) =
    (120 ∷ digits, two len writes, e ∙ ap (λ i. i ∷ after) n ∙ ap (λ t. 120 ∷ t) same)
escape_short {k} {d} {text} {after} {rest} e n (inr (inside, opened, (digits, some, few, writes, same))) = (
  120 ∷ 123 ∷ digits ++ 125 ∷ [],
  braced digits some few writes refl,
  e ∙ ap (λ i. i ∷ after) n ∙ ap (λ t. 120 ∷ t) (opened ∙ ap (λ t. 123 ∷ t) (same ∙ sym (append_assoc digits (125 ∷ []) rest))),
)

pub escape_itself : {k : ℕ} {text after : List ℕ} → text ≡ k ∷ after → k ≢ 117 → k ≢ 85 → k ≢ 120 → TakesEscape text k after
escape_itself {k} e u v x = (k ∷ [], itself u v x, e)
