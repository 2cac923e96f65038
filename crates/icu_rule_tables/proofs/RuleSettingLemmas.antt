-- Settings that are gone through in turn, of which the last one stands first.
use Rattle.std.proofs.Common.{◌≡◌, ℕ, ◌+◌, ◌<◌, List, Option, String, [], ◌∷◌, length, get_or, take, map, reverse, ap, sym, ◌∙◌, Bor}
use Rattle.std.specs.declared.alloc.Global.{Global}
use Rattle.std.proofs.lemmas.List.{take_more, map-append, reverse-append}
use Rattle.icu_options.specs.declared.metadata.MetadataSettings.{MetadataSettings}
use Rattle.icu_rule_parser.specs.declared.statement.RuleSetting.{RuleSetting}
use Rattle.icu_rule_tables.specs.RuleSettings.{settings_after, with_setting, reorder_words, words_with}

-- the settings up to one, the last one first
abbrev pub said_to : ℕ → List (Bor RuleSetting) → List RuleSetting
said_to i said = reverse (map (λ (s : Bor RuleSetting). s.now) (take i said))

one_more : (said : List (Bor RuleSetting)) (i : ℕ) (d : Bor RuleSetting) → i < length said
    → said_to (i + 1) said ≡ (get_or said i d).now ∷ said_to i said
one_more said i d less =
    let now : Bor RuleSetting → RuleSetting = λ s. s.now in
    ap (λ xs. reverse (map now xs)) (take_more said i d less)
    ∙ ap reverse (map-append now (take i said) (get_or said i d ∷ []))
    ∙ reverse-append (map now (take i said)) (now (get_or said i d) ∷ [])

pub one_setting : (root s next : MetadataSettings) (said : List (Bor RuleSetting)) (i : ℕ) (x : Bor RuleSetting) → i < length said
    → x ≡ get_or said i x → s ≡ settings_after root (said_to i said) → next ≡ with_setting s x.now
    → next ≡ settings_after root (said_to (i + 1) said)
unfolding settings_after
one_setting root s next said i x less at is step =
    step ∙ ap (λ t. with_setting t x.now) is
    ∙ ap (λ (y : Bor RuleSetting). with_setting (settings_after root (said_to i said)) y.now) at
    ∙ sym (ap (settings_after root) (one_more said i x less))

pub one_words : (words next : Option (List (String Global))) (said : List (Bor RuleSetting)) (i : ℕ) (x : Bor RuleSetting) → i < length said
    → x ≡ get_or said i x → words ≡ reorder_words (said_to i said) → next ≡ words_with x.now words
    → next ≡ reorder_words (said_to (i + 1) said)
unfolding reorder_words
one_words words next said i x less at is step =
    step ∙ ap (λ w. words_with x.now w) is
    ∙ ap (λ (y : Bor RuleSetting). words_with y.now (reorder_words (said_to i said))) at
    ∙ sym (ap reorder_words (one_more said i x less))
