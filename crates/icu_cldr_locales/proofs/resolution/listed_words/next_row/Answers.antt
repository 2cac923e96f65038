use Rattle.std.proofs.Common.{◌≡◌, ℕ, List, ◌∷◌, None}
use Rattle.icu_cldr_locales.specs.resolution.ListedWords.{value_in_rows}
use Rattle.icu_cldr_locales.specs.resolution.WordsLeft.{words_left}
use Rattle.icu_cldr_locales.proofs.ListedWordLemmas.{no_row_0, no_row_1, no_row_2, none_matches}
use Rattle.icu_cldr_locales.proofs.resolution.listed_words.next_row.Goals as goal

pub returns-in_err-first-clause-rows : goal.returns-in_err-first-clause-rows
returns-in_err-first-clause-rows c =
    none_matches c.from_residual.result ((f s : List ℕ) → value_in_rows f s (words_left c.args.left) ≡ None)
    (λ next. words_left c.args.left ≡ next.0.first.now ∷ next.0.second.now ∷ next.0.value.now ∷ words_left next.1)
    c.from_residual.ensures (no_row_0 (words_left c.args.left) c.in_err-first.ensures.words)

pub returns-in_err-second-clause-rows : goal.returns-in_err-second-clause-rows
returns-in_err-second-clause-rows c =
    none_matches c.from_residual-in_err-second.result ((f s : List ℕ) → value_in_rows f s (words_left c.args.left) ≡ None)
    (λ next. words_left c.args.left ≡ next.0.first.now ∷ next.0.second.now ∷ next.0.value.now ∷ words_left next.1)
    c.from_residual-in_err-second.ensures
    (no_row_1 (words_left c.args.left) c.in_ok-first.first.now (words_left c.in_ok-first.rest) c.in_ok-first.ensures.words c.in_err-second.ensures.words)

pub returns-in_err-value-clause-rows : goal.returns-in_err-value-clause-rows
returns-in_err-value-clause-rows c =
    none_matches c.from_residual-in_err-value.result ((f s : List ℕ) → value_in_rows f s (words_left c.args.left) ≡ None)
    (λ next. words_left c.args.left ≡ next.0.first.now ∷ next.0.second.now ∷ next.0.value.now ∷ words_left next.1)
    c.from_residual-in_err-value.ensures
    (no_row_2 (words_left c.args.left) c.in_ok-first.first.now c.in_ok-second.second.now (words_left c.in_ok-first.rest) (words_left c.in_ok-second.rest)
    c.in_ok-first.ensures.words c.in_ok-second.ensures.words c.in_err-value.ensures.words)
