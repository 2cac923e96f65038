-- Runs of characters of a text each of which has one primary weight by itself.
use Rattle.std.specs.Prelude.{ℕ, ◌<◌, ◌≤◌, List, length}
use Rattle.icu_order_texts.specs.weighting.Collations.{Collation}
use Rattle.icu_search.specs.SearchedTexts.{searched_in, text_searched}
use Rattle.icu_search.specs.declared.searched_text.SearchedText.{SearchedText}
use Rattle.icu_search.specs.inner.CountedChars.{CountsAlone}

-- each character from an offset on, up to before another one, has one by itself
pub record AreAlone (c : Collation) (text : List ℕ) (start stop : ℕ) : Type 0 where
  pub within : stop ≤ length text
  pub alone : (k : ℕ) → start ≤ k → k < stop → CountsAlone c text k 1

-- of the text that is searched
abbrev pub is_run_in : SearchedText → ℕ → ℕ → Type 0
is_run_in t = AreAlone (searched_in t).collation (text_searched t)
