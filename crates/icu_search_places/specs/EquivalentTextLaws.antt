-- Canonically equivalent texts have the same matches (UTS #10, "Searching and Matching").
use Rattle.std.specs.Prelude.{◌≡◌, ℕ, ◌≤◌, Bool, List, length, take, drop}
use Rattle.icu_order_texts.specs.text_laws.OrderLaws.{AreEquivalent}
use Rattle.icu_search_places.specs.LeastMatches.{Span}
use Rattle.icu_search_places.specs.Searches.{Search}
use Rattle.icu_search_places.specs.SearchLaws.{part, IsMatch}

-- two parts, of one text and of another, stand for the same part of the decomposed text
pub record StandForOnePart (text : List ℕ) (m : Span) (other_text : List ℕ) (other : Span) : Type 0 where
  pub before : AreEquivalent (take m.start text) (take other.start other_text)
  pub same : AreEquivalent (part text m) (part other_text other)
  pub from_start : AreEquivalent (drop m.start text) (drop other.start other_text)
  pub behind : AreEquivalent (drop m.stop text) (drop other.stop other_text)

-- a match of the other text stands for the same part as a match of the first one, and no other part does
pub record Corresponds (s : Search) (text : List ℕ) (m : Span) (other_text : List ℕ) : Type 0 where
  pub other : Span
  pub is_match : IsMatch s other_text other
  pub one_part : StandForOnePart text m other_text other
  pub only : (third : Span) → third.start ≤ length other_text → third.stop ≤ length other_text → StandForOnePart text m other_text third → third ≡ other

-- what is allowed in one text is allowed in the other, at offsets that equivalent texts follow
abbrev pub AllowAlike : (ℕ → Bool) → List ℕ → (ℕ → Bool) → List ℕ → Type 0
AllowAlike allowed text other_allowed other_text =
    (k l : ℕ) → k ≤ length text → l ≤ length other_text → AreEquivalent (drop k text) (drop l other_text) → allowed k ≡ other_allowed l

-- the matches of canonically equivalent texts correspond, one to one, by any tables
abbrev pub EquivalentTextsCorrespond : Type 0
EquivalentTextsCorrespond =
    (s : Search) (other_allowed : ℕ → Bool) (text other_text : List ℕ) → AreEquivalent text other_text
    → AllowAlike s.allowed text other_allowed other_text
    → (m : Span) → IsMatch s text m → Corresponds (record s { allowed = other_allowed }) text m other_text
