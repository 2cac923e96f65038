-- The laws of texts that begin with others, as contracts name them.
use Rattle.std.specs.Prelude.{◌≡◌, true, false, ℕ, List, ◌++◌}
use Rattle.std.specs.Ordering.{is_gt, is_lt}
use Rattle.std.specs.declared.cmp.Ordering.TheVariants.{Equal}
use Rattle.icu_order_levels.specs.beginnings.KeyBeginnings.{begins, stands_between}
use Rattle.icu_order_levels.specs.beginnings.KeyBeginnings.{AreBytes}
use Rattle.icu_element_reading.specs.TextElementLaws.{IsText}
use Rattle.icu_order_levels.specs.ListOrder.{list_order}
use Rattle.icu_order_texts.specs.Collations.{Collation}
use Rattle.icu_order_texts.specs.TextCuts.{IsRest}
use Rattle.icu_order_texts.specs.TextOrder.{text_key, text_order}
use Rattle.icu_order_texts.specs.TextOrderLaws.{OfTexts}
use Rattle.icu_order_texts.specs.text_beginnings.TextBeginnings.{lower_bound, primary_order, primary_weights, text_begins, upper_bound}

-- the primary level orders texts by their primary weights, whatever the collation
abbrev pub PrimaryOrderIsOfWeights : Type 0
PrimaryOrderIsOfWeights = (c : Collation) (t u : List ℕ) → primary_order c t u ≡ list_order (primary_weights c t) (primary_weights c u)

-- what isn't Greater at a strength isn't Greater at the primary level
abbrev pub OrderKeepsPrimaryOrder : Type 0
OrderKeepsPrimaryOrder = (c : Collation) (t u : List ℕ) → is_gt (text_order c t u) ≡ false → is_gt (primary_order c t u) ≡ false

-- a key begins with a lower bound exactly if its text begins with the text of the bound
abbrev pub KeysBeginAsTexts : Type 0
KeysBeginAsTexts = OfTexts (λ c b t. begins (lower_bound c b) (text_key c t) ≡ text_begins c b t)

-- and exactly if it stands between the bounds, as bytes
abbrev pub BeginningsStandBetweenKeys : Type 0
BeginningsStandBetweenKeys =
    OfTexts (λ c b t. AreBytes (lower_bound c b) → AreBytes (text_key c t)
    → text_begins c b t ≡ stands_between (lower_bound c b) (upper_bound c b) (text_key c t))

-- a key stands below a lower bound exactly if its text is Less at the primary level than the text of the bound
abbrev pub KeysStandBelowAsTexts : Type 0
KeysStandBelowAsTexts = OfTexts (λ c b t. is_lt (list_order (text_key c t) (lower_bound c b)) ≡ is_lt (primary_order c t b))

-- a text begins with what is Equal at the primary level to its front, whatever the collation
abbrev pub TextsBeginWithTheirBeginnings : Type 0
TextsBeginWithTheirBeginnings =
    (c : Collation) (b front rest : List ℕ) → IsRest c rest → primary_order c front b ≡ Equal → text_begins c b (front ++ rest) ≡ true

-- texts that are Equal at the primary level begin the same texts, and the same texts begin them
pub record BeginTheSame (c : Collation) (t u : List ℕ) : Type 0 where
  pub begin : (text : List ℕ) → text_begins c t text ≡ text_begins c u text
  pub begun : (beginning : List ℕ) → text_begins c beginning t ≡ text_begins c beginning u

-- so it is by each collation
abbrev pub EqualTextsBeginTheSame : Type 0
EqualTextsBeginTheSame = (c : Collation) (t u : List ℕ) → primary_order c t u ≡ Equal → BeginTheSame c t u
