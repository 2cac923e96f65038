-- The keys of starts.
use Rattle.std.specs.Prelude.{◌≡◌, ℕ, List}
use Rattle.std.specs.List.{AllByRecursion}
use Rattle.icu_text_encodings.specs.DecodedTexts.{utf8_text}
use Rattle.icu_index_keys.specs.keyed_starts.Starts.{KeyedStart}
use Rattle.icu_order_texts.specs.text_beginnings.TextBeginnings.{lower_bound}
use Rattle.icu_order_texts.specs.Collations.{Collation}

-- the key of a name at the primary level
abbrev pub bound_of : Collation → List ℕ → List ℕ
bound_of c name = lower_bound c (utf8_text name)

-- each start has its key
abbrev pub AreStartKeys : (List ℕ → List ℕ) → List KeyedStart → Type 0
AreStartKeys key starts = AllByRecursion (λ x. x.0 ≡ key x.1) starts
