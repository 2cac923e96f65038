-- The sort keys of names.
use Rattle.std.specs.Prelude.{◌≡◌, ℕ, List, filter}
use Rattle.std.specs.List.{AllByRecursion}
use Rattle.icu_text_encodings.specs.DecodedTexts.{utf8_text}
use Rattle.icu_index_keys.specs.KeyedLists.{Keyed}
use Rattle.icu_index_keys.specs.keyed_starts.Starts.{stands_within}
use Rattle.icu_index_keys.specs.declared.keyed_starts.starts.KeyBounds.{KeyBounds}
use Rattle.icu_order_texts.specs.Collations.{Collation}
use Rattle.icu_order_texts.specs.TextOrder.{text_key}

-- the sort key of a name
abbrev pub key_of : Collation → List ℕ → List ℕ
key_of c name = text_key c (utf8_text name)

-- each name has its key
abbrev pub AreKeyed : (List ℕ → List ℕ) → List Keyed → Type 0
AreKeyed key names = AllByRecursion (λ x. x.0 ≡ key x.1) names

-- those whose keys stand between two bounds
abbrev pub keyed_within : KeyBounds → List Keyed → List Keyed
keyed_within bounds xs = filter (λ x. stands_within bounds x.0) xs
