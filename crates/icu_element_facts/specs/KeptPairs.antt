-- Pairs of characters that contractions join, kept with their elements, and pairs that contractions begin with.
use Rattle.std.specs.Prelude.{◌≡◌, ◌≢◌, ◌<◌, ℕ, true, false, List, [], ◌∷◌, None, length, slice_index_or}
use Rattle.ucd_normal.specs.CanonicalCombiningClass.{canonical_combining_class as class_of}
use Rattle.ucd_normal.specs.declared.forms.Form.TheVariants.{Nfd}
use Rattle.unicode_normalization.specs.Decompose.{decompose}
use Rattle.unicode_normalization.specs.Order.{is_starter}
use Rattle.icu_table_entries.specs.declared.entry.EntryKind.TheVariants.{Digit}
use Rattle.icu_table_entries.specs.Elements.{Element}
use Rattle.icu_table_entries.specs.Entries.{kind_of}
use Rattle.icu_table_data.specs.Data.{Context, homed, longest_mapping}
use Rattle.icu_table_data.specs.Final.{final_elements}
use Rattle.icu_table_provider.specs.Tables.{entry_of}
use Rattle.icu_element_reading.specs.TextElements.{Reading}
use Rattle.icu_element_facts.specs.FewElements.{few_elements}
use Rattle.icu_element_facts.specs.Followers.{BeginsContractions, HasNoBit, JoinsAlone, NoneBeginsWithBoth}
use Rattle.icu_element_facts.specs.declared.kept_pairs.KeptPair.{KeptPair}
use Rattle.icu_element_facts.specs.declared.kept_pairs.KeptPairs.{KeptPairs}

-- a character that begins the contractions of a context, and one of this class that decomposes to itself and is a
-- mapping of it by itself, no digit's. No mapping begins with that one and a character that has no bit here
pub record IsJoined (reading : Reading) (context : Context) (c x k bits : ℕ) : Type 0 where
  pub begins : BeginsContractions reading c context
  pub itself : decompose Nfd x ≡ x ∷ []
  pub class : class_of x ≡ k
  pub joins : JoinsAlone context x
  pub no_digit : kind_of joins.mapping.entry ≢ Digit
  pub none : (d : ℕ) → HasNoBit bits d → NoneBeginsWithBoth context.mappings x d

-- two characters are joined so, and these are the elements of the mapping
pub record IsPair (reading : Reading) (c x k bits : ℕ) (es : List Element) : Type 0 where
  pub context : Context
  pub joined : IsJoined reading context c x k bits
  pub elements : es ≡ final_elements (homed (entry_of reading.tables c).home joined.joins.mapping.entry) c

-- a character that begins the contractions of a context, and a starter that decomposes to itself; mappings may begin
-- with that one, but none is it alone, and none begins with it and a character that has no bit here
pub record IsUnjoinedPair (reading : Reading) (c x bits : ℕ) : Type 0 where
  pub context : Context
  pub begins : BeginsContractions reading c context
  pub no_numbers : reading.numeric ≡ None
  pub itself : decompose Nfd x ≡ x ∷ []
  pub starter : is_starter x ≡ true
  pub not_alone : longest_mapping context.mappings (x ∷ []) ≡ None
  pub none : (d : ℕ) → HasNoBit bits d → NoneBeginsWithBoth context.mappings x d

-- what is kept of two characters is so
pub record IsKeptOf (reading : Reading) (c x : ℕ) (p : KeptPair) : Type 0 where
  pub joined : p.joins ≡ true → IsPair reading c x p.class p.followers (few_elements p.few)
  pub unjoined : p.joins ≡ false → IsUnjoinedPair reading c x p.followers

-- what is kept of a pair is so
abbrev pub IsKeptPair : Reading → KeptPair → Type 0
IsKeptPair reading p = ∥ IsKeptOf reading p.first p.second p ∥₁

-- so is what is kept of each
abbrev pub ArePairs : Reading → KeptPairs → Type 0
ArePairs reading t = (k : ℕ) (other : KeptPair) → k < length t.pairs.items → IsKeptPair reading (slice_index_or t.pairs.items k other)
