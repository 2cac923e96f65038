-- Characters that begin contractions, and which characters go on what they begin.
use Rattle.std.specs.Prelude.{◌≡◌, ◌≢◌, ◌%◌, ℕ, List, [], ◌∷◌, true, Some, None, ⊤, ◌⊎◌}
use Rattle.std.specs.List.{AllByRecursion}
use Rattle.std.specs.Int.{bit_at}
use Rattle.ucd_normal.specs.declared.forms.Form.TheVariants.{Nfd}
use Rattle.ucd_normal.specs.CanonicalCombiningClass.{canonical_combining_class as class_of}
use Rattle.unicode_normalization.specs.Decompose.{decompose}
use Rattle.unicode_normalization.specs.Order.{is_starter}
use Rattle.icu_table_entries.specs.declared.entry.EntryKind.TheVariants.{Contraction}
use Rattle.icu_table_entries.specs.Entries.{kind_of}
use Rattle.icu_table_data.specs.Data.{Mapping, Context, context_of, longest_mapping}
use Rattle.icu_table_provider.specs.Tables.{entry_of, diacritic_of}
use Rattle.icu_element_reading.specs.TextElements.{Reading}
use Rattle.icu_element_reading.specs.inner.StepsTaken.{NoneBeginsWith}

-- a character that is no diacritic and begins the contractions of a context
pub record HasContractions (reading : Reading) (c : ℕ) (context : Context) : Type 0 where
  pub no_diacritic : diacritic_of reading.tables c ≡ None
  pub begins : kind_of (entry_of reading.tables c).entry ≡ Contraction
  pub same : context ≡ context_of (entry_of reading.tables c)

-- a starter that decomposes to itself, is no diacritic, and begins the contractions of a context
pub record BeginsContractions (reading : Reading) (c : ℕ) (context : Context) : Type 0 where
  pub itself : decompose Nfd c ≡ c ∷ []
  pub starter : is_starter c ≡ true
  pub no_diacritic : diacritic_of reading.tables c ≡ None
  pub begins : kind_of (entry_of reading.tables c).entry ≡ Contraction
  pub same : context ≡ context_of (entry_of reading.tables c)

-- the mark is a mapping by itself
pub record JoinsAlone (context : Context) (mark : ℕ) : Type 0 where
  pub mapping : Mapping
  pub joined : longest_mapping context.mappings (mark ∷ []) ≡ Some mapping
  pub chars : mapping.chars ≡ mark ∷ []

-- a letter that decomposes to a starter, which begins the contractions of a context, and a mark, which is one of the
-- mappings by itself
pub record IsComposed (reading : Reading) (c : ℕ) (context : Context) (mark : ℕ) : Type 0 where
  pub base : ℕ
  pub decomposes : decompose Nfd c ≡ base ∷ mark ∷ []
  pub starter : class_of base ≡ 0
  pub some : class_of mark ≢ 0
  pub has : HasContractions reading base context
  pub joins : JoinsAlone context mark

-- ---- characters that go on none

-- characters don't begin with these two
abbrev pub DiffersFromPair : ℕ → ℕ → List ℕ → Type 0
DiffersFromPair x d [] = ⊤
DiffersFromPair x d (y ∷ []) = ⊤
DiffersFromPair x d (y ∷ (z ∷ zs)) = y ≡ x → z ≢ d

-- no mapping begins with these two
abbrev pub NoneBeginsWithBoth : List Mapping → ℕ → ℕ → Type 0
NoneBeginsWithBoth mappings x d = AllByRecursion (λ (m : Mapping). DiffersFromPair x d m.chars) mappings

-- the bit that a character's low six bits number isn't set
abbrev pub HasNoBit : ℕ → ℕ → Type 0
HasNoBit bits d = bit_at bits (d % 64) ≡ 0

-- no mapping of a letter that decomposes to itself begins with a character that has no bit
pub record ArePlainFollowers (reading : Reading) (c bits : ℕ) : Type 0 where
  pub context : Context
  pub begins : BeginsContractions reading c context
  pub no_numbers : reading.numeric ≡ None
  pub none : (d : ℕ) → HasNoBit bits d → NoneBeginsWith context.mappings d

-- no mapping of a composed letter's starter begins with its mark, of this class, and a character that has no bit
pub record AreComposedFollowers (reading : Reading) (c k bits : ℕ) : Type 0 where
  pub context : Context
  pub mark : ℕ
  pub composed : IsComposed reading c context mark
  pub class : class_of mark ≡ k
  pub no_numbers : reading.numeric ≡ None
  pub none : (d : ℕ) → HasNoBit bits d → NoneBeginsWithBoth context.mappings mark d

-- A character that has no bit here goes on nothing that the character begins. The class is that of a composed letter's
-- mark. Where all bits are set, nothing is known.
abbrev pub AreFollowers : Reading → ℕ → ℕ → ℕ → Type 0
AreFollowers reading c k bits = ((d : ℕ) → HasNoBit bits d → ⊥) ⊎ (ArePlainFollowers reading c bits ⊎ AreComposedFollowers reading c k bits)
