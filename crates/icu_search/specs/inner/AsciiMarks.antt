-- What is marked of ASCII characters.
use Rattle.std.specs.Prelude.{◌≡◌, ℕ, ◌<◌, Bool, true, false, ◌&&◌, ◌==◌, nat_lt, slice_index_or, List, [], ◌∷◌, length, Option, Some, None, not, ⊤, if◌then◌else◌}
use Rattle.ucd_normal.specs.declared.forms.Form.TheVariants.{Nfd}
use Rattle.unicode_normalization.specs.Decompose.{decompose}
use Rattle.unicode_normalization.specs.Forms.{nfd}
use Rattle.icu_element_reading.specs.boundaries.Cuts.{IsBoundary}
use Rattle.icu_table_entries.specs.Elements.{Element}
use Rattle.icu_element_reading.specs.TextElements.{Reading, elements_of}
use Rattle.icu_table_provider.specs.CollatorTables.{reorder}
use Rattle.icu_order_texts.specs.weighting.Collations.{Collation}
use Rattle.icu_order_texts.specs.weighting.Forms.{form_by, last_variable_by}
use Rattle.icu_order_texts.specs.TextOrder.{reading_by, lists_by}
use Rattle.icu_search_places.specs.PieceLaws.{BeginsPieces}
use Rattle.icu_search_places.specs.SearchPlaces.{leads}
use Rattle.icu_search.specs.inner.FirstWeights.{BeginsOtherwise, counts}
use Rattle.icu_search.specs.inner.SilentStarts.{EndsAtTertiaries, IsSilentBefore}
use Rattle.icu_search.specs.inner.SilentTexts.{IsSilentAlone}

-- an ASCII character has a mark
abbrev pub has_mark : List Bool → ℕ → Bool
has_mark marks c = nat_lt c 0x80 && slice_index_or marks c false

-- this is so of each character that has one
abbrev pub AllMarked : (ℕ → Type 0) → List Bool → Type 0
AllMarked is marks = (c : ℕ) → has_mark marks c ≡ true → is c

-- A character by itself begins with a primary weight that counts, and that is compared as another one than the first of
-- these.
pub record BeginsWithOther (c : Collation) (front : List ℕ) (x : ℕ) : Type 0 where
  pub element : Element
  pub rest : List Element
  pub elements : elements_of (reading_by c) (nfd (x ∷ [])) ≡ element ∷ rest
  pub counted : counts (last_variable_by c) element.primary ≡ true
  pub some : 0 < length front
  pub other : reorder c.tables element.primary ≡ reorder c.tables (slice_index_or front 0 0) → ⊥

-- The decomposition of a character begins with a boundary that leads, so texts may be cut before it.
pub record LeadsPieces (reading : Reading) (x : ℕ) : Type 0 where
  pub some : 0 < length (decompose Nfd x)
  pub boundary : IsBoundary reading (slice_index_or (decompose Nfd x) 0 0)
  pub leading : leads (slice_index_or (decompose Nfd x) 0 0) ≡ true

-- a text that goes on behind it with a character before which it may be cut begins with another weight than these
abbrev pub OpensOtherwise : Collation → List ℕ → ℕ → Type 0
OpensOtherwise c front x = (y : ℕ) (tail : List ℕ) → BeginsPieces (reading_by c) y → BeginsOtherwise c (x ∷ y ∷ tail) front

-- texts may be cut before each that has a mark
abbrev pub MarkCuts : Reading → List Bool → Type 0
MarkCuts reading = AllMarked (LeadsPieces reading)

-- texts that begin with one that has a mark begin with another weight than these do
abbrev pub MarkOthers : Collation → List ℕ → List Bool → Type 0
MarkOthers c front = AllMarked (OpensOtherwise c front)

-- elements begin with a primary weight: there is a first one
abbrev pub opens_with_primary : List Element → Bool
opens_with_primary [] = false
opens_with_primary (x ∷ xs) = not (x.primary == 0)

-- those of a character by itself do
abbrev pub LeadsWithPrimary : Collation → ℕ → Type 0
LeadsWithPrimary c x = opens_with_primary (elements_of (reading_by c) (nfd (x ∷ []))) ≡ true

-- a character is silent, and no level counts from the quaternary one on
pub record GivesNothing (c : Collation) (x : ℕ) : Type 0 where
  pub ends : EndsAtTertiaries (form_by c)
  pub silent : IsSilentAlone c x

-- each that has a mark is silent before a primary weight
abbrev pub MarkSilent : Collation → List Bool → Type 0
MarkSilent c = AllMarked (GivesNothing c)

-- the elements of each that has a mark begin with one
abbrev pub MarkLeading : Collation → List Bool → Type 0
MarkLeading c = AllMarked (LeadsWithPrimary c)

-- how many primary weights an ASCII character has by itself, if that is known
abbrev pub counted_char : List (Option ℕ) → ℕ → Option ℕ
counted_char counts x = if nat_lt x 0x80 then slice_index_or counts x None else None

-- so many it has
abbrev pub CountChars : Collation → List (Option ℕ) → Type 0
CountChars c counts =
    (x n : ℕ) → counted_char counts x ≡ Some n → n ≡ length (lists_by c (nfd (x ∷ []))).primaries

-- a text begins with a character that is silent before what follows
pub record OpensSilently (c : Collation) (text : List ℕ) : Type 0 where
  pub char : ℕ
  pub next : ℕ
  pub tail : List ℕ
  pub text_is : text ≡ char ∷ next ∷ tail
  pub silent : IsSilentBefore c (char ∷ []) next tail
  pub ends : EndsAtTertiaries (form_by c)

-- a text has no characters, or begins with one before which texts may be cut
abbrev pub BeginsCut : Reading → List ℕ → Type 0
BeginsCut reading [] = ⊤
BeginsCut reading (x ∷ xs) = BeginsPieces reading x
