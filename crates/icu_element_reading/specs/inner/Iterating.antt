-- What a source of decomposed characters has left.
use Rattle.std.specs.Prelude.{◌≡◌, ℕ, ◌+◌, ◌*◌, List, [], flat_map, Option, MatchOption}
use Rattle.std.specs.Iterator.{Count}
use Rattle.unicode_normalization.specs.Decompose.{decompose_canonical}
use Rattle.unicode_normalization.specs.Iter.{SourceSpells, SourceIsReady, source_size, IsFirstOf}
use Rattle.icu_element_reading.specs.declared.decomposed_source.DecomposedSource.{DecomposedSource}
use Rattle.icu_element_reading.specs.inner.HeldChars.{held_before, held_count}

-- its delegate still spells these characters
abbrev pub StillSpells : {I : Type 0} → (I → Option ℕ → I → Type 0) → DecomposedSource I → List ℕ → Type 0
StillSpells steps source cs = SourceSpells steps source.is_done source.iter cs

-- these decomposed characters are still to come from the source, unless an allocation fails
pub record StillReads {I : Type 0} (steps : I → Option ℕ → I → Type 0) (source : DecomposedSource I) (cs : List ℕ) : Type 0 where
  pub unread : List ℕ
  pub spelled : StillSpells steps source unread
  pub text : cs ≡ held_before source.held (flat_map decompose_canonical unread)

-- the first of what is left came, or nothing was left
abbrev pub IsNextOf : {S : Type 0} → (S → List ℕ → Type 0) → Option ℕ → S → S → Type 0
IsNextOf HasLeft found old new = (cs : List ℕ) → HasLeft old cs → MatchOption found ((cs ≡ []) × HasLeft new []) (IsFirstOf HasLeft cs new)

-- the delegate gave its next character
abbrev pub ReadsNext : {I : Type 0} → (I → Option ℕ → I → Type 0) → Option ℕ → DecomposedSource I → DecomposedSource I → Type 0
ReadsNext steps found old new = IsNextOf (StillSpells steps) found old new

-- the source gave its next decomposed character
abbrev pub GivesChar : {I : Type 0} → (I → Option ℕ → I → Type 0) → Option ℕ → DecomposedSource I → DecomposedSource I → Type 0
GivesChar steps found old new = IsNextOf (StillReads steps) found old new

-- it may be called
abbrev pub CanRead : {I : Type 0} → (I → Type 0) → (I → Count) → DecomposedSource I → Type 0
CanRead can left source = SourceIsReady can left source.is_done source.iter

-- how many characters its delegate may still give
abbrev pub reads_left : {I : Type 0} → (I → Count) → DecomposedSource I → ℕ
reads_left left source = source_size left source.is_done source.iter

-- how many decomposed characters may still come; no character decomposes to more than 18
abbrev pub chars_in_source : {I : Type 0} → (I → Count) → DecomposedSource I → ℕ
chars_in_source left source = held_count source.held + 18 * reads_left left source
