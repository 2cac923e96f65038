-- A character that begins contractions, before a text that goes on none of them.
use Rattle.std.specs.Prelude.{◌≡◌, ℕ, List, [], ◌∷◌, ◌++◌, true, false, None, ⊤}
use Rattle.ucd_normal.specs.declared.forms.Form.TheVariants.{Nfd}
use Rattle.unicode_normalization.specs.Decompose.{decompose}
use Rattle.unicode_normalization.specs.Forms.{nfd}
use Rattle.ucd_normal.specs.CanonicalCombiningClass.{canonical_combining_class as class_of}
use Rattle.unicode_normalization.specs.Order.{is_starter}
use Rattle.icu_table_data.specs.Data.{Context, longest_mapping}
use Rattle.icu_element_matches.specs.MatchesAhead.{are_decided}
use Rattle.icu_element_reading.specs.TextElements.{Reading}
use Rattle.icu_element_cursor.specs.inner.MarkRuns.{Rises}
use Rattle.icu_element_reading.specs.boundaries.Places.{BeginsAtBoundary, MayBeCut}
use Rattle.icu_element_cursor.specs.declared.unjoined.Follower.{Follower}
use Rattle.icu_element_cursor.specs.declared.unjoined.Follower.TheVariants.{Boundary, Head, Other}

-- no mapping of a context begins with the character
pub record BeginsNone (context : Context) (d : ℕ) : Type 0 where
  pub none : longest_mapping context.mappings (d ∷ []) ≡ None
  pub decided : are_decided context.mappings (d ∷ []) ≡ true

-- so it is with each mark that a decomposed text begins with, and with the starter after them
unfoldable pub GoesOnNone : (ℕ → Type 0) → List ℕ → Type 0
GoesOnNone is_none [] = ⊤
GoesOnNone is_none (d ∷ ds) = is_none d × (is_starter d ≡ false → GoesOnNone is_none ds)

-- so it is with a text once it is decomposed, and the classes of its marks rise from this one
pub record IsUnjoined (is_none : ℕ → Type 0) (least : ℕ) (text : List ℕ) : Type 0 where
  pub rises : Rises least text
  pub goes_on : GoesOnNone is_none (nfd text)

-- a character decomposes to this one alone, or to a starter and others
pub record HeadsRun (c d : ℕ) : Type 0 where
  pub more : List ℕ
  pub decomposes : decompose Nfd c ≡ d ∷ more
  pub alone : is_starter d ≡ false → more ≡ []

-- so it is with a beginning of a text that ends or may be cut after it
pub record IsUnjoinedBefore (reading : Reading) (is_none : ℕ → Type 0) (least : ℕ) (text : List ℕ) : Type 0 where
  pub front : List ℕ
  pub rest : List ℕ
  pub parts : text ≡ front ++ rest
  pub unjoined : IsUnjoined is_none least front
  pub boundary : BeginsAtBoundary reading rest

-- a character decomposes to this one, of this class, alone, or to this starter and others
pub record IsHead (c d k : ℕ) : Type 0 where
  pub heads : HeadsRun c d
  pub class : class_of d ≡ k

-- what a character is that follows one that begins contractions
abbrev pub IsFollower : Reading → ℕ → Follower → Type 0
IsFollower reading c Boundary = MayBeCut reading c
IsFollower reading c (Head d class) = IsHead c d class
IsFollower reading c Other = ⊤
