-- Steps at characters that were taken off a text, which comes from a source.
use Rattle.std.specs.Prelude.{◌≡◌, ◌≢◌, ◌<◌, ℕ, ⊤, true, List, [], ◌∷◌, ◌++◌, Option, Some, None, length, drop, option_to_list}
use Rattle.std.specs.List.{AllByRecursion, list_any}
use Rattle.icu_element_reading.specs.declared.decomposed_source.DecomposedSource.{DecomposedSource}
use Rattle.unicode_normalization.specs.Order.{is_starter}
use Rattle.icu_table_entries.specs.declared.entry.EntryKind.{EntryKind}
use Rattle.icu_table_entries.specs.declared.entry.EntryKind.TheVariants.{Prefix, Contraction, Digit}
use Rattle.icu_table_entries.specs.Elements.{Element}
use Rattle.icu_table_entries.specs.Entries.{kind_of}
use Rattle.icu_table_data.specs.Data.{Mapping, Context, Data, HomedEntry, homed, longest_mapping}
use Rattle.icu_table_data.specs.Final.{final_elements}
use Rattle.icu_element_matches.specs.MatchesAhead.{are_decided}
use Rattle.icu_element_matches.specs.inner.Mappings.{mapping_at}
use Rattle.icu_element_reading.specs.declared.reader.position.Position.{Position}
use Rattle.icu_element_reading.specs.declared.text_reading.TextReading.{TextReading}
use Rattle.icu_element_reading.specs.ReadAhead.{HasWholeStep}
use Rattle.icu_element_reading.specs.Reading.{reading_of}
use Rattle.icu_element_reading.specs.TextElements.{Reading, step, last_two, elements_after}
use Rattle.icu_element_reading.specs.inner.Iterating.{StillReads}
use Rattle.icu_element_reading.specs.inner.Positions.{consumed_last, unread_at, IsStep}
use Rattle.icu_element_reading.specs.inner.ReadsAhead.{ReadsTo, ReadsMore}

-- The first character of a text was taken off it, or, where that is empty, the next one of its source. None was taken
-- where nothing is left.
abbrev pub TakesChar : {I : Type 0} → (I → Option ℕ → I → Type 0) → Option ℕ → DecomposedSource I → List ℕ → DecomposedSource I → List ℕ → Type 0
TakesChar steps found old text new rest =
    (cs : List ℕ) → StillReads steps old cs → (left : List ℕ) × StillReads steps new left × (text ++ cs ≡ option_to_list found ++ (rest ++ left)) × (found ≡ None → rest ++ left ≡ [])

-- these elements come of a character that was taken off the text, of what is left of that, and of what its source has
pub record HasElementsAt {I : Type 0} (steps : I → Option ℕ → I → Type 0) (reading : TextReading) (from : DecomposedSource I) (p : Position) (c : ℕ) (all : List Element) : Type 0 where
  pub left : List ℕ
  pub source : StillReads steps from left
  pub elements : all ≡ elements_after (reading_of reading) (consumed_last p) (c ∷ (unread_at p ++ left))

-- Some more was read of a text, as much as a step at the character before it looks at, and the step was taken: its
-- elements came after those that there were.
pub record TakesStepAt {I : Type 0} (steps : I → Option ℕ → I → Type 0) (reading : Reading) (c : ℕ) (old : DecomposedSource I) (at : Position) (new : DecomposedSource I) (p : Position) (es fs : List Element) : Type 0 where
  pub text : List ℕ
  pub ahead : ReadsTo steps (HasWholeStep reading (consumed_last at) c) old (unread_at at) new text
  pub taken : IsStep (step reading (consumed_last at) c text) c (consumed_last at) es fs p

-- some more was read of a text, if any, and nothing was taken
pub record LooksAhead {I : Type 0} (steps : I → Option ℕ → I → Type 0) (old : DecomposedSource I) (at : Position) (new : DecomposedSource I) (p : Position) : Type 0 where
  pub ahead : ReadsMore steps old (unread_at at) new (unread_at p)
  pub before : consumed_last p ≡ consumed_last at

-- a step was taken that gives one element, or none was taken
abbrev pub StepsOrLooks : {I : Type 0} → (I → Option ℕ → I → Type 0) → Reading → ℕ → DecomposedSource I → Position → DecomposedSource I → Position → Option Element → Type 0
StepsOrLooks steps reading c old at new p (Some e) = TakesStepAt steps reading c old at new p [] (e ∷ [])
StepsOrLooks steps reading c old at new p None = LooksAhead steps old at new p

-- ---- entries that look at nothing

-- an entry of this kind looks at nothing but its character
abbrev pub LooksAtNothing : EntryKind → Type 0
LooksAtNothing Prefix = ⊥
LooksAtNothing Contraction = ⊥
LooksAtNothing Digit = ⊥
LooksAtNothing _ = ⊤

-- an entry that looks at nothing but its character, and gives this element with it
pub record IsSingle (h : HomedEntry) (c : ℕ) (e : Element) : Type 0 where
  pub kind : LooksAtNothing (kind_of h.entry)
  pub elements : final_elements h c ≡ e ∷ []

-- ---- mappings that follow directly

-- characters of which the first is another one
abbrev pub FirstDiffers : ℕ → List ℕ → Type 0
FirstDiffers d [] = ⊥
FirstDiffers d (y ∷ ys) = y ≢ d

-- characters of which the first is a later one
abbrev pub FirstIsLater : ℕ → List ℕ → Type 0
FirstIsLater d [] = ⊥
FirstIsLater d (y ∷ ys) = d < y

-- characters of which the first is an earlier one
abbrev pub FirstIsEarlier : ℕ → List ℕ → Type 0
FirstIsEarlier d [] = ⊥
FirstIsEarlier d (y ∷ ys) = y < d

-- no mapping begins with a character, and none is empty
abbrev pub NoneBeginsWith : List Mapping → ℕ → Type 0
NoneBeginsWith mappings d = AllByRecursion (λ (m : Mapping). FirstDiffers d m.chars) mappings

-- the mapping, or no characters with the entry for all texts but those of mappings
abbrev pub mapping_or : Context → Option Mapping → Mapping
mapping_or context (Some mapping) = mapping
mapping_or context None = record { chars = []; entry = context.default }

-- the mapping of a context at an index, or no characters with its default where there is no index
abbrev pub chosen_mapping : Context → Option ℕ → Mapping
chosen_mapping context at = mapping_or context (mapping_at context.mappings at)

-- the mapping at an index is the longest that begins a text, or none is, and what follows the text changes nothing of
-- that
pub record IsDecidedMapping (context : Context) (text : List ℕ) (at : Option ℕ) : Type 0 where
  pub longest : longest_mapping context.mappings text ≡ mapping_at context.mappings at
  pub decided : are_decided context.mappings text ≡ true

-- a text is empty, or begins with a starter
abbrev pub NoMarkFirst : List ℕ → Type 0
NoMarkFirst [] = ⊤
NoMarkFirst (c ∷ cs) = is_starter c ≡ true

-- a text begins with a starter
abbrev pub StarterFirst : List ℕ → Type 0
StarterFirst [] = ⊥
StarterFirst (c ∷ cs) = is_starter c ≡ true

-- the mapping is decided, and a starter stands behind it
pub record IsWholeMatch (context : Context) (mapping : Mapping) (text : List ℕ) : Type 0 where
  pub decided : are_decided context.mappings text ≡ true
  pub behind : list_any is_starter (drop (length mapping.chars) text) ≡ true

-- Some more was read of a text, so much that what follows changes nothing of the match of a context: that is the
-- mapping at this index, or none, since no mark follows that may join.
pub record IsDirectMatch {I : Type 0} (steps : I → Option ℕ → I → Type 0) (context : Context) (old : DecomposedSource I) (text : List ℕ) (new : DecomposedSource I) (longer : List ℕ) (at : Option ℕ) : Type 0 where
  pub ahead : ReadsTo steps (IsWholeMatch context (chosen_mapping context at)) old text new longer
  pub longest : longest_mapping context.mappings longer ≡ mapping_at context.mappings at
  pub unmarked : NoMarkFirst (drop (length (chosen_mapping context at).chars) longer)

-- So much was read, and what that match consumes was taken off the text, after a character; its entry gives this
-- element.
pub record IsDirectStep {I : Type 0} (steps : I → Option ℕ → I → Type 0) (context : Context) (c : ℕ) (old : DecomposedSource I) (text before : List ℕ) (new : DecomposedSource I) (rest after : List ℕ) (e : Element) : Type 0 where
  pub at : Option ℕ
  pub longer : List ℕ
  pub found : IsDirectMatch steps context old text new longer at
  pub single : (home : Data) → IsSingle (homed home (chosen_mapping context at).entry) c e
  pub rest_is : rest ≡ drop (length (chosen_mapping context at).chars) longer
  pub consumed : after ≡ last_two before (c ∷ (chosen_mapping context at).chars)
