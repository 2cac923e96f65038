-- What a document says, as a list of events: the starts and ends of its elements and the texts between.
use Rattle.std.specs.Prelude.{◌≡◌, ◌≢◌, ℕ, ◌<◌, ◌⊎◌, List, [], ◌∷◌, ◌++◌, map, length, Any}
use denote.Ref.{Bor}
use Rattle.icu_cldr_files.specs.declared.xml.event.Event.{Event}
use Rattle.icu_cldr_files.specs.declared.xml.event.Event.TheVariants.{Start, End, Text}
use Rattle.icu_cldr_files.specs.declared.xml.event.StartTag.{StartTag}
use Rattle.icu_cldr_files.specs.declared.xml.event.Attribute.{Attribute}

-- an attribute of this name is among some
abbrev pub IsAmong : List ℕ → List Attribute → Type 0
IsAmong name attributes = Any (λ other. other.name.now ≡ name) attributes

-- each attribute has another name than those before it, which begin with `seen`
abbrev pub AreNewAfter : List Attribute → List Attribute → Type 0
AreNewAfter seen [] = Unit {0}
AreNewAfter seen (a ∷ attributes) = ¬ (IsAmong a.name.now seen) × AreNewAfter (seen ++ a ∷ []) attributes

-- the attributes of a tag have different names (section 3.1, "Unique Att Spec")
abbrev pub AreDistinct : List Attribute → Type 0
AreDistinct attributes = AreNewAfter [] attributes

-- events within elements that are open, the innermost last: they close each of them, and what they open themselves, in
-- turn, and nothing follows (section 3, "Element Type Match")
abbrev pub Close : List (List ℕ) → List Event → Type 0
Close started [] = started ≡ []
Close started (Start tag ∷ events) = (0 < length started) × Close (started ++ tag.name.now ∷ []) events
Close started (End name ∷ events) = (outer : List (List ℕ)) × (started ≡ outer ++ name.now ∷ []) × Close outer events
Close started (Text text ∷ events) = (0 < length started) × Close started events

-- one element, with all that is in it
abbrev pub AreElement : List Event → Type 0
AreElement [] = ⊥
AreElement (Start tag ∷ events) = Close (tag.name.now ∷ []) events
AreElement (End name ∷ events) = ⊥
AreElement (Text text ∷ events) = ⊥

-- the first event is the start of an element
abbrev pub BeginWithStart : List Event → Type 0
BeginWithStart [] = ⊥
BeginWithStart (Start tag ∷ events) = Unit {0}
BeginWithStart (End name ∷ events) = ⊥
BeginWithStart (Text text ∷ events) = ⊥

-- the bytes of names
abbrev pub started_names : List (Bor (List ℕ)) → List (List ℕ)
started_names names = map (λ name. name.now) names
