-- Where a document says the characters for an index (UTS #35 part 2, "Exemplars").
use Rattle.std.specs.Prelude.{ℕ, Bool, false, true, ◌&&◌, List, [], ◌∷◌, ◌++◌, Option, Some, None, bytes_eq, string_bytes, codes, if◌then◌else◌}
use Rattle.icu_cldr_files.specs.declared.xml.event.Event.{Event}
use Rattle.icu_cldr_files.specs.declared.xml.event.Event.TheVariants.{Start, End, Text}
use Rattle.icu_cldr_files.specs.declared.xml.event.Attribute.{Attribute}

-- whether one of the attributes is the type of characters for an index
unfoldable pub has_index_type : List Attribute → Bool
has_index_type [] = false
has_index_type (a ∷ attributes) =
    if bytes_eq a.name.now (codes "type") && bytes_eq (string_bytes a.value) (codes "index") then true
    else has_index_type attributes

-- whether the characters for an index start with an event
abbrev pub starts_index_set : Event → Bool
starts_index_set (Start tag) = bytes_eq tag.name.now (codes "exemplarCharacters") && has_index_type tag.attributes.items
starts_index_set (End name) = false
starts_index_set (Text text) = false

-- the text that events begin with, up to a tag
unfoldable pub text_before_tag : List Event → List ℕ
text_before_tag [] = []
text_before_tag (Start tag ∷ events) = []
text_before_tag (End name ∷ events) = []
text_before_tag (Text text ∷ events) = string_bytes text ++ text_before_tag events

-- the characters for an index, as they are written: the text of the first element that says some
unfoldable pub index_set_from : List Event → Option (List ℕ)
index_set_from [] = None
index_set_from (e ∷ events) = if starts_index_set e then Some (text_before_tag events) else index_set_from events
