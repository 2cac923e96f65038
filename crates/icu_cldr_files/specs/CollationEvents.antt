-- What a file of collations says, as a function of the events of its document.
use Rattle.std.specs.Prelude.{ℕ, Bool, true, false, ◌||◌, List, [], ◌∷◌, ◌++◌, length, Option, Some, None, option_map, is_some, unwrap_or, bytes_eq, string_bytes, codes, if◌then◌else◌}
use Rattle.std.specs.List.{list_all}
use Rattle.icu_cldr_files.specs.declared.xml.event.Event.{Event}
use Rattle.icu_cldr_files.specs.declared.xml.event.Event.TheVariants.{Start, End, Text}
use Rattle.icu_cldr_files.specs.declared.xml.event.StartTag.{StartTag}
use Rattle.icu_cldr_files.specs.declared.xml.event.Attribute.{Attribute}
use Rattle.icu_cldr_files.specs.xml.XmlCharacters.{is_space}
use Rattle.icu_cldr_files.specs.declared.collation_places.CollationPlace.{CollationPlace}
use Rattle.icu_cldr_files.specs.declared.collation_places.CollationPlace.TheVariants as places
use Rattle.icu_cldr_files.specs.declared.ldml_error.LdmlReason.{LdmlReason}
use Rattle.icu_cldr_files.specs.declared.ldml_error.LdmlReason.TheVariants as reasons
use Rattle.icu_cldr_files.specs.declared.ldml_error.RefusedEvent.{RefusedEvent}
use Rattle.icu_cldr_files.specs.declared.collation.Collation.{Collation}
use Rattle.icu_cldr_files.specs.CollationPlaces.{place_inside, place_outside, holds_text}

-- the value of the attribute of this name
unfoldable pub attribute_of : List ℕ → List Attribute → Option (List ℕ)
attribute_of name [] = None
attribute_of name (a ∷ attributes) = if bytes_eq a.name.now name then Some (string_bytes a.value) else attribute_of name attributes

-- the place behind an event
abbrev pub place_after : CollationPlace → Event → CollationPlace
place_after place (Start tag) = unwrap_or (place_inside place tag.name.now) place
place_after place (End name) = place_outside place
place_after place (Text text) = place

-- why an element of this name may not start, which leads to this place: there is none, or it is a collation without a
-- type
abbrev pub reason_of_tag : Option CollationPlace → List ℕ → Option (List ℕ) → Option LdmlReason
reason_of_tag None name type_named = Some (if bytes_eq name (codes "alias") then reasons.Alias else reasons.Element)
reason_of_tag (Some places.Collation) name None = Some reasons.Untyped
reason_of_tag (Some place) name type_named = None

-- why an event may not stand at a place, if it may not
abbrev pub reason_at : CollationPlace → Event → Option LdmlReason
reason_at place (Start tag) =
    reason_of_tag (place_inside place tag.name.now) tag.name.now (attribute_of (codes "type") tag.attributes.items)
reason_at place (End name) = None
reason_at place (Text text) =
    if holds_text place || list_all is_space (string_bytes text) then None else Some reasons.Text

-- an event that is refused for a reason, if there is one, or else a later one
abbrev pub refused_or : ℕ → Option RefusedEvent → Option LdmlReason → Option RefusedEvent
refused_or left later None = later
refused_or left later (Some reason) = Some (record { left = left; reason = reason })

-- the first event that may not stand at its place, if there is one, by how many events there are from it on
unfoldable pub first_refused : CollationPlace → List Event → Option RefusedEvent
first_refused place [] = None
first_refused place (e ∷ events) =
    refused_or (length (e ∷ events)) (first_refused (place_after place e) events) (reason_at place e)

-- the text that events begin with, up to a tag
unfoldable pub text_ahead : List Event → List ℕ
text_ahead [] = []
text_ahead (Start tag ∷ events) = []
text_ahead (End name ∷ events) = []
text_ahead (Text text ∷ events) = string_bytes text ++ text_ahead events

-- whether an element of rules has the attribute `alt`: it is another form of the one beside it (UTS #35 part 1)
abbrev pub is_alternative : StartTag → Bool
is_alternative tag = is_some (attribute_of (codes "alt") tag.attributes.items)

-- behind the tag of a collation: the text of its first <cr> without `alt`, if it has one
unfoldable pub rules_ahead : List Event → List ℕ
rules_ahead [] = []
rules_ahead (Start tag ∷ events) =
    if bytes_eq tag.name.now (codes "cr") then (if is_alternative tag then rules_ahead events else text_ahead events)
    else []
rules_ahead (End name ∷ events) = if bytes_eq name.now (codes "cr") then rules_ahead events else []
rules_ahead (Text text ∷ events) = rules_ahead events

-- a collation, in bytes
pub record SaidCollation : Type 0 where
  pub collation_type : List ℕ
  pub alt : Option (List ℕ)
  pub draft : Option (List ℕ)
  pub visibility : Option (List ℕ)
  pub rules : List ℕ

-- the collation of a tag, behind which these events stand
abbrev pub collation_of_tag : StartTag → List Event → SaidCollation
collation_of_tag tag events = record {
  collation_type = unwrap_or (attribute_of (codes "type") tag.attributes.items) [];
  alt = attribute_of (codes "alt") tag.attributes.items;
  draft = attribute_of (codes "draft") tag.attributes.items;
  visibility = attribute_of (codes "visibility") tag.attributes.items;
  rules = rules_ahead events;
}

-- a tag, if it is that of a collation: if it leads to this place
abbrev pub tag_at : Option CollationPlace → StartTag → Option StartTag
tag_at (Some places.Collation) tag = Some tag
tag_at _ tag = None

-- the tag of the collation that starts with an event, if one does
abbrev pub collation_tag : CollationPlace → Event → Option StartTag
collation_tag place (Start tag) = tag_at (place_inside place tag.name.now) tag
collation_tag place (End name) = None
collation_tag place (Text text) = None

-- a collation before others, if there is a tag of one
abbrev pub collation_before : List SaidCollation → List Event → Option StartTag → List SaidCollation
collation_before others events None = others
collation_before others events (Some tag) = collation_of_tag tag events ∷ others

-- the collations of a file
unfoldable pub collations_from : CollationPlace → List Event → List SaidCollation
collations_from place [] = []
collations_from place (e ∷ events) =
    collation_before (collations_from (place_after place e) events) events (collation_tag place e)

-- whether a place is that in the default type's element
abbrev pub is_default : Option CollationPlace → Bool
is_default (Some places.DefaultType) = true
is_default _ = false

-- whether the default type's element starts with an event
abbrev pub starts_default : CollationPlace → Event → Bool
starts_default place (Start tag) = is_default (place_inside place tag.name.now)
starts_default place (End name) = false
starts_default place (Text text) = false

-- the default type of a file, if it names one
unfoldable pub default_from : CollationPlace → List Event → Option (List ℕ)
default_from place [] = None
default_from place (e ∷ events) =
    if starts_default place e then Some (text_ahead events) else default_from (place_after place e) events

-- the collation that is returned, in bytes
abbrev pub said_collation : Collation → SaidCollation
said_collation c = record {
  collation_type = string_bytes c.collation_type;
  alt = option_map string_bytes c.alt;
  draft = option_map string_bytes c.draft;
  visibility = option_map string_bytes c.visibility;
  rules = string_bytes c.rules;
}
