-- How the parts of a document are written: tags, attributes, texts, comments (Extensible Markup Language 1.0, sections
-- 2.4 to 3.1).
use Rattle.std.specs.Prelude.{◌≡◌, ℕ, ◌<◌, ◌⊎◌, List, [], ◌∷◌, ◌++◌, length, string_bytes, codes}
use Rattle.icu_cldr_files.specs.declared.xml.event.Event.{Event}
use Rattle.icu_cldr_files.specs.declared.xml.event.Event.TheVariants.{Start, End, Text}
use Rattle.icu_cldr_files.specs.declared.xml.event.StartTag.{StartTag}
use Rattle.icu_cldr_files.specs.declared.xml.content.ContentPiece.{ContentPiece}
use Rattle.icu_cldr_files.specs.declared.xml.content.ContentPiece.TheVariants.{Opening, Empty, Closing, Characters, Comment}
use Rattle.icu_cldr_files.specs.declared.xml.event.Attribute.{Attribute}
use Rattle.icu_cldr_files.specs.xml.SpelledParts.{Begins, SpellsInParts, LacksText}
use Rattle.icu_cldr_files.specs.xml.XmlCharacters.{IsSpacing, IsName, with_spaces}
use Rattle.icu_cldr_files.specs.xml.CharacterReferences.{WritesValue}
use Rattle.icu_cldr_files.specs.xml.XmlEvents.{AreDistinct}

-- a text in quotes, double or single ones, which aren't in it
abbrev pub IsQuoted : List ℕ → List ℕ → Type 0
IsQuoted part text =
    ((part ≡ codes "\"" ++ (text ++ codes "\"")) × LacksText (codes "\"") text)
    ⊎ ((part ≡ codes "'" ++ (text ++ codes "'")) × LacksText (codes "'") text)

-- an attribute with white space before it, which has at least one character (section 3.1, Attribute)
pub record IsAttribute (part : List ℕ) (attribute : Attribute) : Type 0 where
  pub space : List ℕ
  pub before : List ℕ
  pub behind : List ℕ
  pub quoted : List ℕ
  pub written : List ℕ
  pub part_is : part ≡ space ++ (attribute.name.now ++ (before ++ (codes "=" ++ (behind ++ quoted))))
  pub apart : 0 < length space
  pub spacing : IsSpacing space × IsSpacing before × IsSpacing behind
  pub name : IsName attribute.name.now
  pub quotes : IsQuoted quoted written
  pub markup : LacksText (codes "<") written
  pub value : WritesValue (with_spaces written) (string_bytes attribute.value)

-- a part spells one attribute
abbrev pub SpellsAttribute : List ℕ → List Attribute → Type 0
SpellsAttribute part attributes = (attribute : Attribute) × (attributes ≡ attribute ∷ []) × IsAttribute part attribute

-- the name and the attributes of a tag, and white space behind them (section 3.1, STag)
pub record IsTag (part : List ℕ) (tag : StartTag) : Type 0 where
  pub attributes : List ℕ
  pub space : List ℕ
  pub part_is : part ≡ tag.name.now ++ (attributes ++ space)
  pub name : IsName tag.name.now
  pub spacing : IsSpacing space
  pub spelled : SpellsInParts SpellsAttribute attributes tag.attributes.items
  pub distinct : AreDistinct tag.attributes.items

-- the end of an element (section 3.1, ETag)
abbrev pub IsEnd : List ℕ → List ℕ → Type 0
IsEnd part name = (space : List ℕ) × (part ≡ codes "</" ++ (name ++ (space ++ codes ">"))) × IsSpacing space × IsName name

-- characters and references, without the mark that ends a CDATA section (section 2.4, CharData)
abbrev pub IsCharacterData : List ℕ → List ℕ → Type 0
IsCharacterData part value = LacksText (codes "<") part × LacksText (codes "]]>") part × WritesValue part value

-- a section whose characters stand for themselves (section 2.7)
abbrev pub IsCdata : List ℕ → List ℕ → Type 0
IsCdata part value = (part ≡ codes "<![CDATA[" ++ (value ++ codes "]]>")) × LacksText (codes "]]>") value

-- a comment (section 2.5)
abbrev pub IsComment : List ℕ → Type 0
IsComment part = (body : List ℕ) × (part ≡ codes "<!--" ++ (body ++ codes "-->")) × LacksText (codes "--") body

-- how each piece of an element's content is written (section 3.1, content): the start of an element, an element with
-- nothing in it, the end of an element, a text, a comment
abbrev pub IsContentPiece : List ℕ → ContentPiece → Type 0
IsContentPiece part (Opening tag) = (inside : List ℕ) × (part ≡ codes "<" ++ (inside ++ codes ">")) × IsTag inside tag
IsContentPiece part (Empty tag) = (inside : List ℕ) × (part ≡ codes "<" ++ (inside ++ codes "/>")) × IsTag inside tag
IsContentPiece part (Closing name) = IsEnd part name.now
IsContentPiece part (Characters text) = IsCharacterData part (string_bytes text) ⊎ IsCdata part (string_bytes text)
IsContentPiece part Comment = IsComment part

-- the events that a piece says
abbrev pub events_of : ContentPiece → List Event
events_of (Opening tag) = Start tag ∷ []
events_of (Empty tag) = Start tag ∷ End tag.name ∷ []
events_of (Closing name) = End name ∷ []
events_of (Characters text) = Text text ∷ []
events_of Comment = []

-- a part of an element's content, and the events that it says
abbrev pub SpellsContent : List ℕ → List Event → Type 0
SpellsContent part events = (piece : ContentPiece) × IsContentPiece part piece × (events ≡ events_of piece)

-- white space and comments, which say nothing (section 2.8, Misc, without processing instructions)
abbrev pub SpellsNothing : List ℕ → List Event → Type 0
SpellsNothing part events = (IsSpacing part ⊎ IsComment part) × (events ≡ [])

-- the names of the elements that are open before a piece, and behind it
abbrev pub Nests : List (List ℕ) → ContentPiece → List (List ℕ) → Type 0
Nests before (Opening tag) behind = behind ≡ before ++ tag.name.now ∷ []
Nests before (Empty tag) behind = behind ≡ before
Nests before (Closing name) behind = before ≡ behind ++ name.now ∷ []
Nests before (Characters text) behind = behind ≡ before
Nests before Comment behind = behind ≡ before

-- the piece that a text begins with is taken in: its events are added, and the open elements are those behind it
pub record TakesIn (text rest : List ℕ) (before behind : List Event) (open_before open_behind : List (List ℕ)) : Type 0 where
  pub piece : ContentPiece
  pub begins : Begins (λ part. IsContentPiece part piece) text rest
  pub said : behind ≡ before ++ events_of piece
  pub nests : Nests open_before piece open_behind
