-- Documents (Extensible Markup Language 1.0, sections 2.1 and 2.8), as far as the files of CLDR need them: a
-- declaration, a document type without a subset of its own, and one element.
use Rattle.std.specs.Prelude.{◌≡◌, ℕ, ◌<◌, ◌⊎◌, List, [], ◌∷◌, ◌++◌, length, string_bytes, codes, IsTrue}
use Rattle.std.specs.List.{AllByRecursion, list_all}
use Rattle.std.specs.Str.{chars, str_to_ascii_lowercase}
use Rattle.icu_cldr_files.specs.declared.xml.event.Event.{Event}
use Rattle.icu_cldr_files.specs.declared.xml.event.Attribute.{Attribute}
use Rattle.icu_cldr_files.specs.xml.SpelledParts.{SpellsInParts}
use Rattle.icu_cldr_files.specs.xml.XmlCharacters.{IsSpacing, IsName, is_plain_character}
use Rattle.icu_cldr_files.specs.xml.XmlEvents.{AreElement, AreDistinct}
use Rattle.icu_cldr_files.specs.xml.XmlMarkup.{IsQuoted, SpellsAttribute, SpellsContent, SpellsNothing}

-- what stands behind the version in a declaration: the encoding, which is UTF-8, or `standalone`
abbrev pub IsFurther : Attribute → Type 0
IsFurther attribute =
    ((attribute.name.now ≡ codes "encoding") × (str_to_ascii_lowercase (string_bytes attribute.value) ≡ codes "utf-8"))
    ⊎ ((attribute.name.now ≡ codes "standalone")
    × ((string_bytes attribute.value ≡ codes "yes") ⊎ (string_bytes attribute.value ≡ codes "no")))

-- the version of a declaration
abbrev pub IsVersion : Attribute → Type 0
IsVersion attribute = (attribute.name.now ≡ codes "version") × (string_bytes attribute.value ≡ codes "1.0")

-- what a declaration says: version 1.0, and what may stand behind it
abbrev pub AreDeclared : List Attribute → Type 0
AreDeclared [] = ⊥
AreDeclared (version ∷ others) = IsVersion version × AllByRecursion IsFurther others

-- a declaration (section 2.8, XMLDecl)
pub record IsDeclaration (part : List ℕ) : Type 0 where
  pub attributes : List Attribute
  pub written : List ℕ
  pub space : List ℕ
  pub part_is : part ≡ codes "<?xml" ++ (written ++ (space ++ codes "?>"))
  pub spacing : IsSpacing space
  pub spelled : SpellsInParts SpellsAttribute written attributes
  pub distinct : AreDistinct attributes
  pub declared : AreDeclared attributes

-- a document type that names an external subset alone (section 2.8, doctypedecl)
pub record IsDocumentType (part : List ℕ) : Type 0 where
  pub space : List ℕ
  pub name : List ℕ
  pub before : List ℕ
  pub between : List ℕ
  pub quoted : List ℕ
  pub system : List ℕ
  pub end : List ℕ
  pub part_is : part ≡ codes "<!DOCTYPE" ++ (space ++ (name ++ (before ++ (codes "SYSTEM" ++ (between ++ (quoted ++ (end ++ codes ">")))))))
  pub named : IsName name
  pub apart : (0 < length space) × (0 < length before) × (0 < length between)
  pub spacing : IsSpacing space × IsSpacing before × IsSpacing between × IsSpacing end
  pub quotes : IsQuoted quoted system

-- white space and comments (section 2.8, Misc, without processing instructions)
abbrev pub IsMiscellany : List ℕ → Type 0
IsMiscellany part = SpellsInParts SpellsNothing part []

-- what stands before the element: a byte order mark, a declaration and a document type, where they are there (section
-- 2.8, prolog)
pub record IsProlog (part : List ℕ) : Type 0 where
  pub mark : List ℕ
  pub declaration : List ℕ
  pub before : List ℕ
  pub document_type : List ℕ
  pub behind : List ℕ
  pub part_is : part ≡ mark ++ (declaration ++ (before ++ (document_type ++ behind)))
  pub mark_is : (mark ≡ []) ⊎ (mark ≡ 0xEF ∷ 0xBB ∷ 0xBF ∷ [])
  pub declaration_is : (declaration ≡ []) ⊎ IsDeclaration declaration
  pub before_is : IsMiscellany before
  pub document_type_is : (document_type ≡ []) ⊎ IsDocumentType document_type
  pub behind_is : IsMiscellany behind

-- a text is a document that says these events
pub record IsDocument (text : List ℕ) (events : List Event) : Type 0 where
  pub prolog : List ℕ
  pub content : List ℕ
  pub behind : List ℕ
  pub text_is : text ≡ prolog ++ (content ++ behind)
  pub characters : IsTrue (list_all is_plain_character (chars text))
  pub prolog_is : IsProlog prolog
  pub content_is : SpellsInParts SpellsContent content events
  pub element : AreElement events
  pub behind_is : IsMiscellany behind
