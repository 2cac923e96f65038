-- The parts of a document, from what stands in them.
use Rattle.std.proofs.Common.{◌≡◌, ℕ, ◌+◌, ◌<◌, ◌≤◌, List, [], ◌∷◌, ◌++◌, length, refl, sym, ◌∙◌, ap, subst, inl, inr, append_assoc, arith, length-append}
use Rattle.std.specs.Prelude.{codes, string_bytes, IsTrue, ◌⊎◌}
use Rattle.icu_cldr_files.specs.declared.xml.event.Event.{Event}
use Rattle.icu_cldr_files.specs.declared.xml.event.StartTag.{StartTag}
use Rattle.icu_cldr_files.specs.declared.xml.event.Attribute.{Attribute}
use Rattle.icu_cldr_files.specs.declared.xml.content.ContentPiece.{ContentPiece}
use Rattle.icu_cldr_files.specs.xml.XmlEvents.{AreNewAfter, AreDistinct, IsAmong}
use Rattle.icu_cldr_files.specs.xml.XmlDocuments.{IsMiscellany, IsDeclaration, AreDeclared, IsDocumentType, IsProlog}
use Rattle.icu_cldr_files.proofs.xml.PartLemmas.{no_part, last_part}
use Rattle.icu_cldr_files.specs.xml.SpelledParts.{Begins, SpellsInParts, IsCutAround, IsCutBefore, LacksText}
use Rattle.icu_cldr_files.specs.xml.XmlCharacters.{IsSpacing, IsName, with_spaces}
use Rattle.icu_cldr_files.specs.xml.CharacterReferences.{WritesValue}
use Rattle.icu_cldr_files.specs.xml.XmlMarkup.{IsQuoted, IsComment, IsEnd, IsCharacterData, IsCdata, IsContentPiece, IsAttribute, IsTag, SpellsAttribute, SpellsContent, SpellsNothing, events_of}

-- a text between two marks
between : (mark end text before inside rest : List ℕ) → text ≡ mark ++ inside → inside ≡ before ++ (end ++ rest) → text ≡ (mark ++ (before ++ end)) ++ rest
between mark end text before inside rest whole cut =
    whole ∙ (ap (λ t. mark ++ t) cut ∙ (ap (λ t. mark ++ t) (sym (append_assoc before end rest)) ∙ sym (append_assoc mark (before ++ end) rest)))

-- a text in quotes
pub quoted_in : (mark text inside written rest : List ℕ) → text ≡ mark ++ inside → IsCutAround mark inside written rest
    → Begins (λ part. (part ≡ mark ++ (written ++ mark)) × LacksText mark written) text rest
quoted_in mark text inside written rest whole cut =
    (mark ++ (written ++ mark), between mark mark text written inside rest whole cut.whole, (refl, cut.first))

-- a comment
pub comment_in : (text body rest behind : List ℕ) → IsCutAround (codes "--") text body rest → rest ≡ codes ">" ++ behind
    → Begins IsComment (codes "<!--" ++ text) behind
comment_in text body rest behind cut end = (
  codes "<!--" ++ (body ++ codes "-->"),
  between (codes "<!--") (codes "-->") (codes "<!--" ++ text) body text behind refl (cut.whole ∙ ap (λ t. body ++ (codes "--" ++ t)) end),
  (body, refl, cut.first),
)

-- a section
pub section_in : (text value rest : List ℕ) → IsCutAround (codes "]]>") text value rest → Begins (λ part. IsCdata part value) (codes "<![CDATA[" ++ text) rest
section_in text value rest cut = (
  codes "<![CDATA[" ++ (value ++ codes "]]>"),
  between (codes "<![CDATA[") (codes "]]>") (codes "<![CDATA[" ++ text) value text rest refl cut.whole,
  (refl, cut.first),
)

-- what stands between two marks
pub wrapped : (P : List ℕ → Type 0) (mark end text rest behind : List ℕ) → Begins P text rest → rest ≡ end ++ behind
    → Begins (λ part. (inside : List ℕ) × (part ≡ mark ++ (inside ++ end)) × P inside) (mark ++ text) behind
wrapped P mark end text rest behind begins cut = (
  mark ++ (begins.0 ++ end),
  between mark end (mark ++ text) begins.0 text behind refl (begins.1 ∙ ap (λ t. begins.0 ++ t) cut),
  (begins.0, refl, begins.2),
)

-- the end of an element
pub end_in : (text name after space rest behind : List ℕ) → IsName name → text ≡ name ++ after → after ≡ space ++ rest → IsSpacing space → rest ≡ codes ">" ++ behind
    → Begins (λ part. IsEnd part name) (codes "</" ++ text) behind
end_in text name after space rest behind named first second spacing end =
    let inside : text ≡ (name ++ (space ++ codes ">")) ++ behind =
    first ∙ (ap (λ t. name ++ t) (second ∙ (ap (λ t. space ++ t) end ∙ sym (append_assoc space (codes ">") behind))) ∙ sym (append_assoc name (space ++ codes ">") behind)) in
    (codes "</" ++ (name ++ (space ++ codes ">")), ap (λ t. codes "</" ++ t) inside, (space, refl, spacing, named))

-- a text up to a tag
pub text_in : (text written rest value : List ℕ) → IsCutBefore (codes "<") text written rest → LacksText (codes "]]>") written → WritesValue written value
    → Begins (λ part. IsCharacterData part value) text rest
text_in text written rest value cut lacks stands = (written, cut.whole, (cut.first, lacks, stands))

-- a text that doesn't begin with a mark has characters before it
pub text_is_some : (mark text written rest : List ℕ) → IsCutBefore mark text written rest → ((after : List ℕ) → text ≡ mark ++ after → ⊥) → length rest < length text
text_is_some mark text [] rest cut begins = absurd (begins cut.at.0 (cut.whole ∙ cut.at.1))
text_is_some mark text (b ∷ written) rest cut begins =
    let whole : length text ≡ length (b ∷ written) + length rest = ap length cut.whole ∙ length-append (b ∷ written) rest in
    omega arith

-- two parts of a text
pub joined : (text front rest part behind : List ℕ) → text ≡ front ++ rest → rest ≡ part ++ behind → text ≡ (front ++ part) ++ behind
joined text front rest part behind first second =
    first ∙ (ap (λ t. front ++ t) second ∙ sym (append_assoc front part behind))

-- what stands behind a part is no longer than the text
pub begins_within : (P : List ℕ → Type 0) (text rest : List ℕ) → Begins P text rest → length rest ≤ length text
begins_within P text rest begins =
    let whole : length text ≡ length begins.0 + length rest = ap length begins.1 ∙ length-append begins.0 rest in
    omega arith

-- an attribute, by its parts
pub attribute_in : (attribute : Attribute) (text space named r1 before r2 r3 behind quotes written rest : List ℕ)
    → text ≡ space ++ named → 0 < length space → named ≡ attribute.name.now ++ r1 → IsName attribute.name.now → r1 ≡ before ++ r2
    → r2 ≡ codes "=" ++ r3 → r3 ≡ behind ++ quotes → Begins (λ part. IsQuoted part written) quotes rest
    → IsSpacing space → IsSpacing before → IsSpacing behind → LacksText (codes "<") written
    → WritesValue (with_spaces written) (string_bytes attribute.value) → Begins (λ part. IsAttribute part attribute) text rest
attribute_in attribute text space named r1 before r2 r3 behind quotes written rest e0 apart e1 name e2 e3 e4 quoted s0 s1 s2 lacks stands =
    let n = attribute.name.now in
    let q = quoted.0 in
    let e5 = joined r3 behind quotes q rest e4 quoted.1 in
    let e6 = joined r2 (codes "=") r3 (behind ++ q) rest e3 e5 in
    let e7 = joined r1 before r2 (codes "=" ++ (behind ++ q)) rest e2 e6 in
    let e8 = joined named n r1 (before ++ (codes "=" ++ (behind ++ q))) rest e1 e7 in
    let e9 = joined text space named (n ++ (before ++ (codes "=" ++ (behind ++ q)))) rest e0 e8 in (
      space ++ (n ++ (before ++ (codes "=" ++ (behind ++ q)))),
      e9,
      record {
        space = space;
        before = before;
        behind = behind;
        quoted = q;
        written = written;
        part_is = refl;
        apart = apart;
        spacing = (s0, s1, s2);
        name = name;
        quotes = quoted.2;
        markup = lacks;
        value = stands;
      },
    )

-- the name and the attributes of a tag, by its parts
pub tag_in : (tag : StartTag) (text r1 part space rest : List ℕ) → text ≡ tag.name.now ++ r1 → IsName tag.name.now
    → r1 ≡ part ++ (space ++ rest) → SpellsInParts SpellsAttribute part tag.attributes.items → IsSpacing space
    → AreDistinct tag.attributes.items → Begins (λ p. IsTag p tag) text rest
tag_in tag text r1 part space rest e0 name e1 spelled spacing distinct = (
  tag.name.now ++ (part ++ space),
  joined text tag.name.now r1 (part ++ space) rest e0 (e1 ∙ sym (append_assoc part space rest)),
  record { attributes = part; space = space; part_is = refl; name = name; spacing = spacing; spelled = spelled; distinct = distinct },
)

-- one attribute more
pub attribute_more : (attributes : List Attribute) (attribute : Attribute) (text rest next : List ℕ)
    → Begins (λ part. SpellsInParts SpellsAttribute part attributes) text rest → Begins (λ part. IsAttribute part attribute) rest next
    → Begins (λ part. SpellsInParts SpellsAttribute part (attributes ++ attribute ∷ [])) text next
attribute_more attributes attribute text rest next before one = (
  before.0 ++ one.0,
  joined text before.0 rest one.0 next before.1 one.1,
  last_part SpellsAttribute before.0 attributes one.0 (attribute ∷ []) before.2 (attribute, refl, one.2),
)

-- one name more
pub name_more : (attributes : List Attribute) (attribute : Attribute)
    → ((more : List Attribute) → AreNewAfter attributes more → AreDistinct (attributes ++ more)) → ¬ (IsAmong attribute.name.now attributes)
    → (more : List Attribute) → AreNewAfter (attributes ++ attribute ∷ []) more → AreDistinct ((attributes ++ attribute ∷ []) ++ more)
name_more attributes attribute before other more new =
    subst (λ found. AreDistinct found) (sym (append_assoc attributes (attribute ∷ []) more)) (before (attribute ∷ more) (other, new))

-- white space before other white space and comments
pub space_first : (space : List ℕ) → IsSpacing space → IsMiscellany space
space_first space spacing = last_part SpellsNothing [] [] space [] (no_part SpellsNothing) (inl spacing, refl)

-- a comment more, with white space behind it
pub comment_more : (text rest body next space behind : List ℕ) → Begins IsMiscellany text rest → rest ≡ codes "<!--" ++ body
    → Begins IsComment (codes "<!--" ++ body) next → next ≡ space ++ behind → IsSpacing space → Begins IsMiscellany text behind
comment_more text rest body next space behind before whole comment end spacing =
    let at : rest ≡ comment.0 ++ next = whole ∙ comment.1 in
    let e0 = joined text before.0 rest comment.0 next before.1 at in (
      (before.0 ++ comment.0) ++ space,
      joined text (before.0 ++ comment.0) next space behind e0 end,
      last_part SpellsNothing (before.0 ++ comment.0) [] space []
          (last_part SpellsNothing before.0 [] comment.0 [] before.2 (inr comment.2, refl)) (inl spacing, refl),
    )

-- the first piece of an element
pub content_first : (piece : ContentPiece) (text rest : List ℕ) → Begins (λ part. IsContentPiece part piece) text rest
    → Begins (λ part. SpellsInParts SpellsContent part (events_of piece)) text rest
content_first piece text rest one =
    (one.0, one.1, last_part SpellsContent [] [] one.0 (events_of piece) (no_part SpellsContent) (piece, one.2, refl))

-- one piece more
pub content_more : (events : List Event) (piece : ContentPiece) (text rest next : List ℕ)
    → Begins (λ part. SpellsInParts SpellsContent part events) text rest → Begins (λ part. IsContentPiece part piece) rest next
    → Begins (λ part. SpellsInParts SpellsContent part (events ++ events_of piece)) text next
content_more events piece text rest next before one = (
  before.0 ++ one.0,
  joined text before.0 rest one.0 next before.1 one.1,
  last_part SpellsContent before.0 events one.0 (events_of piece) before.2 (piece, one.2, refl),
)

-- a document type, by its parts
pub document_type_in : (text r0 named r1 after r2 literal r3 rest : List ℕ) (name system : List ℕ)
    → text ≡ codes "<!DOCTYPE" ++ r0
    → (space : List ℕ) × (r0 ≡ space ++ named) × (0 < length space) × IsSpacing space
    → named ≡ name ++ r1 → IsName name
    → (before : List ℕ) × (r1 ≡ before ++ after) × (0 < length before) × IsSpacing before
    → after ≡ codes "SYSTEM" ++ r2
    → (mid : List ℕ) × (r2 ≡ mid ++ literal) × (0 < length mid) × IsSpacing mid
    → Begins (λ part. IsQuoted part system) literal r3
    → (end : List ℕ) × (r3 ≡ end ++ (codes ">" ++ rest)) × IsSpacing end
    → Begins IsDocumentType text rest
document_type_in text r0 named r1 after r2 literal r3 rest name system e0 s0 e1 n s1 e2 s2 q s3 =
    let p8 : List ℕ = s3.0 ++ codes ">" in
    let f8 : r3 ≡ p8 ++ rest = s3.1 ∙ sym (append_assoc s3.0 (codes ">") rest) in
    let f7 = joined literal q.0 r3 p8 rest q.1 f8 in
    let f6 = joined r2 s2.0 literal (q.0 ++ p8) rest s2.1 f7 in
    let f5 = joined after (codes "SYSTEM") r2 (s2.0 ++ (q.0 ++ p8)) rest e2 f6 in
    let f4 = joined r1 s1.0 after (codes "SYSTEM" ++ (s2.0 ++ (q.0 ++ p8))) rest s1.1 f5 in
    let f3 = joined named name r1 (s1.0 ++ (codes "SYSTEM" ++ (s2.0 ++ (q.0 ++ p8)))) rest e1 f4 in
    let f2 = joined r0 s0.0 named (name ++ (s1.0 ++ (codes "SYSTEM" ++ (s2.0 ++ (q.0 ++ p8))))) rest s0.1 f3 in
    let f1 = joined text (codes "<!DOCTYPE") r0 (s0.0 ++ (name ++ (s1.0 ++ (codes "SYSTEM" ++ (s2.0 ++ (q.0 ++ p8)))))) rest e0 f2 in (
      codes "<!DOCTYPE" ++ (s0.0 ++ (name ++ (s1.0 ++ (codes "SYSTEM" ++ (s2.0 ++ (q.0 ++ p8)))))),
      f1,
      record {
        space = s0.0;
        name = name;
        before = s1.0;
        between = s2.0;
        quoted = q.0;
        system = system;
        end = s3.0;
        part_is = refl;
        named = n;
        apart = (s0.2, s1.2, s2.2);
        spacing = (s0.3, s1.3, s2.3, s3.2);
        quotes = q.2;
      },
    )

-- a declaration, by its parts
pub declaration_in : (attributes : List Attribute) (text r0 r1 rest : List ℕ) → text ≡ codes "<?xml" ++ r0
    → (part : List ℕ) × (space : List ℕ) × (r0 ≡ part ++ (space ++ r1)) × SpellsInParts SpellsAttribute part attributes × IsSpacing space
    → AreDistinct attributes → AreDeclared attributes → r1 ≡ codes "?>" ++ rest → Begins IsDeclaration text rest
declaration_in attributes text r0 r1 rest e0 spelled distinct declared e1 =
    let part = spelled.0 in
    let space = spelled.1 in
    let f1 = joined (space ++ r1) space r1 (codes "?>") rest refl e1 in
    let f2 = joined r0 part (space ++ r1) (space ++ codes "?>") rest spelled.2 f1 in
    let f3 = joined text (codes "<?xml") r0 (part ++ (space ++ codes "?>")) rest e0 f2 in (
      codes "<?xml" ++ (part ++ (space ++ codes "?>")),
      f3,
      record {
        attributes = attributes;
        written = part;
        space = space;
        part_is = refl;
        spacing = spelled.4;
        spelled = spelled.3;
        distinct = distinct;
        declared = declared;
      },
    )

-- a prolog, by its parts
pub prolog_in : (text r0 r1 r2 r3 rest : List ℕ)
    → (mark : List ℕ) × (text ≡ mark ++ r0) × ((mark ≡ []) ⊎ (mark ≡ 0xEF ∷ 0xBB ∷ 0xBF ∷ []))
    → (part : List ℕ) × (r0 ≡ part ++ r1) × ((part ≡ []) ⊎ IsDeclaration part)
    → Begins IsMiscellany r1 r2
    → (part : List ℕ) × (r2 ≡ part ++ r3) × ((part ≡ []) ⊎ IsDocumentType part)
    → Begins IsMiscellany r3 rest → Begins IsProlog text rest
prolog_in text r0 r1 r2 r3 rest m d b t a =
    let f3 = joined r2 t.0 r3 a.0 rest t.1 a.1 in
    let f2 = joined r1 b.0 r2 (t.0 ++ a.0) rest b.1 f3 in
    let f1 = joined r0 d.0 r1 (b.0 ++ (t.0 ++ a.0)) rest d.1 f2 in
    let f0 = joined text m.0 r0 (d.0 ++ (b.0 ++ (t.0 ++ a.0))) rest m.1 f1 in (
      m.0 ++ (d.0 ++ (b.0 ++ (t.0 ++ a.0))),
      f0,
      record {
        mark = m.0;
        declaration = d.0;
        before = b.0;
        document_type = t.0;
        behind = a.0;
        part_is = refl;
        mark_is = m.2;
        declaration_is = d.2;
        before_is = b.2;
        document_type_is = t.2;
        behind_is = a.2;
      },
    )
