-- The elements of a file of collations, and which may stand in which, in turn (UTS #35 part 5, "Collation Tailorings",
-- and the document type of LDML, of which these files have a small part).
use Rattle.std.specs.Prelude.{ℕ, Bool, true, false, ◌+◌, ◌-◌, ◌==◌, ◌||◌, nat_lt, List, Option, Some, None, bytes_eq, codes, if◌then◌else◌}
use Rattle.icu_cldr_files.specs.declared.collation_places.SpecialPlace.{SpecialPlace}
use Rattle.icu_cldr_files.specs.declared.collation_places.SpecialPlace.TheVariants as specials
use Rattle.icu_cldr_files.specs.declared.collation_places.CollationPlace.{CollationPlace}
use Rattle.icu_cldr_files.specs.declared.collation_places.CollationPlace.TheVariants.{Outside, Ldml, Identity, IdentityPart, BehindIdentity, Collations, DefaultType, NextCollation, Collation, Rules, BehindSpecial, BehindCollations, Special}

-- the elements of <identity>
abbrev pub is_part_of_identity : List ℕ → Bool
is_part_of_identity name =
    bytes_eq name (codes "version") || (bytes_eq name (codes "generation") || (bytes_eq name (codes "language")
    || (bytes_eq name (codes "script") || (bytes_eq name (codes "territory") || bytes_eq name (codes "variant")))))

-- the place in a <special> of any content, if the name is that
abbrev pub special_at : List ℕ → SpecialPlace → Option CollationPlace
special_at name stands = if bytes_eq name (codes "special") then Some (Special stands 0) else None

-- the place in a <collation> or a <special> of <collations>, if the name is one of these
abbrev pub collation_or_special : List ℕ → Option CollationPlace
collation_or_special name = if bytes_eq name (codes "collation") then Some Collation else special_at name specials.Collations

-- the place behind a <special>: in <collation> none but another one may follow
abbrev pub place_behind : SpecialPlace → CollationPlace
place_behind specials.Identity = Identity
place_behind specials.Ldml = BehindCollations
place_behind specials.Collations = NextCollation
place_behind specials.Collation = BehindSpecial

-- the place in an element of this name that starts at a place; none where it may not start
unfoldable pub place_inside : CollationPlace → List ℕ → Option CollationPlace
place_inside Outside name = if bytes_eq name (codes "ldml") then Some Ldml else None
place_inside Ldml name = if bytes_eq name (codes "identity") then Some Identity else None
place_inside Identity name = if is_part_of_identity name then Some IdentityPart else special_at name specials.Identity
place_inside BehindIdentity name =
    if bytes_eq name (codes "collations") then Some Collations else special_at name specials.Ldml
place_inside Collations name =
    if bytes_eq name (codes "defaultCollation") then Some DefaultType
    else collation_or_special name
place_inside NextCollation name = collation_or_special name
place_inside Collation name = if bytes_eq name (codes "cr") then Some Rules else special_at name specials.Collation
place_inside BehindSpecial name = special_at name specials.Collation
place_inside BehindCollations name = special_at name specials.Ldml
place_inside (Special stands depth) name = if nat_lt depth 64 then Some (Special stands (depth + 1)) else None
place_inside _ name = None

-- the place behind the element that ends at a place
unfoldable pub place_outside : CollationPlace → CollationPlace
place_outside Identity = BehindIdentity
place_outside IdentityPart = Identity
place_outside Collations = BehindCollations
place_outside NextCollation = BehindCollations
place_outside DefaultType = NextCollation
place_outside Collation = NextCollation
place_outside BehindSpecial = NextCollation
place_outside Rules = Collation
place_outside (Special stands depth) = if depth == 0 then place_behind stands else Special stands (depth - 1)
place_outside _ = Outside

-- whether the text at a place says something
unfoldable pub holds_text : CollationPlace → Bool
holds_text DefaultType = true
holds_text Rules = true
holds_text (Special stands depth) = true
holds_text _ = false
