-- Bytes tell the tables that they are of.
use Rattle.std.proofs.Common.{◌≡◌, ℕ, zero, suc, ◌+◌, ◌<◌, ◌≤◌, ◌^◌, List, [], ◌∷◌, ◌++◌, length, get_or, Option, Some, None, refl, sym, ap, ◌∙◌, arith}
use Rattle.std.specs.Prelude.{IfSome}
use Rattle.std.specs.Int.{w16, w32, w64}
use Rattle.std.specs.List.{flat_map}
use Rattle.icu_table_provider.specs.Reorderings.{Reordering}
use Rattle.icu_table_files.specs.fingerprint.FingerprintForms.{StoredData, StoredTables, context_words, mapping_words}
use Rattle.icu_table_files.specs.parts.SpeltParts.{AreBelow, bytes_of_numbers, bytes_of_parts}
use Rattle.icu_table_files.proofs.parts.SpeltCharLemmas.{chars_below}
use Rattle.icu_table_files.proofs.parts.SpeltNumberLemmas.{numbers_tell, wide16, wide32, wide64}
use Rattle.icu_table_files.proofs.parts.SpeltPartLemmas.{parts_tell, shorter}
use Rattle.icu_table_files.specs.FileContents.{StoredContents}
use Rattle.icu_table_files.specs.TableFiles.{HasReorderingWidths, HasWidths}
use Rattle.icu_table_files.specs.TableBytes.{content_bytes, content_parts, data_bytes, data_parts, optional_bytes, reordering_bytes, reordering_parts, special_bytes, table_parts}
use Rattle.icu_table_files.specs.inner.Vectors.{HaveTableWidths, HaveWidths}
use Rattle.icu_table_files.proofs.ContextNumberLemmas.{contexts_tell, mappings_tell}

-- a part is no longer than all parts
pub within : (parts : List (List ℕ)) (i : ℕ) → length (get_or parts i []) ≤ length (bytes_of_parts parts)
within [] i = omega arith
within (p ∷ parts) zero = omega (arith, shorter p (bytes_of_parts parts))
within (p ∷ parts) (suc i) = omega (arith, shorter p (bytes_of_parts parts), within parts i)

-- one number is a list of numbers below a limit
pub one_below : (n x : ℕ) → x < n → AreBelow n (x ∷ [])
one_below n x h zero = h
one_below n x h (suc i) = omega (arith, h)

tells32 : (xs ys : List ℕ) → AreBelow (2 ^ 32) xs → AreBelow (2 ^ 32) ys → bytes_of_numbers w32 xs ≡ bytes_of_numbers w32 ys → xs ≡ ys
tells32 = numbers_tell w32 (2 ^ 32) wide32

pub data_lists_tell : (a b : StoredData) → HasWidths a → HasWidths b → data_parts a ≡ data_parts b → a ≡ b
data_lists_tell a b f g e =
    let blocks = numbers_tell w16 (2 ^ 16) wide16 a.blocks b.blocks f.blocks g.blocks (cc) in
    let values = tells32 a.values b.values f.values g.values (cc) in
    let elements = numbers_tell w64 (2 ^ 64) wide64 a.elements b.elements f.elements g.elements (cc) in
    let entries = tells32 a.entries b.entries f.entries g.entries (cc) in
    let contexts = contexts_tell a.contexts b.contexts (tells32 (flat_map context_words a.contexts) (flat_map context_words b.contexts) f.contexts g.contexts (cc)) in
    let mappings = mappings_tell a.mappings b.mappings (tells32 (flat_map mapping_words a.mappings) (flat_map mapping_words b.mappings) f.mappings g.mappings (cc)) in
    let chars = tells32 a.chars b.chars (chars_below a.chars f.chars) (chars_below b.chars g.chars) (cc) in
    λ i. record { blocks = blocks i; values = values i; elements = elements i; entries = entries i; contexts = contexts i; mappings = mappings i; chars = chars i }

pub data_tells : (a b : StoredData) → HasWidths a → HasWidths b → length (data_bytes a) < 2 ^ 64 → data_bytes a ≡ data_bytes b → a ≡ b
data_tells a b f g small e = data_lists_tell a b f g (parts_tell (data_parts a) (data_parts b) small e)

tailoring_tells : (a b : Option StoredData) → IfSome a HasWidths → IfSome b HasWidths → length (optional_bytes data_bytes a) < 2 ^ 64
    → optional_bytes data_bytes a ≡ optional_bytes data_bytes b → a ≡ b
tailoring_tells None None f g small e = refl
tailoring_tells None (Some b) f g small e = absurd (omega (
  arith,
  ap length e,
  shorter (bytes_of_numbers w16 b.blocks) (bytes_of_parts (
      bytes_of_numbers w32 b.values ∷ bytes_of_numbers w64 b.elements ∷ bytes_of_numbers w32 b.entries
      ∷ bytes_of_numbers w32 (flat_map context_words b.contexts) ∷ bytes_of_numbers w32 (flat_map mapping_words b.mappings) ∷ bytes_of_numbers w32 b.chars ∷ [])),
))
tailoring_tells (Some a) None f g small e = absurd (omega (
  arith,
  ap length e,
  shorter (bytes_of_numbers w16 a.blocks) (bytes_of_parts (
      bytes_of_numbers w32 a.values ∷ bytes_of_numbers w64 a.elements ∷ bytes_of_numbers w32 a.entries
      ∷ bytes_of_numbers w32 (flat_map context_words a.contexts) ∷ bytes_of_numbers w32 (flat_map mapping_words a.mappings) ∷ bytes_of_numbers w32 a.chars ∷ [])),
))
tailoring_tells (Some a) (Some b) f g small e = ap (λ (x : StoredData). Some x) (data_tells a b f g small e)

present_tells : (a b : Reordering) → HasReorderingWidths a → HasReorderingWidths b → length (reordering_bytes a) < 2 ^ 64 → reordering_bytes a ≡ reordering_bytes b → a ≡ b
present_tells a b f g small e =
    let p = parts_tell (reordering_parts a) (reordering_parts b) small e in
    let one = tells32 (a.limit ∷ []) (b.limit ∷ []) (one_below (2 ^ 32) a.limit f.limit) (one_below (2 ^ 32) b.limit g.limit) (cc) in
    let limit : a.limit ≡ b.limit = cc in
    let leads : a.leads ≡ b.leads = cc in
    let ranges = tells32 a.ranges b.ranges f.ranges g.ranges (cc) in
    λ i. record { limit = limit i; leads = leads i; ranges = ranges i }

reordering_tells : (a b : Option Reordering) → IfSome a HasReorderingWidths → IfSome b HasReorderingWidths → length (optional_bytes reordering_bytes a) < 2 ^ 64
    → optional_bytes reordering_bytes a ≡ optional_bytes reordering_bytes b → a ≡ b
reordering_tells None None f g small e = refl
reordering_tells None (Some b) f g small e =
    absurd (omega (arith, ap length e, shorter (bytes_of_numbers w32 (b.limit ∷ [])) (bytes_of_parts (b.leads ∷ bytes_of_numbers w32 b.ranges ∷ []))))
reordering_tells (Some a) None f g small e =
    absurd (omega (arith, ap length e, shorter (bytes_of_numbers w32 (a.limit ∷ [])) (bytes_of_parts (a.leads ∷ bytes_of_numbers w32 a.ranges ∷ []))))
reordering_tells (Some a) (Some b) f g small e = ap (λ (x : Reordering). Some x) (present_tells a b f g small e)

-- bytes of a body tell what it says
pub contents_tell : (a b : StoredContents) → HaveWidths a → HaveWidths b → length (content_bytes a) < 2 ^ 64 → content_bytes a ≡ content_bytes b → a ≡ b
contents_tell a b f g small e =
    let p = parts_tell (content_parts a) (content_parts b) small e in
    let s = a.tables in
    let t = b.tables in
    let tag : a.tag ≡ b.tag = cc in
    let cldr : a.cldr ≡ b.cldr = cc in
    let unicode : a.unicode ≡ b.unicode = cc in
    let root = data_tells s.root t.root f.tables.root g.tables.root (omega (arith, small, within (content_parts a) 3)) (cc) in
    let tailoring = tailoring_tells s.tailoring t.tailoring f.tables.tailoring g.tables.tailoring (omega (arith, small, within (content_parts a) 4)) (cc) in
    let jamo = tells32 s.jamo t.jamo f.tables.jamo g.tables.jamo (cc) in
    let diacritics = numbers_tell w16 (2 ^ 16) wide16 s.diacritics t.diacritics f.tables.diacritics g.tables.diacritics (cc) in
    let last = numbers_tell w16 (2 ^ 16) wide16 s.last t.last f.tables.last g.tables.last (cc) in
    let numeric : s.numeric ≡ t.numeric = cc in
    let one = tells32 (s.bits ∷ []) (t.bits ∷ []) (one_below (2 ^ 32) s.bits f.tables.bits) (one_below (2 ^ 32) t.bits g.tables.bits) (cc) in
    let bits : s.bits ≡ t.bits = cc in
    let reordering = reordering_tells s.reordering t.reordering f.tables.reordering g.tables.reordering (omega (arith, small, within (content_parts a) 9)) (cc) in
    λ i. record {
      tag = tag i;
      cldr = cldr i;
      unicode = unicode i;
      tables = record { root = root i; tailoring = tailoring i; jamo = jamo i; diacritics = diacritics i; last = last i; numeric = numeric i; bits = bits i; reordering = reordering i };
    }
