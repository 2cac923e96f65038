-- A file says one thing, and what it says can be borrowed.
use Rattle.std.proofs.Common.{◌≡◌, ℕ, ◌+◌, ◌<◌, ◌^◌, List, ◌++◌, length, Option, Some, None, refl, sym, ap, ◌∙◌, arith}
use Rattle.std.specs.Prelude.{IfSome}
use Rattle.std.specs.Int.{w64, to_be_bytes}
use Rattle.std.proofs.lemmas.List.{length-append}
use Rattle.icu_table_files.proofs.fingerprint.WordForms.{cut}
use Rattle.sha2.specs.Sha256.{sha256}
use Rattle.sha2.proofs.Facts256.{length-sha256}
use Rattle.icu_table_provider.specs.Reorderings.{Reordering}
use Rattle.icu_table_files.specs.fingerprint.FingerprintForms.{StoredData, StoredTables}
use Rattle.icu_table_files.specs.parts.Frames.{framed, magic_word}
use Rattle.icu_table_files.proofs.parts.SpeltNumberLemmas.{number_tells, wide64}
use Rattle.icu_table_files.specs.FileContents.{FileContents, StoredContents, contents_stored}
use Rattle.icu_table_files.specs.TableFiles.{AreStorable, HasReorderingWidths, HasWidths, IsFileOf, IsStorable, IsStorableData, IsStorableReordering}
use Rattle.icu_table_files.specs.TableBytes.{content_bytes}
use Rattle.icu_table_files.specs.inner.CheckedFiles.{CanBorrow, CanBorrowAll, CanBorrowReordering, CanBorrowTailoring}
use Rattle.icu_table_files.specs.inner.Vectors.{HaveTableWidths, HaveWidths, MayHaveReorderingWidths, MayHaveWidths}
use Rattle.icu_table_files.proofs.TellingLemmas.{contents_tell}

pub framed_length : (body : List ℕ) → length (framed body) ≡ 56 + length body
framed_length body = omega (arith, length-append (sha256 body) body, length-sha256 body)

-- frames tell their bodies
pub frames_tell : (a b : List ℕ) → length a < 2 ^ 64 → length b < 2 ^ 64 → framed a ≡ framed b → a ≡ b
frames_tell a b f g e =
    let one = cut (to_be_bytes w64 magic_word) (to_be_bytes w64 magic_word) _ _ refl e in
    let two = cut (to_be_bytes w64 1) (to_be_bytes w64 1) _ _ refl one.1 in
    let three = number_tells w64 (2 ^ 64) wide64 (length a) (length b) (sha256 a ++ a) (sha256 b ++ b) f g two.1 in
    (cut (sha256 a) (sha256 b) a b (length-sha256 a ∙ sym (length-sha256 b)) three.1).1

-- ---- widths and what can be borrowed

tailoring_widths : (o : Option StoredData) → IfSome o IsStorableData → MayHaveWidths o
tailoring_widths None h = tt
tailoring_widths (Some s) h = h.widths

reordering_widths : (o : Option Reordering) → IfSome o IsStorableReordering → MayHaveReorderingWidths o
reordering_widths None h = tt
reordering_widths (Some r) h = h.widths

tailoring_borrows : (o : Option StoredData) → IfSome o IsStorableData → CanBorrowTailoring o
tailoring_borrows None h = tt
tailoring_borrows (Some s) h = record { table = h.table; context_table = h.context_table }

reordering_borrows : (o : Option Reordering) → IfSome o IsStorableReordering → CanBorrowReordering o
reordering_borrows None h = tt
reordering_borrows (Some r) h = h.whole

tailoring_storable : (o : Option StoredData) → MayHaveWidths o → CanBorrowTailoring o → IfSome o IsStorableData
tailoring_storable None f g = tt
tailoring_storable (Some s) f g = record { widths = f; table = g.table; context_table = g.context_table }

reordering_storable : (o : Option Reordering) → MayHaveReorderingWidths o → CanBorrowReordering o → IfSome o IsStorableReordering
reordering_storable None f g = tt
reordering_storable (Some r) f g = record { widths = f; whole = g }

pub widths_of : (s : StoredContents) → AreStorable s → HaveWidths s
widths_of s h = record {
  tag = h.tag;
  cldr = h.cldr;
  unicode = h.unicode;
  tables = record {
    root = h.tables.root.widths;
    tailoring = tailoring_widths s.tables.tailoring h.tables.tailoring;
    jamo = h.tables.jamo;
    diacritics = h.tables.diacritics;
    last = h.tables.last;
    bits = h.tables.bits;
    reordering = reordering_widths s.tables.reordering h.tables.reordering;
  };
}

pub borrows_of : (s : StoredTables) → IsStorable s → CanBorrowAll s
borrows_of s h = record {
  root = record { table = h.root.table; context_table = h.root.context_table };
  tailoring = tailoring_borrows s.tailoring h.tailoring;
  jamo = h.is_jamo;
  diacritics = h.is_diacritics;
  special = h.is_special;
  reordering = reordering_borrows s.reordering h.reordering;
}

pub storable_of : (s : StoredContents) → HaveWidths s → CanBorrowAll s.tables → AreStorable s
storable_of s f g = record {
  tag = f.tag;
  cldr = f.cldr;
  unicode = f.unicode;
  tables = record {
    root = record { widths = f.tables.root; table = g.root.table; context_table = g.root.context_table };
    tailoring = tailoring_storable s.tables.tailoring f.tables.tailoring g.tailoring;
    jamo = f.tables.jamo;
    is_jamo = g.jamo;
    diacritics = f.tables.diacritics;
    is_diacritics = g.diacritics;
    last = f.tables.last;
    is_special = g.special;
    bits = f.tables.bits;
    reordering = reordering_storable s.tables.reordering f.tables.reordering g.reordering;
  };
}

-- what is stored is what a body of the same file says
pub stored_is : (c : FileContents) (bytes : List ℕ) (s : StoredContents) → HaveWidths s → length bytes < 2 ^ 64 → framed (content_bytes s) ≡ bytes → (file : IsFileOf c bytes) → file.stored ≡ s
stored_is c bytes s f small e file =
    let a : length (content_bytes file.stored) < 2 ^ 64 = omega (arith, framed_length (content_bytes file.stored), ap length file.spelt) in
    let b : length (content_bytes s) < 2 ^ 64 = omega (arith, framed_length (content_bytes s), ap length e) in
    contents_tell file.stored s (widths_of file.stored file.storable) f a (frames_tell (content_bytes file.stored) (content_bytes s) a b (file.spelt ∙ sym e))

-- a file says one thing
pub file_says : (c : FileContents) (bytes : List ℕ) (s : StoredContents) → HaveWidths s → length bytes < 2 ^ 64 → framed (content_bytes s) ≡ bytes → IsFileOf c bytes → contents_stored s ≡ c
file_says c bytes s f small e file = ap contents_stored (sym (stored_is c bytes s f small e file)) ∙ file.is
