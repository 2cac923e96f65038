-- Characters that give the elements of their entries wherever they stand.
use Rattle.std.proofs.Common.{◌≡◌, ℕ, ◌+◌, ◌*◌, ◌<◌, ◌≤◌, Bool, true, false, not, ◌&&◌, ◌==◌, [], ◌∷◌, is_some, refl, sym, subst, arith}
use Rattle.std.proofs.lemmas.Bool.{and_parts, and_from, and_right, or_right, not_from_false, ne_eqb}
use Rattle.ucd_normal.specs.declared.forms.Form.TheVariants.{Nfd}
use Rattle.unicode_normalization.specs.Decompose.{decompose}
use Rattle.icu_table_entries.specs.declared.entry.EntryKind.{EntryKind}
use Rattle.icu_table_entries.specs.declared.entry.EntryKind.TheVariants.{Prefix}
use Rattle.icu_table_entries.specs.Entries.{kind_of}
use Rattle.icu_table_provider.specs.Tables.{diacritic_of, entry_of}
use Rattle.icu_element_reading.specs.TextElements.{Reading, is_digit_kind, entry_alone}
use Rattle.icu_element_reading.specs.boundaries.Alone.{is_alone, is_dot, names_no_context}
use Rattle.icu_element_reading.proofs.boundaries.PlainCharLemmas.{own_alone}
use Rattle.icu_table_provider.specs.well_formed.MappingCharacters.{is_named, is_named_by_tailoring}
use Rattle.icu_element_reading.specs.boundaries.Cuts.{is_prefix_kind}
use Rattle.icu_element_reading.specs.boundaries.BoundaryTables.{HasBoundaryBefore}
use Rattle.icu_element_facts.specs.KeptFacts.{IsOwn}
use Rattle.icu_element_reading.specs.boundaries.Cuts.{IsUnnamedBlock, IsUnnamedStarter}
use Rattle.icu_element_facts.specs.inner.OwnBlocks.{HasLoneEntry, IsOwnBlock, IsPlain, IsPlainBlock}

pub alone_by_entry : (reading : Reading) (c : ℕ) → HasLoneEntry reading c → is_dot reading c ≡ false → is_alone reading c ≡ true
alone_by_entry reading c lone no_dot = and_from _ _ (or_right (is_some (diacritic_of reading.tables c)) _ lone) (not_from_false _ no_dot)

no_prefix_kind : (k : EntryKind) → names_no_context k ≡ true → is_prefix_kind k ≡ false
no_prefix_kind Prefix h = cc
no_prefix_kind _ h = refl

no_digit : (numeric plain digit : Bool) → not (numeric && digit) ≡ true → (numeric && (plain && digit)) ≡ false
no_digit false plain digit h = refl
no_digit true false digit h = refl
no_digit true true true h = cc
no_digit true true false h = refl

-- a starter that decomposes to itself and that no mapping names, by its entry alone
pub own_starter : (reading : Reading) (c : ℕ) → IsUnnamedStarter reading c → is_dot reading c ≡ false → HasLoneEntry reading c → decompose Nfd c ≡ c ∷ [] → IsOwn reading c
own_starter reading c unnamed no_dot lone itself =
    let kind = kind_of (entry_of reading.tables c).entry in
    let parts = and_parts (names_no_context kind) (not (is_some reading.numeric && is_digit_kind kind)) lone in
    record {
      itself = itself;
      alone = alone_by_entry reading c lone no_dot;
      boundary = record {
        starter = unnamed.starter;
        root = unnamed.root;
        tailoring = unnamed.tailoring;
        no_prefix = no_prefix_kind kind parts.0;
        no_number = no_digit (is_some reading.numeric) (not (is_some (diacritic_of reading.tables c))) (is_digit_kind (kind_of (entry_alone reading.tables c)))
            (subst (λ (e : ℕ). not (is_some reading.numeric && is_digit_kind (kind_of e)) ≡ true) (sym (own_alone reading.tables c parts.0)) parts.1);
      };
    }

-- a plain character that no mapping names, by its entry alone
pub own_by_entry : (reading : Reading) (c : ℕ) → IsPlain c → is_named c reading.tables.root ≡ false → is_named_by_tailoring c reading.tables.tailoring ≡ false → HasLoneEntry reading c → IsOwn reading c
own_by_entry reading c plain root tailoring lone =
    let other : (c == 0x307) ≡ false = ne_eqb c 0x307 (λ e. absurd (omega (arith, e, plain.late))) in
    own_starter reading c (record { starter = plain.starter; root = root; tailoring = tailoring }) (and_right reading.lithuanian (c == 0x307) other) lone plain.itself

-- texts may be cut before an own character
pub own_begins : (reading : Reading) (c : ℕ) → IsOwn reading c → HasBoundaryBefore reading c
own_begins reading c h = record { first = c; more = []; decomposes = h.itself; boundary = h.boundary }

-- all of a block of them, that no mapping names, are own
pub own_block : (reading : Reading) (index : ℕ) → IsPlainBlock index → ((k : ℕ) → k < 64 → 0x1200 ≤ 64 * index + k → HasLoneEntry reading (64 * index + k)) → IsUnnamedBlock reading index
    → IsOwnBlock reading index
own_block reading index plain lone unnamed = λ k small.
    let p = plain k small in
    let u = unnamed k small in
    own_by_entry reading (64 * index + k) p u.0 u.1 (lone k small p.late)
