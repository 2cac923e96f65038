-- Entries that give the same wherever their characters stand.
use Rattle.std.proofs.Common.{◌≡◌, ℕ, ◌+◌, ◌-◌, ◌*◌, ◌<◌, ◌≤◌, ◌==◌, nat_le, nat_lt, Bool, true, false, not, List, [], ◌∷◌, ◌++◌, length, length-append, length-take, length-drop, take, drop, get_or, slice_index, Option, Some, None, IfSome, is_some, if◌then◌else◌, sym, ap, ◌∙◌, inl, inr, arith}
use Rattle.std.specs.List.{list_all}
use Rattle.std.proofs.lemmas.Bool.{and_parts, and_from, and_right, cases_lt, not_from_false, not-true, true_from_ne_false, le-ltb}
use Rattle.std.proofs.lemmas.List.{get_or_append_left, get_or_push, get_or_past, get_or-take, get_or-drop}
use Rattle.std.proofs.lemmas.List.Folds.{list_all_at}
use Rattle.icu_table_entries.specs.declared.entry.EntryKind.{EntryKind}
use Rattle.icu_table_entries.specs.Entries.{kind_of, fallback_entry}
use Rattle.icu_table_data.specs.Data.{Data, HomedEntry, homed}
use Rattle.icu_table_provider.specs.Tables.{entry_of, is_jamo}
use Rattle.icu_element_reading.specs.TextElements.{Reading, is_digit_kind}
use Rattle.icu_element_reading.specs.boundaries.Alone.{names_no_context, looks_at_nothing}
use Rattle.icu_element_facts.specs.inner.OwnBlocks.{HasLoneEntry}
use Rattle.icu_element_facts.specs.inner.LoneEntries.{is_lone_kind, LoneStored}

-- ---- lists

pub all_at : {X : Type 0} (p : X → Bool) (xs : List X) (k : ℕ) (d : X) → list_all p xs ≡ true → k < length xs → p (get_or xs k d) ≡ true
all_at p xs k d all below = true_from_ne_false (p (get_or xs k d)) (λ fails. let clash = sym all ∙ list_all_at p xs k d below fails in cc)

part_at : (values : List ℕ) (block k : ℕ) → k < 64 → get_or (take 64 (drop (64 * block) values)) k 0 ≡ get_or values (64 * block + k) 0
part_at values block k small = get_or-take 64 (drop (64 * block) values) k 0 small ∙ get_or-drop (64 * block) values k 0

pub none_stored : (values : List ℕ) → LoneStored [] values
none_stored values = λ block k is small. cc

pub one_stored : (values : List ℕ) (stored : List Bool) (b : Bool) → LoneStored stored values → 64 * length stored + 64 ≤ length values
    → b ≡ list_all (λ e. is_lone_kind (kind_of e)) (take 64 (drop (64 * length stored) values)) → LoneStored (stored ++ b ∷ []) values
one_stored values stored b are fits is = λ block k set small.
    elim (cases_lt block (length stored)) [
      | inl before ↦ are block k (sym (get_or_append_left stored (b ∷ []) false block before) ∙ set) small
      | inr past ↦
          elim (cases_lt (length stored) block) [
            | inl beyond ↦
                let none : get_or (stored ++ b ∷ []) block false ≡ false = get_or_past (stored ++ b ∷ []) block false (omega (arith, beyond, length-append stored (b ∷ []))) in
                let clash = sym none ∙ set in cc
            | inr not_beyond ↦
                let last : length stored ≡ block = omega (arith, past, not_beyond) in
                let yes : b ≡ true = sym (get_or_push stored b false block last) ∙ set in
                let part = take 64 (drop (64 * length stored) values) in
                let count : 64 ≤ length part = omega (arith, length-take 64 (drop (64 * length stored) values), length-drop (64 * length stored) values, fits) in
                let one = all_at (λ e. is_lone_kind (kind_of e)) part k 0 (sym is ∙ yes) (omega (arith, count, small)) in
                ap (λ n. is_lone_kind (kind_of (get_or values (64 * n + k) 0))) (sym last)
                ∙ ap (λ e. is_lone_kind (kind_of e)) (sym (part_at values (length stored) k small)) ∙ one
          ]
    ]

-- ---- entries of characters

looks_nowhere : (numeric : Option ℕ) (k : EntryKind) → is_lone_kind k ≡ true → looks_at_nothing numeric k ≡ true
looks_nowhere numeric k h =
    let parts = and_parts (names_no_context k) (not (is_digit_kind k)) h in
    and_from _ _ parts.0 (not_from_false _ (and_right (is_some numeric) (is_digit_kind k) (not-true _ parts.1)))

either_entry : (b : Bool) (x y : HomedEntry) → is_lone_kind (kind_of x.entry) ≡ true → is_lone_kind (kind_of y.entry) ≡ true → is_lone_kind (kind_of (if b then x else y).entry) ≡ true
either_entry true x y h k = h
either_entry false x y h k = k

no_jamo : (c : ℕ) → 0x1200 ≤ c → is_jamo c ≡ false
no_jamo c late = and_right (nat_le 0x1100 c) (nat_lt c 0x1200) (le-ltb c 0x1200 late)

lone_kind : (root : Data) (tailoring : Option Data) (jamo diacritics : List ℕ) (c : ℕ) → 0x1200 ≤ c → is_lone_kind (kind_of (root.value c)) ≡ true
    → IfSome tailoring (λ d. is_lone_kind (kind_of (d.value c)) ≡ true)
    → is_lone_kind (kind_of (entry_of (record { root = root; tailoring = tailoring; jamo = jamo; diacritics = diacritics }) c).entry) ≡ true
unfolding entry_of
lone_kind root None jamo diacritics c late h k =
    ap (λ b. is_lone_kind (kind_of (if b then homed root (slice_index jamo (c - 0x1100)) else homed root (root.value c)).entry)) (no_jamo c late) ∙ h
lone_kind root (Some d) jamo diacritics c late h k =
    let other = if d.value c == fallback_entry then homed root (root.value c) else homed d (d.value c) in
    ap (λ b. is_lone_kind (kind_of (if b then homed root (slice_index jamo (c - 0x1100)) else other).entry)) (no_jamo c late)
    ∙ either_entry (d.value c == fallback_entry) (homed root (root.value c)) (homed d (d.value c)) h k

pub lone_entry : (reading : Reading) (c : ℕ) → 0x1200 ≤ c → is_lone_kind (kind_of (reading.tables.root.value c)) ≡ true
    → IfSome reading.tables.tailoring (λ d. is_lone_kind (kind_of (d.value c)) ≡ true) → HasLoneEntry reading c
lone_entry reading c late root tailoring =
    let t = reading.tables in
    looks_nowhere reading.numeric (kind_of (entry_of t c).entry) (lone_kind t.root t.tailoring t.jamo t.diacritics c late root tailoring)
