-- At first a walk remembers no entry, and after one more it remembers no other that leads elsewhere.
use Rattle.std.proofs.Common.{◌≡◌, ℕ, ◌*◌, ◌/◌, ◌%◌, ◌<◌, ◌≤◌, ◌^◌, ◌⊎◌, inl, inr, Option, Some, None, List, length, get_or, refl, sym, ap, ◌∙◌, replicate, arith, w64}
use Rattle.std.specs.Prelude.{set}
use Rattle.std.specs.Int.{bit_at}
use Rattle.std.specs.Int.Bits.{bit_or}
use Rattle.std.specs.List.{Contains}
use Rattle.std.proofs.lemmas.Bool.{cases_eq}
use Rattle.std.proofs.lemmas.Grind.{common_steps}
use Rattle.std.proofs.lemmas.Nat.Bits.{bit_at-zero, bit_at_set_other}
use Rattle.std.proofs.lemmas.List.{get_or-replicate, get_or-set_same, get_or-set_other}
use Rattle.std.proofs.lemmas.List.Elements.{All-replicate, All-contains}
use Rattle.icu_table_entries.specs.declared.entry.EntryKind.TheVariants.{Prefix, Contraction}
use Rattle.icu_table_entries.specs.Entries.{kind_of, entry_index}
use Rattle.icu_table_data.specs.Reachable.{names_context, ReferAlike}
use Rattle.icu_table_data.specs.inner.VisitedEntries.{IsMarked, IsRememberedBy}

differ : (e : ℕ) → Some e ≡ None → ⊥
differ e h = cc

-- no entry stands among none
pub none_remembered : (n e : ℕ) → Contains (replicate n None) (Some e) → ⊥
none_remembered n e has =
    differ e (All-contains (λ (o : Option ℕ). o ≡ None) (replicate n None) (Some e) (All-replicate (λ (o : Option ℕ). o ≡ None) n None refl) has)

-- none is remembered where none stands among those that are, and no context is marked
pub none_by : (entries : List (Option ℕ)) (prefixes contractions : List ℕ) → ((e : ℕ) → Contains entries (Some e) → ⊥)
    → ((i : ℕ) → IsMarked prefixes i → ⊥) → ((i : ℕ) → IsMarked contractions i → ⊥) → (e : ℕ) → IsRememberedBy entries prefixes contractions e → ⊥
none_by entries prefixes contractions none no_prefix no_contraction e (inl has) = none e has
none_by entries prefixes contractions none no_prefix no_contraction e (inr (inl is)) = no_prefix (entry_index e) is.marked
none_by entries prefixes contractions none no_prefix no_contraction e (inr (inr is)) = no_contraction (entry_index e) is.marked

-- one more prefix, one more contraction, and one more of the others
pub one_prefix : (entries : List (Option ℕ)) (old new contractions : List ℕ) (entry : ℕ) → kind_of entry ≡ Prefix → ((i : ℕ) → IsMarked new i → IsMarked old i ⊎ (i ≡ entry_index entry))
    → (e : ℕ) → IsRememberedBy entries new contractions e → IsRememberedBy entries old contractions e ⊎ ReferAlike entry e
one_prefix entries old new contractions entry is more e (inl has) = inl (inl has)
one_prefix entries old new contractions entry is more e (inr (inl now)) =
    elim (more (entry_index e) now.marked) [
      | inl before ↦ inl (inr (inl (record { of_kind = now.of_kind; marked = before })))
      | inr same ↦ inr (inr (record { context = ap names_context is; kind = is ∙ sym now.of_kind; index = sym same }))
    ]
one_prefix entries old new contractions entry is more e (inr (inr other)) = inl (inr (inr other))

pub one_contraction : (entries : List (Option ℕ)) (prefixes old new : List ℕ) (entry : ℕ) → kind_of entry ≡ Contraction → ((i : ℕ) → IsMarked new i → IsMarked old i ⊎ (i ≡ entry_index entry))
    → (e : ℕ) → IsRememberedBy entries prefixes new e → IsRememberedBy entries prefixes old e ⊎ ReferAlike entry e
one_contraction entries prefixes old new entry is more e (inl has) = inl (inl has)
one_contraction entries prefixes old new entry is more e (inr (inl other)) = inl (inr (inl other))
one_contraction entries prefixes old new entry is more e (inr (inr now)) =
    elim (more (entry_index e) now.marked) [
      | inl before ↦ inl (inr (inr (record { of_kind = now.of_kind; marked = before })))
      | inr same ↦ inr (inr (record { context = ap names_context is; kind = is ∙ sym now.of_kind; index = sym same }))
    ]

pub one_entry : (old new : List (Option ℕ)) (prefixes contractions : List ℕ) (entry : ℕ) → ((e : ℕ) → Contains new (Some e) → Contains old (Some e) ⊎ (e ≡ entry))
    → (e : ℕ) → IsRememberedBy new prefixes contractions e → IsRememberedBy old prefixes contractions e ⊎ ReferAlike entry e
one_entry old new prefixes contractions entry more e (inl now) = elim (more e now) [ inl before ↦ inl (inl before) | inr same ↦ inr (inl (sym same)) ]
one_entry old new prefixes contractions entry more e (inr other) = inl (inr other)

-- ---- marks

abbrev zeros : ℕ → List ℕ
zeros n = replicate n 0

zero_word : (n k : ℕ) → k < n → ◌≡◌ {A = ℕ} (get_or (zeros n) k 0) 0
zero_word n k h = get_or-replicate n k 0 0 h

no_word : (n k : ℕ) → n ≤ k → ◌≡◌ {A = ℕ} (get_or (zeros n) k 0) 0
no_word n k h = grind (arith, common_steps)

below_or : (n k : ℕ) → (k < n) ⊎ (n ≤ k)
below_or n k = grind arith

word_at : (n k : ℕ) → ◌≡◌ {A = ℕ} (get_or (zeros n) k 0) 0
word_at n k = elim (below_or n k) [ inl h ↦ zero_word n k h | inr h ↦ no_word n k h ]

zero_one : ◌≡◌ {A = ℕ} 0 1 → ⊥
zero_one h = omega arith

-- no index is marked in words of zeros
pub none_marked : (n i : ℕ) → IsMarked (zeros n) i → ⊥
none_marked n i marked = zero_one (sym (bit_at-zero (i % 64)) ∙ sym (ap (λ w. bit_at w (i % 64)) (word_at n (i / 64))) ∙ marked)

-- one more index is marked
pub one_marked : (words : List ℕ) (index : ℕ) → index / 64 < length words
    → (i : ℕ) → IsMarked (set words (index / 64) (bit_or (get_or words (index / 64) 0) (1 * 2 ^ (index % 64) % 2 ^ 64))) i → IsMarked words i ⊎ (i ≡ index)
one_marked words index inside i marked =
    elim (cases_eq (i / 64) (index / 64)) [
      | inl same ↦ elim (cases_eq (i % 64) (index % 64)) [
        | inl rest ↦ inr (omega arith)
        | inr other ↦
            let within : index % 64 < 64 = omega arith in
            let kept : bit_at word (i % 64) ≡ bit_at old (i % 64) = bit_at_set_other w64 old (index % 64) within (i % 64) other in
            inl (ap (λ k. bit_at (get_or words k 0) (i % 64)) same ∙ sym kept
            ∙ sym (ap (λ w. bit_at w (i % 64)) (ap (λ k. get_or (set words (index / 64) word) k 0) same ∙ get_or-set_same words (index / 64) word 0 inside)) ∙ marked)
      ]
      | inr other ↦ inl (sym (ap (λ w. bit_at w (i % 64)) (get_or-set_other words (index / 64) (i / 64) word 0 other)) ∙ marked)
    ]
  where
    old : ℕ
    old = get_or words (index / 64) 0

    word : ℕ
    word = bit_or old (1 * 2 ^ (index % 64) % 2 ^ 64)
