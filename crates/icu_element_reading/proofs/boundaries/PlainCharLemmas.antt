-- Characters whose entries name no context.
use Rattle.std.proofs.Common.{◌≡◌, ℕ, Bool, true, false, not, ◌&&◌, [], is_some, refl, sym, ap, subst}
use Rattle.std.proofs.lemmas.Bool.{and_right}
use Rattle.icu_table_entries.specs.declared.entry.EntryKind.{EntryKind}
use Rattle.icu_table_entries.specs.declared.entry.EntryKind.TheVariants.{Prefix, Contraction, Digit}
use Rattle.icu_table_entries.specs.Entries.{kind_of}
use Rattle.icu_table_provider.specs.Tables.{Tables, diacritic_of, entry_of}
use Rattle.icu_element_matches.specs.Matches.{Match}
use Rattle.icu_element_reading.specs.TextElements.{is_digit_kind, entry_alone, continues_number}
use Rattle.icu_element_reading.proofs.TakenDigitLemmas.{other_kind}
use Rattle.icu_element_reading.specs.boundaries.Alone.{names_no_context}
use Rattle.icu_element_reading.proofs.boundaries.AloneLemmas.{match_of-alone}
use Rattle.icu_element_reading.specs.boundaries.Cuts.{is_prefix_kind}

-- where its entry names no context, a character comes to it alone
pub own_alone : (tables : Tables) (c : ℕ) → names_no_context (kind_of (entry_of tables c).entry) ≡ true → entry_alone tables c ≡ (entry_of tables c).entry
own_alone tables c none = ap (λ (m : Match). m.entry) (match_of-alone (entry_of tables c) [] [] none)

no_context : (k : EntryKind) → (k ≡ Prefix → ⊥) → (k ≡ Contraction → ⊥) → names_no_context k ≡ true
no_context Prefix prefix contraction = absurd (prefix refl)
no_context Contraction prefix contraction = absurd (contraction refl)
no_context _ prefix contraction = refl

-- no character of another kind goes on a number
pub other_number : (tables : Tables) (numeric : Bool) (c : ℕ) → (kind_of (entry_of tables c).entry ≡ Prefix → ⊥) → (kind_of (entry_of tables c).entry ≡ Contraction → ⊥)
    → (kind_of (entry_of tables c).entry ≡ Digit → ⊥) → (numeric && continues_number tables c) ≡ false
other_number tables numeric c prefix contraction digit =
    let kind = kind_of (entry_of tables c).entry in
    let off : is_digit_kind (kind_of (entry_alone tables c)) ≡ false =
    subst (λ e. is_digit_kind (kind_of e) ≡ false) (sym (own_alone tables c (no_context kind prefix contraction))) (other_kind kind digit) in
    and_right numeric _ (and_right (not (is_some (diacritic_of tables c))) _ off)

-- nor does it look at what stands before
pub no_prefix : (k : EntryKind) → (k ≡ Prefix → ⊥) → is_prefix_kind k ≡ false
no_prefix Prefix h = absurd (h refl)
no_prefix _ h = refl
