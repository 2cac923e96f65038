-- What entries are that stand for mappings, and which elements they have.
use Rattle.std.proofs.Common.{◌≡◌, inl, inr, ℕ, ◌<◌, Bool, true, false, List, [], ◌∷◌, length, map, refl, ap, sym, subst, ◌∙◌, arith}
use Rattle.std.specs.Prelude.{◌&&◌, MatchBool}
use Rattle.ucd_perl.specs.Perl.{is_digit_char}
use Rattle.icu_table_entries.specs.Elements.{Element}
use Rattle.icu_table_entries.specs.declared.entry.EntryKind.{EntryKind}
use Rattle.icu_table_entries.specs.declared.entry.EntryKind.TheVariants.{Simple, Fallback, LongPrimary, LongSecondary, Expansion32, Expansion, Prefix, Contraction, Digit, Offset, Implicit, Reserved}
use Rattle.icu_table_entries.specs.Entries.{kind_of, self_contained}
use Rattle.icu_table_data.specs.Data.{Data, homed, plain_of}
use Rattle.icu_table_data.specs.Final.{final_elements}
use Rattle.icu_table_mappings.specs.DigitEntries.{IsDigitEntry, decimal_value}
use Rattle.icu_table_mappings.specs.Given.{Spells}
use Rattle.icu_table_mappings.proofs.SpeltElementLemmas.{spelt_final}
use Rattle.icu_rule_root.specs.RootEntries.{entry_elements}
use Rattle.icu_rule_meaning.specs.TailoredMappings.{SymbolicMapping, has_no_context}
use Rattle.icu_rule_weights.specs.tailoring_numbers.NumberedElements.{numbered_element}
use Rattle.icu_rule_weights.specs.declared.tailoring_numbers.tailoring_numbers.TailoringNumbers.{TailoringNumbers}
use Rattle.icu_rule_tables.specs.tailored_entries.GivenMappings.{IsMappingEntry, numbered_elements, or_without_weights}
use Rattle.icu_rule_laws.specs.mapped_texts.MappedTexts.{weighted}

-- kinds of entries that spell elements
abbrev pub IsSpelling : EntryKind → Type 0
IsSpelling Simple = Unit {0}
IsSpelling LongPrimary = Unit {0}
IsSpelling LongSecondary = Unit {0}
IsSpelling Expansion32 = Unit {0}
IsSpelling Expansion = Unit {0}
IsSpelling _ = ⊥

-- kinds of entries that stand for mappings: those that spell elements, and digits
abbrev pub IsStanding : EntryKind → Type 0
IsStanding Digit = Unit {0}
IsStanding k = IsSpelling k

nothing_spelt : (es : List Element) → 0 < length es → [] ≡ es → ⊥
nothing_spelt [] some e = omega arith
nothing_spelt (x ∷ xs) some e = cc

none_so : (e : ℕ) (es : List Element) → 0 < length es → self_contained e ≡ [] → self_contained e ≡ es → ⊥
none_so e es some none own = nothing_spelt es some (sym none ∙ own)

alone_kind : (k : EntryKind) (e : ℕ) (es : List Element) → kind_of e ≡ k → 0 < length es → self_contained e ≡ es → IsSpelling k
unfolding self_contained
alone_kind Simple e es is some own = tt
alone_kind LongPrimary e es is some own = tt
alone_kind LongSecondary e es is some own = tt
alone_kind Expansion32 e es is some own = tt
alone_kind Expansion e es is some own = tt
alone_kind Fallback e es is some own = none_so e es some (rw (is, self_contained) refl) own
alone_kind Prefix e es is some own = none_so e es some (rw (is, self_contained) refl) own
alone_kind Contraction e es is some own = none_so e es some (rw (is, self_contained) refl) own
alone_kind Digit e es is some own = none_so e es some (rw (is, self_contained) refl) own
alone_kind Offset e es is some own = none_so e es some (rw (is, self_contained) refl) own
alone_kind Implicit e es is some own = none_so e es some (rw (is, self_contained) refl) own
alone_kind Reserved e es is some own = none_so e es some (rw (is, self_contained) refl) own

spelling_kind : (d : Data) (e : ℕ) (es : List Element) → Spells d e es → IsSpelling (kind_of e)
spelling_kind d e es (inl s) = alone_kind (kind_of e) e es refl s.some s.elements
spelling_kind d e es (inr (inl s)) = subst IsSpelling (sym s.kind) tt
spelling_kind d e es (inr (inr s)) = subst IsSpelling (sym s.kind) tt

spelling_stands : (k : EntryKind) → IsSpelling k → IsStanding k
spelling_stands Digit h = absurd h
spelling_stands _ h = h

module _ (t : TailoringNumbers) (d : Data) (c : ℕ) (m : SymbolicMapping) (e : ℕ) (is : IsMappingEntry t d c m e) where
  -- an entry of a mapping is of such a kind
  pub entry_stands : IsStanding (kind_of e)
  entry_stands = by_digit (has_no_context m && is_digit_char c) is.digit where
    by_digit : (b : Bool) → MatchBool b (IsDigitEntry d (decimal_value c) is.letter e) (e ≡ is.letter) → IsStanding (kind_of e)
    by_digit true h = subst IsStanding (sym h.kind) tt
    by_digit false h =
        subst (λ x. IsStanding (kind_of x)) (sym h)
        (spelling_stands (kind_of is.letter) (spelling_kind d is.letter (numbered_elements t m.elements) is.spells))

  letter_elements : (k : EntryKind) → IsSpelling k → (xs ys : List Element)
      → (elim k as (λ _. List Element) [ Digit ↦ xs | _ ↦ ys ]) ≡ ys
  letter_elements Digit h xs ys = absurd h
  letter_elements _ h xs ys = refl

  letter_has : final_elements (homed d is.letter) c ≡ numbered_elements t m.elements
  letter_has = spelt_final d is.letter (numbered_elements t m.elements) is.spells c

  entry_has : entry_elements d c e ≡ numbered_elements t m.elements
  unfolding entry_elements
  entry_has = by_digit (has_no_context m && is_digit_char c) is.digit where
    by_digit : (b : Bool) → MatchBool b (IsDigitEntry d (decimal_value c) is.letter e) (e ≡ is.letter)
        → (elim (kind_of e) as (λ _. List Element) [
          | Digit ↦ final_elements (homed d (plain_of d e)) c
          | _ ↦ final_elements (homed d e) c
        ]) ≡ numbered_elements t m.elements
    by_digit true h =
        ap (λ (k : EntryKind). elim k as (λ _. List Element) [
          | Digit ↦ final_elements (homed d (plain_of d e)) c
          | _ ↦ final_elements (homed d e) c
        ]) h.kind
        ∙ ap (λ p. final_elements (homed d p) c) h.plain ∙ letter_has
    by_digit false h =
        ap (λ (x : ℕ). elim (kind_of x) as (λ _. List Element) [
          | Digit ↦ final_elements (homed d (plain_of d x)) c
          | _ ↦ final_elements (homed d x) c
        ]) h
        ∙ letter_elements (kind_of is.letter) (spelling_kind d is.letter (numbered_elements t m.elements) is.spells)
        (final_elements (homed d (plain_of d is.letter)) c) (final_elements (homed d is.letter) c)
        ∙ letter_has

  without_weights : (xs : List Element) → weighted (or_without_weights xs) ≡ weighted xs
  without_weights [] = refl
  without_weights (x ∷ xs) = refl

  -- an entry of a mapping has its elements
  pub entry_weighted : weighted (entry_elements d c e) ≡ weighted (map (numbered_element t) m.elements)
  entry_weighted = ap weighted entry_has ∙ without_weights (map (numbered_element t) m.elements)
