-- What entries give that spell elements.
use Rattle.std.proofs.Common.{◌≡◌, ◌⊎◌, inl, inr, ℕ, ◌<◌, List, [], ◌∷◌, length, refl, sym, ◌∙◌, arith}
use Rattle.icu_table_entries.specs.Elements.{Element}
use Rattle.icu_table_entries.specs.declared.entry.EntryKind.{EntryKind}
use Rattle.icu_table_entries.specs.declared.entry.EntryKind.TheVariants.{Simple, Fallback, LongPrimary, LongSecondary, Expansion32, Expansion, Prefix, Contraction, Digit, Offset, Implicit, Reserved}
use Rattle.icu_table_entries.specs.Entries.{kind_of, self_contained}
use Rattle.icu_table_data.specs.Data.{Data, homed}
use Rattle.icu_table_data.specs.Final.{final_elements}
use Rattle.icu_table_mappings.specs.Given.{Spells}

nothing : (x : Element) (xs : List Element) → [] ≡ x ∷ xs → ⊥
nothing x xs e = cc

none_so : (e : ℕ) (x : Element) (xs : List Element) → self_contained e ≡ [] → self_contained e ≡ x ∷ xs → ⊥
none_so e x xs none own = nothing x xs (sym none ∙ own)

none_itself : (k : EntryKind) (e : ℕ) → kind_of e ≡ k → (x : Element) (xs : List Element) → self_contained e ≡ x ∷ xs
    → (Simple ≡ k) ⊎ ((LongPrimary ≡ k) ⊎ (LongSecondary ≡ k))
unfolding self_contained
none_itself Simple e is x xs own = inl refl
none_itself LongPrimary e is x xs own = inr (inl refl)
none_itself LongSecondary e is x xs own = inr (inr refl)
none_itself Fallback e is x xs own = absurd (none_so e x xs (rw (is, self_contained) refl) own)
none_itself Expansion32 e is x xs own = absurd (none_so e x xs (rw (is, self_contained) refl) own)
none_itself Expansion e is x xs own = absurd (none_so e x xs (rw (is, self_contained) refl) own)
none_itself Prefix e is x xs own = absurd (none_so e x xs (rw (is, self_contained) refl) own)
none_itself Contraction e is x xs own = absurd (none_so e x xs (rw (is, self_contained) refl) own)
none_itself Digit e is x xs own = absurd (none_so e x xs (rw (is, self_contained) refl) own)
none_itself Offset e is x xs own = absurd (none_so e x xs (rw (is, self_contained) refl) own)
none_itself Implicit e is x xs own = absurd (none_so e x xs (rw (is, self_contained) refl) own)
none_itself Reserved e is x xs own = absurd (none_so e x xs (rw (is, self_contained) refl) own)

itself : (d : Data) (e c : ℕ) (k : EntryKind) → (Simple ≡ k) ⊎ ((LongPrimary ≡ k) ⊎ (LongSecondary ≡ k)) → kind_of e ≡ k
    → final_elements (homed d e) c ≡ self_contained e
unfolding final_elements
itself d e c k (inl s) is = rw (is ∙ sym s, final_elements) refl
itself d e c k (inr (inl s)) is = rw (is ∙ sym s, final_elements) refl
itself d e c k (inr (inr s)) is = rw (is ∙ sym s, final_elements) refl

some_itself : (e : ℕ) (es : List Element) → 0 < length es → self_contained e ≡ es
    → (Simple ≡ kind_of e) ⊎ ((LongPrimary ≡ kind_of e) ⊎ (LongSecondary ≡ kind_of e))
some_itself e [] some own = absurd (omega arith)
some_itself e (x ∷ xs) some own = none_itself (kind_of e) e refl x xs own

-- an entry that spells elements has these for each character
pub spelt_final : (d : Data) (e : ℕ) (es : List Element) → Spells d e es → (c : ℕ) → final_elements (homed d e) c ≡ es
unfolding final_elements
spelt_final d e es (inl s) c = itself d e c (kind_of e) (some_itself e es s.some s.elements) refl ∙ s.elements
spelt_final d e es (inr (inl s)) c = rw (s.kind, final_elements) s.elements
spelt_final d e es (inr (inr s)) c = rw (s.kind, final_elements) s.elements
