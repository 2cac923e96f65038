-- How far a text is read ahead for a contraction.
use Rattle.std.proofs.Common.{◌≡◌, ℕ, ◌<◌, true, false, ◌&&◌, ◌==◌, ap₂, IsTrue, slice_index_or, List, [], ◌∷◌, ◌++◌, length, drop, Option, Some, None, is_some, refl, sym, ap, subst, ◌∙◌, arith, inl, inr}
use Rattle.std.specs.Prelude.{slice_get}
use Rattle.std.proofs.lemmas.Bool.{cases_Bool, and_from, true≢false}
use Rattle.std.specs.List.{list_any}
use Rattle.unicode_normalization.specs.Order.{is_starter}
use Rattle.icu_table_entries.specs.declared.entry.EntryKind.{EntryKind}
use Rattle.icu_table_entries.specs.declared.entry.EntryKind.TheVariants.{Contraction, Digit}
use Rattle.icu_table_entries.specs.Entries.{kind_of, entry_index}
use Rattle.icu_table_data.specs.Contexts.{has_ascending_mappings}
use Rattle.icu_table_data.specs.Data.{Data, Context, HomedEntry, homed, no_context, context_of, longest_mapping}
use Rattle.icu_table_provider.specs.Tables.{entry_of, diacritic_of}
use Rattle.icu_element_matches.specs.Matches.{after_prefix}
use Rattle.icu_element_matches.specs.MatchesAhead.{are_decided, mapping_length}
use Rattle.icu_element_matches.proofs.ReadAheadLemmas.{are_decided-longer, any_behind-longer, longest_from-decided}
use Rattle.icu_element_reading.specs.TextElements.{Reading, is_digit_kind}
use Rattle.icu_element_reading.specs.ReadAhead.{HasWholeStep}
use Rattle.icu_element_reading.specs.inner.ReadsAhead.{IsRunRead, IsMatchRead, HasWholeContraction, IsDotRead}
use Rattle.icu_element_reading.proofs.EnoughLemmas.{HasWholeStep-diacritic, HasWholeStep-dot, HasWholeStep-other, HasWholeStep-contraction}

-- mappings that are decided, with what the longest one takes
pub record IsMappingRead (context : Context) (taken : ℕ) (text : List ℕ) : Type 0 where
  pub decided : are_decided context.mappings text ≡ true
  pub longest : mapping_length (longest_mapping context.mappings text) ≡ taken

pub IsMappingRead-at : (context : Context) (taken : ℕ) (text : List ℕ) → mapping_length (longest_mapping context.mappings text) ≡ taken → are_decided context.mappings text ≡ true → IsMappingRead context taken text
IsMappingRead-at context taken text is decided = record { decided = decided; longest = is }

longest-longer : (context : Context) (text more : List ℕ) → are_decided context.mappings text ≡ true → mapping_length (longest_mapping context.mappings (text ++ more)) ≡ mapping_length (longest_mapping context.mappings text)
longest-longer context text more decided = ap mapping_length (longest_from-decided None context.mappings text more decided)

-- what was read stays read
pub IsMappingRead-longer : (context : Context) (taken : ℕ) (text more : List ℕ) → IsMappingRead context taken text → IsMappingRead context taken (text ++ more)
IsMappingRead-longer context taken text more h = record {
  decided = are_decided-longer context.mappings text more h.decided;
  longest = longest-longer context text more h.decided ∙ h.longest;
}

pub IsMatchRead-longer : (context : Context) (taken : ℕ) (text more : List ℕ) → IsMatchRead context taken text → IsMatchRead context taken (text ++ more)
IsMatchRead-longer context taken text more h = record {
  decided = are_decided-longer context.mappings text more h.decided;
  longest = longest-longer context text more h.decided ∙ h.longest;
  behind = any_behind-longer is_starter taken text more h.behind;
}

pub IsMatchRead-mapping : (context : Context) (taken : ℕ) (text : List ℕ) → IsMappingRead context taken text × (list_any is_starter (drop taken text) ≡ true) → IsMatchRead context taken text
IsMatchRead-mapping context taken text h = record { decided = h.0.decided; longest = h.0.longest; behind = h.1 }

-- a contraction whose mapping takes some, or that has no mapping and whose run is read
pub HasWholeContraction-mapping : (reading : Reading) (context : Context) (taken : ℕ) (text : List ℕ) → 0 < taken → IsMatchRead context taken text → HasWholeContraction reading context text
HasWholeContraction-mapping reading context taken text some h = record {
  decided = h.decided;
  behind = subst (λ n. list_any is_starter (drop n text) ≡ true) (sym h.longest) h.behind;
  run = λ none. let zero_taken : 0 ≡ taken = sym (ap mapping_length none) ∙ h.longest in absurd (omega (arith, some, zero_taken));
}

pub HasWholeContraction-run : (reading : Reading) (context : Context) (taken : ℕ) (text : List ℕ) → IsMatchRead context taken text × IsRunRead reading context.default text → HasWholeContraction reading context text
HasWholeContraction-run reading context taken text h = record {
  decided = h.0.decided;
  behind = subst (λ n. list_any is_starter (drop n text) ≡ true) (sym h.0.longest) h.0.behind;
  run = λ none. h.1;
}

-- where an entry begins no number, no run need be read
digit_kind : (k : EntryKind) → k ≡ Digit → is_digit_kind k ≡ true
digit_kind Digit h = refl
digit_kind _ h = cc

pub IsRunRead-none : (reading : Reading) (entry : ℕ) (text : List ℕ) → (is_some reading.numeric && is_digit_kind (kind_of entry)) ≡ false → IsRunRead reading entry text
IsRunRead-none reading entry text other on digit = absurd (true≢false (sym (and_from _ _ on (digit_kind (kind_of entry) digit)) ∙ other))

-- ---- a step, by what its call of the tables says

some_there : (o : Option ℕ) → is_some o ≡ true → (s : ℕ) × (o ≡ Some s)
some_there (Some s) h = (s, refl)
some_there None h = cc

first_there : (text : List ℕ) → 0 < length text → (x : ℕ) × (slice_get text 0 ≡ Some x)
first_there [] h = absurd (omega (arith, h))
first_there (x ∷ xs) h = (x, refl)

pub HasWholeStep-by_dot : (reading : Reading) (before : List ℕ) (c : ℕ) (text : List ℕ) → is_some (diacritic_of reading.tables c) ≡ true → IsDotRead reading c text → HasWholeStep reading before c text
HasWholeStep-by_dot reading before c text there dot =
    let s = some_there (diacritic_of reading.tables c) there in
    elim (cases_Bool (reading.lithuanian && c == 0x307)) [
      | inl is ↦ let x = first_there text (dot is) in HasWholeStep-dot reading before c text s.0 x.0 s.1 x.1
      | inr other ↦ HasWholeStep-diacritic reading before c text s.0 s.1 other
    ]

none_there : (o : Option ℕ) → is_some o ≡ false → o ≡ None
none_there (Some s) h = cc
none_there None h = refl

module _ (reading : Reading) (before : List ℕ) (c : ℕ) (home : Data) (e f : ℕ) (none : is_some (diacritic_of reading.tables c) ≡ false) (entry : entry_of reading.tables c ≡ homed home e) (after : f ≡ after_prefix (homed home e) before) where
  same_entry : f ≡ after_prefix (entry_of reading.tables c) before
  same_entry = after ∙ ap (λ h. after_prefix h before) (sym entry)

  pub HasWholeStep-by_run : (kind_of f ≡ Contraction → ⊥) → (text : List ℕ) → IsRunRead reading f text → HasWholeStep reading before c text
  HasWholeStep-by_run other text run =
      HasWholeStep-other reading before c text (none_there (diacritic_of reading.tables c) none) (λ is. other (ap kind_of same_entry ∙ is))
      (subst (λ x. IsRunRead reading x text) same_entry run)

  pub HasWholeStep-by_contraction : (context : Context) → kind_of f ≡ Contraction → context ≡ slice_index_or home.contexts (entry_index f) no_context → IsTrue (has_ascending_mappings context)
      → (text : List ℕ) → HasWholeContraction reading context text → HasWholeStep reading before c text
  HasWholeStep-by_contraction context is found ascend text read =
      let same : context ≡ context_of (homed (entry_of reading.tables c).home (after_prefix (entry_of reading.tables c) before)) =
      found ∙ ap₂ (λ (h : HomedEntry) (x : ℕ). context_of (homed h.home x)) (sym entry) same_entry in
      HasWholeStep-contraction reading before c text (none_there (diacritic_of reading.tables c) none) (sym (ap kind_of same_entry) ∙ is)
      (subst (λ (k : Context). IsTrue (has_ascending_mappings k)) same ascend) (subst (λ (k : Context). HasWholeContraction reading k text) same read)
