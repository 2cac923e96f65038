-- Tables of jamo.
use Rattle.std.proofs.Common.{◌≡◌, ℕ, ◌+◌, ◌<◌, Bool, true, false, List, [], ◌∷◌, ◌++◌, length, slice_index, refl, sym, ap, subst, ◌∙◌, arith}
use Rattle.std.specs.Prelude.{◌&&◌, ◌||◌}
use Rattle.std.proofs.Math.ListN.{get_or-append}
use Rattle.std.proofs.Math.Seq.{get_or-append_seam}
use borrow.Author.Count.{below_more}
use Rattle.std.specs.Bool.{MatchBool}
use Rattle.std.proofs.lemmas.Bool.Decides.{nat_tests}
use Rattle.std.proofs.lemmas.List.{append-nil}
use Rattle.icu_table_data.specs.Data.{Data}
use Rattle.icu_table_provider.specs.builder.Building.{SaysOfCharacters}
use Rattle.icu_table_mappings.specs.GrownLists.{Extends, HasMoreLists}
use Rattle.icu_table_mappings.proofs.GrownListLemmas.{extends_itself}
use Rattle.icu_table_provider.specs.Jamo.{jamo_count}
use Rattle.icu_table_provider.specs.Tables.{jamo_base}
use Rattle.icu_rule_meaning.specs.Rules.{have_character, is_scalar}
use Rattle.icu_rule_meaning.specs.TailoredRoots.{RootMapping}
use Rattle.icu_rule_weights.specs.declared.tailoring_numbers.tailoring_numbers.TailoringNumbers.{TailoringNumbers}
use Rattle.icu_rule_steps.specs.symbolic_mappings.KeptMappings.{mappings_in}
use Rattle.icu_rule_steps.specs.symbolic_mappings.TouchedCharacters.{has_own_mappings, has_root_context, suppressed_in, touched_in}
use Rattle.icu_rule_steps.specs.declared.symbolic_mappings.kept_mappings.Mappings.{Mappings}
use Rattle.icu_rule_tables.specs.tailored_entries.GivenMappings.{GivesMappings}
use Rattle.icu_rule_tables.specs.tailored_entries.TailoredJamo.{IsJamoEntry, TailorsJamo}
use Rattle.icu_rule_tables.specs.tailored_entries.inner.RootLists.{HasJamoEntries, HasListsOf, with_value_of}
use Rattle.icu_rule_tables.proofs.tailored_entries.MappingEntryLemmas.{mappings_further}

-- ---- which jamo have mappings of their own

pub jamo_scalar : (k : ℕ) → k < jamo_count → is_scalar (jamo_base + k) ≡ true
jamo_scalar k small = grind (arith, nat_tests)

-- a character that is touched
pub own_touched : (touched scalar lost : Bool) → touched ≡ true → (touched || (scalar && lost)) ≡ true
own_touched touched scalar lost is = ap (λ t. t || (scalar && lost)) is

-- a character that isn't touched
pub own_untouched : (touched scalar lost : Bool) → touched ≡ false → scalar ≡ true → (touched || (scalar && lost)) ≡ lost
own_untouched touched scalar lost none is = ap (λ t. t || (scalar && lost)) none ∙ ap (λ s. s && lost) is

-- ---- entries of jamo

module _ {R : Type 0} (mappings_of : R → ℕ → List RootMapping) (t : TailoringNumbers) (m : Mappings R) where
  further_by : (own : Bool) (d new : Data) (c rooted e : ℕ) → HasMoreLists d new
      → MatchBool own (GivesMappings t d c (mappings_in mappings_of m c) e) (e ≡ rooted)
      → MatchBool own (GivesMappings t new c (mappings_in mappings_of m c) e) (e ≡ rooted)
  further_by true d new c rooted e grows gives = mappings_further t d new c (mappings_in mappings_of m c) e grows gives
  further_by false d new c rooted e grows is = is

  -- an entry stays one where lists grow
  pub jamo_further : (d new : Data) (c rooted e : ℕ) → HasMoreLists d new → IsJamoEntry mappings_of t m d c rooted e → IsJamoEntry mappings_of t m new c rooted e
  jamo_further d new c rooted e = further_by (has_own_mappings mappings_of m c) d new c rooted e

  -- a jamo with mappings of its own has an entry that gives them
  pub jamo_given : (d : Data) (c rooted e : ℕ) → has_own_mappings mappings_of m c ≡ true → GivesMappings t d c (mappings_in mappings_of m c) e
      → IsJamoEntry mappings_of t m d c rooted e
  jamo_given d c rooted e own gives =
      subst (λ b. MatchBool b (GivesMappings t d c (mappings_in mappings_of m c) e) (e ≡ rooted)) (sym own) gives

  -- one without keeps its entry
  pub jamo_kept : (d : Data) (c rooted e : ℕ) → has_own_mappings mappings_of m c ≡ false → e ≡ rooted → IsJamoEntry mappings_of t m d c rooted e
  jamo_kept d c rooted e none is =
      subst (λ b. MatchBool b (GivesMappings t d c (mappings_in mappings_of m c) e) (e ≡ rooted)) (sym none) is

  -- where no jamo has mappings of its own the table stays
  pub none_tailored : (root : Data) (jamo : List ℕ) → length jamo ≡ jamo_count
      → ((k : ℕ) → k < jamo_count → has_own_mappings mappings_of m (jamo_base + k) ≡ false) → TailorsJamo mappings_of t m root jamo root jamo
  none_tailored root jamo count none = record {
    extends = extends_itself root;
    count = count;
    entries = λ k small. jamo_kept root (jamo_base + k) (slice_index jamo k) (slice_index jamo k) (none k small) refl;
  }

-- ---- the root that was built

-- a builder that began with the lists of a root, and got more, is built to a root with more lists
pub built_over : (root first last built : Data) → HasListsOf root first → Extends first last → SaysOfCharacters last built
    → Extends root (with_value_of root built)
built_over root first last built begins grows says = record {
  lists = record {
    more_elements = grows.lists.more_elements;
    more_entries = grows.lists.more_entries;
    more_contexts = grows.lists.more_contexts;
    elements = says.elements ∙ grows.lists.elements ∙ ap (λ es. es ++ grows.lists.more_elements) begins.elements;
    entries = says.entries ∙ grows.lists.entries ∙ ap (λ es. es ++ grows.lists.more_entries) begins.entries;
    contexts = says.contexts ∙ grows.lists.contexts ∙ ap (λ es. es ++ grows.lists.more_contexts) begins.contexts;
  };
  value = refl;
}

same_lists : (root last built : Data) → SaysOfCharacters last built → HasMoreLists last (with_value_of root built)
same_lists root last built says = record {
  more_elements = [];
  more_entries = [];
  more_contexts = [];
  elements = says.elements ∙ sym (append-nil last.elements);
  entries = says.entries ∙ sym (append-nil last.entries);
  contexts = says.contexts ∙ sym (append-nil last.contexts);
}

module _ {R : Type 0} (mappings_of : R → ℕ → List RootMapping) (t : TailoringNumbers) (m : Mappings R) where
  -- the table of jamo that was made, and its root
  pub jamo_made : (root first last built : Data) (jamo own : List ℕ) → HasListsOf root first → Extends first last → SaysOfCharacters last built
      → length own ≡ jamo_count → HasJamoEntries mappings_of t m last jamo jamo_count own
      → TailorsJamo mappings_of t m root jamo (with_value_of root built) own
  jamo_made root first last built jamo own begins grows says count entries = record {
    extends = built_over root first last built begins grows says;
    count = count;
    entries = λ k small. jamo_further mappings_of t m last (with_value_of root built) (jamo_base + k) (slice_index jamo k) (slice_index own k)
        (same_lists root last built says) (entries k small);
  }

-- ---- the table, entry by entry

module _ {R : Type 0} (mappings_of : R → ℕ → List RootMapping) (t : TailoringNumbers) (m : Mappings R) where
  -- a jamo that isn't touched has mappings of its own if it was suppressed
  pub suppressed_own : (c : ℕ) (lost : Bool) → touched_in m c ≡ false → is_scalar c ≡ true
      → lost ≡ (have_character (suppressed_in m) c && has_root_context mappings_of m c) → has_own_mappings mappings_of m c ≡ lost
  suppressed_own c lost none scalar is =
      own_untouched (touched_in m c) (is_scalar c) (have_character (suppressed_in m) c && has_root_context mappings_of m c) none scalar ∙ sym is

  -- one more entry
  pub entries_more : (d new : Data) (jamo own more : List ℕ) (n e : ℕ) → HasMoreLists d new → length own ≡ n → more ≡ own ++ e ∷ []
      → HasJamoEntries mappings_of t m d jamo n own → IsJamoEntry mappings_of t m new (jamo_base + n) (slice_index jamo n) e
      → HasJamoEntries mappings_of t m new jamo (n + 1) more
  entries_more d new jamo own more n e grows count is before last =
      below_more (λ k. IsJamoEntry mappings_of t m new (jamo_base + k) (slice_index jamo k) (slice_index more k)) n earlier here where
        earlier : (k : ℕ) → k < n → IsJamoEntry mappings_of t m new (jamo_base + k) (slice_index jamo k) (slice_index more k)
        earlier k small =
            subst (λ x. IsJamoEntry mappings_of t m new (jamo_base + k) (slice_index jamo k) x)
            (sym (ap (λ (xs : List ℕ). slice_index xs k) is ∙ get_or-append own (e ∷ []) 0 k (subst (λ l. k < l) (sym count) small)))
            (jamo_further mappings_of t m d new (jamo_base + k) (slice_index jamo k) (slice_index own k) grows (before k small))

        here : IsJamoEntry mappings_of t m new (jamo_base + n) (slice_index jamo n) (slice_index more n)
        here =
            subst (λ x. IsJamoEntry mappings_of t m new (jamo_base + n) (slice_index jamo n) x)
            (sym (ap (λ (xs : List ℕ). slice_index xs n) is ∙ ap (λ l. slice_index (own ++ e ∷ []) l) (sym count) ∙ get_or-append_seam own e [] 0))
            last
