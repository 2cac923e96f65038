-- Secondary weights of marks.
use Rattle.std.proofs.Common.{◌≡◌, ℕ, ◌+◌, ◌<◌, ◌≤◌, Bool, true, false, List, [], ◌∷◌, ◌++◌, length, slice_index, sym, ap, subst, ◌∙◌}
use Rattle.std.specs.Bool.{MatchBool}
use Rattle.std.proofs.Math.ListN.{get_or-append}
use Rattle.std.proofs.Math.Seq.{get_or-append_seam}
use Rattle.std.proofs.lemmas.List.Elements.{All-contains}
use borrow.Author.Count.{below_more}
use Rattle.icu_table_entries.specs.Elements.{Element, common, of_secondary}
use Rattle.icu_table_data.specs.DataConditions.{diacritics_base}
use Rattle.icu_rule_meaning.specs.TailoredRoots.{RootMapping}
use Rattle.icu_rule_meaning.specs.TailoredMappings.{SymbolicMapping}
use Rattle.icu_rule_weights.specs.declared.tailoring_numbers.tailoring_numbers.TailoringNumbers.{TailoringNumbers}
use Rattle.icu_rule_steps.specs.symbolic_mappings.KeptMappings.{mappings_in}
use Rattle.icu_rule_steps.specs.symbolic_mappings.StoredMappings.{symbolic_mappings}
use Rattle.icu_rule_steps.specs.symbolic_mappings.TouchedCharacters.{have_touched, touched_in}
use Rattle.icu_rule_steps.specs.declared.symbolic_mappings.character_mapping.TouchedCharacter.{TouchedCharacter}
use Rattle.icu_rule_steps.specs.declared.symbolic_mappings.kept_mappings.Mappings.{Mappings}
use Rattle.icu_rule_tables.specs.tailored_entries.TailoredDiacritics.{HaveSecondaryAlone, TailorDiacriticsBelow, TailorsDiacritic, TailorsDiacritics}
use Rattle.icu_rule_tables.specs.tailored_entries.inner.OwnDiacritics.{IsListedSecondary, IsOwnSecondary}
use Rattle.icu_rule_tables.specs.tailored_entries.inner.RootLists.{ListsTouched}

-- an element without a primary weight, and with common weights below the secondary one
pub lone_element : (x : Element) → x.primary ≡ 0 → x.lower ≡ common → x ≡ of_secondary x.secondary
lone_element x none low =
    let first : x ≡ record { primary = 0; secondary = x.secondary; lower = x.lower } =
    ap (λ p. let y : Element = record { primary = p; secondary = x.secondary; lower = x.lower } in y) none in
    first ∙ ap (λ l. let y : Element = record { primary = 0; secondary = x.secondary; lower = l } in y) low

module _ {R : Type 0} (mappings_of : R → ℕ → List RootMapping) (t : TailoringNumbers) (m : Mappings R) where
  -- the weight by the list of characters that relations touched
  pub tailored_by_list : (touched : List TouchedCharacter) → ListsTouched mappings_of m touched → (c rooted secondary : ℕ)
      → IsOwnSecondary touched t c rooted secondary → TailorsDiacritic mappings_of t m c rooted secondary
  tailored_by_list touched listed c rooted secondary own = by_touched (have_touched touched c) (listed.all c) own
    where
      given : IsListedSecondary touched t c secondary → HaveSecondaryAlone t (mappings_in mappings_of m c) secondary
      given h =
          let same : mappings_in mappings_of m h.listed.character ≡ symbolic_mappings h.listed.mappings.now =
          All-contains (λ (x : TouchedCharacter). mappings_in mappings_of m x.character ≡ symbolic_mappings x.mappings.now) touched
          h.listed listed.mappings h.member in
          subst (λ (ms : List SymbolicMapping). HaveSecondaryAlone t ms secondary)
          (sym same ∙ ap (mappings_in mappings_of m) h.character) h.alone

      by_touched : (b : Bool) → touched_in m c ≡ b → MatchBool b (IsListedSecondary touched t c secondary) (secondary ≡ rooted)
          → TailorsDiacritic mappings_of t m c rooted secondary
      by_touched true is h =
          subst (λ b. MatchBool b (HaveSecondaryAlone t (mappings_in mappings_of m c) secondary) (secondary ≡ rooted)) (sym is) (given h)
      by_touched false is h =
          subst (λ b. MatchBool b (HaveSecondaryAlone t (mappings_in mappings_of m c) secondary) (secondary ≡ rooted)) (sym is) h

  -- one more weight
  pub weights_more : (root own more : List ℕ) (n secondary : ℕ) → length own ≡ n → more ≡ own ++ secondary ∷ []
      → TailorDiacriticsBelow mappings_of t m root n own
      → TailorsDiacritic mappings_of t m (diacritics_base + n) (slice_index root n) secondary
      → TailorDiacriticsBelow mappings_of t m root (n + 1) more
  weights_more root own more n secondary count is before last =
      below_more (λ k. TailorsDiacritic mappings_of t m (diacritics_base + k) (slice_index root k) (slice_index more k)) n earlier here where
        earlier : (k : ℕ) → k < n → TailorsDiacritic mappings_of t m (diacritics_base + k) (slice_index root k) (slice_index more k)
        earlier k small =
            subst (λ x. TailorsDiacritic mappings_of t m (diacritics_base + k) (slice_index root k) x)
            (sym (ap (λ (xs : List ℕ). slice_index xs k) is ∙ get_or-append own (secondary ∷ []) 0 k (subst (λ l. k < l) (sym count) small)))
            (before k small)

        here : TailorsDiacritic mappings_of t m (diacritics_base + n) (slice_index root n) (slice_index more n)
        here =
            subst (λ x. TailorsDiacritic mappings_of t m (diacritics_base + n) (slice_index root n) x)
            (sym (ap (λ (xs : List ℕ). slice_index xs n) is ∙ ap (λ l. slice_index (own ++ secondary ∷ []) l) (sym count)
            ∙ get_or-append_seam own secondary [] 0))
            last

  -- the weights so far are a table
  pub weights_so_far : (root own : List ℕ) (n : ℕ) → length own ≡ n → n ≤ length root → TailorDiacriticsBelow mappings_of t m root n own
      → TailorsDiacritics mappings_of t m root own
  weights_so_far root own n count inside weights = record {
    count = subst (λ l. l ≤ length root) (sym count) inside;
    weights = λ k small. weights k (subst (λ l. k < l) count small);
  }
