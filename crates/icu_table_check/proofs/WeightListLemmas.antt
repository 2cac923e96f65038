-- Lists of weights, and the violations that they show.
use Rattle.std.proofs.Common.{◌≡◌, ◌↔◌, ℕ, Bool, true, false, List, [], Some, None, refl, sym, ap, ◌∙◌, subst, inl, inr, arith, option_map}
use Rattle.icu_table_weights.proofs.WeightSetLemmas.{no_member}
use Rattle.std.specs.List.{Contains}
use Rattle.icu_table_entries.specs.declared.error.DataTable.{DataTable}
use Rattle.icu_table_entries.specs.declared.error.DataTable.TheVariants.{Root, Jamo, SpecialPrimaries, Metadata, Tailoring, Reordering, Diacritics}
use Rattle.icu_table_provider.specs.declared.reordering.CollationReordering.{CollationReordering}
use Rattle.icu_table_provider.specs.Reorderings.{reordered, lead_byte}
use Rattle.icu_table_provider.specs.SpecialPrimaries.{is_compressible}
use Rattle.icu_table_provider.specs.StoredTables.{reordering_of, special_of}
use Rattle.icu_table_provider.specs.declared.well_formed.condition.Condition.TheVariants as conditions
use Rattle.icu_table_provider.specs.declared.well_formed.condition.PairCondition.TheVariants.{Compression}
use Rattle.icu_table_provider.specs.declared.table_set.TableSet.{TableSet}
use Rattle.icu_table_check.specs.declared.check.weights.ComparedLevel.{ComparedLevel}
use Rattle.icu_table_check.specs.declared.check.weights.WeightList.{WeightList}
use Rattle.icu_table_check.specs.declared.check.weights.WeightList.TheVariants.{Primaries}
use Rattle.icu_table_provider.specs.CollatorTables.{CollatorTables, reorder_by, reorder}
use Rattle.icu_table_provider.specs.TableSets.{tables_in}
use Rattle.icu_table_weights.specs.Alike.{CompressAlike, CompressApart}
use Rattle.icu_table_weights.specs.Overlaps.{Overlaps}
use Rattle.icu_table_check.specs.inner.ComparedLevels.{list_of, bytes_at}
use Rattle.icu_table_provider.specs.well_formed.WellFormedTables.{MeetsBy}
use Rattle.icu_table_check.specs.inner.ComparedWeights.{IsWeightBy, Adds}
use Rattle.icu_table_check.specs.inner.PairViolations.{IsListedWeight, AreListed, HoldsAll, HoldsLevel, AreClashing, ListCompressesAlike}
use Rattle.icu_table_check.proofs.CollectLemmas.{special_none, metadata_none, reordering_none}
use Rattle.icu_table_check.proofs.LevelRefutes.{refute_compression}

-- ---- all weights of a list

module _ (list : WeightList) (all : CollatorTables) where
  abbrev nothing : List ℕ
  nothing = []

  none_contains : (w : ℕ) → Contains nothing w → ⊥
  none_contains w c = omega (arith, c.1)

  holds_all : (a b c d e : List ℕ) → Adds (IsWeightBy list Root all.tables) a b → Adds (IsWeightBy list Jamo all.tables) b c
      → Adds (IsWeightBy list Tailoring all.tables) c d → Adds (IsWeightBy list Diacritics all.tables) d e → HoldsAll list all.tables e
  holds_all a b c d e root jamo tailoring diacritics Root w p =
      (diacritics w).1 (inl ((tailoring w).1 (inl ((jamo w).1 (inl ((root w).1 (inr p)))))))
  holds_all a b c d e root jamo tailoring diacritics Jamo w p = (diacritics w).1 (inl ((tailoring w).1 (inl ((jamo w).1 (inr p)))))
  holds_all a b c d e root jamo tailoring diacritics Tailoring w p = (diacritics w).1 (inl ((tailoring w).1 (inr p)))
  holds_all a b c d e root jamo tailoring diacritics Diacritics w p = (diacritics w).1 (inr p)
  holds_all a b c d e root jamo tailoring diacritics SpecialPrimaries w p = absurd (special_none list all w p)
  holds_all a b c d e root jamo tailoring diacritics Metadata w p = absurd (metadata_none list all w p)
  holds_all a b c d e root jamo tailoring diacritics Reordering w p = absurd (reordering_none list all w p)

  only_listed : (a b c d e : List ℕ) → a ≡ [] → Adds (IsWeightBy list Root all.tables) a b → Adds (IsWeightBy list Jamo all.tables) b c
      → Adds (IsWeightBy list Tailoring all.tables) c d → Adds (IsWeightBy list Diacritics all.tables) d e → (w : ℕ) → Contains e w → IsListedWeight list all.tables w
  only_listed a b c d e none root jamo tailoring diacritics w in_e =
      elim ((diacritics w).0 in_e) [
        | inr p ↦ record { table = Diacritics; is = p }
        | inl in_d ↦ elim ((tailoring w).0 in_d) [
          | inr p ↦ record { table = Tailoring; is = p }
          | inl in_c ↦ elim ((jamo w).0 in_c) [
            | inr p ↦ record { table = Jamo; is = p }
            | inl in_b ↦ elim ((root w).0 in_b) [
              | inr p ↦ record { table = Root; is = p }
              | inl in_a ↦ absurd (none_contains w (subst (λ ws. Contains ws w) none in_a))
            ]
          ]
        ]
      ]

  pub holds_level : (a b c d e : List ℕ) → a ≡ [] → Adds (IsWeightBy list Root all.tables) a b → Adds (IsWeightBy list Jamo all.tables) b c
      → Adds (IsWeightBy list Tailoring all.tables) c d → Adds (IsWeightBy list Diacritics all.tables) d e → HoldsLevel list all.tables e
  holds_level a b c d e none root jamo tailoring diacritics = record {
    all = λ table w p. holds_all a b c d e root jamo tailoring diacritics table w p;
    only = λ w in_e. only_listed a b c d e none root jamo tailoring diacritics w in_e;
  }

-- ---- with a reordering

module _ (s : TableSet) (r : CollationReordering) (found : s.reordering ≡ Some r) where
  reorders : (p : ℕ) → reorder (tables_in s) p ≡ reordered (reordering_of r) p
  unfolding tables_in
  reorders p = ap (λ o. reorder_by (option_map reordering_of o) p) found

  same_special : (tables_in s).special ≡ special_of s.special
  unfolding tables_in
  same_special = refl

  leads : (p : ℕ) → lead_byte (reorder (tables_in s) p) ≡ lead_byte (reordered (reordering_of r) p)
  leads p = ap lead_byte (reorders p)

  pub loaded_alike : (ws : List ℕ) → CompressAlike ws (special_of s.special) (reordering_of r) → ListCompressesAlike (tables_in s) ws
  loaded_alike ws alike v w in_v in_w same =
      subst (λ special. is_compressible special (lead_byte v) ≡ is_compressible special (lead_byte w)) (sym same_special)
      (alike v w in_v in_w (sym (leads v) ∙ same ∙ leads w))

  unlike : (a b : Bool) → a ≡ true → b ≡ false → a ≡ b → ⊥
  unlike true b p q e = cc
  unlike false b p q e = cc

  pub loaded_apart : (ws : List ℕ) → HoldsLevel Primaries (tables_in s).tables ws → CompressApart ws (special_of s.special) (reordering_of r) → MeetsBy (conditions.Pair Compression) Reordering (tables_in s) → ⊥
  loaded_apart ws held apart meets =
      let v = apart.compressed in
      let w = apart.other in
      let of_v = held.only v apart.has_compressed in
      let of_w = held.only w apart.has_other in
      refute_compression (tables_in s) of_v.table of_w.table v w of_v.is of_w.is (leads v ∙ apart.together ∙ sym (leads w))
      (λ same. unlike _ _ apart.is_compressed apart.is_other (subst (λ special. is_compressible special (lead_byte v) ≡ is_compressible special (lead_byte w)) same_special same))
      (λ x is_x y is_y. meets of_v.table of_w.table x is_x y is_y refl)

-- ---- without one

module _ (s : TableSet) (found : s.reordering ≡ None) where
  keeps : (p : ℕ) → reorder (tables_in s) p ≡ p
  unfolding tables_in
  keeps p = ap (λ o. reorder_by (option_map reordering_of o) p) found

  -- weights that share a lead byte compress alike
  pub same_leads : (ws : List ℕ) → ListCompressesAlike (tables_in s) ws
  same_leads ws v w in_v in_w same = ap (is_compressible (tables_in s).special) (sym (ap lead_byte (keeps v)) ∙ same ∙ ap lead_byte (keeps w))

-- ---- weights that clash

-- weights of a list by some tables
pub clashing : (level : ComparedLevel) (all : CollatorTables) (ws : List ℕ) (v w : ℕ) → AreListed (list_of level) all.tables ws → Overlaps (bytes_at level all) ws v w → AreClashing level all v w
clashing level all ws v w listed overlaps = record {
  first = listed v overlaps.first;
  second = listed w overlaps.second;
  different = overlaps.different;
  begins = overlaps.begins;
}

-- a list without weights, and one to which those of a table are added
pub none_listed : (list : WeightList) (all : CollatorTables) (ws : List ℕ) → ws ≡ [] → AreListed list all.tables ws
none_listed list all ws is w c = absurd (no_member w (subst (λ ws. Contains ws w) is c))

-- weights that are added to those of other tables
pub more_listed : (own list : WeightList) (all : CollatorTables) (table : DataTable) (old new : List ℕ) → own ≡ list → AreListed list all.tables old → Adds (IsWeightBy own table all.tables) old new → AreListed list all.tables new
more_listed own list all table old new is listed adds w c =
    elim ((adds w).0 c) [
      | inl older ↦ listed w older
      | inr by ↦ record { table = table; is = subst (λ list. IsWeightBy list table all.tables w) is by }
    ]

-- whether a list of its own holds a weight
pub is_weight_by : (list : WeightList) (table : DataTable) (all : CollatorTables) (ws : List ℕ) (w : ℕ) (b : Type 0) → (old : List ℕ) → old ≡ [] → Adds (IsWeightBy list table all.tables) old ws
    → (b ↔ Contains ws w) → b ↔ IsWeightBy list table all.tables w
is_weight_by list table all ws w b old none adds same = (
  λ h. elim ((adds w).0 (same.0 h)) [ inl older ↦ absurd (no_member w (subst (λ ws. Contains ws w) none older)) | inr is ↦ is ],
  λ is. same.1 ((adds w).1 (inr is)),
)

-- a weight that isn't reachable by the first three tables is by the last one
pub last_table : (list : WeightList) (all : CollatorTables) (w : ℕ) → IsListedWeight list all.tables w → (IsWeightBy list Root all.tables w → ⊥)
    → (IsWeightBy list Jamo all.tables w → ⊥) → (IsWeightBy list Tailoring all.tables w → ⊥) → IsWeightBy list Diacritics all.tables w
last_table list all w is root jamo tailoring = by is.table is.is
  where
    by : (table : DataTable) → IsWeightBy list table all.tables w → IsWeightBy list Diacritics all.tables w
    by Root h = absurd (root h)
    by Jamo h = absurd (jamo h)
    by Tailoring h = absurd (tailoring h)
    by Diacritics h = h
    by SpecialPrimaries h = absurd (special_none list all w h)
    by Metadata h = absurd (metadata_none list all w h)
    by Reordering h = absurd (reordering_none list all w h)
