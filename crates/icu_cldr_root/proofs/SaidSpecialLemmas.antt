-- The special primary weights that lines say, line by line, and those of the table.
use Rattle.std.proofs.Common.{◌≡◌, ℕ, ◌<◌, Bool, true, false, List, [], ◌∷◌, ◌++◌, Option, Some, None, refl, sym, ap, subst, ◌∙◌, if◌then◌else◌, zero, suc, arith}
use Rattle.std.specs.Prelude.{◌==◌, ◌&&◌, ◌||◌, slice_index}
use Rattle.std.specs.List.{flat_map, list_any}
use Rattle.std.specs.Option.{option_or}
use Rattle.std.proofs.lemmas.Bool.Decides.{nat_tests}
use Rattle.std.proofs.lemmas.List.{append-nil}
use Rattle.std.proofs.lemmas.List.Folds.{list_any-append}
use Rattle.std.proofs.lemmas.List.Sums.{fold-append}
use Rattle.std.proofs.lemmas.Grind.{flat_map-append}
use Rattle.icu_options.specs.declared.settings.MaxVariable.{MaxVariable}
use Rattle.icu_options.specs.declared.settings.MaxVariable.TheVariants.{Space, Punctuation, Symbol, Currency}
use Rattle.icu_table_provider.specs.SpecialPrimaries.{SpecialPrimaries, group_index}
use Rattle.icu_cldr_root.specs.SaidSpecials.{SaysSpecials, group_end_by, group_end_said, numeric_leads_of, sample_behind, says_compressible}
use Rattle.icu_cldr_root.specs.inner.CompressedLeads.{has_lead}
use Rattle.icu_cldr_root.specs.inner.LeadWords.{lead_words}
use Rattle.icu_cldr_root.specs.inner.SpecialParts.{AddsSpecial, HasSpecials, IsOnlyLead, MakesSpecials, end_of, ends_with}
use Rattle.icu_cldr_root.specs.declared.line.Line.{Line}
use Rattle.icu_cldr_root.specs.declared.line.Line.TheVariants as says
use Rattle.icu_cldr_root.specs.declared.mapping.Mapping.{Mapping}
use Rattle.icu_cldr_root.specs.declared.special.GroupEnds.{GroupEnds}
use Rattle.icu_cldr_root.specs.declared.special.Special.{Special}

-- ---- one line more

ends_more : (sample : ℕ) (said : List Line) (line : Line) → group_end_said sample (said ++ line ∷ []) ≡ option_or (group_end_by sample line) (group_end_said sample said)
ends_more sample said line = fold-append (λ end l. option_or (group_end_by sample l) end) None said (line ∷ [])

leads_more : (said : List Line) (line : Line) → flat_map numeric_leads_of (said ++ line ∷ []) ≡ flat_map numeric_leads_of said ++ numeric_leads_of line
leads_more said line = flat_map-append numeric_leads_of said (line ∷ []) ∙ ap (λ xs. flat_map numeric_leads_of said ++ xs) (append-nil (numeric_leads_of line))

only_lead : (lead : Option ℕ) (leads : List ℕ) (n : ℕ) → lead ≡ None → IsOnlyLead lead leads → leads ++ n ∷ [] ≡ n ∷ []
only_lead None leads n none h = ap (λ xs. xs ++ n ∷ []) h
only_lead (Some lead) leads n none h = cc

or_swap : (x a b t : Bool) → x ≡ (a || t) → (b || x) ≡ (a || (t || (b || false)))
or_swap x true true t h = refl
or_swap x true false t h = h
or_swap x false true true h = refl
or_swap x false true false h = refl
or_swap x false false true h = h
or_swap x false false false h = h

or_false : (a t x : Bool) → x ≡ (a || t) → x ≡ (a || (t || (false || false)))
or_false true t x h = h
or_false false true x h = h
or_false false false x h = h

module _ (old new : Special) (said : List Line) (has : HasSpecials old said) where
  same_ends : (line : Line) → ((sample : ℕ) → group_end_by sample line ≡ None) → new.ends ≡ old.ends
      → (group : MaxVariable) → end_of new.ends group ≡ group_end_said (sample_behind group) (said ++ line ∷ [])
  same_ends line none same group =
      ap (λ e. end_of e group) same ∙ has.ends group
      ∙ sym (ends_more (sample_behind group) said line ∙ ap (λ o. option_or o (group_end_said (sample_behind group) said)) (none (sample_behind group)))

  same_numeric : (line : Line) → numeric_leads_of line ≡ [] → new.numeric_lead ≡ old.numeric_lead → IsOnlyLead new.numeric_lead (flat_map numeric_leads_of (said ++ line ∷ []))
  same_numeric line none same =
      let leads : flat_map numeric_leads_of (said ++ line ∷ []) ≡ flat_map numeric_leads_of said =
      leads_more said line ∙ ap (λ xs. flat_map numeric_leads_of said ++ xs) none ∙ append-nil (flat_map numeric_leads_of said) in
      subst (λ l. IsOnlyLead l (flat_map numeric_leads_of (said ++ line ∷ []))) (sym same)
      (subst (IsOnlyLead old.numeric_lead) (sym leads) has.numeric)

  same_compressible : (line : Line) → ((b : ℕ) → says_compressible b line ≡ false) → new.compressible ≡ old.compressible
      → (b : ℕ) → b < 256 → has_lead (lead_words new.compressible) b ≡ (b == 0xFE || list_any (says_compressible b) (said ++ line ∷ []))
  same_compressible line none same b small =
      ap (λ c. has_lead (lead_words c) b) same
      ∙ or_false (b == 0xFE) (list_any (says_compressible b) said) (has_lead (lead_words old.compressible) b) (has.compressible b small)
      ∙ sym (ap (λ t. b == 0xFE || t) (list_any-append (says_compressible b) said (line ∷ [])
      ∙ ap (λ t. list_any (says_compressible b) said || (t || false)) (none b)))

  unchanged : (line : Line) → ((sample : ℕ) → group_end_by sample line ≡ None) → numeric_leads_of line ≡ [] → ((b : ℕ) → says_compressible b line ≡ false) → new ≡ old
      → HasSpecials new (said ++ line ∷ [])
  unchanged line ends numeric compressible same = record {
    ends = same_ends line ends (ap (λ (s : Special). s.ends) same);
    numeric = same_numeric line numeric (ap (λ (s : Special). s.numeric_lead) same);
    compressible = same_compressible line compressible (ap (λ (s : Special). s.compressible) same);
  }

  end_more : (m : Mapping) (ends : GroupEnds) → new.ends ≡ ends_with old.ends m → (group : MaxVariable)
      → end_of (ends_with old.ends m) group ≡ option_or (group_end_by (sample_behind group) (says.Mapping m)) (end_of old.ends group)
  end_more m ends is Space = refl
  end_more m ends is Punctuation = refl
  end_more m ends is Symbol = refl
  end_more m ends is Currency = refl

  -- what the line says was added
  pub specials_more : (line : Line) → AddsSpecial old new line → HasSpecials new (said ++ line ∷ [])
  specials_more (says.Mapping m) adds =
      let ends : new.ends ≡ ends_with old.ends m = ap (λ (s : Special). s.ends) adds in
      record {
        ends = λ group. ap (λ e. end_of e group) ends ∙ end_more m old.ends ends group
            ∙ ap (λ o. option_or (group_end_by (sample_behind group) (says.Mapping m)) o) (has.ends group)
            ∙ sym (ends_more (sample_behind group) said (says.Mapping m));
        numeric = same_numeric (says.Mapping m) refl (ap (λ (s : Special). s.numeric_lead) adds);
        compressible = same_compressible (says.Mapping m) (λ b. refl) (ap (λ (s : Special). s.compressible) adds);
      }
  specials_more (says.NumericLead lead) adds =
      let numeric : new.numeric_lead ≡ Some lead = ap (λ (s : Special). s.numeric_lead) adds.1 in
      record {
        ends = same_ends (says.NumericLead lead) (λ sample. refl) (ap (λ (s : Special). s.ends) adds.1);
        numeric = subst (λ l. IsOnlyLead l (flat_map numeric_leads_of (said ++ says.NumericLead lead ∷ []))) (sym numeric)
            (leads_more said (says.NumericLead lead) ∙ only_lead old.numeric_lead (flat_map numeric_leads_of said) lead adds.0 has.numeric);
        compressible = same_compressible (says.NumericLead lead) (λ b. refl) (ap (λ (s : Special). s.compressible) adds.1);
      }
  specials_more (says.LeadByte l) adds = record {
    ends = same_ends (says.LeadByte l) (λ sample. refl) (ap (λ (s : Special). s.ends) adds.0);
    numeric = same_numeric (says.LeadByte l) refl (ap (λ (s : Special). s.numeric_lead) adds.0);
    compressible = λ b small. adds.1 b small
        ∙ or_swap (has_lead (lead_words old.compressible) b) (b == 0xFE) (b == l.lead && l.is_compressible) (list_any (says_compressible b) said) (has.compressible b small)
        ∙ sym (ap (λ t. b == 0xFE || t) (list_any-append (says_compressible b) said (says.LeadByte l ∷ [])));
  }
  specials_more (says.Version v) adds = unchanged (says.Version v) (λ sample. refl) refl (λ b. refl) adds
  specials_more (says.Fixed f) adds = unchanged (says.Fixed f) (λ sample. refl) refl (λ b. refl) adds
  specials_more (says.Reserved r) adds = unchanged (says.Reserved r) (λ sample. refl) refl (λ b. refl) adds
  specials_more says.Nothing adds = unchanged says.Nothing (λ sample. refl) refl (λ b. refl) adds
  specials_more (says.Ideographs r) adds = unchanged (says.Ideographs r) (λ sample. refl) refl (λ b. refl) adds

-- ---- before the first line

-- a test that holds of each number below a bound
unfoldable all_below : (ℕ → Bool) → ℕ → Bool
all_below p zero = true
all_below p (suc n) = p n && all_below p n

unfoldable same_bool : Bool → Bool → Bool
same_bool a b = if a then b else (if b then false else true)

from_same : (a b : Bool) → same_bool a b ≡ true → a ≡ b
unfolding same_bool
from_same true true h = refl
from_same true false h = cc
from_same false true h = cc
from_same false false h = refl

first_holds : (a b : Bool) → (a && b) ≡ true → a ≡ true
first_holds true b h = refl
first_holds false b h = cc

second_holds : (a b : Bool) → (a && b) ≡ true → b ≡ true
second_holds true b h = h
second_holds false b h = cc

holds_below : (p : ℕ → Bool) (n k : ℕ) → all_below p n ≡ true → k < n → p k ≡ true
unfolding all_below
holds_below p zero k all less = absurd (omega arith)
holds_below p (suc n) k all less = by_test (k == n) refl (holds_below p n k (second_holds (p n) (all_below p n) all)) where
  same : (k == n) ≡ true → k ≡ n
  same h = grind (arith, nat_tests)

  smaller : (k == n) ≡ false → k < suc n → k < n
  smaller h l = grind (arith, nat_tests)

  by_test : (b : Bool) → (k == n) ≡ b → (k < n → p k ≡ true) → p k ≡ true
  by_test true is below = ap p (same is) ∙ first_holds (p n) (all_below p n) all
  by_test false is below = below (smaller is less)

-- the bits of one lead byte, FE
abbrev pub implicit_words : List ℕ
implicit_words = 0 ∷ 0 ∷ 0 ∷ 0 ∷ 0 ∷ 0 ∷ 0 ∷ 0 ∷ 0 ∷ 0 ∷ 0 ∷ 0 ∷ 0 ∷ 0 ∷ 0 ∷ 0x4000 ∷ []

computed : all_below (λ b. same_bool (has_lead implicit_words b) (b == 0xFE)) 256 ≡ true
unfolding all_below same_bool
computed = refl

pub only_implicit : (b : ℕ) → b < 256 → has_lead implicit_words b ≡ (b == 0xFE)
only_implicit b small =
    from_same (has_lead implicit_words b) (b == 0xFE)
    (holds_below (λ c. same_bool (has_lead implicit_words c) (c == 0xFE)) 256 b computed small)

-- ---- the table

only_said : (lead : Option ℕ) (leads : List ℕ) (n : ℕ) → IsOnlyLead lead leads → lead ≡ Some n → leads ≡ n ∷ []
only_said None leads n h is = cc
only_said (Some m) leads n h is = let same : m ≡ n = cc in h ∙ ap (λ k. k ∷ []) same

-- the table says what lines say
pub specials_said : (s : Special) (table : SpecialPrimaries) (said : List Line) → HasSpecials s said → MakesSpecials s table → SaysSpecials table said
specials_said s table said has makes = record {
  ends = λ group. sym (has.ends group) ∙ made group;
  numeric = only_said s.numeric_lead (flat_map numeric_leads_of said) table.numeric has.numeric makes.numeric;
  compressible = λ lead small. makes.compressible lead small ∙ has.compressible lead small;
} where
  made : (group : MaxVariable) → end_of s.ends group ≡ Some (slice_index table.last (group_index group))
  made Space = makes.space
  made Punctuation = makes.punctuation
  made Symbol = makes.symbol
  made Currency = makes.currency
