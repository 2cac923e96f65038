-- Special primary weights while lines are taken in.
use Rattle.std.specs.Prelude.{◌≡◌, ℕ, ◌<◌, ◌==◌, ◌&&◌, ◌||◌, List, [], ◌∷◌, Option, Some, None, slice_index}
use Rattle.std.specs.List.{flat_map, list_any}
use Rattle.std.specs.Option.{option_or}
use Rattle.icu_options.specs.declared.settings.MaxVariable.{MaxVariable}
use Rattle.icu_options.specs.declared.settings.MaxVariable.TheVariants.{Space, Punctuation, Symbol, Currency}
use Rattle.icu_table_provider.specs.SpecialPrimaries.{SpecialPrimaries, group_index, is_compressible}
use Rattle.icu_cldr_root.specs.SaidSpecials.{group_end_in, group_end_said, numeric_leads_of, sample_behind, says_compressible}
use Rattle.icu_cldr_root.specs.inner.CompressedLeads.{has_lead}
use Rattle.icu_cldr_root.specs.inner.LeadWords.{lead_words}
use Rattle.icu_cldr_root.specs.declared.line.LeadByte.{LeadByte}
use Rattle.icu_cldr_root.specs.declared.line.Line.{Line}
use Rattle.icu_cldr_root.specs.declared.line.Line.TheVariants as says
use Rattle.icu_cldr_root.specs.declared.mapping.Mapping.{Mapping}
use Rattle.icu_cldr_root.specs.declared.compressible_leads.CompressibleLeads.{CompressibleLeads}
use Rattle.icu_cldr_root.specs.declared.special.GroupEnds.{GroupEnds}
use Rattle.icu_cldr_root.specs.declared.special.Special.{Special}

-- the end of a group, if it is known
abbrev pub end_of : GroupEnds → MaxVariable → Option ℕ
end_of ends Space = ends.space
end_of ends Punctuation = ends.punctuation
end_of ends Symbol = ends.symbol
end_of ends Currency = ends.currency

-- no end is known
abbrev pub no_ends : GroupEnds
no_ends = record { space = None; punctuation = None; symbol = None; currency = None }

-- with the end that a mapping says
abbrev pub ends_with : GroupEnds → Mapping → GroupEnds
ends_with ends m = record {
  space = option_or (group_end_in (sample_behind Space) m) ends.space;
  punctuation = option_or (group_end_in (sample_behind Punctuation) m) ends.punctuation;
  symbol = option_or (group_end_in (sample_behind Symbol) m) ends.symbol;
  currency = option_or (group_end_in (sample_behind Currency) m) ends.currency;
}

-- a lead byte that is said to compress was added, and no other
abbrev pub AddsLead : CompressibleLeads → CompressibleLeads → LeadByte → Type 0
AddsLead old new l = (b : ℕ) → b < 256
    → has_lead (lead_words new) b ≡ ((b == l.lead && l.is_compressible) || has_lead (lead_words old) b)

-- what a line says was taken in
abbrev pub AddsSpecial : Special → Special → Line → Type 0
AddsSpecial old new (says.Mapping m) = new ≡ record old { ends = ends_with old.ends m }
AddsSpecial old new (says.NumericLead lead) = (old.numeric_lead ≡ None) × (new ≡ record old { numeric_lead = Some lead })
AddsSpecial old new (says.LeadByte l) =
    (new ≡ record old { compressible = new.compressible }) × AddsLead old.compressible new.compressible l
AddsSpecial old new _ = new ≡ old

-- the lead byte of numbers, if it is known, is the only one
abbrev pub IsOnlyLead : Option ℕ → List ℕ → Type 0
IsOnlyLead None leads = leads ≡ []
IsOnlyLead (Some lead) leads = leads ≡ lead ∷ []

-- these are what lines said
pub record HasSpecials (s : Special) (said : List Line) : Type 0 where
  pub ends : (group : MaxVariable) → end_of s.ends group ≡ group_end_said (sample_behind group) said
  pub numeric : IsOnlyLead s.numeric_lead (flat_map numeric_leads_of said)
  pub compressible : (b : ℕ) → b < 256 → has_lead (lead_words s.compressible) b ≡ (b == 0xFE || list_any (says_compressible b) said)

-- numbers are the ends of the four groups, which are all known, and the bits of the lead bytes
pub record HasNumbers (s : Special) (numbers : List ℕ) : Type 0 where
  pub space : ℕ
  pub punctuation : ℕ
  pub symbol : ℕ
  pub currency : ℕ
  pub space_is : s.ends.space ≡ Some space
  pub punctuation_is : s.ends.punctuation ≡ Some punctuation
  pub symbol_is : s.ends.symbol ≡ Some symbol
  pub currency_is : s.ends.currency ≡ Some currency
  pub numbers_are : numbers ≡ space ∷ punctuation ∷ symbol ∷ currency ∷ lead_words s.compressible

-- these are in the table
pub record MakesSpecials (s : Special) (table : SpecialPrimaries) : Type 0 where
  pub space : s.ends.space ≡ Some (slice_index table.last (group_index Space))
  pub punctuation : s.ends.punctuation ≡ Some (slice_index table.last (group_index Punctuation))
  pub symbol : s.ends.symbol ≡ Some (slice_index table.last (group_index Symbol))
  pub currency : s.ends.currency ≡ Some (slice_index table.last (group_index Currency))
  pub numeric : s.numeric_lead ≡ Some table.numeric
  pub compressible : (b : ℕ) → b < 256 → is_compressible table b ≡ has_lead (lead_words s.compressible) b
