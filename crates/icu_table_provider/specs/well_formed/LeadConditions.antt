-- The conditions on what reordering makes of whole lead bytes.
use Rattle.std.specs.Prelude.{ℕ, ◌≡◌, ◌≢◌, ◌^◌, ◌<◌, false, Option, IsTrue}
use Rattle.icu_table_entries.specs.ElementConditions.{separator_primary}
use Rattle.icu_table_provider.specs.Reorderings.{Reordering, lead_byte}
use Rattle.icu_table_provider.specs.SpecialPrimaries.{is_compressible}
use Rattle.icu_table_provider.specs.declared.well_formed.condition.LeadCondition.{LeadCondition}
use Rattle.icu_table_provider.specs.declared.well_formed.condition.LeadCondition.TheVariants.{Separator, HighLead, ImplicitLead, NumericLead, LeadsApart, NumericWhole}
use Rattle.icu_table_provider.specs.well_formed.Leads.{is_middle}
use Rattle.icu_table_provider.specs.CollatorTables.{CollatorTables, reorder_by, reorder, new_lead}
use Rattle.icu_table_provider.specs.well_formed.ElementConditions.{implicit_lead}

-- every primary weight with the first lead byte is taken to the second
abbrev pub LeadGoesToBy : Option Reordering → ℕ → ℕ → Type 0
LeadGoesToBy reordering b d = (p : ℕ) → p < 2 ^ 32 → lead_byte p ≡ b → lead_byte (reorder_by reordering p) ≡ d

-- the reordering of the tables, if there is one, takes every primary weight with the first lead byte to the second
abbrev pub LeadGoesTo : CollatorTables → ℕ → ℕ → Type 0
LeadGoesTo all b d = LeadGoesToBy all.reordering b d

-- every primary weight with a lead byte is taken to one lead byte, from 03 to FE
pub record TakesTogether (all : CollatorTables) (b : ℕ) : Type 0 where
  pub together : LeadGoesTo all b (new_lead all b)
  pub middle : IsTrue (is_middle (new_lead all b))

-- what each condition asks of lead bytes
abbrev pub LeadMeets : LeadCondition → CollatorTables → Type 0
LeadMeets Separator all = reorder all separator_primary ≡ separator_primary
LeadMeets HighLead all = LeadGoesTo all 0xFF 0xFF
LeadMeets ImplicitLead all = TakesTogether all implicit_lead
LeadMeets NumericLead all = TakesTogether all all.special.numeric
LeadMeets LeadsApart all = new_lead all implicit_lead ≢ new_lead all all.special.numeric
LeadMeets NumericWhole all = is_compressible all.special all.special.numeric ≡ false
