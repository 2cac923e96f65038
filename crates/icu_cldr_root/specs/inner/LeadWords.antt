-- The lead bytes whose weights are written shorter.
use Rattle.std.specs.Prelude.{ℕ, List}
use Rattle.icu_cldr_root.specs.declared.compressible_leads.CompressibleLeads.{CompressibleLeads}

-- their bits
abbrev pub lead_words : CompressibleLeads → List ℕ
lead_words leads = leads.words
