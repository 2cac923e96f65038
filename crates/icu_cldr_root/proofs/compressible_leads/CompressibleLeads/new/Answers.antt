use Rattle.icu_cldr_root.proofs.SaidSpecialLemmas.{only_implicit}
use Rattle.icu_cldr_root.proofs.compressible_leads.CompressibleLeads.new.Goals as goal

pub returns : goal.returns
returns c = only_implicit
