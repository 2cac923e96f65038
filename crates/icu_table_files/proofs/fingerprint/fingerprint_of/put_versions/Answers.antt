use Rattle.icu_table_files.proofs.fingerprint.WordHandings.{hands_more}
use Rattle.icu_table_files.proofs.fingerprint.fingerprint_of.put_versions.Goals as goal

pub returns : goal.returns
returns c = hands_more _ _ _ _ _ c.put.ensures (hands_more _ _ _ _ _ c.put-2.ensures (hands_more _ _ _ _ _ c.put-3.ensures c.put-4.ensures))
