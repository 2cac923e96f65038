-- The first record has none before it.
use Rattle.std.proofs.Common.{refl}
use Rattle.icu_collator.specs.Collators.{collation_borrowed}
use Rattle.line_commands.proofs.csv_sorts.DisorderLemmas.{first_by_keys}
use Rattle.line_commands.proofs.csv_sorts.column_disorder.first_wrong.Goals as goal

pub loop-bytes-init : goal.loop-bytes-init
loop-bytes-init c =
    record {
      counted = refl;
      left =
          first_by_keys (collation_borrowed c.args.collator.now) c.args.request c.args.records.now _ c.in_ok-before_key.before_key.items
          c.in-len1-up.len_at_least c.in_ok-before_key.ensures.key;
    }
