use Rattle.std.proofs.Common.{rules}
use Rattle.icu_table_entries.specs.Entries.{kind_of}
use Rattle.icu_table_entries.specs.EntryConditions.{may_follow_prefix}
use Rattle.icu_table_data.proofs.ContextLemmas.{all_entries}
use Rattle.icu_table_data.proofs.context.FoundContext.may_follow_prefix.Goals as goal

pub returns-then-may_follow_prefix : goal.returns-then-may_follow_prefix
returns-then-may_follow_prefix c =
    rw (all_entries (λ f. may_follow_prefix (kind_of f)) c.args.self.chars.now c.args.self.mappings.now) (search rules)
