use Rattle.std.proofs.Common.{ℕ, ◌<◌, get_or, subst, arith, rules}
use Rattle.icu_cldr_files.proofs.xml.MarkCutLemmas.{boundary_behind}
use Rattle.icu_cldr_files.proofs.xml.spans.run.Goals as goal

pub split_at-requires : goal.split_at-requires
split_at-requires c =
    let value = c.as_bytes.ensures.value in
    boundary_behind c.args.text.now c.run_len-count.result c.utf8.text (search rules)
    (λ k below. subst (λ t. get_or t k 0 < 128) value (c.run_len-count.ensures.ascii k below))
