use Rattle.std.proofs.Common.{subst, Contains}
use Rattle.icu_table_check.proofs.check.implicit_overlaps.first_clash_in.Goals as goal

pub first_clash_among-requires : goal.first_clash_among-requires
first_clash_among-requires c = λ w has. c.requires w ((c.in_ok-others.ensures.members w).0 (subst (λ ws. Contains ws w) c.deref.ensures.value has)).0
