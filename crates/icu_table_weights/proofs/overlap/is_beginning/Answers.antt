use Rattle.std.proofs.Common.{arith}
use Rattle.std.proofs.lemmas.Nat.{and_mask}
use Rattle.icu_table_weights.proofs.BeginningLemmas.{four_bytes_begin, three_bytes_begin, two_bytes_begin, one_byte_begins}
use Rattle.icu_table_weights.proofs.overlap.is_beginning.Goals as goal

pub returns-then-v-ne0 : goal.returns-then-v-ne0
returns-then-v-ne0 c = four_bytes_begin c.args.v c.args.w (omega arith) (omega arith) (omega (arith, and_mask c.args.v 8))

pub returns-then-v-ne0-2 : goal.returns-then-v-ne0-2
returns-then-v-ne0-2 c =
    three_bytes_begin c.args.v c.args.w (omega arith) (omega arith) (omega (arith, and_mask c.args.v 8))
    (omega (arith, and_mask c.args.v 16))

pub returns-then-v-ne0-3 : goal.returns-then-v-ne0-3
returns-then-v-ne0-3 c =
    two_bytes_begin c.args.v c.args.w (omega arith) (omega arith) (omega (arith, and_mask c.args.v 16))
    (omega (arith, and_mask c.args.v 24))

pub returns-else-v-eq0 : goal.returns-else-v-eq0
returns-else-v-eq0 c =
    one_byte_begins c.args.v c.args.w (omega arith) (omega arith) (omega (arith, and_mask c.args.v 24))
    (omega arith)
