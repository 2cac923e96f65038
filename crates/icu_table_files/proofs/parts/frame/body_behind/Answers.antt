use Rattle.std.proofs.Common.{refl, ap, inr, length, arith}
use Rattle.icu_table_files.proofs.parts.frame.body_behind.Goals as goal

pub returns-then-rest-lt-CHECKSUM_LEN : goal.returns-then-rest-lt-CHECKSUM_LEN
returns-then-rest-lt-CHECKSUM_LEN c =
    (refl, inr (record { len = c.args.len; rest = c.args.rest.now; is = c.requires; small = c.ranges.len.fits; more = omega arith }))

pub returns-then-body-len : goal.returns-then-body-len
returns-then-body-len c =
    (refl, inr (record { len = c.args.len; rest = c.args.rest.now; is = c.requires; small = c.ranges.len.fits; more = omega arith }))

pub returns-then-len-body : goal.returns-then-len-body
returns-then-len-body c = record {
  len = c.args.len;
  rest = c.args.rest.now;
  is = c.requires;
  small = c.ranges.len.fits;
  less = omega arith;
  ends = omega (arith, ap length c.requires);
}
