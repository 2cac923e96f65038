-- The key stands from where the one before it ends up to where it ends.
use Rattle.std.proofs.Common.{◌-◌, ◌∙◌, ap, get_or, if◌then◌else◌, nat_eq, arith}
use Rattle.line_sorts.proofs.KeyBufferLemmas.{key_there}
use Rattle.line_sorts.specs.KeyParts.{key_part}
use Rattle.line_sorts.proofs.line_keys.LineKeys.key.Goals as goal

pub returns-then-index-len : goal.returns-then-index-len
returns-then-index-len c =
    let ends = c.args.self.now.ends.items in
    let bytes = c.args.self.now.bytes.items in
    let i = c.args.index in
    c.key_part.ensures
    ∙ (ap (λ b. key_part b c.start.result c.end.result) c.as_slice.ensures.value
    ∙ (ap (λ s. key_part bytes s c.end.result) c.start.ensures
    ∙ (ap (λ e. key_part bytes (if nat_eq i 0 then 0 else get_or ends (i - 1) 0) e) c.end.ensures ∙ key_there i ends bytes (omega arith))))
