-- The key ends where the buffer does.
use Rattle.std.proofs.Common.{◌≡◌, [], ◌∷◌, ◌++◌, length, ap, ◌∙◌, arith, length-append}
use Rattle.line_sorts.proofs.KeyBufferLemmas.{ascends_more, keys_more}
use Rattle.icu_collator.specs.Collators.{collation_borrowed}
use Rattle.collate_commands.specs.LineKeys.{key_of_line}
use Rattle.collate_commands.proofs.sort_keys.push_line_key.Goals as goal

pub returns-clause-ends : goal.returns-clause-ends
returns-clause-ends c =
    let old = c.args.bytes.now.items in
    let key = key_of_line (collation_borrowed c.args.collator.now) c.args.line.now in
    let bytes : c.write_line_key.new.key.items ≡ old ++ key = c.in_ok-write_line_key.ensures in
    let end : c.len-end.result ≡ length (old ++ key) = c.len-end.ensures ∙ c.write_line_key.new.key.ok.0 ∙ ap length bytes in
    let ends = c.in_ok-push.ensures.items ∙ ap (λ n. c.args.ends.now.items ++ n ∷ []) end in
    rw (ends, bytes) (ascends_more 0 c.args.ends.now.items (length old) (length (old ++ key)) c.requires (omega (arith, length-append old key)))

pub returns-clause-keys : goal.returns-clause-keys
returns-clause-keys c =
    let old = c.args.bytes.now.items in
    let key = key_of_line (collation_borrowed c.args.collator.now) c.args.line.now in
    let bytes : c.write_line_key.new.key.items ≡ old ++ key = c.in_ok-write_line_key.ensures in
    let end : c.len-end.result ≡ length (old ++ key) = c.len-end.ensures ∙ c.write_line_key.new.key.ok.0 ∙ ap length bytes in
    let ends = c.in_ok-push.ensures.items ∙ ap (λ n. c.args.ends.now.items ++ n ∷ []) end in
    rw (ends, bytes) (keys_more 0 c.args.ends.now.items old key c.requires)
