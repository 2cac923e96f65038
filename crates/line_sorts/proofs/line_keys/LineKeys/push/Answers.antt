-- The last key ends where the buffer does.
use Rattle.std.proofs.Common.{◌≡◌, [], ◌∷◌, ◌++◌, length, ap, ◌∙◌, arith, length-append}
use Rattle.line_sorts.proofs.KeyBufferLemmas.{ascends_more, keys_more, pushed, succeeds}
use Rattle.line_sorts.proofs.line_keys.LineKeys.push.Goals as goal

pub invariant_of-self-2 : goal.invariant_of-self-2
invariant_of-self-2 c =
    let old = c.args.self.now in
    let key = c.args.key.now in
    let bytes : c.extend_from_slice.new.self.items ≡ old.bytes.items ++ key = c.in_ok-extend_from_slice.ensures.items in
    let end : c.len-end.result ≡ length (old.bytes.items ++ key) = c.len-end.ensures ∙ c.extend_from_slice.new.self.ok.0 ∙ ap length bytes in
    let ok = succeeds c.push.result _ _ c.push.ensures.full c.in_ok-reserve.ensures.ok in
    let ends = pushed c.push.result c.reserve.new.self.items c.push.new.self.items c.len-end.result _ ok end c.push.ensures.items
    ∙ ap (λ es. es ++ length (old.bytes.items ++ key) ∷ []) c.reserve.ensures.items in
    record {
      sound = rw (ends, bytes) (ascends_more 0 old.ends.items (length old.bytes.items) (length (old.bytes.items ++ key)) old.sound (omega (arith, length-append old.bytes.items key)));
    }

pub returns-clause-ok : goal.returns-clause-ok
returns-clause-ok c =
    let old = c.args.self.now in
    let key = c.args.key.now in
    let bytes : c.extend_from_slice.new.self.items ≡ old.bytes.items ++ key = c.in_ok-extend_from_slice.ensures.items in
    let end : c.len-end.result ≡ length (old.bytes.items ++ key) = c.len-end.ensures ∙ c.extend_from_slice.new.self.ok.0 ∙ ap length bytes in
    let ends = c.in_ok-push.ensures.items ∙ ap (λ n. c.reserve.new.self.items ++ n ∷ []) end
    ∙ ap (λ es. es ++ length (old.bytes.items ++ key) ∷ []) c.reserve.ensures.items in
    rw (ends, bytes) (keys_more 0 old.ends.items old.bytes.items key old.sound)
