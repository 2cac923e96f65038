use Rattle.std.proofs.Common.{rules, ◌≡◌, ◌++◌, ◌∷◌, [], take, get_or, sym, ap, ◌∙◌}
use Rattle.std.specs.Prelude.{chars, string_bytes}
use Rattle.std.proofs.lemmas.List.{take_more, get_or_read}
use Rattle.std.proofs.lemmas.Str.{chars-nil, IsUtf8-string_bytes}
use Rattle.icu_search_places.proofs.indexed_text.CopyLemmas.{one_char_more}
use Rattle.icu_search_places.proofs.indexed_text.indexed_text.written.Goals as goal

pub loop-c-init : goal.loop-c-init
loop-c-init c = ap chars c.in_ok-text.ensures.bytes ∙ chars-nil

pub loop-c-preserved : goal.loop-c-preserved
loop-c-preserved c =
    let text = c.args.characters.now in
    let i = c.loop-c.c-index in
    let here : c.c-item.result ≡ get_or text i 0 = get_or_read text i c.c-item.result c.loop-c-test.true c.c-item.is 0 in
    one_char_more (string_bytes c.loop-c.text) (string_bytes c.push.new.self) c.c-item.result (IsUtf8-string_bytes c.loop-c.text) (search rules) c.in_ok-push.ensures.bytes
    ∙ ap (λ l. l ++ c.c-item.result ∷ []) c.loop-c.invariant ∙ ap (λ x. take i text ++ x ∷ []) here ∙ sym (take_more text i 0 c.loop-c-test.true)
