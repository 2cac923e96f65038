use Rattle.std.proofs.Common.{rules, ◌++◌, sym, ap, ◌∙◌}
use Rattle.std.specs.Prelude.{chars, string_bytes}
use Rattle.std.proofs.lemmas.List.{append-nil}
use Rattle.std.proofs.lemmas.Str.{chars-nil, IsUtf8-string_bytes}
use Rattle.icu_search_places.proofs.indexed_text.CopyLemmas.{one_char_more}
use Rattle.icu_search_places.proofs.indexed_text.UnitOffsetLemmas.{taken}
use Rattle.icu_search_places.proofs.indexed_text.indexed_text.utf8_copy.Goals as goal

pub characters-init : goal.characters-init
characters-init g c = ap (λ l. l ++ g.T.EncodedText.text c.args.text) (ap chars c.new-copy.ensures.bytes ∙ chars-nil)

pub characters-preserved : goal.characters-preserved
characters-preserved g c =
    taken (chars (string_bytes c.characters.copy)) (chars (string_bytes c.push.new.self)) (g.T.EncodedText.text c.in-Some.first.1) _ _ c.in-Some.first.0
    (one_char_more (string_bytes c.characters.copy) (string_bytes c.push.new.self) c.in-Some.first.0 (IsUtf8-string_bytes c.characters.copy) (search rules) c.in_ok-push.ensures.bytes) c.in-Some.ensures c.characters.invariant

pub returns : goal.returns
returns g c =
    let so_far = chars (string_bytes c.characters.copy) in
    sym (append-nil so_far) ∙ ap (λ l. so_far ++ l) (sym c.in_default.ensures) ∙ c.characters.invariant
