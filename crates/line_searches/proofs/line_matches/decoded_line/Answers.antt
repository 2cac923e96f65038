-- A text in UTF-8 is that of its characters.
use Rattle.std.proofs.Common.{ℕ, List, ◌∙◌, ap, string_bytes, subst, sym}
use Rattle.std.specs.Prelude.{encode_utf8_all}
use Rattle.std.specs.Str.{IsUtf8}
use Rattle.std.proofs.lemmas.Str.{encodes-chars}
use Rattle.line_searches.proofs.line_matches.decoded_line.Goals as goal

pub returns-clause-bytes : goal.returns-clause-bytes
returns-clause-bytes c =
    let spelled = subst (λ (b : List ℕ). IsUtf8 b) c.as_str-text.ensures.value c.as_str-text.utf8 in
    sym (encodes-chars (string_bytes c.in_ok-copy.copy) spelled) ∙ ap encode_utf8_all c.in_ok-copy.ensures
