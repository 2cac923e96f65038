use Rattle.std.proofs.Common.{ℕ, List, take, slice_index_or, ap, sym, ◌∙◌}
use Rattle.std.specs.Prelude.{◌&&◌, ◌||◌, nat_le}
use Rattle.std.proofs.lemmas.List.{take_more}
use Rattle.ucd_table.specs.Rows.{in_ranges}
use Rattle.icu_rule_parser.specs.declared.statement.CharacterRange.{CharacterRange}
use Rattle.icu_rule_parser.specs.CharacterSets.{have_character}
use Rattle.icu_rule_parser.proofs.CodeRangeLemmas.{in_ranges_none, in_ranges_push}
use Rattle.icu_rule_parser.proofs.code_ranges.code_ranges.Goals as goal

pub loop-pair-init : goal.loop-pair-init
loop-pair-init c x k =
    ap (λ (rs : List CharacterRange). have_character rs x) c.new-ranges.ensures.items ∙ sym (in_ranges_none x)

pub loop-pair-preserved : goal.loop-pair-preserved
loop-pair-preserved c x k =
    let codes : List (ℕ × ℕ) = c.args.codes.now in
    let i : ℕ = c.loop-pair.pair-index in
    let pair : ℕ × ℕ = slice_index_or codes i (0, 0) in
    c.in_ok-push_codes.ensures x k
    ∙ ap (λ b. b || (nat_le pair.0 x && nat_le x pair.1)) (c.loop-pair.invariant x k)
    ∙ sym (in_ranges_push (take i codes) pair x)
    ∙ ap (λ rs. in_ranges rs x) (sym (take_more codes i (0, 0) c.loop-pair-test.true))
