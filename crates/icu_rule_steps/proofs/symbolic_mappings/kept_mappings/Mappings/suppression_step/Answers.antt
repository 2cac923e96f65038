use Rattle.std.proofs.Common.{◌≡◌, ◌++◌, ℕ, List, rules, refl, sym, ap, ◌∙◌}
use Rattle.std.proofs.Math.Bool.{or-false}
use mathlib.Core.Path.{fun_ext}
use Rattle.std.specs.Prelude.{map}
use Rattle.std.specs.Option.{is_some}
use Rattle.std.specs.Ordering.{nat_cmp}
use Rattle.std.specs.BTreeMap.{get}
use Rattle.icu_rule_parser.specs.declared.statement.CharacterRange.{CharacterRange}
use Rattle.icu_rule_meaning.specs.Steps.{suppression_step}
use Rattle.icu_rule_meaning.specs.TailoredMappings.{SymbolicMapping, SymbolicMappings, mapping_of_root}
use Rattle.icu_rule_steps.specs.symbolic_mappings.StoredMappings.{suppressed_at}
use Rattle.icu_rule_steps.specs.symbolic_mappings.KeptMappings.{mappings_in, own_or, untouched_mappings}
use Rattle.icu_rule_steps.specs.symbolic_mappings.TouchedCharacters.{touched_in}
use Rattle.icu_rule_steps.proofs.symbolic_mappings.KeptMappingLemmas.{retained_at, suppressed_more}
use Rattle.icu_rule_steps.proofs.symbolic_mappings.TouchedLemmas.{retained_touched}
use Rattle.icu_rule_steps.proofs.symbolic_mappings.kept_mappings.Mappings.suppression_step.Goals as goal

pub returns-clause-mappings : goal.returns-clause-mappings
unfolding mappings_in suppression_step
returns-clause-mappings g c = λ state same.
    let held = c.args.self.now in
    let root = g.R.RootMappings.mappings_of in
    let ranges : List CharacterRange = c.args.ranges.now in
    let more : c.extend_from_slice.new.self.items ≡ held.suppressed.items ++ ranges = c.in_ok-extend_from_slice.ensures.items in
    let each : (q : ℕ) → suppressed_at ranges q (mappings_in root held q) ≡ own_or (get nat_cmp c.retain.new.self q) (suppressed_at c.extend_from_slice.new.self.items q (map mapping_of_root (root held.root.now q))) = λ q.
    let all : List SymbolicMapping = map mapping_of_root (root held.root.now q) in
    sym (retained_at _ _ ranges (λ k v b w h t. search rules) held.touched.entries c.retain.new.self.entries c.retain.ensures.filtered q (untouched_mappings root held q))
    ∙ ap (own_or (get nat_cmp c.retain.new.self q)) (suppressed_more held.suppressed.items ranges q all ∙ ap (λ rs. suppressed_at rs q all) (sym more)) in
    ap (λ (ms : SymbolicMappings). λ (q : ℕ). suppressed_at ranges q (ms q)) same ∙ fun_ext each

pub returns-clause-touched : goal.returns-clause-touched
unfolding touched_in
returns-clause-touched g c = record {
  touched = λ q.
      retained_touched _ _ c.args.ranges.now (λ k v b w h t. search rules) c.args.self.now.touched.entries c.retain.new.self.entries c.retain.ensures.filtered q
      ∙ sym (or-false (is_some (get nat_cmp c.args.self.now.touched q)));
  suppressed = c.in_ok-extend_from_slice.ensures.items;
  over = refl;
}
