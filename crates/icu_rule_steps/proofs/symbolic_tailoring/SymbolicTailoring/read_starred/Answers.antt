-- Each range is related in turn.
use Rattle.std.proofs.Common.{◌+◌, ◌||◌, ◌++◌, ℕ, List, drop, get_or, map, ap}
use Rattle.std.specs.List.{flat_map}
use Rattle.icu_options.specs.declared.settings.Strength.{Strength}
use Rattle.icu_rule_parser.specs.declared.statement.CharacterRange.{CharacterRange}
use Rattle.icu_rule_meaning.specs.Rules.{Rule, characters_of, lone_relation, starred_rules}
use Rattle.icu_rule_meaning.specs.TailoredRoots.{Root}
use Rattle.icu_rule_meaning.specs.Steps.{TailoringState}
use Rattle.icu_rule_steps.specs.RuleFaults.{first_fault}
use Rattle.icu_rule_steps.specs.ReadRules.{IsReason}
use Rattle.icu_rule_steps.specs.SymbolicTailorings.{kept_mappings, root_in, state_in}
use Rattle.icu_rule_steps.proofs.RuleLoopLemmas.{read_none, read_more, more_refused, handed_on, range_next}
use Rattle.icu_rule_steps.specs.symbolic_mappings.TouchedCharacters.{root_of, is_related, suppressed_by, suppressed_in, touched_in}
use Rattle.icu_rule_steps.proofs.TouchedRuleLemmas.{touched_more, touched_none}
use Rattle.icu_rule_steps.proofs.symbolic_tailoring.SymbolicTailoring.read_starred.Goals as goal

abbrev no_range : CharacterRange
no_range = record { first = 0; last = 0 }

abbrev related : Strength → List CharacterRange → ℕ → List Rule
related strength ranges i = map (lone_relation strength) (flat_map characters_of (drop i ranges))

pub loop-range-init : goal.loop-range-init
loop-range-init g c =
    let mappings_of = g.R.RootMappings.mappings_of in
    let root : Root = root_in g.R.RootWeights.root mappings_of c.args.root.now in
    let strength = c.args.said.now.strength in
    let same = ap (λ rs. map (lone_relation strength) (flat_map characters_of rs)) c.deref-range-items.ensures.value in
    record {
      read = read_none root (state_in mappings_of c.args.self.now) (starred_rules c.args.said.now) (related strength c.deref-range-items.result.now 0) same;
      touched = touched_none (kept_mappings c.args.self.now) (starred_rules c.args.said.now) (related strength c.deref-range-items.result.now 0) same;
    }

pub returns-in_err-relate_range-clause-err : goal.returns-in_err-relate_range-clause-err
returns-in_err-relate_range-clause-err g c =
    let mappings_of = g.R.RootMappings.mappings_of in
    let root : Root = root_in g.R.RootWeights.root mappings_of c.args.root.now in
    let old : TailoringState = state_in mappings_of c.args.self.now in
    let rules : List Rule = starred_rules c.args.said.now in
    let strength = c.args.said.now.strength in
    let ranges : List CharacterRange = c.deref-range-items.result.now in
    let i : ℕ = c.loop-range.range-index in
    let error = c.in_err-relate_range.field-0.0 in
    handed_on c.from_residual.result error (IsReason (first_fault root old rules)) c.from_residual.ensures.1
    (more_refused root old (state_in mappings_of c.loop-range.self) rules (related strength ranges i)
    (map (lone_relation strength) (characters_of (get_or ranges i no_range))) (related strength ranges (i + 1)) error
    (range_next strength ranges i no_range c.loop-range-test.true) c.loop-range.invariant.read c.in_err-relate_range.ensures.err)

pub loop-range-preserved : goal.loop-range-preserved
loop-range-preserved g c =
    let mappings_of = g.R.RootMappings.mappings_of in
    let root : Root = root_in g.R.RootWeights.root mappings_of c.args.root.now in
    let old : TailoringState = state_in mappings_of c.args.self.now in
    let rules : List Rule = starred_rules c.args.said.now in
    let strength = c.args.said.now.strength in
    let ranges : List CharacterRange = c.deref-range-items.result.now in
    let i : ℕ = c.loop-range.range-index in
    let first : List Rule = map (lone_relation strength) (characters_of (get_or ranges i no_range)) in
    let next = range_next strength ranges i no_range c.loop-range-test.true in
    record {
      read = read_more root old (state_in mappings_of c.loop-range.self) (state_in mappings_of c.relate_range.new.self) rules (related strength ranges i)
          first (related strength ranges (i + 1)) next c.loop-range.invariant.read c.in_ok-relate_range.ensures.ok;
      touched = touched_more (λ x. touched_in (kept_mappings c.args.self.now) x || is_related rules x)
          (suppressed_in (kept_mappings c.args.self.now) ++ suppressed_by rules) (root_of (kept_mappings c.args.self.now)) (kept_mappings c.loop-range.self) (kept_mappings c.relate_range.new.self)
          (related strength ranges i) first (related strength ranges (i + 1)) next c.loop-range.invariant.touched c.in_ok-relate_range.ensures.touched;
    }
