-- Each character of the range is related in turn.
use Rattle.std.proofs.Common.{◌+◌, ◌||◌, ◌++◌, ℕ, Bool, List, map, ap, refl}
use Rattle.icu_rule_meaning.specs.Rules.{Rule, characters_of, lone_relation}
use Rattle.icu_rule_meaning.specs.TailoredRoots.{Root}
use Rattle.icu_rule_meaning.specs.Steps.{TailoringState}
use Rattle.icu_rule_steps.specs.RuleFaults.{first_fault}
use Rattle.icu_rule_steps.specs.ReadRules.{IsReason}
use Rattle.icu_rule_steps.specs.SymbolicTailorings.{kept_mappings, root_in, state_in}
use Rattle.icu_rule_steps.proofs.RuleLoopLemmas.{read_one, read_same, one_refused, handed_on, scalar_next, scalar_none, lone_relations}
use Rattle.icu_rule_parser.specs.declared.statement.CharacterRange.{CharacterRange}
use Rattle.icu_rule_steps.specs.symbolic_mappings.TouchedCharacters.{root_of, is_related, suppressed_by, suppressed_in, touched_in}
use Rattle.icu_rule_steps.proofs.TouchedRuleLemmas.{touched_one, touched_same}
use Rattle.icu_rule_steps.proofs.symbolic_tailoring.SymbolicTailoring.relate_range.Goals.{in-Some+in_ok-relate, in_default}
use Rattle.icu_rule_steps.proofs.symbolic_tailoring.SymbolicTailoring.relate_range.Goals as goal

pub returns-in_err-relate-clause-err : goal.returns-in_err-relate-clause-err
returns-in_err-relate-clause-err g c =
    let mappings_of = g.R.RootMappings.mappings_of in
    let root : Root = root_in g.R.RootWeights.root mappings_of c.args.root.now in
    let old : TailoringState = state_in mappings_of c.args.self.now in
    let rules : List Rule = map (lone_relation c.args.strength) (characters_of c.args.range) in
    let code : ℕ = c.loop-code.code in
    let end : ℕ = c.from-code-end.result + 1 in
    let error = c.in_err-relate.field-0.0 in
    handed_on c.from_residual.result error (IsReason (first_fault root old rules)) c.from_residual.ensures.1
    (one_refused root old (state_in mappings_of c.loop-code.self) rules (lone_relations c.args.strength code end)
    (lone_relations c.args.strength (code + 1) end) (lone_relation c.args.strength c.in-Some.c) error
    (scalar_next c.args.strength code end c.in-Some.c c.loop-code-test.true c.in-Some.ensures.1 c.in-Some.ensures.0)
    c.loop-code.invariant.read c.in_err-relate.ensures.err)

pub loop-code-preserved : goal.loop-code-preserved
loop-code-preserved g c =
    let mappings_of = g.R.RootMappings.mappings_of in
    let root : Root = root_in g.R.RootWeights.root mappings_of c.args.root.now in
    let old : TailoringState = state_in mappings_of c.args.self.now in
    let rules : List Rule = map (lone_relation c.args.strength) (characters_of c.args.range) in
    let code : ℕ = c.loop-code.code in
    let end : ℕ = c.from-code-end.result + 1 in
    let now : TailoringState = state_in mappings_of c.loop-code.self in
    let next : TailoringState = state_in mappings_of c.match-scalar_of.self in
    let rest : List Rule = lone_relations c.args.strength code end in
    let rest' : List Rule = lone_relations c.args.strength (code + 1) end in
    let whole : ℕ → Bool = λ x. touched_in (kept_mappings c.args.self.now) x || is_related rules x in
    let all : List CharacterRange = suppressed_in (kept_mappings c.args.self.now) ++ suppressed_by rules in
    record {
      read = elim c.match-scalar_of.branch [
        | in-Some+in_ok-relate w ↦
            let read = read_one root old now (state_in mappings_of w.relate.new.self) rules rest rest' (lone_relation c.args.strength w.in-Some.c)
            (scalar_next c.args.strength code end w.in-Some.c c.loop-code-test.true w.in-Some.ensures.1 w.in-Some.ensures.0)
            c.loop-code.invariant.read w.in_ok-relate.ensures.ok in
            read_same root old (state_in mappings_of w.relate.new.self) next rules rest' rest' refl (ap (state_in mappings_of) w.self-is) read
        | in_default w ↦
            read_same root old now next rules rest rest'
            (scalar_none c.args.strength code end c.loop-code-test.true w.in_default.ensures) (ap (state_in mappings_of) w.self-is) c.loop-code.invariant.read
      ];
      touched = elim c.match-scalar_of.branch [
        | in-Some+in_ok-relate w ↦
            let touched = touched_one whole all (root_of (kept_mappings c.args.self.now)) (kept_mappings c.loop-code.self) (kept_mappings w.relate.new.self) rest rest' (lone_relation c.args.strength w.in-Some.c)
            (scalar_next c.args.strength code end w.in-Some.c c.loop-code-test.true w.in-Some.ensures.1 w.in-Some.ensures.0)
            c.loop-code.invariant.touched w.in_ok-relate.ensures.touched in
            touched_same whole all (root_of (kept_mappings c.args.self.now)) (kept_mappings w.relate.new.self) (kept_mappings c.match-scalar_of.self) rest' rest' refl (ap kept_mappings w.self-is) touched
        | in_default w ↦
            touched_same whole all (root_of (kept_mappings c.args.self.now)) (kept_mappings c.loop-code.self) (kept_mappings c.match-scalar_of.self) rest rest'
            (scalar_none c.args.strength code end c.loop-code-test.true w.in_default.ensures) (ap kept_mappings w.self-is) c.loop-code.invariant.touched
      ];
    }
