use Rattle.std.proofs.Common.{◌≡◌, [], ◌∷◌, subst, rules}
use Rattle.icu_element_matches.specs.Texts.{unread}
use Rattle.icu_rule_meaning.specs.TailoredMappings.{SymbolicMappings, symbolic_elements}
use Rattle.icu_rule_steps.specs.symbolic_mappings.KeptMappings.{mappings_in}
use Rattle.icu_rule_steps.specs.symbolic_mappings.inner.PassedMarks.{IsMarkRun}
use Rattle.icu_rule_steps.proofs.symbolic_mappings.MarkRunLemmas.{run_after_one}
use Rattle.icu_rule_steps.proofs.symbolic_mappings.AlongLemmas.{along_turn, along_end, read_shorter}
use Rattle.icu_rule_steps.proofs.symbolic_mappings.kept_mappings.Mappings.symbolic_elements.Goals as goal

pub reading-smaller : goal.reading-smaller
reading-smaller g c =
    let mappings : SymbolicMappings = mappings_in g.R.RootMappings.mappings_of c.args.self.now in
    let first : unread c.reading.left ≡ c.in-Some.c ∷ unread c.take_first.new.self = search rules in
    read_shorter mappings c.in-Some.c c.reading.before.items c.read.new.before.items (unread c.reading.left) (unread c.take_first.new.self) (unread c.read.new.text)
    c.reading.elements.items c.read.new.elements.items first c.in_ok-read.ensures.read

pub reading-preserved : goal.reading-preserved
reading-preserved g c =
    let mappings : SymbolicMappings = mappings_in g.R.RootMappings.mappings_of c.args.self.now in
    let first : unread c.reading.left ≡ c.in-Some.c ∷ unread c.take_first.new.self = search rules in
    record {
      run = c.in_ok-read.ensures.run;
      whole =
          along_turn mappings c.in-Some.c c.reading.before.items c.read.new.before.items (unread c.reading.left) (unread c.take_first.new.self) (unread c.read.new.text)
          c.reading.elements.items c.read.new.elements.items (symbolic_elements mappings c.args.text.items) first c.in_ok-read.ensures.read c.reading.invariant.whole;
    }

pub returns : goal.returns
returns g c =
    let mappings : SymbolicMappings = mappings_in g.R.RootMappings.mappings_of c.args.self.now in
    let nothing : unread c.reading.left ≡ [] = c.take_first.ensures.ends.0 c.in_default.is in
    along_end mappings c.reading.before.items (unread c.reading.left) c.reading.elements.items (symbolic_elements mappings c.args.text.items) nothing c.reading.invariant.whole

pub read-requires : goal.read-requires
read-requires g c =
    let first : unread c.reading.left ≡ c.in-Some.c ∷ unread c.take_first.new.self = search rules in
    record { run = run_after_one c.reading.run c.in-Some.c (unread c.take_first.new.self) (subst (IsMarkRun c.reading.run) first c.reading.invariant.run) }
