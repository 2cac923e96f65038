use Rattle.std.proofs.Common.{length, sym, subst}
use Rattle.icu_rule_parser.specs.declared.unplaced_error.UnplacedError.{UnplacedError}
use Rattle.icu_rule_parser.specs.TakenFaults.{IsOtherFault, IsFaultHere}
use Rattle.icu_rule_parser.proofs.FaultLemmas.{visible_from, refused_left, other_left, err_map}
use Rattle.icu_rule_parser.proofs.parsing.read_statement.Goals as goal

pub returns-in-Some-refusal-clause-fault : goal.returns-in-Some-refusal-clause-fault
returns-in-Some-refusal-clause-fault c =
    subst (λ (e : UnplacedError). IsFaultHere e c.args.chain (length c.args.before.now) c.args.text.now) (sym c.at.ensures)
    (refused_left c.in-Some-refusal.kind c.args.chain (length c.args.before.now) c.args.text.now c.in-Some.after.now
    c.in-Some.sign c.in-Some-refusal.ensures.sort c.in-Some.ensures.taken c.in-Some.ensures.longest
    c.in-Some-refusal.ensures.refused (visible_from c.args.text.now c.requires.visible c.requires.some))

pub returns-in-None-2-clause-fault : goal.returns-in-None-2-clause-fault
returns-in-None-2-clause-fault c =
    err_map c.read_unrelated.result (λ (e : UnplacedError). IsOtherFault e c.args.text.now)
    (λ (e : UnplacedError). IsFaultHere e c.args.chain (length c.args.before.now) c.args.text.now)
    (λ (e : UnplacedError) (p : IsOtherFault e c.args.text.now).
    other_left e c.args.chain (length c.args.before.now) c.args.text.now
    (visible_from c.args.text.now c.requires.visible c.requires.some) c.in-None.ensures.none p) c.read_unrelated.ensures.fault
