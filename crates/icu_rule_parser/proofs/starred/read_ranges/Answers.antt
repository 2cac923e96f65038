use Rattle.std.proofs.Common.{ℕ, List, [], ◌∷◌, ◌++◌, ◌≡◌, drop, map, ap, sym, ◌∙◌, subst, arith}
use Rattle.icu_rule_parser.specs.declared.statement.CharacterRange.{CharacterRange}
use Rattle.icu_rule_parser.specs.Statements.{single}
use Rattle.icu_rule_parser.proofs.StarredLemmas.{Naming, naming_first, naming_step, naming_done, inert_push}
use Rattle.icu_rule_parser.specs.declared.unplaced_error.UnplacedError.{UnplacedError}
use Rattle.icu_rule_parser.specs.declared.unplaced_error.UnplacedError.TheVariants.{Refused}
use Rattle.icu_rule_parser.specs.declared.rules_error.RulesErrorKind.TheVariants as kinds
use Rattle.std.proofs.Common.{inl, inr, refl, length, rules}
use Rattle.icu_rule_parser.specs.TakenFaults.{IsSigned}
use Rattle.icu_rule_parser.proofs.FaultLemmas.{handed_on}
use Rattle.icu_rule_parser.proofs.FaultPlaceLemmas.{first_part, named_here, named_part}
use Rattle.icu_rule_parser.proofs.starred.read_ranges.Goals as goal

pub loop-after-init : goal.loop-after-init
loop-after-init c = record {
  naming = rw (c.new-ranges.ensures.items) (naming_first c.in_ok-string.string.items c.in_ok-string.ensures.taken);
  inert = rw (c.new-ranges.ensures.items) tt;
  from = omega arith;
  some = c.in_ok-string.ensures.some;
  len = omega (arith, c.in_ok-string.ensures.len);
}

pub loop-after-preserved : goal.loop-after-preserved
loop-after-preserved c =
    let front = c.in-Some-split_last.front.now in
    let next = c.in_ok-next.next.items in
    let rest_of_string : drop c.loop-after.from c.loop-after.string.items ≡ front ++ c.in-Some-split_last.last ∷ [] =
    ap (λ (xs : List ℕ). drop c.loop-after.from xs) (sym c.as_slice.ensures.value) ∙ sym c.from_place.ensures
    ∙ c.in-Some-split_last.ensures in
    let split : next ≡ c.first_of.result ∷ drop 1 next =
    sym c.as_slice-in-Some.ensures.value ∙ c.first_of.ensures
    ∙ ap (λ (xs : List ℕ). c.first_of.result ∷ drop 1 xs) c.as_slice-in-Some.ensures.value in record {
      naming = naming_step c.loop-after.ranges.items c.push.new.self.items front (drop 1 next) next
          c.in-Some-split_last.last c.first_of.result split c.in_ok-range.ensures.ascends
          (c.in_ok-push.ensures.items
          ∙ ap (λ (rs : List CharacterRange). rs ++ c.in_ok-range.range ∷ []) c.in_ok-add_singles.ensures.ranges
          ∙ ap (λ (r : CharacterRange). (c.loop-after.ranges.items ++ map single front) ++ r ∷ [])
          c.in_ok-range.ensures.range)
          (subst (λ (s : List ℕ). Naming c.args.text.now c.loop-after.ranges.items s c.loop-after.rest.now)
          rest_of_string c.loop-after.invariant.naming)
          c.in-Some.ensures.taken c.in_ok-next.ensures.taken;
      inert = inert_push c.add_singles.new.ranges.items c.push.new.self.items c.in_ok-range.range
          c.in_ok-push.ensures.items c.in_ok-range.ensures.inert
          (c.in_ok-add_singles.ensures.inert c.loop-after.invariant.inert);
      from = omega arith;
      some = c.in_ok-next.ensures.some;
      len = omega (arith, c.in-Some.ensures.len, c.in_ok-next.ensures.len, c.loop-after.invariant.len);
    }

pub returns-clause-taken : goal.returns-clause-taken
returns-clause-taken c =
    naming_done c.loop-after.ranges.items c.add_singles-2.new.ranges.items
    (drop c.loop-after.from c.loop-after.string.items)
    (c.in_ok-add_singles-2.ensures.ranges
    ∙ ap (λ (xs : List ℕ). c.loop-after.ranges.items ++ map single xs)
    (c.from_place-2.ensures ∙ ap (λ (xs : List ℕ). drop c.loop-after.from xs) c.as_slice-2.ensures.value))
    c.loop-after.invariant.naming (c.in_ok-add_singles-2.ensures.inert c.loop-after.invariant.inert)

pub returns-in_err-string-clause-fault : goal.returns-in_err-string-clause-fault
returns-in_err-string-clause-fault c =
    handed_on _ c.in_err-string.field-0.0 (λ (e : UnplacedError). IsSigned e c.args.sign.now c.args.text.now) (search rules)
    (inl (first_part c.in_err-string.field-0.0 c.args.text.now c.in_err-string.ensures.fault))

pub returns-in_default-split_last-clause-fault : goal.returns-in_default-split_last-clause-fault
returns-in_default-split_last-clause-fault c =
    subst (λ (e : UnplacedError). IsSigned e c.args.sign.now c.args.text.now) (sym c.at.ensures)
    (inl (named_here (Refused (length c.loop-after.rest.now) kinds.RangeWithoutStart) c.loop-after.ranges.items _ c.loop-after.invariant.naming (refl, refl)))

pub returns-in_err-add_singles-clause-fault : goal.returns-in_err-add_singles-clause-fault
returns-in_err-add_singles-clause-fault c =
    handed_on _ c.in_err-add_singles.field-0.0 (λ (e : UnplacedError). IsSigned e c.args.sign.now c.args.text.now) (search rules)
    (inr c.in_err-add_singles.ensures.fault)

pub returns-in_err-next-clause-fault : goal.returns-in_err-next-clause-fault
returns-in_err-next-clause-fault c =
    handed_on _ c.in_err-next.field-0.0 (λ (e : UnplacedError). IsSigned e c.args.sign.now c.args.text.now) (search rules)
    (inl (named_part c.in_err-next.field-0.0 c.loop-after.ranges.items _ c.loop-after.invariant.naming c.in-Some.ensures.taken c.in_err-next.ensures.fault))

pub returns-in_err-range-clause-fault : goal.returns-in_err-range-clause-fault
returns-in_err-range-clause-fault c =
    handed_on _ c.in_err-range.field-0.0 (λ (e : UnplacedError). IsSigned e c.args.sign.now c.args.text.now) (search rules)
    (inl (named_here c.in_err-range.field-0.0 c.loop-after.ranges.items _ c.loop-after.invariant.naming c.in_err-range.ensures.fault))

pub returns-in_err-add_singles-2-clause-fault : goal.returns-in_err-add_singles-2-clause-fault
returns-in_err-add_singles-2-clause-fault c =
    handed_on _ c.in_err-add_singles-2.field-0.0 (λ (e : UnplacedError). IsSigned e c.args.sign.now c.args.text.now) (search rules)
    (inr c.in_err-add_singles-2.ensures.fault)
