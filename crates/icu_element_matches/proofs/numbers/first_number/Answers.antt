use Rattle.std.proofs.Common.{sym, arith, length, drop, ◌-◌, ◌≤◌, length-drop}
use Rattle.std.proofs.lemmas.List.{take_all, drop_all, length-take-le}
use Rattle.icu_order_levels.specs.Numbers.{longest_number}
use Rattle.icu_element_matches.proofs.numbers.first_number.Goals as goal

pub slice_bounds-result-end-else-digits-le-LONGEST_NUMBER :
    goal.slice_bounds-result-end-else-digits-le-LONGEST_NUMBER
slice_bounds-result-end-else-digits-le-LONGEST_NUMBER c = sym (length-take-le longest_number c.args.digits.now (omega arith))

pub returns-then-digits-le-LONGEST_NUMBER-clause-number :
    goal.returns-then-digits-le-LONGEST_NUMBER-clause-number
returns-then-digits-le-LONGEST_NUMBER-clause-number c = sym (take_all longest_number c.args.digits.now (omega arith))

pub returns-then-digits-le-LONGEST_NUMBER-clause-rest :
    goal.returns-then-digits-le-LONGEST_NUMBER-clause-rest
returns-then-digits-le-LONGEST_NUMBER-clause-rest c = sym (drop_all longest_number c.args.digits.now (omega arith))

pub returns-else-digits-le-LONGEST_NUMBER-clause-rest :
    goal.returns-else-digits-le-LONGEST_NUMBER-clause-rest
returns-else-digits-le-LONGEST_NUMBER-clause-rest c =
    let ds = c.args.digits.now in
    let all : length (drop longest_number ds) ≤ length ds - longest_number = omega (arith, length-drop longest_number ds) in
    take_all (length ds - longest_number) (drop longest_number ds) all
