use Rattle.std.proofs.Common.{◌≡◌, ◌<◌, ◌++◌, [], ◌∷◌, ℕ, List, All, rules, subst, sym}
use Rattle.std.proofs.lemmas.List.Elements.{All-push}
use Rattle.icu_element_reading.specs.Reading.{element_tables}
use Rattle.icu_element_reading.proofs.TakenDigitLemmas.{ComesTo, ComesTo-itself, ComesTo-taken, IsRunTaken-end, fewer}
use Rattle.icu_element_reading.proofs.reader.taken_digits.take_run.Goals as goal

pub loop-digit-init : goal.loop-digit-init
loop-digit-init c = record {
  decimal = c.requires;
  comes = ComesTo-itself (element_tables c.args.tables) c.args.at.now c.args.digits.now.items;
}

pub loop-digit-preserved : goal.loop-digit-preserved
loop-digit-preserved c =
    let pushed : c.push.new.self.items ≡ c.loop-digit.digits.items ++ c.in-Some.digit ∷ [] = search rules in
    record {
      decimal = subst (All (λ (d : ℕ). d < 10)) (sym pushed) (All-push (λ (d : ℕ). d < 10) c.loop-digit.digits.items c.in-Some.digit c.loop-digit.invariant.decimal c.in-Some.ensures.decimal);
      comes =
          subst (λ (ds : List ℕ). ComesTo (element_tables c.args.tables) c.take_digit.new.at ds c.args.at.now c.args.digits.now.items) (sym pushed)
          (ComesTo-taken _ _ _ _ _ _ c.loop-digit.invariant.comes _ c.in-Some.ensures);
    }

pub loop-digit-smaller : goal.loop-digit-smaller
loop-digit-smaller c = fewer _ _ _ _ c.in-Some.ensures

pub returns-clause-run : goal.returns-clause-run
returns-clause-run c = IsRunTaken-end _ _ _ _ _ _ c.loop-digit.invariant.comes c.in_default.ensures
