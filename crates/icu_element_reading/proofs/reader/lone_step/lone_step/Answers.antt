use Rattle.std.proofs.Common.{rules, refl}
use Rattle.icu_element_reading.specs.Reading.{reading_of}
use Rattle.icu_element_reading.proofs.LoneStepLemmas.{diacritic_steps, single_steps}
use Rattle.icu_element_reading.proofs.reader.lone_step.lone_step.Goals as goal

pub returns-in-Some-clause-step : goal.returns-in-Some-clause-step
returns-in-Some-clause-step g c =
    diacritic_steps g.I.Iterator.next_gives (reading_of c.args.reading) c.args.c c.args.source.now c.args.at.now c.sounding_diacritic.new.at c.in-Some.secondary c.sounding_diacritic.result
    (search rules) c.sounding_diacritic.ensures.text c.sounding_diacritic.ensures.step c.sounding_diacritic.ensures.sounds c.sounding_diacritic.ensures.before

pub returns-in-Some-single_element-clause-step : goal.returns-in-Some-single_element-clause-step
returns-in-Some-single_element-clause-step g c =
    single_steps g.I.Iterator.next_gives (reading_of c.args.reading) c.args.c c.args.source.now c.args.at.now _ c.in-Some-single_element.element
    (search rules) c.in-Some-single_element.ensures refl c.push.ensures
