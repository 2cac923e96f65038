use Rattle.std.proofs.Common.{rules, ◌≡◌, [], ◌∷◌, sym, ◌∙◌}
use Rattle.icu_cldr_root.proofs.SaidElementLemmas.{write_more, write_end, nothing_at}
use Rattle.icu_cldr_root.proofs.fractional_element.FractionalElement.parse_all.Goals as goal

pub loop-rest-init : goal.loop-rest-init
loop-rest-init c =
    let added : c.push.new.self.items ≡ c.in_ok-first.first ∷ [] = search rules in
    record {
      text = search rules;
      some = search rules;
      writes = write_more c.args.text.now c.args.text.now c.in_ok-first.rest.now [] c.push.new.self.items c.in_ok-first.first added
          c.in_ok-first.ensures.begins (λ more h. h);
    }

pub loop-rest-preserved : goal.loop-rest-preserved
loop-rest-preserved c = record {
  text = search rules;
  some = search rules;
  writes = write_more c.args.text.now c.loop-rest.rest.now c.in_ok-next.behind.now c.loop-rest.elements.items c.push-in-loop-rest.new.self.items
      c.in_ok-next.next c.in_ok-push-2.ensures.items c.in_ok-next.ensures.begins c.loop-rest.invariant.writes;
}

pub returns-clause-writes : goal.returns-clause-writes
returns-clause-writes c =
    write_end c.args.text.now c.loop-rest.rest.now c.loop-rest.elements.items
    (sym c.trim_start.ensures.trim ∙ nothing_at c.trim_start.result.now c.loop-rest-test.ensures) c.loop-rest.invariant.writes
