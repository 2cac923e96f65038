use Rattle.std.proofs.Common.{◌∷◌, ℕ, ◌≤◌, ◌<◌, subst, arith, rules}
use Rattle.icu_table_data.specs.StoredData.{found_context}
use Rattle.icu_element_reading.specs.TextElements.{Reading}
use Rattle.icu_element_facts.specs.Followers.{IsComposed}
use Rattle.icu_element_cursor.specs.Cursors.{cursor_reading}
use Rattle.icu_element_cursor.specs.inner.Unjoined.{BeginsNone}
use Rattle.icu_element_cursor.specs.inner.Composed.{AreLowerMarksBefore}
use Rattle.icu_element_cursor.proofs.ComposedLemmas.{below_more, composed_stands_before}
use Rattle.icu_element_cursor.proofs.composed.stands_composed.Goals as goal

pub returns : goal.returns
returns g c = λ yes x head other es stands.
    let reading = cursor_reading c.args.tables.now in
    let context = found_context c.in-Some.context in
    let text = g.T.EncodedText.text c.args.rest in
    let none : BeginsNone context c.args.head.0 = search rules in
    let least : 0 ≤ c.args.head.1 = omega arith in
    let class = c.canonical_combining_class-class.result in
    let below : c.args.head.1 < class = search rules in
    let composed = subst (λ (r : Reading). IsComposed r c.args.c context c.in-Some.mark) c.places.ensures c.in-Some.ensures.composed in
    let lower = below_more reading context class 0 x c.args.head.0 c.args.head.1 text head other least below none (c.are_below.ensures yes) in
    composed_stands_before reading c.args.c context c.in-Some.mark composed (search rules) (x ∷ text)
    (subst (λ (k : ℕ). AreLowerMarksBefore reading context k 0 (x ∷ text)) c.canonical_combining_class-class.ensures lower) es stands
