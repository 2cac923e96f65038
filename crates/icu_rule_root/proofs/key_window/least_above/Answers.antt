-- The first key that comes to more has the least weight, if one.
use Rattle.std.proofs.Common.{◌≡◌, ◌+◌, ◌<◌, ◌≤◌, max, ap, length, get_or, rules, arith, subst, ◌∙◌}
use Rattle.icu_rule_root.specs.inner.KeyPlaces.{IsKeyCount}
use Rattle.icu_rule_root.proofs.KeyPlaceLemmas.{past_window, least_found, least_none}
use Rattle.icu_rule_root.proofs.key_window.least_above.Goals as goal

pub returns-then-from-window : goal.returns-then-from-window
returns-then-from-window c =
    past_window c.args.window c.requires.window c.args.keys.now c.requires.ascending c.args.w 0 (omega (arith, c.if-from-window.true))

pub returns-in-Some : goal.returns-in-Some
returns-in-Some c =
    let keys = c.args.keys.now in
    let place = c.count_up_to-place.result in
    let inside : place < length keys = search rules in
    let at : c.in-Some.key.now ≡ get_or keys place c.in-Some.key.now = search rules in
    c.window_weight.ensures
    ∙ least_found c.args.window c.requires.window keys c.requires.ascending c.args.w place (subst (λ m. IsKeyCount c.args.window.level keys m place)
    (c.max-most.ensures ∙ ap (λ n. max c.args.window.low (c.args.window.base + n)) c.from-2.ensures) c.count_up_to-place.ensures) c.in-Some.key.now inside at

pub returns-in-None : goal.returns-in-None
returns-in-None c =
    let keys = c.args.keys.now in
    let place = c.count_up_to-place.result in
    let past : length keys ≤ place = search rules in
    least_none c.args.window c.requires.window keys c.requires.ascending c.args.w place (subst (λ m. IsKeyCount c.args.window.level keys m place)
    (c.max-most.ensures ∙ ap (λ n. max c.args.window.low (c.args.window.base + n)) c.from-2.ensures) c.count_up_to-place.ensures) past
