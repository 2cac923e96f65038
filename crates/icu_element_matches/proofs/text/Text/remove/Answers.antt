use Rattle.std.proofs.Common.{◌≡◌, ◌+◌, ◌-◌, ◌<◌, ◌++◌, ℕ, List, length, take, drop, rules, arith, length-drop}
use Rattle.icu_element_matches.specs.Texts.{unread}
use Rattle.icu_element_matches.proofs.TextLemmas.{moved_to_front}
use Rattle.icu_element_matches.proofs.text.Text.remove.Goals as goal

pub returns-clause-rest : goal.returns-clause-rest
unfolding unread
returns-clause-rest c =
    let xs : List ℕ = c.args.self.now.chars.items in
    let n : ℕ = c.args.self.now.next in
    let i : ℕ = c.args.index in
    let d : List ℕ = c.deref_mut.result.now in
    let same : d ≡ xs = c.deref_mut.ensures.value in
    let inside : i < length (drop n xs) = c.requires in
    let within : n + i < length xs = omega (arith, inside, length-drop n xs) in
    let many : n + i + 1 - n ≡ i + 1 = omega arith in
    let part : List ℕ = take (n + i + 1 - n) (drop n d) in
    let made : c.rotate_right.new.self ≡ drop (length part - 1) part ++ take (length part - 1) part = search rules in
    let is : part ≡ take (i + 1) (drop n xs) = rw (many, same) in
    let k = moved_to_front xs n i c.args.self.now.chars.len within c.args.self.now.chars.ok.0 part c.rotate_right.new.self is made in
    rw (same, many) k
