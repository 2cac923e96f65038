use Rattle.std.proofs.Common.{◌≡◌, List, ℕ, [], ◌∷◌, ◌++◌, map, ◌∙◌, ap, rules}
use Rattle.std.proofs.lemmas.List.{map-append}
use denote.Ref.{Bor}
use Rattle.icu_cldr_files.proofs.xml.document.close.Goals as goal

pub returns-in-Some-clause-closed : goal.returns-in-Some-clause-closed
returns-in-Some-clause-closed c =
    let name_of = λ (name : Bor (List ℕ)). name.now in
    let popped : c.args.started.now.items ≡ c.pop.new.self.items ++ c.in-Some.last ∷ [] = search rules in
    let same : c.in-Some.last.now ≡ c.args.name.now = search rules in
    ap (λ names. map name_of names) popped
    ∙ (map-append name_of c.pop.new.self.items (c.in-Some.last ∷ []) ∙ ap (λ n. map name_of c.pop.new.self.items ++ n ∷ []) same)
