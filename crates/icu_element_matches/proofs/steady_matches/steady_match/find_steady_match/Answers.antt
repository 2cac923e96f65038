use Rattle.std.proofs.Common.{◌≡◌, ℕ, List, subst, sym, ap}
use Rattle.icu_table_data.specs.Data.{Data, homed}
use Rattle.icu_table_data.specs.StoredData.{data_of}
use Rattle.icu_element_matches.specs.WellFormedEntries.{IsWellFormedMatch}
use Rattle.icu_element_matches.specs.Matches.{Match, match_of}
use Rattle.icu_element_matches.proofs.MatchLemmas.{well_formed_match, prefix_inside, contraction_inside}
use Rattle.icu_element_matches.specs.steady_matches.SteadyMatches.{steady_match}
use Rattle.icu_element_matches.proofs.steady_matches.steady_match.find_steady_match.Goals as goal

pub after_prefix-requires : goal.after_prefix-requires
after_prefix-requires g c = prefix_inside (data_of c.args.home) c.args.c c.args.ce32 c.requires

pub found-requires : goal.found-requires
found-requires g c = rw c.after_prefix.ensures (contraction_inside (data_of c.args.home) c.args.c c.args.ce32 c.args.before.now c.requires)

pub returns-clause-well_formed : goal.returns-clause-well_formed
returns-clause-well_formed g c =
    let home : Data = data_of c.args.home in
    let before : List ℕ = c.args.before.now in
    let text : List ℕ = g.X.TextForMatches.unread c.args.text.now in
    let is : steady_match c.found.result (g.X.TextForMatches.unread c.found.new.text) ≡ match_of (homed home c.args.ce32) before text = rw c.after_prefix.ensures at c.found.ensures in
    subst (IsWellFormedMatch home c.args.c) (sym (ap (λ (x : Match). x.entry) is)) (well_formed_match home c.args.c c.args.ce32 before text c.requires)
