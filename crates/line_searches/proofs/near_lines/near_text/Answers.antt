-- The counts are those of the first lines.
use Rattle.std.proofs.Common.{◌≡◌, ◌∙◌, ◌+◌, ◌++◌, ℕ, List, [], ap, arith, length, map}
use Rattle.icu_search.specs.Searchers.{search_of}
use Rattle.line_sorts.specs.ShownLines.{shown_lines}
use Rattle.line_searches.specs.NearLines.{near_from, near_lines}
use Rattle.line_searches.specs.WantedLines.{wanted_count}
use Rattle.line_searches.specs.inner.WantedCounts.{count_before, count_behind, counts_from}
use Rattle.line_searches.proofs.NearLineLemmas.{all_counted, near_counted}
use Rattle.line_searches.proofs.near_lines.near_text.Goals as goal

pub push_near-requires : goal.push_near-requires
push_near-requires c =
    let lines = c.as_slice-lines.result.now in
    let as_many : length c.count_lines.new.counts.before.items ≡ 0 + length lines =
    c.in_ok-count_lines.ensures.more ∙ ap (λ (b : List ℕ). length b + length lines) c.new-counts.ensures.before in
    omega (arith, as_many)

pub returns-clause-text : goal.returns-clause-text
returns-clause-text c =
    let s = map search_of c.args.searchers.now in
    let r = c.args.request in
    let lines = shown_lines c.as_slice-lines.result.now in
    let counts = c.count_lines.new.counts in
    let before : counts.before.items ≡ counts_from r s 0 lines =
    c.in_ok-count_lines.ensures.before
    ∙ (ap (λ (b : List ℕ). b ++ counts_from r s c.new-counts.result.total lines) c.new-counts.ensures.before
    ∙ ap (λ (n : ℕ). counts_from r s n lines) c.new-counts.ensures.total) in
    let total : counts.total ≡ count_behind r s 0 lines =
    c.in_ok-count_lines.ensures.total ∙ ap (λ (n : ℕ). count_behind r s n lines) c.new-counts.ensures.total in
    c.in_ok-push_near.ensures
    ∙ (ap (λ (t : List ℕ). t ++ near_from (count_before counts) r s 0 r.first lines) c.new-text.ensures.items
    ∙ (near_counted r s counts lines before total
    ∙ ap (near_lines r s) (ap shown_lines c.as_slice-lines.ensures.value ∙ c.in_ok-found.ensures)))

pub returns-clause-count : goal.returns-clause-count
returns-clause-count c =
    let s = map search_of c.args.searchers.now in
    let r = c.args.request in
    let lines = shown_lines c.as_slice-lines.result.now in
    c.in_ok-count_lines.ensures.total
    ∙ (ap (λ (n : ℕ). count_behind r s n lines) c.new-counts.ensures.total
    ∙ (all_counted r s lines
    ∙ ap (wanted_count r s) (ap shown_lines c.as_slice-lines.ensures.value ∙ c.in_ok-found.ensures)))
