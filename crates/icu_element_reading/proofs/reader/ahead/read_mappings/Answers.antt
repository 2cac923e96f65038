use Rattle.std.proofs.Common.{◌≡◌, ◌≤◌, [], ◌∷◌, ◌++◌, ℕ, List, length, append-nil, true, false, Option, sym, ap, ◌∙◌, rules, arith}
use Rattle.std.specs.Prelude.{option_to_list}
use Rattle.icu_table_data.specs.Data.{Mapping, longest_mapping}
use Rattle.icu_table_data.specs.StoredData.{found_context}
use Rattle.icu_element_matches.specs.MatchesAhead.{are_decided, mapping_length}
use Rattle.icu_element_matches.specs.Texts.{still_unread}
use Rattle.icu_element_matches.proofs.DecidedFrontLemmas.{decided_by_front, front_fits, longest_by_front, whole_front, whole_is_front}
use Rattle.icu_element_reading.proofs.ReadsAheadLemmas.{ReadsTo-none, so_far_is, so_far_all, so_far_more}
use Rattle.icu_element_reading.proofs.reader.ahead.read_mappings.Goals as goal

pub mappings-init : goal.mappings-init
mappings-init g c = record {
  can = c.requires.can;
  reads = ReadsTo-none g.I.Iterator.next_gives _ _ _ tt;
  size = omega arith;
  front = c.in_ok-front.ensures;
}

pub returns-in_default-clause-text : goal.returns-in_default-clause-text
returns-in_default-clause-text g c =
    so_far_all g.I.Iterator.next_gives _ _ _ _ _ _ c.mappings.invariant.reads _ _ c.in_default.is c.in_ok-c.ensures.text

pub returns-in_default-clause-longest : goal.returns-in_default-clause-longest
returns-in_default-clause-longest g c =
    let mappings : List Mapping = (found_context c.args.context).mappings in
    let text : List ℕ = still_unread c.mappings.text in
    let same : still_unread c.read_one.new.text ≡ text = c.in_ok-c.ensures.text.1 ∙ ap (λ (o : Option ℕ). text ++ option_to_list o) c.in_default.is ∙ append-nil text in
    let front : c.as_slice-in_default.result.now ≡ c.mappings.front.items = search rules in
    let whole : longest_mapping mappings (still_unread c.read_one.new.text) ≡ longest_mapping mappings c.mappings.front.items = ap (longest_mapping mappings) same ∙ longest_by_front mappings text c.mappings.front.items c.mappings.invariant.front in
    c.longest_len.ensures.longest ∙ ap (λ (l : List ℕ). mapping_length (longest_mapping mappings l)) front ∙ ap mapping_length (sym whole)

pub returns-in_default-clause-inside : goal.returns-in_default-clause-inside
returns-in_default-clause-inside g c =
    let mappings : List Mapping = (found_context c.args.context).mappings in
    let text : List ℕ = still_unread c.mappings.text in
    let same : still_unread c.read_one.new.text ≡ text = c.in_ok-c.ensures.text.1 ∙ ap (λ (o : Option ℕ). text ++ option_to_list o) c.in_default.is ∙ append-nil text in
    let inside : c.longest_len.result ≤ length c.mappings.front.items = search rules in
    omega (arith, inside, ap length same, front_fits mappings text c.mappings.front.items c.mappings.invariant.front)

pub mappings-preserved : goal.mappings-preserved
mappings-preserved g c =
    let mappings : List Mapping = (found_context c.args.context).mappings in
    let no : are_decided mappings c.mappings.front.items ≡ false = search rules in
    let text : List ℕ = still_unread c.mappings.text in
    let whole : c.mappings.front.items ≡ text = whole_front mappings text c.mappings.front.items c.mappings.invariant.front no in
    let x : ℕ = c.in-Some.c in
    let pushed : c.push.new.self.items ≡ c.mappings.front.items ++ x ∷ [] = search rules in
    let grown : still_unread c.read_one.new.text ≡ text ++ x ∷ [] = c.in_ok-c.ensures.text.1 ∙ ap (λ (o : Option ℕ). text ++ option_to_list o) c.in-Some.is in
    record {
      can = c.in_ok-c.ensures.ready;
      reads = so_far_more g.I.Iterator.next_gives _ _ _ _ _ _ c.mappings.invariant.reads _ c.in_ok-c.ensures.text;
      size = omega (arith, c.mappings.invariant.size, c.in_ok-c.ensures.size);
      front = whole_is_front mappings (still_unread c.read_one.new.text) c.push.new.self.items (pushed ∙ ap (λ (l : List ℕ). l ++ x ∷ []) whole ∙ sym grown);
    }

pub returns-clause-text : goal.returns-clause-text
returns-clause-text g c =
    let mappings : List Mapping = (found_context c.args.context).mappings in
    let decided : are_decided mappings c.mappings.front.items ≡ true = search rules in
    so_far_is g.I.Iterator.next_gives _ _ _ _ _ c.mappings.invariant.reads
    (decided_by_front mappings (still_unread c.mappings.text) c.mappings.front.items c.mappings.invariant.front decided)

pub returns-clause-longest : goal.returns-clause-longest
returns-clause-longest g c =
    let mappings : List Mapping = (found_context c.args.context).mappings in
    let front : c.as_slice-2.result.now ≡ c.mappings.front.items = search rules in
    c.longest_len-2.ensures.longest ∙ ap (λ (l : List ℕ). mapping_length (longest_mapping mappings l)) front ∙ ap mapping_length (sym (longest_by_front mappings (still_unread c.mappings.text) c.mappings.front.items c.mappings.invariant.front))

pub returns-clause-inside : goal.returns-clause-inside
returns-clause-inside g c =
    let mappings : List Mapping = (found_context c.args.context).mappings in
    let inside : c.longest_len-2.result ≤ length c.mappings.front.items = search rules in
    omega (arith, inside, front_fits mappings (still_unread c.mappings.text) c.mappings.front.items c.mappings.invariant.front)
