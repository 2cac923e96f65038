use Rattle.std.proofs.Common.{◌+◌, ◌*◌, [], get_or, subst, sym, refl, arith}
use Rattle.icu_table_data.specs.CollectedWeights.{Adds}
use Rattle.icu_table_weights.specs.inner.Pages.{IsBelow, IsOfWord}
use Rattle.icu_table_weights.proofs.PageLemmas.{below_none, below_step, below_all}
use Rattle.icu_table_weights.proofs.weight_set.weights_of_page.Goals as goal

pub loop-place-init : goal.loop-place-init
loop-place-init c = subst (λ ws. Adds (IsBelow (λ place. IsOfWord (get_or c.args.words.now place 0) (c.args.least + place * 0x4000)) 0) [] ws) (sym c.new-list.ensures.items) (below_none _ [] 0 refl)

pub loop-place-preserved : goal.loop-place-preserved
loop-place-preserved c =
    below_step (λ place. IsOfWord (get_or c.args.words.now place 0) (c.args.least + place * 0x4000)) [] _ _ c.loop-place.place c.loop-place.invariant
    (subst (λ word. Adds (IsOfWord word (c.args.least + c.loop-place.place * 0x4000)) c.loop-place.list.items c.add_weights_of.new.list.items) c.word_at-word.ensures c.in_ok-add_weights_of.ensures)

pub returns : goal.returns
returns c = below_all (λ place. IsOfWord (get_or c.args.words.now place 0) (c.args.least + place * 0x4000)) [] _ c.loop-place.place 1024 (omega arith) c.loop-place.invariant
