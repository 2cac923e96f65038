use Rattle.std.proofs.Common.{◌≡◌, ◌+◌, ◌-◌, ◌^◌, None, Some, refl, sym, ap, ◌∙◌, subst, arith}
use Rattle.std.specs.Option.{option_copied}
use Rattle.sqlite.specs.Given.{Advances, row_if}
use Rattle.sqlite.specs.Held.{state}
use Rattle.sqlite.specs.State.{HasCleanDisk}
use Rattle.icu_index_store.proofs.stored_lines.RowReading.{HasPrinted, printed_all, printed_more, printed_most, printed_none}
use Rattle.icu_index_store.proofs.stored_rows.TransactionLemmas.{survives_both, survives_none}
use Rattle.icu_index_store.proofs.stored_lines.push_rows.Goals as goal

pub rows-init : goal.rows-init
rows-init g c = (
  refl,
  survives_none (state g.S.Store c.args.rows.now.conn.now),
  λ clean. printed_none g.S.Store c.args.front.now c.args.rows.now.conn.now c.args.text.now.items,
)

pub rows-preserved : goal.rows-preserved
rows-preserved g c = (
  c.advance.ensures.same_reference ∙ c.rows.invariant.0,
  survives_both (state g.S.Store c.args.rows.now.conn.now) (state g.S.Store c.rows.rows.conn.now) (state g.S.Store c.advance.new.self.conn.now) c.rows.invariant.1 c.advance.ensures.survives,
  λ clean.
      let early : HasCleanDisk (state g.S.Store c.rows.rows.conn.now) = omega (arith, clean, c.advance.ensures.survives.clean) in
      let some : row_if c.advance.new.self.has_row c.advance.new.self.conn.now ≡ Some c.in-Some.row.now = sym c.get.ensures ∙ ap option_copied c.in-Some.is in
      let moved = subst (Advances g.S.Store c.rows.rows.conn.now c.advance.new.self.conn.now) some (c.in_ok-advance.ensures.ok clean) in
      let more = printed_more g.S.Store c.args.front.now c.args.rows.now.conn.now c.rows.rows.conn.now c.advance.new.self.conn.now c.args.text.now.items c.rows.text.items c.rows._at c.in-Some.row.now c.in_ok-name.name
      (c.rows.invariant.2 early) moved (c.in_ok-advance.ensures.same clean) c.in_ok-name.ensures in
      subst (λ text. HasPrinted g.S.Store c.args.front.now c.args.rows.now.conn.now c.advance.new.self.conn.now c.args.text.now.items text (c.rows._at + 1)) (sym c.in_ok-push_name.ensures) more,
)

pub returns-in_err-advance-clause-survives : goal.returns-in_err-advance-clause-survives
returns-in_err-advance-clause-survives g c =
    survives_both (state g.S.Store c.args.rows.now.conn.now) (state g.S.Store c.rows.rows.conn.now) (state g.S.Store c.advance.new.self.conn.now) c.rows.invariant.1 c.advance.ensures.survives

pub returns-in_default-clause-survives : goal.returns-in_default-clause-survives
returns-in_default-clause-survives g c =
    survives_both (state g.S.Store c.args.rows.now.conn.now) (state g.S.Store c.rows.rows.conn.now) (state g.S.Store c.advance.new.self.conn.now) c.rows.invariant.1 c.advance.ensures.survives

pub returns-in_default-clause-printed : goal.returns-in_default-clause-printed
returns-in_default-clause-printed g c = λ clean.
    let early : HasCleanDisk (state g.S.Store c.rows.rows.conn.now) = omega (arith, clean, c.advance.ensures.survives.clean) in
    let none : row_if c.advance.new.self.has_row c.advance.new.self.conn.now ≡ None = sym c.get.ensures ∙ ap option_copied c.in_default.is in
    let moved = subst (Advances g.S.Store c.rows.rows.conn.now c.advance.new.self.conn.now) none (c.in_ok-advance.ensures.ok clean) in
    printed_all g.S.Store c.args.front.now c.args.rows.now.conn.now c.rows.rows.conn.now c.advance.new.self.conn.now c.args.text.now.items c.rows.text.items c.rows._at
    (c.rows.invariant.2 early) moved

pub returns-clause-printed : goal.returns-clause-printed
returns-clause-printed g c = λ clean.
    let most : c.rows._at ≡ 2 ^ 64 - 1 = omega (arith, c.rows-test.false, c.rows.auto._at-end) in
    printed_most g.S.Store c.args.front.now c.args.rows.now.conn.now c.rows.rows.conn.now c.args.text.now.items c.rows.text.items c.rows._at most (c.rows.invariant.2 clean)
