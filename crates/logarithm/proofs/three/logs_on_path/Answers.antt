-- Three values where all lie in the range, else the first refusal.
use mathlib.Core.Path.{sym, ◌∙◌}
use Rattle.answers.proofs.Values.{each_inside, three_inside, three_outside}
use Rattle.logarithm.specs.Worked.{low, high, ln_of}
use Rattle.logarithm.proofs.three.logs_on_path.Goals as goal

pub ln_value-requires : goal.ln_value-requires
ln_value-requires c =
    let a = c.args in
    (each_inside low high a.a a.b a.c (sym c.all_in_range.ensures ∙ c.if-all_in_range.true)).0

pub ln_value-requires-then-all_in_range : goal.ln_value-requires-then-all_in_range
ln_value-requires-then-all_in_range c =
    let a = c.args in
    (each_inside low high a.a a.b a.c (sym c.all_in_range.ensures ∙ c.if-all_in_range.true)).1

pub ln_value-requires-then-all_in_range-2 : goal.ln_value-requires-then-all_in_range-2
ln_value-requires-then-all_in_range-2 c =
    let a = c.args in
    (each_inside low high a.a a.b a.c (sym c.all_in_range.ensures ∙ c.if-all_in_range.true)).2

pub returns-then-all_in_range : goal.returns-then-all_in_range
returns-then-all_in_range c =
    let a = c.args in
    rw (c.ln_value-then-all_in_range-2.ensures, c.ln_value-then-all_in_range.ensures, c.ln_value.ensures)
    (sym (three_inside low high a.a a.b a.c (ln_of a.a) (ln_of a.b) (ln_of a.c) (sym c.all_in_range.ensures ∙ c.if-all_in_range.true)))

pub returns-else-all_in_range : goal.returns-else-all_in_range
returns-else-all_in_range c =
    let a = c.args in
    rw c.first_refusal.ensures
    (sym (three_outside low high a.a a.b a.c (ln_of a.a) (ln_of a.b) (ln_of a.c) (sym c.all_in_range.ensures ∙ c.if-all_in_range.false)))
