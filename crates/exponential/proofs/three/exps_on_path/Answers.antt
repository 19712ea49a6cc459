-- Three values where all lie in the range, else the first refusal.
use mathlib.Core.Path.{sym, ◌∙◌, subst}
use lib.Dec.{T}
use Rattle.answers.proofs.Values.{each_inside, three_inside, three_outside}
use Rattle.exponential.specs.Worked.{low, high, exp_of}
use Rattle.exponential.proofs.Unpacking.{ranged_sized}
use Rattle.exponential.proofs.three.exps_on_path.Goals as goal

pub exp_value-requires : goal.exp_value-requires
exp_value-requires c =
    let a = c.args in
    ranged_sized a.a (subst T (sym c.well_formed.0.1) tt) (each_inside low high a.a a.b a.c (sym c.all_in_range.ensures ∙ c.if-all_in_range.true)).0

pub exp_value-requires-then-all_in_range : goal.exp_value-requires-then-all_in_range
exp_value-requires-then-all_in_range c =
    let a = c.args in
    ranged_sized a.b (subst T (sym c.well_formed.1.0.1) tt) (each_inside low high a.a a.b a.c (sym c.all_in_range.ensures ∙ c.if-all_in_range.true)).1

pub exp_value-requires-then-all_in_range-2 : goal.exp_value-requires-then-all_in_range-2
exp_value-requires-then-all_in_range-2 c =
    let a = c.args in
    ranged_sized a.c (subst T (sym c.well_formed.1.1.0.1) tt) (each_inside low high a.a a.b a.c (sym c.all_in_range.ensures ∙ c.if-all_in_range.true)).2

pub returns-then-all_in_range : goal.returns-then-all_in_range
returns-then-all_in_range c =
    let a = c.args in
    rw (c.exp_value-then-all_in_range-2.ensures, c.exp_value-then-all_in_range.ensures, c.exp_value.ensures)
    (sym (three_inside low high a.a a.b a.c (exp_of a.a) (exp_of a.b) (exp_of a.c) (sym c.all_in_range.ensures ∙ c.if-all_in_range.true)))

pub returns-else-all_in_range : goal.returns-else-all_in_range
returns-else-all_in_range c =
    let a = c.args in
    rw c.first_refusal.ensures
    (sym (three_outside low high a.a a.b a.c (exp_of a.a) (exp_of a.b) (exp_of a.c) (sym c.all_in_range.ensures ∙ c.if-all_in_range.false)))
