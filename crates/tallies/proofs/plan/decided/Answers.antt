-- `tallies::plan::decided` meets its contract: by whether it goes.
use mathlib.Core.Path.{sym, ◌∙◌}
use mathlib.Core.Bool.{false≢true}
use Rattle.tallies.proofs.plan.decided.Goals as goal

pub counted-counts-requires : goal.counted-counts-requires
counted-counts-requires c = c.requires c.if-goes.true

pub returns-then-goes : goal.returns-then-goes
returns-then-goes c = let t = c.if-goes.true in (simp t, (simp t, λ e. c.counted-counts.ensures))

pub returns : goal.returns
returns c = let f = c.if-goes.false in (simp f, (simp f, λ e. absurd (false≢true (sym f ∙ e))))
