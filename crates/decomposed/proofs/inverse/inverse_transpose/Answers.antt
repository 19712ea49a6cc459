-- `decomposed::inverse::inverse_transpose` answers `inverse_transpose_of m j`.
use Rattle.decomposed.specs.Inverse.{inverse_transpose_of}
use Rattle.decomposed.proofs.inverse.inverse_transpose.Goals as goal

pub returns-then-j : goal.returns-then-j
unfolding inverse_transpose_of
returns-then-j c =
    let t0 = c.if-j.true in
    simp (c.identity_times.ensures, t0)

pub returns-else-j : goal.returns-else-j
unfolding inverse_transpose_of
returns-else-j c =
    let t0 = c.if-j.false in
    simp (c.mat_over.ensures, c.cofactors.ensures, t0)
