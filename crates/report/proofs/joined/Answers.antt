-- `report::joined` meets its contract: column by column.
use Rattle.std.proofs.Common.{true, ◌&&◌, sym, ◌∙◌}
use Rattle.numbers.proofs.Laws.{and_both}
use Rattle.report.specs.Joined.{together, joined_of}
use Rattle.report.proofs.Fits.{together_le}
use Rattle.report.proofs.joined.Goals as goal

pub join-requires : goal.join-requires
join-requires c =
    let s = c.args in
    let t = and_both c.fit.result (c.fit-2.result && c.fit-3.result) c.if-fit.true in
    together_le s.a.plastic_hardening s.b.plastic_hardening (sym c.fit.ensures ∙ t.0)

pub join-requires-then-fit : goal.join-requires-then-fit
join-requires-then-fit c =
    let s = c.args in
    let t = and_both c.fit.result (c.fit-2.result && c.fit-3.result) c.if-fit.true in
    let u = and_both c.fit-2.result c.fit-3.result t.1 in
    together_le s.a.elastic_hardening s.b.elastic_hardening (sym c.fit-2.ensures ∙ u.0)

pub join-requires-then-fit-2 : goal.join-requires-then-fit-2
join-requires-then-fit-2 c =
    let s = c.args in
    let t = and_both c.fit.result (c.fit-2.result && c.fit-3.result) c.if-fit.true in
    let u = and_both c.fit-2.result c.fit-3.result t.1 in
    together_le s.a.plastic_determinant s.b.plastic_determinant (sym c.fit-3.ensures ∙ u.1)

pub returns-then-fit : goal.returns-then-fit
unfolding joined_of
returns-then-fit c =
    let t = simp (c.fit-3.ensures, c.fit-2.ensures, c.fit.ensures) at c.if-fit.true in
    simp (c.join-then-fit-2.ensures, c.join-then-fit.ensures, c.join.ensures, t)

pub returns-else-fit : goal.returns-else-fit
unfolding joined_of
returns-else-fit c =
    let t = simp (c.fit-3.ensures, c.fit-2.ensures, c.fit.ensures) at c.if-fit.false in
    simp t
