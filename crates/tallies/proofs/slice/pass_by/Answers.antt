-- `tallies::slice::pass_by` meets its contract: the look for room, then the records where it goes; else all as it came.
use Rattle.particles.specs.Step.{step_law}
use Rattle.tallies.proofs.PassPlan.{both, went, refused}
use Rattle.tallies.proofs.slice.pass_by.Goals as goal

pub pass_all-requires : goal.pass_all-requires
pass_all-requires c =
    let a = c.args in
    let p = c.to_pass-p in
    let f = c.settle-ok in
    let q = c.to_count-q in
    let s = c.settle in
    let r = both a.xs.now a.out.now a.zones.now a.ts.now p.result q.result f.result p.ensures f.new.ts s.new.ts f.ensures q.ensures s.result s.ensures in
    (r.1.0 c.if-code-eq0.true).ready

pub returns-then-code-eq0 : goal.returns-then-code-eq0
returns-then-code-eq0 c =
    let a = c.args in
    let p = c.to_pass-p in
    let f = c.settle-ok in
    let q = c.to_count-q in
    let s = c.settle in
    let w = c.pass_all in
    let r = both a.xs.now a.out.now a.zones.now a.ts.now p.result q.result f.result p.ensures f.new.ts s.new.ts f.ensures q.ensures s.result s.ensures in
    went a.s a.xs.now a.out.now a.zones.now a.ts.now s.new.ts q.result.refusal w.new.xs w.new.out w.new.ts r.0 (r.1.0 c.if-code-eq0.true) w.ensures

pub returns : goal.returns
returns c =
    let a = c.args in
    let p = c.to_pass-p in
    let f = c.settle-ok in
    let q = c.to_count-q in
    let s = c.settle in
    let r = both a.xs.now a.out.now a.zones.now a.ts.now p.result q.result f.result p.ensures f.new.ts s.new.ts f.ensures q.ensures s.result s.ensures in
    refused (step_law a.s) a.xs.now a.out.now a.zones.now a.ts.now s.new.ts q.result.refusal r.0 (r.1.1 c.if-code-eq0.false)
