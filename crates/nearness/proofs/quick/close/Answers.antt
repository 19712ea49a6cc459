-- `nearness::quick::close` meets its contract. Assumes nothing.
use Rattle.nearness.proofs.Rounded.{surely_is}
use Rattle.std.proofs.Common.{rules}
use Rattle.nearness.proofs.quick.close.Goals as goal

pub returns : goal.returns
returns c = λ h o b. let a = c.args in surely_is a.u a.s a.v a.f a.m (search rules) (search rules) (search rules) o b (c.bounded.ensures h)
