-- `fixed_point::both_halves` meets its contract. Assumes nothing.
use Rattle.std.proofs.Common.{rules}
use Rattle.fixed_point.proofs.Halves.{Columns, columns}
use Rattle.fixed_point.proofs.both_halves.Goals as goal

pub overflow_mul-w0 : goal.overflow_mul-w0
overflow_mul-w0 c = record { fits = (columns c.args.u c.args.v c.ranges.u.fits c.ranges.v.fits).bd }

pub overflow_mul-t : goal.overflow_mul-t
overflow_mul-t c = record { fits = (columns c.args.u c.args.v c.ranges.u.fits c.ranges.v.fits).ad }

pub overflow_add-t : goal.overflow_add-t
overflow_add-t c = record { fits = (columns c.args.u c.args.v c.ranges.u.fits c.ranges.v.fits).mid_fits }

pub overflow_mul-w1 : goal.overflow_mul-w1
overflow_mul-w1 c = record { fits = (columns c.args.u c.args.v c.ranges.u.fits c.ranges.v.fits).bc }

pub overflow_add-w1 : goal.overflow_add-w1
overflow_add-w1 c = record { fits = (columns c.args.u c.args.v c.ranges.u.fits c.ranges.v.fits).next_fits }

pub overflow_mul-high : goal.overflow_mul-high
overflow_mul-high c = record { fits = (columns c.args.u c.args.v c.ranges.u.fits c.ranges.v.fits).ac }

pub overflow_add-high : goal.overflow_add-high
overflow_add-high c = record { fits = (columns c.args.u c.args.v c.ranges.u.fits c.ranges.v.fits).part }

pub overflow_add-high-2 : goal.overflow_add-high-2
overflow_add-high-2 c = record { fits = (columns c.args.u c.args.v c.ranges.u.fits c.ranges.v.fits).all }

pub returns : goal.returns
returns c = record { value = (columns c.args.u c.args.v c.ranges.u.fits c.ranges.v.fits).value; low_fits = search rules; high_fits = (columns c.args.u c.args.v c.ranges.u.fits c.ranges.v.fits).all }
