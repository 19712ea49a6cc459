-- The copy is the record, which has its length.
use lib.ListN.{length}
use borrow.Author.Tests.{eq-eqb}
use Rattle.record.specs.Layout.{floats}
use Rattle.record_why.proofs.record_number.Goals as goal

pub returns : goal.returns
returns c =
    simp (c.outcome_number.ensures, c.update_record.ensures.value, c.copy.ensures, eq-eqb (length c.args.r.now) floats c.requires)
