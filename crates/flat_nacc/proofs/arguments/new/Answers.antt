-- `flat_nacc::arguments::new` answers `new_of` of its arguments.
use Rattle.flat_nacc.proofs.arguments.new.Goals as goal

pub returns : goal.returns
returns c =
    simp (c.entered.ensures, c.with_m-made.ensures)
