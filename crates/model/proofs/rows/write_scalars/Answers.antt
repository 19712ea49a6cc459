-- `model::rows::write_scalars` meets its contract: what each arm writes, and what it is given is finite. Made by tools/table from calls.toml: edit that, not this file.
use Rattle.plasticity.proofs.Parts.{scalars_parts}
use Rattle.model.proofs.rows.write_scalars.Goals as goal

pub finite_bits-requires : goal.finite_bits-requires
finite_bits-requires c = (scalars_parts c.args.s.scalars c.requires.1).determinant

pub finite_bits-requires-in-Snow : goal.finite_bits-requires-in-Snow
finite_bits-requires-in-Snow c = (scalars_parts c.args.s.scalars c.requires.1).elastic

pub returns-in-Snow : goal.returns-in-Snow
returns-in-Snow c = simp (c.finite_bits-in-Snow.ensures, c.finite_bits.ensures, c.in-Snow.is)

pub finite_bits-requires-in-Rankine : goal.finite_bits-requires-in-Rankine
finite_bits-requires-in-Rankine c = (scalars_parts c.args.s.scalars c.requires.1).hardening

pub returns-in-Rankine : goal.returns-in-Rankine
returns-in-Rankine c = simp (c.finite_bits-in-Rankine.ensures, c.in-Rankine.is)

pub finite_bits-requires-in-DruckerPrager : goal.finite_bits-requires-in-DruckerPrager
finite_bits-requires-in-DruckerPrager c = (scalars_parts c.args.s.scalars c.requires.1).determinant

pub finite_bits-requires-in-DruckerPrager-2 : goal.finite_bits-requires-in-DruckerPrager-2
finite_bits-requires-in-DruckerPrager-2 c = (scalars_parts c.args.s.scalars c.requires.1).hardening

pub finite_bits-requires-in-DruckerPrager-3 : goal.finite_bits-requires-in-DruckerPrager-3
finite_bits-requires-in-DruckerPrager-3 c = (scalars_parts c.args.s.scalars c.requires.1).gain

pub returns-in-DruckerPrager : goal.returns-in-DruckerPrager
returns-in-DruckerPrager c = simp (c.finite_bits-in-DruckerPrager-3.ensures, c.finite_bits-in-DruckerPrager-2.ensures, c.finite_bits-in-DruckerPrager.ensures, c.in-DruckerPrager.is)

pub finite_bits-requires-in-Nacc : goal.finite_bits-requires-in-Nacc
finite_bits-requires-in-Nacc c = (scalars_parts c.args.s.scalars c.requires.1).alpha

pub returns-in-Nacc : goal.returns-in-Nacc
returns-in-Nacc c = simp (c.finite_bits-in-Nacc.ensures, c.in-Nacc.is)

pub returns-in-Refused : goal.returns-in-Refused
returns-in-Refused c = simp c.in-Refused.is
