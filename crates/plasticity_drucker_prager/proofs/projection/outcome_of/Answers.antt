-- Each branch has its outcome.
use Rattle.std.proofs.Common.{rules}
use Rattle.plasticity_drucker_prager.proofs.projection.outcome_of.Goals as goal

pub enum_told-1 : goal.enum_told-1
enum_told-1 c = search rules

pub enum_told-in-Expanding : goal.enum_told-in-Expanding
enum_told-in-Expanding c = search rules

pub enum_told-in-Inside : goal.enum_told-in-Inside
enum_told-in-Inside c = search rules

pub enum_told-in-Surface : goal.enum_told-in-Surface
enum_told-in-Surface c = search rules

pub enum_known-b : goal.enum_known-b
enum_known-b c = search rules

pub returns-in-Isotropic : goal.returns-in-Isotropic
returns-in-Isotropic c = simp c.in-Isotropic.is

pub returns-in-Expanding : goal.returns-in-Expanding
returns-in-Expanding c = simp c.in-Expanding.is

pub returns-in-Inside : goal.returns-in-Inside
returns-in-Inside c = search rules

pub returns-in-Surface : goal.returns-in-Surface
returns-in-Surface c = simp c.in-Surface.is

pub returns-in-Refused : goal.returns-in-Refused
returns-in-Refused c = simp c.in-Refused.is
