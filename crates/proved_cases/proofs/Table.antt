-- RULES, section 8, line by line: the twelve cases over the definitions that the contracts cite, proved by computation.
use Rattle.plasticity_snow.proofs.Cases as snow
use Rattle.physics.proofs.Cases as physics
use Rattle.elasticity_neo_hookean.proofs.Cases as neo_hookean
use Rattle.eos_monaghan_sph.proofs.Cases as monaghan
use Rattle.failure_maximum_stress.proofs.Cases as failure
use Rattle.logarithm.proofs.Laws.{ln_one}
use Rattle.plasticity_drucker_prager.proofs.Cases as drucker_prager
use Rattle.proved_cases.proofs.Alpha.{root_zero, slope}
use Rattle.proved_cases.specs.Table.{Twelve}

pub twelve : Twelve
twelve =
    record {
      p1 = snow.p1;
      p2 = snow.p2;
      p3 = snow.p3;
      p4 = physics.P4;
      p5 = neo_hookean.phase_zero;
      p6 = monaghan.P6;
      p7 = monaghan.P7;
      p8 = monaghan.P8;
      p9 = monaghan.P9;
      p10 = failure.P10;
      p11 = failure.P11;
      p12 = λ l m f g. drucker_prager.p12 l m (slope l m).0 f g ln_one root_zero (slope l m).1;
    }
