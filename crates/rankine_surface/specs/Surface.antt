-- Demand 3: how near the yield surface Rankine's update comes, taken exactly. A finite f64 is a whole number of units of
-- 2 ^ -1074 (`val`; its size is `mag`; 1 is L units), so that no rounding is left in what is said here.
use Rattle.std.specs.Prelude.{◌≡◌, Bool, not, List, [], ℕ, ◌+◌, ◌*◌, ◌^◌, ◌≤◌, T, length, ℤ, pos, ◌+ℤ◌, ◌*ℤ◌, Float}
use Rattle.std.specs.Float.Ieee as Ieee
use Rattle.exact.specs.Units.{L, mag, Fin64}
use Rattle.exact.specs.Integers.{◌≤ᶻ◌}
use Rattle.exact.specs.Value.{val}
use Rattle.numbers.specs.Floats.{finite}
use Rattle.tensor.specs.Matrix.{sub, one, sum_of}
use Rattle.tensor.specs.declared.VectorAnswer.{VectorAnswer}
use Rattle.plasticity.specs.declared.Outcome.{Outcome}
use Rattle.plasticity.specs.declared.Outcome.TheVariants.{Untouched, Stored, Refused}
use Rattle.plasticity.specs.declared.State.{State}
use Rattle.plasticity.specs.declared.Updated.{Updated}
use Rattle.walk.specs.Expr.{Expr, num, value}
use Rattle.walk.specs.Walk.{Walk, exp, ln, asks, end, Ended, given, refused, walk_result}
use Rattle.walk.specs.Body.{Body}
use Rattle.walk.specs.Update.{in_three}
use Rattle.plasticity_rankine.specs.declared.RankineArguments.{RankineArguments}
use Rattle.plasticity_rankine.specs.declared.RankinePlasticity.{RankinePlasticity}
use Rattle.plasticity_rankine.specs.Law.{law_of}
use Rattle.plasticity_rankine.specs.Sorting.{order_of, arrange_of}
use Rattle.plasticity_rankine.specs.Projection.{Moved, first_side, project_walk, strains_of, project_of}
use Rattle.plasticity_rankine.specs.Rankine.{rankine_update, arguments_update}
use Rattle.rankine_surface.specs.Axes.{Each, Some, total}

-- ---- exact stresses
-- 2mu + d lambda of d axes, in units of 2 ^ -1074
abbrev pub modulus_in : ℕ → RankinePlasticity → ℕ
modulus_in d p = 2 * mag p.mu + d * mag p.lambda

-- 2mu + 3lambda
abbrev pub modulus : RankinePlasticity → ℕ
modulus p = modulus_in 3 p

-- the principal stress that belongs to the strain w among the strains e, lambda (sum of e) + 2mu w, in units of 2 ^ -2148
abbrev pub stress_of : RankinePlasticity → List Float → Float → ℤ
stress_of p e w = val p.lambda *ℤ total e +ℤ pos 2 *ℤ val p.mu *ℤ val w

-- u is at most v + K / 2 ^ k
pub record Under (k : ℕ) (u v : ℤ) (K : ℕ) : Type 0 where
  pub under : u *ℤ pos (2 ^ k) ≤ᶻ v *ℤ pos (2 ^ k) +ℤ pos K

-- in d axes, the stress of w is at most s + (2mu + d lambda) / 2 ^ k
abbrev pub BelowIn : ℕ → ℕ → RankinePlasticity → Float → List Float → Float → Type 0
BelowIn d k p s e w = Under k (stress_of p e w) (val s *ℤ pos L) (modulus_in d p * L)

-- and at least s - (2mu + d lambda) / 2 ^ k
abbrev pub ReachesIn : ℕ → ℕ → RankinePlasticity → Float → List Float → Float → Type 0
ReachesIn d k p s e w = Under k (val s *ℤ pos L) (stress_of p e w) (modulus_in d p * L)

-- in three
abbrev pub Below : ℕ → RankinePlasticity → Float → List Float → Float → Type 0
Below k p s e w = BelowIn 3 k p s e w

abbrev pub Reaches : ℕ → RankinePlasticity → Float → List Float → Float → Type 0
Reaches k p s e w = ReachesIn 3 k p s e w

-- k for the strains that the update projects: "within (2mu + 3lambda)/2^44"
abbrev pub demanded : ℕ
demanded = 44

-- k for the strains of the sigma that it stores: "within (2mu + 3lambda)/2^40"
abbrev pub archived : ℕ
archived = 40

-- ---- what is assumed
-- mu in 1 to 2 ^ 40, lambda in 0 to 2 ^ 40, s within 4 (2mu + d lambda) of zero
pub record RangesIn (d : ℕ) (p : RankinePlasticity) (s : Float) : Type 0 where
  pub mu_low : pos L ≤ᶻ val p.mu
  pub mu_high : val p.mu ≤ᶻ pos (2 ^ 40 * L)
  pub la_low : pos 0 ≤ᶻ val p.lambda
  pub la_high : val p.lambda ≤ᶻ pos (2 ^ 40 * L)
  pub s_size : mag s ≤ 4 * modulus_in d p

-- the three as finite f64 in those ranges
pub record FairIn (d : ℕ) (p : RankinePlasticity) (s : Float) : Type 0 where
  pub mu_fine : Fin64 p.mu
  pub la_fine : Fin64 p.lambda
  pub s_fine : Fin64 s
  pub ranges : RangesIn d p s

abbrev pub Ranges : RankinePlasticity → Float → Type 0
Ranges p s = RangesIn 3 p s

abbrev pub Fair : RankinePlasticity → Float → Type 0
Fair p s = FairIn 3 p s

-- in -4 to 4
abbrev pub Small : Float → Type 0
Small x = mag x ≤ 4 * L

-- a strain in -4 to 4 as a finite f64
pub record Strain (x : Float) : Type 0 where
  pub fine : Fin64 x
  pub size : Small x

-- a number that an f64 holds; in the code each one is
abbrev pub F64 : Float → Type 0
F64 x = T (Ieee.fits Ieee.binary64 x)

abbrev pub Accepted : Outcome → Type 0
Accepted Untouched = Unit {0}
Accepted (Stored a) = Unit {0}
Accepted (Refused n) = ⊥

-- the numbers of an answer; none beside a refusal
abbrev pub numbers_of : Ended (List Float) → List Float
numbers_of (given l) = l
numbers_of (refused n) = []

-- our logarithms and exponentials of each entry, asked as the update asks them
unfoldable pub logs_of : List Float → Ended (List Float)
logs_of sigma = walk_result (asks 2 ln sigma (λ e. end e))

unfoldable pub exps_of : List Float → Ended (List Float)
exps_of e = walk_result (asks 9 exp e (λ sigma. end sigma))

-- finite strains whose largest stress lies within (2mu + d lambda) / 2 ^ k of s, above or below (`val` is 0 at a NaN or an infinity)
pub record OnSurfaceIn (d k : ℕ) (p : RankinePlasticity) (s : Float) (e : List Float) : Type 0 where
  pub fine : Each Fin64 e
  pub below : Each (BelowIn d k p s e) e
  pub reaches : Some (ReachesIn d k p s e) e

-- in the archive, which keeps sigma alone: our logarithm takes each, and with these as strains the largest stress, whichever axis has it,
-- lies that near to s
pub record ArchivedIn (d : ℕ) (p : RankinePlasticity) (s : Float) (sigma : List Float) : Type 0 where
  pub strains : List Float
  pub answered : logs_of sigma ≡ given strains
  pub axes : length strains ≡ d
  pub on_surface : OnSurfaceIn d archived p s strains

-- ---- Rankine's law in some number of axes: its state S and what it hands back, R; the largest of so many strains; the projection, and the
-- strains of its answer
pub record Axes (S R : Type 0) : Type 0 where
  pub count : ℕ
  pub body : Body S R
  pub largest : List Float → Float
  pub project : RankinePlasticity → List Float → Expr → Walk Moved
  pub strains_in : Ended Moved → List Float

module _ {S R : Type 0} (ax : Axes S R) where
  -- our logarithms of sigma
  abbrev pub log_strains_in : S → List Float
  log_strains_in st = numbers_of (logs_of (ax.body.sigma st))

  -- the softened strength, as the update works it: s = strength - (hardening - 1)
  abbrev pub softened_in : RankinePlasticity → S → Float
  softened_in p st = sub p.tensile_strength (sub (ax.body.scalars st).plastic_hardening one)

  -- the first yield test: lambda S + 2mu a <= s in floats
  abbrev pub first_test_in : RankinePlasticity → List Float → Float → Bool
  first_test_in p e s = Ieee.le (value (first_side p (num (sum_of e)) (num (ax.largest e)))) s

  abbrev pub projected_in : RankinePlasticity → S → List Float
  projected_in p st = ax.strains_in (walk_result (ax.project p (log_strains_in st) (num (softened_in p st))))

-- ---- of an update of the state st by the law p that hands back v
-- assumed: not refused, the ranges of the moduli and of s, an f64 for each axis as sigma, as the code's array is, and log strains in -4 to 4: that
-- these are finite f64 is the logarithm's own law
pub record AssumedIn {S R : Type 0} (ax : Axes S R) (p : RankinePlasticity) (st : S) (v : R) : Type 0 where
  pub accepted : Accepted (ax.body.outcome_in v)
  pub fair : FairIn ax.count p (softened_in ax p st)
  pub axes : length (ax.body.sigma st) ≡ ax.count
  pub sigma : Each F64 (ax.body.sigma st)
  pub strains : Each Small (log_strains_in ax st)

-- the same of the law that `new` makes: its moduli are f64, and finite where nothing is refused
pub record AssumedByIn {S R : Type 0} (ax : Axes S R) (a : RankineArguments) (st : S) (v : R) : Type 0 where
  pub accepted : Accepted (ax.body.outcome_in v)
  pub s_finite : T (finite (softened_in ax (law_of a) st))
  pub ranges : RangesIn ax.count (law_of a) (softened_in ax (law_of a) st)
  pub axes : length (ax.body.sigma st) ≡ ax.count
  pub sigma : Each F64 (ax.body.sigma st)
  pub strains : Each Small (log_strains_in ax st)

-- promised where the test holds: the state is handed back as it came, and no stress is above
pub record InsideIn {S R : Type 0} (ax : Axes S R) (p : RankinePlasticity) (st : S) (v : R) : Type 0 where
  pub untouched : v ≡ ax.body.handed st Untouched
  pub below : Each (BelowIn ax.count demanded p (softened_in ax p st) (log_strains_in ax st)) (log_strains_in ax st)

-- where it fails: sigma becomes the exponentials of the projected strains, which lie on the surface, and the hardening is stored, capped
pub record ReturnedIn {S R : Type 0} (ax : Axes S R) (p : RankinePlasticity) (st : S) (v : R) : Type 0 where
  pub hardening : Float
  pub stored : ax.body.outcome_in v ≡ Stored hardening
  pub written : (ax.body.scalars (ax.body.state_in v)).plastic_hardening ≡ hardening
  pub capped : T (Ieee.le hardening p.tensile_strength)
  pub f64 : F64 p.tensile_strength → F64 hardening
  pub sigma : ax.body.sigma (ax.body.state_in v) ≡ numbers_of (exps_of (projected_in ax p st))
  pub axes : length (numbers_of (exps_of (projected_in ax p st))) ≡ ax.count
  pub on_surface : OnSurfaceIn ax.count demanded p (softened_in ax p st) (projected_in ax p st)
  pub archive : ArchivedIn ax.count p (softened_in ax p st) (ax.body.sigma (ax.body.state_in v))

pub record Demand3In {S R : Type 0} (ax : Axes S R) (p : RankinePlasticity) (st : S) (v : R) : Type 0 where
  pub holds : T (first_test_in ax p (log_strains_in ax st) (softened_in ax p st)) → InsideIn ax p st v
  pub fails : T (not (first_test_in ax p (log_strains_in ax st) (softened_in ax p st))) → ReturnedIn ax p st v

-- the archive by itself, where the update stores
abbrev pub ArchivesIn : {S R : Type 0} → Axes S R → RankinePlasticity → S → R → Type 0
ArchivesIn ax p st v = (hardening : Float) → ax.body.outcome_in v ≡ Stored hardening → ArchivedIn ax.count p (softened_in ax p st) (ax.body.sigma (ax.body.state_in v))

-- ---- in three axes
abbrev pub three_axes : Axes State Updated
three_axes =
    record {
      count = 3;
      body = in_three;
      largest = λ e. (arrange_of (order_of e) e).high;
      project = project_walk;
      strains_in = strains_of;
    }

abbrev pub OnSurface : ℕ → RankinePlasticity → Float → List Float → Type 0
OnSurface k p s e = OnSurfaceIn 3 k p s e

abbrev pub Archived : RankinePlasticity → Float → List Float → Type 0
Archived p s sigma = ArchivedIn 3 p s sigma

abbrev pub log_strains : State → List Float
log_strains st = log_strains_in three_axes st

abbrev pub softened : RankinePlasticity → State → Float
softened p st = softened_in three_axes p st

abbrev pub first_test : RankinePlasticity → List Float → Float → Bool
first_test p e s = first_test_in three_axes p e s

abbrev pub Assumed : RankinePlasticity → List (List Float) → List (List Float) → State → Type 0
Assumed p u vt st = AssumedIn three_axes p st (rankine_update p u vt st)

abbrev pub AssumedBy : RankineArguments → List (List Float) → List (List Float) → State → Type 0
AssumedBy a u vt st = AssumedByIn three_axes a st (arguments_update a u vt st)

abbrev pub Inside : RankinePlasticity → List (List Float) → List (List Float) → State → Type 0
Inside p u vt st = InsideIn three_axes p st (rankine_update p u vt st)

abbrev pub Returned : RankinePlasticity → List (List Float) → List (List Float) → State → Type 0
Returned p u vt st = ReturnedIn three_axes p st (rankine_update p u vt st)

abbrev pub Demand3 : RankinePlasticity → List (List Float) → List (List Float) → State → Type 0
Demand3 p u vt st = Demand3In three_axes p st (rankine_update p u vt st)

abbrev pub Archives : RankineArguments → List (List Float) → List (List Float) → State → Type 0
Archives a u vt st = ArchivesIn three_axes (law_of a) st (arguments_update a u vt st)

pub record Demand3By (a : RankineArguments) (u vt : List (List Float)) (st : State) : Type 0 where
  pub update : arguments_update a u vt st ≡ rankine_update (law_of a) u vt st
  pub law : Demand3 (law_of a) u vt st

-- ---- the projection as a call by itself, where it refuses nothing
abbrev pub Settled : VectorAnswer → Type 0
Settled v = v.refusal ≡ 0

pub record Projects (p : RankinePlasticity) (e : List Float) (s : Float) : Type 0 where
  pub holds : T (first_test p e s) → ((project_of p e s).vector ≡ e) × Each (Below demanded p s e) e
  pub fails : T (not (first_test p e s)) → OnSurface demanded p s (project_of p e s).vector
