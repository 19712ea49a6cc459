-- Strains that moved, over any state: their norm, the hardening that grows and is capped, and the exponentials that are stored
use mathlib.Core.Path.{◌≡◌, refl, sym, ◌∙◌, subst}
use mathlib.Core.List.{List}
use mathlib.Core.Bool.{Bool, true, false, cond, ◌||◌}
use lib.Dec.{T}
use lib.Ieee.{Float, nan, inf, fin, binary64, lt, eq, le}
use lib.Ieee.Fits.{add-fits}
use Rattle.numbers.specs.Floats.{finite, is_number, min_of}
use Rattle.numbers.proofs.Laws.{eq_self}
use Rattle.answers.specs.declared.Answer.{Answer}
use Rattle.answers.specs.declared.Answer.TheVariants as answers
use Rattle.physics.specs.Norm.{norm_of}
use Rattle.tensor.specs.Matrix.{add, mul, row_sub_of}
use Rattle.walk.specs.Expr.{Expr, num, values}
use Rattle.walk.specs.Walk.{Walk, Ended, given, refused, asked, walk_result}
use Rattle.walk.specs.Exact.{and_then}
use Rattle.plasticity_rankine.specs.declared.RankinePlasticity.{RankinePlasticity}
use Rattle.plasticity_rankine.specs.Rankine.{grows, changes}
use Rattle.plasticity_rankine.proofs.Laws.{changes_law, grows_law}
use Rattle.rankine_surface.specs.Surface.{exps_of, F64}
use Rattle.rankine_surface.proofs.Indexed.{Given}

-- ---- a test that was not refused
pub passed : {A : Type 0} (F : A → Type 0) (b : Bool) (X Y : A) → (F Y → ⊥) → F (cond b X Y) → T b × (cond b X Y ≡ X)
passed F true X Y bad a = (tt, refl)
passed F false X Y bad a = absurd (bad a)

pub by : {A : Type 0} (F : A → Type 0) {x y : A} → x ≡ y → F x → F y
by F q a = subst F q a

-- ---- the hardening is capped
number : (x : Float) → T (finite x) → T (is_number x)
unfolding finite is_number
number nan f = absurd f
number (inf s) f = absurd f
number (fin s m e) f = tt

pub is_true : (b : Bool) → T b → b ≡ true
is_true true t = refl
is_true false t = absurd t

or_right : (a b : Bool) → T b → T (a || b)
or_right true b t = tt
or_right false b t = t

or_left : (a b : Bool) → T a → T (a || b)
or_left true b t = tt
or_left false b t = absurd t

le_self : (x : Float) → T (finite x) → T (le x x)
unfolding le
le_self x f = or_right (lt x x) (eq x x) (rw (eq_self x) (number x f))

at_most : (h c : Float) → T (finite c) → T (le (min_of h c) c)
unfolding le
at_most h c f = go (is_number c) (lt h c) (number c f) (λ t. or_left (lt h c) (eq h c) t) (le_self c f)
  where
    go : (a b : Bool) → T a → (T b → T (le h c)) → T (le c c) → T (le (cond a (cond b h c) (cond (is_number h) h c)) c)
    go true true t l m = l tt
    go true false t l m = m
    go false b t l m = absurd t

least_f64 : (h c : Float) → F64 h → F64 c → F64 (min_of h c)
least_f64 h c f g = go (is_number c) (lt h c) (is_number h)
  where
    go : (a b d : Bool) → F64 (cond a (cond b h c) (cond d h c))
    go true true d = f
    go true false d = g
    go false b true = f
    go false b false = g

-- at most the strength, and an f64 where that is one
abbrev pub Capped : RankinePlasticity → Float → Type 0
Capped law h = T (le h law.tensile_strength) × (F64 law.tensile_strength → F64 h)

-- ---- x is what `finish` answers of the exponentials of the new strains and of a capped hardening
pub record Ends {A : Type 0} (law : RankinePlasticity) (finish : List Float → Float → Ended A) (new : List Float) (x : Ended A) : Type 0 where
  pub hardening : Float
  pub capped : Capped law hardening
  pub sigma : List Float
  pub exps : exps_of new ≡ given sigma
  pub ends : x ≡ finish sigma hardening

module _ {A : Type 0} (law : RankinePlasticity) (f : T (finite law.tensile_strength)) (finish : List Float → Float → Ended A) where
  abbrev Ending : List Float → Ended A → Type 0
  Ending new x = Given x → Ends law finish new x

  exps_end : (new : List Float) (h : Float) → Capped law h → (t : Ended (List Float)) → exps_of new ≡ t → Ending new (and_then t (λ sigma. finish sigma h))
  exps_end new h l (given sigma) q a = record { hardening = h; capped = l; sigma = sigma; exps = q; ends = refl }
  exps_end new h l (refused n) q a = absurd a

  tested : (new : List Float) (b : Bool) (x : Ended A) → Ending new x → Ending new (cond b x (refused 3))
  tested new true x h = h
  tested new false x h = λ a. absurd a

  module _ (new : List Float) (k : Expr → Walk A) (exps : (h : Float) → walk_result (k (num h)) ≡ and_then (exps_of new) (λ sigma. finish sigma h)) (hardening : Float) where
    grows_end : (norm : Float) → Ending new (walk_result (grows law hardening (num norm) k))
    grows_end norm =
        let c = law.tensile_strength in
        let y = add hardening (mul law.softening_rate norm) in
        let h = min_of y c in
        by (Ending new) (sym (grows_law law hardening norm k (is_true (finite c) f)))
        (tested new (is_number y) (walk_result (k (num h)))
        (by (Ending new) (sym (exps h)) (exps_end new h (at_most y c f, λ i. least_f64 y c (add-fits binary64 _ _) i) (exps_of new) refl)))

    normed : (r : Answer) → Ending new (asked r (λ norm. walk_result (grows law hardening (num norm) k)))
    normed (answers.Value norm) = grows_end norm
    normed (answers.Refused m) = λ a. absurd a

  pub changes_end : (hardening : Float) (old : List Float) (new : List Expr) (k : Expr → Walk A)
      → ((h : Float) → walk_result (k (num h)) ≡ and_then (exps_of (values new)) (λ sigma. finish sigma h))
      → Given (walk_result (changes old new (λ norm. grows law hardening norm k))) → Ends law finish (values new) (walk_result (changes old new (λ norm. grows law hardening norm k)))
  changes_end hardening old new k exps =
      by (Ending (values new)) (sym (changes_law old new (λ norm. grows law hardening norm k)))
      (normed (values new) k exps hardening (norm_of (row_sub_of old (values new))))
