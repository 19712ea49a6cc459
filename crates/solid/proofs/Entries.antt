-- A stress that a law answers has finite entries (RULES, section 6: a result that isn't finite is 3). Assumes nothing.
use mathlib.Core.Path.{◌≡◌, refl, ap, sym, subst, ◌∙◌}
use mathlib.Core.Bool.{Bool, true, false, cond, ◌&&◌, false≢true}
use mathlib.Core.List.{List, [], ◌∷◌, map}
use Prim.Native.Nat.{ℕ}
use native.Mathlib.Omega.{arith}
use lib.ListN.{get_or}
use lib.Ieee.{Float, nan, binary64, of_bits}
use Rattle.answers.specs.Refusals.{not_finite, no_number}
use Rattle.answers.specs.declared.Answer.{Answer}
use Rattle.answers.specs.declared.Answer.TheVariants as answers
use Rattle.numbers.specs.Floats.{finite, is_number}
use Rattle.numbers.proofs.Laws.{and_both}
use Rattle.tensor.specs.Axes.{all_of}
use Rattle.tensor.specs.Matrix.{three, at}
use Rattle.tensor.specs.Finite.{row_finite, mat_finite}
use Rattle.walk.specs.Expr.{Expr, num, value, values}
use Rattle.walk.specs.Walk.{Walk, inputs, ask, works, either, branch, split, results, end, mosts, leasts, Ended, given, refused, asked, answer_of, numbers, tellable, holds, picked, walk_result}
use Rattle.walk.specs.Tensor.{worth, rows, turned, times, plus, scaled, identity_times, determinant}
use Rattle.decomposed.specs.Formulas.{deviatoric}
use Rattle.walk.specs.Answers.{matrix_as}
use Rattle.elasticity_neo_hookean.specs.declared.NeoHookeanElasticity.{NeoHookeanElasticity}
use Rattle.elasticity_neo_hookean.specs.Law.{coefficient, bulk, cauchy_green}
use Rattle.elasticity_neo_hookean.specs.Stress.{kirchhoff_steps, kirchhoff_from, shear, volumetric, tensile, compressed}
use Rattle.elasticity_corotated_linear.specs.declared.CorotatedLinearElasticity.{CorotatedLinearElasticity}
use Rattle.elasticity_corotated_linear.specs.Stress.{stress_steps, stress_from, dev_stress, spherical_stress, phase_coeff, below, above}
use Rattle.solid.specs.Told.{diagonal}

-- the diagonal of what is given
abbrev Diagonal : List (List Float) → Type 0
Diagonal m = row_finite (three (at m 0 0) (at m 1 1) (at m 2 2)) ≡ true

-- every end of a walk has a finite diagonal, where the results before it are finite
abbrev pub Ends : Walk (List (List Float)) → Type 0
Ends (inputs l w) = Ends w
Ends (ask n f e k) = (v : Expr) → Ends (k v)
Ends (works n es k) = (vs : List Float) → Ends (k vs)
Ends (either n t a b k) = (v : Expr) → Ends (k v)
Ends (branch n t w v) = Ends w × Ends v
Ends (split n t w v) = Ends w × Ends v
Ends (results n rows w) = mat_finite (worth rows) ≡ true → Ends w
Ends (end m) = Diagonal m

abbrev Matrix : Type 0
Matrix = List (List Float)

passed : (b : Bool) (x : Ended Matrix) (n : ℕ) (m : Matrix) → cond b x (refused n) ≡ given m → (b ≡ true) × (x ≡ given m)
passed true x n m e = (refl, e)
passed false x n m e = absurd (let z : ◌≡◌ {A = ℕ} 0 1 = cc in omega arith)

answering : (a : Answer) (g : Float → Ended Matrix) (m : Matrix) → asked a g ≡ given m → (v : Float) × (g v ≡ given m)
answering (answers.Value v) g m e = (v, e)
answering (answers.Refused n) g m e = absurd (let z : ◌≡◌ {A = ℕ} 0 1 = cc in omega arith)

chosen : (b : Bool) (x y : Ended Matrix) (m : Matrix) → (x ≡ given m → Diagonal m) → (y ≡ given m → Diagonal m) → cond b x y ≡ given m → Diagonal m
chosen true x y m f g e = f e
chosen false x y m f g e = g e

ended : (a m : Matrix) → Diagonal a → ◌≡◌ {A = Ended Matrix} (given a) (given m) → Diagonal m
ended a m d e = let z : a ≡ m = cc in subst Diagonal z d

given_finite : (w : Walk Matrix) → Ends w → (m : Matrix) → walk_result w ≡ given m → Diagonal m
given_finite (inputs l w) h m e = given_finite w h m (passed (all_of finite l) (walk_result w) not_finite m e).1
given_finite (ask n f x k) h m e =
    let q = answering (answer_of f (value x)) (λ v. walk_result (k (num v))) m e in
    given_finite (k (num q.0)) (h (num q.0)) m q.1
given_finite (works n es k) h m e = given_finite (k (values es)) (h (values es)) m (passed (numbers es) (walk_result (k (values es))) no_number m e).1
given_finite (either n t a b k) h m e =
    let y = walk_result (k (num (picked t a b))) in
    let q = passed (tellable t) (cond (is_number (picked t a b)) y (refused no_number)) no_number m e in
    given_finite (k (num (picked t a b))) (h (num (picked t a b))) m (passed (is_number (picked t a b)) y no_number m q.1).1
given_finite (branch n t w v) h m e =
    chosen (holds t) (walk_result w) (walk_result v) m (given_finite w h.0 m) (given_finite v h.1 m)
    (passed (tellable t) (cond (holds t) (walk_result w) (walk_result v)) no_number m e).1
given_finite (split n t w v) h m e =
    chosen (holds t) (walk_result w) (walk_result v) m (given_finite w h.0 m) (given_finite v h.1 m)
    (passed (tellable t) (cond (holds t) (walk_result w) (walk_result v)) no_number m e).1
given_finite (results n l w) h m e =
    let q = passed (mat_finite (worth l)) (walk_result w) no_number m e in
    given_finite w (h q.0) m q.1
given_finite (end a) h m e = ended a m h e

-- zeros stand beside a refusal
by_end : (x : Ended Matrix) → ((m : Matrix) → x ≡ given m → Diagonal m) → row_finite (diagonal (matrix_as x)) ≡ true
unfolding finite of_bits
by_end (given m) h = h m refl
by_end (refused n) h = refl

pub diagonal_finite : (w : Walk Matrix) → Ends w → row_finite (diagonal (matrix_as (walk_result w))) ≡ true
diagonal_finite w h = by_end (walk_result w) (given_finite w h)

-- ---- of a matrix of three rows of three
abbrev entry : List (List Expr) → ℕ → ℕ → Expr
entry m i j = get_or (get_or m i []) j (num nan)

abbrev Three : List (List Expr) → Type 0
Three m =
    m
    ≡ three (three (entry m 0 0) (entry m 0 1) (entry m 0 2))
    (three (entry m 1 0) (entry m 1 1) (entry m 1 2))
    (three (entry m 2 0) (entry m 2 1) (entry m 2 2))

nine : (a b c d e f g h i : Bool) → (a && b && c) && (d && e && f) && (g && h && i) ≡ true → a && e && i ≡ true
nine true b c d true f g h true q = refl
nine false b c d e f g h i q = q
nine true b c d e f g h false q = absurd (false≢true (and_both (g && h) false (and_both ((true && b && c) && (d && e && f)) (g && h && false) q).1).1)
nine true b c d false f g h true q = absurd (false≢true (and_both d false (and_both (d && false) f (and_both (true && b && c) (d && false && f) (and_both ((true && b && c) && (d && false && f)) (g && h && true) q).0).1).0).1)

on_nine : (a b c d e f g h i : Expr) → mat_finite (worth (three (three a b c) (three d e f) (three g h i))) ≡ true → row_finite (three (value a) (value e) (value i)) ≡ true
on_nine a b c d e f g h i q =
    nine (finite (value a)) (finite (value b)) (finite (value c)) (finite (value d)) (finite (value e)) (finite (value f)) (finite (value g)) (finite (value h)) (finite (value i)) q

pub of_three : (m : List (List Expr)) → Three m → mat_finite (worth m) ≡ true → Diagonal (worth m)
of_three m s q =
    subst (λ (l : List (List Expr)). Diagonal (worth l)) (sym s)
    (on_nine (entry m 0 0) (entry m 0 1) (entry m 0 2) (entry m 1 0) (entry m 1 1) (entry m 1 2) (entry m 2 0) (entry m 2 1) (entry m 2 2)
    (subst (λ (l : List (List Expr)). mat_finite (worth l) ≡ true) s q))

-- ---- of both laws
ends_mosts : (n : ℕ) (l : List Float) (b : Expr) (k : List Float → Walk Matrix) → ((vs : List Float) → Ends (k vs)) → Ends (mosts n l b k)
ends_mosts n [] b k h = h []
ends_mosts n (x ∷ l) b k h = λ v. ends_mosts n l b (λ vs. k (value v ∷ vs)) (λ vs. h (value v ∷ vs))

ends_leasts : (n : ℕ) (l : List Float) (b : Expr) (k : List Float → Walk Matrix) → ((vs : List Float) → Ends (k vs)) → Ends (leasts n l b k)
ends_leasts n [] b k h = h []
ends_leasts n (x ∷ l) b k h = λ v. ends_leasts n l b (λ vs. k (value v ∷ vs)) (λ vs. h (value v ∷ vs))

pub neo_ends : (p : NeoHookeanElasticity) (phase h : Float) (f : List (List Float)) → Ends (kirchhoff_steps p phase h f)
unfolding kirchhoff_steps kirchhoff_from rows plus scaled identity_times deviatoric
neo_ends p phase h f = λ js ks bs w.
    let vol = volumetric (num (get_or js 0 (value (determinant f)))) (num (get_or ks 0 (value (bulk p h)))) in
    let dev = shear p h w (worth (cauchy_green f)) in
    (of_three (tensile (coefficient phase) dev vol) refl, of_three (compressed (coefficient phase) dev vol) refl)

pub corotated_ends : (p : CorotatedLinearElasticity) (phase h : Float) (f u : List (List Float)) (s : List Float) (vt : List (List Float)) → Ends (stress_steps p phase h f u s vt)
unfolding stress_steps stress_from rows plus scaled identity_times times turned
corotated_ends p phase h f u s vt = λ js e.
    let sph = spherical_stress p h (num (get_or js 0 (value (determinant f)))) in (
      of_three (plus (dev_stress p h f u e vt) sph) refl,
      ends_mosts 4 e _ _ (λ pos. ends_leasts 5 e _ _ (λ neg. (
        of_three (below (phase_coeff p phase) (dev_stress p h f u pos vt) (dev_stress p h f u neg vt) sph) refl,
        of_three (above (phase_coeff p phase) (dev_stress p h f u pos vt) (dev_stress p h f u neg vt) sph) refl,
      ))),
    )
