-- The step bound's maximum and minimum have no NaN to hide: a sum of squares of finite numbers is a number, and so is a finite width over a root of 1 or more.
use mathlib.Core.Bool.{Bool, true, false, cond, beq, true≢false}
use mathlib.Core.List.{List, [], ◌∷◌, foldl}
use mathlib.Core.Path.{◌≡◌, refl, ap, sym, ◌∙◌, subst}
use Prim.Native.Nat.{ℕ, zero, suc, ◌+◌, ◌*◌, ◌^◌, ◌≤◌}
use native.Mathlib.Nat.{mul-pos, mul-le-mul, zero-lt-suc}
use native.Mathlib.Omega.{arith}
use lib.Dec.{T, ltb, leb→le, eqb-suc-zero}
use lib.Ieee as Ieee
use lib.Ieee.{Float, Format, nan, inf, fin, binary64, of_bits, fits, up, down, round, le}
use lib.Ieee.Fits.{down_pos, div-fits}
use lib.Ieee.Order.{round_mono}
use lib.Ieee.Positive.{positive, above, le→cross, above_of_le}
use Rattle.exact.specs.Units.{mag, sgn}
use Rattle.exact.proofs.Positives.{one_fine, one_is, le_mag}
use Rattle.exact.specs.RootOf.{sqrt_of}
use Rattle.answers.specs.Refusals.{no_number}
use Rattle.answers.specs.Range.{in_range, side_of}
use Rattle.answers.specs.Answer.{answered_of}
use Rattle.answers.specs.declared.Answer.TheVariants.{Value, Refused}
use Rattle.numbers.specs.Floats.{finite, is_number, max_of, min_of}
use Rattle.square_root.specs.Sqrt as square_root_lem
use Rattle.square_root.proofs.InRange.{in_range_lem, rooted}
use Rattle.tensor.specs.Axes.{pairwise}
use Rattle.tensor.specs.Matrix.{add, mul, div, one, sum_of, dot_of}
use Rattle.tensor.specs.Finite.{row_finite}
use Rattle.walk.specs.Expr.{Expr, num, ◌/ᵉ◌, value}
use Rattle.walk.proofs.Expr.{zero_number}
use Rattle.walk.specs.Walk.{root, answer_of, Walk, ask, least, asked, walk_result, answer_as}
use Rattle.walk.proofs.Steps.{most_answers, least_answers}
use Rattle.walk.proofs.Every.{every, all_every, and_left, and_right}
use Rattle.walk.specs.Matrix.{dot}
use Rattle.walk.proofs.Matrix.{value_dot}
use Rattle.walk.specs.Tensor as tensor
use Rattle.walk.proofs.Tensor.{one_number}
use Rattle.walk.specs.Answers.{returned}
use Rattle.walk.proofs.Answers.{returned_law}
use Rattle.eos_monaghan_sph.specs.Timestep.{density_fluctuation, c_square, cfl}

-- ---- what is rounded is a number of its sign
abbrev signed : Bool → Float → Bool
signed s nan = false
signed s (inf t) = beq s t
signed s (fin t m e) = beq s t

like : (s : Bool) → beq s s ≡ true
like true = refl
like false = refl

signed_number : (s : Bool) (x : Float) → signed s x ≡ true → is_number x ≡ true
unfolding is_number
signed_number s nan h = h
signed_number s (inf t) h = refl
signed_number s (fin t m e) h = refl

odd_signed : (d : ℕ) (s : Bool) (q k l : ℕ) → signed s (Ieee.odd d s q k l) ≡ true
unfolding Ieee.odd
odd_signed d s zero k l = like s
odd_signed d s (suc q) k l = like s

picked_signed : (s b : Bool) (x : Float) → signed s x ≡ true → signed s (cond b x (inf s)) ≡ true
picked_signed s true x h = h
picked_signed s false x h = like s

units_signed : (f : Format) (s : Bool) (q k : ℕ) → signed s (Ieee.units f s q k) ≡ true
unfolding Ieee.units
units_signed f s q k =
    picked_signed s (ltb (q * 2 ^ k) (2 ^ (Ieee.low f + suc (Ieee.emax f)))) (Ieee.odd (suc (Ieee.prec f)) s q k (Ieee.low f)) (odd_signed (suc (Ieee.prec f)) s q k (Ieee.low f))

round_signed : (f : Format) (s : Bool) (n d : ℕ) → signed s (round f s n d) ≡ true
unfolding round
round_signed f s n d = units_signed f s _ _

-- ---- a sum of squares
square_signed : (x : Float) → finite x ≡ true → signed false (mul x x) ≡ true
unfolding finite Ieee.mul
square_signed nan h = h
square_signed (inf s) h = absurd (true≢false (sym h))
square_signed (fin true m e) h = round_signed binary64 false (m * up e * (m * up e)) (down e * down e)
square_signed (fin false m e) h = round_signed binary64 false (m * up e * (m * up e)) (down e * down e)

add_signed : (x y : Float) → signed false x ≡ true → signed false y ≡ true → signed false (add x y) ≡ true
unfolding Ieee.add Ieee.sum
add_signed nan y h i = h
add_signed (inf true) y h i = absurd (true≢false (sym h))
add_signed (inf false) nan h i = i
add_signed (inf false) (inf true) h i = absurd (true≢false (sym i))
add_signed (inf false) (inf false) h i = refl
add_signed (inf false) (fin t n d) h i = refl
add_signed (fin true m e) y h i = absurd (true≢false (sym h))
add_signed (fin false m e) nan h i = i
add_signed (fin false m e) (inf t) h i = i
add_signed (fin false m e) (fin true n d) h i = absurd (true≢false (sym i))
add_signed (fin false m e) (fin false n d) h i = round_signed binary64 false (m * up e * down d + n * up d * down e) (down e * down d)

sum_signed : (x : Float) (l : List Float) → signed false x ≡ true → every finite l ≡ true → signed false (foldl add x (pairwise mul l l)) ≡ true
sum_signed x [] h i = h
sum_signed x (y ∷ l) h i =
    sum_signed (add x (mul y y)) l (add_signed x (mul y y) h (square_signed y (and_left (finite y) (every finite l) i))) (and_right (finite y) (every finite l) i)

squares : (l : List Float) → every finite l ≡ true → is_number (dot_of l l) ≡ true
unfolding dot_of sum_of
squares [] h = zero_number
squares (x ∷ l) h =
    signed_number false (foldl add (mul x x) (pairwise mul l l))
    (sum_signed (mul x x) l (square_signed x (and_left (finite x) (every finite l) h)) (and_right (finite x) (every finite l) h))

pub squares_number : (v : List Float) → row_finite v ≡ true → is_number (dot_of v v) ≡ true
squares_number v h = squares v (sym (all_every finite v) ∙ h)

-- ---- 1 or more over 0.1 is 1 or more, its root too
one_positive : T (positive one)
unfolding of_bits
one_positive = tt

one_round : round binary64 false 1 1 ≡ one
unfolding round of_bits
one_round = refl

most_one : (b : Bool) (d : Float) → Ieee.lt one d ≡ b → T (le one (cond b d one))
unfolding le
most_one true d h = rw h tt
most_one false d h = unfold Ieee.lt Ieee.eq of_bits in tt

at_least_one : (d : Float) → T (le one (max_of d one))
at_least_one d = rw one_number (most_one (Ieee.lt one d) d refl)

above_sign : (x : Float) → T (above x) → sgn x ≡ false
above_sign nan h = absurd h
above_sign (inf true) h = absurd h
above_sign (inf false) h = refl
above_sign (fin true m e) h = absurd h
above_sign (fin false m e) h = refl

-- 0.1 is n / 2 ^ 55, at most 1, and a / b is 1 or more
tenfold : (n a b : ℕ) → n ≤ 2 ^ 55 → 1 * b ≤ a * 1 → 1 * (n * 1 * b) ≤ a * 2 ^ 55 * 1
tenfold n a b h i = omega (arith, mul-le-mul h i)

over_tenth : (x : Float) → T (above x) → T (le one x) → T (le one (div x density_fluctuation))
unfolding Ieee.div of_bits
over_tenth nan a h = absurd a
over_tenth (inf true) a h = absurd a
over_tenth (inf false) a h = unfold le Ieee.lt in tt
over_tenth (fin true m e) a h = absurd a
over_tenth (fin false m e) a h =
    let n : ℕ = 3602879701896397 in
    subst (λ z. T (le z (round binary64 false (m * up e * 2 ^ 55) (n * 1 * down e)))) one_round
    (round_mono binary64 1 1 (m * up e * 2 ^ 55) (n * 1 * down e) (zero-lt-suc 0) (mul-pos (zero-lt-suc 3602879701896396) (down_pos e))
    (tenfold n (m * up e) (down e) (leb→le n (2 ^ 55) tt) (le→cross one (fin false m e) one_positive a h)))

root_above : (w : Float) → T (fits binary64 w) → in_range square_root_lem.least square_root_lem.largest w ≡ true → T (le one w) → T (above (sqrt_of w))
root_above w f r h =
    let k = in_range_lem w f r in
    let m = subst (λ n. n ≤ mag w) one_is.0 (le_mag one w one_fine k.0 one_is.1 (above_sign w (above_of_le one w one_positive h)) h) in
    above_of_le one (sqrt_of w) one_positive (subst (λ z. T (le z (sqrt_of w))) one_round ((rooted w f r).above 1 1 (zero-lt-suc 0) (omega arith)))

-- ---- a finite number over one above zero
over_number : (x y : Float) → finite x ≡ true → T (above y) → is_number (div x y) ≡ true
unfolding finite is_number Ieee.div
over_number nan y h a = h
over_number (inf s) y h a = absurd (true≢false (sym h))
over_number (fin s m e) nan h a = absurd a
over_number (fin s m e) (inf t) h a = refl
over_number (fin s m e) (fin true n d) h a = absurd a
over_number (fin s m e) (fin false zero d) h a = absurd a
over_number (fin s m e) (fin false (suc n) d) h a =
    let t = Ieee.unlike s false in
    let a = m * up e * down d in
    let b = suc n * up d * down e in
    rw eqb-suc-zero (signed_number t (round binary64 t a b) (round_signed binary64 t a b))

-- what answers lies in the range
answering : (a b : Bool) (n : ℕ) (v x : Float) → cond a (cond b (Value v) (Refused n)) (Refused no_number) ≡ Value x → (b ≡ true) × (v ≡ x)
answering true true n v x h = (refl, cc)
answering true false n v x h = absurd (let z : ◌≡◌ {A = ℕ} 0 1 = cc in omega arith)
answering false b n v x h = absurd (let z : ◌≡◌ {A = ℕ} 0 1 = cc in omega arith)

-- ---- the steps as the code works them
module _ (velocity : List Float) (width : Float) where
  -- what the root is taken of
  abbrev pub speeds : Float
  speeds = value (c_square (num (max_of (dot_of velocity velocity) one)))

  pub cfl_law : row_finite velocity ≡ true → (k : Expr → Walk Float) → walk_result (cfl velocity width k) ≡ asked (answer_of root speeds) (λ c. walk_result (k (num width /ᵉ num c)))
  cfl_law q k =
      most_answers 7 (dot velocity velocity) tensor.one (λ square. ask 8 root (c_square square) (λ c. k (num width /ᵉ c)))
      (ap is_number (value_dot velocity velocity) ∙ squares_number velocity q) one_number
      ∙ ap (λ d. asked (answer_of root (value (c_square (num (max_of d one))))) (λ c. walk_result (k (num width /ᵉ num c)))) (value_dot velocity velocity)

  pub step_number : finite width ≡ true → (c : Float) → answer_of root speeds ≡ Value c → is_number (div width c) ≡ true
  step_number q c h =
      let m = max_of (dot_of velocity velocity) one in
      let l = at_least_one (dot_of velocity velocity) in
      let r = answering (is_number speeds) (in_range square_root_lem.least square_root_lem.largest speeds) (side_of square_root_lem.least square_root_lem.largest speeds) (sqrt_of speeds) c h in
      over_number width c q
      (subst (λ z. T (above z)) r.1
      (root_above speeds (div-fits binary64 m density_fluctuation) r.0 (over_tenth m (above_of_le one m one_positive l) l)))

  pub smaller_law : finite width ≡ true → (single c : Float) → is_number single ≡ true → answer_of root speeds ≡ Value c
      → answer_as (walk_result (least 9 (num single) (num width /ᵉ num c) (λ dt. returned 10 dt))) ≡ answered_of (min_of single (div width c))
  smaller_law q single c s h =
      ap answer_as (least_answers 9 (num single) (num width /ᵉ num c) (λ dt. returned 10 dt) s (step_number q c h)) ∙ returned_law 10 (num (min_of single (div width c)))
