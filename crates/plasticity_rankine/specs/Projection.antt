-- The Rankine projection on log strains (RULES, section 5; plasticity_rankine.rs, `update_particle`). The steps: 4, 5 and 6 the tests,
-- 10 the results of a call by itself.
use Rattle.std.specs.Prelude.{Bool, cond, List, [], ◌∷◌, ◌++◌, ℕ, eqb, Float}
use Rattle.numbers.specs.Constants as constants
pub use Rattle.numbers.specs.Constants.{two}
use Rattle.tensor.specs.Matrix.{three}
use Rattle.tensor.specs.Answer.{zero_row, refused_vector}
use Rattle.tensor.specs.declared.VectorAnswer.{VectorAnswer}
use Rattle.walk.specs.Expr.{Expr, num, ◌+ᵉ◌, ◌-ᵉ◌, ◌*ᵉ◌, ◌/ᵉ◌, value, values, nums}
use Rattle.walk.specs.Walk.{Walk, at_most, inputs, branch, results, end, ◌then◌, Ended, given, refused, walk_result}
use Rattle.walk.specs.Matrix.{sum}
use Rattle.plasticity_rankine.specs.declared.RankineArguments.{RankineArguments}
use Rattle.plasticity_rankine.specs.declared.RankinePlasticity.{RankinePlasticity}
use Rattle.plasticity_rankine.specs.declared.Sorted.{Sorted}
use Rattle.plasticity_rankine.specs.Law.{law_of, parameters_of, arguments_floats, moduli}
use Rattle.plasticity_rankine.specs.Sorting.{order_of, arrange_of, restored_of}

-- the Rust's literal 3
abbrev pub thrice : Float
thrice = constants.three

-- ---- the formulas: c <= b <= a are the strains, S their sum in index order, s the softened strength
-- the left sides of the three tests
abbrev pub first_side : RankinePlasticity → Expr → Expr → Expr
first_side p S a = num p.lambda *ᵉ S +ᵉ num two *ᵉ num p.mu *ᵉ a

abbrev pub second_side : RankinePlasticity → Expr → Expr → Expr → Expr
second_side p S a b = (num two *ᵉ num p.mu +ᵉ num p.lambda) *ᵉ b +ᵉ num p.lambda *ᵉ (S -ᵉ a)

abbrev pub third_side : RankinePlasticity → Expr → Expr
third_side p c = (num two *ᵉ num p.mu +ᵉ num thrice *ᵉ num p.lambda) *ᵉ c

-- what a becomes, what a and b become, what all become
abbrev pub back_one : RankinePlasticity → Expr → Expr → Expr → Expr
back_one p s S a = (s -ᵉ num p.lambda *ᵉ (S -ᵉ a)) /ᵉ (num two *ᵉ num p.mu +ᵉ num p.lambda)

abbrev pub back_two : RankinePlasticity → Expr → Expr → Expr → Expr → Expr
back_two p s S a b = (s -ᵉ num p.lambda *ᵉ (S -ᵉ a -ᵉ b)) /ᵉ (num two *ᵉ num p.mu +ᵉ num two *ᵉ num p.lambda)

abbrev pub back_all : RankinePlasticity → Expr → Expr
back_all p s = s /ᵉ (num two *ᵉ num p.mu +ᵉ num thrice *ᵉ num p.lambda)

-- on two axes what both become (ticket 13: "else divides by 2mu + 2lambda")
abbrev pub back_both : RankinePlasticity → Expr → Expr
back_both p s = s /ᵉ (num two *ᵉ num p.mu +ᵉ num two *ᵉ num p.lambda)

-- ---- where it ends: how many strains move, with the two numbers last compared, and the strains after it in index order. A NaN in these is
-- in what is asked next
pub data Way : Type 0 where
  none_moves : Float → Float → Way
  one_moves : Float → Float → Way
  two_move : Float → Float → Way
  all_move : Float → Float → Way

-- the branch's number (docs/STEPS.md), by the test that chose it and whether that held: how many strains move
abbrev pub branch_number : ℕ → Bool → ℕ
branch_number test held = cond (eqb test 4) 0 (cond (eqb test 5) 1 (cond held 2 3))

abbrev pub way_number : Way → ℕ
way_number (none_moves x y) = 0
way_number (one_moves x y) = 1
way_number (two_move x y) = 2
way_number (all_move x y) = 3

pub record Moved : Type 0 where
  pub way : Way
  pub strains : List Expr

-- strains that stand in the order k
abbrev pub ends : Way → List ℕ → List Expr → Walk Moved
ends w k l = end (record { way = w; strains = restored_of k l })

-- ---- the tests, on the strains e that stand sorted in r
-- "Else if (2mu + 3lambda) c <= s, a and b become .. Else all become s/(2mu + 3lambda)."
unfoldable pub third_walk : RankinePlasticity → List ℕ → List Float → Sorted → Expr → Walk Moved
third_walk p k e r s =
    let a = num r.high in
    let b = num r.mid in
    let c = num r.low in
    branch 6 (at_most (third_side p c) s)
    (ends (two_move (value (third_side p c)) (value s)) k (three c (back_two p s (sum e) a b) (back_two p s (sum e) a b)))
    (ends (all_move (value (third_side p c)) (value s)) k (three (back_all p s) (back_all p s) (back_all p s)))

-- "Else if (2mu + lambda) b + lambda(S - a) <= s, a becomes (s - lambda(S - a))/(2mu + lambda)."
unfoldable pub second_walk : RankinePlasticity → List ℕ → List Float → Sorted → Expr → Walk Moved
second_walk p k e r s =
    let a = num r.high in
    let b = num r.mid in
    let c = num r.low in
    branch 5 (at_most (second_side p (sum e) a b) s)
    (ends (one_moves (value (second_side p (sum e) a b)) (value s)) k (three c b (back_one p s (sum e) a)))
    (third_walk p k e r s)

-- "if lambda S + 2mu a <= s, untouched."
unfoldable pub first_walk : RankinePlasticity → List ℕ → List Float → Sorted → Expr → Walk Moved
first_walk p k e r s =
    let a = num r.high in
    branch 4 (at_most (first_side p (sum e) a) s)
    (end (record { way = none_moves (value (first_side p (sum e) a)) (value s); strains = nums e }))
    (second_walk p k e r s)

-- "sorted upwards; equal ones keep index order"
abbrev pub project_walk : RankinePlasticity → List Float → Expr → Walk Moved
project_walk p e s = first_walk p (order_of e) e (arrange_of (order_of e) e) s

-- ---- the projection as a call by itself, over the projection of however many axes: of a law and of the arguments of `new`
abbrev pub returned_walk : Moved → Walk (List Float)
returned_walk q = results 10 (q.strains ∷ []) (end (values q.strains))

unfoldable pub call_floats : List Float → List Float → Float → List Float
call_floats l e s = l ++ (e ++ (s ∷ []))

unfoldable pub call_over : (RankinePlasticity → List Float → Expr → Walk Moved) → List Float → RankinePlasticity → List Float → Float → Walk (List Float)
call_over project l p e s = inputs (call_floats l e s) (moduli p (project p e (num s) then returned_walk))

abbrev pub project_call : RankinePlasticity → List Float → Float → Walk (List Float)
project_call p e s = call_over project_walk (parameters_of p) p e s

abbrev pub arguments_call : RankineArguments → List Float → Float → Walk (List Float)
arguments_call a e s = call_over project_walk (arguments_floats a) (law_of a) e s

-- ---- what the calls answer: zeros stand beside a refusal
abbrev pub strains_of : Ended Moved → List Float
strains_of (given q) = values q.strains
strains_of (refused n) = zero_row

abbrev pub vector_of : Ended (List Float) → VectorAnswer
vector_of (given v) = record { refusal = 0; vector = v }
vector_of (refused n) = refused_vector n

abbrev pub project_of : RankinePlasticity → List Float → Float → VectorAnswer
project_of p e s = vector_of (walk_result (project_call p e s))

abbrev pub arguments_project : RankineArguments → List Float → Float → VectorAnswer
arguments_project a e s = vector_of (walk_result (arguments_call a e s))
