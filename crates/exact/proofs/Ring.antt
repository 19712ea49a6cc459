-- polynomials over ℤ, by computation: equations, and inequalities between variables that are not negative
use mathlib.Core.Path.{◌≡◌, refl, sym, ap, ap₂, ◌∙◌}
use mathlib.Core.List.{List, [], ◌∷◌}
use Prim.Native.Nat.{ℕ, zero, suc, zero-le}
use mathlib.Core.Bool.{Bool, true, false, ◌&&◌}
use lib.IntN.{ℤ, pos, negsuc, neg_ℤ, ◌+ℤ◌, ◌*ℤ◌}
use lib.Dec.{T}
use lib.Ieee.Fits.{and_l, and_r}
use Rattle.exact.specs.Integers.{◌≤ᶻ◌}
use Rattle.exact.proofs.Integers.{+_comm, +_assoc, *-comm, *-assoc, *-+, +-*, +-left-comm, *-left-comm, 0+, +0, *0, 0*, 1*, *1, neg_is, eq_of_sub, +-nn, *-nn, sqr_nn, le_of_sub}

-- k variables: a list of coefficients in the first one, each a polynomial in the others
abbrev Pol : ℕ → Type 0
Pol zero = ℤ
Pol (suc k) = List (Pol k)

abbrev pub Env : ℕ → Type 0
Env zero = Unit {0}
Env (suc k) = ℤ × Env k

abbrev horn : {A : Type 0} → (A → ℤ) → ℤ → List A → ℤ
horn f x [] = pos 0
horn f x (c ∷ cs) = f c +ℤ x *ℤ horn f x cs

abbrev ev : (k : ℕ) → Pol k → Env k → ℤ
ev zero c ρ = c
ev (suc k) cs ρ = horn (λ c. ev k c ρ.1) ρ.0 cs

abbrev zip : {A : Type 0} → (A → A → A) → List A → List A → List A
zip f [] vs = vs
zip f (a ∷ us) [] = a ∷ us
zip f (a ∷ us) (b ∷ vs) = f a b ∷ zip f us vs

abbrev each : {A : Type 0} → (A → A) → List A → List A
each f [] = []
each f (a ∷ us) = f a ∷ each f us

abbrev conv : {A : Type 0} → A → (A → A → A) → (A → A → A) → List A → List A → List A
conv z f g [] vs = []
conv z f g (a ∷ us) vs = zip f (each (g a) vs) (z ∷ conv z f g us vs)

abbrev add_p : (k : ℕ) → Pol k → Pol k → Pol k
add_p zero = ◌+ℤ◌
add_p (suc k) = zip (add_p k)

abbrev zero_p : (k : ℕ) → Pol k
zero_p zero = pos 0
zero_p (suc k) = []

abbrev con_p : (k : ℕ) → ℤ → Pol k
con_p zero c = c
con_p (suc k) c = con_p k c ∷ []

abbrev mul_p : (k : ℕ) → Pol k → Pol k → Pol k
mul_p zero = ◌*ℤ◌
mul_p (suc k) = conv (zero_p k) (add_p k) (mul_p k)

abbrev var_p : (k : ℕ) → ℕ → Pol k
var_p zero i = pos 0
var_p (suc k) zero = zero_p k ∷ con_p k (pos 1) ∷ []
var_p (suc k) (suc i) = var_p k i ∷ []

-- ---- soundness
swap4 : (a b c d : ℤ) → a +ℤ b +ℤ (c +ℤ d) ≡ a +ℤ c +ℤ (b +ℤ d)
swap4 a b c d = simp (+_assoc, +_comm, +-left-comm)

horn_zip : {A : Type 0} (e : A → ℤ) (f : A → A → A) → ((a b : A) → e (f a b) ≡ e a +ℤ e b) → (x : ℤ) (us vs : List A) → horn e x (zip f us vs) ≡ horn e x us +ℤ horn e x vs
horn_zip e f h x [] vs = sym (0+ _)
horn_zip e f h x (a ∷ us) [] = sym (+0 _)
horn_zip e f h x (a ∷ us) (b ∷ vs) = ap₂ ◌+ℤ◌ (h a b) (ap (λ y. x *ℤ y) (horn_zip e f h x us vs) ∙ *-+ x (horn e x us) (horn e x vs)) ∙ swap4 (e a) (e b) (x *ℤ horn e x us) (x *ℤ horn e x vs)

horn_each : {A : Type 0} (e : A → ℤ) (g : A → A → A) → ((a b : A) → e (g a b) ≡ e a *ℤ e b) → (x : ℤ) (a : A) (vs : List A) → horn e x (each (g a) vs) ≡ e a *ℤ horn e x vs
horn_each e g h x a [] = sym (*0 (e a))
horn_each e g h x a (b ∷ vs) = ap₂ ◌+ℤ◌ (h a b) (ap (λ y. x *ℤ y) (horn_each e g h x a vs) ∙ *-left-comm x (e a) (horn e x vs)) ∙ sym (*-+ (e a) (e b) (x *ℤ horn e x vs))

horn_conv : {A : Type 0} (z : A) (e : A → ℤ) (f g : A → A → A) → e z ≡ pos 0 → ((a b : A) → e (f a b) ≡ e a +ℤ e b) → ((a b : A) → e (g a b) ≡ e a *ℤ e b) → (x : ℤ) (us vs : List A) → horn e x (conv z f g us vs) ≡ horn e x us *ℤ horn e x vs
horn_conv z e f g o h k x [] vs = sym (0* (horn e x vs))
horn_conv z e f g o h k x (a ∷ us) vs = horn_zip e f h x (each (g a) vs) (z ∷ conv z f g us vs)
    ∙ ap₂ ◌+ℤ◌ (horn_each e g k x a vs) (ap₂ ◌+ℤ◌ o (ap (λ y. x *ℤ y) (horn_conv z e f g o h k x us vs)) ∙ 0+ (x *ℤ (horn e x us *ℤ horn e x vs)) ∙ sym (*-assoc x (horn e x us) (horn e x vs)))
    ∙ sym (+-* (e a) (x *ℤ horn e x us) (horn e x vs))

ev_zero : (k : ℕ) (ρ : Env k) → ev k (zero_p k) ρ ≡ pos 0
ev_zero zero ρ = refl
ev_zero (suc k) ρ = refl

ev_add : (k : ℕ) (ρ : Env k) (a b : Pol k) → ev k (add_p k a b) ρ ≡ ev k a ρ +ℤ ev k b ρ
ev_add zero ρ a b = refl
ev_add (suc k) ρ a b = horn_zip (λ c. ev k c ρ.1) (add_p k) (ev_add k ρ.1) ρ.0 a b

ev_mul : (k : ℕ) (ρ : Env k) (a b : Pol k) → ev k (mul_p k a b) ρ ≡ ev k a ρ *ℤ ev k b ρ
ev_mul zero ρ a b = refl
ev_mul (suc k) ρ a b = horn_conv (zero_p k) (λ c. ev k c ρ.1) (add_p k) (mul_p k) (ev_zero k ρ.1) (ev_add k ρ.1) (ev_mul k ρ.1) ρ.0 a b

ev_con : (k : ℕ) (ρ : Env k) (c : ℤ) → ev k (con_p k c) ρ ≡ c
ev_con zero ρ c = refl
ev_con (suc k) ρ c = ap₂ ◌+ℤ◌ (ev_con k ρ.1 c) (*0 ρ.0) ∙ +0 c

-- ---- expressions
infixl 6 ◌:+◌
infixl 6 ◌:-◌
infixl 7 ◌:*◌
pub data Ex : Type 0 where
  var : ℕ → Ex
  con : ℤ → Ex
  ◌:+◌ ◌:-◌ ◌:*◌ : Ex → Ex → Ex

abbrev look : (k : ℕ) → Env k → ℕ → ℤ
look zero ρ i = pos 0
look (suc k) ρ zero = ρ.0
look (suc k) ρ (suc i) = look k ρ.1 i

abbrev pub den : (k : ℕ) → Env k → Ex → ℤ
den k ρ (var i) = look k ρ i
den k ρ (con c) = c
den k ρ (a :+ b) = den k ρ a +ℤ den k ρ b
den k ρ (a :- b) = den k ρ a +ℤ neg_ℤ (den k ρ b)
den k ρ (a :* b) = den k ρ a *ℤ den k ρ b

abbrev norm : (k : ℕ) → Ex → Pol k
norm k (var i) = var_p k i
norm k (con c) = con_p k c
norm k (a :+ b) = add_p k (norm k a) (norm k b)
norm k (a :- b) = add_p k (norm k a) (mul_p k (con_p k (negsuc 0)) (norm k b))
norm k (a :* b) = mul_p k (norm k a) (norm k b)

ev_var : (k : ℕ) (ρ : Env k) (i : ℕ) → ev k (var_p k i) ρ ≡ look k ρ i
ev_var zero ρ i = refl
ev_var (suc k) ρ zero = ap₂ ◌+ℤ◌ (ev_zero k ρ.1) (ap (λ y. ρ.0 *ℤ y) (ap₂ ◌+ℤ◌ (ev_con k ρ.1 (pos 1)) (*0 ρ.0))) ∙ 0+ (ρ.0 *ℤ pos 1) ∙ *1 ρ.0
ev_var (suc k) ρ (suc i) = ap₂ ◌+ℤ◌ (ev_var k ρ.1 i) (*0 ρ.0) ∙ +0 (look k ρ.1 i)

sound : (k : ℕ) (ρ : Env k) (a : Ex) → ev k (norm k a) ρ ≡ den k ρ a
sound k ρ (var i) = ev_var k ρ i
sound k ρ (con c) = ev_con k ρ c
sound k ρ (a :+ b) = ev_add k ρ (norm k a) (norm k b) ∙ ap₂ ◌+ℤ◌ (sound k ρ a) (sound k ρ b)
sound k ρ (a :- b) = ev_add k ρ (norm k a) (mul_p k (con_p k (negsuc 0)) (norm k b)) ∙ ap₂ ◌+ℤ◌ (sound k ρ a) (ev_mul k ρ (con_p k (negsuc 0)) (norm k b) ∙ ap₂ ◌*ℤ◌ (ev_con k ρ (negsuc 0)) (sound k ρ b) ∙ sym (neg_is (den k ρ b)))
sound k ρ (a :* b) = ev_mul k ρ (norm k a) (norm k b) ∙ ap₂ ◌*ℤ◌ (sound k ρ a) (sound k ρ b)

-- ---- tests
abbrev all : {A : Type 0} → (A → Bool) → List A → Bool
all t [] = true
all t (a ∷ us) = t a && all t us

abbrev is0 : ℤ → Bool
is0 (pos zero) = true
is0 (pos (suc n)) = false
is0 (negsuc n) = false

abbrev is_zero : (k : ℕ) → Pol k → Bool
is_zero zero = is0
is_zero (suc k) = all (is_zero k)

horn_zero : {A : Type 0} (e : A → ℤ) (t : A → Bool) → ((a : A) → T (t a) → e a ≡ pos 0) → (x : ℤ) (us : List A) → T (all t us) → horn e x us ≡ pos 0
horn_zero e t h x [] q = refl
horn_zero e t h x (a ∷ us) q = ap₂ ◌+ℤ◌ (h a (and_l (t a) (all t us) q)) (ap (λ y. x *ℤ y) (horn_zero e t h x us (and_r (t a) (all t us) q)) ∙ *0 x)

ev_is0 : (k : ℕ) (ρ : Env k) (a : Pol k) → T (is_zero k a) → ev k a ρ ≡ pos 0
ev_is0 zero ρ (pos zero) t = refl
ev_is0 zero ρ (pos (suc n)) t = absurd t
ev_is0 zero ρ (negsuc n) t = absurd t
ev_is0 (suc k) ρ a t = horn_zero (λ c. ev k c ρ.1) (is_zero k) (ev_is0 k ρ.1) ρ.0 a t

pub ring : (k : ℕ) (ρ : Env k) (a b : Ex) → T (is_zero k (norm k (a :- b))) → den k ρ a ≡ den k ρ b
ring k ρ a b t = eq_of_sub (den k ρ a) (den k ρ b) (sym (sound k ρ (a :- b)) ∙ ev_is0 k ρ (norm k (a :- b)) t)

-- ---- inequalities: b - a is in the cone of the hypotheses 0 ≤ hᵢ
pub data Cone : Type 0 where
  hyp : ℕ → Cone
  lit : ℕ → Cone
  sqr : Ex → Cone
  ◌⊕◌ ◌⊗◌ : Cone → Cone → Cone

infixl 6 ◌⊕◌
infixl 7 ◌⊗◌
abbrev pub nth : List Ex → ℕ → Ex
nth [] i = con (pos 0)
nth (h ∷ hs) zero = h
nth (h ∷ hs) (suc i) = nth hs i

abbrev pub Holds : (k : ℕ) → Env k → List Ex → Type 0
Holds k ρ [] = Unit {0}
Holds k ρ (h ∷ hs) = (pos 0 ≤ᶻ den k ρ h) × Holds k ρ hs

abbrev pub term : List Ex → Cone → Ex
term hs (hyp i) = nth hs i
term hs (lit n) = con (pos n)
term hs (sqr e) = e :* e
term hs (a ⊕ b) = term hs a :+ term hs b
term hs (a ⊗ b) = term hs a :* term hs b

nth_nn : (k : ℕ) (ρ : Env k) (hs : List Ex) → Holds k ρ hs → (i : ℕ) → pos 0 ≤ᶻ den k ρ (nth hs i)
nth_nn k ρ [] q i = zero-le
nth_nn k ρ (h ∷ hs) q zero = q.0
nth_nn k ρ (h ∷ hs) q (suc i) = nth_nn k ρ hs q.1 i

term_nn : (k : ℕ) (ρ : Env k) (hs : List Ex) → Holds k ρ hs → (c : Cone) → pos 0 ≤ᶻ den k ρ (term hs c)
term_nn k ρ hs q (hyp i) = nth_nn k ρ hs q i
term_nn k ρ hs q (lit n) = zero-le
term_nn k ρ hs q (sqr e) = sqr_nn (den k ρ e)
term_nn k ρ hs q (a ⊕ b) = +-nn (den k ρ (term hs a)) (den k ρ (term hs b)) (term_nn k ρ hs q a) (term_nn k ρ hs q b)
term_nn k ρ hs q (a ⊗ b) = *-nn (den k ρ (term hs a)) (den k ρ (term hs b)) (term_nn k ρ hs q a) (term_nn k ρ hs q b)

pub bound : (k : ℕ) (ρ : Env k) (hs : List Ex) → Holds k ρ hs → (c : Cone) (a b : Ex) → T (is_zero k (norm k (b :- a :- term hs c))) → den k ρ a ≤ᶻ den k ρ b
bound k ρ hs q c a b t = le_of_sub (den k ρ a) (den k ρ b) (rw (ring k ρ (b :- a) (term hs c) t) (term_nn k ρ hs q c))
