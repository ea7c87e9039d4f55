-- Views that fit form a monoid.
use Rattle.std.proofs.Common.{◌≡◌, ℕ, ◌+◌, ◌-◌, ◌*◌, ◌%◌, ◌^◌, ◌<◌, min, max, refl, sym, ap, ap₂, ◌∙◌, arith, lit<}
use Rattle.std.proofs.Math.Nat.{add-mod-mod, mod-add-mod, mod-lt, mod-eq_of_lt, mul_assoc, add-mul, add_assoc}
use Rattle.std.proofs.lemmas.Nat.{mul-mod_first, mul-mod_second}
use Rattle.model_reducers.specs.declared.monoid.Monoid.{Monoid}
use Rattle.model_reducers.specs.declared.monoid.Monoid.TheVariants.{Sum, Min, Max, Last, Digits}
use Rattle.model_reducers.specs.declared.view.View.{View}
use Rattle.model_reducers.specs.declared.view.View.TheVariants.{Nothing, One, Pair}
use Rattle.reducer_views.specs.Products.{FitsMonoid, MonoidLaw}
use Rattle.model_reducers.specs.Products.{identity_of, update_view, put_view, product_of}

sum_assoc : (n a b c : ℕ) → ((a + b) % n + c) % n ≡ (a + (b + c) % n) % n
sum_assoc n a b c = mod-add-mod (a + b) n c ∙ (ap (λ x. x % n) (add_assoc a b c) ∙ sym (add-mod-mod a (b + c) n))

product_assoc : (n a b c : ℕ) → ((a * b) % n * c) % n ≡ (a * ((b * c) % n)) % n
product_assoc n a b c = mul-mod_first (a * b) c n ∙ (ap (λ x. x % n) (mul_assoc a b c) ∙ sym (mul-mod_second a (b * c) n))

-- the number that is gathered, whose left part is multiplied on
gathered_assoc : (n a p b q c : ℕ) → ((a * p + b) % n * q + c) % n ≡ (a * ((p * q) % n) + (b * q + c) % n) % n
gathered_assoc n a p b q c =
    sym (mod-add-mod ((a * p + b) % n * q) n c) ∙
    (ap (λ x. (x + c) % n) (mul-mod_first (a * p + b) q n) ∙
    (mod-add-mod ((a * p + b) * q) n c ∙
    (ap (λ x. (x + c) % n) (add-mul (a * p) b q ∙ ap (λ x. x + b * q) (mul_assoc a p q)) ∙
    (ap (λ x. x % n) (add_assoc (a * (p * q)) (b * q) c) ∙
    (sym (mod-add-mod (a * (p * q)) n (b * q + c)) ∙
    (ap (λ x. (x + (b * q + c)) % n) (sym (mul-mod_second a (p * q) n)) ∙
    (mod-add-mod (a * ((p * q) % n)) n (b * q + c) ∙ sym (add-mod-mod (a * ((p * q) % n)) (b * q + c) n))))))))

min_assoc : (a b c : ℕ) → min (min a b) c ≡ min a (min b c)
min_assoc a b c = omega arith

max_assoc : (a b c : ℕ) → max (max a b) c ≡ max a (max b c)
max_assoc a b c = omega arith

pub product_of_assoc : (monoid : Monoid) (a b c : View) → FitsMonoid monoid a → FitsMonoid monoid b → FitsMonoid monoid c →
    product_of monoid (product_of monoid a b) c ≡ product_of monoid a (product_of monoid b c)
product_of_assoc Sum (One a) (One b) (One c) f g h = ap One (sum_assoc (2 ^ 64) a b c)
product_of_assoc Min (One a) (One b) (One c) f g h = ap One (min_assoc a b c)
product_of_assoc Max (One a) (One b) (One c) f g h = ap One (max_assoc a b c)
product_of_assoc Digits (Pair m a) (Pair p b) (Pair q c) f g h = ap₂ Pair (product_assoc (2 ^ 64) m p q) (gathered_assoc (2 ^ 64) a p b q c)
product_of_assoc Last a b Nothing f g h = refl
product_of_assoc Last a b (One c) f g h = refl
product_of_assoc Last a b (Pair q c) f g h = absurd h
product_of_assoc Sum Nothing b c f g h = absurd f
product_of_assoc Sum (Pair m a) b c f g h = absurd f
product_of_assoc Sum a Nothing c f g h = absurd g
product_of_assoc Sum a (Pair m b) c f g h = absurd g
product_of_assoc Sum a b Nothing f g h = absurd h
product_of_assoc Sum a b (Pair m c) f g h = absurd h
product_of_assoc Min Nothing b c f g h = absurd f
product_of_assoc Min (Pair m a) b c f g h = absurd f
product_of_assoc Min a Nothing c f g h = absurd g
product_of_assoc Min a (Pair m b) c f g h = absurd g
product_of_assoc Min a b Nothing f g h = absurd h
product_of_assoc Min a b (Pair m c) f g h = absurd h
product_of_assoc Max Nothing b c f g h = absurd f
product_of_assoc Max (Pair m a) b c f g h = absurd f
product_of_assoc Max a Nothing c f g h = absurd g
product_of_assoc Max a (Pair m b) c f g h = absurd g
product_of_assoc Max a b Nothing f g h = absurd h
product_of_assoc Max a b (Pair m c) f g h = absurd h
product_of_assoc Digits Nothing b c f g h = absurd f
product_of_assoc Digits (One a) b c f g h = absurd f
product_of_assoc Digits a Nothing c f g h = absurd g
product_of_assoc Digits a (One b) c f g h = absurd g
product_of_assoc Digits a b Nothing f g h = absurd h
product_of_assoc Digits a b (One c) f g h = absurd h

number_kept : (a : ℕ) → a < 2 ^ 64 → (0 + a) % 2 ^ 64 ≡ a
number_kept a h = let e : 0 + a ≡ a = omega arith in ap (λ x. x % 2 ^ 64) e ∙ mod-eq_of_lt h

one_kept : (a : ℕ) → a < 2 ^ 64 → (1 * a) % 2 ^ 64 ≡ a
one_kept a h = let e : 1 * a ≡ a = omega arith in ap (λ x. x % 2 ^ 64) e ∙ mod-eq_of_lt h

kept_one : (a : ℕ) → a < 2 ^ 64 → (a * 1) % 2 ^ 64 ≡ a
kept_one a h = let e : a * 1 ≡ a = omega arith in ap (λ x. x % 2 ^ 64) e ∙ mod-eq_of_lt h

kept_number : (a : ℕ) → a < 2 ^ 64 → (a + 0) % 2 ^ 64 ≡ a
kept_number a h = let e : a + 0 ≡ a = omega arith in ap (λ x. x % 2 ^ 64) e ∙ mod-eq_of_lt h

pub identity-left : (monoid : Monoid) (a : View) → FitsMonoid monoid a → product_of monoid (identity_of monoid) a ≡ a
identity-left Sum (One a) f = ap One (number_kept a f)
identity-left Min (One a) f = let e : min (2 ^ 64 - 1) a ≡ a = omega arith in ap One e
identity-left Max (One a) f = let e : max 0 a ≡ a = omega arith in ap One e
identity-left Last Nothing f = refl
identity-left Last (One a) f = refl
identity-left Digits (Pair m a) f =
    let e : 0 * m + a ≡ a = omega arith in
    ap₂ Pair (one_kept m f.0) (ap (λ x. x % 2 ^ 64) e ∙ mod-eq_of_lt f.1)
identity-left Sum Nothing f = absurd f
identity-left Sum (Pair m a) f = absurd f
identity-left Min Nothing f = absurd f
identity-left Min (Pair m a) f = absurd f
identity-left Max Nothing f = absurd f
identity-left Max (Pair m a) f = absurd f
identity-left Last (Pair m a) f = absurd f
identity-left Digits Nothing f = absurd f
identity-left Digits (One a) f = absurd f

pub identity-right : (monoid : Monoid) (a : View) → FitsMonoid monoid a → product_of monoid a (identity_of monoid) ≡ a
identity-right Sum (One a) f = ap One (kept_number a f)
identity-right Min (One a) f = let e : min a (2 ^ 64 - 1) ≡ a = omega arith in ap One e
identity-right Max (One a) f = let e : max a 0 ≡ a = omega arith in ap One e
identity-right Last a f = refl
identity-right Digits (Pair m a) f =
    let e : a * 1 + 0 ≡ a = omega arith in
    ap₂ Pair (kept_one m f.0) (ap (λ x. x % 2 ^ 64) e ∙ mod-eq_of_lt f.1)
identity-right Sum Nothing f = absurd f
identity-right Sum (Pair m a) f = absurd f
identity-right Min Nothing f = absurd f
identity-right Min (Pair m a) f = absurd f
identity-right Max Nothing f = absurd f
identity-right Max (Pair m a) f = absurd f
identity-right Digits Nothing f = absurd f
identity-right Digits (One a) f = absurd f

small : (n : ℕ) → n % 2 ^ 64 < 2 ^ 64
small n = mod-lt n (lit< tt)

pub product_of-fits : (monoid : Monoid) (a b : View) → FitsMonoid monoid a → FitsMonoid monoid b → FitsMonoid monoid (product_of monoid a b)
product_of-fits Sum (One a) (One b) f g = small (a + b)
product_of-fits Min (One a) (One b) f g = omega arith
product_of-fits Max (One a) (One b) f g = omega arith
product_of-fits Digits (Pair m a) (Pair p b) f g = (small (m * p), small (a * p + b))
product_of-fits Last a Nothing f g = f
product_of-fits Last a (One b) f g = g
product_of-fits Last a (Pair m b) f g = absurd g
product_of-fits Sum Nothing b f g = absurd f
product_of-fits Sum (Pair m a) b f g = absurd f
product_of-fits Sum a Nothing f g = absurd g
product_of-fits Sum a (Pair m b) f g = absurd g
product_of-fits Min Nothing b f g = absurd f
product_of-fits Min (Pair m a) b f g = absurd f
product_of-fits Min a Nothing f g = absurd g
product_of-fits Min a (Pair m b) f g = absurd g
product_of-fits Max Nothing b f g = absurd f
product_of-fits Max (Pair m a) b f g = absurd f
product_of-fits Max a Nothing f g = absurd g
product_of-fits Max a (Pair m b) f g = absurd g
product_of-fits Digits Nothing b f g = absurd f
product_of-fits Digits (One a) b f g = absurd f
product_of-fits Digits a Nothing f g = absurd g
product_of-fits Digits a (One b) f g = absurd g

pub identity_of-fits : (monoid : Monoid) → FitsMonoid monoid (identity_of monoid)
identity_of-fits Sum = lit< tt
identity_of-fits Min = lit< tt
identity_of-fits Max = lit< tt
identity_of-fits Last = tt
identity_of-fits Digits = (lit< tt, lit< tt)

pub update_view-fits : (monoid : Monoid) (number : ℕ) → number < 2 ^ 64 → FitsMonoid monoid (update_view monoid number)
update_view-fits Sum number h = h
update_view-fits Min number h = h
update_view-fits Max number h = h
update_view-fits Last number h = h
update_view-fits Digits number h = (lit< tt, h)

pub put_view-fits : (monoid : Monoid) (number : ℕ) → number < 2 ^ 64 → FitsMonoid monoid (put_view monoid number)
put_view-fits Sum number h = h
put_view-fits Min number h = h
put_view-fits Max number h = h
put_view-fits Last number h = h
put_view-fits Digits number h = (lit< tt, h)

pub monoid_law : MonoidLaw
monoid_law monoid = (
  record {
    associative = product_of_assoc monoid;
    left_identity = identity-left monoid;
    right_identity = identity-right monoid;
    closed = product_of-fits monoid;
    identity_fits = identity_of-fits monoid;
  },
  λ number h. (update_view-fits monoid number h, put_view-fits monoid number h),
)
