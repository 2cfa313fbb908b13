use Rattle.std.specs.Prelude.{◌≡◌, ◌⊎◌, IsTrue, refl}
use Rattle.std.proofs.Common.{arith, ap, inl, inr}
use Rattle.std.proofs.lemmas.Bool.Decides.{nat_tests}
use Rattle.core_term.specs.declared.sorts.Sort.{Sort}
use Rattle.core_term.specs.declared.sorts.Sort.TheVariants.{PropSort, SetSort, TypeSort}
use Rattle.core_term.specs.Sorts.{sort_below, greater_sort}
use Rattle.core_term.specs.SortLaws.{ProductIsMonotone, ProductKeepsLevels}

pub below_itself : (a : Sort) → IsTrue (sort_below a a)
below_itself PropSort = search
below_itself SetSort = search
below_itself (TypeSort i) = grind (arith, nat_tests)

pub below_both : (a b : Sort) → IsTrue (sort_below a b) → IsTrue (sort_below b a) → a ≡ b
below_both PropSort PropSort h k = refl
below_both SetSort SetSort h k = refl
below_both (TypeSort i) (TypeSort j) h k = let e : i ≡ j = grind (arith, nat_tests) in ap TypeSort e
below_both PropSort SetSort h k = grind arith
below_both PropSort (TypeSort j) h k = grind arith
below_both SetSort PropSort h k = grind arith
below_both SetSort (TypeSort j) h k = grind arith
below_both (TypeSort i) PropSort h k = grind arith
below_both (TypeSort i) SetSort h k = grind arith

pub below_through : (a b c : Sort) → IsTrue (sort_below a b) → IsTrue (sort_below b c) → IsTrue (sort_below a c)
below_through PropSort b c h k = grind arith
below_through SetSort SetSort c h k = k
below_through SetSort (TypeSort j) (TypeSort l) h k = grind arith
below_through SetSort (TypeSort j) PropSort h k = k
below_through SetSort (TypeSort j) SetSort h k = grind arith
below_through SetSort PropSort c h k = grind arith
below_through (TypeSort i) (TypeSort j) (TypeSort l) h k = grind (arith, nat_tests)
below_through (TypeSort i) (TypeSort j) PropSort h k = k
below_through (TypeSort i) (TypeSort j) SetSort h k = k
below_through (TypeSort i) PropSort c h k = grind arith
below_through (TypeSort i) SetSort c h k = grind arith

pub below_total : (a b : Sort) → IsTrue (sort_below a b) ⊎ IsTrue (sort_below b a)
below_total PropSort b = inl refl
below_total SetSort PropSort = inr refl
below_total SetSort SetSort = inl refl
below_total SetSort (TypeSort j) = inl refl
below_total (TypeSort i) PropSort = inr refl
below_total (TypeSort i) SetSort = inr refl
below_total (TypeSort i) (TypeSort j) = grind (arith, nat_tests)

-- the greater of two sorts is above both
above_left : (a b : Sort) → IsTrue (sort_below a (greater_sort a b))
above_left PropSort b = grind arith
above_left SetSort PropSort = grind arith
above_left SetSort SetSort = grind arith
above_left SetSort (TypeSort j) = grind arith
above_left (TypeSort i) PropSort = grind (arith, nat_tests)
above_left (TypeSort i) SetSort = grind (arith, nat_tests)
above_left (TypeSort i) (TypeSort j) = grind (arith, nat_tests)

above_right : (a b : Sort) → IsTrue (sort_below b (greater_sort a b))
above_right PropSort b = below_itself b
above_right SetSort PropSort = grind arith
above_right SetSort SetSort = grind arith
above_right SetSort (TypeSort j) = grind (arith, nat_tests)
above_right (TypeSort i) PropSort = grind (arith, nat_tests)
above_right (TypeSort i) SetSort = grind (arith, nat_tests)
above_right (TypeSort i) (TypeSort j) = grind (arith, nat_tests)

-- and below each sort that is above both
below_above : (a b c : Sort) → IsTrue (sort_below a c) → IsTrue (sort_below b c) → IsTrue (sort_below (greater_sort a b) c)
below_above a b c h k = grind arith

greater_monotone : (a b c d : Sort) → IsTrue (sort_below a c) → IsTrue (sort_below b d) →
    IsTrue (sort_below (greater_sort a b) (greater_sort c d))
greater_monotone a b c d h k =
    below_above a b (greater_sort c d)
    (below_through a c (greater_sort c d) h (above_left c d))
    (below_through b d (greater_sort c d) k (above_right c d))

pub product_monotone : ProductIsMonotone
product_monotone a PropSort c d h k = grind arith
product_monotone a SetSort c PropSort h k = grind arith
product_monotone a SetSort c SetSort h k = greater_monotone a SetSort c SetSort h k
product_monotone a SetSort c (TypeSort j) h k = greater_monotone a SetSort c (TypeSort j) h k
product_monotone a (TypeSort i) c PropSort h k = grind arith
product_monotone a (TypeSort i) c SetSort h k = greater_monotone a (TypeSort i) c SetSort h k
product_monotone a (TypeSort i) c (TypeSort j) h k = greater_monotone a (TypeSort i) c (TypeSort j) h k

pub product_level : ProductKeepsLevels
product_level a PropSort of_a of_b = tt
product_level PropSort SetSort of_a of_b = tt
product_level SetSort SetSort of_a of_b = tt
product_level (TypeSort i) SetSort of_a of_b = of_a
product_level PropSort (TypeSort j) of_a of_b = of_b
product_level SetSort (TypeSort j) of_a of_b = of_b
product_level (TypeSort i) (TypeSort j) of_a of_b = grind (arith, nat_tests)
