use Rattle.std.specs.Prelude.{◌≡◌, ◌⊎◌, IsTrue}
use Rattle.core_term.specs.declared.sorts.Sort.{Sort}
use Rattle.core_term.specs.Sorts.{sort_below, sort_of_product, IsSort}

-- the order of sorts is reflexive, antisymmetric, transitive and total
pub record IsSortOrder : Type 0 where
  pub reflexive : (a : Sort) → IsTrue (sort_below a a)
  pub antisymmetric : (a b : Sort) → IsTrue (sort_below a b) → IsTrue (sort_below b a) → a ≡ b
  pub transitive : (a b c : Sort) → IsTrue (sort_below a b) → IsTrue (sort_below b c) → IsTrue (sort_below a c)
  pub total : (a b : Sort) → IsTrue (sort_below a b) ⊎ IsTrue (sort_below b a)

-- greater sorts of the parts give no smaller sort of the product
abbrev pub ProductIsMonotone : Type 0
ProductIsMonotone =
    (a b c d : Sort) → IsTrue (sort_below a c) → IsTrue (sort_below b d) → IsTrue (sort_below (sort_of_product a b) (sort_of_product c d))

-- the sort of a product has a level in range where those of its parts have
abbrev pub ProductKeepsLevels : Type 0
ProductKeepsLevels = (a b : Sort) → IsSort a → IsSort b → IsSort (sort_of_product a b)
