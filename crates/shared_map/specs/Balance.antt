-- What a node of a shared list is seen as, and when its two sides balance each other.
use Rattle.std.specs.Prelude.{◌≡◌, ℕ, ◌+◌, ◌*◌, ◌^◌, ◌≤◌, List, [], ◌∷◌, ◌++◌, length}
use Rattle.shared_map.specs.declared.list.Node.{Node}
use Rattle.shared_map.specs.declared.list.Node.TheVariants.{Leaf, Fork}

-- the items in order
abbrev pub items_of : {T : Type 0} → Node T → List T
items_of Leaf = []
items_of (Fork branch) = branch.value.left ++ (branch.value.item.value ∷ branch.value.right)

-- neither side has more than three times the weight of the other, which is one more than its length
abbrev pub AreBalanced : ℕ → ℕ → Type 0
AreBalanced l r = (l + 1 ≤ 3 * (r + 1)) × (r + 1 ≤ 3 * (l + 1))

-- they do, or would if the longer side had one item less
abbrev pub AreNearlyBalanced : ℕ → ℕ → Type 0
AreNearlyBalanced l r = (l ≤ 3 * (r + 1)) × (r ≤ 3 * (l + 1))

-- the first side has just one item too many
abbrev pub LeansLeft : ℕ → ℕ → Type 0
LeansLeft l r = l ≡ 3 * (r + 1)

-- the length that is kept is right, and the sides balance each other
abbrev pub IsBalanced : {T : Type 0} → Node T → Type 0
IsBalanced Leaf = Unit {0}
IsBalanced (Fork branch) = (branch.value.len ≡ length branch.value.left + length branch.value.right + 1) × (branch.value.len ≤ 2 ^ 60) × AreBalanced (length branch.value.left) (length branch.value.right)
