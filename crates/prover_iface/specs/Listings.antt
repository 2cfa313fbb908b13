-- How the axioms of a declaration are listed behind its statement.
use Rattle.std.specs.Prelude.{ℕ, Bool, true, false, List, [], ◌∷◌, ◌++◌, codes, if◌then◌else◌}
use Rattle.prover_iface.specs.declared.outline.ItemKind.{ItemKind}
use Rattle.prover_iface.specs.declared.outline.ItemKind.TheVariants.{Axiom, Definition, Inductive, Theorem, Admitted}
use Rattle.prover_iface.specs.declared.outline.OutlineItem.{OutlineItem}

-- the axioms of a definition or theorem are listed
abbrev pub lists_axioms : ItemKind → Bool
lists_axioms Axiom = false
lists_axioms Definition = true
lists_axioms Inductive = false
lists_axioms Theorem = true
lists_axioms Admitted = false

-- each name with a blank before it
abbrev pub spaced : List (List ℕ) → List ℕ
spaced [] = []
spaced (name ∷ names) = codes " " ++ (name ++ spaced names)

-- ` [` the names, separated by one blank, `]`; nothing where there is none
abbrev pub bracket : List (List ℕ) → List ℕ
bracket [] = []
bracket (name ∷ names) = codes " [" ++ (name ++ (spaced names ++ codes "]"))

abbrev pub listed_axioms : OutlineItem → List ℕ
listed_axioms item = if lists_axioms item.kind then bracket item.axioms else []
