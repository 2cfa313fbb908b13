-- A term with holes is stored as a tree of its shape, and the list of what stands at its holes.
use Rattle.std.specs.Prelude.{◌≡◌, List, [], ◌∷◌, ◌++◌, refl}
use Rattle.std.proofs.Common.{◌∙◌, ap, sym, append_assoc, append-nil}
use Rattle.std.specs.Coded.{Coded, code_by, coded×, coded_list}
use Rattle.core_term.specs.Tree.{Tree, Var, Sorted, Constant, Prod, Lam, LetIn, App}
use Rattle.core_term.specs.TreeCode.{tree_code}
use Rattle.proof_state.specs.Partial.{Partial, Ready, Hole, Abstracts, Defines, Applies, holes}

module _ {H : Type 0} where
  -- a product stands for a term that is ready, and a variable for a hole
  abbrev pub shape : Partial H → Tree
  shape (Ready t) = Prod [] t (Var 0)
  shape (Hole h) = Var 0
  shape (Abstracts n a p) = Lam n a (shape p)
  shape (Defines n a t p) = LetIn n a t (shape p)
  shape (Applies f a) = App (shape f) (shape a)

  -- the term of a shape, and what is left of the list
  abbrev pub read : Tree → List H → Partial H × List H
  read (Prod _ t _) hs = (Ready t, hs)
  read (Var _) [] = (Ready (Var 0), [])
  read (Var _) (h ∷ hs) = (Hole h, hs)
  read (Lam n a b) hs = (Abstracts n a (read b hs).0, (read b hs).1)
  read (LetIn n a t b) hs = (Defines n a t (read b hs).0, (read b hs).1)
  read (App f a) hs = (Applies (read f hs).0 (read a (read f hs).1).0, (read a (read f hs).1).1)
  read (Sorted _) hs = (Ready (Var 0), hs)
  read (Constant _) hs = (Ready (Var 0), hs)

  pub read-shape : (p : Partial H) (rest : List H) → read (shape p) (holes p ++ rest) ≡ (p, rest)
  read-shape (Ready t) rest = refl
  read-shape (Hole h) rest = refl
  read-shape (Abstracts n a p) rest = ap (λ (r : Partial H × List H). (Abstracts n a r.0, r.1)) (read-shape p rest)
  read-shape (Defines n a t p) rest = ap (λ (r : Partial H × List H). (Defines n a t r.0, r.1)) (read-shape p rest)
  read-shape (Applies f a) rest =
      ap (λ (hs : List H). read (shape (Applies f a)) hs) (append_assoc (holes f) (holes a) rest)
      ∙ ap (λ (r : Partial H × List H). (Applies r.0 (read (shape a) r.1).0, (read (shape a) r.1).1)) (read-shape f (holes a ++ rest))
      ∙ ap (λ (r : Partial H × List H). (Applies f r.0, r.1)) (read-shape a rest)

  pub read_all : (p : Partial H) → (read (shape p) (holes p)).0 ≡ p
  read_all p =
      ap (λ (hs : List H). (read (shape p) hs).0) (sym (append-nil (holes p))) ∙ ap (λ (r : Partial H × List H). r.0) (read-shape p [])

  abbrev pub partial_code : Coded H → Coded (Partial H)
  partial_code c =
      code_by (Tree × List H) (coded× tree_code (coded_list c)) (λ p. (shape p, holes p)) (λ q. (read q.0 q.1).0) read_all
