-- The prelude: what is declared before a document's first sentence.
use Rattle.std.specs.Prelude.{ℕ, List, [], ◌∷◌, ◌++◌, codes}

-- lines, each with its end
abbrev pub lines : List (List ℕ) → List ℕ
lines [] = []
lines (l ∷ ls) = l ++ (10 ∷ lines ls)

unfoldable pub prelude : List ℕ
prelude = lines (
    codes "Inductive False : Prop := ."
    ∷ codes "Inductive True : Prop := I : True."
    ∷ codes "Inductive and (A B : Prop) : Prop := conj : A -> B -> and A B."
    ∷ codes "Inductive or (A B : Prop) : Prop := or_introl : A -> or A B | or_intror : B -> or A B."
    ∷ codes "Definition not (A : Prop) : Prop := A -> False."
    ∷ codes "Inductive eq (A : Type) (x : A) : A -> Prop := eq_refl : eq A x x."
    ∷ codes "Inductive ex (A : Type) (P : A -> Prop) : Prop := ex_intro : forall x : A, P x -> ex A P."
    ∷ codes "Inductive bool : Set := true : bool | false : bool."
    ∷ codes "Inductive nat : Set := O : nat | S : nat -> nat."
    ∷ codes "Definition plus (n m : nat) : nat := nat_rec (fun _ : nat => nat) m (fun _ r : nat => S r) n."
    ∷ [])
