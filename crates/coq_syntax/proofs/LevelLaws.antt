-- A tree without a fault has levels.
use Rattle.std.proofs.Common.{◌≡◌, ℕ, zero, suc, ◌==◌, ◌≤◌, ◌||◌, nat_lt, eqb, ltb, Bool, true, false, cond, Option, None, Some, List, [], ◌∷◌, codes, refl, sym, ◌∙◌, ap, arith}
use Rattle.std.proofs.lemmas.Bool.Decides.{nat_tests}
use Rattle.coq_syntax.specs.declared.token.Token.{Token}
use Rattle.coq_syntax.specs.declared.words.Word.{Word}
use Rattle.coq_syntax.specs.Trees.{Term, Forall, Fun, Let, Arrow, Or, And, Not, Equal, Apply, Name, PropSort, SetSort, TypeSort, TypeAt, Numeral, Parenthesized, Binders, Names, Groups, GroupList, NoGroup, Group, Annotation, Untyped, Typed, Arguments, NoArgument, Positional, Given}
use Rattle.coq_syntax.specs.CommandTrees.{Constructor, Command, Assume, Define, State, Inductive, Check, Proof, Qed, Defined, Admitted, Aborted}
use Rattle.coq_syntax.specs.MoveTrees.{Move, Intro, Intros, Exact, Apply as ApplyMove, Assumption, Split, Left, Right, Reflexivity, Admit, Simpl, Unfold, Destruct, Induction, Rewrite}
use Rattle.coq_syntax.specs.Limits.{open_level, most_nested, greatest_level, no_level}
use Rattle.coq_syntax.specs.Grammar.{level}
use Rattle.coq_syntax.specs.Spelled.{number, symbol, spells}
use Rattle.coq_syntax.specs.Faults.{Fault, first, nested, value_of, fault, binders_fault, groups_fault, annotation_fault, arguments_fault, term_fault}
use Rattle.coq_syntax.specs.Commands.{constructors_fault, command_fault}
use Rattle.coq_syntax.specs.Moves.{move_fault}
use Rattle.coq_syntax.specs.Levels.{IsLevel, HasLevels, BindersHaveLevels, GroupsHaveLevels, AnnotationHasLevels, ArgumentsHaveLevels, ConstructorsHaveLevels, CommandHasLevels, MoveHasLevels}

-- of two faults there is none
both : (a b : Option Fault) → first a b ≡ None → (a ≡ None) × (b ≡ None)
both None b e = (refl, e)
both (Some f) b e = absurd (cc)

-- a rule that nests
deeper : {P : Type 0} (n : ℕ) (inside : ℕ → Option Fault) (start : List Token) → ((m : ℕ) → inside m ≡ None → P) → nested n inside start ≡ None → P
deeper zero inside start h e = absurd (cc)
deeper (suc n) inside start h e = h n e

-- an operand, which nests unless it is an open form
operand : {P : Type 0} (b : Bool) (n : ℕ) (here : Option Fault) (inside : ℕ → Option Fault) (start : List Token)
    → (here ≡ None → P) → ((m : ℕ) → inside m ≡ None → P) → cond b here (nested n inside start) ≡ None → P
operand true n here inside start f g e = f e
operand false n here inside start f g e = deeper n inside start g e

level_by : (b : Bool) (w : Word) (f : Fault) → (eqb (value_of w) 0 || nat_lt greatest_level (value_of w)) ≡ b → ◌≡◌ {A = Option Fault} (cond b (Some f) None) None → IsLevel w
level_by true w f t e = absurd (cc)
level_by false w f t e = record { least = grind (arith, nat_tests); most = grind (arith, nat_tests) }

mutual
  pub has_levels : (t : Term) (n : ℕ) (rest : List Token) → fault t n rest ≡ None → HasLevels t
  has_levels (Forall p bs q b) n rest e = let h = both _ _ e in (binders_levels bs n _ h.0, deeper n _ _ (λ m k. has_levels b m rest k) h.1)
  has_levels (Fun p bs q b) n rest e = let h = both _ _ e in (binders_levels bs n _ h.0, deeper n _ _ (λ m k. has_levels b m rest k) h.1)
  has_levels (Let p x a q v r b) n rest e =
      let h = both _ _ e in
      let k = both _ _ h.1 in
      (annotation_levels a n _ h.0, deeper n _ _ (λ m j. has_levels v m _ j) k.0, deeper n _ _ (λ m j. has_levels b m rest j) k.1)
  has_levels (Arrow a p b) n rest e = let h = both _ _ e in (has_levels a n _ h.0, deeper n _ _ (λ m k. has_levels b m rest k) h.1)
  has_levels (Or a p b) n rest e = let h = both _ _ e in (has_levels a n _ h.0, operand (level b == open_level) n _ _ _ (λ k. has_levels b n rest k) (λ m k. has_levels b m rest k) h.1)
  has_levels (And a p b) n rest e = let h = both _ _ e in (has_levels a n _ h.0, operand (level b == open_level) n _ _ _ (λ k. has_levels b n rest k) (λ m k. has_levels b m rest k) h.1)
  has_levels (Not p a) n rest e = operand (level a == open_level) n _ _ _ (λ k. has_levels a n rest k) (λ m k. has_levels a m rest k) e
  has_levels (Equal a p b) n rest e = let h = both _ _ e in (has_levels a n _ h.0, has_levels b n rest h.1)
  has_levels (Apply f args) n rest e = let h = both _ _ e in (has_levels f n _ h.0, arguments_levels args n rest h.1)
  has_levels (Name w) n rest e = tt
  has_levels (PropSort p) n rest e = tt
  has_levels (SetSort p) n rest e = tt
  has_levels (TypeSort p) n rest e = tt
  has_levels (TypeAt p q r w s) n rest e = level_by (eqb (value_of w) 0 || nat_lt greatest_level (value_of w)) w _ refl e
  has_levels (Numeral w) n rest e = tt
  has_levels (Parenthesized p t q) n rest e = deeper n _ _ (λ m k. has_levels t m _ k) e

  pub binders_levels : (bs : Binders) (n : ℕ) (rest : List Token) → binders_fault bs n rest ≡ None → BindersHaveLevels bs
  binders_levels (Names ns p t) n rest e = deeper n _ _ (λ m k. has_levels t m rest k) e
  binders_levels (Groups gs) n rest e = groups_levels gs n rest e

  pub groups_levels : (gs : GroupList) (n : ℕ) (rest : List Token) → groups_fault gs n rest ≡ None → GroupsHaveLevels gs
  groups_levels NoGroup n rest e = tt
  groups_levels (Group p ns q t r after) n rest e = let h = both _ _ e in (deeper n _ _ (λ m k. has_levels t m _ k) h.0, groups_levels after n rest h.1)

  pub annotation_levels : (a : Annotation) (n : ℕ) (rest : List Token) → annotation_fault a n rest ≡ None → AnnotationHasLevels a
  annotation_levels Untyped n rest e = tt
  annotation_levels (Typed p t) n rest e = deeper n _ _ (λ m k. has_levels t m rest k) e

  pub arguments_levels : (args : Arguments) (n : ℕ) (rest : List Token) → arguments_fault args n rest ≡ None → ArgumentsHaveLevels args
  arguments_levels NoArgument n rest e = tt
  arguments_levels (Positional t after) n rest e = let h = both _ _ e in (has_levels t n _ h.0, arguments_levels after n rest h.1)
  arguments_levels (Given p w q t r after) n rest e = let h = both _ _ e in (deeper n _ _ (λ m k. has_levels t m _ k) h.0, arguments_levels after n rest h.1)

pub term_levels : (t : Term) (rest : List Token) → term_fault t rest ≡ None → HasLevels t
term_levels t rest e = deeper most_nested (λ n. fault t n rest) (spells t rest) (λ m k. has_levels t m rest k) e

constructors_levels : (cs : List Constructor) → constructors_fault cs ≡ None → ConstructorsHaveLevels cs
constructors_levels [] e = tt
constructors_levels (c ∷ cs) e =
    let h = both _ _ e in
    let k = both _ _ h.1 in
    (groups_levels c.groups most_nested _ h.0, annotation_levels c.annotation most_nested _ k.0, constructors_levels cs k.1)

pub command_levels : (c : Command) → command_fault c ≡ None → CommandHasLevels c
command_levels (Assume w p x q t) e = term_levels t [] e
command_levels (Define p x gs a q t) e =
    let h = both _ _ e in
    let k = both _ _ h.1 in
    (groups_levels gs most_nested _ h.0, annotation_levels a most_nested _ k.0, term_levels t [] k.1)
command_levels (State w p x gs q t) e = let h = both _ _ e in (groups_levels gs most_nested _ h.0, term_levels t [] h.1)
command_levels (Inductive p x gs q t r cs) e =
    let h = both _ _ e in
    let k = both _ _ h.1 in
    (groups_levels gs most_nested _ h.0, term_levels t _ k.0, constructors_levels cs k.1)
command_levels (Check p t) e = term_levels t [] e
command_levels (Proof p) e = tt
command_levels (Qed p) e = tt
command_levels (Defined p) e = tt
command_levels (Admitted p) e = tt
command_levels (Aborted p) e = tt

pub move_levels : (m : Move) → move_fault m ≡ None → MoveHasLevels m
move_levels (Exact p t) e = term_levels t [] e
move_levels (ApplyMove p t) e = term_levels t [] e
move_levels (Rewrite p d t) e = term_levels t [] e
move_levels _ e = tt
