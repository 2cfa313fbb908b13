-- Commands: their tokens, which trees are commands, and their faults.
use Rattle.std.specs.Prelude.{◌≡◌, ℕ, Option, None, Some, List, [], ◌∷◌, codes}
use Rattle.coq_syntax.specs.declared.token.Token.{Token}
use Rattle.coq_syntax.specs.declared.words.TokenPlace.{TokenPlace}
use Rattle.coq_syntax.specs.declared.command.AssumptionWord.{AssumptionWord}
use Rattle.coq_syntax.specs.declared.command.AssumptionWord.TheVariants.{Axiom, Parameter}
use Rattle.coq_syntax.specs.declared.command.StatementWord.{StatementWord}
use Rattle.coq_syntax.specs.declared.command.StatementWord.TheVariants.{Theorem, Lemma}
use Rattle.coq_syntax.specs.declared.command_words.CommandWord.TheVariants as word
use Rattle.coq_syntax.specs.CommandWords.{word_text}
use Rattle.coq_syntax.specs.CommandTrees.{Constructor, Command, Assume, Define, State, Inductive, Check, Proof, Qed, Defined, Admitted, Aborted}
use Rattle.coq_syntax.specs.Spelled.{symbol, keyword, identifier, spells, groups, annotation}
use Rattle.coq_syntax.specs.Grammar.{IsTerm, AreGroups, IsAnnotation}
use Rattle.coq_syntax.specs.Limits.{most_nested}
use Rattle.coq_syntax.specs.Faults.{Fault, first, groups_fault, annotation_fault, term_fault}

abbrev pub assumption_word : AssumptionWord → List ℕ
assumption_word Axiom = word_text word.Axiom
assumption_word Parameter = word_text word.Parameter

abbrev pub statement_word : StatementWord → List ℕ
statement_word Theorem = word_text word.Theorem
statement_word Lemma = word_text word.Lemma

-- ["|"]
abbrev pub bar : Option TokenPlace → List Token → List Token
bar None rest = rest
bar (Some place) rest = symbol (codes "|") place ∷ rest

-- ctor = identifier {group} [":" term], behind its bar
abbrev pub constructor : Constructor → List Token → List Token
constructor c rest = bar c.bar (identifier c.name ∷ groups c.groups (annotation c.annotation rest))

abbrev pub constructors : List Constructor → List Token → List Token
constructors [] rest = rest
constructors (c ∷ cs) rest = constructor c (constructors cs rest)

-- the tokens of a command; the final period of its sentence is none of them
abbrev pub command_tokens : Command → List Token
-- `Axiom` or `Parameter`, name `:` term
command_tokens (Assume w p x q t) = keyword (assumption_word w) p ∷ identifier x ∷ symbol (codes ":") q ∷ spells t []
-- `Definition` name groups annotation `:=` term
command_tokens (Define p x gs a q t) = keyword (word_text word.Definition) p ∷ identifier x ∷ groups gs (annotation a (symbol (codes ":=") q ∷ spells t []))
-- `Theorem` or `Lemma`, name groups `:` term
command_tokens (State w p x gs q t) = keyword (statement_word w) p ∷ identifier x ∷ groups gs (symbol (codes ":") q ∷ spells t [])
-- `Inductive` name groups `:` term `:=` constructors
command_tokens (Inductive p x gs q t r cs) = keyword (word_text word.Inductive) p ∷ identifier x ∷ groups gs (symbol (codes ":") q ∷ spells t (symbol (codes ":=") r ∷ constructors cs []))
-- `Check` term
command_tokens (Check p t) = keyword (word_text word.Check) p ∷ spells t []
-- each of these words alone
command_tokens (Proof p) = keyword (word_text word.Proof) p ∷ []
command_tokens (Qed p) = keyword (word_text word.Qed) p ∷ []
command_tokens (Defined p) = keyword (word_text word.Defined) p ∷ []
command_tokens (Admitted p) = keyword (word_text word.Admitted) p ∷ []
command_tokens (Aborted p) = keyword (word_text word.Abort) p ∷ []

abbrev pub IsConstructor : Constructor → Type 0
IsConstructor c = AreGroups c.groups × IsAnnotation c.annotation

-- a bar is written
abbrev pub IsBarred : Option TokenPlace → Type 0
IsBarred None = ⊥
IsBarred (Some place) = Unit {0}

-- {"|" ctor}
abbrev pub AreBarred : List Constructor → Type 0
AreBarred [] = Unit {0}
AreBarred (c ∷ cs) = IsBarred c.bar × IsConstructor c × AreBarred cs

-- [["|"] ctor {"|" ctor}]
abbrev pub AreConstructors : List Constructor → Type 0
AreConstructors [] = Unit {0}
AreConstructors (c ∷ cs) = IsConstructor c × AreBarred cs

-- the tree is a command
abbrev pub IsCommand : Command → Type 0
-- any term
IsCommand (Assume w p x q t) = IsTerm t
-- any groups, with an annotation or none, any term
IsCommand (Define p x gs a q t) = AreGroups gs × IsAnnotation a × IsTerm t
-- any groups, any term
IsCommand (State w p x gs q t) = AreGroups gs × IsTerm t
-- any groups, any term, constructors of which only the first may lack its bar
IsCommand (Inductive p x gs q t r cs) = AreGroups gs × IsTerm t × AreConstructors cs
-- any term
IsCommand (Check p t) = IsTerm t
-- a word alone
IsCommand (Proof p) = Unit {0}
IsCommand (Qed p) = Unit {0}
IsCommand (Defined p) = Unit {0}
IsCommand (Admitted p) = Unit {0}
IsCommand (Aborted p) = Unit {0}

-- the tokens have this command
abbrev pub IsCommandOf : List Token → Command → Type 0
IsCommandOf tokens c = IsCommand c × (command_tokens c ≡ tokens)

abbrev pub constructors_fault : List Constructor → Option Fault
-- no constructor more
constructors_fault [] = None
-- in its groups, then in its annotation, then in the constructors behind it
constructors_fault (c ∷ cs) =
    first (groups_fault c.groups most_nested (annotation c.annotation (constructors cs [])))
    (first (annotation_fault c.annotation most_nested (constructors cs [])) (constructors_fault cs))

-- the first fault of a command: each of its terms stands by itself, and so does the term of each group and annotation
abbrev pub command_fault : Command → Option Fault
-- in the type
command_fault (Assume w p x q t) = term_fault t []
-- in the groups, then in the annotation, then in the body
command_fault (Define p x gs a q t) =
    first (groups_fault gs most_nested (annotation a (symbol (codes ":=") q ∷ spells t [])))
    (first (annotation_fault a most_nested (symbol (codes ":=") q ∷ spells t [])) (term_fault t []))
-- in the groups, then in the statement
command_fault (State w p x gs q t) = first (groups_fault gs most_nested (symbol (codes ":") q ∷ spells t [])) (term_fault t [])
-- in the groups, then in the arity, then in the constructors
command_fault (Inductive p x gs q t r cs) =
    first (groups_fault gs most_nested (symbol (codes ":") q ∷ spells t (symbol (codes ":=") r ∷ constructors cs [])))
    (first (term_fault t (symbol (codes ":=") r ∷ constructors cs [])) (constructors_fault cs))
-- in the term
command_fault (Check p t) = term_fault t []
-- no term is written
command_fault (Proof p) = None
command_fault (Qed p) = None
command_fault (Defined p) = None
command_fault (Admitted p) = None
command_fault (Aborted p) = None
