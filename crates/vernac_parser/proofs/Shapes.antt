-- What each rule of the grammar reads, and the shortest trees that finish one.
use Rattle.std.proofs.Common.{◌≡◌, ℕ, ◌==◌, ◌≤◌, ◌⊎◌, false, cond, None, List, ◌∷◌, codes}
use Rattle.coq_syntax.specs.declared.token.Token.{Token}
use Rattle.coq_syntax.specs.declared.words.TokenPlace.{TokenPlace}
use Rattle.coq_syntax.specs.declared.words.Word.{Word}
use Rattle.coq_syntax.specs.declared.words.BoundName.{BoundName}
use Rattle.coq_syntax.specs.Trees.{Term, Name, Binders, GroupList, NoGroup, Annotation, Arguments, NoArgument}
use Rattle.coq_syntax.specs.Spelled.{identifier, name, names, spells, binders, groups, annotation, arguments}
use Rattle.coq_syntax.specs.Limits.{open_level}
use Rattle.coq_syntax.specs.Grammar.{level, IsTerm, IsClosed, IsRight, HasNames, AreBinders, AreGroups, IsAnnotation, AreArguments}
use Rattle.coq_syntax.specs.Faults.{nested, fault, binders_fault, groups_fault, annotation_fault, arguments_fault}
use Rattle.vernac_parser.specs.declared.sign.Sign.TheVariants as sign
use Rattle.vernac_parser.specs.Signs.{is_sign, sign_at}
use Rattle.vernac_parser.specs.Parse.{Rule, Whole, Right85, Right80, Right75, Argument, OneGroup, with_argument, with_group}
use Rattle.vernac_parser.specs.declared.sign.Sign.{Sign}
use Rattle.vernac_parser.proofs.Viable.{Shape}

-- what finishes a rule: `x` at no place
abbrev pub spare : TokenPlace
spare = record { from = 0; to = 0 }

abbrev pub x_word : Word
x_word = record { text = codes "x"; place = spare }

abbrev pub x_term : Term
x_term = Name x_word

abbrev pub x_token : Token
x_token = identifier x_word

-- no operator of these follows
abbrev pub No : Sign → List Token → Type 0
No s rest = is_sign (sign_at rest) s ≡ false

abbrev pub Ends : List Token → Type 0
Ends rest = No sign.And rest × No sign.Or rest × No sign.Arrow rest

abbrev pub ClosedOrEnds : Term → List Token → Type 0
ClosedOrEnds t rest = IsClosed t ⊎ Ends rest

-- what may follow what a rule read
abbrev pub Behind : Rule → Term → List Token → Type 0
Behind Whole t rest = Ends rest
Behind Right85 t rest = No sign.And rest × No sign.Or rest × ClosedOrEnds t rest
Behind Right80 t rest = No sign.And rest × ClosedOrEnds t rest
Behind Right75 t rest = ClosedOrEnds t rest

abbrev pub most : Rule → ℕ
most Whole = 200
most Right85 = 85
most Right80 = 80
most Right75 = 75

-- terms of at most a level, of which an operator may follow each
abbrev pub Tight : ℕ → ℕ → Shape Term
Tight k n = record { good = λ t. IsTerm t × (level t ≤ k); tokens = spells; fault = λ t tail. fault t n tail; follows = λ t rest. Unit {0} }

-- what a rule reads by itself, and one level down
abbrev pub By : Rule → ℕ → Shape Term
By rule n = record { good = λ t. IsTerm t × (level t ≤ most rule); tokens = spells; fault = λ t tail. fault t n tail; follows = Behind rule }

abbrev pub Down : Rule → ℕ → Shape Term
Down rule n = record { good = λ t. IsTerm t × (level t ≤ most rule); tokens = spells; fault = λ t tail. nested n (λ m. fault t m tail) (spells t tail); follows = Behind rule }

-- open forms, and right operands
abbrev pub Open : ℕ → Shape Term
Open n = record { good = λ t. IsTerm t × (level t ≡ open_level); tokens = spells; fault = λ t tail. fault t n tail; follows = λ t rest. Ends rest }

abbrev pub Operand : Rule → ℕ → Shape Term
Operand rule n = record {
  good = λ t. IsTerm t × IsRight (most rule) t;
  tokens = spells;
  fault = λ t tail. cond (level t == open_level) (fault t n tail) (nested n (λ m. fault t m tail) (spells t tail));
  follows = Behind rule;
}

abbrev pub OneName : Shape BoundName
OneName = record { good = λ x. Unit {0}; tokens = λ x rest. name x ∷ rest; fault = λ x tail. None; follows = λ x rest. Unit {0} }

abbrev pub MoreNames : Shape (List BoundName)
MoreNames = record { good = λ ns. Unit {0}; tokens = names; fault = λ ns tail. None; follows = λ ns rest. Unit {0} }

abbrev pub SomeNames : Shape (List BoundName)
SomeNames = record { good = HasNames; tokens = names; fault = λ ns tail. None; follows = λ ns rest. Unit {0} }

abbrev pub one_argument : Argument → Arguments
one_argument a = with_argument a NoArgument

abbrev pub OneArgument : ℕ → Shape Argument
OneArgument n = record { good = λ a. AreArguments (one_argument a); tokens = λ a rest. arguments (one_argument a) rest; fault = λ a tail. arguments_fault (one_argument a) n tail; follows = λ a rest. Unit {0} }

abbrev pub MoreArguments : ℕ → Shape Arguments
MoreArguments n = record { good = AreArguments; tokens = arguments; fault = λ args tail. arguments_fault args n tail; follows = λ args rest. Unit {0} }

abbrev pub one_group : OneGroup → GroupList
one_group g = with_group g NoGroup

abbrev pub AGroup : ℕ → Shape OneGroup
AGroup n = record { good = λ g. AreGroups (one_group g); tokens = λ g rest. groups (one_group g) rest; fault = λ g tail. groups_fault (one_group g) n tail; follows = λ g rest. Unit {0} }

abbrev pub MoreGroups : ℕ → Shape GroupList
MoreGroups n = record { good = AreGroups; tokens = groups; fault = λ gs tail. groups_fault gs n tail; follows = λ gs rest. Unit {0} }

abbrev pub SomeBinders : ℕ → Shape Binders
SomeBinders n = record { good = AreBinders; tokens = binders; fault = λ bs tail. binders_fault bs n tail; follows = λ bs rest. Unit {0} }

abbrev pub AnAnnotation : ℕ → Shape Annotation
AnAnnotation n = record { good = IsAnnotation; tokens = annotation; fault = λ a tail. annotation_fault a n tail; follows = λ a rest. Unit {0} }
