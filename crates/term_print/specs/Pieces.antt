-- Written terms with their levels, and where they stand in parentheses.
use Rattle.std.specs.Prelude.{bytes_eq, ℕ, ◌==◌, nat_lt, List, [], ◌∷◌, ◌++◌, codes, decimal, Bool, if◌then◌else◌}
use Rattle.core_term.specs.declared.sorts.Sort.{Sort}
use Rattle.core_term.specs.declared.sorts.Sort.TheVariants.{PropSort, SetSort, TypeSort}

-- a written term: how loosely it holds together, its text, and for a product or a function what it adds to a run of its kind that came
-- before: its binder as one more, and all that follows
pub record Piece : Type 0 where
  pub level : ℕ
  pub text : List ℕ
  pub in_run : List ℕ

abbrev pub piece : ℕ → List ℕ → Piece
piece level text = record { level = level; text = text; in_run = [] }

-- the text in a place that allows no level above this one
abbrev pub at_most : ℕ → Piece → List ℕ
at_most most p = if nat_lt most p.level then codes "(" ++ (p.text ++ codes ")") else p.text

abbrev pub sort_text : Sort → List ℕ
sort_text PropSort = codes "Prop"
sort_text SetSort = codes "Set"
sort_text (TypeSort i) = if i == 1 then codes "Type" else codes "Type@{" ++ (decimal i ++ codes "}")

-- arguments, each behind a blank
abbrev pub argument_texts : List Piece → List ℕ
argument_texts [] = []
argument_texts (a ∷ more) = codes " " ++ (at_most 9 a ++ argument_texts more)

-- a written term applied to arguments
abbrev pub applied : Piece → List Piece → Piece
applied f [] = f
applied f (a ∷ more) = piece 10 (at_most 10 f ++ argument_texts (a ∷ more))

-- an operator with its level, the levels that its sides allow, and its sign between blanks
abbrev pub infix_piece : ℕ → ℕ → ℕ → List ℕ → Piece → Piece → Piece
infix_piece level left right sign a b = piece level (at_most left a ++ (sign ++ at_most right b))

abbrev pub conjunction : Piece → Piece → Piece
conjunction a b = infix_piece 80 79 80 (codes " /\\ ") a b

abbrev pub disjunction : Piece → Piece → Piece
disjunction a b = infix_piece 85 84 85 (codes " \\/ ") a b

abbrev pub equation : Piece → Piece → Piece
equation a b = infix_piece 70 69 69 (codes " = ") a b

abbrev pub negation : Piece → Piece
negation a = piece 75 (codes "~ " ++ at_most 75 a)

abbrev pub arrow : Piece → Piece → Piece
arrow a b = infix_piece 99 98 200 (codes " -> ") a b

-- a global of this name with arguments: an operator where it has exactly the operator's arguments. The type of an equation isn't written
abbrev pub operation : List ℕ → List Piece → Piece
operation name (a ∷ []) = if bytes_eq name (codes "not") then negation a else applied (piece 0 name) (a ∷ [])
operation name (a ∷ b ∷ []) =
    if bytes_eq name (codes "and") then conjunction a b
    else (if bytes_eq name (codes "or") then disjunction a b else applied (piece 0 name) (a ∷ b ∷ []))
operation name (ty ∷ a ∷ b ∷ []) = if bytes_eq name (codes "eq") then equation a b else applied (piece 0 name) (ty ∷ a ∷ b ∷ [])
operation name arguments = applied (piece 0 name) arguments

-- a name with its type
abbrev pub binding : List ℕ → Piece → List ℕ
binding name ty = name ++ (codes " : " ++ at_most 200 ty)

abbrev pub group : List ℕ → Piece → List ℕ
group name ty = codes "(" ++ (binding name ty ++ codes ")")

-- what follows a binder of a run: the next one, or a sign and the body
abbrev pub rest_of_run : Bool → List ℕ → Piece → List ℕ
rest_of_run goes_on sign body = if goes_on then body.in_run else sign ++ at_most 200 body

-- the first binder of a run: in parentheses where others follow
abbrev pub first_binder : Bool → List ℕ → Piece → List ℕ
first_binder goes_on name ty = if goes_on then group name ty else binding name ty

-- a binder over a body, alone or in a run, where it is told whether the body goes on with it
abbrev pub bound_piece : List ℕ → List ℕ → Bool → List ℕ → Piece → Piece → Piece
bound_piece word sign goes_on name ty body = record {
  level = 200;
  text = word ++ (first_binder goes_on name ty ++ rest_of_run goes_on sign body);
  in_run = codes " " ++ (group name ty ++ rest_of_run goes_on sign body);
}

abbrev pub quantified : Bool → List ℕ → Piece → Piece → Piece
quantified goes_on name ty body = bound_piece (codes "forall ") (codes ", ") goes_on name ty body

abbrev pub function : Bool → List ℕ → Piece → Piece → Piece
function goes_on name ty body = bound_piece (codes "fun ") (codes " => ") goes_on name ty body

abbrev pub definition : List ℕ → Piece → Piece → Piece → Piece
definition name ty value body =
    piece 200 (codes "let " ++ (binding name ty ++ (codes " := " ++ (at_most 200 value ++ (codes " in " ++ at_most 200 body)))))
